-- A plan is a list of writes of one word each; carrying it out does them in order.
use Rattle.std.specs.Prelude.{◌≡◌, ℕ, zero, suc, ◌-◌, ◌^◌, ◌<◌, cond, List, [], ◌∷◌, ◌++◌, length, take, nat_le}
use Rattle.word.specs.Memory.{at, set, written}

-- set entry `index` of page `page` to `word`
pub record Write : Type 0 where
  pub page : ℕ
  pub index : ℕ
  pub word : ℕ

abbrev pub write : ℕ → ℕ → ℕ → Write
write p i w = record { page = p; index = i; word = w }

-- the window after the writes
unfoldable pub carried : List ℕ → ℕ → List Write → List ℕ
carried s origin [] = s
carried s origin (x ∷ xs) = carried (written s origin x.page x.index x.word) origin xs

-- the memory after the writes
unfoldable pub after : (ℕ → ℕ) → List Write → ℕ → ℕ
after m [] = m
after m (x ∷ xs) = after (set m (at x.page x.index) x.word) xs

-- the first n entries of page p cleared
unfoldable pub zeros : ℕ → ℕ → List Write
zeros p zero = []
zeros p (suc n) = zeros p n ++ (write p n 0 ∷ [])

-- Order ---------------------------------------------------------------------------------------------------------------------------

-- A BUDGET says how many writes may still be done, and so stops an operation after any of its writes: what is proved for every budget is
-- proved of the bytes at every moment. The largest number that the code has is no budget: all writes are done.
abbrev pub endless : ℕ
endless = 18446744073709551615

-- the writes that are done where so many are left
unfoldable pub up_to : ℕ → List Write → List Write
up_to left xs = cond (nat_le endless left) xs (take left xs)

-- how many are left after them
unfoldable pub rest_of : ℕ → List Write → ℕ
rest_of left xs = cond (nat_le endless left) left (left - length xs)

-- THE WRITES WERE DONE IN THIS ORDER, so many as were left: from the window s to the window t
pub record Wrote (origin : ℕ) (xs : List Write) (left rest : ℕ) (s t : List ℕ) : Type 0 where
  pub bytes : t ≡ carried s origin (up_to left xs)
  pub count : rest ≡ rest_of left xs

-- a write of a word to an entry of a page that Q holds of
pub record Proper (Q : ℕ → Type 0) (x : Write) : Type 0 where
  pub in_page : Q x.page
  pub in_index : x.index < 512
  pub in_word : x.word < 2 ^ 64

-- all writes of a list are such
pub data Every (Q : ℕ → Type 0) : List Write → Type 0 where
  none : Every Q []
  more : {x : Write} {xs : List Write} → Proper Q x → Every Q xs → Every Q (x ∷ xs)
