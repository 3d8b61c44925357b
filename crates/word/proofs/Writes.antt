-- Laws of plans: as memory, the window after the writes is the memory after the writes; and which pages they leave alone.
use Rattle.std.proofs.Common.{◌≡◌, ℕ, zero, suc, ◌/◌, ◌^◌, ◌<◌, ◌≤◌, Bool, true, ◌≢◌, List, [], ◌∷◌, ◌++◌, length, take, sym, refl, ap, ◌∙◌, arith}
use native.Mathlib.Decide.{ℕ_discrete}
use Rattle.word.specs.Memory.{at, set, memory, holds, written}
use Rattle.word.specs.Writes.{Write, write, carried, after, zeros, Every, none, more}
use Rattle.word.proofs.Memory.{length_written, holds_written, memory_written}
use Rattle.word.proofs.Set.{set_same, set_other}

pub every_one : {Q : ℕ → Type 0} (p i w : ℕ) → Q p → i < 512 → w < 2 ^ 64 → Every Q (write p i w ∷ [])
every_one p i w q u v = more (record { in_page = q; in_index = u; in_word = v }) none

pub every_append : {Q : ℕ → Type 0} (a b : List Write) → Every Q a → Every Q b → Every Q (a ++ b)
every_append [] b none k = k
every_append (x ∷ a) b (more o h) k = more o (every_append a b h k)

pub every_map : {Q R : ℕ → Type 0} → ((p : ℕ) → Q p → R p) → (xs : List Write) → Every Q xs → Every R xs
every_map f [] none = none
every_map f (x ∷ xs) (more o h) = more (record { in_page = f x.page o.in_page; in_index = o.in_index; in_word = o.in_word }) (every_map f xs h)

pub every_take : {Q : ℕ → Type 0} (n : ℕ) (xs : List Write) → Every Q xs → Every Q (take n xs)
every_take zero xs h = none
every_take (suc n) [] none = none
every_take (suc n) (x ∷ xs) (more o h) = more o (every_take n xs h)

pub every_zeros : {Q : ℕ → Type 0} (p n : ℕ) → Q p → n ≤ 512 → Every Q (zeros p n)
unfolding zeros
every_zeros p zero q u = none
every_zeros p (suc n) q u = every_append (zeros p n) _ (every_zeros p n q (omega arith)) (every_one p n 0 q (omega arith) (omega arith))

-- The window ------------------------------------------------------------------------------------------------------------------

pub carried_append : (s : List ℕ) (origin : ℕ) (a b : List Write) → carried s origin (a ++ b) ≡ carried (carried s origin a) origin b
unfolding carried
carried_append s origin [] b = refl
carried_append s origin (x ∷ a) b = carried_append (written s origin x.page x.index x.word) origin a b

pub length_carried : (s : List ℕ) (origin : ℕ) (xs : List Write) → length (carried s origin xs) ≡ length s
unfolding carried
length_carried s origin [] = refl
length_carried s origin (x ∷ xs) = length_carried (written s origin x.page x.index x.word) origin xs ∙ length_written s origin x.page x.index x.word

pub holds_carried : (s : List ℕ) (origin : ℕ) (xs : List Write) → holds (carried s origin xs) origin ≡ holds s origin
unfolding carried
holds_carried s origin [] = refl
holds_carried s origin (x ∷ xs) = holds_carried (written s origin x.page x.index x.word) origin xs ∙ holds_written s origin x.page x.index x.word

-- THE BRIDGE: what is proved of memory holds of the bytes
pub memory_carried : (s : List ℕ) (origin : ℕ) (xs : List Write) → Every (λ p. holds s origin p ≡ true) xs
    → memory (carried s origin xs) origin ≡ after (memory s origin) xs
unfolding carried after
memory_carried s origin [] none = refl
memory_carried s origin (x ∷ xs) (more o h) =
    memory_carried (written s origin x.page x.index x.word) origin xs
    (every_map (λ p e. ap (λ (f : ℕ → Bool). f p) (holds_written s origin x.page x.index x.word) ∙ e) xs h)
    ∙ ap (λ (m : ℕ → ℕ). after m xs) (memory_written s origin x.page x.index x.word o.in_page o.in_index o.in_word)

-- Memory -----------------------------------------------------------------------------------------------------------------------

pub after_append : (m : ℕ → ℕ) (a b : List Write) → after m (a ++ b) ≡ after (after m a) b
unfolding after
after_append m [] b = refl
after_append m (x ∷ a) b = after_append (set m (at x.page x.index) x.word) a b

pub page_of : (p i : ℕ) → i < 512 → at p i / 512 ≡ p
page_of p i u = omega arith

-- a word of a page that no write names is as it was
pub after_other : (m : ℕ → ℕ) (xs : List Write) (p i : ℕ) → i < 512 → Every (λ q. q ≢ p) xs → after m xs (at p i) ≡ m (at p i)
unfolding after
after_other m [] p i u none = refl
after_other m (x ∷ xs) p i u (more o h) =
    after_other (set m (at x.page x.index) x.word) xs p i u h
    ∙ set_other m (at x.page x.index) x.word (at p i)
    (λ e. o.in_page (sym (page_of x.page x.index o.in_index) ∙ ap (λ y. y / 512) e ∙ page_of p i u))

-- after n zeros the first n entries are 0
pub after_zeros : (m : ℕ → ℕ) (p n i : ℕ) → i < n → n ≤ 512 → after m (zeros p n) (at p i) ≡ 0
unfolding zeros after
after_zeros m p zero i u v = absurd (omega arith)
after_zeros m p (suc n) i u v =
    ap (λ (f : ℕ → ℕ). f (at p i)) (after_append m (zeros p n) (write p n 0 ∷ [])) ∙ go (ℕ_discrete n i) (λ k. after_zeros m p n i k (omega arith))
  where
    go : Dec (n ≡ i) → (i < n → after m (zeros p n) (at p i) ≡ 0) → set (after m (zeros p n)) (at p n) 0 (at p i) ≡ 0
    go (yes e) ih = ap (set (after m (zeros p n)) (at p n) 0) (ap (at p) (sym e)) ∙ set_same (after m (zeros p n)) (at p n) 0
    go (no d) ih = set_other (after m (zeros p n)) (at p n) 0 (at p i) (λ e. d (omega arith)) ∙ ih (omega arith)
