-- What a list of writes leaves of the words of one page; and that map's tables and links are words as we write them.
use Prim.Native.Nat.{ℕ, zero, suc, ◌*◌, ◌^◌, ◌<◌, ◌≤◌}
use mathlib.Core.Bool.{Bool, true, false, cond}
use mathlib.Core.List.{List, [], ◌∷◌, ◌++◌}
use mathlib.Core.Path.{◌≡◌, refl, sym, subst}
use native.Mathlib.Decide.{ℕ_discrete}
use native.Mathlib.Omega.{arith}
use borrow.Author.Tests.{ltb-true, lt-leb}
use lib.Dec.{leb, ltb}
use Rattle.word.specs.Memory.{at, set}
use Rattle.word.specs.Writes.{Write, write, after, zeros, Every, none, more}
use Rattle.word.proofs.Set.{set_at, set_other}
use Rattle.word.proofs.Writes.{after_append, after_zeros}
use Rattle.entry.specs.Entry.{size_of, everything}
use Rattle.entry.specs.Clean.{Clean}
use Rattle.entry.specs.Words.{flag, large_flag, page_word, table_word}
use Rattle.entry.proofs.Clean.{zero_clean, table_clean, page_clean}
use Rattle.entry.proofs.Written.{table_word_says}
use Rattle.walk.specs.Walk.{index_of}
use Rattle.walk.proofs.Digits.{index_lt}
use Rattle.plan.specs.Map.{link_of, grow_of}
use Rattle.plan.specs.declared.building.TableReached.{TableReached}

-- a write of an entry; if it goes to page q, its word is such
pub record Fine (q : ℕ) (P : ℕ → Type 0) (x : Write) : Type 0 where
  pub in_index : x.index < 512
  pub in_word : x.page ≡ q → P x.word

pub data Each (q : ℕ) (P : ℕ → Type 0) : List Write → Type 0 where
  no_more : Each q P []
  one_more : {x : Write} {xs : List Write} → Fine q P x → Each q P xs → Each q P (x ∷ xs)

module _ {q : ℕ} {P : ℕ → Type 0} where
  pub each_append : (xs ys : List Write) → Each q P xs → Each q P ys → Each q P (xs ++ ys)
  each_append [] ys a b = b
  each_append (x ∷ xs) ys (one_more f a) b = one_more f (each_append xs ys a b)

  pub each_one : (p i v : ℕ) → i < 512 → (p ≡ q → P v) → Each q P (write p i v ∷ [])
  each_one p i v u f = one_more (record { in_index = u; in_word = f }) no_more

  -- writes to other pages
  pub each_elsewhere : {R : ℕ → Type 0} → ((p : ℕ) → R p → p ≡ q → ⊥) → (xs : List Write) → Every R xs → Each q P xs
  each_elsewhere n [] none = no_more
  each_elsewhere n (x ∷ xs) (more o k) = one_more (record { in_index = o.in_index; in_word = λ e. absurd (n x.page o.in_page e) }) (each_elsewhere n xs k)

  pub each_zeros : P 0 → (p n : ℕ) → n ≤ 512 → Each q P (zeros p n)
  unfolding zeros
  each_zeros z p zero u = no_more
  each_zeros z p (suc n) u = each_append (zeros p n) _ (each_zeros z p n (omega arith)) (each_one p n 0 (omega arith) (λ e. z))

  -- A WORD THAT WAS SUCH IS SUCH then,
  pub after_has : (xs : List Write) (m : ℕ → ℕ) (i : ℕ) → i < 512 → Each q P xs → P (m (at q i)) → P (after m xs (at q i))
  unfolding after
  after_has [] m i u no_more k = k
  after_has (x ∷ xs) m i u (one_more f h) k = after_has xs _ i u h (go (ℕ_discrete (at x.page x.index) (at q i)))
    where
      go : Dec (at x.page x.index ≡ at q i) → P (set m (at x.page x.index) x.word (at q i))
      go (yes e) = subst P (sym (set_at m (at x.page x.index) x.word (at q i) e)) (f.in_word (omega (arith, f.in_index, e)))
      go (no e) = subst P (sym (set_other m (at x.page x.index) x.word (at q i) e)) k

-- and whatever it was, where the list clears the page
abbrev pub Sets : ℕ → (ℕ → Type 0) → ℕ → List Write → Type 0
Sets q P i xs = (m : ℕ → ℕ) → P (after m xs (at q i))

module _ (q : ℕ) (P : ℕ → Type 0) {i : ℕ} (u : i < 512) where
  pub sets_then : (xs ys : List Write) → Sets q P i xs → Each q P ys → Sets q P i (xs ++ ys)
  sets_then xs ys s h m = subst (λ n. P (n (at q i))) (sym (after_append m xs ys)) (after_has ys (after m xs) i u h (s m))

  pub sets_behind : (xs ys : List Write) → Sets q P i ys → Sets q P i (xs ++ ys)
  sets_behind xs ys s m = subst (λ n. P (n (at q i))) (sym (after_append m xs ys)) (s (after m xs))

-- The tables that map makes ------------------------------------------------------------------------------------------------------------

-- a link says no page but at the last level, where it is a page's word
pub link_clean : (l p : ℕ) → Clean l (link_of p)
unfolding link_of
link_clean l p = go l (ltb p (2 ^ 40)) refl
  where
    same : (p : ℕ) → page_word 0 (4096 * p) everything ≡ table_word p
    same p = unfold page_word table_word large_flag flag in omega arith

    go : (l : ℕ) (b : Bool) → ltb p (2 ^ 40) ≡ b → Clean l (cond b (table_word p) 0)
    go l false e = zero_clean l
    go zero true e =
        subst (Clean 0) (same p) (page_clean 0 (4096 * p) everything (record { level = omega arith; aligned = unfold size_of in omega arith; below = omega (arith, ltb-true p (2 ^ 40) e) }))
    go (suc l) true e = table_clean (suc l) (table_word p) p everything (table_word_says (suc l) p (λ z. omega arith) (ltb-true p (2 ^ 40) e))

module _ (q l va target a : ℕ) (s : TableReached) where
  pub grow_each : Each q (Clean l) (grow_of va target a s)
  unfolding grow_of
  grow_each = go (leb s.level target)
    where
      go : (b : Bool) → Each q (Clean l) (cond b [] (zeros a 512 ++ (write s.table (index_of s.level va) (link_of a) ∷ [])))
      go true = no_more
      go false = each_append (zeros a 512) _ (each_zeros (zero_clean l) a 512 (omega arith)) (each_one s.table (index_of s.level va) (link_of a) (index_lt s.level va) (λ e. link_clean l a))

  -- a page that is made a table is cleared first
  pub grow_sets : target < s.level → a ≡ q → (i : ℕ) → i < 512 → Sets q (Clean l) i (grow_of va target a s)
  unfolding grow_of
  grow_sets u e i v =
      rw (lt-leb s.level target u)
      (sets_then q (Clean l) v (zeros a 512) _ (λ m. subst (λ x. Clean l (after m (zeros a 512) (at x i))) e (subst (Clean l) (sym (after_zeros m a 512 i v (omega arith))) (zero_clean l)))
      (each_one s.table (index_of s.level va) (link_of a) (index_lt s.level va) (λ z. link_clean l a)))
