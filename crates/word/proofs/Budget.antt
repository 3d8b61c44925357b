-- Laws of budgets: a budget for one list and then another is one for both, and the largest number does all.
use Rattle.std.proofs.Common.{◌≡◌, ℕ, zero, suc, ◌+◌, ◌-◌, ◌<◌, ◌≤◌, Bool, true, false, cond, ltb, leb, ◌≢◌, List, [], ◌∷◌, ◌++◌, length, take, sym, refl, ap, ◌∙◌, subst, add-one, arith, length-append, ltb-false, ltb-true, lt-ltb, le-leb}
use native.Mathlib.Nat.{sub-zero, zero-sub, suc-sub-suc}
use native.Mathlib.Decide.{dec_le}
use borrow.Author.Tests.{lt-leb}
use lib.Seq.{take-nil}
use Rattle.word.specs.Memory.{written}
use Rattle.word.specs.Writes.{Write, write, Wrote, carried, zeros, endless, up_to, rest_of}
use Rattle.word.proofs.Writes.{carried_append, length_carried}

pub up_to_all : (left : ℕ) (xs : List Write) → endless ≤ left → up_to left xs ≡ xs
unfolding up_to
up_to_all left xs u = simp (le-leb endless left u)

pub up_to_few : (left : ℕ) (xs : List Write) → left < endless → up_to left xs ≡ take left xs
unfolding up_to
up_to_few left xs u = simp (lt-leb endless left u)

pub rest_all : (left : ℕ) (xs : List Write) → endless ≤ left → rest_of left xs ≡ left
unfolding rest_of
rest_all left xs u = simp (le-leb endless left u)

pub rest_few : (left : ℕ) (xs : List Write) → left < endless → rest_of left xs ≡ left - length xs
unfolding rest_of
rest_few left xs u = simp (lt-leb endless left u)

take_both : (n : ℕ) (a b : List Write) → take n (a ++ b) ≡ take n a ++ take (n - length a) b
take_both zero a b = sym (ap (λ (k : ℕ). take k b) (zero-sub (length a)))
take_both (suc n) [] b = sym (ap (λ (k : ℕ). take k b) (sub-zero (suc n)))
take_both (suc n) (x ∷ a) b =
    ap (λ (r : List Write). x ∷ r) (take_both n a b ∙ sym (ap (λ (k : ℕ). take n a ++ take k b) (suc-sub-suc n (length a))))

up_to_both : (left : ℕ) (a b : List Write) → up_to left (a ++ b) ≡ up_to left a ++ up_to (rest_of left a) b
up_to_both left a b = go (dec_le endless left)
  where
    go : Dec (endless ≤ left) → up_to left (a ++ b) ≡ up_to left a ++ up_to (rest_of left a) b
    go (yes u) = rw (up_to_all left (a ++ b) u, up_to_all left a u, rest_all left a u, up_to_all left b u)
    go (no u) =
        let v : left < endless = omega arith in
        let z : left - length a < endless = omega arith in
        rw (up_to_few left (a ++ b) v, up_to_few left a v, rest_few left a v, up_to_few (left - length a) b z) (take_both left a b)

rest_both : (left : ℕ) (a b : List Write) → rest_of left (a ++ b) ≡ rest_of (rest_of left a) b
rest_both left a b = go (dec_le endless left)
  where
    go : Dec (endless ≤ left) → rest_of left (a ++ b) ≡ rest_of (rest_of left a) b
    go (yes u) = rw (rest_all left (a ++ b) u, rest_all left a u, rest_all left b u)
    go (no u) =
        let v : left < endless = omega arith in
        let z : left - length a < endless = omega arith in
        rw (rest_few left (a ++ b) v, rest_few left a v, rest_few (left - length a) b z, length-append a b) (omega arith)

-- no write
pub wrote_none : (origin left : ℕ) (s : List ℕ) → Wrote origin [] left left s s
unfolding up_to rest_of carried
wrote_none origin left s = go (leb endless left) refl
  where
    go : (b : Bool) → leb endless left ≡ b → Wrote origin [] left left s s
    go true e = record { bytes = simp e; count = simp e }
    go false e = record { bytes = simp (e, take-nil {A = Write} left); count = simp (e, sub-zero left) }

pub wrote_nothing : (origin left rest : ℕ) (s t : List ℕ) → Wrote origin [] left rest s t → (t ≡ s) × (rest ≡ left)
unfolding up_to rest_of carried
wrote_nothing origin left rest s t f = go (leb endless left) refl
  where
    go : (b : Bool) → leb endless left ≡ b → (t ≡ s) × (rest ≡ left)
    go true e = (f.bytes ∙ simp e, f.count ∙ simp e)
    go false e = (f.bytes ∙ simp (e, take-nil {A = Write} left), f.count ∙ simp (e, sub-zero left))

-- ONE LIST AND THEN ANOTHER
pub wrote_then : (origin : ℕ) (a b : List Write) (l0 l1 l2 : ℕ) (s0 s1 s2 : List ℕ) → Wrote origin a l0 l1 s0 s1 → Wrote origin b l1 l2 s1 s2
    → Wrote origin (a ++ b) l0 l2 s0 s2
wrote_then origin a b l0 l1 l2 s0 s1 s2 f g = record {
  bytes =
      g.bytes
      ∙ rw (f.bytes, f.count) (sym (carried_append s0 origin (up_to l0 a) (up_to (rest_of l0 a) b)))
      ∙ sym (ap (carried s0 origin) (up_to_both l0 a b));
  count = g.count ∙ rw f.count (sym (rest_both l0 a b));
}

-- one write, and one that is not done
pub wrote_one : (origin p i w l0 l1 : ℕ) (s0 s1 : List ℕ) → ltb 0 l0 ≡ true → l1 ≡ cond (leb endless l0) l0 (l0 - 1) → s1 ≡ written s0 origin p i w
    → Wrote origin (write p i w ∷ []) l0 l1 s0 s1
unfolding up_to rest_of carried
wrote_one origin p i w zero l1 s0 s1 t e f = absurd (omega (arith, ltb-true 0 0 t))
wrote_one origin p i w (suc n) l1 s0 s1 t e f = go (leb endless (suc n)) refl
  where
    go : (b : Bool) → leb endless (suc n) ≡ b → Wrote origin (write p i w ∷ []) (suc n) l1 s0 s1
    go true h = record { bytes = simp h f; count = simp h (e ∙ simp h) }
    go false h = record { bytes = simp (h, take-nil {A = Write} n) f; count = simp h (e ∙ simp h) }

pub wrote_stopped : (origin p i w l0 l1 : ℕ) (s : List ℕ) → ltb 0 l0 ≡ false → l1 ≡ cond (leb endless l0) l0 (l0 - 1) → Wrote origin (write p i w ∷ []) l0 l1 s s
unfolding up_to rest_of carried
wrote_stopped origin p i w zero l1 s t e = record { bytes = refl; count = e }
wrote_stopped origin p i w (suc n) l1 s t e = absurd (omega (arith, ltb-false 0 (suc n) t))

-- one zero more, as a loop writes them
pub wrote_zero : (origin p n l0 l1 l2 : ℕ) (s0 s1 s2 : List ℕ) → Wrote origin (zeros p n) l0 l1 s0 s1 → Wrote origin (write p n 0 ∷ []) l1 l2 s1 s2
    → Wrote origin (zeros p (n + 1)) l0 l2 s0 s2
unfolding zeros
wrote_zero origin p n l0 l1 l2 s0 s1 s2 f g = rw add-one (wrote_then origin (zeros p n) (write p n 0 ∷ []) l0 l1 l2 s0 s1 s2 f g)

pub wrote_no_zero : (origin p l : ℕ) (s : List ℕ) → Wrote origin (zeros p 0) l l s s
unfolding zeros
wrote_no_zero origin p l s = wrote_none origin l s

-- WITHOUT A BUDGET all is written
pub wrote_all : (origin : ℕ) (xs : List Write) (rest : ℕ) (s t : List ℕ) → Wrote origin xs endless rest s t → t ≡ carried s origin xs
wrote_all origin xs rest s t f = f.bytes ∙ ap (carried s origin) (up_to_all endless xs (omega arith))

-- STOPPED AFTER k WRITES, the window is that at entry with the first k of the list carried out
pub stopped : (origin : ℕ) (xs : List Write) (k rest : ℕ) (s t : List ℕ) → k < endless → Wrote origin xs k rest s t → t ≡ carried s origin (take k xs)
stopped origin xs k rest s t u f = f.bytes ∙ ap (carried s origin) (up_to_few k xs u)

pub length_wrote : (origin : ℕ) (xs : List Write) (l r : ℕ) (s t : List ℕ) → Wrote origin xs l r s t → length t ≡ length s
length_wrote origin xs l r s t f = ap length f.bytes ∙ length_carried s origin (up_to l xs)

-- what `spend` finds and leaves
pub spent_all : (n : ℕ) → endless ≤ n → (true ≡ ltb 0 n) × (n ≡ cond (leb endless n) n (n - 1))
spent_all n u = (sym (lt-ltb 0 n (omega arith)), simp (le-leb endless n u))

pub spent_none : (n : ℕ) → n ≡ 0 → (false ≡ ltb 0 n) × (n ≡ cond (leb endless n) n (n - 1))
spent_none n e = rw e (refl, refl)

pub spent_one : (n : ℕ) → n < endless → n ≢ 0 → (true ≡ ltb 0 n) × (n - 1 ≡ cond (leb endless n) n (n - 1))
spent_one n u d = (sym (lt-ltb 0 n (omega arith)), simp (lt-leb endless n u))

-- the same writes by another name
pub wrote_as : (origin : ℕ) (xs ys : List Write) (l r : ℕ) (s t : List ℕ) → xs ≡ ys → Wrote origin xs l r s t → Wrote origin ys l r s t
wrote_as origin xs ys l r s t e f = subst (λ (zs : List Write). Wrote origin zs l r s t) e f

-- one write in the place of another that does the same
pub wrote_same : (origin p i v q j w l r : ℕ) (s t : List ℕ) → written s origin p i v ≡ written s origin q j w → Wrote origin (write p i v ∷ []) l r s t
    → Wrote origin (write q j w ∷ []) l r s t
unfolding carried rest_of
wrote_same origin p i v q j w l r s t e f = record { bytes = f.bytes ∙ go (dec_le endless l); count = f.count }
  where
    short : (n : ℕ) → carried s origin (take n (write p i v ∷ [])) ≡ carried s origin (take n (write q j w ∷ []))
    short zero = refl
    short (suc n) = rw (take-nil {A = Write} n) e

    go : Dec (endless ≤ l) → carried s origin (up_to l (write p i v ∷ [])) ≡ carried s origin (up_to l (write q j w ∷ []))
    go (yes u) = rw (up_to_all l (write p i v ∷ []) u, up_to_all l (write q j w ∷ []) u) e
    go (no u) = let y : l < endless = omega arith in rw (up_to_few l (write p i v ∷ []) y, up_to_few l (write q j w ∷ []) y) (short l)
