-- LEMMA_WRITE_SEQ and its fellows: what a list of writes leaves.
use Prim.Native.Nat.{ℕ, zero, suc}
use mathlib.Core.List.{List, [], ◌∷◌, ◌++◌}
use mathlib.Core.Logic.{◌≢◌}
use mathlib.Core.Option.{some}
use mathlib.Core.Path.{◌≡◌, refl, ap, ◌∙◌, subst}
use native.Mathlib.Omega.{arith}
use Rattle.word.specs.Memory.{at, set}
use Rattle.word.specs.Writes.{Write, after}
use Rattle.word.proofs.Set.{set_same, set_other}
use Rattle.word.proofs.Writes.{after_append}
use Rattle.verus.specs.WriteSeq.{place_of, write_at}

-- LEMMA_WRITE_SEQ_IDLE: a word that none of them writes is as it was
pub write_seq_idle : (m : ℕ → ℕ) (xs : List Write) (a : ℕ) → ((i : ℕ) (x : Write) → write_at xs i ≡ some x → place_of x ≢ a) → after m xs a ≡ m a
unfolding after write_at
write_seq_idle m [] a n = refl
write_seq_idle m (x ∷ xs) a n = write_seq_idle (set m (at x.page x.index) x.word) xs a (λ i y e. n (suc i) y e) ∙ set_other m (place_of x) x.word a (n 0 x refl)

-- LEMMA_WRITE_SEQ_PUSH: one more at the end
pub write_seq_push : (m : ℕ → ℕ) (xs : List Write) (x : Write) → after m (xs ++ (x ∷ [])) ≡ set (after m xs) (place_of x) x.word
unfolding after
write_seq_push m xs x = after_append m xs (x ∷ [])

-- LEMMA_WRITE_SEQ_FIRST: the first, and then the others
pub write_seq_first : (m : ℕ → ℕ) (x : Write) (xs : List Write) → after m (x ∷ xs) ≡ after (set m (place_of x) x.word) xs
unfolding after
write_seq_first m x xs = refl

-- LEMMA_WRITE_SEQ_READ: a word that one of them alone writes is what that one wrote
pub write_seq_read : (m : ℕ → ℕ) (xs : List Write) (i : ℕ) (x : Write) → write_at xs i ≡ some x
    → ((j : ℕ) (y : Write) → write_at xs j ≡ some y → place_of y ≡ place_of x → i ≡ j) → after m xs (place_of x) ≡ x.word
unfolding after write_at
write_seq_read m [] i x e n = let z : ◌≡◌ {A = ℕ} 0 1 = cc in absurd (omega arith)
write_seq_read m (y ∷ xs) zero x e n =
    let same : y ≡ x = cc in
    subst (λ (z : Write). after (set m (place_of y) y.word) xs (place_of z) ≡ z.word) same
    (write_seq_idle _ xs (place_of y) (λ i z f k. absurd (omega (arith, n (suc i) z f (k ∙ ap place_of same)))) ∙ set_same m (place_of y) y.word)
write_seq_read m (y ∷ xs) (suc i) x e n = write_seq_read (set m (at y.page y.index) y.word) xs i x e (λ j z f k. omega (arith, n (suc j) z f k))
