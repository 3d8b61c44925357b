-- Rows of words in a book, and first words of pages: the loops that write them, and the words after them.
use Rattle.std.proofs.Common.{◌≡◌, ℕ, zero, suc, ◌+◌, ◌-◌, ◌<◌, ◌≤◌, ◌≢◌, ◌⊎◌, List, [], ◌∷◌, refl, ap, ◌∙◌, inl, inr, add-one, arith}
use native.Mathlib.Decide.{ℕ_discrete}
use Rattle.word.specs.Memory.{at}
use Rattle.word.specs.Writes.{write, Wrote, after, Every, none}
use Rattle.word.proofs.Budget.{wrote_none, wrote_then}
use Rattle.word.proofs.Set.{set_same, set_other}
use Rattle.word.proofs.Writes.{every_append, every_one, after_append}
use Rattle.pool.specs.declared.Space.{Space}
use Rattle.pool.specs.Book.{word_of}
use Rattle.pool.specs.Changes.{put}
use Rattle.pool.specs.Layout.{signature_at}
use Rattle.pool.specs.Create.{row, unmarks}
use Rattle.pool.proofs.Words.{after_put}

-- The loop ------------------------------------------------------------------------------------------------------------------------

pub wrote_no_word : (sp : Space) (k : ℕ) (f : ℕ → ℕ) (left : ℕ) (s : List ℕ) → Wrote sp.origin (row sp k f 0) left left s s
unfolding row
wrote_no_word sp k f left s = wrote_none sp.origin left s

pub wrote_word : (sp : Space) (k : ℕ) (f : ℕ → ℕ) (n l0 l1 l2 : ℕ) (s0 s1 s2 : List ℕ) → Wrote sp.origin (row sp k f n) l0 l1 s0 s1
    → Wrote sp.origin (put sp (k + n) (f n) ∷ []) l1 l2 s1 s2 → Wrote sp.origin (row sp k f (n + 1)) l0 l2 s0 s2
unfolding row
wrote_word sp k f n l0 l1 l2 s0 s1 s2 a b = rw add-one (wrote_then sp.origin (row sp k f n) (put sp (k + n) (f n) ∷ []) l0 l1 l2 s0 s1 s2 a b)

pub wrote_no_mark : (origin p left : ℕ) (s : List ℕ) → Wrote origin (unmarks p 0) left left s s
unfolding unmarks
wrote_no_mark origin p left s = wrote_none origin left s

pub wrote_mark : (origin p n l0 l1 l2 : ℕ) (s0 s1 s2 : List ℕ) → Wrote origin (unmarks p n) l0 l1 s0 s1
    → Wrote origin (write (p + n) 0 0 ∷ []) l1 l2 s1 s2 → Wrote origin (unmarks p (n + 1)) l0 l2 s0 s2
unfolding unmarks signature_at
wrote_mark origin p n l0 l1 l2 s0 s1 s2 a b = rw add-one (wrote_then origin (unmarks p n) (write (p + n) 0 0 ∷ []) l0 l1 l2 s0 s1 s2 a b)

-- The words -----------------------------------------------------------------------------------------------------------------------

-- one write, as a word of memory
pub put_same : (m : ℕ → ℕ) (sp : Space) (k w : ℕ) → after m (put sp k w ∷ []) (word_of sp k) ≡ w
unfolding after
put_same m sp k w = ap (λ (f : ℕ → ℕ). f (word_of sp k)) (after_put m sp k w []) ∙ set_same m (word_of sp k) w

pub put_other : (m : ℕ → ℕ) (sp : Space) (k w j : ℕ) → k ≢ j → after m (put sp k w ∷ []) (word_of sp j) ≡ m (word_of sp j)
unfolding after
put_other m sp k w j d = ap (λ (f : ℕ → ℕ). f (word_of sp j)) (after_put m sp k w []) ∙ set_other m (word_of sp k) w (word_of sp j) (λ e. d (omega arith))

-- a row is written by one word more
row_more : (m : ℕ → ℕ) (sp : Space) (k : ℕ) (f : ℕ → ℕ) (n j : ℕ)
    → after m (row sp k f (suc n)) (word_of sp j) ≡ after (after m (row sp k f n)) (put sp (k + n) (f n) ∷ []) (word_of sp j)
unfolding row
row_more m sp k f n j = ap (λ (g : ℕ → ℕ). g (word_of sp j)) (after_append m (row sp k f n) (put sp (k + n) (f n) ∷ []))

pub row_word : (m : ℕ → ℕ) (sp : Space) (k : ℕ) (f : ℕ → ℕ) (n j : ℕ) → k ≤ j → j < k + n → after m (row sp k f n) (word_of sp j) ≡ f (j - k)
row_word m sp k f zero j u v = absurd (omega arith)
row_word m sp k f (suc n) j u v = row_more m sp k f n j ∙ go (ℕ_discrete (k + n) j) (row_word m sp k f n j u)
  where
    go : Dec (k + n ≡ j) → (j < k + n → after m (row sp k f n) (word_of sp j) ≡ f (j - k)) → after (after m (row sp k f n)) (put sp (k + n) (f n) ∷ []) (word_of sp j) ≡ f (j - k)
    go (yes e) ih = rw (← e) (put_same (after m (row sp k f n)) sp (k + n) (f n) ∙ ap f (omega arith))
    go (no d) ih = put_other (after m (row sp k f n)) sp (k + n) (f n) j d ∙ ih (omega arith)

pub row_other : (m : ℕ → ℕ) (sp : Space) (k : ℕ) (f : ℕ → ℕ) (n j : ℕ) → (j < k) ⊎ (k + n ≤ j) → after m (row sp k f n) (word_of sp j) ≡ m (word_of sp j)
unfolding row after
row_other m sp k f zero j u = refl
row_other m sp k f (suc n) j u = row_more m sp k f n j ∙ put_other (after m (row sp k f n)) sp (k + n) (f n) j (apart u) ∙ row_other m sp k f n j (less u)
  where
    apart : (j < k) ⊎ (k + suc n ≤ j) → k + n ≢ j
    apart (inl v) e = omega arith
    apart (inr v) e = omega arith

    less : (j < k) ⊎ (k + suc n ≤ j) → (j < k) ⊎ (k + n ≤ j)
    less (inl v) = inl v
    less (inr v) = inr (omega arith)

-- First words of pages ------------------------------------------------------------------------------------------------------------

-- only these pages are written
pub unmarks_proper : {Q : ℕ → Type 0} (p n : ℕ) → ((q : ℕ) → p ≤ q → q < p + n → Q q) → Every Q (unmarks p n)
unfolding unmarks signature_at
unmarks_proper p zero h = none
unmarks_proper p (suc n) h =
    every_append (unmarks p n) _ (unmarks_proper p n (λ q u v. h q u (omega arith))) (every_one (p + n) 0 0 (h (p + n) (omega arith) (omega arith)) (omega arith) (omega arith))

-- and they begin with 0
pub unmarks_first : (m : ℕ → ℕ) (p n q : ℕ) → p ≤ q → q < p + n → after m (unmarks p n) (at q 0) ≡ 0
unfolding unmarks signature_at after
unmarks_first m p zero q u v = absurd (omega arith)
unmarks_first m p (suc n) q u v =
    ap (λ (f : ℕ → ℕ). f (at q 0)) (after_append m (unmarks p n) (write (p + n) 0 0 ∷ [])) ∙ go (ℕ_discrete (p + n) q) (unmarks_first m p n q u)
  where
    go : Dec (p + n ≡ q) → (q < p + n → after m (unmarks p n) (at q 0) ≡ 0) → after (after m (unmarks p n)) (write (p + n) 0 0 ∷ []) (at q 0) ≡ 0
    go (yes e) ih = rw (← e) (set_same (after m (unmarks p n)) (at (p + n) 0) 0)
    go (no d) ih = set_other (after m (unmarks p n)) (at (p + n) 0) 0 (at q 0) (λ e. d (omega arith)) ∙ ih (omega arith)
