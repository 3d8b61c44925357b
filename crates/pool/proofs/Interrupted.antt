-- CREATE, INTERRUPTED: the signature is removed by its first write and set by its last, so stopped between them it leaves no book.
use Rattle.std.proofs.Common.{◌≡◌, ℕ, zero, suc, ◌+◌, ◌-◌, ◌*◌, ◌<◌, ◌≢◌, List, [], ◌∷◌, ◌++◌, length, take, sym, refl, ap, ◌∙◌, arith, Result, Ok, Err}
use Rattle.pool.specs.declared.Reason.{Reason}
use Rattle.word.specs.Memory.{at, set, memory, holds}
use Rattle.word.specs.Writes.{Write, after, carried, zeros}
use Rattle.word.proofs.Set.{set_other}
use Rattle.word.proofs.Writes.{every_map, every_take, memory_carried}
use Rattle.pool.specs.declared.Space.{Space}
use Rattle.pool.specs.declared.Book.{Book}
use Rattle.pool.specs.Layout.{signature_at, pages_at, root_at, tickets_at, free_at, aside_at, header_words, slot_at}
use Rattle.pool.specs.Book.{word_of, signature, opened_of}
use Rattle.pool.specs.Changes.{put}
use Rattle.pool.specs.Create.{may_create, new_space, row, fills, unmarks, bared, slots, header_writes, new_free, lay_out, create_writes, create_in, created_up_to}
use Rattle.pool.proofs.Far.{word_at_lem}
use Rattle.pool.proofs.Words.{book_some}
use Rattle.pool.proofs.Rows.{put_same}
use Rattle.pool.proofs.Makes.{laid_proper}
use Rattle.pool.proofs.Opening.{may_fit, fit_inside, roomy, open_shows}

-- no write is of word a
data Elsewhere (a : ℕ) : List Write → Type 0 where
  none : Elsewhere a []
  more : {x : Write} {xs : List Write} → at x.page x.index ≢ a → Elsewhere a xs → Elsewhere a (x ∷ xs)

elsewhere_append : {a : ℕ} (xs ys : List Write) → Elsewhere a xs → Elsewhere a ys → Elsewhere a (xs ++ ys)
elsewhere_append [] ys none k = k
elsewhere_append (x ∷ xs) ys (more d h) k = more d (elsewhere_append xs ys h k)

after_elsewhere : (a : ℕ) (m : ℕ → ℕ) (xs : List Write) → Elsewhere a xs → after m xs a ≡ m a
unfolding after
after_elsewhere a m [] none = refl
after_elsewhere a m (x ∷ xs) (more d h) =
    after_elsewhere a (set m (at x.page x.index) x.word) xs h ∙ set_other m (at x.page x.index) x.word a d

-- what was written, if not all of the list was, is elsewhere
abbrev Until : ℕ → List Write → Type 0
Until a xs = (k : ℕ) → k < length xs → Elsewhere a (take k xs)

until_last : (a : ℕ) (x : Write) → Until a (x ∷ [])
until_last a x zero u = none
until_last a x (suc k) u = absurd (omega arith)

until_append : (a : ℕ) (xs ys : List Write) → Elsewhere a xs → Until a ys → Until a (xs ++ ys)
until_append a [] ys none f k u = f k u
until_append a (x ∷ xs) ys (more d h) f zero u = none
until_append a (x ∷ xs) ys (more d h) f (suc k) u = more d (until_append a xs ys h f k (omega arith))

-- Behind its first write a layout writes the signature's word once more, last.
module _ (sp : Space) (behind : sp.first < sp.root) where
  put_elsewhere : (k w : ℕ) → signature_at < k → Elsewhere (word_of sp signature_at) (put sp k w ∷ [])
  put_elsewhere k w u = more (λ e. let z = sym (word_at_lem sp.first k) ∙ e in omega arith) none

  row_elsewhere : (k : ℕ) (f : ℕ → ℕ) (n : ℕ) → signature_at < k → Elsewhere (word_of sp signature_at) (row sp k f n)
  unfolding row
  row_elsewhere k f zero u = none
  row_elsewhere k f (suc n) u = elsewhere_append (row sp k f n) _ (row_elsewhere k f n u) (put_elsewhere (k + n) (f n) (omega arith))

  header_elsewhere : (free : ℕ) → Elsewhere (word_of sp signature_at) (header_writes sp free)
  unfolding header_writes signature_at pages_at root_at tickets_at free_at aside_at
  header_elsewhere free =
      elsewhere_append (put sp pages_at _ ∷ []) _ (put_elsewhere pages_at _ (omega arith))
      (elsewhere_append (put sp root_at _ ∷ []) _ (put_elsewhere root_at _ (omega arith))
      (elsewhere_append (put sp tickets_at _ ∷ []) _ (put_elsewhere tickets_at _ (omega arith))
      (elsewhere_append (put sp free_at _ ∷ []) _ (put_elsewhere free_at _ (omega arith)) (row_elsewhere aside_at (λ j. 0) (header_words - aside_at) (omega arith)))))

  zeros_elsewhere : (n : ℕ) → Elsewhere (word_of sp signature_at) (zeros sp.root n)
  unfolding zeros signature_at
  zeros_elsewhere zero = none
  zeros_elsewhere (suc n) = elsewhere_append (zeros sp.root n) _ (zeros_elsewhere n) (more (λ e. omega arith) none)

  unmarks_elsewhere : (n : ℕ) → Elsewhere (word_of sp signature_at) (unmarks (sp.root + 1) n)
  unfolding unmarks signature_at
  unmarks_elsewhere zero = none
  unmarks_elsewhere (suc n) = elsewhere_append (unmarks (sp.root + 1) n) _ (unmarks_elsewhere n) (more (λ e. omega arith) none)

  -- all but the first write
  rest : List Write
  rest =
      unmarks (sp.root + 1) (new_free sp) ++ (slots sp (new_free sp) ++ (header_writes sp (new_free sp) ++ (zeros sp.root 512 ++ (put sp signature_at signature ∷ []))))

  rest_until : Until (word_of sp signature_at) rest
  unfolding rest slots signature_at slot_at
  rest_until =
      until_append _ (unmarks (sp.root + 1) (new_free sp)) _ (unmarks_elsewhere (new_free sp))
      (until_append _ (slots sp (new_free sp)) _
      (elsewhere_append (fills sp (sp.root + 1) (new_free sp)) _ (row_elsewhere (slot_at 0) (λ j. sp.root + 1 + j) (new_free sp) (omega arith))
      (row_elsewhere (slot_at (new_free sp)) (λ j. 0) (2 * sp.pages - new_free sp) (omega arith)))
      (until_append _ (header_writes sp (new_free sp)) _ (header_elsewhere (new_free sp))
      (until_append _ (zeros sp.root 512) _ (zeros_elsewhere 512) (until_last _ (put sp signature_at signature)))))

  -- from the first write to the last there is no signature
  laid_unmarked : (m : ℕ → ℕ) (k : ℕ) → 0 < k → k < length (lay_out sp) → after m (take k (lay_out sp)) (word_of sp signature_at) ≡ 0
  unfolding lay_out bared rest after
  laid_unmarked m zero z u = absurd (omega arith)
  laid_unmarked m (suc k) z u = after_elsewhere (word_of sp signature_at) (after m (put sp signature_at 0 ∷ [])) (take k rest) (rest_until k (omega arith)) ∙ put_same m sp signature_at 0

module _ (s : List ℕ) (origin first pages : ℕ) where
  unmarked : (k : ℕ) (f : Result (Unit {0}) Reason) → may_create (length s) (holds s origin) origin first pages ≡ f → 0 < k → k < length (create_in (new_space origin first pages) f)
      → memory (carried s origin (take k (create_in (new_space origin first pages) f))) origin (word_of (new_space origin first pages) signature_at) ≡ 0
  unfolding create_in
  unmarked k (Err r) e z u = absurd (omega arith)
  unmarked k (Ok tt) e z u =
      let sp = new_space origin first pages in
      let f = may_fit (length s) (holds s origin) origin first pages e in
      let proper = laid_proper sp (roomy s origin first pages f) (record { enough = f.enough; behind = refl }) in
      let inside = every_map (λ p k. fit_inside s origin first pages f p k.0 k.1) (lay_out sp) proper in
      ap (λ (m : ℕ → ℕ). m (word_of sp signature_at)) (memory_carried s origin (take k (lay_out sp)) (every_take k (lay_out sp) inside))
      ∙ laid_unmarked sp (omega (arith, book_some pages)) (memory s origin) k z u

  -- NO BOOK YET: stopped between its first write and its last, whatever was there before and whatever is then opened there
  pub create_interrupted : (k : ℕ) → 0 < k → k < length (create_writes (length s) (holds s origin) origin first pages)
      → (sp : Space) → sp.origin ≡ origin → sp.first ≡ first → (b : Book) → opened_of (holds (created_up_to s origin first pages k) origin) (memory (created_up_to s origin first pages k) origin) sp ≢ Ok b
  unfolding create_writes
  create_interrupted k z u sp same here b e =
      let o = open_shows _ _ sp b e in
      let none = unmarked k (may_create (length s) (holds s origin) origin first pages) refl z u in
      omega (arith, sym none ∙ ap (λ (p : ℕ). memory (created_up_to s origin first pages k) origin (512 * p + signature_at)) (sym here) ∙ o.names.marked)
