-- A NEW POOL: what `create` writes makes a true book, an empty root, and every other page free.
use Rattle.std.proofs.Common.{◌≡◌, ℕ, ◌+◌, ◌-◌, ◌*◌, ◌/◌, ◌%◌, ◌<◌, ◌≤◌, ◌≢◌, List, [], ◌∷◌, ◌++◌, sym, ap, ◌∙◌, inl, inr, arith, ne_eqb}
use native.Mathlib.Decide.{dec_lt}
use Rattle.word.specs.Memory.{at}
use Rattle.word.specs.Writes.{Write, after, zeros, Every}
use Rattle.word.proofs.Writes.{every_append, every_map, every_zeros, after_append, after_other, after_zeros}
use Rattle.tables.specs.Roles.{Zero}
use Rattle.pool.specs.declared.Space.{Space}
use Rattle.pool.specs.declared.Book.{Book}
use Rattle.pool.specs.Layout.{signature_at, pages_at, root_at, tickets_at, free_at, aside_at, head_at, header_words, slot_at, count_at, book_words, book_pages}
use Rattle.pool.specs.Book.{word_of, signature, book_of, slot_of, page_at}
use Rattle.pool.specs.Changes.{put}
use Rattle.pool.specs.Create.{fills, blanks, unmarks, bared, slots, header_writes, new_free, lay_out, Roomy}
use Rattle.pool.specs.Booked.{Lists, Booked, Alone, new_role}
use Rattle.pool.proofs.Far.{word_at_lem}
use Rattle.pool.proofs.Counting.{slot_ahead}
use Rattle.pool.proofs.Words.{word_page, header_word, slot_word, puts, becomes, puts_word}
use Rattle.pool.proofs.Rows.{put_same, put_other, row_word, row_other, unmarks_first}
use Rattle.pool.proofs.Booked.{booked_by}
use Rattle.pool.proofs.Proper.{OfBook, fills_proper, rest_proper, header_writes_proper, mark_proper}
use Rattle.pool.proofs.NewRoles.{New, new_book, new_free_lem, book_lies, free_lies, never_aside}

-- The header ----------------------------------------------------------------------------------------------------------------------

module _ (m : ℕ → ℕ) (sp : Space) (n : ℕ) where
  -- its first words
  words : List (ℕ × ℕ)
  words = (pages_at, sp.pages) ∷ (root_at, sp.root) ∷ (tickets_at, 0) ∷ (free_at, n) ∷ []

  headed_is : after m (header_writes sp n) ≡ after (after m (puts sp words)) (blanks sp aside_at (header_words - aside_at))
  unfolding header_writes puts words
  headed_is = after_append m (puts sp words) (blanks sp aside_at (header_words - aside_at))

  -- one of these, and one of the others
  headed_low : (k : ℕ) → k < aside_at → after m (header_writes sp n) (word_of sp k) ≡ becomes words k (m (word_of sp k))
  headed_low k u =
      ap (λ (f : ℕ → ℕ). f (word_of sp k)) headed_is
      ∙ row_other (after m (puts sp words)) sp aside_at (λ j. 0) (header_words - aside_at) k (inl u)
      ∙ puts_word m sp words k

  headed_rest : (k : ℕ) → aside_at ≤ k → k < header_words → after m (header_writes sp n) (word_of sp k) ≡ 0
  headed_rest k u v =
      ap (λ (f : ℕ → ℕ). f (word_of sp k)) headed_is ∙ row_word (after m (puts sp words)) sp aside_at (λ j. 0) (header_words - aside_at) k u (omega arith)

  -- and one behind the header
  headed_behind : (k : ℕ) → header_words ≤ k → after m (header_writes sp n) (word_of sp k) ≡ m (word_of sp k)
  unfolding words becomes pages_at root_at tickets_at free_at aside_at header_words
  headed_behind k u =
      ap (λ (f : ℕ → ℕ). f (word_of sp k)) headed_is
      ∙ row_other (after m (puts sp words)) sp aside_at (λ j. 0) (header_words - aside_at) k (inr (omega arith))
      ∙ puts_word m sp words k
      ∙ rw (ne_eqb pages_at k (omega arith), ne_eqb root_at k (omega arith), ne_eqb tickets_at k (omega arith), ne_eqb free_at k (omega arith))

  headed_size : after m (header_writes sp n) (word_of sp pages_at) ≡ sp.pages
  unfolding words becomes pages_at root_at tickets_at free_at aside_at
  headed_size = headed_low pages_at (omega arith)

  headed_root : after m (header_writes sp n) (word_of sp root_at) ≡ sp.root
  unfolding words becomes pages_at root_at tickets_at free_at aside_at
  headed_root = headed_low root_at (omega arith)

  headed_book : book_of (after m (header_writes sp n)) sp ≡ record { head = 0; free = n; aside = 0; tickets = 0 }
  unfolding words becomes pages_at root_at tickets_at free_at aside_at head_at header_words
  headed_book =
      rw (headed_low tickets_at (omega arith), headed_low free_at (omega arith), headed_rest aside_at (omega arith) (omega arith), headed_rest head_at (omega arith) (omega arith))

-- The whole layout ----------------------------------------------------------------------------------------------------------------

module _ (m : ℕ → ℕ) (sp : Space) (r : Roomy sp) (n : New sp) where
  -- without a signature; with the slots of the free pages; the other slots and the counts; the header; then the root cleared; then the signature
  bare : ℕ → ℕ
  bare = after m (bared sp (new_free sp))

  filled : ℕ → ℕ
  filled = after bare (fills sp (sp.root + 1) (new_free sp))

  counted : ℕ → ℕ
  counted = after filled (blanks sp (slot_at (new_free sp)) (2 * sp.pages - new_free sp))

  headed : ℕ → ℕ
  headed = after counted (header_writes sp (new_free sp))

  cleared : ℕ → ℕ
  cleared = after headed (zeros sp.root 512)

  laid_is : after m (lay_out sp) ≡ after cleared (put sp signature_at signature ∷ [])
  unfolding lay_out bared slots bare filled counted headed cleared
  laid_is =
      after_append m (bared sp (new_free sp)) _
      ∙ after_append bare (slots sp (new_free sp)) _
      ∙ ap (λ (f : ℕ → ℕ). after f (header_writes sp (new_free sp) ++ (zeros sp.root 512 ++ (put sp signature_at signature ∷ []))))
      (after_append bare (fills sp (sp.root + 1) (new_free sp)) (blanks sp (slot_at (new_free sp)) (2 * sp.pages - new_free sp)))
      ∙ after_append counted (header_writes sp (new_free sp)) _
      ∙ after_append headed (zeros sp.root 512) _

  -- the root is not the book
  cleared_word : (k : ℕ) → k < book_words sp.pages → cleared (word_of sp k) ≡ headed (word_of sp k)
  unfolding cleared
  cleared_word k u =
      rw word_at_lem at
      (after_other headed (zeros sp.root 512) (sp.first + k / 512) (k % 512) (omega arith)
      (every_zeros sp.root 512 (λ e. omega (arith, n.behind, word_page sp.pages k u)) (omega arith)))

  laid_word : (k : ℕ) → signature_at ≢ k → k < book_words sp.pages → after m (lay_out sp) (word_of sp k) ≡ headed (word_of sp k)
  laid_word k d v =
      ap (λ (f : ℕ → ℕ). f (word_of sp k)) laid_is ∙ put_other cleared sp signature_at signature k d ∙ cleared_word k v

  laid_mark : after m (lay_out sp) (word_of sp signature_at) ≡ signature
  laid_mark = ap (λ (f : ℕ → ℕ). f (word_of sp signature_at)) laid_is ∙ put_same cleared sp signature_at signature

  -- a word of the header
  laid_header : (k : ℕ) → signature_at ≢ k → k < header_words → after m (lay_out sp) (word_of sp k) ≡ headed (word_of sp k)
  laid_header k d u = laid_word k d (header_word sp.pages k u)

  laid_book : book_of (after m (lay_out sp)) sp ≡ record { head = 0; free = new_free sp; aside = 0; tickets = 0 }
  unfolding headed signature_at head_at free_at aside_at tickets_at header_words
  laid_book =
      rw (laid_header head_at (omega arith) (omega arith), laid_header free_at (omega arith) (omega arith), laid_header aside_at (omega arith) (omega arith), laid_header tickets_at (omega arith) (omega arith))
      (headed_book counted sp (new_free sp))

  -- position k lists the page k behind the root's next
  laid_page : (k : ℕ) → k < new_free sp → page_at (after m (lay_out sp)) sp k ≡ sp.root + 1 + k
  unfolding page_at filled counted headed signature_at slot_at count_at
  laid_page k u =
      ap (λ (b : Book). after m (lay_out sp) (word_of sp (slot_at (slot_of sp.pages b.head k)))) laid_book
      ∙ ap (λ x. after m (lay_out sp) (word_of sp (slot_at x))) (slot_ahead sp.pages 0 k (omega (arith, r.enough)) ∙ omega arith)
      ∙ laid_word (slot_at k) (omega arith) (slot_word sp.pages k (omega arith))
      ∙ headed_behind counted sp (new_free sp) (slot_at k) (omega arith)
      ∙ row_other filled sp (slot_at (new_free sp)) (λ j. 0) (2 * sp.pages - new_free sp) (slot_at k) (inl (omega arith))
      ∙ row_word bare sp (slot_at 0) (λ j. sp.root + 1 + j) (new_free sp) (slot_at k) (omega arith) (omega arith)
      ∙ omega arith

  -- what no operation uses yet: the header's last words, and the counts
  pub laid_rest : (k : ℕ) → head_at < k → k < header_words → after m (lay_out sp) (word_of sp k) ≡ 0
  unfolding headed signature_at aside_at head_at
  laid_rest k u v = laid_header k (omega arith) v ∙ headed_rest counted sp (new_free sp) k (omega arith) v

  pub laid_counts : (k : ℕ) → k < sp.pages → after m (lay_out sp) (word_of sp (count_at sp.pages k)) ≡ 0
  unfolding counted headed signature_at slot_at count_at book_words
  laid_counts k u =
      laid_word (count_at sp.pages k) (omega arith) (omega arith)
      ∙ headed_behind counted sp (new_free sp) (count_at sp.pages k) (omega arith)
      ∙ row_word filled sp (slot_at (new_free sp)) (λ j. 0) (2 * sp.pages - new_free sp) (count_at sp.pages k) (omega arith) (omega arith)

  -- the root is empty
  pub laid_root : Zero (after m (lay_out sp)) sp.root
  unfolding cleared
  laid_root j u =
      ap (λ (f : ℕ → ℕ). f (at sp.root j)) laid_is
      ∙ after_other cleared (put sp signature_at signature ∷ []) sp.root j u (every_map (λ q e x. omega (arith, e.1, n.behind)) (put sp signature_at signature ∷ []) (mark_proper sp signature (omega arith)))
      ∙ after_zeros headed sp.root 512 j u (omega arith)

  -- a page of the book but the first begins with a slot or a count
  book_alone : (j : ℕ) → 0 < j → j < book_pages sp.pages → after m (lay_out sp) (word_of sp (512 * j)) ≢ signature
  unfolding filled counted headed signature_at slot_at header_words book_words book_pages
  book_alone j u v = go (dec_lt (512 * j) (slot_at (new_free sp)))
    where
      k : ℕ
      k = 512 * j

      here : after m (lay_out sp) (word_of sp k) ≡ counted (word_of sp k)
      here = laid_word k (omega arith) (omega arith) ∙ headed_behind counted sp (new_free sp) k (omega arith)

      go : Dec (k < slot_at (new_free sp)) → after m (lay_out sp) (word_of sp k) ≢ signature
      go (yes a) e =
          let w = row_other filled sp (slot_at (new_free sp)) (λ i. 0) (2 * sp.pages - new_free sp) k (inl a) in
          let z = row_word bare sp (slot_at 0) (λ i. sp.root + 1 + i) (new_free sp) k (omega arith) (omega arith) in
          omega (arith, sym (here ∙ w ∙ z) ∙ e, r.low, r.small, a)
      go (no a) e =
          omega (arith, sym (here ∙ row_word filled sp (slot_at (new_free sp)) (λ i. 0) (2 * sp.pages - new_free sp) k (omega arith) (omega arith)) ∙ e)

  -- a page behind the root begins with 0
  free_alone : (p : ℕ) → sp.root < p → p < sp.first + sp.pages → after m (lay_out sp) (at p 0) ≡ 0
  unfolding lay_out slots bare bared
  free_alone p u v =
      ap (λ (f : ℕ → ℕ). f (at p 0)) (after_append m (bared sp (new_free sp)) _)
      ∙ after_other bare _ p 0 (omega arith) behind
      ∙ ap (λ (f : ℕ → ℕ). f (at p 0)) (after_append m (put sp signature_at 0 ∷ []) (unmarks (sp.root + 1) (new_free sp)))
      ∙ unmarks_first (after m (put sp signature_at 0 ∷ [])) (sp.root + 1) (new_free sp) p (omega arith) (omega (arith, n.behind))
    where
      off : (xs : List Write) → Every (OfBook sp) xs → Every (λ q. q ≢ p) xs
      off xs h = every_map (λ q k e. omega (arith, k.1, e, n.behind)) xs h

      behind : Every (λ q. q ≢ p) (slots sp (new_free sp) ++ (header_writes sp (new_free sp) ++ (zeros sp.root 512 ++ (put sp signature_at signature ∷ []))))
      behind =
          every_append (slots sp (new_free sp)) _
          (every_append (fills sp (sp.root + 1) (new_free sp)) _ (off _ (fills_proper sp (sp.root + 1) (new_free sp) (omega arith) (omega (arith, r.small, r.low))))
          (off _ (rest_proper sp (new_free sp) (omega arith))))
          (every_append (header_writes sp (new_free sp)) _ (off _ (header_writes_proper sp (new_free sp) (omega (arith, r.small)) (omega (arith, r.low)) (omega (arith, r.small))))
          (every_append (zeros sp.root 512) _ (every_zeros sp.root 512 (λ e. omega arith) (omega arith)) (off _ (mark_proper sp signature (omega arith)))))

  -- ONE BOOK: no other page of a new pool begins as one
  pub laid_alone : Alone sp (after m (lay_out sp))
  unfolding signature_at
  laid_alone p u v e = go (dec_lt p sp.root) (dec_lt sp.root p)
    where
      go : Dec (p < sp.root) → Dec (sp.root < p) → ⊥
      go (yes a) b = book_alone (p - sp.first) (omega arith) (omega (arith, n.behind)) (ap (after m (lay_out sp)) (omega arith) ∙ e)
      go (no a) (yes b) = omega (arith, sym (free_alone p b v) ∙ e)
      go (no a) (no b) = omega (arith, sym (laid_root 0 (omega arith)) ∙ ap (λ x. after m (lay_out sp) (at x 0)) (omega arith) ∙ e)

  laid_lists : Lists (page_at (after m (lay_out sp)) sp) (new_free sp) 0 (new_role sp)
  laid_lists = record {
    frees = λ k u. ap (new_role sp) (laid_page k u) ∙ new_free_lem n (sp.root + 1 + k) (omega arith) (omega (arith, n.behind, r.enough));
    asides = λ k u. absurd (omega arith);
    free_listed = λ p e. let x = free_lies n p e in
        (p - (sp.root + 1), omega (arith, x.0, x.1, n.behind), laid_page (p - (sp.root + 1)) (omega (arith, x.0, x.1, n.behind)) ∙ omega (arith, x.0));
    aside_listed = λ p e. absurd (never_aside n p e);
    once = λ i j u v e. omega (arith, e, laid_page i (omega arith), laid_page j (omega arith));
  }

  -- THE BOOK OF A NEW POOL IS TRUE
  pub laid_booked : Booked sp (after m (lay_out sp)) (new_role sp)
  unfolding headed signature_at pages_at root_at header_words
  laid_booked =
      booked_by sp (after m (lay_out sp)) laid_book laid_mark
      (laid_header pages_at (omega arith) (omega arith) ∙ headed_size counted sp (new_free sp))
      (laid_header root_at (omega arith) (omega arith) ∙ headed_root counted sp (new_free sp))
      (record { small = r.small; head_in = omega (arith, r.enough); room = omega (arith, r.enough); early = omega arith })
      laid_lists (new_book n) (book_lies n)
