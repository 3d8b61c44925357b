-- Taking the oldest free pages keeps the book true.
use Rattle.std.proofs.Common.{◌≡◌, ℕ, ◌+◌, ◌-◌, ◌<◌, ◌≤◌, ◌≢◌, ◌⊎◌, List, [], ◌∷◌, sym, refl, ap, ◌∙◌, inl, inr, arith, le-leb}
use Rattle.word.specs.Writes.{after}
use Rattle.tables.specs.Roles.{Role, free, book, table}
use Rattle.pool.specs.declared.Space.{Space}
use Rattle.pool.specs.declared.Book.{Book}
use Rattle.pool.specs.Layout.{signature_at, pages_at, root_at, head_at, free_at, aside_at, tickets_at, header_words, slot_at}
use Rattle.pool.specs.Book.{word_of, book_of, slot_of, page_at, AddsUp}
use Rattle.pool.specs.Changes.{took_writes}
use Rattle.pool.specs.Booked.{Lists, Booked, Taken, Numbered}
use Rattle.pool.proofs.Counting.{is_sound, slot_in, slot_more}
use Rattle.pool.proofs.Lists.{among, lists_same, lists_taken}
use Rattle.pool.proofs.Words.{header_slot, puts, becomes, puts_word, puts_book}
use Rattle.pool.proofs.Booked.{numbered_by, changed}

module _ {sp : Space} {m : ℕ → ℕ} {role : ℕ → Role} (b : Booked sp m role) (k : ℕ) (u : k ≤ (book_of m sp).free) where
  -- what is written, the memory after it, and its book
  words : List (ℕ × ℕ)
  words = (head_at, slot_of sp.pages (book_of m sp).head k) ∷ (free_at, (book_of m sp).free - k) ∷ []

  writes_are : took_writes sp (book_of m sp) k ≡ puts sp words
  unfolding took_writes puts words
  writes_are = rw (le-leb k (book_of m sp).free u, is_sound sp.pages (book_of m sp) b.sound)

  then : ℕ → ℕ
  then = after m (puts sp words)

  now : Book
  now = record { head = slot_of sp.pages (book_of m sp).head k; free = (book_of m sp).free - k; aside = (book_of m sp).aside; tickets = (book_of m sp).tickets }

  book_then : book_of then sp ≡ now
  unfolding then now words becomes head_at free_at aside_at tickets_at
  book_then = puts_book m sp words

  -- THE BOOK AFTER IT
  pub took_book : book_of (after m (took_writes sp (book_of m sp) k)) sp
      ≡ record { head = slot_of sp.pages (book_of m sp).head k; free = (book_of m sp).free - k; aside = (book_of m sp).aside; tickets = (book_of m sp).tickets }
  unfolding now then
  took_book = rw writes_are book_then

  slot_then : (j : ℕ) → then (word_of sp (slot_at j)) ≡ m (word_of sp (slot_at j))
  unfolding then words becomes head_at free_at header_words
  slot_then j = puts_word m sp words (slot_at j) ∙ rw (header_slot head_at j (omega arith), header_slot free_at j (omega arith))

  -- positions count from the new head
  page_then : (j : ℕ) → k + j < sp.pages → page_at then sp j ≡ page_at m sp (k + j)
  unfolding page_at now
  page_then j v =
      ap (λ (x : Book). then (word_of sp (slot_at (slot_of sp.pages x.head j)))) book_then
      ∙ slot_then (slot_of sp.pages (slot_of sp.pages (book_of m sp).head k) j)
      ∙ ap (λ x. m (word_of sp (slot_at x))) (slot_more sp.pages (book_of m sp).head k j b.sound.head_in v)

  sound_then : AddsUp sp.pages now
  unfolding now
  sound_then = record {
    small = b.sound.small;
    head_in = slot_in sp.pages (book_of m sp).head k b.sound.head_in (omega (arith, b.sound.room));
    room = omega (arith, b.sound.room);
    early = b.sound.early;
  }

  module _ {role' : ℕ → Role} (t : Taken (page_at m sp) k role role') where
    -- a page that was taken was free, and is a table
    no_book : (p : ℕ) → ((j : ℕ) × (j < k) × (page_at m sp j ≡ p)) ⊎ ((j : ℕ) → j < k → page_at m sp j ≢ p) → (role' p ≡ role p) ⊎ ((role p ≢ book) × (role' p ≢ book))
    no_book p (inl r) =
        let was : role p ≡ free = ap role (sym r.2) ∙ b.lists.frees r.0 (omega (arith, r.1)) in
        let s = t.tables r.0 r.1 in
        let is : role' p ≡ table s.0 s.1 s.2 = ap role' (sym r.2) ∙ s.3 in
        inr (λ e. let z : ◌≡◌ {A = ℕ} 0 1 = cc in omega arith, λ e. let z : ◌≡◌ {A = ℕ} 0 1 = cc in omega arith)
    no_book p (inr r) = inl (t.stays p r)

    lists_then : Lists (page_at then sp) now.free now.aside role'
    unfolding now
    lists_then = lists_same (λ j v. page_then j (omega (arith, b.sound.room))) (lists_taken b.lists k u t)

    -- THE k OLDEST FREE PAGES BECOME TABLES
    pub took_booked : Booked sp (after m (took_writes sp (book_of m sp) k)) role'
    unfolding then words becomes signature_at pages_at root_at head_at free_at
    took_booked = rw writes_are (changed b words now book_then (λ w. (refl, refl, refl)) sound_then lists_then (λ p. no_book p (among (page_at m sp) k p)))

    -- the page behind those that were taken is free as before
    pub next_free : k < (book_of m sp).free → role' (page_at m sp k) ≡ free
    next_free v = ap (λ x. role' (page_at m sp x)) (omega arith) ∙ (lists_taken b.lists k u t).frees 0 (omega arith)

  -- the pages set aside keep their numbers
  pub took_numbered : (p n : ℕ) → Numbered m sp p n → Numbered (after m (took_writes sp (book_of m sp) k)) sp p n
  unfolding then now
  took_numbered p n h = rw writes_are (numbered_by sp then book_then (h.0, h.1, page, h.3))
    where
      page : page_at then sp ((book_of m sp).free - k + h.0) ≡ p
      page = page_then ((book_of m sp).free - k + h.0) (omega (arith, h.1, b.sound.room)) ∙ ap (page_at m sp) (omega arith) ∙ h.2
