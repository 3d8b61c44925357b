-- Setting a table aside keeps the book true: there is a slot for it, since all pages are counted.
use Rattle.std.proofs.Common.{◌≡◌, ℕ, ◌+◌, ◌<◌, ◌≤◌, ◌≢◌, ◌⊎◌, List, [], ◌∷◌, sym, refl, ap, ◌∙◌, inl, inr, arith, eq-eqb, ne_eqb}
use native.Mathlib.Decide.{ℕ_discrete}
use Rattle.word.specs.Memory.{set}
use Rattle.word.specs.Writes.{after}
use Rattle.word.proofs.Set.{set_at, set_other}
use Rattle.tables.specs.Roles.{Role, aside, book, table}
use Rattle.pool.specs.declared.Space.{Space}
use Rattle.pool.specs.declared.Book.{Book}
use Rattle.pool.specs.Layout.{signature_at, pages_at, root_at, head_at, free_at, aside_at, tickets_at, header_words, slot_at, book_pages}
use Rattle.pool.specs.Book.{word_of, book_of, slot_of, page_at, AddsUp}
use Rattle.pool.specs.Changes.{aside_writes, aside_book}
use Rattle.pool.specs.Booked.{Lists, Booked, Numbered, tables_of, is_table, Owned}
use Rattle.pool.proofs.Counting.{is_sound, slot_apart}
use Rattle.pool.proofs.Lists.{lists_aside}
use Rattle.pool.proofs.Census.{many_some}
use Rattle.pool.proofs.Pages.{adds_up}
use Rattle.pool.proofs.Words.{header_slot, slot_header, slot_once, puts, becomes, puts_word, puts_book}
use Rattle.pool.proofs.Booked.{numbered_by, changed}

module _ {sp : Space} {m : ℕ → ℕ} {role : ℕ → Role} (b : Booked sp m role) (p : ℕ) where
  -- the slot where it is listed
  place : ℕ
  place = slot_of sp.pages (book_of m sp).head ((book_of m sp).free + (book_of m sp).aside)

  -- what is written, the memory after it, and its book
  words : List (ℕ × ℕ)
  words = (slot_at place, p) ∷ (aside_at, (book_of m sp).aside + 1) ∷ []

  writes_are : aside_writes sp (book_of m sp) p ≡ puts sp words
  unfolding aside_writes puts words place
  writes_are = rw (is_sound sp.pages (book_of m sp) b.sound)

  then : ℕ → ℕ
  then = after m (puts sp words)

  now : Book
  now = record { head = (book_of m sp).head; free = (book_of m sp).free; aside = (book_of m sp).aside + 1; tickets = (book_of m sp).tickets }

  -- a word of the header that is not that count
  stays : (k w : ℕ) → k < header_words → aside_at ≢ k → becomes words k w ≡ w
  unfolding words becomes
  stays k w u d = rw (slot_header k place u, ne_eqb aside_at k d)

  book_then : book_of then sp ≡ now
  unfolding then now words becomes head_at free_at aside_at tickets_at header_words
  book_then = puts_book m sp words ∙ rw (slot_header head_at place (omega arith), slot_header free_at place (omega arith), slot_header tickets_at place (omega arith))

  -- what the code goes on with is what is written
  pub aside_book_lem : aside_book sp (book_of m sp) ≡ book_of (after m (aside_writes sp (book_of m sp) p)) sp
  unfolding then now aside_book
  aside_book_lem = rw (writes_are, is_sound sp.pages (book_of m sp) b.sound) (sym book_then)

  slot_then : (j : ℕ) → place ≢ j → then (word_of sp (slot_at j)) ≡ m (word_of sp (slot_at j))
  unfolding then words becomes aside_at header_words
  slot_then j d = puts_word m sp words (slot_at j) ∙ rw (ne_eqb (slot_at place) (slot_at j) (λ e. d (slot_once place j e)), header_slot aside_at j (omega arith))

  place_then : then (word_of sp (slot_at place)) ≡ p
  unfolding then words becomes aside_at header_words
  place_then = puts_word m sp words (slot_at place) ∙ rw (eq-eqb (slot_at place) (slot_at place) refl, header_slot aside_at place (omega arith))

  page_then : (j : ℕ) → j < (book_of m sp).free + (book_of m sp).aside → page_at then sp j ≡ page_at m sp j
  unfolding page_at now place
  page_then j u =
      let s = b.sound in
      ap (λ (x : Book). then (word_of sp (slot_at (slot_of sp.pages x.head j)))) book_then
      ∙ slot_then (slot_of sp.pages (book_of m sp).head j)
      (λ e. omega (arith, slot_apart sp.pages (book_of m sp).head ((book_of m sp).free + (book_of m sp).aside) j s.head_in (omega (arith, s.room)) (omega (arith, s.room)) e))

  last_then : page_at then sp ((book_of m sp).free + (book_of m sp).aside) ≡ p
  unfolding page_at now place
  last_then = ap (λ (x : Book). then (word_of sp (slot_at (slot_of sp.pages x.head ((book_of m sp).free + (book_of m sp).aside))))) book_then ∙ place_then

  module _ (o : Owned sp role) (l q i : ℕ) (is : role p ≡ table l q i) where
    -- there is a table, so not all pages are listed
    room : (book_of m sp).free + (book_of m sp).aside + 1 + book_pages sp.pages + 1 ≤ sp.pages
    room =
        let k = o.home p (λ e. let z : ◌≡◌ {A = ℕ} 0 1 = cc in omega arith) in
        let t : 1 ≤ tables_of sp role = many_some (λ x. is_table (role x)) sp.first sp.pages p k.0 k.1 (ap is_table is) in
        omega (arith, adds_up o b)

    sound_then : AddsUp sp.pages now
    unfolding now
    sound_then = record { small = b.sound.small; head_in = b.sound.head_in; room = omega (arith, room); early = b.sound.early }

    lists_then : Lists (page_at then sp) now.free now.aside (set role p aside)
    unfolding now
    lists_then =
        lists_aside b.lists (λ e. let z : ◌≡◌ {A = ℕ} 0 1 = cc in omega arith) (λ e. let z : ◌≡◌ {A = ℕ} 0 1 = cc in omega arith) page_then last_then

    -- it was a table
    no_book : (x : ℕ) → Dec (p ≡ x) → (set role p aside x ≡ role x) ⊎ ((role x ≢ book) × (set role p aside x ≢ book))
    no_book x (yes d) =
        let was : role x ≡ table l q i = ap role (sym d) ∙ is in
        let now = set_at role p aside x d in
        inr (λ e. let z : ◌≡◌ {A = ℕ} 0 1 = cc in omega arith, λ e. let z : ◌≡◌ {A = ℕ} 0 1 = cc in omega arith)
    no_book x (no d) = inl (set_other role p aside x d)

    -- A TABLE IS SET ASIDE
    pub aside_booked : Booked sp (after m (aside_writes sp (book_of m sp) p)) (set role p aside)
    unfolding then signature_at pages_at root_at aside_at header_words
    aside_booked =
        rw writes_are
        (changed b words now book_then (λ w. (stays signature_at w (omega arith) (omega arith), stays pages_at w (omega arith) (omega arith), stays root_at w (omega arith) (omega arith))) sound_then lists_then
        (λ x. no_book x (ℕ_discrete p x)))

  -- it gets the number that the ticket of the moment before was, and the others keep theirs
  pub aside_numbered : Numbered (after m (aside_writes sp (book_of m sp) p)) sp p ((book_of m sp).tickets + (book_of m sp).aside)
  unfolding then now
  aside_numbered = rw writes_are (numbered_by sp then book_then ((book_of m sp).aside, omega arith, last_then, refl))

  pub aside_others : (x n : ℕ) → Numbered m sp x n → Numbered (after m (aside_writes sp (book_of m sp) p)) sp x n
  unfolding then now
  aside_others x n h = rw writes_are (numbered_by sp then book_then (h.0, omega (arith, h.1), page_then ((book_of m sp).free + h.0) (omega (arith, h.1)) ∙ h.2, h.3))
