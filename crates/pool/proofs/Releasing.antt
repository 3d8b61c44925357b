-- Releasing the oldest pages set aside keeps the book true, and releases exactly those whose number is below the ticket.
use Rattle.std.proofs.Common.{◌≡◌, ℕ, ◌+◌, ◌-◌, ◌^◌, ◌<◌, ◌≤◌, Bool, true, false, cond, leb, ◌≢◌, ◌⊎◌, List, [], ◌∷◌, sym, refl, ap, ◌∙◌, inl, inr, arith, le-leb, leb-false, leb-true, Ok, Err}
use Rattle.pool.specs.declared.NotDue.TheVariants as notdue
use Rattle.word.specs.Writes.{after}
use Rattle.tables.specs.Roles.{Role, free, aside, book}
use Rattle.pool.specs.declared.Space.{Space}
use Rattle.pool.specs.declared.Book.{Book}
use Rattle.pool.specs.Layout.{signature_at, pages_at, root_at, head_at, free_at, aside_at, tickets_at, header_words, slot_at}
use Rattle.pool.specs.Book.{word_of, book_of, slot_of, page_at, AddsUp, due_of}
use Rattle.pool.specs.Changes.{release_writes}
use Rattle.pool.specs.Booked.{Lists, Booked, released, Numbered}
use Rattle.pool.proofs.Counting.{is_sound}
use Rattle.tables.proofs.Unseen.{Shifted}
use Rattle.pool.proofs.Lists.{among, lists_same, lists_thawed, thawed_free, thawed_stays, thawed_shifted}
use Rattle.pool.proofs.Words.{header_slot, puts, becomes, puts_word, puts_book}
use Rattle.pool.proofs.Booked.{numbered_by, changed}

module _ {sp : Space} {m : ℕ → ℕ} {role : ℕ → Role} (b : Booked sp m role) (k : ℕ) (u : k ≤ (book_of m sp).aside) where
  -- what is written, the memory after it, and its book
  words : List (ℕ × ℕ)
  words = (free_at, (book_of m sp).free + k) ∷ (aside_at, (book_of m sp).aside - k) ∷ (tickets_at, (book_of m sp).tickets + k) ∷ []

  writes_are : release_writes sp (book_of m sp) k ≡ puts sp words
  unfolding release_writes puts words
  writes_are = rw (le-leb k (book_of m sp).aside u, is_sound sp.pages (book_of m sp) b.sound)

  then : ℕ → ℕ
  then = after m (puts sp words)

  now : Book
  now = record { head = (book_of m sp).head; free = (book_of m sp).free + k; aside = (book_of m sp).aside - k; tickets = (book_of m sp).tickets + k }

  book_then : book_of then sp ≡ now
  unfolding then now words becomes head_at free_at aside_at tickets_at
  book_then = puts_book m sp words

  -- THE BOOK AFTER IT
  pub release_book : book_of (after m (release_writes sp (book_of m sp) k)) sp
      ≡ record { head = (book_of m sp).head; free = (book_of m sp).free + k; aside = (book_of m sp).aside - k; tickets = (book_of m sp).tickets + k }
  unfolding then now
  release_book = rw writes_are book_then

  page_then : (j : ℕ) → page_at then sp j ≡ page_at m sp j
  unfolding page_at then now words becomes free_at aside_at tickets_at header_words
  page_then j =
      let s = slot_of sp.pages (book_of m sp).head j in
      ap (λ (x : Book). then (word_of sp (slot_at (slot_of sp.pages x.head j)))) book_then
      ∙ puts_word m sp words (slot_at s)
      ∙ rw (header_slot free_at s (omega arith), header_slot aside_at s (omega arith), header_slot tickets_at s (omega arith))

  -- a page that is released was set aside, and is free
  no_book : (p : ℕ) → ((j : ℕ) × (j < k) × (page_at m sp ((book_of m sp).free + j) ≡ p)) ⊎ ((j : ℕ) → j < k → page_at m sp ((book_of m sp).free + j) ≢ p)
      → (released m sp k role p ≡ role p) ⊎ ((role p ≢ book) × (released m sp k role p ≢ book))
  no_book p (inl r) =
      let was : role p ≡ aside = ap role (sym r.2) ∙ b.lists.asides r.0 (omega (arith, r.1)) in
      let is : released m sp k role p ≡ free = ap (released m sp k role) (sym r.2) ∙ thawed_free (page_at m sp) (book_of m sp).free k role r.0 r.1 in
      inr (λ e. let z : ◌≡◌ {A = ℕ} 0 1 = cc in omega arith, λ e. let z : ◌≡◌ {A = ℕ} 0 1 = cc in omega arith)
  no_book p (inr r) = inl (thawed_stays (page_at m sp) (book_of m sp).free k role p r)

  lists_then : Lists (page_at then sp) now.free now.aside (released m sp k role)
  unfolding now
  lists_then = lists_same (λ j v. page_then j) (lists_thawed b.lists k u)

  -- THE k OLDEST PAGES SET ASIDE BECOME FREE
  pub release_booked : (book_of m sp).tickets + k ≤ 2 ^ 62 → Booked sp (after m (release_writes sp (book_of m sp) k)) (released m sp k role)
  unfolding then now words becomes signature_at pages_at root_at free_at aside_at tickets_at
  release_booked w =
      rw writes_are
      (changed b words now book_then (λ w. (refl, refl, refl))
      (record { small = b.sound.small; head_in = b.sound.head_in; room = omega (arith, b.sound.room); early = w }) lists_then
      (λ p. no_book p (among (λ j. page_at m sp ((book_of m sp).free + j)) k p)))

  -- no walk comes to a page that changes its role
  pub release_shifted : Shifted role (released m sp k role)
  release_shifted = thawed_shifted b.lists k u

  -- a page whose number is below what is released then is free
  pub release_frees : (p n : ℕ) → Numbered m sp p n → n < (book_of m sp).tickets + k → released m sp k role p ≡ free
  release_frees p n h v =
      ap (released m sp k role) (sym h.2) ∙ thawed_free (page_at m sp) (book_of m sp).free k role h.0 (omega (arith, h.3))

  -- any other keeps its number, and stays set aside
  pub release_keeps : (p n : ℕ) → Numbered m sp p n → (book_of m sp).tickets + k ≤ n → Numbered (after m (release_writes sp (book_of m sp) k)) sp p n
  unfolding then now
  release_keeps p n h v =
      rw writes_are
      (numbered_by sp then book_then (h.0 - k, omega (arith, h.1, h.3), page_then ((book_of m sp).free + k + (h.0 - k)) ∙ ap (page_at m sp) (omega (arith, h.3)) ∙ h.2, omega (arith, h.3)))

  pub release_stays : (p n : ℕ) → Numbered m sp p n → (book_of m sp).tickets + k ≤ n → released m sp k role p ≡ aside
  release_stays p n h v =
      thawed_stays (page_at m sp) (book_of m sp).free k role p far ∙ ap role (sym h.2) ∙ b.lists.asides h.0 h.1
    where
      far : (j : ℕ) → j < k → page_at m sp ((book_of m sp).free + j) ≢ p
      far j w e =
          let x = b.lists.once ((book_of m sp).free + j) ((book_of m sp).free + h.0) (omega arith) (omega (arith, h.1)) (e ∙ sym h.2) in omega (arith, h.3)

-- THE REPORT IS PRECISE: of the numbers that are set aside, those below the ticket are released, and no others.
pub record Exactly (b : Book) (t k : ℕ) : Type 0 where
  pub enough : k ≤ b.aside
  pub early : b.tickets + k ≤ 2 ^ 62
  pub below : (n : ℕ) → b.tickets ≤ n → n < t → n < b.tickets + k
  pub above : (n : ℕ) → t ≤ n → b.tickets ≤ n → b.tickets + k ≤ n

pub due_exactly : (pages : ℕ) (b : Book) (t k : ℕ) → AddsUp pages b → due_of b t ≡ Ok k → Exactly b t k
unfolding due_of
due_exactly pages b t k s e = first (leb t b.tickets) refl e
  where
    third : (x : Bool) → leb t (2 ^ 62) ≡ x → b.tickets < t → t - b.tickets ≤ b.aside → cond x (Ok (t - b.tickets)) (Err notdue.Spent) ≡ Ok k → Exactly b t k
    third true q u v e =
        let w = leb-true t (2 ^ 62) q in
        let z : t - b.tickets ≡ k = cc in
        record { enough = omega arith; early = omega arith; below = λ n x y. omega arith; above = λ n x y. omega arith }
    third false q u v e = let z : ◌≡◌ {A = ℕ} 0 1 = cc in absurd (omega arith)

    second : (x : Bool) → leb (t - b.tickets) b.aside ≡ x → b.tickets < t
        → cond x (cond (leb t (2 ^ 62)) (Ok (t - b.tickets)) (Err notdue.Spent)) (Err notdue.Unknown) ≡ Ok k → Exactly b t k
    second true q u e = third (leb t (2 ^ 62)) refl u (leb-true (t - b.tickets) b.aside q) e
    second false q u e = let z : ◌≡◌ {A = ℕ} 0 1 = cc in absurd (omega arith)

    first : (x : Bool) → leb t b.tickets ≡ x
        → cond x (Ok 0) (cond (leb (t - b.tickets) b.aside) (cond (leb t (2 ^ 62)) (Ok (t - b.tickets)) (Err notdue.Spent)) (Err notdue.Unknown)) ≡ Ok k → Exactly b t k
    first true q e =
        let w = leb-true t b.tickets q in
        let z : 0 ≡ k = cc in
        record { enough = omega arith; early = omega (arith, s.early); below = λ n x y. omega arith; above = λ n x y. omega arith }
    first false q e = second (leb (t - b.tickets) b.aside) refl (leb-false t b.tickets q) e

module _ {sp : Space} {m : ℕ → ℕ} {role : ℕ → Role} (b : Booked sp m role) where
  -- a page that is set aside has a number, and one only; the ticket of this moment is above it
  pub has_number : (p : ℕ) → role p ≡ aside → (n : ℕ) × Numbered m sp p n
  has_number p e = let r = b.lists.aside_listed p e in ((book_of m sp).tickets + r.0, (r.0, r.1, r.2, refl))

  pub one_number : (p n n' : ℕ) → Numbered m sp p n → Numbered m sp p n' → n ≡ n'
  one_number p n n' h k =
      let e = b.lists.once ((book_of m sp).free + h.0) ((book_of m sp).free + k.0) (omega (arith, h.1)) (omega (arith, k.1)) (h.2 ∙ sym k.2) in
      omega (arith, h.3, k.3)

  -- WHAT A REPORT DOES: pages with a number below the ticket are free, all others that were set aside stay so, with their numbers
  pub record Releases (t k : ℕ) : Type 0 where
    pub booked : Booked sp (after m (release_writes sp (book_of m sp) k)) (released m sp k role)
    pub frees : (p n : ℕ) → Numbered m sp p n → n < t → released m sp k role p ≡ free
    pub stays : (p n : ℕ) → Numbered m sp p n → t ≤ n → released m sp k role p ≡ aside
    pub keeps : (p n : ℕ) → Numbered m sp p n → t ≤ n → Numbered (after m (release_writes sp (book_of m sp) k)) sp p n

  pub told : (t k : ℕ) → due_of (book_of m sp) t ≡ Ok k → Releases t k
  told t k e = record {
    booked = release_booked b k x.enough x.early;
    frees = λ p n h u. release_frees b k x.enough p n h (x.below n (low p n h) u);
    stays = λ p n h u. release_stays b k x.enough p n h (x.above n u (low p n h));
    keeps = λ p n h u. release_keeps b k x.enough p n h (x.above n u (low p n h));
  }
    where
      x : Exactly (book_of m sp) t k
      x = due_exactly sp.pages (book_of m sp) t k b.sound e

      low : (p n : ℕ) → Numbered m sp p n → (book_of m sp).tickets ≤ n
      low p n h = omega (arith, h.3)
