-- THE BOOK AND THE ROLES: memories with the same words in the book have the same book, and a change of it keeps it true.
use Rattle.std.proofs.Common.{◌≡◌, ℕ, ◌+◌, ◌/◌, ◌%◌, ◌<◌, ◌≤◌, ◌≢◌, ◌⊎◌, List, sym, ap, ◌∙◌, subst, inl, inr, arith}
use Rattle.word.specs.Writes.{Write, after, Every}
use Rattle.word.proofs.Writes.{every_map, after_other}
use Rattle.tables.specs.Roles.{Role, book}
use Rattle.pool.specs.declared.Space.{Space}
use Rattle.pool.specs.declared.Book.{Book}
use Rattle.pool.specs.Layout.{signature_at, pages_at, root_at, head_at, free_at, aside_at, tickets_at, slot_at, header_words, book_words, book_pages}
use Rattle.pool.specs.Book.{word_of, signature, book_of, slot_of, page_at, AddsUp}
use Rattle.pool.specs.Booked.{Lists, Booked, SameBook, Numbered}
use Rattle.pool.proofs.Far.{word_at_lem}
use Rattle.pool.proofs.Counting.{slot_in}
use Rattle.pool.proofs.Lists.{lists_same}
use Rattle.pool.proofs.Words.{word_page, header_word, slot_word, puts, becomes, puts_word}

-- By its counts -------------------------------------------------------------------------------------------------------------------

module _ (sp : Space) (m : ℕ → ℕ) {n : Book} (e : book_of m sp ≡ n) where
  pub numbered_by : {p k : ℕ} → (i : ℕ) × (i < n.aside) × (page_at m sp (n.free + i) ≡ p) × (k ≡ n.tickets + i) → Numbered m sp p k
  numbered_by {p} {k} h = subst (λ (x : Book). (i : ℕ) × (i < x.aside) × (page_at m sp (x.free + i) ≡ p) × (k ≡ x.tickets + i)) (sym e) h

  pub booked_by : {role : ℕ → Role} → m (word_of sp signature_at) ≡ signature → m (word_of sp pages_at) ≡ sp.pages → m (word_of sp root_at) ≡ sp.root
      → AddsUp sp.pages n → Lists (page_at m sp) n.free n.aside role
      → ((p : ℕ) → sp.first ≤ p → p < sp.first + book_pages sp.pages → role p ≡ book)
      → ((p : ℕ) → role p ≡ book → (sp.first ≤ p) × (p < sp.first + book_pages sp.pages)) → Booked sp m role
  booked_by {role} a b r s l i o = record {
    marked = a;
    sized = b;
    rooted = r;
    sound = subst (λ (x : Book). AddsUp sp.pages x) (sym e) s;
    lists = subst (λ (x : Book). Lists (page_at m sp) x.free x.aside role) (sym e) l;
    in_book = i;
    no_other = o;
  }

-- Two memories with the same words in the book ------------------------------------------------------------------------------------

module _ {sp : Space} {m m' : ℕ → ℕ} (e : SameBook sp m m') where
  -- a word of the header
  same_header : (k : ℕ) → k < header_words → m' (word_of sp k) ≡ m (word_of sp k)
  same_header k u = e.words k (header_word sp.pages k u)

  pub same_counts : book_of m' sp ≡ book_of m sp
  unfolding head_at free_at aside_at tickets_at header_words
  same_counts = rw (same_header head_at (omega arith), same_header free_at (omega arith), same_header aside_at (omega arith), same_header tickets_at (omega arith))

  module _ {role : ℕ → Role} (b : Booked sp m role) where
    -- what is listed
    pub same_page : (k : ℕ) → k < (book_of m sp).free + (book_of m sp).aside → page_at m' sp k ≡ page_at m sp k
    unfolding page_at
    same_page k u =
        ap (λ (x : Book). m' (word_of sp (slot_at (slot_of sp.pages x.head k)))) same_counts
        ∙ e.words (slot_at (slot_of sp.pages (book_of m sp).head k))
        (slot_word sp.pages _ (slot_in sp.pages (book_of m sp).head k b.sound.head_in (omega (arith, b.sound.room))))

    pub same_numbered : (p n : ℕ) → Numbered m sp p n → Numbered m' sp p n
    same_numbered p n h = numbered_by sp m' same_counts (h.0, h.1, same_page ((book_of m sp).free + h.0) (omega (arith, h.1)) ∙ h.2, h.3)

    pub booked_same : Booked sp m' role
    unfolding signature_at pages_at root_at header_words
    booked_same =
        booked_by sp m' same_counts (same_header signature_at (omega arith) ∙ b.marked) (same_header pages_at (omega arith) ∙ b.sized)
        (same_header root_at (omega arith) ∙ b.rooted) b.sound (lists_same same_page b.lists) b.in_book b.no_other

-- Writes elsewhere ----------------------------------------------------------------------------------------------------------------

-- a page that is not the book's
abbrev pub Beside : Space → ℕ → Type 0
Beside sp q = (q < sp.first) ⊎ (sp.first + book_pages sp.pages ≤ q)

module _ (sp : Space) (m : ℕ → ℕ) (xs : List Write) (h : Every (Beside sp) xs) where
  -- they leave the book
  pub same_beside : SameBook sp m (after m xs)
  same_beside = record { words = λ k u. rw word_at_lem at (after_other m xs (sp.first + k / 512) (k % 512) (omega arith) (every_map (λ q. apart k q u) xs h)) }
    where
      apart : (k q : ℕ) → k < book_words sp.pages → Beside sp q → q ≢ sp.first + k / 512
      apart k q u (inl v) e = omega arith
      apart k q u (inr v) e = omega (arith, word_page sp.pages k u)

  pub book_beside : book_of (after m xs) sp ≡ book_of m sp
  book_beside = same_counts same_beside

  module _ {role : ℕ → Role} (b : Booked sp m role) where
    pub booked_beside : Booked sp (after m xs) role
    booked_beside = booked_same same_beside b

    pub page_beside : (k : ℕ) → k < (book_of m sp).free + (book_of m sp).aside → page_at (after m xs) sp k ≡ page_at m sp k
    page_beside = same_page same_beside b

    pub numbered_beside : (p n : ℕ) → Numbered m sp p n → Numbered (after m xs) sp p n
    numbered_beside = same_numbered same_beside b

-- A change of the book ------------------------------------------------------------------------------------------------------------

-- Its counts and its list are others; its signature, its size and its root stay, and no page comes to the book or goes from it.
pub changed : {sp : Space} {m : ℕ → ℕ} {role role' : ℕ → Role} → Booked sp m role → (xs : List (ℕ × ℕ)) (n : Book) → book_of (after m (puts sp xs)) sp ≡ n
    → ((w : ℕ) → (becomes xs signature_at w ≡ w) × (becomes xs pages_at w ≡ w) × (becomes xs root_at w ≡ w))
    → AddsUp sp.pages n → Lists (page_at (after m (puts sp xs)) sp) n.free n.aside role'
    → ((p : ℕ) → (role' p ≡ role p) ⊎ ((role p ≢ book) × (role' p ≢ book))) → Booked sp (after m (puts sp xs)) role'
changed {sp} {m} {role} {role'} b xs n e keeps s l r =
    booked_by sp (after m (puts sp xs)) e (puts_word m sp xs signature_at ∙ (keeps _).0 ∙ b.marked) (puts_word m sp xs pages_at ∙ (keeps _).1 ∙ b.sized)
    (puts_word m sp xs root_at ∙ (keeps _).2 ∙ b.rooted) s l
    (λ p u v. still p (b.in_book p u v) (r p)) (λ p e. b.no_other p (was p e (r p)))
  where
    still : (p : ℕ) → role p ≡ book → (role' p ≡ role p) ⊎ ((role p ≢ book) × (role' p ≢ book)) → role' p ≡ book
    still p k (inl x) = x ∙ k
    still p k (inr x) = absurd (x.0 k)

    was : (p : ℕ) → role' p ≡ book → (role' p ≡ role p) ⊎ ((role p ≢ book) × (role' p ≢ book)) → role p ≡ book
    was p k (inl x) = sym x ∙ k
    was p k (inr x) = absurd (x.1 k)
