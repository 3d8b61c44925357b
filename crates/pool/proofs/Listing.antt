-- What `free_page` answers: for any bytes a page of the pool that is neither the book's nor the root; of a true book, the page listed.
use Rattle.std.proofs.Common.{◌≡◌, ℕ, ◌+◌, ◌/◌, ◌<◌, ◌≤◌, Bool, true, false, cond, not, ◌&&◌, eqb, ltb, ◌≢◌, refl, ap, ◌∙◌, subst, arith, lt-ltb, ne_eqb, Option, Some, None, Ok}
use native.Mathlib.Decide.{dec_le}
use borrow.Author.Tests.{eqb-false, not-true}
use Rattle.word.proofs.Tests.{and_both}
use Rattle.tables.specs.Roles.{Role, free, book, root}
use Rattle.pool.specs.declared.Space.{Space}
use Rattle.pool.specs.declared.Book.{Book}
use Rattle.pool.specs.Layout.{slot_at, book_pages}
use Rattle.pool.specs.Book.{word_of, book_of, slot_of, page_at, in_pool, adds_up_of, names_of, opened_of, usable_of, named_of, listed_of}
use Rattle.pool.specs.Booked.{Booked, Owned}
use Rattle.pool.proofs.Counting.{InPool, pool_in, in_pool_lem, is_sound, slot_in}
use Rattle.pool.proofs.Words.{word_page, slot_word}
use Rattle.pool.proofs.Opening.{Fitting, Names, names, opens}

-- a page for tables
pub record Usable (sp : Space) (p : ℕ) : Type 0 where
  pub in_the_pool : InPool sp p
  pub no_root : p ≢ sp.root

page_yes : (t : Bool) (x : Option ℕ) (p : ℕ) → cond t x None ≡ Some p → (t ≡ true) × (x ≡ Some p)
page_yes true x p e = (refl, e)
page_yes false x p e = let z : ◌≡◌ {A = ℕ} 0 1 = cc in absurd (omega arith)

same_page : (p q : ℕ) → Some p ≡ Some q → p ≡ q
same_page p q e = cc

-- FOR ANY BYTES
pub listed_usable : (h : ℕ → Bool) (m : ℕ → ℕ) (sp : Space) (b : Book) (k p : ℕ) → listed_of h m sp b k ≡ Some p → Usable sp p
unfolding listed_of named_of usable_of
listed_usable h m sp b k p e =
    let w = slot_at (slot_of sp.pages b.head k) in
    let a = page_yes (ltb k b.free && adds_up_of sp.pages b) _ p e in
    let d = page_yes (h (sp.first + w / 512)) _ p a.1 in
    let g = page_yes (not (eqb (m (word_of sp w)) sp.root) && in_pool sp (m (word_of sp w))) _ p d.1 in
    let t = and_both _ _ g.0 in
    let same = same_page (m (word_of sp w)) p g.1 in
    let u : Usable sp (m (word_of sp w)) = record { in_the_pool = pool_in sp (m (word_of sp w)) t.1; no_root = eqb-false _ _ (not-true _ t.0) } in
    subst (Usable sp) same u

module _ {sp : Space} {m : ℕ → ℕ} {role : ℕ → Role} (b : Booked sp m role) (o : Owned sp role) where
  -- a free page lies behind the book, and is not the root
  pub free_usable : (p : ℕ) → role p ≡ free → Usable sp p
  free_usable p e = record {
    in_the_pool = record { behind = go (dec_le (sp.first + book_pages sp.pages) p); before_end = k.1 };
    no_root = λ x. let f : role p ≡ root = ap role x ∙ o.starts in let z : ◌≡◌ {A = ℕ} 0 1 = cc in omega arith;
  }
    where
      k : (sp.first ≤ p) × (p < sp.first + sp.pages)
      k = o.home p (λ x. let z : ◌≡◌ {A = ℕ} 0 1 = cc in omega arith)

      go : Dec (sp.first + book_pages sp.pages ≤ p) → sp.first + book_pages sp.pages ≤ p
      go (yes d) = d
      go (no d) = let f : role p ≡ book = b.in_book p k.0 (omega arith) in let z : ◌≡◌ {A = ℕ} 0 1 = cc in absurd (omega arith)

  -- the root, too, lies behind the book
  pub root_behind : InPool sp sp.root
  root_behind = record { behind = go (dec_le (sp.first + book_pages sp.pages) sp.root); before_end = k.1 }
    where
      k : (sp.first ≤ sp.root) × (sp.root < sp.first + sp.pages)
      k = o.home sp.root (λ x. let e = o.starts in let z : ◌≡◌ {A = ℕ} 0 1 = cc in omega arith)

      go : Dec (sp.first + book_pages sp.pages ≤ sp.root) → sp.first + book_pages sp.pages ≤ sp.root
      go (yes d) = d
      go (no d) =
          let f : role sp.root ≡ book = b.in_book sp.root k.0 (omega arith) in
          let e = o.starts in
          let z : ◌≡◌ {A = ℕ} 0 1 = cc in
          absurd (omega arith)

  -- A TRUE BOOK NAMES ITS SPACE
  named : (h : ℕ → Bool) → Fitting h sp.first sp.pages → Names h m sp
  named h f = record { fits = f; inside = root_behind; marked = b.marked; sized = b.sized; rooted = b.rooted }

  pub booked_names : (h : ℕ → Bool) → Fitting h sp.first sp.pages → names_of h m sp ≡ Ok tt
  booked_names h f = names h m sp (named h f)

  -- and is opened, with its counts
  pub booked_opens : (h : ℕ → Bool) → Fitting h sp.first sp.pages → opened_of h m sp ≡ Ok (book_of m sp)
  booked_opens h f = opens h m sp (named h f) b.sound

  -- OF A TRUE BOOK: the free page at that position
  pub listed_free : (h : ℕ → Bool) → ((p : ℕ) → sp.first ≤ p → p < sp.first + sp.pages → h p ≡ true) → (k : ℕ) → k < (book_of m sp).free
      → listed_of h m sp (book_of m sp) k ≡ Some (page_at m sp k)
  unfolding listed_of named_of usable_of page_at
  listed_free h w k u =
      let j = slot_of sp.pages (book_of m sp).head k in
      let x = free_usable (m (word_of sp (slot_at j))) (b.lists.frees k u) in
      simp (lt-ltb k (book_of m sp).free u, is_sound sp.pages (book_of m sp) b.sound)
      (simp (held j (slot_in sp.pages (book_of m sp).head k b.sound.head_in (omega (arith, b.sound.room))), ne_eqb _ _ x.no_root, in_pool_lem sp _ x.in_the_pool))
    where
      -- the page of a slot
      held : (j : ℕ) → j < sp.pages → h (sp.first + slot_at j / 512) ≡ true
      held j v = w (sp.first + slot_at j / 512) (omega arith) (omega (arith, b.sound.room, word_page sp.pages (slot_at j) (slot_word sp.pages j v)))
