-- NO PAGE IS LOST: what is free, set aside, table, root and book is all of the pool, always.
use Rattle.std.proofs.Common.{◌≡◌, ℕ, ◌+◌, ◌-◌, ◌*◌, ◌^◌, ◌<◌, ◌≤◌, Bool, true, ◌≢◌, sym, refl, ap, ◌∙◌, arith}
use mathlib.Core.Bool.{false≢true}
use Rattle.tables.specs.Roles.{Role, foreign, free, aside, book, root, table, Built}
use Rattle.pool.specs.declared.Space.{Space}
use Rattle.pool.specs.Layout.{book_pages}
use Rattle.pool.specs.Book.{book_of, page_at}
use Rattle.entry.specs.Entry.{table_of}
use Rattle.pool.specs.Booked.{setting_of, Booked, tables_of, how_many, is_free, is_aside, is_book, is_root, Owned, OneOf, of_book, listed_free, listed_aside, the_root, a_table}
use Rattle.pool.proofs.Census.{ListsAll, names_count, census}

-- the root's page, from CR3
pub root_page : (p : ℕ) → p < 2 ^ 40 → table_of (4096 * p) ≡ p
unfolding table_of
root_page p u = omega arith

-- so it is in tables that we built
pub built_owned : (h : ℕ → Bool) (sp : Space) (m : ℕ → ℕ) (role : ℕ → Role) → sp.root < 2 ^ 40 → Built (setting_of h sp) m role → Owned sp role
built_owned h sp m role u b = record {
  home = λ p n. let k = b.home p n in (k.from, k.upto);
  whole = b.whole;
  starts = rw (root_page sp.root u) at b.starts;
  alone = λ p e. b.alone p e ∙ root_page sp.root u;
}

-- What a test says of a role
free_is : (r : Role) → is_free r ≡ true → r ≡ free
free_is foreign e = absurd (false≢true e)
free_is free e = refl
free_is aside e = absurd (false≢true e)
free_is book e = absurd (false≢true e)
free_is root e = absurd (false≢true e)
free_is (table l q i) e = absurd (false≢true e)

aside_is : (r : Role) → is_aside r ≡ true → r ≡ aside
aside_is foreign e = absurd (false≢true e)
aside_is free e = absurd (false≢true e)
aside_is aside e = refl
aside_is book e = absurd (false≢true e)
aside_is root e = absurd (false≢true e)
aside_is (table l q i) e = absurd (false≢true e)

book_is : (r : Role) → is_book r ≡ true → r ≡ book
book_is foreign e = absurd (false≢true e)
book_is free e = absurd (false≢true e)
book_is aside e = absurd (false≢true e)
book_is book e = refl
book_is root e = absurd (false≢true e)
book_is (table l q i) e = absurd (false≢true e)

root_is : (r : Role) → is_root r ≡ true → r ≡ root
root_is foreign e = absurd (false≢true e)
root_is free e = absurd (false≢true e)
root_is aside e = absurd (false≢true e)
root_is book e = absurd (false≢true e)
root_is root e = refl
root_is (table l q i) e = absurd (false≢true e)

module _ {sp : Space} {role : ℕ → Role} (o : Owned sp role) where
  -- a page with a role that is not foreign is one of the pool's
  within : (t : Role → Bool) (x : Role) → t x ≡ true → x ≢ foreign → (p : ℕ) → role p ≡ x → (sp.first ≤ p) × (p < sp.first + sp.pages) × (t (role p) ≡ true)
  within t x y n p e = let k = o.home p (λ z. n (sym e ∙ z)) in (k.0, k.1, ap t e ∙ y)

  root_names : ListsAll (λ p. is_root (role p)) sp.first sp.pages (λ j. sp.root) 1
  root_names = record {
    within = λ j u. within is_root root refl (λ e. let z : ◌≡◌ {A = ℕ} 0 1 = cc in omega arith) sp.root o.starts;
    all = λ p u v e. (0, omega arith, sym (o.alone p (root_is (role p) e)));
    once = λ i j u v e. omega arith;
  }

  module _ {m : ℕ → ℕ} (b : Booked sp m role) where
    free_names : ListsAll (λ p. is_free (role p)) sp.first sp.pages (page_at m sp) (book_of m sp).free
    free_names = record {
      within = λ j u. within is_free free refl (λ e. let z : ◌≡◌ {A = ℕ} 0 1 = cc in omega arith) (page_at m sp j) (b.lists.frees j u);
      all = λ p u v e. b.lists.free_listed p (free_is (role p) e);
      once = λ i j u v e. b.lists.once i j (omega arith) (omega arith) e;
    }

    aside_names : ListsAll (λ p. is_aside (role p)) sp.first sp.pages (λ j. page_at m sp ((book_of m sp).free + j)) (book_of m sp).aside
    aside_names = record {
      within = λ j u. within is_aside aside refl (λ e. let z : ◌≡◌ {A = ℕ} 0 1 = cc in omega arith) (page_at m sp ((book_of m sp).free + j)) (b.lists.asides j u);
      all = λ p u v e. b.lists.aside_listed p (aside_is (role p) e);
      once = λ i j u v e. let r = b.lists.once ((book_of m sp).free + i) ((book_of m sp).free + j) (omega arith) (omega arith) e in omega arith;
    }

    book_names : ListsAll (λ p. is_book (role p)) sp.first sp.pages (λ j. sp.first + j) (book_pages sp.pages)
    book_names = record {
      within = λ j u. within is_book book refl (λ e. let z : ◌≡◌ {A = ℕ} 0 1 = cc in omega arith) (sp.first + j) (b.in_book (sp.first + j) (omega arith) (omega arith));
      all = λ p u v e. let k = b.no_other p (book_is (role p) e) in (p - sp.first, omega (arith, k.0, k.1), omega (arith, k.0));
      once = λ i j u v e. omega arith;
    }

    -- as many pages are free as the book says, and as many set aside
    pub free_count : how_many (λ p. is_free (role p)) sp.first sp.pages ≡ (book_of m sp).free
    free_count = names_count _ sp.first sp.pages (page_at m sp) (book_of m sp).free free_names

    pub aside_count : how_many (λ p. is_aside (role p)) sp.first sp.pages ≡ (book_of m sp).aside
    aside_count = names_count _ sp.first sp.pages (λ j. page_at m sp ((book_of m sp).free + j)) (book_of m sp).aside aside_names

    -- FREE + ASIDE + TABLES + ROOT + BOOK = ALL
    pub adds_up : (book_of m sp).free + (book_of m sp).aside + tables_of sp role + 1 + book_pages sp.pages ≡ sp.pages
    adds_up =
        rw (free_count, aside_count, names_count _ sp.first sp.pages (λ j. sp.root) 1 root_names, names_count _ sp.first sp.pages (λ j. sp.first + j) (book_pages sp.pages) book_names) at
        (census role sp.first sp.pages o.whole)

module _ {sp : Space} {m : ℕ → ℕ} {role : ℕ → Role} (o : Owned sp role) (b : Booked sp m role) where
  pub one_of : (p : ℕ) → sp.first ≤ p → p < sp.first + sp.pages → OneOf sp m p (role p)
  one_of p u v = go (role p) refl
    where
      go : (r : Role) → role p ≡ r → OneOf sp m p r
      go foreign e = absurd (o.whole p u v e)
      go free e = let k = b.lists.free_listed p e in listed_free k.0 k.1 k.2
      go aside e = let k = b.lists.aside_listed p e in listed_aside k.0 k.1 k.2
      go book e = let k = b.no_other p e in of_book k.0 k.1
      go root e = the_root (o.alone p e)
      go (table l q i) e = a_table l q i
