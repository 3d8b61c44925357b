-- The roles of a new pool, and that tables with these roles are built: the root is empty, and there is no other table.
use Rattle.std.proofs.Common.{◌≡◌, ℕ, ◌+◌, ◌^◌, ◌<◌, ◌≤◌, Bool, true, ◌≢◌, sym, refl, ◌∙◌, arith, le-ltb, lt-ltb, eq-eqb, ne_eqb, le-leb}
use native.Mathlib.Decide.{dec_le, dec_lt, ℕ_discrete}
use borrow.Author.Tests.{lt-leb}
use Rattle.tables.specs.Roles.{Role, foreign, free, aside, book, root, table, Sound, Zero}
use Rattle.tables.specs.Start.{NewRoles}
use Rattle.tables.proofs.Start.{fresh_sound}
use Rattle.pool.specs.declared.Space.{Space}
use Rattle.pool.specs.Layout.{book_pages}
use Rattle.pool.specs.Booked.{setting_of, new_role}
use Rattle.pool.proofs.Pages.{root_page}

-- the root is the page behind the book, and there is a page behind it
pub record New (sp : Space) : Type 0 where
  pub enough : book_pages sp.pages + 2 ≤ sp.pages
  pub behind : sp.root ≡ sp.first + book_pages sp.pages

-- where a page lies, by its role
data LiesByRole (sp : Space) (p : ℕ) : Role → Type 0 where
  in_book : sp.first ≤ p → p < sp.first + book_pages sp.pages → LiesByRole sp p book
  at_root : p ≡ sp.root → LiesByRole sp p root
  beyond : sp.root < p → p < sp.first + sp.pages → LiesByRole sp p free
  out : ¬ ((sp.first ≤ p) × (p < sp.first + sp.pages)) → LiesByRole sp p foreign

module _ {sp : Space} (n : New sp) where
  lies : (p : ℕ) → LiesByRole sp p (new_role sp p)
  unfolding new_role
  lies p = go (dec_le sp.first p) (dec_lt p (sp.first + sp.pages)) (dec_lt p (sp.first + book_pages sp.pages)) (ℕ_discrete p (sp.first + book_pages sp.pages))
    where
      go : Dec (sp.first ≤ p) → Dec (p < sp.first + sp.pages) → Dec (p < sp.first + book_pages sp.pages) → Dec (p ≡ sp.first + book_pages sp.pages) → LiesByRole sp p (new_role sp p)
      go (no a) b c d = rw (lt-leb sp.first p (omega arith)) (out (λ x. a x.0))
      go (yes a) (no b) c d = rw (le-leb sp.first p a, le-ltb p (sp.first + sp.pages) (omega arith)) (out (λ x. b x.1))
      go (yes a) (yes b) (yes c) d =
          rw (le-leb sp.first p a, lt-ltb p (sp.first + sp.pages) b, lt-ltb p (sp.first + book_pages sp.pages) c) (in_book a c)
      go (yes a) (yes b) (no c) (yes d) =
          rw (le-leb sp.first p a, lt-ltb p (sp.first + sp.pages) b, le-ltb p (sp.first + book_pages sp.pages) (omega arith), eq-eqb p (sp.first + book_pages sp.pages) d)
          (at_root (d ∙ sym n.behind))
      go (yes a) (yes b) (no c) (no d) =
          rw (le-leb sp.first p a, lt-ltb p (sp.first + sp.pages) b, le-ltb p (sp.first + book_pages sp.pages) (omega arith), ne_eqb p (sp.first + book_pages sp.pages) d)
          (beyond (omega (arith, n.behind)) b)

  -- its role, by where it lies
  role_book : (r : Role) (p : ℕ) → LiesByRole sp p r → sp.first ≤ p → p < sp.first + book_pages sp.pages → r ≡ book
  role_book r p (in_book x y) u v = refl
  role_book r p (at_root x) u v = absurd (omega (arith, n.behind))
  role_book r p (beyond x y) u v = absurd (omega (arith, n.behind))
  role_book r p (out x) u v = absurd (x (u, omega (arith, n.enough)))

  role_root : (r : Role) → LiesByRole sp sp.root r → r ≡ root
  role_root r (in_book x y) = absurd (omega (arith, n.behind))
  role_root r (at_root x) = refl
  role_root r (beyond x y) = absurd (omega arith)
  role_root r (out x) = absurd (x (omega (arith, n.behind), omega (arith, n.behind, n.enough)))

  role_free : (r : Role) (p : ℕ) → LiesByRole sp p r → sp.root < p → p < sp.first + sp.pages → r ≡ free
  role_free r p (in_book x y) u v = absurd (omega (arith, n.behind))
  role_free r p (at_root x) u v = absurd (omega arith)
  role_free r p (beyond x y) u v = refl
  role_free r p (out x) u v = absurd (x (omega (arith, n.behind), v))

  pub new_book : (p : ℕ) → sp.first ≤ p → p < sp.first + book_pages sp.pages → new_role sp p ≡ book
  new_book p u v = role_book (new_role sp p) p (lies p) u v

  pub new_root : new_role sp sp.root ≡ root
  new_root = role_root (new_role sp sp.root) (lies sp.root)

  pub new_free_lem : (p : ℕ) → sp.root < p → p < sp.first + sp.pages → new_role sp p ≡ free
  new_free_lem p u v = role_free (new_role sp p) p (lies p) u v

  -- where it lies, by its role
  pub book_lies : (p : ℕ) → new_role sp p ≡ book → (sp.first ≤ p) × (p < sp.first + book_pages sp.pages)
  book_lies p e = go (new_role sp p) (lies p) e
    where
      go : (r : Role) → LiesByRole sp p r → r ≡ book → (sp.first ≤ p) × (p < sp.first + book_pages sp.pages)
      go r (in_book x y) e = (x, y)
      go r (at_root x) e = let z : ◌≡◌ {A = ℕ} 0 1 = cc in absurd (omega arith)
      go r (beyond x y) e = let z : ◌≡◌ {A = ℕ} 0 1 = cc in absurd (omega arith)
      go r (out x) e = let z : ◌≡◌ {A = ℕ} 0 1 = cc in absurd (omega arith)

  pub free_lies : (p : ℕ) → new_role sp p ≡ free → (sp.root < p) × (p < sp.first + sp.pages)
  free_lies p e = go (new_role sp p) (lies p) e
    where
      go : (r : Role) → LiesByRole sp p r → r ≡ free → (sp.root < p) × (p < sp.first + sp.pages)
      go r (in_book x y) e = let z : ◌≡◌ {A = ℕ} 0 1 = cc in absurd (omega arith)
      go r (at_root x) e = let z : ◌≡◌ {A = ℕ} 0 1 = cc in absurd (omega arith)
      go r (beyond x y) e = (x, y)
      go r (out x) e = let z : ◌≡◌ {A = ℕ} 0 1 = cc in absurd (omega arith)

  -- what no page is
  pub never_aside : (p : ℕ) → new_role sp p ≢ aside
  never_aside p e = go (new_role sp p) (lies p) e
    where
      go : (r : Role) → LiesByRole sp p r → r ≢ aside
      go r (in_book x y) e = let z : ◌≡◌ {A = ℕ} 0 1 = cc in omega arith
      go r (at_root x) e = let z : ◌≡◌ {A = ℕ} 0 1 = cc in omega arith
      go r (beyond x y) e = let z : ◌≡◌ {A = ℕ} 0 1 = cc in omega arith
      go r (out x) e = let z : ◌≡◌ {A = ℕ} 0 1 = cc in omega arith

  never_table : (p l q i : ℕ) → new_role sp p ≢ table l q i
  never_table p l q i e = go (new_role sp p) (lies p) e
    where
      go : (r : Role) → LiesByRole sp p r → r ≢ table l q i
      go r (in_book x y) e = let z : ◌≡◌ {A = ℕ} 0 1 = cc in omega arith
      go r (at_root x) e = let z : ◌≡◌ {A = ℕ} 0 1 = cc in omega arith
      go r (beyond x y) e = let z : ◌≡◌ {A = ℕ} 0 1 = cc in omega arith
      go r (out x) e = let z : ◌≡◌ {A = ℕ} 0 1 = cc in omega arith

  in_pool_lem : (p : ℕ) → new_role sp p ≢ foreign → (sp.first ≤ p) × (p < sp.first + sp.pages)
  in_pool_lem p d = go (new_role sp p) (lies p) d
    where
      go : (r : Role) → LiesByRole sp p r → r ≢ foreign → (sp.first ≤ p) × (p < sp.first + sp.pages)
      go r (in_book x y) d = (x, omega (arith, n.enough))
      go r (at_root x) d = (omega (arith, n.behind), omega (arith, n.behind, n.enough))
      go r (beyond x y) d = (omega (arith, n.behind), y)
      go r (out x) d = absurd (d refl)

  not_foreign : (p : ℕ) → sp.first ≤ p → p < sp.first + sp.pages → new_role sp p ≢ foreign
  not_foreign p u v e = go (new_role sp p) (lies p) e
    where
      go : (r : Role) → LiesByRole sp p r → r ≢ foreign
      go r (in_book x y) e = let z : ◌≡◌ {A = ℕ} 0 1 = cc in omega arith
      go r (at_root x) e = let z : ◌≡◌ {A = ℕ} 0 1 = cc in omega arith
      go r (beyond x y) e = let z : ◌≡◌ {A = ℕ} 0 1 = cc in omega arith
      go r (out x) e = x (u, v)

  root_lies : (p : ℕ) → new_role sp p ≡ root → p ≡ sp.root
  root_lies p e = go (new_role sp p) (lies p) e
    where
      go : (r : Role) → LiesByRole sp p r → r ≡ root → p ≡ sp.root
      go r (in_book x y) e = let z : ◌≡◌ {A = ℕ} 0 1 = cc in absurd (omega arith)
      go r (at_root x) e = x
      go r (beyond x y) e = let z : ◌≡◌ {A = ℕ} 0 1 = cc in absurd (omega arith)
      go r (out x) e = let z : ◌≡◌ {A = ℕ} 0 1 = cc in absurd (omega arith)

  -- TABLES OF A NEW POOL ARE BUILT, if its pages lie in the window and the root's words are 0
  pub new_sound : (h : ℕ → Bool) (m : ℕ → ℕ) → sp.root < 2 ^ 40 → ((p : ℕ) → sp.first ≤ p → p < sp.first + sp.pages → h p ≡ true) → Zero m sp.root
      → Sound (setting_of h sp) m (new_role sp)
  new_sound h m low w z = fresh_sound m fresh (rw (root_page sp.root low) z)
    where
      fresh : NewRoles (setting_of h sp) (new_role sp)
      fresh = record {
        home = λ p d. let k = in_pool_lem p d in record { from = k.0; upto = k.1; held = w p k.0 k.1 };
        whole = not_foreign;
        starts = rw (root_page sp.root low) new_root;
        alone = λ p e. rw (root_page sp.root low) (root_lies p e);
        bare = never_table;
      }
