-- A BOOK THAT TELLS THE TRUTH: it lists exactly the pages whose role is free, then exactly those whose role is aside, each once.
use Rattle.std.specs.Prelude.{◌≡◌, ℕ, zero, suc, ◌+◌, ◌*◌, ◌<◌, ◌≤◌, Bool, true, false, cond, ◌&&◌, ◌≢◌, ◌==◌, nat_le, nat_lt}
use Rattle.word.specs.Memory.{at, set}
use Rattle.tables.specs.Roles.{Setting, Role, foreign, free, aside, book, root, table}
use Rattle.pool.specs.declared.Space.{Space}
use Rattle.pool.specs.Layout.{signature_at, pages_at, root_at, book_words, book_pages}
use Rattle.pool.specs.Book.{word_of, signature, book_of, page_at, AddsUp}

-- a pool as the tables see it
abbrev pub setting_of : (ℕ → Bool) → Space → Setting
setting_of h sp = record { window = h; lo = sp.first; hi = sp.first + sp.pages; cr3 = 4096 * sp.root }

-- The pages f 0, f 1, .. list the roles: first all n free pages, then all a pages set aside, none twice.
pub record Lists (f : ℕ → ℕ) (n a : ℕ) (role : ℕ → Role) : Type 0 where
  pub frees : (k : ℕ) → k < n → role (f k) ≡ free
  pub asides : (k : ℕ) → k < a → role (f (n + k)) ≡ aside
  pub free_listed : (p : ℕ) → role p ≡ free → (k : ℕ) × (k < n) × (f k ≡ p)
  pub aside_listed : (p : ℕ) → role p ≡ aside → (k : ℕ) × (k < a) × (f (n + k) ≡ p)
  pub once : (j k : ℕ) → j < n + a → k < n + a → f j ≡ f k → j ≡ k

pub record Booked (sp : Space) (m : ℕ → ℕ) (role : ℕ → Role) : Type 0 where
  pub marked : m (word_of sp signature_at) ≡ signature
  pub sized : m (word_of sp pages_at) ≡ sp.pages
  pub rooted : m (word_of sp root_at) ≡ sp.root
  pub sound : AddsUp sp.pages (book_of m sp)
  pub lists : Lists (page_at m sp) (book_of m sp).free (book_of m sp).aside role
  pub in_book : (p : ℕ) → sp.first ≤ p → p < sp.first + book_pages sp.pages → role p ≡ book
  pub no_other : (p : ℕ) → role p ≡ book → (sp.first ≤ p) × (p < sp.first + book_pages sp.pages)

-- no other page of the pool begins as a book does
abbrev pub Alone : Space → (ℕ → ℕ) → Type 0
Alone sp m = (p : ℕ) → sp.first < p → p < sp.first + sp.pages → m (at p signature_at) ≢ signature

-- the two memories have the same words in the book
pub record SameBook (sp : Space) (m m' : ℕ → ℕ) : Type 0 where
  pub words : (k : ℕ) → k < book_words sp.pages → m' (word_of sp k) ≡ m (word_of sp k)

-- What the three changes make of the roles -------------------------------------------------------------------------------------

-- the pages f 0, .. f (k - 1) become tables, every other page is what it was
pub record Taken (f : ℕ → ℕ) (k : ℕ) (role role' : ℕ → Role) : Type 0 where
  pub tables : (j : ℕ) → j < k → (l : ℕ) × (q : ℕ) × (i : ℕ) × (role' (f j) ≡ table l q i)
  pub stays : (p : ℕ) → ((j : ℕ) → j < k → f j ≢ p) → role' p ≡ role p

-- the pages f n, .. f (n + k - 1) become free
unfoldable pub thawed : (ℕ → ℕ) → ℕ → ℕ → (ℕ → Role) → ℕ → Role
thawed f n zero role = role
thawed f n (suc k) role = set (thawed f n k role) (f (n + k)) free

-- the roles of a release of k pages
abbrev pub released : (ℕ → ℕ) → Space → ℕ → (ℕ → Role) → ℕ → Role
released m sp k = thawed (page_at m sp) (book_of m sp).free k

-- page p is set aside, and has this number: as many were set aside before it
abbrev pub Numbered : (ℕ → ℕ) → Space → ℕ → ℕ → Type 0
Numbered m sp p n =
    (i : ℕ) × (i < (book_of m sp).aside) × (page_at m sp ((book_of m sp).free + i) ≡ p) × (n ≡ (book_of m sp).tickets + i)

-- How many pages -----------------------------------------------------------------------------------------------------------------

-- of n from lo on, those of which t holds
unfoldable pub how_many : (ℕ → Bool) → ℕ → ℕ → ℕ
how_many t lo zero = 0
how_many t lo (suc n) = cond (t (lo + n)) 1 0 + how_many t lo n

abbrev pub is_free : Role → Bool
is_free foreign = false
is_free free = true
is_free aside = false
is_free book = false
is_free root = false
is_free (table l q i) = false

abbrev pub is_aside : Role → Bool
is_aside foreign = false
is_aside free = false
is_aside aside = true
is_aside book = false
is_aside root = false
is_aside (table l q i) = false

abbrev pub is_book : Role → Bool
is_book foreign = false
is_book free = false
is_book aside = false
is_book book = true
is_book root = false
is_book (table l q i) = false

abbrev pub is_root : Role → Bool
is_root foreign = false
is_root free = false
is_root aside = false
is_root book = false
is_root root = true
is_root (table l q i) = false

abbrev pub is_table : Role → Bool
is_table foreign = false
is_table free = false
is_table aside = false
is_table book = false
is_table root = false
is_table (table l q i) = true

-- the tables of a pool, but for its root
abbrev pub tables_of : Space → (ℕ → Role) → ℕ
tables_of sp role = how_many (λ p. is_table (role p)) sp.first sp.pages

-- A new pool ---------------------------------------------------------------------------------------------------------------------

-- the book, the root, and free pages
unfoldable pub new_role : Space → ℕ → Role
new_role sp p =
    cond (nat_le sp.first p && nat_lt p (sp.first + sp.pages))
    (cond (nat_lt p (sp.first + book_pages sp.pages)) book (cond (p == sp.first + book_pages sp.pages) root free))
    foreign

-- The pages of the pool, and no others, have roles here, and the root is one of them.
pub record Owned (sp : Space) (role : ℕ → Role) : Type 0 where
  pub home : (p : ℕ) → role p ≢ foreign → (sp.first ≤ p) × (p < sp.first + sp.pages)
  pub whole : (p : ℕ) → sp.first ≤ p → p < sp.first + sp.pages → role p ≢ foreign
  pub starts : role sp.root ≡ root
  pub alone : (p : ℕ) → role p ≡ root → p ≡ sp.root

-- A PAGE OF THE POOL IS EXACTLY ONE OF FIVE: its role is one, and the book's bytes and the root say which.
pub data OneOf (sp : Space) (m : ℕ → ℕ) (p : ℕ) : Role → Type 0 where
  of_book : sp.first ≤ p → p < sp.first + book_pages sp.pages → OneOf sp m p book
  listed_free : (k : ℕ) → k < (book_of m sp).free → page_at m sp k ≡ p → OneOf sp m p free
  listed_aside : (k : ℕ) → k < (book_of m sp).aside → page_at m sp ((book_of m sp).free + k) ≡ p → OneOf sp m p aside
  the_root : p ≡ sp.root → OneOf sp m p root
  a_table : (l q i : ℕ) → OneOf sp m p (table l q i)
