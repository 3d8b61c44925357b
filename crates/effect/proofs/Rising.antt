-- Unmap, table by table: the page's entry is cleared, and then one table after the other is unlinked and set aside, as far as they are empty.
use Prim.Native.Nat.{ℕ, suc, ◌+◌, ◌^◌, ◌<◌, ◌≤◌}
use mathlib.Core.Bool.{Bool}
use mathlib.Core.List.{List, [], ◌∷◌, ◌++◌, append_assoc}
use mathlib.Core.Logic.{◌⊎◌, inl, inr}
use mathlib.Core.Path.{◌≡◌, sym, ap, ◌∙◌, subst, subst₂}
use native.Mathlib.Decide.{ℕ_discrete}
use native.Mathlib.Omega.{arith}
use Rattle.word.specs.Memory.{set}
use Rattle.word.specs.Writes.{Write, write, after, Every}
use Rattle.word.proofs.Writes.{every_one, every_append}
use Rattle.word.proofs.Set.{set_at, set_other}
use Rattle.entry.specs.Entry.{everything}
use Rattle.walk.specs.Walk.{index_of}
use Rattle.walk.proofs.Digits.{index_lt}
use Rattle.tables.specs.Roles.{Role, aside, table, left, Bare}
use Rattle.tables.specs.Way.{Comes, onto}
use Rattle.tables.proofs.Way.{onto_role}
use Rattle.tables.proofs.Up.{Up, up_step, up_spare}
use Rattle.pool.specs.Book.{book_of, ticket_of}
use Rattle.pool.specs.Booked.{setting_of, Booked, Numbered}
use Rattle.pool.specs.Changes.{aside_writes, aside_book}
use Rattle.pool.specs.declared.Space.{Space}
use Rattle.pool.specs.declared.Book.{Book}
use Rattle.pool.proofs.Booked.{Beside, book_beside, numbered_beside, booked_beside}
use Rattle.pool.proofs.Counting.{InPool, pool_in, is_sound}
use Rattle.pool.proofs.Pages.{built_owned}
use Rattle.pool.proofs.Proper.{OfBook, aside_proper}
use Rattle.pool.proofs.SettingAside.{aside_book_lem, aside_booked, aside_numbered, aside_others}
use Rattle.effect.specs.OfPool.{OfPool}
use Rattle.effect.specs.UnmapDone.{aside_more, SetAside}
use Rattle.effect.proofs.Trace.{NamesTable, live_in_pool}
use Rattle.effect.proofs.Wholes.{in_beside, in_of_pool, book_of_pool, book_spares}

-- a book with more pages set aside: none, one, and one more
abbrev with_aside : Book → ℕ → Book
with_aside b n = record { head = b.head; free = b.free; aside = n; tickets = b.tickets }

pub aside_none : (b : Book) → b ≡ aside_more 0 b
aside_none b = let e : b.aside ≡ b.aside + 0 = omega arith in ap (with_aside b) e

pub aside_more_lem : (n : ℕ) (b : Book) → aside_more 1 (aside_more n b) ≡ aside_more (suc n) b
aside_more_lem n b = let e : b.aside + n + 1 ≡ b.aside + suc n = omega arith in ap (with_aside b) e

pub aside_one : (sp : Space) (m : ℕ → ℕ) {role : ℕ → Role} → Booked sp m role → aside_book sp (book_of m sp) ≡ aside_more 1 (book_of m sp)
unfolding aside_book
aside_one sp m b = rw (is_sound sp.pages (book_of m sp) b.sound)

-- THE WAY UP, with the book: from m₀ on xs was written, n tables were unlinked and set aside, and t may be empty.
pub record Rising (h : ℕ → Bool) (sp : Space) (m₀ : ℕ → ℕ) (role₀ : ℕ → Role) (va l n : ℕ) (xs : List Write) (role : ℕ → Role) (k t : ℕ) : Type 0 where
  pub up : Up (setting_of h sp) m₀ role₀ va l xs (after m₀ xs) role k t
  pub booked : Booked sp (after m₀ xs) role
  pub proper : Every (OfPool sp) xs
  pub book : book_of (after m₀ xs) sp ≡ aside_more n (book_of m₀ sp)
  pub fate : (p : ℕ) → (role p ≡ role₀ p) ⊎ SetAside sp role₀ role (after m₀ xs) (ticket_of (book_of m₀ sp)) (ticket_of (book_of m₀ sp) + n) p
  pub on_way : (p : ℕ) → (role p ≡ role₀ p) ⊎ Comes (setting_of h sp) m₀ va (left (role₀ p)) p
  pub numbers : (p j : ℕ) → Numbered m₀ sp p j → Numbered (after m₀ xs) sp p j

-- what is written when the table t, named by entry i of page r, is unlinked and set aside
abbrev pub cutting : Space → ℕ → ℕ → ℕ → Book → List Write
cutting sp r i t b = write r i 0 ∷ aside_writes sp b t

module _ {h : ℕ → Bool} {sp : Space} {m₀ : ℕ → ℕ} {role₀ : ℕ → Role} {va l n : ℕ} {xs : List Write} {role : ℕ → Role} {k t : ℕ}
    (low : sp.root < 2 ^ 40) (small : sp.first + sp.pages ≤ 2 ^ 40)
    (d : Rising h sp m₀ role₀ va l n xs role k t) (r : ℕ) (names : NamesTable (setting_of h sp) m₀ va (suc k) r t) (bare : Bare (after m₀ xs) (suc k) t) where
  abbrev i : ℕ
  i = index_of (suc k) va

  abbrev m : ℕ → ℕ
  m = after m₀ xs

  was : role₀ t ≡ table (suc k) r i
  was = (onto_role d.up.first names.comes names.names).0

  named : role t ≡ table (suc k) r i
  named = d.up.roles t (omega (arith, ap left was)) ∙ was

  -- the parent's page
  parent : InPool sp r
  parent = pool_in sp r (live_in_pool d.up.turns.built d.booked (d.up.turns.built.up t (suc k) r i named).0).0

  -- the table's
  child : InPool sp t
  child = pool_in sp t (live_in_pool d.up.turns.built d.booked (ap left named)).0

  -- the entry is cleared
  unlinked_memory : ℕ → ℕ
  unlinked_memory = after m (write r i 0 ∷ [])

  beside : Every (Beside sp) (write r i 0 ∷ [])
  beside = every_one r i 0 (in_beside parent) (index_lt (suc k) va) (omega arith)

  middle : Booked sp unlinked_memory role
  unfolding unlinked_memory
  middle = booked_beside sp m (write r i 0 ∷ []) beside d.booked

  same_book : book_of unlinked_memory sp ≡ book_of m sp
  unfolding unlinked_memory
  same_book = book_beside sp m (write r i 0 ∷ []) beside

  -- then the book is written
  ys : List Write
  ys = aside_writes sp (book_of unlinked_memory sp) t

  ys_book : Every (OfBook sp) ys
  unfolding ys
  ys_book = aside_proper sp (book_of unlinked_memory sp) t (omega (arith, child.before_end))

  done : Booked sp (after unlinked_memory ys) (set role t aside)
  unfolding ys
  done = aside_booked middle t (built_owned h sp m role low d.up.turns.built) (suc k) r i named

  up_then : Up (setting_of h sp) m₀ role₀ va l ((xs ++ (write r i 0 ∷ [])) ++ ys) (after unlinked_memory ys) (set role t aside) (suc k) r
  unfolding unlinked_memory after
  up_then = up_spare ys (up_step r everything d.up names.comes names.names bare) (book_spares done ys ys_book)

  -- the list, and the memory, as they are written
  list_is : (xs ++ (write r i 0 ∷ [])) ++ ys ≡ xs ++ cutting sp r i t (book_of m sp)
  unfolding ys
  list_is = append_assoc xs (write r i 0 ∷ []) ys ∙ ap (λ (b : Book). xs ++ cutting sp r i t b) same_book

  memory_is : after unlinked_memory ys ≡ after m₀ (xs ++ cutting sp r i t (book_of m sp))
  memory_is = up_then.now ∙ ap (after m₀) list_is

  end : ℕ → ℕ
  end = after unlinked_memory ys

  book_then : book_of end sp ≡ aside_more (suc n) (book_of m₀ sp)
  unfolding end ys
  book_then =
      sym (aside_book_lem middle t) ∙ aside_one sp unlinked_memory middle ∙ ap (aside_more 1) (same_book ∙ d.book) ∙ aside_more_lem n (book_of m₀ sp)

  tickets_then : ((book_of unlinked_memory sp).tickets ≡ (book_of m₀ sp).tickets) × ((book_of unlinked_memory sp).aside ≡ (book_of m₀ sp).aside + n)
  tickets_then = let e : book_of unlinked_memory sp ≡ aside_more n (book_of m₀ sp) = same_book ∙ d.book in (ap (λ (b : Book). b.tickets) e, ap (λ (b : Book). b.aside) e)

  kept_number : (p j : ℕ) → Numbered m sp p j → Numbered end sp p j
  unfolding end ys unlinked_memory
  kept_number p j e = aside_others middle t p j (numbered_beside sp m (write r i 0 ∷ []) beside d.booked p j e)

  abbrev Fate : ℕ → Type 0
  Fate p = (set role t aside p ≡ role₀ p) ⊎ SetAside sp role₀ (set role t aside) end (ticket_of (book_of m₀ sp)) (ticket_of (book_of m₀ sp) + suc n) p

  fate_then : (p : ℕ) → Fate p
  fate_then p = go (ℕ_discrete t p) (d.fate p)
    where
      go : Dec (t ≡ p) → (role p ≡ role₀ p) ⊎ SetAside sp role₀ role m (ticket_of (book_of m₀ sp)) (ticket_of (book_of m₀ sp) + n) p → Fate p
      go (yes e) o = inr (record {
        levels = suc k;
        parent = r;
        index = i;
        was = ap role₀ (sym e) ∙ was;
        is = set_at role t aside p e;
        number = (book_of unlinked_memory sp).tickets + (book_of unlinked_memory sp).aside;
        numbered = subst (λ x. Numbered end sp x ((book_of unlinked_memory sp).tickets + (book_of unlinked_memory sp).aside)) e (unfold end ys in aside_numbered middle t);
        since = omega (arith, tickets_then.0, tickets_then.1);
        below = omega (arith, tickets_then.0, tickets_then.1);
      })
      go (no e) (inl o) = inl (set_other role t aside p e ∙ o)
      go (no e) (inr o) = inr (record {
        levels = o.levels;
        parent = o.parent;
        index = o.index;
        was = o.was;
        is = set_other role t aside p e ∙ o.is;
        number = o.number;
        numbered = kept_number p o.number o.numbered;
        since = o.since;
        below = omega (arith, o.below);
      })

  -- the table lies on the way of va
  on_way_then : (p : ℕ) → (set role t aside p ≡ role₀ p) ⊎ Comes (setting_of h sp) m₀ va (left (role₀ p)) p
  on_way_then p = go (ℕ_discrete t p) (d.on_way p)
    where
      go : Dec (t ≡ p) → (role p ≡ role₀ p) ⊎ Comes (setting_of h sp) m₀ va (left (role₀ p)) p
          → (set role t aside p ≡ role₀ p) ⊎ Comes (setting_of h sp) m₀ va (left (role₀ p)) p
      go (yes e) o =
          inr (subst (λ x. Comes (setting_of h sp) m₀ va (left (role₀ x)) x) e
          (subst (λ j. Comes (setting_of h sp) m₀ va j t) (sym (ap left was)) (onto r everything names.comes names.names)))
      go (no e) (inl o) = inl (set_other role t aside p e ∙ o)
      go (no e) (inr o) = inr o

  -- ONE TABLE MORE
  pub rising_step : Rising h sp m₀ role₀ va l (suc n) (xs ++ cutting sp r i t (book_of m sp)) (set role t aside) (suc k) r
  rising_step = record {
    up = subst₂ (λ x y. Up (setting_of h sp) m₀ role₀ va l x y (set role t aside) (suc k) r) list_is memory_is up_then;
    booked = subst (λ x. Booked sp x (set role t aside)) memory_is done;
    proper = subst (Every (OfPool sp)) list_is (every_append (xs ++ (write r i 0 ∷ [])) ys (every_append xs (write r i 0 ∷ []) d.proper (every_one r i 0 (in_of_pool parent) (index_lt (suc k) va) (omega arith))) (book_of_pool done ys ys_book));
    book = subst (λ x. book_of x sp ≡ aside_more (suc n) (book_of m₀ sp)) memory_is (unfold end in book_then);
    fate = subst (λ y. (p : ℕ) → (set role t aside p ≡ role₀ p) ⊎ SetAside sp role₀ (set role t aside) y (ticket_of (book_of m₀ sp)) (ticket_of (book_of m₀ sp) + suc n) p) memory_is (unfold end in fate_then);
    on_way = on_way_then;
    numbers = λ p j e. subst (λ y. Numbered y sp p j) memory_is (unfold end in kept_number p j (d.numbers p j e));
  }
