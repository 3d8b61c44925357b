-- Unmap, all the way: after the page's entry each empty table is unlinked and set aside; and that this is what is written.
use Prim.Native.Nat.{ℕ, zero, suc, ◌+◌, ◌^◌, ◌<◌, ◌≤◌}
use mathlib.Core.Bool.{Bool, true}
use mathlib.Core.List.{List, [], ◌∷◌, ◌++◌, append_assoc, append-nil}
use mathlib.Core.Logic.{◌⊎◌, inl, inr}
use mathlib.Core.Path.{◌≡◌, refl, sym, ap, ap₂, ◌∙◌}
use native.Mathlib.Omega.{arith}
use borrow.Author.Tests.{le-leb, lt-leb}
use Rattle.word.specs.Memory.{set}
use Rattle.word.specs.Writes.{Write, write, after, Every}
use Rattle.word.proofs.Writes.{every_one}
use Rattle.walk.specs.Walk.{index_of}
use Rattle.walk.proofs.Digits.{index_lt}
use Rattle.walk.specs.declared.Found.TheVariants as found
use Rattle.tables.specs.Roles.{Role, aside}
use Rattle.tables.specs.Way.{Comes}
use Rattle.tables.proofs.Way.{comes_left}
use Rattle.tables.proofs.Up.{Stays, up_start, up_bare, up_holds, unmap_done}
use Rattle.tables.specs.Operation.{Changed}
use Rattle.pool.proofs.Alone.{Unmarking, unmarking_one, unmarking_append, aside_unmarking}
use Rattle.pool.specs.Book.{book_of}
use Rattle.pool.specs.Booked.{setting_of}
use Rattle.pool.specs.Changes.{aside_book}
use Rattle.pool.specs.declared.Space.{Space}
use Rattle.pool.specs.declared.Book.{Book}
use Rattle.pool.proofs.Booked.{Beside, book_beside, numbered_beside, booked_beside}
use Rattle.plan.specs.declared.descent.Way.{Way}
use Rattle.plan.specs.declared.finding.PageEntry.{PageEntry}
use Rattle.plan.specs.declared.unmaps.Removal.{Removal}
use Rattle.word.specs.Scan.{besides_of}
use Rattle.plan.specs.Unmap.{cut_writes, cut_book, book1, book2, writes_of}
use Rattle.effect.specs.UnmapDone.{aside_more}
use Rattle.effect.specs.Whole.{Whole}
use Rattle.effect.proofs.Emptying.{table_at, level_at, Empty, Emptied, keeps_no, keeps_yes}
use Rattle.effect.proofs.Located.{Located}
use Rattle.effect.proofs.Rising.{aside_none, aside_one, aside_more_lem, Rising, cutting, rising_step}
use Rattle.effect.proofs.Trace.{NamesTable}
use Rattle.effect.proofs.Wholes.{root_low, live_in, live_held, in_beside, in_of_pool}

-- One cut of a plan ----------------------------------------------------------------------------------------------------------------

pub cut_is : (sp : Space) (k n parent i i' child : ℕ) (b b' : Book) → k < n → i ≡ i' → b ≡ b' → cut_writes sp k n parent i child b ≡ cutting sp parent i' child b'
unfolding cut_writes
cut_is sp k n parent i i' child b b' u e f = rw (lt-leb n k u) (ap₂ (λ (x : ℕ) (y : Book). cutting sp parent x child y) e f)

pub cut_none : (sp : Space) (k n parent i child : ℕ) (b : Book) → n ≤ k → cut_writes sp k n parent i child b ≡ []
unfolding cut_writes
cut_none sp k n parent i child b u = rw (le-leb n k u)

cut_book_lem : (sp : Space) (k n : ℕ) (b : Book) → k < n → cut_book sp k n b ≡ aside_book sp b
unfolding cut_book
cut_book_lem sp k n b u = rw (lt-leb n k u)

-- three lists, of which the last ones may be empty
gather0 : (x a b c : List Write) → a ≡ [] → b ≡ [] → c ≡ [] → x ++ (a ++ (b ++ c)) ≡ x
gather0 x a b c e f g = rw (e, f, g) (append-nil x)

gather1 : (x a b c a' : List Write) → a ≡ a' → b ≡ [] → c ≡ [] → x ++ (a ++ (b ++ c)) ≡ x ++ a'
gather1 x a b c a' e f g = rw (e, f, g) (ap (λ y. x ++ y) (append-nil a'))

gather2 : (x a b c a' b' : List Write) → a ≡ a' → b ≡ b' → c ≡ [] → x ++ (a ++ (b ++ c)) ≡ (x ++ a') ++ b'
gather2 x a b c a' b' e f g = rw (e, f, g) (ap (λ y. x ++ (a' ++ y)) (append-nil b') ∙ sym (append_assoc x a' b'))

gather3 : (x a b c a' b' c' : List Write) → a ≡ a' → b ≡ b' → c ≡ c' → x ++ (a ++ (b ++ c)) ≡ ((x ++ a') ++ b') ++ c'
gather3 x a b c a' b' c' e f g = rw (e, f, g) (sym (append_assoc x a' (b' ++ c')) ∙ sym (append_assoc (x ++ a') b' c'))

-- a number up to 3
four : (P : ℕ → Type 0) (n : ℕ) → n ≤ 3 → (n ≡ 0 → P 0) → (n ≡ 1 → P 1) → (n ≡ 2 → P 2) → (n ≡ 3 → P 3) → P n
four P zero u a b c d = a refl
four P (suc zero) u a b c d = b refl
four P (suc (suc zero)) u a b c d = c refl
four P (suc (suc (suc zero))) u a b c d = d refl
four P (suc (suc (suc (suc n)))) u a b c d = absurd (omega arith)

-- All of them ------------------------------------------------------------------------------------------------------------------------

-- the page's entry is cleared
abbrev clear : ℕ → Way → List Write
clear va y = write y.a (index_of y.level va) 0 ∷ []

-- what is written until j tables are set aside
pub cuts : Space → (ℕ → ℕ) → ℕ → Way → ℕ → List Write
cuts sp m va y zero = clear va y
cuts sp m va y (suc j) = cuts sp m va y j ++ cutting sp (table_at y (suc j)) (index_of (suc (level_at y j)) va) (table_at y j) (book_of (after m (cuts sp m va y j)) sp)

-- none of it is the signature: the numbers of the tables are small
pub cuts_unmarking : (sp : Space) (m : ℕ → ℕ) (va : ℕ) (y : Way) (n : ℕ) → ((j : ℕ) → j < n → table_at y j < 2 ^ 40) → Unmarking (cuts sp m va y n)
unfolding cuts cutting
cuts_unmarking sp m va y zero u = unmarking_one _ _ 0 (λ e. omega arith)
cuts_unmarking sp m va y (suc n) u =
    unmarking_append (cuts sp m va y n) _ (cuts_unmarking sp m va y n (λ j v. u j (omega arith)))
    (unmarking_append (write _ _ 0 ∷ []) _ (unmarking_one _ _ 0 (λ e. omega arith)) (aside_unmarking sp _ (table_at y n) (λ e. omega (arith, e, u n (omega arith)))))

-- the roles then
pub cut_roles : (ℕ → Role) → Way → ℕ → ℕ → Role
cut_roles role y zero = role
cut_roles role y (suc j) = set (cut_roles role y j) (table_at y j) aside

-- the removal of a page, with n tables
abbrev pub removal : PageEntry → ℕ → Book → Removal
removal s n b = record { page = s; empties = n; book = b }

module _ {h : ℕ → Bool} {sp : Space} {m : ℕ → ℕ} {role : ℕ → Role} (w : Whole h sp m role) (va : ℕ) (s : PageEntry) (k : Located (setting_of h sp) m role va s) where
  -- the tables of the way name each other, and the walk comes to each
  names_at : (j : ℕ) → level_at s.way j < 3 → NamesTable (setting_of h sp) m va (suc (level_at s.way j)) (table_at s.way (suc j)) (table_at s.way j)
  names_at zero u = k.traced.second u
  names_at (suc zero) u = k.traced.third (omega arith)
  names_at (suc (suc zero)) u = k.traced.fourth (omega arith)
  names_at (suc (suc (suc j))) u = absurd (omega arith)

  comes_at : (j : ℕ) → level_at s.way j < 4 → Comes (setting_of h sp) m va (suc (level_at s.way j)) (table_at s.way j)
  comes_at zero u = k.comes
  comes_at (suc j) u = (names_at j (omega arith)).comes

  held_at : (j : ℕ) → level_at s.way j < 4 → h (table_at s.way j) ≡ true
  held_at j u = live_held w (comes_left w.sound.built (comes_at j u))

  beside : Every (Beside sp) (clear va s.way)
  beside = every_one s.way.a (index_of s.way.level va) 0 (in_beside (live_in w k.live)) (index_lt s.way.level va) (omega arith)

  risen_first : Rising h sp m role va s.way.level 0 (clear va s.way) role s.way.level s.way.a
  risen_first = record {
    up = unfold after in up_start s.frame k.rights w.sound k.comes k.entry;
    booked = booked_beside sp m (clear va s.way) beside w.booked;
    proper = every_one s.way.a (index_of s.way.level va) 0 (in_of_pool (live_in w k.live)) (index_lt s.way.level va) (omega arith);
    book = book_beside sp m (clear va s.way) beside ∙ aside_none (book_of m sp);
    fate = λ p. inl refl;
    on_way = λ p. inl refl;
    numbers = numbered_beside sp m (clear va s.way) beside w.booked;
  }

  -- AS FAR AS THEY ARE EMPTY
  pub risen : (j : ℕ) → Empty h m va s.way j
      → Rising h sp m role va s.way.level j (cuts sp m va s.way j) (cut_roles role s.way j) (level_at s.way j) (table_at s.way j)
  unfolding cuts cut_roles
  risen zero f = risen_first
  risen (suc j) f =
      let d = risen j (λ i u. f i (omega arith)) in
      let e = f j (omega arith) in
      rising_step (root_low w) w.small d (table_at s.way (suc j)) (names_at j e.0)
      (up_bare d.up (keeps_no h m (table_at s.way j) (index_of (level_at s.way j) va) (held_at j (omega (arith, e.0))) 512 e.1))

  -- the level of the table that stays
  pub last_level : (n : ℕ) → Empty h m va s.way n → level_at s.way n < 4
  last_level zero f = k.low
  last_level (suc n) f = omega (arith, (f n (omega arith)).0)

  -- DONE, at the table that stays
  pub cut_changed : (n : ℕ) → Emptied h m va s.way n
      → Changed (setting_of h sp) m role va s.way.level found.Nothing (cuts sp m va s.way n) (after m (cuts sp m va s.way n)) (cut_roles role s.way n)
  cut_changed n e = unmap_done d.up (stay e.stays)
    where
      d : Rising h sp m role va s.way.level n (cuts sp m va s.way n) (cut_roles role s.way n) (level_at s.way n) (table_at s.way n)
      d = risen n e.empty

      stay : (3 ≤ level_at s.way n) ⊎ (besides_of h m (table_at s.way n) (index_of (level_at s.way n) va) 512 ≡ true)
          → Stays (after m (cuts sp m va s.way n)) (level_at s.way n) (table_at s.way n)
      stay (inl u) = inr (omega (arith, last_level n e.empty))
      stay (inr x) =
          let o = keeps_yes h m (table_at s.way n) (index_of (level_at s.way n) va) (held_at n (last_level n e.empty)) 512 x in
          inl (up_holds d.up o.0 o.1 o.2 o.3)

  -- The plan's own list ------------------------------------------------------------------------------------------------------------

  -- the book when j tables are set aside
  book_then : ℕ → Book
  book_then j = book_of (after m (cuts sp m va s.way j)) sp

  book_first : book_then 0 ≡ book_of m sp
  unfolding book_then cuts
  book_first = book_beside sp m (clear va s.way) beside

  book_next : (j : ℕ) → Empty h m va s.way (suc j) → aside_book sp (book_then j) ≡ book_then (suc j)
  unfolding book_then
  book_next j f =
      let d = risen j (λ i u. f i (omega arith)) in
      aside_one sp (after m (cuts sp m va s.way j)) d.booked ∙ ap (aside_more 1) d.book ∙ aside_more_lem j (book_of m sp) ∙ sym (risen (suc j) f).book

  module _ (n : ℕ) (b : Book) (f : Empty h m va s.way n) (e : 0 < n → b ≡ book_of m sp) where
    zeroth : 0 < n → b ≡ book_then 0
    zeroth u = e u ∙ sym book_first

    first : 0 < n → book1 sp (removal s n b) ≡ book_then 1
    first u = cut_book_lem sp 0 n b u ∙ ap (aside_book sp) (zeroth u) ∙ book_next 0 (λ j v. f j (omega arith))

    second : 1 < n → book2 sp (removal s n b) ≡ book_then 2
    second u = cut_book_lem sp 1 n (book1 sp (removal s n b)) u ∙ ap (aside_book sp) (first (omega arith)) ∙ book_next 1 (λ j v. f j (omega arith))

    abbrev C0 : List Write
    C0 = cut_writes sp 0 n s.way.b (index_of (s.way.level + 1) va) s.way.a b

    abbrev C1 : List Write
    C1 = cut_writes sp 1 n s.way.c (index_of (s.way.level + 2) va) s.way.b (book1 sp (removal s n b))

    abbrev C2 : List Write
    C2 = cut_writes sp 2 n s.way.d (index_of (s.way.level + 3) va) s.way.c (book2 sp (removal s n b))

    is0 : 0 < n → C0 ≡ cutting sp s.way.b (index_of (suc s.way.level) va) s.way.a (book_then 0)
    is0 u = cut_is sp 0 n _ _ _ _ _ _ u (ap (λ x. index_of x va) (omega arith)) (zeroth u)

    is1 : 1 < n → C1 ≡ cutting sp s.way.c (index_of (suc (suc s.way.level)) va) s.way.b (book_then 1)
    is1 u = cut_is sp 1 n _ _ _ _ _ _ u (ap (λ x. index_of x va) (omega arith)) (first (omega arith))

    is2 : 2 < n → C2 ≡ cutting sp s.way.d (index_of (suc (suc (suc s.way.level))) va) s.way.c (book_then 2)
    is2 u = cut_is sp 2 n _ _ _ _ _ _ u (ap (λ x. index_of x va) (omega arith)) (second (omega arith))

    list0 : n ≡ 0 → clear va s.way ++ (C0 ++ (C1 ++ C2)) ≡ cuts sp m va s.way 0
    unfolding cuts
    list0 z = gather0 (clear va s.way) C0 C1 C2 (cut_none sp 0 n _ _ _ _ (omega arith)) (cut_none sp 1 n _ _ _ _ (omega arith)) (cut_none sp 2 n _ _ _ _ (omega arith))

    list1 : n ≡ 1 → clear va s.way ++ (C0 ++ (C1 ++ C2)) ≡ cuts sp m va s.way 1
    unfolding cuts book_then
    list1 z = gather1 (clear va s.way) C0 C1 C2 _ (is0 (omega arith)) (cut_none sp 1 n _ _ _ _ (omega arith)) (cut_none sp 2 n _ _ _ _ (omega arith))

    list2 : n ≡ 2 → clear va s.way ++ (C0 ++ (C1 ++ C2)) ≡ cuts sp m va s.way 2
    unfolding cuts book_then
    list2 z = gather2 (clear va s.way) C0 C1 C2 _ _ (is0 (omega arith)) (is1 (omega arith)) (cut_none sp 2 n _ _ _ _ (omega arith))

    list3 : n ≡ 3 → clear va s.way ++ (C0 ++ (C1 ++ C2)) ≡ cuts sp m va s.way 3
    unfolding cuts book_then
    list3 z = gather3 (clear va s.way) C0 C1 C2 _ _ _ (is0 (omega arith)) (is1 (omega arith)) (is2 (omega arith))

    -- WHAT UNMAP WRITES, table by table
    pub writes_are : n ≤ 3 → writes_of sp va (removal s n b) ≡ cuts sp m va s.way n
    unfolding writes_of
    writes_are u = four (λ x. clear va s.way ++ (C0 ++ (C1 ++ C2)) ≡ cuts sp m va s.way x) n u list0 list1 list2 list3
