-- A WITNESS of what holds between operations, with tables in it: any five pages, made a pool, and a page of 4 KiB mapped at 0. Map makes three
-- tables of the three free pages; the space is whole, and the address means the page.
use Prim.Native.Nat.{ℕ, zero, suc, ◌+◌, ◌<◌, ◌≤◌, ◌-◌, ◌*◌, ◌%◌, ◌^◌}
use mathlib.Core.Bool.{Bool, true, false, cond, ◌&&◌, false≢true}
use mathlib.Core.List.{List}
use mathlib.Core.Logic.{◌⊎◌, inl, inr, ◌≢◌}
use mathlib.Core.Path.{◌≡◌, refl, sym, ◌∙◌, subst}
use native.Mathlib.Decide.{ℕ_discrete}
use native.Mathlib.Omega.{arith}
use Rattle.std.proofs.Common.{Ok}
use lib.Dec.{eqb, leb, ltb}
use lib.ListN.{length}
use Rattle.word.specs.Memory.{memory, holds}
use Rattle.word.specs.Writes.{after}
use Rattle.entry.specs.Entry.{size_of}
use Rattle.entry.specs.declared.Rights.{Rights}
use Rattle.entry.specs.declared.Entry.TheVariants.{Page}
use Rattle.entry.proofs.Parts.{root_no_page}
use Rattle.walk.specs.Walk.{canonical, index_of}
use Rattle.walk.specs.declared.Found.{Found}
use Rattle.walk.specs.declared.Found.TheVariants as found
use Rattle.tables.specs.Roles.{Role, foreign, free, aside, book, root, table, left, entry_at}
use Rattle.tables.specs.Way.{Comes}
use Rattle.tables.proofs.Way.{comes_left}
use Rattle.tables.specs.Meaning.{meaning}
use Rattle.tables.proofs.Meaning.{Ends, at_nothing, at_page, ends, no_walk}
use Rattle.walk.proofs.Addresses.{in_lower, in_upper}
use Rattle.walk.proofs.Ranges.{page_covers}
use Rattle.pool.specs.Layout.{book_pages}
use Rattle.pool.specs.Book.{book_of, page_at, room_of}
use Rattle.pool.specs.Booked.{setting_of, new_role, tables_of, how_many}
use Rattle.pool.specs.Create.{created_of, created_in, may_create}
use Rattle.pool.specs.declared.Space.{Space}
use Rattle.pool.proofs.Words.{small_book}
use Rattle.pool.proofs.Pages.{adds_up}
use Rattle.plan.specs.Map as map
use Rattle.plan.specs.declared.Reason.{Reason}
use Rattle.plan.specs.declared.maps.Mapping.{Mapping}
use Rattle.plan.specs.Rights.{write_execute}
use Rattle.effect.specs.Whole.{Whole}
use Rattle.effect.specs.MapDone.{MapDone}
use Rattle.effect.specs.MapRefused.{Cause, no_size, base_unaligned, frame_unaligned, base_range, frame_high, write_execute_lem, frame_in_pool, mapped, no_room}
use Rattle.effect.proofs.Wholes.{owned}
use Rattle.effect.proofs.MapDone.{mapped_inside}
use Rattle.effect.proofs.MapRefused.{map_succeeds}
use Rattle.tablepath.specs.Looks.{WholeBytes}
use Rattle.tablepath.proofs.Wholes.{create_whole}
use Rattle.tablepath.proofs.Means.{map_means}
use Rattle.tablepath.specs.Witness.{five, of_data, page_on, page, bytes, Mappable}

-- a new pool has no role but these
new_roles : (sp : Space) (p : ℕ) (P : Role → Type 0) → P foreign → P book → P root → P free → P (new_role sp p)
unfolding new_role
new_roles sp p P f b r e = go (leb sp.first p && ltb p (sp.first + sp.pages)) (ltb p (sp.first + book_pages sp.pages)) (eqb p (sp.first + book_pages sp.pages))
  where
    go : (x y z : Bool) → P (cond x (cond y book (cond z root free)) foreign)
    go false y z = f
    go true true z = b
    go true false true = r
    go true false false = e

left_new : (sp : Space) (p : ℕ) → (left (new_role sp p) ≡ 0) ⊎ (left (new_role sp p) ≡ 4)
left_new sp p = new_roles sp p (λ r. (left r ≡ 0) ⊎ (left r ≡ 4)) (inl refl) (inl refl) (inr refl) (inl refl)

not_aside : (sp : Space) (p : ℕ) → new_role sp p ≢ aside
not_aside sp p = new_roles sp p (λ r. r ≢ aside) (λ e. clash cc) (λ e. clash cc) (λ e. clash cc) (λ e. clash cc)
  where
    clash : ◌≡◌ {A = ℕ} 0 1 → ⊥
    clash z = omega arith

-- where there is no table but the root, nothing is mapped, and no page is set aside
module _ {h : ℕ → Bool} {sp : Space} {m : ℕ → ℕ} (w : Whole h sp m (new_role sp)) where
  -- a walk comes to the root alone
  only_root : {va n q : ℕ} → Comes (setting_of h sp) m va (suc n) q → n ≡ 3
  only_root {n = n} {q} c = go (left_new sp q)
    where
      go : (left (new_role sp q) ≡ 0) ⊎ (left (new_role sp q) ≡ 4) → n ≡ 3
      go (inl e) = absurd (omega (arith, comes_left w.sound.built c))
      go (inr e) = omega (arith, comes_left w.sound.built c)

  pub nothing_yet : (va : ℕ) → canonical va ≡ true → meaning (setting_of h sp) m va ≡ found.Nothing
  nothing_yet va a = go (meaning (setting_of h sp) m va) (ends w.sound.built va)
    where
      go : (o : Found) → Ends (setting_of h sp) m va o → o ≡ found.Nothing
      go o (no_walk u) = absurd (false≢true (sym u ∙ a))
      go o (at_nothing l q c k) = refl
      go o (at_page l q a r c k) = absurd (root_no_page _ a r (subst (λ x. entry_at m x q (index_of x va) ≡ Page a r) (only_root c) k))

  pub none_mapped : (va b s f : ℕ) (g : Rights) → meaning (setting_of h sp) m va ≡ found.Page b s f g → ⊥
  none_mapped va b s f g e =
      let a = (page_covers h m (4096 * sp.root) va b s f g e).address in
      let z : ◌≡◌ {A = ℕ} 0 1 = cc (nothing_yet va a) in
      omega arith

  none_aside : (book_of m sp).aside ≡ 0
  none_aside = go (ℕ_discrete (book_of m sp).aside 0)
    where
      go : Dec ((book_of m sp).aside ≡ 0) → (book_of m sp).aside ≡ 0
      go (yes e) = e
      go (no n) = absurd (not_aside sp _ (w.booked.lists.asides 0 (omega arith)))

-- the size of a last level's page
last_size : (l : ℕ) → l ≤ 2 → 4096 ≡ size_of l → l ≡ 0
unfolding size_of
last_size zero u e = refl
last_size (suc zero) u e = absurd (omega arith)
last_size (suc (suc zero)) u e = absurd (omega arith)
last_size (suc (suc (suc l))) u e = absurd (omega arith)

-- Five pages at address 0 ----------------------------------------------------------------------------------------------------------------

-- the book is one page
pub one_page : book_pages 5 ≡ 1
one_page = small_book 5 (omega arith)

module _ (s : List ℕ) (e : length s ≡ 20480) where
  pub made : created_of (length s) (holds s 0) 0 0 5 ≡ Ok 1
  unfolding created_of created_in may_create room_of holds
  made = rw (e, one_page, one_page)

  pub start : WholeBytes (bytes s) five (new_role five)
  start = (create_whole s 0 0 5 1 made).1

  enough : (book_of (memory (bytes s) 0) five).free ≡ 3
  enough = omega (arith, adds_up (owned start) start.booked, none_aside start, no_tables)
    where
      no_tables : tables_of five (new_role five) + 1 + book_pages 5 ≡ 2
      no_tables = unfold new_role how_many in rw one_page

  fine : (va : ℕ) → va % 4096 ≡ 0 → canonical va ≡ true → (r : Reason) → ¬ Cause (holds (bytes s) 0) five (memory (bytes s) 0) (page_on va) r
  fine va a h r (no_size n) = n 0 (omega arith) (unfold size_of in refl)
  fine va a h r (base_unaligned l o n) = n a
  fine va a h r (frame_unaligned l o b n) = n refl
  fine va a h r (base_range l o b c n) = false≢true (sym n ∙ h)
  fine va a h r (frame_high l o b c u n) = omega arith
  fine va a h r (write_execute_lem l o b c u v x) = false≢true (unfold write_execute in x)
  fine va a h r (frame_in_pool l g k) = omega (arith, k.1)
  fine va a h r (mapped l g c k) = none_mapped start k.address k.start k.long k.frame k.rights k.means
  fine va a h r (no_room l n g c x k u) = omega (arith, enough, only_root start k.comes)

  -- a page can be mapped at every aligned address
  mappable : (va : ℕ) → va % 4096 ≡ 0 → canonical va ≡ true → Mappable s va
  mappable va a h =
      let says = (map_means (bytes s) five (page_on va)).says (new_role five) start in
      let done = says.done.1 (fine va a h) in
      (done, (says.made done.0 done.1).turned.inside va (omega arith, omega arith))

  -- THE EDGES: the last page of the lower half, the first of the upper one, and the last of all, which ends at 2 ^ 64
  pub edge_pages : Mappable s (2 ^ 47 - 4096) × Mappable s (2 ^ 64 - 2 ^ 47) × Mappable s (2 ^ 64 - 4096)
  edge_pages = (
    mappable (2 ^ 47 - 4096) refl (in_lower (2 ^ 47 - 4096) (omega arith)),
    mappable (2 ^ 64 - 2 ^ 47) refl (in_upper (2 ^ 64 - 2 ^ 47) (omega arith) (omega arith)),
    mappable (2 ^ 64 - 4096) refl (in_upper (2 ^ 64 - 4096) (omega arith) (omega arith)),
  )

  -- map goes on
  pub goes : (p : Mapping) × (map.decide_of (holds (bytes s) 0) (memory (bytes s) 0) five page ≡ map.Go p) × MapDone (holds (bytes s) 0) five (memory (bytes s) 0) (new_role five) page p
  goes = (map_succeeds start page).1 (fine 0 refl (in_lower 0 (omega arith)))

  -- THE WITNESS: the space is whole; the three free pages are tables; address 0 means the page
  pub five_pages : (role : ℕ → Role) × Whole (holds (bytes s) 0) five (after (memory (bytes s) 0) (map.writes_of five goes.0)) role
      × ((j : ℕ) → j < 3 → (l : ℕ) × (q : ℕ) × (i : ℕ) × (role (page_at (memory (bytes s) 0) five j) ≡ table l q i))
      × (meaning (setting_of (holds (bytes s) 0) five) (after (memory (bytes s) 0) (map.writes_of five goes.0)) 0 ≡ found.Page 0 4096 1048576 of_data)
  five_pages =
      let d = goes.2 in
      let three : goes.0.fresh.need ≡ 3 = omega (arith, only_root start d.missing.comes, last_size goes.0.target d.fitted.level d.fitted.size_is) in
      (d.role', d.whole, λ j u. d.taken.tables j (omega (arith, three)), mapped_inside start page goes.0 d 0 (omega arith) (omega arith))
