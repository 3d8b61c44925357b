-- THE ORDER OF THE WRITES: unmap's first write is the change, and map's last write of a table.
use Prim.Native.Nat.{ℕ, ◌+◌, ◌*◌, ◌^◌, ◌<◌}
use mathlib.Core.Bool.{Bool}
use mathlib.Core.List.{List, [], ◌∷◌, ◌++◌, append_assoc}
use mathlib.Core.Logic.{◌≢◌}
use mathlib.Core.Path.{◌≡◌, refl, sym, ap, ◌∙◌, subst}
use native.Mathlib.Omega.{arith}
use Rattle.word.specs.Memory.{at, set}
use Rattle.word.specs.Writes.{Write, write, after}
use Rattle.word.proofs.Writes.{after_append}
use Rattle.walk.specs.Walk.{index_of}
use Rattle.walk.specs.declared.Found.{Found}
use Rattle.walk.specs.declared.Found.TheVariants.{Page, Nothing}
use Rattle.world.specs.Events as world
use Rattle.world.specs.Events.{Event, All}
use Rattle.world.proofs.Events.{all_map, all_both, all_first, all_last, all_front}
use Rattle.world.specs.Walker as walker
use Rattle.world.specs.Walker.{Walker}
use Rattle.world.specs.OneChange.{SameMeaning, Quiet, OneChange}
use Rattle.tables.specs.Roles.{Role, Built}
use Rattle.tables.specs.Meaning.{meaning}
use Rattle.tables.proofs.Meaning.{never_outside}
use Rattle.tables.specs.Discipline.{walker_of}
use Rattle.tables.proofs.Walks.{one_space_meaning}
use Rattle.tables.specs.Clearing.{events_of}
use Rattle.tables.proofs.Clearing.{events_append, events_after}
use Rattle.tables.proofs.Edits.{clear_page}
use Rattle.tables.specs.Operation.{Moment, Changed}
use Rattle.pool.specs.Booked.{setting_of}
use Rattle.pool.specs.declared.Space.{Space}
use Rattle.pool.proofs.Pages.{root_page}
use Rattle.plan.specs.Map as map
use Rattle.plan.specs.Unmap as unmap
use Rattle.plan.specs.Protect as protect
use Rattle.plan.specs.declared.maps.Mapping.{Mapping}
use Rattle.plan.specs.declared.unmaps.Removal.{Removal}
use Rattle.plan.specs.declared.protects.Change.{Change}
use Rattle.effect.proofs.Located.{Located}
use Rattle.effect.proofs.MapBook.{book_writes, book_writes_proper}
use Rattle.effect.proofs.MapBuilt.{PageLast}
use Rattle.verus.specs.Mappings.{Mappings, SameMap}
use Rattle.verus.specs.Walks.{interp}
use Rattle.verus.specs.Order.{meant, ChangeFirst, ChangeLast}
use Rattle.verus.proofs.Walks.{at_base, interp_found}

-- Lists of events --------------------------------------------------------------------------------------------------------------------

all_back : (es fs : List (Event ℕ)) (m : ℕ → ℕ) (P : (ℕ → ℕ) → Type 0) → All m (es ++ fs) P → All (world.after m es) fs P
unfolding All world.after
all_back [] fs m P k = k
all_back (e ∷ es) fs m P k = all_back es fs (world.happen m e) P k.1

-- where the first event changes what an address means, the others change nothing
quiet_behind : {View Address Place Answer : Type 0} (W : Walker ℕ View Address Place Answer) (e : Event ℕ) (es : List (Event ℕ)) (m : ℕ → ℕ) → OneChange W m (e ∷ es)
    → (va : Address) → walker.meaning W (world.happen m e) va ≢ walker.meaning W m va → Quiet W (world.happen m e) es
unfolding All world.after world.happen
quiet_behind W e es m c va differs = go c.front c.split c.old c.new
  where
    go : (front : List (Event ℕ)) → e ∷ es ≡ front ++ (world.write c.place c.word ∷ c.back) → Quiet W m front
        → Quiet W (set (world.after m front) c.place c.word) c.back → Quiet W (world.happen m e) es
    go [] s old new =
        let first : e ≡ world.write c.place c.word = cc in
        let rest : es ≡ c.back = cc in
        rw (first, rest) new
    go (x ∷ front) s old new =
        let first : e ≡ x = cc in
        absurd (differs (all_first front (world.happen m e) (SameMeaning W m) (subst (λ y. All (world.happen m y) front (SameMeaning W m)) (sym first) old.1) va))

module _ (m : ℕ → ℕ) (a b xs : List Write) (P : (ℕ → ℕ) → Type 0) (e : xs ≡ a ++ b) (k : All m (events_of xs) P) where
  cut : All m (events_of a ++ events_of b) P
  cut = subst (λ es. All m es P) (ap events_of e ∙ events_append a b) k

  in_front : All m (events_of a) P
  in_front = all_front (events_of a) (events_of b) m P cut

  at_back : All (after m a) (events_of b) P
  at_back = subst (λ n. All n (events_of b) P) (events_after m a) (all_back (events_of a) (events_of b) m P cut)

-- what unmap writes behind the page's entry
pub cuts_of : Space → ℕ → Removal → List Write
cuts_of sp va r =
    unmap.cut_writes sp 0 r.empties r.page.way.b (index_of (r.page.way.level + 1) va) r.page.way.a r.book
    ++ (unmap.cut_writes sp 1 r.empties r.page.way.c (index_of (r.page.way.level + 2) va) r.page.way.b (unmap.book1 sp r)
    ++ unmap.cut_writes sp 2 r.empties r.page.way.d (index_of (r.page.way.level + 3) va) r.page.way.c (unmap.book2 sp r))

-- At each moment ---------------------------------------------------------------------------------------------------------------------

module _ (h : ℕ → Bool) (sp : Space) (low : sp.root < 2 ^ 40) where
  -- what built tables mean to them, by what an address means to us
  pub meant_built : {n : ℕ → ℕ} {role : ℕ → Role} → Built (setting_of h sp) n role → (va : ℕ) → meant sp n va ≡ at_base va (meaning (setting_of h sp) n va)
  meant_built {n} b va =
      subst (λ t. interp n t va ≡ at_base va (meaning (setting_of h sp) n va)) (root_page sp.root low) (interp_found h n (4096 * sp.root) (never_outside b) va)

  means_same : (m n : ℕ → ℕ) → SameMeaning (walker_of (setting_of h sp)) m n → (va : ℕ) → meaning (setting_of h sp) n va ≡ meaning (setting_of h sp) m va
  means_same m n e va = sym (one_space_meaning h (4096 * sp.root) n va) ∙ e va ∙ one_space_meaning h (4096 * sp.root) m va

  module _ (xs : List Write) (m : ℕ → ℕ) (role₀ role : ℕ → Role) (k : All m (events_of xs) (Moment (setting_of h sp) role₀ role)) (q : Quiet (walker_of (setting_of h sp)) m (events_of xs)) where
    -- writes that change no meaning do not change their map
    quiet_map : All m (events_of xs) (λ n. SameMap (meant sp n) (meant sp m))
    quiet_map =
        all_map (events_of xs) m _ _
        (λ n both va. meant_built both.0.built va ∙ ap (at_base va) (means_same m n both.1 va) ∙ sym (meant_built (all_first (events_of xs) m _ k).built va))
        (all_both (events_of xs) m _ _ k q)

    -- and if it is `now` in the end, it is so at each moment
    quiet_now : (now : Mappings) → SameMap (meant sp (after m xs)) now → All m (events_of xs) (λ n. SameMap (meant sp n) now)
    quiet_now now is =
        let last : SameMap (meant sp (after m xs)) (meant sp m) = subst (λ n. SameMap (meant sp n) (meant sp m)) (events_after m xs) (all_last (events_of xs) m _ quiet_map) in
        all_map (events_of xs) m _ _ (λ n same va. same va ∙ sym (last va) ∙ is va) quiet_map

  -- MAP: the last write of a table is the change
  pub map_order : {m : ℕ → ℕ} {role role' : ℕ → Role} {va l : ℕ} {o : Found} (p : Mapping) → Changed (setting_of h sp) m role va l o (map.writes_of sp p) (after m (map.writes_of sp p)) role'
      → PageLast h sp m p → (now : Mappings) → SameMap (meant sp (after m (map.writes_of sp p))) now → ChangeLast sp m (map.writes_of sp p) now
  unfolding map.writes_of
  map_order {m} {role} {role'} p c f now is = record {
    stutters = f.front;
    change = x;
    behind = book;
    split = split;
    before = quiet_map f.front m role role' (in_front m f.front ((x ∷ []) ++ book) _ _ (split ∙ append_assoc f.front (x ∷ []) book) c.moments) f.before;
    made = quiet_now book (after m (f.front ++ (x ∷ []))) role role' (at_back m (f.front ++ (x ∷ [])) book _ _ split c.moments)
        (subst (λ ys. Quiet (walker_of (setting_of h sp)) (after m ys) (events_of book)) (sym f.split) f.behind) now
        (subst (λ n. SameMap (meant sp n) now) (ap (after m) split ∙ after_append m (f.front ++ (x ∷ [])) book) is);
    book = book_writes_proper sp p.fresh.book p.fresh.need;
  }
    where
      x : Write
      x = write f.table f.index p.word

      book : List Write
      book = book_writes sp p.fresh.book p.fresh.need

      split : map.writes_of sp p ≡ (f.front ++ (x ∷ [])) ++ book
      split = ap (λ ys. ys ++ book) (sym f.split)

  -- UNMAP: the first write is the change
  pub unmap_order : {m : ℕ → ℕ} {role role' : ℕ → Role} {va l : ℕ} {o : Found} (r : Removal) → Built (setting_of h sp) m role → Located (setting_of h sp) m role va r.page
      → Changed (setting_of h sp) m role va l o (unmap.writes_of sp va r) (after m (unmap.writes_of sp va r)) role'
      → (now : Mappings) → SameMap (meant sp (after m (unmap.writes_of sp va r))) now → ChangeFirst sp m (unmap.writes_of sp va r) now
  unfolding unmap.writes_of cuts_of after world.happen events_of
  unmap_order {m} {role} {role'} {va = va} r b k c now is = record {
    change = x;
    stutters = cuts_of sp va r;
    split = split;
    made = quiet_now (cuts_of sp va r) (after m (x ∷ [])) role role' (at_back m (x ∷ []) (cuts_of sp va r) _ _ split c.moments) quiet now
        (subst (λ n. SameMap (meant sp n) now) (ap (after m) split ∙ after_append m (x ∷ []) (cuts_of sp va r)) is);
  }
    where
      a : ℕ
      a = at r.page.way.a (index_of r.page.way.level va)

      x : Write
      x = write r.page.way.a (index_of r.page.way.level va) 0

      split : unmap.writes_of sp va r ≡ (x ∷ []) ++ cuts_of sp va r
      split = refl

      differs : walker.meaning (walker_of (setting_of h sp)) (set m a 0) va ≢ walker.meaning (walker_of (setting_of h sp)) m va
      differs e =
          let gone : meaning (setting_of h sp) (set m a 0) va ≡ Nothing = (clear_page b k.comes r.page.frame k.rights k.entry).in_range va refl in
          let was : meaning (setting_of h sp) m va ≡ Page va r.page.size r.page.frame k.rights = k.means in
          let same : meaning (setting_of h sp) (set m a 0) va ≡ meaning (setting_of h sp) m va =
          sym (one_space_meaning h (4096 * sp.root) (set m a 0) va) ∙ e ∙ one_space_meaning h (4096 * sp.root) m va in
          let z : ◌≡◌ {A = ℕ} 0 1 = cc in omega arith

      quiet : Quiet (walker_of (setting_of h sp)) (after m (x ∷ [])) (events_of (cuts_of sp va r))
      quiet = quiet_behind (walker_of (setting_of h sp)) (world.write a 0) (events_of (cuts_of sp va r)) m
          (subst (OneChange (walker_of (setting_of h sp)) m) (ap events_of split ∙ events_append (x ∷ []) (cuts_of sp va r)) c.change) va differs

-- PROTECT has one write
pub protect_order : (sp : Space) (m : ℕ → ℕ) (c : Change) (now : Mappings) → SameMap (meant sp (after m (protect.writes_of c))) now → ChangeFirst sp m (protect.writes_of c) now
unfolding protect.writes_of events_of All
protect_order sp m c now is = record { change = write c.table c.index c.word; stutters = []; split = refl; made = is }
