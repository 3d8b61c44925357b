-- MAP, one step at a time: down through tables that are there, and tables that are cleared and then linked, to the page's own entry,
-- which is written last. And protect, which is one write.
use Prim.Native.Nat.{ℕ, suc, ◌<◌}
use mathlib.Core.List.{List, [], ◌∷◌, ◌++◌, append_assoc}
use mathlib.Core.Logic.{◌⊎◌, inl, inr, ◌≢◌}
use mathlib.Core.Path.{◌≡◌, refl, sym, ap, ◌∙◌, subst, subst₂}
use native.Mathlib.Decide.{ℕ_discrete}
use native.Mathlib.Omega.{arith}
use Rattle.word.specs.Memory.{set, at}
use Rattle.word.specs.Writes.{Write, write, after, zeros, Every}
use Rattle.word.proofs.Set.{set_at, set_same, set_other}
use Rattle.entry.specs.Entry.{size_of, says, everything}
use Rattle.entry.specs.Pat.{PatClear}
use Rattle.entry.specs.declared.Rights.{Rights}
use Rattle.entry.specs.declared.Entry.TheVariants.{Nothing, Page, Table}
use Rattle.walk.specs.Walk.{index_of, base_of}
use Rattle.walk.specs.declared.Found.TheVariants as found
use Rattle.walk.proofs.Digits.{index_lt}
use Rattle.world.proofs.Rules.{obeys_nil}
use Rattle.world.proofs.OneChange.{quiet_nil}
use Rattle.tables.specs.Roles.{Setting, Role, free, table, left, entry_at, Apart, Occupied, Sound, Zero}
use Rattle.tables.specs.Way.{Comes, onto}
use Rattle.tables.proofs.Way.{comes_left}
use Rattle.tables.specs.OneWrite.{LiveEntry}
use Rattle.tables.proofs.OneWrite.{at_page, comes_spot, table_something, nothing_plain, page_plain, comes_kept}
use Rattle.tables.specs.Edits.{KeepsMeaning}
use Rattle.tables.proofs.Edits.{link, link_filled, write_page, page_filled, change_rights}
use Rattle.tables.specs.Discipline.{Aside, walker_of}
use Rattle.tables.proofs.Discipline.{plain_obeys, link_obeys}
use Rattle.tables.specs.Clearing.{events_of}
use Rattle.tables.proofs.Clearing.{Spare, spare_untouched, untouched_holds, clear_spare, cleared}
use Rattle.tables.specs.Operation.{Changed}
use Rattle.tables.proofs.Operation.{moments_start, moments_one, moments_spare, moments_then, after_then, after_write, quiet_then, obeys_then, change_now, quiet_one, obeys_one, change_write}
use Rattle.tables.specs.Down.{Down}
use Rattle.tables.proofs.Walks.{laws_of}

-- It starts anywhere on the way of va.
pub down_start : {σ : Setting} {m : ℕ → ℕ} {role : ℕ → Role} {va n t : ℕ} → Sound σ m role → Comes σ m va n t → Down σ m role va [] m role n t
unfolding after events_of
down_start {σ} {m} {role} s c = record {
  now = refl;
  built = s.built;
  comes = c;
  filled = λ p l q i h d. s.filled p l q i h;
  same = λ vb. refl;
  quiet = quiet_nil (walker_of σ) (laws_of σ) m;
  obeys = obeys_nil (walker_of σ) (laws_of σ) (Aside role) m;
  moments = moments_start s.built;
  unused = λ p e. e;
}

module _ {σ : Setting} {m₀ : ℕ → ℕ} {role₀ : ℕ → Role} {va : ℕ} {xs : List Write} {m : ℕ → ℕ} {role : ℕ → Role} where
  -- the table is there: go on to it
  pub down_step : {n t : ℕ} (s : ℕ) (g : Rights) → Down σ m₀ role₀ va xs m role (suc n) t → entry_at m n t (index_of n va) ≡ Table s g
      → Down σ m₀ role₀ va xs m role n s
  down_step {n} {t} s g d e = record {
    now = d.now;
    built = d.built;
    comes = onto t g d.comes e;
    filled = λ p l q i h x. go p l q i h (ℕ_discrete p t);
    same = d.same;
    quiet = d.quiet;
    obeys = d.obeys;
    moments = d.moments;
    unused = d.unused;
  }
    where
      go : (p l q i : ℕ) → role p ≡ table (suc l) q i → Dec (p ≡ t) → Occupied m l p
      go p l q i h (yes x) =
          let level : l ≡ n = omega (arith, ap left h, ap (λ y. left (role y)) x, comes_left d.built d.comes) in
          subst₂ (λ y z. Occupied m y z) (sym level) (sym x) (index_of n va, index_lt n va, table_something s g e)
      go p l q i h (no x) = d.filled p l q i h x

  -- writes into spare pages
  pub down_spare : {n t : ℕ} (ys : List Write) → Down σ m₀ role₀ va xs m role n t → Every (Spare role) ys → Down σ m₀ role₀ va (xs ++ ys) (after m ys) role n t
  down_spare {n} {t} ys d u =
      let k = spare_untouched ys d.built u in
      record {
        now = after_then σ m₀ m xs d.now ys;
        built = k.built;
        comes = k.comes va n t d.comes;
        filled = λ p l q i h x. untouched_holds k p l (ap left h) (d.filled p l q i h x);
        same = λ vb. k.same vb ∙ d.same vb;
        quiet = quiet_then σ m₀ m xs d.now ys d.quiet k.quiet;
        obeys = obeys_then σ m₀ m xs d.now ys role₀ role role d.obeys k.obeys;
        moments = moments_then σ m₀ m xs d.now ys role₀ role role (λ p. inl refl) d.moments (moments_spare k);
        unused = d.unused;
      }

  -- a page that is free and all 0 is linked where nothing is: go on to it
  pub down_link : {n t : ℕ} (v p : ℕ) → Down σ m₀ role₀ va xs m role (suc n) t → entry_at m n t (index_of n va) ≡ Nothing → says n v ≡ Table p everything
      → role p ≡ free → Zero m p
      → Down σ m₀ role₀ va (xs ++ (write t (index_of n va) v ∷ [])) (set m (at t (index_of n va)) v) (set role p (table n t (index_of n va))) n p
  down_link {n} {t} v p d was is new empty = record {
    now = after_write σ m₀ m xs d.now t i v;
    built = k.built;
    comes = onto {p = p} t everything (comes_kept d.built s v (omega arith) d.comes) (rw set_same is);
    filled = link_filled d.built s v p is d.filled;
    same = λ vb. k.same vb ∙ d.same vb;
    quiet = quiet_then σ m₀ m xs d.now (write t i v ∷ []) d.quiet (quiet_one σ m t i v k.same);
    obeys = obeys_then σ m₀ m xs d.now (write t i v ∷ []) role₀ role role' d.obeys (obeys_one σ m t i v role role' (link_obeys d.built s v p was new));
    moments = moments_then σ m₀ m xs d.now (write t i v ∷ []) role₀ role role' (λ x. once x (ℕ_discrete p x)) d.moments (moments_one t i v d.built k.built);
    unused = λ x e. old x e (ℕ_discrete p x);
  }
    where
      i : ℕ
      i = index_of n va

      role' : ℕ → Role
      role' = set role p (table n t i)

      s : LiveEntry role t n i
      s = comes_spot d.built d.comes

      k : KeepsMeaning σ m (set m (at t i) v) role'
      k = link d.built s v p was is new empty

      once : (x : ℕ) → Dec (p ≡ x) → (role' x ≡ role x) ⊎ (role x ≡ role₀ x)
      once x (yes e) = inr (ap role (sym e) ∙ new ∙ sym (d.unused p new) ∙ ap role₀ e)
      once x (no e) = inl (set_other role p (table n t i) x e)

      old : (x : ℕ) → role' x ≡ free → Dec (p ≡ x) → role₀ x ≡ free
      old x h (yes e) = let f : table n t i ≡ free = sym (set_at role p (table n t i) x e) ∙ h in let z : ◌≡◌ {A = ℕ} 0 1 = cc in absurd (omega arith)
      old x h (no e) = d.unused x (sym (set_other role p (table n t i) x e) ∙ h)

  -- MAP, DONE: the page's entry is written where nothing is, last.
  pub map_done : {l q : ℕ} (v f : ℕ) (g : Rights) → Down σ m₀ role₀ va xs m role (suc l) q → entry_at m l q (index_of l va) ≡ Nothing → says l v ≡ Page f g
      → Apart σ f (size_of l) → PatClear l v
      → Changed σ m₀ role₀ va l (found.Page (base_of l va) (size_of l) f g) (xs ++ (write q (index_of l va) v ∷ [])) (set m (at q (index_of l va)) v) role
  map_done {l} {q} v f g d was is a k =
      let i = index_of l va in
      let s = comes_spot d.built d.comes in
      let t = write_page d.built d.comes v f g was is a k in
      record {
        now = after_write σ m₀ m xs d.now q i v;
        turns = record { built = t.built; in_range = t.in_range; elsewhere = λ vb far. t.elsewhere vb far ∙ d.same vb };
        filled = page_filled d.built s v f g is d.filled;
        change = change_now σ m₀ m xs d.now q i v d.quiet;
        moments = moments_then σ m₀ m xs d.now (write q i v ∷ []) role₀ role role (λ p. inl refl) d.moments (moments_one q i v d.built t.built);
        obeys = obeys_then σ m₀ m xs d.now (write q i v ∷ []) role₀ role role d.obeys (obeys_one σ m q i v role role (plain_obeys d.built s v (nothing_plain was)));
      }

-- A MISSING TABLE IS MADE: a free page is cleared, by 512 writes, and then linked where nothing is. It is all 0 then (made_zero): go on to it.
pub down_make : {σ : Setting} {m₀ : ℕ → ℕ} {role₀ : ℕ → Role} {va : ℕ} {xs : List Write} {m : ℕ → ℕ} {role : ℕ → Role} {n t : ℕ} (v p : ℕ)
    → Down σ m₀ role₀ va xs m role (suc n) t → entry_at m n t (index_of n va) ≡ Nothing → says n v ≡ Table p everything → role p ≡ free
    → Down σ m₀ role₀ va (xs ++ (zeros p 512 ++ (write t (index_of n va) v ∷ []))) (set (after m (zeros p 512)) (at t (index_of n va)) v)
    (set role p (table n t (index_of n va))) n p
down_make {σ} {m₀} {role₀} {va} {xs} {m} {role} {n} {t} v p d was is new =
    let u = clear_spare role p new in
    let k = spare_untouched (zeros p 512) d.built u in
    let w = k.words t n (index_of n va) (comes_left d.built d.comes) (index_lt n va) in
    subst (λ ys. Down σ m₀ role₀ va ys (set (after m (zeros p 512)) (at t (index_of n va)) v) (set role p (table n t (index_of n va))) n p)
    (append_assoc xs (zeros p 512) (write t (index_of n va) v ∷ []))
    (down_link v p (down_spare (zeros p 512) d u) (ap (says n) w ∙ was) is new (cleared m p))

pub made_zero : (m : ℕ → ℕ) (t i v p : ℕ) → i < 512 → t ≢ p → Zero (set (after m (zeros p 512)) (at t i) v) p
made_zero m t i v p u d j w = set_other (after m (zeros p 512)) (at t i) v (at p j) (λ e. d (at_page t i p j u w e)) ∙ cleared m p j w

-- PROTECT, DONE: the same page with other rights, in one write.
pub protect_done : {σ : Setting} {m : ℕ → ℕ} {role : ℕ → Role} {va l q : ℕ} (v f : ℕ) (g g' : Rights) → Sound σ m role → Comes σ m va (suc l) q
    → entry_at m l q (index_of l va) ≡ Page f g → says l v ≡ Page f g' → PatClear l v
    → Changed σ m role va l (found.Page (base_of l va) (size_of l) f g') (write q (index_of l va) v ∷ []) (set m (at q (index_of l va)) v) role
unfolding after
protect_done {σ} {m} {role} {va} {l} {q} v f g g' k c was is w =
    let s = comes_spot k.built c in
    let t = change_rights k.built c v f g g' was is w in
    record {
      now = refl;
      turns = t;
      filled = page_filled k.built s v f g' is (λ p j r i h d. k.filled p j r i h);
      change = change_write σ m q (index_of l va) v;
      moments = moments_one q (index_of l va) v k.built t.built;
      obeys = obeys_one σ m q (index_of l va) v role role (plain_obeys k.built s v (page_plain f g was));
    }
