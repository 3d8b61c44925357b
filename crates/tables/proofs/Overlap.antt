-- What the walk of an address finds on its way to a level decides exactly whether some address of that level's range is mapped; and which
-- page starts at an address.
use Prim.Native.Nat.{ℕ, zero, suc, ◌%◌, ◌≤◌, ◌<◌}
use mathlib.Core.Bool.{true}
use mathlib.Core.Logic.{◌↔◌}
use mathlib.Core.Path.{◌≡◌, refl, sym, ◌∙◌, subst}
use native.Mathlib.Decide.{ℕ_discrete}
use native.Mathlib.Nat.{div-add-mod'}
use native.Mathlib.Omega.{arith}
use Rattle.entry.specs.Entry.{size_of, table_of, everything}
use Rattle.entry.specs.declared.Rights.{Rights}
use Rattle.entry.specs.declared.Entry.{Entry}
use Rattle.entry.specs.declared.Entry.TheVariants.{Nothing, Page, Table}
use Rattle.entry.proofs.Fields.{last_no_table}
use Rattle.walk.specs.Walk.{canonical, index_of, base_of}
use Rattle.walk.specs.declared.Found.{Found}
use Rattle.walk.specs.declared.Found.TheVariants as found
use Rattle.walk.proofs.Digits.{agree_up, same_index, size_pos}
use Rattle.walk.proofs.Ranges.{page_covers}
use Rattle.tables.specs.Roles.{Setting, Role, table, entry_at, Built, Occupied, Filled, Sound}
use Rattle.tables.specs.Near.{Near}
use Rattle.tables.proofs.Near.{near_range, pick, pick_near, pick_index}
use Rattle.tables.specs.Way.{Comes, onto}
use Rattle.tables.proofs.Way.{comes_entry, comes_near, comes_left, onto_role}
use Rattle.tables.specs.Meaning.{meaning}
use Rattle.tables.proofs.Meaning.{comes_root, mean_nothing, mean_page, Ends, no_walk, at_nothing, at_page, ends}
use Rattle.tables.specs.Overlap.{MappedIn, Overlaps, Stop, AtSomething, at_nothing_above, at_page_above, at_table_there}

-- the walk of every address finds one of these
stop_from : {σ : Setting} {m : ℕ → ℕ} {va l : ℕ} (n p : ℕ) → l < n → Comes σ m va n p → Stop σ m va l
stop_from zero p u c = absurd (omega arith)
stop_from {σ} {m} {va} {l} (suc n) p u c = go (entry_at m n p (index_of n va)) refl (ℕ_discrete n l) (λ s k d. stop_from n s k d)
  where
    go : (e : Entry) → entry_at m n p (index_of n va) ≡ e → Dec (n ≡ l) → ((s : ℕ) → l < n → Comes σ m va n s → Stop σ m va l) → Stop σ m va l
    go Nothing e d ih = at_nothing_above n p (omega arith) c e
    go (Page f g) e d ih = at_page_above n p f g (omega arith) c e
    go (Table s g) e (yes d) ih =
        at_table_there p s g (subst (λ k. Comes σ m va (suc k) p) d c) (subst (λ k. entry_at m k p (index_of k va) ≡ Table s g) d e)
    go (Table s g) e (no d) ih = ih s (omega arith) (onto p g c e)

pub stop : {σ : Setting} {m : ℕ → ℕ} {va : ℕ} (l : ℕ) → canonical va ≡ true → l < 4 → Stop σ m va l
stop {σ} l u k = stop_from 4 (table_of σ.cr3) k (comes_root u)

-- some address near va, from level n up, is mapped
record MappedNear (σ : Setting) (m : ℕ → ℕ) (va n : ℕ) : Type 0 where
  address : ℕ
  near : Near n va address
  start : ℕ
  long : ℕ
  frame : ℕ
  rights : Rights
  means : meaning σ m address ≡ found.Page start long frame rights

near_in : {σ : Setting} {m : ℕ → ℕ} {va n : ℕ} → MappedNear σ m va n → MappedIn σ m (base_of n va) (size_of n)
near_in {va = va} {n} w =
    let r = (near_range n va w.address).0 w.near in
    record { address = w.address; from = r.0; upto = r.1; start = w.start; long = w.long; frame = w.frame; rights = w.rights; means = w.means }

module _ {σ : Setting} {m : ℕ → ℕ} {role : ℕ → Role} (b : Built σ m role) where
  -- NOTHING ON THE WAY: no address of the range is mapped.
  pub nothing_mapped : {va l k q : ℕ} (vb : ℕ) → l ≤ k → Comes σ m va (suc k) q → entry_at m k q (index_of k va) ≡ Nothing → Near l va vb
      → meaning σ m vb ≡ found.Nothing
  nothing_mapped {va} {l} {k} {q} vb u c e near =
      let h = agree_up l k va vb u near in
      mean_nothing b (comes_entry vb h c) (subst (λ i. entry_at m k q i ≡ Nothing) (same_index k va vb h) e)

  -- A PAGE ON THE WAY: every address of the range has it, va among them.
  pub page_mapped : {va l k q f : ℕ} {g : Rights} (vb : ℕ) → l ≤ k → Comes σ m va (suc k) q → entry_at m k q (index_of k va) ≡ Page f g → Near l va vb
      → meaning σ m vb ≡ found.Page (base_of k vb) (size_of k) f g
  page_mapped {va} {l} {k} {q} {f} {g} vb u c e near =
      let h = agree_up l k va vb u near in
      mean_page b (comes_entry vb h c) (subst (λ i. entry_at m k q i ≡ Page f g) (same_index k va vb h) e)

  -- A TABLE AT THE LEVEL: some address of the range is mapped, since no table is empty.
  table_near : Filled m role → (n va p r j : ℕ) → Comes σ m va n p → role p ≡ table n r j → MappedNear σ m va n
  table_near f zero va p r j c h = absurd (last_no_table _ p everything (b.up p 0 r j h).2)
  table_near f (suc n) va p r j c h = go (entry_at m n p o.0) refl (λ s d k. table_near f n vb s p o.0 d k)
    where
      o : Occupied m n p
      o = f p n r j h

      vb : ℕ
      vb = pick va n o.0

      near : Near (suc n) va vb
      near = pick_near va n o.0 o.1

      comes : Comes σ m vb (suc n) p
      comes = comes_near vb (b.low p (suc n) r j h) near c

      here : (e : Entry) → entry_at m n p o.0 ≡ e → entry_at m n p (index_of n vb) ≡ e
      here e h = subst (λ i. entry_at m n p i ≡ e) (sym (pick_index va n o.0 o.1)) h

      go : (e : Entry) → entry_at m n p o.0 ≡ e → ((s : ℕ) → Comes σ m vb n s → role s ≡ table n p o.0 → MappedNear σ m vb n) → MappedNear σ m va (suc n)
      go Nothing e ih = absurd (o.2 e)
      go (Page x g) e ih = record {
        address = vb;
        near = near;
        start = base_of n vb;
        long = size_of n;
        frame = x;
        rights = g;
        means = mean_page b comes (here (Page x g) e);
      }
      go (Table s g) e ih =
          let w = ih s (onto p g comes (here (Table s g) e)) (b.down p n o.0 s g (comes_left b c) o.1 e).0 in
          record {
            address = w.address;
            near = near ∙ agree_up n (suc n) vb w.address (omega arith) w.near;
            start = w.start;
            long = w.long;
            frame = w.frame;
            rights = w.rights;
            means = w.means;
          }

  pub table_mapped : Filled m role → {va l q s : ℕ} {g : Rights} → Comes σ m va (suc l) q → entry_at m l q (index_of l va) ≡ Table s g
      → MappedIn σ m (base_of l va) (size_of l)
  table_mapped f {va} {l} {q} {s} {g} c e = near_in (table_near f l va s q (index_of l va) (onto q g c e) (onto_role b c e).0)

-- the base of an aligned address is the address
pub aligned_base : (l va : ℕ) → va % size_of l ≡ 0 → base_of l va ≡ va
unfolding base_of
aligned_base l va e = omega (arith, div-add-mod' va (size_of l))

-- OVERLAP, DECIDED EXACTLY: at level l, for an aligned address, the walk stops at a page or a table if and only if some address of
-- [va, va + size) is mapped.
pub overlap : {σ : Setting} {m : ℕ → ℕ} {role : ℕ → Role} {va l : ℕ} → Sound σ m role → va % size_of l ≡ 0 → (s : Stop σ m va l)
    → AtSomething s ↔ Overlaps σ m va l
overlap {σ} {m} {role} {va} {l} k a (at_nothing_above j q u c e) = (λ t. absurd t, none)
  where
    none : Overlaps σ m va l → ⊥
    none w =
        let base : base_of l va ≡ va = aligned_base l va a in
        let near : Near l va w.address = (near_range l va w.address).1 (omega arith, omega (arith, size_pos l)) in
        let z : ◌≡◌ {A = ℕ} 0 1 = cc (nothing_mapped k.built w.address u c e near, w.means) in
        omega arith
overlap {σ} {m} {role} {va} {l} k a (at_page_above j q f g u c e) = (
  λ t. record {
    address = va;
    from = omega arith;
    upto = omega (arith, size_pos l);
    start = base_of j va;
    long = size_of j;
    frame = f;
    rights = g;
    means = page_mapped k.built va u c e refl;
  },
  λ w. tt,
)
overlap {σ} {m} {role} {va} {l} k a (at_table_there q s g c e) =
    (λ t. subst (λ x. MappedIn σ m x (size_of l)) (aligned_base l va a) (table_mapped k.built k.filled c e), λ w. tt)

-- Which page starts at an address ----------------------------------------------------------------------------------------------

-- the entry at which the walk of va finds a page of level l
pub record PageAt (σ : Setting) (m : ℕ → ℕ) (va l f : ℕ) (g : Rights) : Type 0 where
  pub page : ℕ
  pub comes : Comes σ m va (suc l) page
  pub entry : entry_at m l page (index_of l va) ≡ Page f g

-- an address means a page: its walk comes to an entry that says so
pub page_where : {σ : Setting} {m : ℕ → ℕ} {role : ℕ → Role} → Built σ m role → (va base size f : ℕ) (g : Rights) → meaning σ m va ≡ found.Page base size f g
    → (l : ℕ) × PageAt σ m va l f g × (base ≡ base_of l va) × (size ≡ size_of l)
page_where {σ} {m} b va base size f g = go (meaning σ m va) (ends b va)
  where
    go : (o : Found) → Ends σ m va o → o ≡ found.Page base size f g → (l : ℕ) × PageAt σ m va l f g × (base ≡ base_of l va) × (size ≡ size_of l)
    go o (no_walk u) e = let z : ◌≡◌ {A = ℕ} 0 1 = cc in absurd (omega arith)
    go o (at_nothing l q c w) e = let z : ◌≡◌ {A = ℕ} 0 1 = cc in absurd (omega arith)
    go o (at_page l q x r c w) e =
        let frames : x ≡ f = cc in
        let grants : r ≡ g = cc in
        (l, record { page = q; comes = c; entry = w ∙ rw (frames, grants) }, cc, cc)

-- Nothing else starts there: a page that any address means, and that begins at va, is what va means.
pub starts_once : (σ : Setting) (m : ℕ → ℕ) (va vb size f : ℕ) (g : Rights) → meaning σ m vb ≡ found.Page va size f g → meaning σ m va ≡ found.Page va size f g
starts_once σ m va vb size f g e =
    let k = page_covers σ.window m σ.cr3 vb va size f g e in
    k.everywhere va (omega arith) (omega arith)
