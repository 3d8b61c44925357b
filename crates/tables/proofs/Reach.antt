-- What walks read in tables that we built: entries of tables, and no other words.
use Prim.Native.Nat.{ℕ, zero, suc, ◌/◌, ◌<◌}
use mathlib.Core.Bool.{Bool, true, false, cond}
use mathlib.Core.Path.{◌≡◌, refl, ap, ◌∙◌}
use native.Mathlib.Omega.{arith}
use Rattle.word.specs.Memory.{at}
use Rattle.word.proofs.Writes.{page_of}
use Rattle.entry.specs.Entry.{both, table_of, everything}
use Rattle.entry.specs.declared.Rights.{Rights}
use Rattle.entry.specs.declared.Entry.{Entry}
use Rattle.entry.specs.declared.Entry.TheVariants.{Nothing, Page, Table}
use Rattle.walk.specs.Walk.{canonical, index_of, entered, step_of, start}
use Rattle.walk.specs.Reads.{Reads, ComesBy, by_start, by_step}
use Rattle.walk.specs.declared.Found.{Found}
use Rattle.walk.specs.declared.Found.TheVariants as found
use Rattle.walk.specs.declared.Place.{Place}
use Rattle.walk.specs.declared.Place.TheVariants.{Going, Ended}
use Rattle.walk.proofs.Digits.{index_lt}
use Rattle.tables.specs.Roles.{Setting, Role, left, Live, entry_at, Built, Bare}
use Rattle.tables.specs.Way.{Comes, begin, onto}

-- a walk that has ended reads nothing
reads_ended : (P : ℕ → Type 0) (h : ℕ → Bool) (m : ℕ → ℕ) (n va : ℕ) (f : Found) → Reads P h m n va (Ended f)
unfolding Reads step_of
reads_ended P h m zero va f = tt
reads_ended P h m (suc n) va f = (tt, reads_ended P h m n va f)

-- what a walk reads from an entry on, by what the entry says
reads_entered : (P : ℕ → Type 0) (h : ℕ → Bool) (m : ℕ → ℕ) (n va t : ℕ) (r : Rights) (e : Entry) → entry_at m n t (index_of n va) ≡ e
    → ((s : ℕ) (g : Rights) → e ≡ Table s g → Reads P h m n va (Going s (both r g))) → Reads P h m n va (step_of h m n va (Going t r))
unfolding step_of entered
reads_entered P h m n va t r e says_e next = rw says_e (go (h t) e next)
  where
    go : (b : Bool) (e : Entry) → ((s : ℕ) (g : Rights) → e ≡ Table s g → Reads P h m n va (Going s (both r g)))
        → Reads P h m n va (cond b (entered n va r e) (Ended found.Outside))
    go false e k = reads_ended P h m n va found.Outside
    go true Nothing k = reads_ended P h m n va found.Nothing
    go true (Page f g) k = reads_ended P h m n va _
    go true (Table s g) k = k s g refl

-- EVERY WORD THAT A WALK READS is an entry of a table.
pub reads_tables : {σ : Setting} {m : ℕ → ℕ} {role : ℕ → Role} → Built σ m role → (P : ℕ → Type 0) → ((q l i : ℕ) → Live role q l → i < 512 → P (at q i))
    → (va n t : ℕ) (r : Rights) → left (role t) ≡ n → Reads P σ.window m n va (Going t r)
unfolding Reads
reads_tables b P k va zero t r e = tt
reads_tables {σ} {m} b P k va (suc n) t r e = (
  λ _. k t n (index_of n va) e (index_lt n va),
  reads_entered P σ.window m n va t r (entry_at m n t (index_of n va)) refl
      (λ s g f. reads_tables b P k va n s (both r g) (ap left (b.down t n (index_of n va) s g e (index_lt n va) f).0)),
)

pub walk_reads_tables : {σ : Setting} {m : ℕ → ℕ} {role : ℕ → Role} → Built σ m role → (P : ℕ → Type 0) → ((q l i : ℕ) → Live role q l → i < 512 → P (at q i))
    → (va : ℕ) → Reads P σ.window m 4 va (start σ.cr3 va)
unfolding start
walk_reads_tables {σ} {m} b P k va = go (canonical va)
  where
    go : (x : Bool) → Reads P σ.window m 4 va (cond x (Going (table_of σ.cr3) everything) (Ended found.NoAddress))
    go true = reads_tables b P k va 4 (table_of σ.cr3) everything (ap left b.starts)
    go false = reads_ended P σ.window m 4 va found.NoAddress

-- from a page where nothing says anything a walk reads that page only
pub reads_bare : (h : ℕ → Bool) (m : ℕ → ℕ) (va n p : ℕ) (r : Rights) → Bare m n p → Reads (λ x. x / 512 ≡ p) h m n va (Going p r)
unfolding Reads
reads_bare h m va zero p r e = tt
reads_bare h m va (suc n) p r e = (
  λ _. page_of p (index_of n va) (index_lt n va),
  reads_entered (λ x. x / 512 ≡ p) h m n va p r Nothing (e n (index_of n va) refl (index_lt n va)) (λ s g f. let z : ◌≡◌ {A = ℕ} 0 1 = cc in absurd (omega arith)),
)

-- A PLACE OF A WALK is a table that it comes to.
pub way_comes : {σ : Setting} {m : ℕ → ℕ} {va : ℕ} (P : ℕ → Type 0) {n : ℕ} {p : Place} (t : ℕ) (r : Rights) → ComesBy P σ.window m σ.cr3 va n p → p ≡ Going t r → Comes σ m va n t
unfolding start step_of entered
way_comes {σ} {m} {va} P t r by_start e = go (canonical va) refl e
  where
    go : (b : Bool) → canonical va ≡ b → cond b (Going (table_of σ.cr3) everything) (Ended found.NoAddress) ≡ Going t r → Comes σ m va 4 t
    go true u f = begin {p = t} refl (cc) u
    go false u f = let z : ◌≡◌ {A = ℕ} 0 1 = cc in absurd (omega arith)
way_comes {σ} {m} {va} P t r (by_step {n = n} {p = q} w k) e = by q e (λ s g f. way_comes P s g w f)
  where
    through : (s : ℕ) (g : Rights) → Comes σ m va (suc n) s → (b : Bool) (x : Entry) → entry_at m n s (index_of n va) ≡ x
        → cond b (entered n va g x) (Ended found.Outside) ≡ Going t r → Comes σ m va n t
    through s g c false x f i = let z : ◌≡◌ {A = ℕ} 0 1 = cc in absurd (omega arith)
    through s g c true Nothing f i = let z : ◌≡◌ {A = ℕ} 0 1 = cc in absurd (omega arith)
    through s g c true (Page y d) f i = let z : ◌≡◌ {A = ℕ} 0 1 = cc in absurd (omega arith)
    through s g c true (Table y d) f i = let to : y ≡ t = cc in onto s d c (f ∙ ap (λ u. Table u d) to)

    by : (q : Place) → step_of σ.window m n va q ≡ Going t r → ((s : ℕ) (g : Rights) → q ≡ Going s g → Comes σ m va (suc n) s) → Comes σ m va n t
    by (Ended f) i ih = let z : ◌≡◌ {A = ℕ} 0 1 = cc in absurd (omega arith)
    by (Going s g) i ih = through s g (ih s g refl) (σ.window s) (entry_at m n s (index_of n va)) refl i
