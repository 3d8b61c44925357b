-- WHAT EACH OPERATION MEANS: the clause `meaning` of its contract. s are the bytes at its entry, s' those at its exit, r is what it answers.
use Rattle.std.specs.Prelude.{ℕ, ◌*◌, Bool, List, ◌≡◌, Result, Err}
use Rattle.pool.specs.declared.Reason.{Reason as PoolReason}
use Rattle.tablepath.specs.declared.NotReleased.{NotReleased}
use Rattle.tablepath.specs.declared.Gone.{Gone}
use Rattle.tablepath.specs.declared.Altered.{Altered}
use Rattle.pool.specs.declared.moment.Counts.{Counts}
use Rattle.word.specs.Memory.{memory, holds}
use Rattle.entry.specs.declared.Rights.{Rights}
use Rattle.walk.specs.declared.Found.{Found}
use Rattle.tables.specs.Roles.{Role}
use Rattle.pool.specs.declared.Space.{Space}
use Rattle.plan.specs.declared.Reason.{Reason}
use Rattle.plan.specs.declared.maps.Asked.{Asked}
use Rattle.tablepath.specs.Looks.{WholeBytes}
use Rattle.tablepath.specs.Says.{MapSays, UnmapSays, ProtectSays, ToldSays, LookUpSays, Declined}
use Rattle.tablepath.specs.Tickets.{StateSays}

-- the shape of every operation that writes: when it refuses, and what its answer says of the window before and after
pub record Means (s s' : List ℕ) (sp : Space) (Refusal : Type 0) (Says : (ℕ → Bool) → (ℕ → Bool) → (ℕ → ℕ) → (ℕ → ℕ) → (ℕ → Role) → Type 0) : Type 0 where
  -- for any bytes: a refusal leaves each of them
  pub leaves : Refusal → s' ≡ s
  -- a space that is whole stays so, whatever is answered
  pub kept : (role : ℕ → Role) → WholeBytes s sp role → (role' : ℕ → Role) × WholeBytes s' sp role'
  -- and in such a space the answer is so
  pub says : (role : ℕ → Role) → WholeBytes s sp role → Says (holds s sp.origin) (holds s' sp.origin) (memory s sp.origin) (memory s' sp.origin) role

abbrev pub MapMeans : List ℕ → List ℕ → Space → Asked → Result ℕ Reason → Type 0
MapMeans s s' sp q r = Means s s' sp ((y : Reason) × (r ≡ Err y)) (λ h h' m m' role. MapSays h h' sp m m' role q r)

abbrev pub UnmapMeans : List ℕ → List ℕ → Space → ℕ → Result Gone Reason → Type 0
UnmapMeans s s' sp va r = Means s s' sp ((y : Reason) × (r ≡ Err y)) (λ h h' m m' role. UnmapSays h h' sp m m' role va r)

abbrev pub ProtectMeans : List ℕ → List ℕ → Space → ℕ → Rights → Result Altered Reason → Type 0
ProtectMeans s s' sp va g r = Means s s' sp ((y : Reason) × (r ≡ Err y)) (λ h h' m m' role. ProtectSays h h' sp m m' role va g r)

abbrev pub ToldMeans : List ℕ → List ℕ → Space → ℕ → Result ℕ NotReleased → Type 0
ToldMeans s s' sp t r = Means s s' sp (Declined r) (λ h h' m m' role. ToldSays h h' sp m m' role t r)

abbrev pub StateMeans : List ℕ → Space → Result Counts PoolReason → Type 0
StateMeans s sp r = (role : ℕ → Role) → WholeBytes s sp role → StateSays sp (memory s sp.origin) role r

-- of the address va, from the root of a space that is whole
abbrev pub LookUpMeans : List ℕ → ℕ → ℕ → ℕ → Found → Type 0
LookUpMeans s origin root va o = (sp : Space) (role : ℕ → Role) → sp.origin ≡ origin → 4096 * sp.root ≡ root → WholeBytes s sp role → LookUpSays (holds s origin) sp va o
