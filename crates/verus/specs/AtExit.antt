-- What the source promises of its three operations, over the lent bytes: s when the exported function is called, s' when it returns, r what it
-- answers.
use Rattle.std.specs.Prelude.{ℕ, false, List, ◌≢◌, ◌≡◌, Result, Ok, Err}
use Rattle.std.proofs.Math.Option.{some}
use Rattle.word.specs.Memory.{memory, holds}
use Rattle.entry.specs.declared.Rights.{Rights}
use Rattle.pool.specs.declared.Space.{Space}
use Rattle.plan.specs.Rights.{write_execute}
use Rattle.plan.specs.declared.Reason.{Reason}
use Rattle.plan.specs.declared.Reason.TheVariants.{FrameInPool, NoRoom}
use Rattle.plan.specs.declared.maps.Asked.{Asked}
use Rattle.tablepath.specs.declared.Gone.{Gone}
use Rattle.tablepath.specs.declared.Altered.{Altered}
use Rattle.verus.specs.Regions.{pte_of}
use Rattle.verus.specs.Mappings.{Mappings, ContainsKey, CandidateOverlaps, AcceptedMapping, SameMap, inserted, removed}
use Rattle.verus.specs.Order.{meant}
use Rattle.verus.specs.Operations.{InvAfter}

-- what the tables of a space mean to the source, in these bytes
abbrev pub meant_in : List ℕ → Space → Mappings
meant_in s sp = meant sp (memory s sp.origin)

-- inv_and_nonempty, in these bytes
abbrev pub InvIn : List ℕ → Space → Type 0
InvIn s sp = InvAfter (holds s sp.origin) sp (memory s sp.origin)

-- map_frame. Done: the page is in the map, and nothing overlapped it. Refused: every byte is as it was; and something overlaps, where the
-- source's demand holds (accepted_mapping) and the rights are not both writable and executable, for every reason but the two that it has no
-- word for.
pub record MapExit (s s' : List ℕ) (sp : Space) (q : Asked) (r : Result ℕ Reason) : Type 0 where
  pub inv : InvIn s' sp
  pub done : (k : ℕ) → r ≡ Ok k → SameMap (meant_in s' sp) (inserted (meant_in s sp) q.base (pte_of q.size q.frame q.rights))
  pub apart : (k : ℕ) → r ≡ Ok k → ¬ CandidateOverlaps (meant_in s sp) q.base (pte_of q.size q.frame q.rights)
  pub unchanged : (y : Reason) → r ≡ Err y → s' ≡ s
  pub overlaps : (y : Reason) → r ≡ Err y → AcceptedMapping q.base (pte_of q.size q.frame q.rights) → write_execute q.rights ≡ false
      → y ≢ FrameInPool → y ≢ NoRoom
      → CandidateOverlaps (meant_in s sp) q.base (pte_of q.size q.frame q.rights)

-- unmap. Done: the base was mapped, to the frame and the size that are answered, and is no more. Refused: every byte is as it was, and the base
-- was not mapped.
pub record UnmapExit (s s' : List ℕ) (sp : Space) (base : ℕ) (r : Result Gone Reason) : Type 0 where
  pub inv : InvIn s' sp
  pub done : (g : Gone) → r ≡ Ok g → SameMap (meant_in s' sp) (removed (meant_in s sp) base)
  pub had : (g : Gone) → r ≡ Ok g → (before : Rights) × (meant_in s sp base ≡ some (pte_of g.size g.frame before))
  pub unchanged : (y : Reason) → r ≡ Err y → s' ≡ s
  pub missing : (y : Reason) → r ≡ Err y → ¬ ContainsKey (meant_in s sp) base

-- protect. Done: the base was mapped, and has the same frame with the new flags. Refused: as of unmap, where the rights are not both writable
-- and executable.
pub record ProtectExit (s s' : List ℕ) (sp : Space) (base : ℕ) (rights : Rights) (r : Result Altered Reason) : Type 0 where
  pub inv : InvIn s' sp
  pub done : (g : Altered) → r ≡ Ok g → SameMap (meant_in s' sp) (inserted (meant_in s sp) base (pte_of g.size g.frame rights))
  pub had : (g : Altered) → r ≡ Ok g → (before : Rights) × (meant_in s sp base ≡ some (pte_of g.size g.frame before))
  pub unchanged : (y : Reason) → r ≡ Err y → s' ≡ s
  pub missing : (y : Reason) → r ≡ Err y → write_execute rights ≡ false → ¬ ContainsKey (meant_in s sp) base
