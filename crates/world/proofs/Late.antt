-- WRITES THAT ARRIVE LATE. The code's writes wait in its store buffer and reach memory in their order (x86-TSO); walks of other processors read
-- memory. What has reached it is a first part of what the code wrote, with marks and others' stores in between: it keeps the discipline too.
use mathlib.Core.Path.{◌≡◌, sym, subst}
use mathlib.Core.List.{List, ◌++◌}
use Prim.Native.Nat.{ℕ}
use Rattle.world.specs.Events.{Event, All}
use Rattle.world.proofs.Events.{all_front}
use Rattle.world.specs.Walker.{Walker, WalkerLaws}
use Rattle.world.specs.Discipline.{Safe}
use Rattle.world.proofs.Rules.{safe_first}
use Rattle.world.specs.Marks.{writes, Fair, Agree, Inside}
use Rattle.world.proofs.Marks.{safe_beside}

-- ws: what the code wrote; gs: what has reached memory; rest: what waits.
module _ {Word View Address Place Answer : Type 0} (W : Walker Word View Address Place Answer) (L : WalkerLaws W) (Ours : ℕ → Type 0)
    (gs rest ws : List (Event Word)) (in_order : writes gs ++ rest ≡ ws) (m m' : ℕ → Word) (same : Agree W Ours m m') (fair : Fair W Ours m' gs) where
  pub late_safe : (F : ℕ → Type 0) → ((x : ℕ) → F x → Ours x) → All m ws (Inside W Ours) → Safe W F m ws → Safe W F m' gs
  late_safe F ours inside safe =
      safe_beside W L Ours gs F F m m' (λ x f. f) ours same fair (all_front (writes gs) rest m (Inside W Ours) (subst (λ l. All m l (Inside W Ours)) (sym in_order) inside))
      (safe_first W L (writes gs) rest F m (subst (Safe W F m) (sym in_order) safe))
