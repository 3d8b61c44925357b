-- What the source promises of its three operations, over our memory: map_frame, unmap and protect of impl_u/l2_impl.rs, both outcomes, and what
-- the tokens' changing writes demand of the meaning (wrapped_token.rs, write_change). m is the memory before, m' the one after.
use Rattle.std.specs.Prelude.{ℕ, suc, Bool, List, [], ◌≡◌}
use Rattle.std.proofs.Math.Option.{some}
use Rattle.word.specs.Writes.{Write, after}
use Rattle.entry.specs.declared.Rights.{Rights}
use Rattle.world.specs.Events.{All}
use Rattle.world.specs.OneChange.{OneChange}
use Rattle.tables.specs.Roles.{Role}
use Rattle.tables.specs.Way.{Comes}
use Rattle.tables.specs.Discipline.{walker_of}
use Rattle.tables.specs.Clearing.{events_of}
use Rattle.pool.specs.Booked.{setting_of}
use Rattle.pool.specs.declared.Space.{Space}
use Rattle.effect.specs.Whole.{Whole}
use Rattle.verus.specs.Regions.{PTE, pte_of}
use Rattle.verus.specs.Mappings.{Mappings, ContainsKey, CandidateOverlaps, SameMap, inserted, removed}
use Rattle.verus.specs.Trees.{InvAndNonempty, SomeInv}
use Rattle.verus.specs.Order.{meant, ChangeFirst, ChangeLast, FramedBySubtrees, KeepsOutside, InnerFirst}

-- inv_and_nonempty of the memory after; with our own invariant, under which the next operation is promised the same
pub record InvAfter (h : ℕ → Bool) (sp : Space) (m' : ℕ → ℕ) : Type 0 where
  pub role : ℕ → Role
  pub whole : Whole h sp m' role
  pub inv : InvAndNonempty (setting_of h sp) m' role

-- change_made: the one write that changes the meaning was made, and the map is what the token was asked for. moments: what the tokens' writes
-- demand before and after each, inv.
pub record ChangeMade (h : ℕ → Bool) (sp : Space) (m : ℕ → ℕ) (xs : List Write) (now : Mappings) : Type 0 where
  pub inv : InvAfter h sp (after m xs)
  pub one : OneChange (walker_of (setting_of h sp)) m (events_of xs)
  pub moments : All m (events_of xs) (SomeInv (setting_of h sp))
  pub meaning : SameMap (meant sp (after m xs)) now

-- final(tok)@ == old(tok)@
abbrev pub Unchanged : List Write → Type 0
Unchanged xs = xs ≡ []

-- map_frame, Ok; role is the ghost tree before
pub record MapOk (h : ℕ → Bool) (sp : Space) (m : ℕ → ℕ) (role : ℕ → Role) (xs : List Write) (base : ℕ) (p : PTE) : Type 0 where
  pub made : ChangeMade h sp m xs (inserted (meant sp m) base p)
  pub apart : ¬ CandidateOverlaps (meant sp m) base p
  pub order : ChangeLast sp m xs (inserted (meant sp m) base p)
  pub framed : FramedBySubtrees (setting_of h sp) sp m role made.inv.role xs base

-- map_frame, Err
pub record MapErr (sp : Space) (m : ℕ → ℕ) (xs : List Write) (base : ℕ) (p : PTE) : Type 0 where
  pub unchanged : Unchanged xs
  pub overlaps : CandidateOverlaps (meant sp m) base p

-- unmap, Ok; the frame and the size that are handed back, which the source leaves open
pub record UnmapOk (h : ℕ → Bool) (sp : Space) (m : ℕ → ℕ) (xs : List Write) (base frame size : ℕ) : Type 0 where
  pub made : ChangeMade h sp m xs (removed (meant sp m) base)
  pub order : ChangeFirst sp m xs (removed (meant sp m) base)
  pub framed : (l t : ℕ) → Comes (setting_of h sp) m base (suc l) t → InnerFirst sp m xs l t
  pub rights : Rights
  pub had : meant sp m base ≡ some (pte_of size frame rights)

-- protect, Ok: the frame that was there, with the new flags
pub record ProtectOk (h : ℕ → Bool) (sp : Space) (m : ℕ → ℕ) (xs : List Write) (base frame size : ℕ) (rights : Rights) : Type 0 where
  pub made : ChangeMade h sp m xs (inserted (meant sp m) base (pte_of size frame rights))
  pub order : ChangeFirst sp m xs (inserted (meant sp m) base (pte_of size frame rights))
  pub framed : KeepsOutside (setting_of h sp) m xs base
  pub before : Rights
  pub had : meant sp m base ≡ some (pte_of size frame before)

-- unmap and protect, Err
pub record NotThere (sp : Space) (m : ℕ → ℕ) (xs : List Write) (base : ℕ) : Type 0 where
  pub unchanged : Unchanged xs
  pub missing : ¬ ContainsKey (meant sp m) base
