use Rattle.plan.proofs.Ways.{descended}
use Rattle.std.proofs.Common.{◌≡◌, ℕ, sym, ◌∙◌, arith}
use Rattle.plan.proofs.descent.descend.Goals as goal

pub unreachable-requires : goal.unreachable-requires
unreachable-requires c =
    let e = sym c.in-Continue.is ∙ (c.down.ensures ∙ descended _ _ _ _ _) in
    let z : ◌≡◌ {A = ℕ} 0 1 = cc in omega arith

pub returns : goal.returns
returns c = let e = sym c.in-Break.is ∙ (c.down.ensures ∙ descended _ _ _ _ _) in cc
