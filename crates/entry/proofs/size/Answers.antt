use Rattle.entry.specs.Entry.{size_of}
use Rattle.std.proofs.Common.{◌≡◌, refl, arith}
use Rattle.entry.proofs.size.Goals as goal

pub returns-then-n-eq0 : goal.returns-then-n-eq0
unfolding size_of
returns-then-n-eq0 c = (λ _. rw c.if-n-eq0.true, omega arith, λ u. absurd (omega arith))

pub returns-then-n-eq1 : goal.returns-then-n-eq1
unfolding size_of
returns-then-n-eq1 c = (λ _. rw c.if-n-eq1.true, omega arith, λ u. absurd (omega arith))

pub returns-then-n-eq2 : goal.returns-then-n-eq2
unfolding size_of
returns-then-n-eq2 c = (λ _. rw c.if-n-eq2.true, omega arith, λ u. absurd (omega arith))

pub returns : goal.returns
unfolding size_of
returns c = (λ u. let h : c.args.n ≡ 3 = omega arith in rw h, omega arith, λ u. refl)
