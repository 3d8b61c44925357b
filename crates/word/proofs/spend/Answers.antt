use Rattle.word.proofs.Budget.{spent_all, spent_none, spent_one}
use Rattle.word.proofs.spend.Goals as goal

pub returns-then-n-ge-ENDLESS : goal.returns-then-n-ge-ENDLESS
returns-then-n-ge-ENDLESS c = let both = spent_all _ c.if-n-ge-ENDLESS.true in record { value = both.0; left_after = both.1 }

pub returns-then-n-eq0 : goal.returns-then-n-eq0
returns-then-n-eq0 c = let both = spent_none _ c.if-n-eq0.true in record { value = both.0; left_after = both.1 }

pub returns : goal.returns
returns c = let both = spent_one _ c.if-n-ge-ENDLESS.false c.if-n-eq0.false in record { value = both.0; left_after = both.1 }
