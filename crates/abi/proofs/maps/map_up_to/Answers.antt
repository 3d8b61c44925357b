use mathlib.Core.Path.{refl}
use Rattle.abi.specs.Calls.{rights_site, map_answer}
use borrow.Author.Tests.{lt-ltb, le-ltb}
use Rattle.abi.proofs.maps.map_up_to.Goals as goal

pub returns-then-rights-ge8 : goal.returns-then-rights-ge8
unfolding map_answer rights_site
returns-then-rights-ge8 c = let e = le-ltb _ _ c.if-rights-ge8.true in record { answer = rw e; order = rw e (refl, refl) }

pub returns-in-4096 : goal.returns-in-4096
unfolding rights_site
returns-in-4096 c = let e = lt-ltb _ _ c.if-rights-ge8.false in record { answer = rw (e, c.in-4096.is) c.sized.ensures.answer; order = rw (e, c.in-4096.is) c.sized.ensures.order }

pub returns-in-2097152 : goal.returns-in-2097152
unfolding rights_site
returns-in-2097152 c = let e = lt-ltb _ _ c.if-rights-ge8.false in record { answer = rw (e, c.in-2097152.is) c.sized-in-2097152.ensures.answer; order = rw (e, c.in-2097152.is) c.sized-in-2097152.ensures.order }

pub returns-in-1073741824 : goal.returns-in-1073741824
unfolding rights_site
returns-in-1073741824 c = let e = lt-ltb _ _ c.if-rights-ge8.false in record { answer = rw (e, c.in-1073741824.is) c.sized-in-1073741824.ensures.answer; order = rw (e, c.in-1073741824.is) c.sized-in-1073741824.ensures.order }

pub returns-in_default : goal.returns-in_default
unfolding rights_site
returns-in_default c = let e = lt-ltb _ _ c.if-rights-ge8.false in record { answer = rw e c.whole.ensures.answer; order = rw e c.whole.ensures.order }
