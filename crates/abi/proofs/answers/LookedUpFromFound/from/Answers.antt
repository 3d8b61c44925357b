use Rattle.abi.specs.Answers.{looked_up_to_c}
use Rattle.abi.proofs.answers.LookedUpFromFound.from.Goals as goal

pub returns-in-Page : goal.returns-in-Page
unfolding looked_up_to_c
returns-in-Page c = rw (c.in-Page.is, c.rights_word.ensures)

pub returns-in-Nothing : goal.returns-in-Nothing
unfolding looked_up_to_c
returns-in-Nothing c = rw (c.in-Nothing.is, c.default.ensures.0, c.default.ensures.1.0, c.default.ensures.1.1.0, c.default.ensures.1.1.1.0, c.default.ensures.1.1.1.1)

pub returns-in-Outside : goal.returns-in-Outside
unfolding looked_up_to_c
returns-in-Outside c = rw (c.in-Outside.is, c.default-in-Outside.ensures.1.0, c.default-in-Outside.ensures.1.1.0, c.default-in-Outside.ensures.1.1.1.0, c.default-in-Outside.ensures.1.1.1.1)

pub returns-in-NoAddress : goal.returns-in-NoAddress
unfolding looked_up_to_c
returns-in-NoAddress c = rw (c.in-NoAddress.is, c.default-in-NoAddress.ensures.1.0, c.default-in-NoAddress.ensures.1.1.0, c.default-in-NoAddress.ensures.1.1.1.0, c.default-in-NoAddress.ensures.1.1.1.1)
