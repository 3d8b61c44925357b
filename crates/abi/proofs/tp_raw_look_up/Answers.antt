use Rattle.abi.proofs.tp_raw_look_up.Goals as goal

pub returns : goal.returns
returns c = record { answer = rw (c.into.ensures, c.look_up.ensures.answer) }
