use Rattle.word.proofs.Budget.{wrote_then}
use Rattle.pool.specs.Layout.{signature_at}
use Rattle.pool.specs.Create.{lay_out}
use Rattle.pool.proofs.making.lay_out.Goals as goal

pub returns : goal.returns
unfolding lay_out signature_at
returns c =
    rw
    (← c.book_pages.ensures)
    (wrote_then _ _ _ _ _ _ _ _ _
    c.bare.ensures
    (wrote_then _ _ _ _ _ _ _ _ _
    c.put_slots.ensures
    (wrote_then _ _ _ _ _ _ _ _ _
    c.put_header.ensures
    (wrote_then _ _ _ _ _ _ _ _ _ c.clear.ensures c.put.ensures))))
