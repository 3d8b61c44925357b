use Rattle.word.proofs.Budget.{wrote_then}
use Rattle.pool.specs.Layout.{pages_at, root_at, tickets_at, free_at, aside_at, header_words}
use Rattle.pool.specs.Create.{header_writes}
use Rattle.pool.proofs.making.put_header.Goals as goal

pub returns : goal.returns
unfolding header_writes pages_at root_at tickets_at free_at aside_at header_words
returns c =
    wrote_then _ _ _ _ _ _ _ _ _
    c.put.ensures
    (wrote_then _ _ _ _ _ _ _ _ _
    c.put-2.ensures
    (wrote_then _ _ _ _ _ _ _ _ _ c.put-3.ensures
    (wrote_then _ _ _ _ _ _ _ _ _ c.put-4.ensures c.blank.ensures)))
