use Rattle.entry.specs.Words.{made_page, fits, page_word}
use Rattle.std.proofs.Common.{arith, le-ltb, lt-ltb, eq-eqb, ne_eqb, le-leb}
use borrow.Author.Tests.{lt-leb}
use Rattle.entry.proofs.Levels.{size_pos, from_flag}
use Rattle.entry.proofs.page_word.Goals as goal

pub returns-then-n-gt2 : goal.returns-then-n-gt2
unfolding made_page fits
returns-then-n-gt2 c = simp (lt-leb _ _ c.if-n-gt2.true)

pub nonzero_rem-frame : goal.nonzero_rem-frame
nonzero_rem-frame c = rw (c.size.ensures.0 (omega arith)) (size_pos _ (omega arith))

pub returns-then-frame-size-ne0 : goal.returns-then-frame-size-ne0
unfolding made_page fits
returns-then-frame-size-ne0 c = simp (le-leb _ _ c.if-n-gt2.false, ← (c.size.ensures.0 (omega arith)), ne_eqb _ _ c.if-frame-size-ne0.true)

pub returns-then-frame-ge-FRAME_END : goal.returns-then-frame-ge-FRAME_END
unfolding made_page fits
returns-then-frame-ge-FRAME_END c = simp (le-leb _ _ c.if-n-gt2.false, ← (c.size.ensures.0 (omega arith)), eq-eqb _ _ c.if-frame-size-ne0.false, le-ltb _ _ c.if-frame-ge-FRAME_END.true)

pub returns : goal.returns
unfolding made_page fits page_word
returns c =
    simp (
      le-leb _ _ c.if-n-gt2.false,
      ←
          (c.size.ensures.0 (omega arith)),
      eq-eqb _ _
          c.if-frame-size-ne0.false,
      lt-ltb _ _ c.if-frame-ge-FRAME_END.false,
      from_flag _ _ c.from.ensures,
      from_flag _ _ c.from-2.ensures,
      from_flag _ _ c.from-3.ensures,
      c.large_flag.ensures.0,
    )
