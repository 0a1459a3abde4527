-- `line_sets::move_entry` meets its contract.
use Rattle.std.proofs.Common.{◌∙◌, arith, eq-eqb}
use Rattle.line_sets.specs.Lines.{moved}
use Rattle.line_sets.proofs.Moves.{moves, put_lines_sets}
use Rattle.line_sets.proofs.move_entry.Goals as goal

pub returns-then-old-new : goal.returns-then-old-new
unfolding moved
returns-then-old-new c = rw (eq-eqb _ _ c.if-old-new.true)

pub put_lines-requires-2 : goal.put_lines-requires-2
put_lines-requires-2 c =
    let first = c.put_lines.ensures in
    let a = c.args in (
      omega arith,
      rw first (put_lines_sets a.i _ a.old a.tall a.sets.now a.new c.requires.2),
    )

pub returns : goal.returns
returns c =
    let second = c.put_lines-2.ensures in
    let first = c.put_lines.ensures in
    second ∙ rw first (moves _ _ _ _ _ c.if-old-new.false)
