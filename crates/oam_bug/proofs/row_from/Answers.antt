-- `oam_bug::row_from` meets its contract.
use Rattle.oam_bug.specs.Words.{row_from}
use Rattle.oam_bug.proofs.row_from.Goals as goal

pub returns : goal.returns
unfolding row_from
returns c = simp (c.row_at.ensures, c.preceding.ensures) at c.put_row.ensures
