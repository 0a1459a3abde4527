-- `oam_bug::copy_row` meets its contract.
use Rattle.oam_bug.specs.Words.{row_copied}
use Rattle.oam_bug.proofs.copy_row.Goals as goal

pub returns : goal.returns
unfolding row_copied
returns c = simp c.row_at-words.ensures at c.put_row.ensures
