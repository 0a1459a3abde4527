-- `oam_bug::corrupt_write` meets its contract.
use Rattle.oam_bug.specs.Corruption.{write_corrupted}
use Rattle.oam_bug.proofs.Rows.{by_rule}
use Rattle.oam_bug.proofs.corrupt_write.Goals as goal

pub returns : goal.returns
unfolding write_corrupted
returns c = by_rule _ _ _ _ c.corrupt_row.ensures.first c.corrupt_row.ensures.others
