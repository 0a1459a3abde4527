-- `oam_bug::put_row` meets its contract.
use Rattle.oam_bug.specs.Words.{with_row}
use Rattle.oam_bug.proofs.put_row.Goals as goal

pub returns : goal.returns
unfolding with_row
returns c = cc
