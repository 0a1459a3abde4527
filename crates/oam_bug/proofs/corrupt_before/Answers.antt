-- `oam_bug::corrupt_before` meets its contract.
use Rattle.oam_bug.specs.Corruption.{before_corrupted}
use Rattle.oam_bug.proofs.corrupt_before.Goals as goal

pub returns : goal.returns
unfolding before_corrupted
returns c = cc
