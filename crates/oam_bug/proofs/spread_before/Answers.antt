-- `oam_bug::spread_before` meets its contract.
use Rattle.oam_bug.specs.Corruption.{spread}
use Rattle.oam_bug.proofs.spread_before.Goals as goal

pub returns : goal.returns
unfolding spread
returns c = cc
