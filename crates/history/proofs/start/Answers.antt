-- `history::start` says of `ppu::start` what specs/Public says.
use Rattle.history.proofs.Public.{start_performs}
use Rattle.history.proofs.start.Goals as goal

pub returns : goal.returns
returns c = start_performs c.start.ensures
