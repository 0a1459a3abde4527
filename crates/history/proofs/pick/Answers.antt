-- `history::pick` says of `ppu::pick` what specs/Public says.
use Rattle.history.proofs.Public.{pick_performs}
use Rattle.history.proofs.pick.Goals as goal

pub returns : goal.returns
returns c = pick_performs c.pick.ensures
