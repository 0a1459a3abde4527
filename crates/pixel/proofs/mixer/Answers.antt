-- `pixel::mixer` meets its contract.
use Rattle.pixel.specs.Mixer.{seen}
use Rattle.pixel.proofs.Added.{winner_coloured}
use Rattle.pixel.proofs.mixer.Goals as goal

pub color_of-requires : goal.color_of-requires
color_of-requires c =
    let a = c.args in
    (c.requires.0, rw c.decide.ensures (winner_coloured a.r a.b a.pop c.requires.1))

pub returns : goal.returns
unfolding seen
returns c = rw (c.color_of.ensures, c.decide.ensures)
