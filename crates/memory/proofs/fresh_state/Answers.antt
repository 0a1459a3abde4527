-- `memory::fresh_state` meets its contract.
use Rattle.memory.specs.Fresh.{fresh_state}
use Rattle.memory.proofs.fresh_state.Goals as goal

pub returns : goal.returns
unfolding fresh_state
returns c =
    let palettes = c.fresh_palettes.ensures in
    let colour = c.in_colour-cgb.ensures in
    rw (c.fresh_beam.ensures, c.fresh_pipe.ensures, c.blank.ensures, palettes, c.fresh_registers.ensures, colour)
