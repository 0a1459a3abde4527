-- `draw::draw_pixel` meets its contract.
use Rattle.draw.proofs.Fine.{front_coloured}
use Rattle.pixel.proofs.Added.{popped_coloured}
use Rattle.draw.proofs.draw_pixel.Goals as goal

pub mixer-color-requires : goal.mixer-color-requires
mixer-color-requires c =
    let p = c.requires.1 in
    (rw c.take_front-front.ensures.answer (front_coloured p.bg c.requires.2), rw c.pop.ensures.answer (popped_coloured _ p.obj.pixels))
