-- `draw::prepare` meets its contract.
use Rattle.draw.proofs.Fine.{fed_pipe_fine}
use Rattle.draw.proofs.prepare.Goals as goal

pub add_sprites-p-requires : goal.add_sprites-p-requires
add_sprites-p-requires c =
    let d = c.requires in
    let p = fed_pipe_fine _ c.args.vram.now c.args.s d.pipe in
    (d.size, rw c.advance-p.ensures p.obj.len, d.selection.count)
