-- `locks::locked_write_vram` meets its contract.
use mathlib.Core.Path.{refl}
use borrow.Author.Tests.{eqb-true}
use Rattle.terms.proofs.Graded.{graded_fine}
use Rattle.locks.proofs.locked_write_vram.Goals as goal

pub write_vram-requires : goal.write_vram-requires
write_vram-requires c =
    let f = graded_fine _ c.in_ok-vram.ensures refl in
    (eqb-true _ _ f.sized, f.fine.regs.bank)
