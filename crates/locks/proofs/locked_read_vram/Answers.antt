-- `locks::locked_read_vram` meets its contract.
use mathlib.Core.Path.{refl}
use borrow.Author.Tests.{eqb-true}
use Rattle.terms.proofs.Graded.{graded_fine}
use Rattle.locks.proofs.locked_read_vram.Goals as goal

pub read_vram_banked-byte-requires : goal.read_vram_banked-byte-requires
read_vram_banked-byte-requires c =
    let f = graded_fine _ c.in_ok-vram.ensures refl in
    (eqb-true _ _ f.sized, f.fine.regs.bank)
