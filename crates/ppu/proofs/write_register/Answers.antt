-- `ppu::write_register` meets its contract.
use mathlib.Core.Path.{refl}
use Rattle.terms.proofs.Graded.{graded_fine}
use Rattle.ppu.proofs.write_register.Goals as goal

pub write_register-requires : goal.write_register-requires
write_register-requires c = (graded_fine _ c.in_ok-write.ensures refl).fine.palettes
