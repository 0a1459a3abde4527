-- `ports::read_register` meets its contract.
use mathlib.Core.Path.{refl}
use Rattle.terms.proofs.Graded.{graded_fine}
use Rattle.ports.proofs.read_register.Goals as goal

pub read_register-requires : goal.read_register-requires
read_register-requires c = (graded_fine _ c.in_ok-read.ensures refl).fine.palettes
