-- Every example of the table holds, by computing or by a law.
use mathlib.Core.Path.{refl}
use Rattle.lcd.specs.Mix.{mix}
use Rattle.registers.specs.Registers.{kept_in, writable}
use Rattle.registers.specs.Write.{registers_written}
use Rattle.sprite.proofs.Those.{first_ten}
use Rattle.examples.specs.Examples.{Example, P1, P2, P3, P4, P5, P6, P7, P8, P9, P10, P11, says}

pub holds : (e : Example) → says e
unfolding mix registers_written kept_in writable
holds P1 = refl
holds P2 = refl
holds P3 = refl
holds P4 = (refl, refl, refl)
holds P5 = (refl, refl, refl, refl)
holds P6 = first_ten
holds P7 = λ c0 c1 c2 c3 c4 c5 c6 c7. (refl, refl)
holds P8 = λ v. (refl, refl)
holds P9 = λ r e. rw e
holds P10 = (refl, refl, refl, refl)
holds P11 = (refl, refl)
