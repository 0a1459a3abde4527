-- `ppu::step` meets its contract.
use mathlib.Core.Path.{refl}
use native.Mathlib.Omega.{arith}
use Rattle.logic.proofs.Both.{split}
use Rattle.refusals.proofs.Ladder.{own_none}
use Rattle.hardware.proofs.Tables.{tables_sized}
use Rattle.lcd.proofs.Pictures.{pictures_sized}
use Rattle.terms.proofs.Graded.{graded_fine}
use Rattle.terms.proofs.Pace.{pace}
use Rattle.ppu.proofs.step.Goals as goal

pub step-taken-requires : goal.step-taken-requires
step-taken-requires c =
    let f = graded_fine _ c.in_ok-step.ensures refl in
    let sizes = split _ _ f.sized in
    let b = f.fine.beam in (
      record { tables = tables_sized sizes.0; pictures = pictures_sized sizes.1; fine = f.fine },
      (pace _ _ (own_none _ {n = 3} (omega arith) f.own)).fits b.even b.cycle,
    )
