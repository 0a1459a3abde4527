-- The test of the pictures' lengths, and the fact.
use mathlib.Core.Path.{◌≡◌}
use mathlib.Core.Bool.{true}
use borrow.Author.Tests.{eqb-true, eq-eqb}
use Rattle.logic.proofs.Both.{both, split}
use Rattle.lcd.specs.Pictures.{Pictures, pictures_fit, PicturesSized}

pub pictures_sized : {p : Pictures} → pictures_fit p ≡ true → PicturesSized p
pictures_sized e = let f = split _ _ e in record { a = eqb-true _ _ f.0; b = eqb-true _ _ f.1 }

pub pictures_fit_law : {p : Pictures} → PicturesSized p → pictures_fit p ≡ true
pictures_fit_law f = both (eq-eqb _ _ f.a) (eq-eqb _ _ f.b)
