-- The test of the tables' lengths, and the fact.
use mathlib.Core.Path.{◌≡◌}
use mathlib.Core.Bool.{true}
use borrow.Author.Tests.{eqb-true, eq-eqb}
use Rattle.logic.proofs.Both.{both, split}
use Rattle.hardware.specs.Tables.{Tables, tables_fit, TablesSized}

pub tables_sized : {t : Tables} → tables_fit t ≡ true → TablesSized t
tables_sized e = let f = split _ _ e in record { vram = eqb-true _ _ f.0; oam = eqb-true _ _ f.1 }

pub tables_fit_law : {t : Tables} → TablesSized t → tables_fit t ≡ true
tables_fit_law f = both (eq-eqb _ _ f.vram) (eq-eqb _ _ f.oam)
