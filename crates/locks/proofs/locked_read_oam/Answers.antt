-- `locks::locked_read_oam` meets its contract.
use mathlib.Core.Path.{refl}
use native.Mathlib.Omega.{arith}
use borrow.Author.Tests.{eqb-true, ltb-true}
use Rattle.refusals.proofs.Ladder.{own_none}
use Rattle.terms.proofs.Graded.{graded_fine}
use Rattle.locks.proofs.locked_read_oam.Goals as goal

pub read_oam-byte-requires : goal.read_oam-byte-requires
read_oam-byte-requires c =
    let f = graded_fine _ c.in_ok-locked_oam.ensures refl in
    (eqb-true _ _ f.sized, ltb-true _ _ (own_none _ (omega arith) f.own))
