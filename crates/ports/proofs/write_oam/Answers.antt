-- `ports::write_oam` meets its contract.
use mathlib.Core.Path.{sym}
use native.Mathlib.Omega.{arith}
use borrow.Author.Tests.{eqb-true, ltb-true}
use Rattle.refusals.proofs.Ladder.{lowest_none, own_none}
use Rattle.ports.proofs.write_oam.Goals as goal

pub write_oam-requires : goal.write_oam-requires
write_oam-requires c =
    let f = lowest_none _ _ (sym c.in_ok-oam.ensures) in
    (eqb-true _ _ f.sized, ltb-true _ _ (own_none _ (omega arith) f.own))
