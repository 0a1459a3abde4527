-- `fifo::Fifo::take_front` meets its contract.
use native.Mathlib.Nat.{mod-lt}
use native.Mathlib.Omega.{arith}
use Rattle.std.proofs.Common.{◌%◌}
use Rattle.std.proofs.lemmas.List.{get_or_default}
use Rattle.fifo.proofs.Fifo.take_front.Goals as goal

-- the slot is one of the ring's, so what stands there is read without a blank
pub returns-clause-answer : goal.returns-clause-answer
returns-clause-answer g c =
    let q = c.args.self.now in
    rw c.from-at.ensures (get_or_default q.pixels (q.head % g.row.N) _ g.P.Pixel.BLANK (omega (arith, mod-lt q.head (c.requires.slots.0))))
