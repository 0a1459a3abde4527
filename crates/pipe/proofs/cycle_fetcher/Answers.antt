-- `pipe::cycle_fetcher` meets its contract.
use Prim.Native.Nat.{◌-◌}
use native.Mathlib.Omega.{arith}
use borrow.Author.Tests.{eq-eqb, ne_eqb}
use Rattle.tiles.proofs.Sources.{dropped}
use Rattle.pipe.specs.Fetching.{fetched_pipe}
use Rattle.pipe.proofs.cycle_fetcher.Goals as goal

pub returns-then-p-gt1 : goal.returns-then-p-gt1
unfolding fetched_pipe
returns-then-p-gt1 c =
    rw (ne_eqb (c.args.p.fetcher.delay - 1) 0 (omega arith))

pub returns : goal.returns
unfolding fetched_pipe
returns c =
    let last = eq-eqb (c.args.p.fetcher.delay - 1) 0 (omega arith) in
    rw (last, c.take_row-n.ensures, c.fetch_bg-fetched.ensures, dropped.fetch)
