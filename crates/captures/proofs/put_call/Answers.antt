-- `captures::put_call` meets its contract: its name, and the arguments behind it.
use native.Mathlib.Omega.{arith}
use Rattle.texts.proofs.Appends.{then, at_start}
use Rattle.captures.specs.Printing.{printed}
use Rattle.captures.proofs.put_call.Goals as goal

pub put_arguments-requires : goal.put_arguments-requires
put_arguments-requires c = omega (arith, c.put_bytes-at.ensures.behind, c.name_of.ensures.most)

pub returns : goal.returns
unfolding printed
returns c =
    let all = then (rw c.name_of.ensures.name at c.put_bytes-at.ensures) c.put_arguments.ensures in
    let start = at_start all in
    record { prefix_len = start.0; out_after = start.1; out_unchanged = all.kept }
