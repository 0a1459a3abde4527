-- `captures::print_call` meets its contract: the text is cut to what was put.
use mathlib.Core.Path.{ap, ◌∙◌}
use Prim.Native.Nat.{◌≤◌}
use native.Mathlib.Omega.{arith}
use lib.ListN.{length}
use lib.Seq.{take-take}
use Rattle.captures.proofs.Laws.{printed_fits}
use Rattle.captures.proofs.print_call.Goals as goal

pub returns : goal.returns
returns c =
    let len = c.put_call-len.result in
    let put = c.put_call-len.ensures in
    let fits : len ≤ 40 = omega (arith, put.prefix_len.1, ap length put.out_after, printed_fits c.args.call) in
    c.truncate.ensures ∙ take-take len 40 c.put_call-len.new.out fits ∙ put.out_after
