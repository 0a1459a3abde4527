-- `order::selection_in_order` meets its contract.
use mathlib.Core.Path.{◌∙◌}
use native.Mathlib.Omega.{arith}
use borrow.Author.Tests.{tests, le-leb}
use lib.ListN.{take}
use Rattle.std.proofs.Common.{rules}
use Rattle.std.proofs.lemmas.Iterator.{YieldsList-from_slice}
use Rattle.std.proofs.lemmas.Iterator.Search.{all_from_yields_List}
use Rattle.logic.proofs.Listed.{all_every}
use Rattle.order.specs.Order.{slot_order}
use Rattle.order.proofs.selection_in_order.Goals as goal

pub returns-then-s-le10 : goal.returns-then-s-le10
returns-then-s-le10 c =
    let s = c.args.s in
    let selected = take s.count s.slots in
    rw (le-leb _ _ c.if-s-le10.true)
    (all_from_yields_List slot_order _ _ c.all.result c.all.ensures.ran (YieldsList-from_slice selected (grind arith)) (λ x b q k. search (rules, tests))
    ∙ all_every slot_order selected)
