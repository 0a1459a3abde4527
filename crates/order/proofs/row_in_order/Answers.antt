-- `order::row_in_order` meets its contract.
use mathlib.Core.Path.{◌∙◌}
use borrow.Author.Tests.{tests}
use Rattle.std.proofs.Common.{rules}
use Rattle.std.proofs.lemmas.Iterator.{YieldsList-from_slice}
use Rattle.std.proofs.lemmas.Iterator.Search.{all_from_yields_List}
use Rattle.logic.proofs.Listed.{all_every}
use Rattle.order.specs.Order.{colour_order}
use Rattle.order.proofs.row_in_order.Goals as goal

pub returns : goal.returns
returns c =
    all_from_yields_List colour_order _ _ _ c.all.ensures.ran (YieldsList-from_slice c.args.row cc) (λ x b q k. search (rules, tests))
    ∙ all_every colour_order c.args.row
