-- `pixel::does_none_start` meets its contract.
use mathlib.Core.Path.{◌∙◌}
use native.Mathlib.Omega.{arith}
use borrow.Author.Tests.{tests}
use lib.ListN.{take}
use Rattle.std.proofs.Common.{rules}
use Rattle.std.proofs.lemmas.Iterator.{YieldsList-from_slice}
use Rattle.std.proofs.lemmas.Iterator.Search.{all_from_yields_List}
use Rattle.logic.proofs.Listed.{all_every}
use Rattle.pixel.specs.Sprites.{elsewhere}
use Rattle.pixel.proofs.does_none_start.Goals as goal

pub returns : goal.returns
returns c =
    let l = c.args.l in
    let selected = take l.count l.slots in
    all_from_yields_List (elsewhere c.args.x) _ _ c.all.result c.all.ensures.ran (YieldsList-from_slice selected (grind arith)) (λ x b q k. search (rules, tests))
    ∙ all_every (elsewhere c.args.x) selected
