-- `order::bg_in_order` meets its contract.
use mathlib.Core.Path.{refl, ◌∙◌}
use Prim.Native.Nat.{ℕ, ◌+◌, ◌%◌}
use native.Mathlib.Omega.{arith}
use borrow.Author.Tests.{tests, le-leb}
use lib.ListN.{get_or}
use Rattle.std.proofs.Common.{rules}
use Rattle.std.proofs.lemmas.Iterator.{YieldsList-from_range}
use Rattle.std.proofs.lemmas.Iterator.Search.{all_from_yields_List}
use Rattle.fifo.specs.Background.{bg_blank}
use Rattle.order.specs.Order.{bg_pixel_order}
use Rattle.order.proofs.Tested.{ring_all}
use Rattle.order.proofs.bg_in_order.Goals as goal

pub returns-then-q-le16 : goal.returns-then-q-le16
returns-then-q-le16 c =
    let q = c.args.q in
    rw (le-leb _ _ c.if-q-le16.true)
    (all_from_yields_List (λ (k : ℕ). bg_pixel_order (get_or q.pixels ((q.head + k) % 16) bg_blank)) _ _ c.all.result (rw c.from.ensures at c.all.ensures.ran)
    (YieldsList-from_range 0 q.len q.len refl (omega arith))
    (λ x b q k. search (rules, tests))
    ∙ ring_all bg_pixel_order 16 bg_blank q.pixels q.head q.len)
