-- `filing::shown_name` meets its contract.
use Prim.Native.Nat.{◌≤◌}
use mathlib.Core.Path.{◌≡◌, ap, ◌∙◌}
use mathlib.Core.List.{map}
use native.Mathlib.Omega.{arith}
use lib.ListN.{length, take}
use lib.Seq.{take_all}
use Rattle.std.proofs.lemmas.List.{take_min}
use Rattle.filing.specs.Names.{most_name, shown, shown_name}
use Rattle.filing.proofs.shown_name.Goals as goal

pub returns : goal.returns
unfolding shown_name
returns c =
    let whole = c.last_part-whole.result.now in
    let part = take c.min.result whole in
    let all : length part ≤ c.loop-byte.byte-index = omega arith in
    let most : part ≡ take most_name whole = rw c.min.ensures (take_min most_name whole) in
    c.loop-byte.invariant.1 ∙ ap (map shown) (take_all c.loop-byte.byte-index part all ∙ most ∙ ap (take most_name) c.last_part-whole.ensures)
