-- `captures::number_of` meets its contract. The invariant: the number is that of the digits so far, with the others behind them; it is below 16 to their count.
use mathlib.Core.Path.{◌≡◌}
use Prim.Native.Nat.{◌^◌, ◌<◌}
use lib.ListN.{drop}
use Rattle.captures.specs.Numbers.{number_from}
use Rattle.captures.proofs.number_of.Given as goal

abbrev pub invariant-loop-b : goal.invariant-loop-b
invariant-loop-b l = (l.n < 16 ^ l.b-index) × (number_from l.base l.n (drop l.b-index l.word) ≡ number_from l.base 0 l.word)
