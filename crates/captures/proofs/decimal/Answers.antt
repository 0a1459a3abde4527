-- `captures::decimal` meets its contract. What the filter leaves is within the bounds.
use mathlib.Core.Path.{sym}
use native.Mathlib.Omega.{arith}
use Rattle.std.proofs.Common.{rules}
use Rattle.captures.specs.Reading.{within}
use Rattle.captures.proofs.Numbers.{decimal_sized}
use Rattle.captures.proofs.decimal.Goals as goal

pub returns-in-1-to-10 : goal.returns-in-1-to-10
unfolding within
returns-in-1-to-10 c = rw (decimal_sized c.args.low c.args.high c.args.word.now (omega arith) (omega arith), sym c.number_of.ensures) (search rules)
