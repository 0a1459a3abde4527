-- `captures::put_decimal` meets its contract. A space, and behind it what is put.
use native.Mathlib.Omega.{arith}
use Rattle.texts.proofs.Appends.{then}
use Rattle.texts.proofs.Numbers.{decimal_most}
use Rattle.captures.proofs.put_decimal.Goals as goal

pub returns-clause-put : goal.returns-clause-put
returns-clause-put c = then c.put_byte-at.ensures c.put_decimal.ensures

pub returns-clause-most : goal.returns-clause-most
returns-clause-most c = omega (arith, c.put_byte-at.ensures.behind, c.put_decimal.ensures.behind, decimal_most c.args.n)
