-- `captures::put_hexadecimal` meets its contract. A space, and behind it what is put.
use native.Mathlib.Omega.{arith}
use Rattle.texts.proofs.Appends.{then}
use Rattle.texts.proofs.Numbers.{digits_length}
use Rattle.captures.proofs.put_hexadecimal.Goals as goal

pub returns-clause-put : goal.returns-clause-put
returns-clause-put c = then c.put_byte-at.ensures c.put_digits.ensures

pub returns-clause-end : goal.returns-clause-end
returns-clause-end c = omega (arith, c.put_byte-at.ensures.behind, c.put_digits.ensures.behind, digits_length 16 c.args.k c.args.n)
