-- `texts::Text::put_decimal` meets its contract.
use Rattle.std.proofs.Common.{arith, ap, length}
use Rattle.texts.proofs.Appends.{text_length}
use Rattle.texts.proofs.Numbers.{decimal_most}
use Rattle.texts.proofs.Text.put_decimal.Goals as goal

pub returns-clause-most : goal.returns-clause-most
returns-clause-most g c =
    omega (arith, text_length c.put_decimal-self-inside.ensures, ap length c.self.view_is, decimal_most c.args.n)
