-- `texts::Text::put_digits` meets its contract.
use Rattle.std.proofs.Common.{arith, ap, length}
use Rattle.texts.proofs.Appends.{text_length}
use Rattle.texts.proofs.Numbers.{digits_length}
use Rattle.texts.proofs.Text.put_digits.Goals as goal

pub returns-clause-len : goal.returns-clause-len
returns-clause-len g c =
    let s = c.args in
    omega (arith, text_length c.put_digits-self-inside.ensures, ap length c.self.view_is, digits_length s.base s.k s.n)
