-- `texts::put_digits` meets its contract: the digits before the last, then the last.
use Rattle.std.proofs.Common.{arith, ◌-◌, ◌/◌}
use Rattle.texts.proofs.Appends.{then, nothing}
use Rattle.texts.proofs.Numbers.{digits_length, no_digits, digits_more}
use Rattle.texts.proofs.+put_digits.Goals as goal

pub returns-then-k-eq0 : goal.returns-then-k-eq0
returns-then-k-eq0 t c = rw (no_digits _ _ _ c.if-k-eq0.true) (nothing c.args.out.now c.args.at)

pub put_byte-requires : goal.put_byte-requires
put_byte-requires t c =
    let s = c.args in
    let d = c.put_digits-last.ensures in
    omega (arith, d.behind, d.sized, digits_length s.base (s.k - 1) (s.n / s.base), c.requires.2, c.if-k-eq0.false)

pub returns : goal.returns
returns t c =
    let s = c.args in
    rw (digits_more s.base s.k s.n c.if-k-eq0.false, ← c.letter.ensures) (then c.put_digits-last.ensures c.put_byte.ensures)
