-- A request shorter than two bytes leaves no OAM, and a longer one is taken apart at its end.
use Rattle.std.proofs.Common.{sym, ◌∙◌}
use native.Mathlib.Omega.{arith}
use Rattle.picks.proofs.Lengths.{short, apart}
use Rattle.picks.proofs.answer.Goals as goal

pub returns-in_default : goal.returns-in_default
returns-in_default c = sym (short _ (λ e. omega arith))

pub returns-in-len2-up : goal.returns-in-len2-up
returns-in-len2-up c = c.pick.ensures ∙ apart _ (omega arith)
