-- `line_sets::set_of` meets its contract.
use Rattle.std.proofs.Common.{◌≡◌, ℕ, ◌<◌, refl, false, List, get_or, Option, Some, None, MatchOption, lt-ltb}
use Rattle.std.specs.Option.{ok_or}
use Rattle.refusals.specs.Ladder.{own}
use Rattle.refusals.specs.Refused.{number_of}
use Rattle.refusals.specs.declared.Refusal.TheVariants.{Argument}
use Rattle.refusals.proofs.Rungs.{handed}
use Rattle.hardware.specs.Screen.{height}
use Rattle.line_sets.specs.declared.Set.{Set}
use Rattle.line_sets.specs.Numbers.{is_asked, line_number}
use Rattle.line_sets.proofs.Lengths.{other_length, own_length}
use Rattle.line_sets.proofs.set_of.Goals as goal

-- the line's set, or none
asked : (sets : List ℕ) (line : ℕ) (o : Option Set)
    → MatchOption o (is_asked sets line ≡ false) (λ set. (line < height) × (set.number ≡ get_or sets line 0))
    → number_of (ok_or o Argument) ≡ own (is_asked sets line) 4
asked sets line None e = rw e refl
asked sets line (Some set) w = rw (lt-ltb line height w.0, ← w.1, set.of_entries) refl

pub returns-in_err-whole-clause-number : goal.returns-in_err-whole-clause-number
unfolding line_number
returns-in_err-whole-clause-number c =
    let w = c.in_err-whole.ensures in
    rw (handed _ c.from_residual.ensures, w.1, other_length c.args.sets.now _ w.0) refl

pub returns-clause-number : goal.returns-clause-number
unfolding line_number
returns-clause-number c =
    let w = c.in_ok-whole.ensures in
    let n = asked _ c.args.line _ c.set_on.ensures in
    rw (c.ok_or.ensures.value, own_length c.args.sets.now _ w.0, n, w.1) refl
