-- `captures::number_of` meets its contract. The invariant: the number is that of the digits so far, with the others behind them; it is below 16 to their count.
use mathlib.Core.Path.{sym, ◌∙◌}
use Prim.Native.Nat.{◌+◌, ◌≤◌}
use native.Mathlib.Omega.{arith}
use lib.ListN.{get_or}
use Rattle.captures.specs.Numbers.{digit_of}
use Rattle.captures.proofs.Numbers.{digit_some, digit_none, number_more, number_bad, number_none, grows, fits}
use Rattle.captures.proofs.number_of.Goals as goal

pub returns-in_err-digit : goal.returns-in_err-digit
returns-in_err-digit c =
    let w = c.args.word.now in
    let i = c.loop-b.b-index in
    let none : 16 ≤ digit_of (get_or w i 0) = digit_none 16 _ (sym c.in_err-digit.was ∙ c.digit.ensures) in
    rw c.from_residual.ensures (sym (number_bad c.args.base c.loop-b.n w i c.loop-b-test.true (omega arith)) ∙ c.loop-b.invariant.1)

pub returns-then-d-base : goal.returns-then-d-base
returns-then-d-base c =
    let w = c.args.word.now in
    let i = c.loop-b.b-index in
    let some = digit_some 16 (get_or w i 0) _ (sym c.in_ok-digit.was ∙ c.digit.ensures) in
    sym (number_bad c.args.base c.loop-b.n w i c.loop-b-test.true (omega arith)) ∙ c.loop-b.invariant.1

pub overflow_mul-n : goal.overflow_mul-n
overflow_mul-n c =
    let i = c.loop-b.b-index in
    record { fits = omega (arith, grows 16 c.args.base c.loop-b.n c.from-d.result i (omega arith) c.loop-b.invariant.0 (omega arith), fits (i + 1) (omega arith)) }

pub overflow_add-n : goal.overflow_add-n
overflow_add-n c =
    let i = c.loop-b.b-index in
    record { fits = omega (arith, grows 16 c.args.base c.loop-b.n c.from-d.result i (omega arith) c.loop-b.invariant.0 (omega arith), fits (i + 1) (omega arith)) }

pub loop-b-preserved : goal.loop-b-preserved
loop-b-preserved c =
    let w = c.args.word.now in
    let i = c.loop-b.b-index in
    let some = digit_some 16 (get_or w i 0) _ (sym c.in_ok-digit.was ∙ c.digit.ensures) in (
      grows 16 c.args.base c.loop-b.n c.from-d.result i (omega arith) c.loop-b.invariant.0 (omega arith),
      rw (c.from-d.ensures, some.0) (number_more c.args.base c.loop-b.n w i c.loop-b-test.true (omega arith) ∙ c.loop-b.invariant.1),
    )

pub returns : goal.returns
returns c = sym (number_none _ c.loop-b.n c.args.word.now c.loop-b.b-index c.loop-b-test.false) ∙ c.loop-b.invariant.1
