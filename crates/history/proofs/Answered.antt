-- What a caller holds in hand in a run: statements 2 and 9 of specs/Demand.
use mathlib.Core.Path.{◌≡◌, refl, sym, ap, ◌∙◌}
use mathlib.Core.Bool.{Bool, true, false, cond, ◌&&◌}
use mathlib.Core.List.{List}
use Prim.Native.Nat.{ℕ}
use denote.Ref.{Bor}
use Rattle.refusals.specs.Ladder.{lowest, done}
use Rattle.lcd.proofs.Pictures.{pictures_fit_law}
use Rattle.order.proofs.Clauses.{ordered}
use Rattle.beam.specs.Advance.{swaps, advanced}
use Rattle.step.specs.Step.{lit, settled, report, report_of, off_report}
use Rattle.ppu.specs.Calls.{no_report}
use Rattle.ppu.specs.Answers.{StepAnswer}
use Rattle.history.specs.Run.{World, step, shown, number, steps, nothing, swaps_by, stepping, swapped}
use Rattle.history.specs.Public.{answer, Stepped, Pictured}
use Rattle.history.specs.Stored.{Trace}
use Rattle.history.specs.Demand.{Answered, Given, PictureGiven}
use Rattle.history.proofs.Steps.{settled_swaps}
use Rattle.history.proofs.Phase.{Base}
use Rattle.history.proofs.Invariant.{Inv, of_runs}

module _ {n : ℕ} {w : World} {r : StepAnswer} {left : World} (d : Stepped n w r left) where
  pub told_report : r.number ≡ 0 → r.report ≡ answer n w
  told_report z = rw (sym d.performs.number ∙ z) at d.report

  -- whether an accepted step says that it swapped
  answer_swapped : (answer n w).swapped ≡ lit w.state && swaps n w.state.beam
  unfolding report
  answer_swapped = by (lit w.state)
    where
      by : (b : Bool) → (cond b (report_of n w.state (settled n w.tables w.state) (advanced n (settled n w.tables w.state)))
          (off_report w.state)).swapped ≡ b && swaps n w.state.beam
      by true = settled_swaps n w.tables w.state
      by false = refl

  pub told_swap : r.report.swapped ≡ swapped (stepping n) w
  told_swap = ap (λ z. z.swapped) d.report ∙ by (done (number (step n) w))
    where
      by : (b : Bool) → (cond b (answer n w) no_report).swapped ≡ swaps_by (cond b (steps n) nothing) w.state
      by true = answer_swapped
      by false = refl

-- 2
pub answered : Answered
answered = λ machine before n r left d. record { report = told_report d; swap = told_swap d }

-- 9: the pictures have their lengths and the state is in order
given_now : {base : Base} {t : Trace} → Inv base t → number shown t.world ≡ 0
unfolding lowest
given_now i = rw (pictures_fit_law i.sizes.pictures, ordered i.fine) refl

given : {base : Base} {t : Trace} → Inv base t → (a b r : Bor (List ℕ)) → Pictured t.world a b r → Given t.world a b r
given i a b r d = record { lent = d.given (given_now i); bytes = d.bytes (given_now i) }

pub picture_given_law : PictureGiven
picture_given_law = of_runs _ (λ base t. given)
