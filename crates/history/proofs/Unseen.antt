-- Statements 14 and 15 of specs/Demand: which whole pictures are unseen, and the first picture after a blanking.
use mathlib.Core.Path.{◌≡◌, refl, sym, ap₂, ◌∙◌}
use mathlib.Core.Bool.{Bool, true, false, cond}
use mathlib.Core.Logic.{◌↔◌}
use mathlib.Core.List.{List}
use Prim.Native.Nat.{ℕ}
use native.Mathlib.Omega.{arith}
use borrow.Author.Tests.{eqb-false}
use lib.Dec.{eqb}
use Rattle.logic.proofs.Tests.{clash}
use Rattle.hardware.specs.Screen.{places}
use Rattle.hardware.specs.declared.Machine.{Machine}
use Rattle.state.specs.declared.State.{State}
use Rattle.refusals.specs.Ladder.{done}
use Rattle.beam.specs.Advance.{whole, advanced}
use Rattle.beam.specs.Marks.{is_yes, mark_by, mark_of}
use Rattle.beam.specs.declared.Mark.TheVariants.{No, Unseen}
use Rattle.beam.proofs.Marks.{mark_again, mark_unseen}
use Rattle.step.specs.Step.{lit, settled, report, report_of, off_report}
use Rattle.ppu.specs.Calls.{no_report}
use Rattle.ppu.specs.Answers.{StepAnswer}
use Rattle.history.specs.Run.{World, step, number, Turn, fresh_world, blanked}
use Rattle.history.specs.Public.{answer, Stepped}
use Rattle.history.specs.Stored.{Trace, go, trace, begun}
use Rattle.history.specs.Demand.{ran, AllStored, BlankedIn, MarkedUnseen, FirstFrom, FirstPicture}
use Rattle.history.proofs.Rising.{member_from}
use Rattle.history.proofs.Phase.{Base, blank_base}
use Rattle.history.proofs.Invariant.{Inv, ran_inv, of_runs, on_same}
use Rattle.history.proofs.Answered.{told_report, told_swap}
use Rattle.history.proofs.Demand.{accepted_now, mark_by_law, hand_mark}
use Rattle.history.proofs.Frame.{once_all}
use Rattle.history.proofs.Torn.{blanked_inv, torn_from}
use Rattle.history.proofs.Blanked.{bit, blank_bit, hidden_bit, blanked_bit, ran_bit}

-- a step that does not swap has no mark
answer_no : (n : ℕ) (w : World) → (answer n w).swapped ≡ false → (answer n w).mark ≡ No
unfolding report mark_of whole
answer_no n w = by (lit w.state)
  where
    s : State
    s = w.state

    u : State
    u = settled n w.tables s

    by : (b : Bool) → (cond b (report_of n s u (advanced n u)) (off_report s)).swapped ≡ false
        → (cond b (report_of n s u (advanced n u)) (off_report s)).mark ≡ No
    by true e = rw e refl
    by false e = refl

hand_no : {n : ℕ} {w : World} {r : StepAnswer} {left : World} → Stepped n w r left → r.report.swapped ≡ false → r.report.mark ≡ No
hand_no {n} {w} {r} d e = rw d.report (by (done (number (step n) w)) (rw d.report at e))
  where
    by : (b : Bool) → (cond b (answer n w) no_report).swapped ≡ false → (cond b (answer n w) no_report).mark ≡ No
    by true e = answer_no n w e
    by false e = refl

-- the mark in the caller's hand at a swap: by its yes and by what is known of a blanking
hand_by : {base : Base} {t : Trace} → Inv base t → {n : ℕ} {r : StepAnswer} {left : World} → Stepped n t.world r left
    → r.report.swapped ≡ true → r.report.mark ≡ mark_by (is_yes r.report.mark) (bit t)
hand_by {t = t} i {n} {r} d z =
    let e = sym (told_swap d) ∙ z in
    rw (told_report d (d.performs.number ∙ accepted_now i n e)) (mark_again (eqb (answer n t.world).count places) (bit t) (mark_by_law i n e))

-- 14
module _ (machine : Machine) (turns : List Turn) {n : ℕ} {r : StepAnswer} {left : World} (d : Stepped n (ran machine turns).world r left) where
  told_unseen : (b : Bool) → r.report.swapped ≡ b
      → (r.report.mark ≡ Unseen) ↔ ((b ≡ true) × BlankedIn turns (begun (fresh_world machine)) × AllStored n (ran machine turns))
  told_unseen true z =
      let i = ran_inv machine turns in
      let by = mark_unseen (is_yes r.report.mark) (bit (ran machine turns)) in
      let yes = hand_mark i n r left d z in (
        λ e. let k = by.0 (sym (hand_by i d z) ∙ e) in (refl, ran_bit machine turns k.1, yes.0 k.0),
        λ k. hand_by i d z ∙ by.1 (yes.1 k.2, blanked_bit turns (begun (fresh_world machine)) k.1),
      )
  told_unseen false z = (
    λ e. absurd (clash ((mark_unseen false false).0 (sym (hand_no d z) ∙ e)).0 refl),
    λ k. absurd (clash k.0 refl),
  )

pub marked_unseen_law : MarkedUnseen
marked_unseen_law machine turns n r left d = told_unseen machine turns d r.report.swapped refl

-- 15: after a blanking at LCD x 0 every place is stored; else it is a torn picture
first_from : {x : ℕ} {t : Trace} → Inv (blank_base x) t → bit t ≡ true → FirstFrom x t
first_from {x} {t} i e after on hidden n r left d z = by (eqb x 0) refl
  where
    j : Inv (blank_base x) (trace after t)
    j = on_same after i on hidden

    by : (b : Bool) → eqb x 0 ≡ b → r.report.mark ≡ cond b Unseen No
    by true o =
        let all = once_all n (record { base = blank_base x; inv = j; full = o }) (sym (told_swap d) ∙ z) in
        let yes = (hand_mark j n r left d z).1 (λ k h. rw all (member_from 0 places k (omega arith) (omega arith))) in
        hand_by j d z ∙ ap₂ mark_by yes (hidden_bit after t e hidden)
    by false o = torn_from i (eqb-false x 0 o) after on hidden n r left d z

first_after : {base : Base} {t : Trace} → Inv base t → (c : Turn) → blanked c t.world ≡ true → FirstFrom t.world.state.beam.x (go c t)
first_after {t = t} i c e = first_from (blanked_inv c i e) (blank_bit c t e)

pub first_picture_law : FirstPicture
first_picture_law = of_runs _ (λ base t. first_after)
