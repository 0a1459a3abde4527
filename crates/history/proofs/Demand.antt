-- The statements 1, 3, 4, 5 and 7 of specs/Demand, proved: never 2, the count, the line's end, line 0, the mark.
use mathlib.Core.Path.{◌≡◌, refl, sym, ap, ◌∙◌}
use mathlib.Core.Bool.{Bool, true, false, cond}
use mathlib.Core.Logic.{◌↔◌}
use mathlib.Core.List.{List, [], ◌++◌, append-nil}
use Prim.Native.Nat.{ℕ, ◌≤◌, ◌<◌}
use native.Mathlib.Omega.{arith}
use borrow.Author.Tests.{eqb-true, eq-eqb}
use lib.Dec.{eqb}
use lib.ListN.{length, length-map}
use Rattle.logic.proofs.Tests.{clash}
use Rattle.logic.proofs.Both.{split}
use Rattle.hardware.specs.Screen.{places}
use Rattle.state.specs.With.{mode_of}
use Rattle.state.specs.declared.State.{State}
use Rattle.order.specs.Fine.{Fine}
use Rattle.beam.specs.Advance.{swaps, whole, advanced}
use Rattle.beam.specs.Marks.{is_yes, mark_by, mark_of}
use Rattle.beam.proofs.Marks.{mark_yes}
use Rattle.step.specs.Step.{lit, working, settled, report, report_of, off_report, shots_of}
use Rattle.step.proofs.Keeps.{settled_same}
use Rattle.step.specs.declared.Report.{Report}
use Rattle.ppu.specs.Answers.{StepAnswer}
use Rattle.terms.proofs.Pace.{Pace}
use Rattle.bound.proofs.Potential.{left_positive}
use Rattle.history.specs.Run.{World, Call, step, number, Turn, stepping, swapped}
use Rattle.history.specs.Public.{answer}
use Rattle.history.specs.Stored.{Stored, stored_by, Trace, through, trace, numbers}
use Rattle.history.specs.Demand.{EveryStep, AtOrigin, stays_on, Never2, Counts, Counted, InTime, EndsInTime, EmptyAtOrigin, AllStored, MarkedYes, Marked}
use Rattle.history.proofs.Rising.{Rising, rising_zero, rising_most, rising_mark}
use Rattle.history.proofs.Places.{stored_none}
use Rattle.history.proofs.Deeds.{not_2, step_paced, swap_accepted}
use Rattle.history.proofs.Phase.{Base, Phase, PhaseOf, phase_rising}
use Rattle.history.proofs.Steps.{settled_swaps}
use Rattle.history.proofs.Invariant.{Inv, of_runs, origin_full, on_full, lit_count, lit_rising}
use Rattle.history.proofs.Answered.{told_report, told_swap}

-- 1
in_order_law : {base : Base} {t : Trace} → Inv base t → (c : Call) → number c t.world ≡ 2 → ⊥
in_order_law {t = t} i c = not_2 t.world i.sizes.tables i.fine c

pub never_2 : Never2
never_2 = of_runs _ (λ base t. in_order_law)

-- 3
module _ {base : Base} {t : Trace} (i : Inv base t) where
  pub answer_count : (n : ℕ) → number (step n) t.world ≡ 0 → (answer n t.world).count ≡ length (through (stepping n) t)
  unfolding report shots_of
  answer_count n e = rw e (by (lit t.world.state))
    where
      w : World
      w = t.world

      s : State
      s = w.state

      u : State
      u = settled n w.tables s

      by : (b : Bool) → (cond b (report_of n s u (advanced n u)) (off_report s)).count
          ≡ length (t.since ++ stored_by (cond b (working n w.tables s).shots []))
      by true = lit_count n w.tables i.fine i.stands (step_paced n w e)
      by false = rw (stored_none, append-nil t.since) i.stands.count

  most_places : length t.since ≤ places
  most_places =
      let k = rising_most (rising_zero (phase_rising i.fine.beam.x i.stands.phase)) in
      omega (arith, length-map t.since (λ (z : Stored). z.place))

  counts : Counts t
  counts =
      record {
        most = most_places;
        state = i.stands.count;
        answers = λ n r left d z.
            ap (λ (q : Report). q.count) (told_report d z) ∙ answer_count n (sym d.performs.number ∙ z);
      }

pub counted : Counted
counted = of_runs Counts (λ base t. counts)

-- 4
in_time : {base : Base} {s : State} {l : List ℕ} → base.full ≡ true → Fine s → PhaseOf base s l → mode_of s.regs.stat ≡ 3
    → (80 < s.beam.cycle) × (s.beam.cycle < 284)
in_time on f (Phase.before m low line e up) z = absurd (m z)
in_time {s = s} on f (Phase.tight m low line t h up) z = let p = left_positive s f.beam.x in (low, omega arith)
in_time on f (Phase.loose o m low line q h up) z = absurd (clash on o)
in_time on f (Phase.carried o line cycle q up) z = absurd (clash on o)
in_time on f (Phase.ended m low line x up) z = absurd (m z)
in_time on f (Phase.rest m line x up) z = absurd (m z)

on_in_time : {base : Base} {t : Trace} → Inv base t → (after : List Turn) → AtOrigin t.world → stays_on after t ≡ true → InTime (trace after t).world
on_in_time i after o on =
    let k = on_full after (origin_full i o) on in
    in_time k.full k.inv.fine k.inv.stands.phase

pub ends_in_time_law : EndsInTime
ends_in_time_law = of_runs _ (λ base t. on_in_time)

-- 5
origin_empty : {base : Base} {t : Trace} → Inv base t → AtOrigin t.world → t.since ≡ []
origin_empty i o = (i.stands.origin o.line o.cycle).1

pub empty_at_origin_law : EmptyAtOrigin
empty_at_origin_law = of_runs _ (λ base t. origin_empty)

-- 7: the mark of a step that swaps
module _ {base : Base} {t : Trace} (i : Inv base t) (n : ℕ) (e : swapped (stepping n) t.world ≡ true) where
  pub accepted_now : number (step n) t.world ≡ 0
  accepted_now = swap_accepted n t.world e

  swap : (lit t.world.state ≡ true) × (swaps n t.world.state.beam ≡ true)
  swap = split (lit t.world.state) _ (rw accepted_now at e)

  pub swaps_now : swaps n t.world.state.beam ≡ true
  swaps_now = swap.1

  -- by the count and by what is known of a blanking
  pub mark_by_law : (answer n t.world).mark ≡ mark_by (eqb (answer n t.world).count places) t.world.state.beam.blanked
  unfolding report mark_of whole
  mark_by_law =
      let same = settled_same n t.world.tables t.world.state in
      rw swap.0 (rw (settled_swaps n t.world.tables t.world.state ∙ swaps_now, same.blanked) refl)

  mark_count : is_yes (answer n t.world).mark ≡ eqb (answer n t.world).count places
  mark_count = ap is_yes mark_by_law ∙ mark_yes (eqb (answer n t.world).count places) t.world.state.beam.blanked

  pub through_now : through (stepping n) t
      ≡ t.since ++ stored_by (working n t.world.tables t.world.state).shots
  unfolding shots_of
  through_now = rw (accepted_now, swap.0) refl

  pub pace_now : Pace t.world.state.beam.cycle n
  pace_now = step_paced n t.world accepted_now

  pub now_rising : Rising base.low places (numbers (through (stepping n) t))
  now_rising = rw through_now (lit_rising n t.world.tables i.fine i.stands pace_now)

  count_places : (answer n t.world).count ≡ length (numbers (through (stepping n) t))
  count_places = answer_count i n accepted_now ∙ sym (length-map (through (stepping n) t) (λ (z : Stored). z.place))

  mark : (is_yes (answer n t.world).mark ≡ true) ↔ AllStored n t
  mark =
      let all = rising_mark (rising_zero now_rising) in (
        λ m. all.0 (sym count_places ∙ eqb-true (answer n t.world).count places (sym mark_count ∙ m)),
        λ a. mark_count ∙ eq-eqb (answer n t.world).count places (count_places ∙ all.1 a),
      )

-- in the caller's hand
pub hand_mark : {base : Base} {t : Trace} → Inv base t → EveryStep (λ (n : ℕ) (u : Trace) (r : StepAnswer). r.report.swapped ≡ true → MarkedYes n u r) t
hand_mark {t = t} i n r left d z =
    let e = sym (told_swap d) ∙ z in
    rw (told_report d (d.performs.number ∙ accepted_now i n e)) (mark i n e)

pub marked : Marked
marked = of_runs _ (λ base t. hand_mark)
