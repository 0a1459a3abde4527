-- Statement 8 of specs/Demand: after a blanking with LCD x not 0 the first places of line 0 are missing at the next swap.
use mathlib.Core.Path.{◌≡◌, refl, sym, subst, ◌∙◌}
use mathlib.Core.Bool.{Bool, true, false}
use Prim.Native.Nat.{ℕ}
use native.Mathlib.Omega.{arith}
use Rattle.logic.proofs.Tests.{clash}
use Rattle.state.specs.declared.State.{State}
use Rattle.beam.specs.Marks.{is_yes}
use Rattle.beam.specs.declared.Mark.TheVariants.{No}
use Rattle.beam.proofs.Marks.{mark_no}
use Rattle.ppu.specs.Answers.{StepAnswer}
use Rattle.history.specs.Run.{Deed, steps, writes, colours, stores, nothing, swaps_by, blanks_by, Turn, deed_of, blanked}
use Rattle.history.specs.Stored.{Trace, go}
use Rattle.history.specs.Demand.{EveryStep, TornFrom, Torn}
use Rattle.history.proofs.Rising.{rising_member}
use Rattle.history.proofs.Phase.{Base, blank_base}
use Rattle.history.proofs.Invariant.{Inv, go_inv, of_runs, on_same}
use Rattle.history.proofs.Answered.{told_swap}
use Rattle.history.proofs.Demand.{hand_mark, now_rising}

-- what blanks does not swap
pub blanks_alone : (d : Deed) (s : State) → blanks_by d s ≡ true → swaps_by d s ≡ false
blanks_alone (steps n) s e = absurd (clash e refl)
blanks_alone (writes address value) s e = refl
blanks_alone (colours flag) s e = refl
blanks_alone (stores t) s e = refl
blanks_alone nothing s e = refl

-- after a blanking the places are counted from LCD x on
pub blanked_inv : (c : Turn) {base : Base} {t : Trace} → Inv base t → blanked c t.world ≡ true → Inv (blank_base t.world.state.beam.x) (go c t)
blanked_inv c {base} {t} i e =
    let no = blanks_alone (deed_of c t.world) t.world.state e in
    subst (λ (b : Base). Inv b (go c t)) (rw (no, e) refl) (go_inv c i)

-- place 0 is below the bound, so it is not stored and the mark is no
module _ {base : Base} {t : Trace} (i : Inv base t) (h : base.low ≡ 0 → ⊥) where
  pub no_mark : EveryStep (λ (n : ℕ) (u : Trace) (r : StepAnswer). r.report.swapped ≡ true → r.report.mark ≡ No) t
  no_mark n r left d z = mark_no r.report.mark (by (is_yes r.report.mark) refl)
    where
      by : (b : Bool) → is_yes r.report.mark ≡ b → b ≡ false
      by true e =
          let all = (hand_mark i n r left d z).0 e in
          let k = rising_member (now_rising i n (sym (told_swap d) ∙ z)) (all 0 (omega arith)) in
          absurd (h (omega (arith, k.0)))
      by false e = refl

pub torn_from : {x : ℕ} {t : Trace} → Inv (blank_base x) t → (x ≡ 0 → ⊥) → TornFrom t
torn_from i h after on hidden = no_mark (on_same after i on hidden) h

-- 8
torn_after : {base : Base} {t : Trace} → Inv base t → (c : Turn) → blanked c t.world ≡ true → (t.world.state.beam.x ≡ 0 → ⊥) → TornFrom (go c t)
torn_after i c e h = torn_from (blanked_inv c i e) h

pub torn : Torn
torn = of_runs _ (λ base t. torn_after)
