-- The cycle advances: further in the line, to the next line, or to the next frame with a swap.
use mathlib.Core.Path.{◌≡◌, refl}
use mathlib.Core.Bool.{Bool, true, false, cond, ◌&&◌}
use Prim.Native.Nat.{ℕ, ◌+◌}
use borrow.Author.Tests.{eqb-true, eqb-false}
use lib.Dec.{eqb}
use Rattle.hardware.specs.Screen.{line_cycles, frame_lines}
use Rattle.state.specs.With.{with_registers, with_beam, with_ly}
use Rattle.state.specs.declared.Beam.{Beam}
use Rattle.state.specs.declared.State.{State}
use Rattle.beam.specs.Advance.{ends, swaps, onward, next_line, next_frame, in_line, in_next_line, in_next_frame, advanced}
use Rattle.beam.specs.Advance.{advanced_beam, advanced_registers}

-- what holds of each way, with the answer whether it swaps, holds of the advance
pub advanced_cases : (n : ℕ) (s : State) (P : Bool → State → Type 0)
    → ((s.beam.cycle + n ≡ line_cycles → ⊥) → P false (in_line n s))
    → (s.beam.cycle + n ≡ line_cycles → (s.beam.line + 1 ≡ frame_lines → ⊥) → P false (in_next_line s))
    → (s.beam.cycle + n ≡ line_cycles → s.beam.line + 1 ≡ frame_lines → P true (in_next_frame s))
    → P (swaps n s.beam) (advanced n s)
unfolding advanced
advanced_cases n s P within line frame = by (ends n s.beam) refl (eqb (s.beam.line + 1) frame_lines) refl
  where
    by : (p : Bool) → ends n s.beam ≡ p → (q : Bool) → eqb (s.beam.line + 1) frame_lines ≡ q
        → P (p && q) (cond p (cond q (in_next_frame s) (in_next_line s)) (in_line n s))
    by true e true f = frame (eqb-true _ _ e) (eqb-true _ _ f)
    by true e false f = line (eqb-true _ _ e) (eqb-false _ _ f)
    by false e q f = within (eqb-false _ _ e)

-- a part of the beam that only a swap changes
pub advanced_part : {A : Type 0} (part : Beam → A) (next : A → A) (n : ℕ) (s : State)
    → part (onward n s.beam) ≡ part s.beam → part (next_line s.beam) ≡ part s.beam → part (next_frame s.beam) ≡ next (part s.beam)
    → part (advanced n s).beam ≡ cond (swaps n s.beam) (next (part s.beam)) (part s.beam)
advanced_part {A} part next n s within line frame =
    advanced_cases n s (λ (b : Bool) (u : State). part u.beam ≡ cond b (next (part s.beam)) (part s.beam))
    (λ e. within) (λ e g. line) (λ e g. frame)

-- only the registers and the beam advance
pub advanced_groups : (n : ℕ) (s : State)
    → advanced n s ≡ with_beam (with_registers s (advanced_registers n s.regs s.beam)) (advanced_beam n s.beam)
unfolding advanced advanced_beam
advanced_groups n s = by (ends n s.beam) (eqb (s.beam.line + 1) frame_lines)
  where
    by : (p q : Bool)
        → cond p (cond q (in_next_frame s) (in_next_line s)) (in_line n s)
        ≡ with_beam
        (with_registers s
        (cond p (with_ly s.regs (cond p (cond q (next_frame s.beam) (next_line s.beam)) (onward n s.beam)).line) s.regs))
        (cond p (cond q (next_frame s.beam) (next_line s.beam)) (onward n s.beam))
    by true true = refl
    by true false = refl
    by false q = refl
