-- The end of a step keeps a state in order, unless it carries mode 3 out of the last visible line.
use mathlib.Core.Path.{◌≡◌, refl}
use mathlib.Core.Bool.{Bool}
use Prim.Native.Nat.{ℕ, ◌+◌, ◌%◌, ◌≤◌, ◌<◌}
use native.Mathlib.Omega.{arith}
use Rattle.hardware.specs.Screen.{height, line_cycles}
use Rattle.state.specs.With.{mode_of}
use Rattle.state.specs.declared.State.{State}
use Rattle.order.specs.Fine.{Fine}
use Rattle.beam.specs.Advance.{advanced}
use Rattle.beam.proofs.Ways.{advanced_cases}

-- the cycle stays even and does not pass the end of the line
module _ (n : ℕ) (t : State) (even : (t.beam.cycle + n) % 2 ≡ 0) (fits : t.beam.cycle + n ≤ line_cycles) (f : Fine t)
    (over : t.beam.line + 1 ≡ height → t.beam.cycle + n ≡ line_cycles → mode_of t.regs.stat ≡ 3 → ⊥) where
  pub advance_fine : Fine (advanced n t)
  advance_fine =
      let b = f.beam in
      let r = f.regs in
      advanced_cases n t (λ (swap : Bool) (u : State). Fine u)
      (λ e. record {
        beam = record { even = even; cycle = omega arith; line = b.line; x = b.x; shown = b.shown };
        regs = r;
        mode3 = f.mode3;
        palettes = f.palettes;
        selection = f.selection;
        pipe = f.pipe;
      })
      (λ e o. record {
        beam = record { even = refl; cycle = omega arith; line = omega (arith, b.line); x = b.x; shown = b.shown };
        regs = record { ly = omega (arith, b.line); bank = r.bank; stat = r.stat };
        mode3 = λ m.
            let last : t.beam.line + 1 ≡ height → ⊥ = λ l. over l e m in
            let visible : t.beam.line < height = f.mode3 m in
            omega arith;
        palettes = f.palettes;
        selection = f.selection;
        pipe = f.pipe;
      })
      (λ e o. record {
        beam = record { even = refl; cycle = omega arith; line = omega arith; x = omega arith; shown = omega arith };
        regs = record { ly = omega arith; bank = r.bank; stat = r.stat };
        mode3 = λ m. omega arith;
        palettes = f.palettes;
        selection = f.selection;
        pipe = f.pipe;
      })
