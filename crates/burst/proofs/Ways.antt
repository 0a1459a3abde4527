-- A run of draws: in mode 3 one draw and the others, else none; each answers a place on the screen or nothing.
use Rattle.std.proofs.Common.{Option, Some, None}
use mathlib.Core.Path.{◌≡◌, refl}
use mathlib.Core.List.{List}
use Prim.Native.Nat.{ℕ, zero, suc, ◌<◌}
use borrow.Author.Tests.{eq-eqb, ne_eqb, eqb-true, eqb-false}
use lib.Dec.{eqb}
use lib.ListN.{length}
use lib.Seq.{length-sets}
use Rattle.logic.proofs.Tests.{by_test}
use Rattle.hardware.specs.Screen.{width, height, offset}
use Rattle.lcd.specs.Mix.{rgb_bytes}
use Rattle.state.specs.With.{mode_of}
use Rattle.state.specs.declared.State.{State}
use Rattle.order.specs.Fine.{Fine}
use Rattle.pipe.specs.Window.{opened}
use Rattle.draw.specs.Draw.{drawn}
use Rattle.draw.specs.declared.Drawn.{Drawn}
use Rattle.draw.proofs.Ways.{drawn_cases}
use Rattle.burst.specs.Burst.{Burst, still, after, burst, shot_stored, OnScreen}
use Rattle.draw.specs.declared.Place.{Place}

-- a draw in mode 3 answers a place on the screen, or nothing
pub drawn_on_screen : (vram : List ℕ) (s : State) → Fine s → mode_of s.regs.stat ≡ 3 → OnScreen (drawn vram s).shot
drawn_on_screen vram s f m =
    let here : (s.beam.x < width) × (s.beam.line < height) = (f.beam.x, f.mode3 m) in
    drawn_cases (opened s.regs s.beam.line) vram s (λ (d : Drawn). OnScreen d.shot)
    (λ h. tt) (λ h d. tt) (λ h d o. here) (λ h d e. here)

-- a store keeps the length of a picture
pub shot_length : (picture : List ℕ) (shot : Option Place) → length (shot_stored picture shot) ≡ length picture
shot_length picture (Some t) = length-sets picture (offset t.x t.y) (rgb_bytes t.rgb)
shot_length picture None = refl

-- in mode 3 a draw and the others, else none
pub burst_cases : (n : ℕ) (vram : List ℕ) (s : State) (P : Burst → Type 0)
    → (mode_of s.regs.stat ≡ 3 → P (after (drawn vram s) (burst n vram (drawn vram s).state)))
    → ((mode_of s.regs.stat ≡ 3 → ⊥) → P (still s))
    → P (burst (suc n) vram s)
unfolding burst
burst_cases n vram s P more none =
    by_test P (eqb (mode_of s.regs.stat) 3) (λ e. more (eqb-true _ _ e)) (λ e. none (eqb-false _ _ e))

pub burst_in : (n : ℕ) (vram : List ℕ) (s : State) → mode_of s.regs.stat ≡ 3
    → burst (suc n) vram s ≡ after (drawn vram s) (burst n vram (drawn vram s).state)
unfolding burst
burst_in n vram s m = rw (eq-eqb _ _ m)

pub burst_out : (n : ℕ) (vram : List ℕ) (s : State) → (mode_of s.regs.stat ≡ 3 → ⊥) → burst n vram s ≡ still s
unfolding burst
burst_out zero vram s m = refl
burst_out (suc n) vram s m = rw (ne_eqb _ _ m)

pub burst_none : (vram : List ℕ) (s : State) → burst 0 vram s ≡ still s
unfolding burst
burst_none vram s = refl
