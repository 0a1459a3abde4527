-- What a run of draws keeps: a state in order stays so, and line, cycle, the picture shown, LCDC and what is known of a blanking stay.
use mathlib.Core.Path.{◌≡◌, refl, ◌∙◌}
use mathlib.Core.List.{List}
use Prim.Native.Nat.{ℕ, zero, suc}
use Rattle.state.specs.declared.State.{State}
use Rattle.order.specs.Fine.{Fine}
use Rattle.pipe.specs.Window.{opened}
use Rattle.draw.specs.Draw.{drawn}
use Rattle.draw.specs.declared.Drawn.{Drawn}
use Rattle.draw.proofs.Ways.{drawn_cases}
use Rattle.draw.proofs.Fine.{drawn_fine}
use Rattle.burst.specs.Burst.{Burst, burst}
use Rattle.burst.proofs.Ways.{burst_cases, burst_none}

-- the same line, cycle, picture shown and LCDC, blanked or not
pub record Same (s u : State) : Type 0 where
  pub line : u.beam.line ≡ s.beam.line
  pub cycle : u.beam.cycle ≡ s.beam.cycle
  pub shown : u.beam.shown ≡ s.beam.shown
  pub lcdc : u.regs.lcdc ≡ s.regs.lcdc
  pub blanked : u.beam.blanked ≡ s.beam.blanked

pub same_refl : {s : State} → Same s s
same_refl = record { line = refl; cycle = refl; shown = refl; lcdc = refl; blanked = refl }

pub same_then : {s t u : State} → Same s t → Same t u → Same s u
same_then p q =
    record {
      line = q.line ∙ p.line;
      cycle = q.cycle ∙ p.cycle;
      shown = q.shown ∙ p.shown;
      lcdc = q.lcdc ∙ p.lcdc;
      blanked = q.blanked ∙ p.blanked;
    }

drawn_same : (vram : List ℕ) (s : State) → Same s (drawn vram s).state
drawn_same vram s =
    drawn_cases (opened s.regs s.beam.line) vram s (λ (d : Drawn). Same s d.state)
    (λ h. record { line = refl; cycle = refl; shown = refl; lcdc = refl; blanked = refl })
    (λ h d. record { line = refl; cycle = refl; shown = refl; lcdc = refl; blanked = refl })
    (λ h d o. record { line = refl; cycle = refl; shown = refl; lcdc = refl; blanked = refl })
    (λ h d e. record { line = refl; cycle = refl; shown = refl; lcdc = refl; blanked = refl })

pub burst_same : (n : ℕ) (vram : List ℕ) (s : State) → Same s (burst n vram s).state
burst_same zero vram s = rw (burst_none vram s) same_refl
burst_same (suc n) vram s =
    let rest = burst_same n vram (drawn vram s).state in
    burst_cases n vram s (λ (b : Burst). Same s b.state) (λ m. same_then (drawn_same vram s) rest) (λ m. same_refl)

pub burst_fine : (n : ℕ) (vram : List ℕ) (s : State) → Fine s → Fine (burst n vram s).state
burst_fine zero vram s f = rw (burst_none vram s) f
burst_fine (suc n) vram s f =
    let rest = burst_fine n vram (drawn vram s).state (drawn_fine (opened s.regs s.beam.line) vram s f) in
    burst_cases n vram s (λ (b : Burst). Fine b.state) (λ m. rest) (λ m. f)
