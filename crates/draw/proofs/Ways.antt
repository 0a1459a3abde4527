-- The ways of a draw: what holds of each way, with the state and the answer, holds of the draw.
use Rattle.std.proofs.Common.{◌≡◌, ℕ, ◌+◌, ◌<◌, ◌≤◌, Bool, eqb, leb, List, arith, eqb-true, leb-false, leb-true}
use borrow.Author.Tests.{eqb-false}
use Rattle.logic.proofs.Tests.{by_test}
use Rattle.hardware.specs.Screen.{width}
use Rattle.state.specs.declared.Pipe.{Pipe}
use Rattle.state.specs.declared.State.{State}
use Rattle.draw.specs.Draw.{fed_pipe, popped, next_state, end_state, after_pixel, idle_drawn, discard_drawn, place_at, pixel_drawn, shifted, drawn_if}
use Rattle.draw.specs.declared.Drawn.{Drawn}

-- a pixel that is not the last of its line, and the last
abbrev pub next_drawn : List ℕ → State → Pipe → Drawn
next_drawn vram s p = record { state = next_state s (popped vram s p); shot = place_at vram s p }

abbrev pub last_drawn : List ℕ → State → Pipe → Drawn
last_drawn vram s p = record { state = end_state s (popped vram s p); shot = place_at vram s p }

-- a draw gives nothing, discards, gives a pixel, or gives the last of the line
module _ (allowed : Bool) (vram : List ℕ) (s : State) (P : Drawn → Type 0) where
  pub drawn_cases :
      ((fed_pipe allowed vram s).bg.len ≤ 8 → P (idle_drawn s (fed_pipe allowed vram s)))
      → (8 < (fed_pipe allowed vram s).bg.len → 0 < (fed_pipe allowed vram s).discard → P (discard_drawn s (fed_pipe allowed vram s)))
      → (8 < (fed_pipe allowed vram s).bg.len → (fed_pipe allowed vram s).discard ≡ 0 → (s.beam.x + 1 ≡ width → ⊥)
      → P (next_drawn vram s (fed_pipe allowed vram s)))
      → (8 < (fed_pipe allowed vram s).bg.len → (fed_pipe allowed vram s).discard ≡ 0 → s.beam.x + 1 ≡ width
      → P (last_drawn vram s (fed_pipe allowed vram s)))
      → P (drawn_if allowed vram s)
  unfolding shifted after_pixel
  drawn_cases idle drop next last =
      by_test P (leb p.bg.len 8) (λ e. idle (leb-true _ _ e))
      (λ e. by_test P (eqb p.discard 0) (λ z. pixel (leb-false _ _ e) (eqb-true _ _ z))
      (λ z. let some : p.discard ≡ 0 → ⊥ = eqb-false _ _ z in drop (leb-false _ _ e) (omega arith)))
    where
      p : Pipe
      p = fed_pipe allowed vram s

      pixel : 8 < p.bg.len → p.discard ≡ 0 → P (pixel_drawn vram s p)
      pixel h d =
          by_test (λ (u : State). P (record { state = u; shot = place_at vram s p })) (eqb (s.beam.x + 1) width)
          (λ e. last h d (eqb-true _ _ e)) (λ e. next h d (eqb-false _ _ e))
