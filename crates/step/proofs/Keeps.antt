-- What the parts of a step keep: the state stays in order up to the point where the cycle advances, and the beam stays.
use mathlib.Core.Path.{refl}
use mathlib.Core.List.{List}
use Prim.Native.Nat.{ℕ}
use Rattle.hardware.specs.Tables.{Tables}
use Rattle.state.specs.declared.State.{State}
use Rattle.order.specs.Fine.{Fine}
use Rattle.modes.specs.Modes.{entered, searched, compared}
use Rattle.modes.proofs.Ways.{entered_cases, searched_cases}
use Rattle.modes.proofs.Fine.{entered_fine, searched_fine, compared_fine}
use Rattle.burst.proofs.Keep.{Same, same_refl, same_then, burst_same, burst_fine}
use Rattle.step.specs.Step.{working, settled}

-- the state that draws
pub ready_fine : (oam : List ℕ) (s : State) → Fine s → Fine (searched oam (entered s))
ready_fine oam s f = searched_fine oam (entered s) (entered_fine s f)

entered_same : (s : State) → Same s (entered s)
entered_same s =
    entered_cases (Same s) s
    (λ l c. record { line = refl; cycle = refl; shown = refl; lcdc = refl; blanked = refl })
    (λ l c. record { line = refl; cycle = refl; shown = refl; lcdc = refl; blanked = refl })
    (λ l c. record { line = refl; cycle = refl; shown = refl; lcdc = refl; blanked = refl })
    (λ a b. same_refl)

searched_same : (oam : List ℕ) (s : State) → Same s (searched oam s)
searched_same oam s = searched_cases (Same s) oam s (record { line = refl; cycle = refl; shown = refl; lcdc = refl; blanked = refl }) same_refl

pub ready_same : (oam : List ℕ) (s : State) → Same s (searched oam (entered s))
ready_same oam s = same_then (entered_same s) (searched_same oam (entered s))

module _ (n : ℕ) (t : Tables) (s : State) where
  pub worked_fine : Fine s → Fine (working n t s).state
  unfolding working
  worked_fine f = burst_fine n t.vram (searched t.oam (entered s)) (ready_fine t.oam s f)

  pub settled_fine : Fine s → Fine (settled n t s)
  unfolding settled
  settled_fine f = compared_fine _ _ (worked_fine f)

  pub settled_same : Same s (settled n t s)
  unfolding settled compared working
  settled_same =
      let w = same_then (ready_same t.oam s) (burst_same n t.vram (searched t.oam (entered s))) in
      record { line = w.line; cycle = w.cycle; shown = w.shown; lcdc = w.lcdc; blanked = w.blanked }
