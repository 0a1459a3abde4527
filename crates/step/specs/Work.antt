-- The parts of a step that store: what they need, and what the draws and the settling leave in the state and in both pictures.
use Rattle.std.specs.Prelude.{ℕ, ◌≡◌, List}
use Rattle.hardware.specs.Tables.{Tables, TablesSized}
use Rattle.lcd.specs.Pictures.{Pictures, PicturesSized}
use Rattle.state.specs.declared.State.{State}
use Rattle.order.specs.Fine.{Fine}
use Rattle.burst.specs.Burst.{burst, drawn_into}
use Rattle.step.specs.Step.{working, settled}

-- lent memory of its lengths, and a state in order
pub record Steppable (t : Tables) (p : Pictures) (s : State) : Type 0 where
  pub tables : TablesSized t
  pub pictures : PicturesSized p
  pub fine : Fine s

pub record Worked (n : ℕ) (vram : List ℕ) (s : State) (p : Pictures) (u : State) (p' : Pictures) : Type 0 where
  pub state : u ≡ (burst n vram s).state
  pub pictures : p' ≡ drawn_into s.beam.shown (burst n vram s).shots p

pub record Settled (n : ℕ) (t : Tables) (s : State) (p : Pictures) (u : State) (p' : Pictures) : Type 0 where
  pub state : u ≡ settled n t s
  pub pictures : p' ≡ drawn_into s.beam.shown (working n t s).shots p
