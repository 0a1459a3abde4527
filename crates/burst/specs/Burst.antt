-- 01, "One step", 2: the draws of a step, and the places that they store in the picture not shown.
use Rattle.std.specs.Prelude.{ℕ, zero, suc, ◌<◌, ◌≡◌, cond, List, [], ◌∷◌, eqb, Option, Some, None}
use Rattle.hardware.specs.Screen.{width, height}
use Rattle.lcd.specs.Pictures.{Pictures, stored, hidden_of, with_hidden}
use Rattle.draw.specs.Draw.{drawn}
use Rattle.draw.specs.declared.Drawn.{Drawn}
use Rattle.state.specs.With.{mode_of}
use Rattle.state.specs.declared.State.{State}
use Rattle.draw.specs.declared.Place.{Place}

-- what a run of draws leaves: the state, and what each draw answered
pub record Burst : Type 0 where
  pub state : State
  pub shots : List (Option Place)

-- no draw
abbrev pub still : State → Burst
still s = record { state = s; shots = [] }

-- one draw more in front of others
abbrev pub after : Drawn → Burst → Burst
after d b = record { state = b.state; shots = d.shot ∷ b.shots }

-- mode 3 draws once a cycle, until the line ends
unfoldable pub burst : ℕ → List ℕ → State → Burst
burst zero vram s = still s
burst (suc n) vram s =
    cond (eqb (mode_of s.regs.stat) 3) (after (drawn vram s) (burst n vram (drawn vram s).state)) (still s)

-- only a draw stores a place
abbrev pub shot_stored : List ℕ → Option Place → List ℕ
shot_stored picture (Some t) = stored picture t.x t.y t.rgb
shot_stored picture None = picture

unfoldable pub all_stored : List ℕ → List (Option Place) → List ℕ
all_stored picture [] = picture
all_stored picture (shot ∷ rest) = all_stored (shot_stored picture shot) rest

-- the places go into the picture that is not shown
abbrev pub drawn_into : ℕ → List (Option Place) → Pictures → Pictures
drawn_into shown shots p = with_hidden shown p (all_stored (hidden_of shown p) shots)

-- a place of the picture
abbrev pub OnScreen : Option Place → Type 0
OnScreen (Some t) = (t.x < width) × (t.y < height)
OnScreen None = Unit {0}

-- what a run of draws leaves: the state, and the picture that is not shown
pub record Drew (n : ℕ) (vram : List ℕ) (s : State) (p : List ℕ) (s' : State) (p' : List ℕ) : Type 0 where
  pub state : s' ≡ (burst n vram s).state
  pub picture : p' ≡ all_stored p (burst n vram s).shots
