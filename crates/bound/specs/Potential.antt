-- 01, "One draw", and Pan Docs, "Pixel FIFO": a number of draws in which a line ends, whatever is written meanwhile.
use Rattle.std.specs.Prelude.{ℕ, ◌+◌, ◌-◌, ◌≤◌, ◌<◌, ◌≡◌, Bool, false, cond, ◌⊎◌, List, [], ◌∷◌, eqb, length, Option, Some, None}
use Rattle.hardware.specs.Screen.{width}
use Rattle.state.specs.With.{mode_of}
use Rattle.state.specs.declared.Pipe.{Pipe}
use Rattle.state.specs.declared.State.{State}
use Rattle.order.specs.Fine.{Fine}
use Rattle.draw.specs.Draw.{drawn_if}
use Rattle.bg_attribs.specs.declared.BgAttribute.{BgAttribute}

-- a row that waits is eight pixels
abbrev pub waits : Option BgAttribute → ℕ
waits (Some attribute) = 8
waits None = 0

-- queued background pixels, those that wait, and how far the next fetch has come
abbrev pub filled : Pipe → ℕ
filled p = p.bg.len + waits p.fetcher.waiting + (8 - p.fetcher.delay)

-- what an entry_cost to the window may cost: fifteen draws to fill the queue again, and seven discards
abbrev pub entry_cost : Bool → ℕ
entry_cost inside = cond inside 0 22

-- places left in the line, discards, draws until the queue gives pixels, and a window that may still come
abbrev pub left_at : ℕ → Pipe → ℕ
left_at x p = (width - x) + p.discard + (15 - filled p) + entry_cost p.window

abbrev pub left : State → ℕ
left s = left_at s.beam.x s.pipe

-- as mode 3 starts and draws leave it: the fetch delay is not 0, and a row that the next draw replaces waits behind eight
pub record Paced (p : Pipe) : Type 0 where
  pub running : 0 < p.fetcher.delay
  pub behind : p.fetcher.delay ≡ 1 → waits p.fetcher.waiting ≤ p.bg.len

-- outside the window at most seven pixels are to be discarded, and none once a place was drawn
pub record Steady (x : ℕ) (p : Pipe) : Type 0 where
  pub paced : Paced p
  pub short : p.window ≡ false → p.discard ≤ 7
  pub still : p.window ≡ false → 0 < x → p.discard ≡ 0

-- the line goes on: the registers stay, x stays or goes up by one, and is on the screen
pub record Goes (s u : State) : Type 0 where
  pub regs : u.regs ≡ s.regs
  pub x : (u.beam.x ≡ s.beam.x) ⊎ (u.beam.x ≡ s.beam.x + 1)
  pub within : u.beam.x < width

-- the line ended: mode 0, x 0, out of the window
pub record Ended (u : State) : Type 0 where
  pub mode : mode_of u.regs.stat ≡ 0
  pub x : u.beam.x ≡ 0
  pub window : u.pipe.window ≡ false

-- draws under any condition of the window, a coin at each draw, until the line ends
unfoldable pub draws_if : List Bool → List ℕ → State → State
draws_if [] vram s = s
draws_if (allowed ∷ rest) vram s = cond (eqb (mode_of s.regs.stat) 3) (draws_if rest vram (drawn_if allowed vram s).state) s

-- each line ends, whatever the condition: as many draws as are left end it
abbrev pub LineEnds : Type 0
LineEnds =
    (coins : List Bool) (vram : List ℕ) (s : State) → Fine s → Steady s.beam.x s.pipe → mode_of s.regs.stat ≡ 3
    → left s ≤ length coins → Ended (draws_if coins vram s)
