-- A world, the calls that may come after a start, the turns of a run, and what the public promises say of one turn.
use Rattle.std.specs.Prelude.{ℕ, ◌≡◌, Bool, false, cond, ◌&&◌, List, [], replicate, Option}
use Rattle.refusals.specs.Ladder.{done}
use Rattle.hardware.specs.Screen.{picture_bytes}
use Rattle.hardware.specs.declared.Machine.{Machine}
use Rattle.hardware.specs.Tables.{Tables, tables, vram_bytes, oam_bytes, with_vram, with_oam}
use Rattle.lcd.specs.Pictures.{Pictures, pictures}
use Rattle.state.specs.declared.State.{State}
use Rattle.memory.specs.Fresh.{fresh_state}
use Rattle.memory.specs.Writes.{vram_written, oam_written}
use Rattle.registers.specs.Write.{kept, blanks, state_written, pictures_written, colour_set}
use Rattle.oam_bug.specs.Kinds.{corrupted}
use Rattle.sprite.specs.Pick.{pick_number}
use Rattle.beam.specs.Advance.{swaps}
use Rattle.step.specs.Step.{lit, stepped, shots_of, pictures_after}
use Rattle.terms.specs.Numbers.{step_number, write_number, read_number, vram_number, oam_number, colour_number, kind_number, shown_number}
use Rattle.terms.specs.Numbers.{locked_oam_number}
use Rattle.ports.specs.Calls.{bug_row}
use Rattle.locks.specs.Closed.{closed}
use Rattle.locks.specs.declared.Memory.TheVariants.{Vram, Oam}
use Rattle.draw.specs.declared.Place.{Place}

-- the state and what is lent
pub record World : Type 0 where
  pub state : State
  pub tables : Tables
  pub pictures : Pictures

-- every public call but a start, with any arguments
pub data Call : Type 0 where
  step : ℕ → Call
  write : ℕ → ℕ → Call
  read : ℕ → Call
  vram : ℕ → ℕ → Call
  oam : ℕ → ℕ → Call
  colour : Bool → Call
  bug : ℕ → Call
  shown : Call
  pick : ℕ → ℕ → Call
  locked_vram : ℕ → ℕ → Call
  locked_oam : ℕ → ℕ → Call
  read_vram : ℕ → Call
  read_oam : ℕ → Call

-- the number that a call is given in a world; of the shown picture it is not given out: at 0 a picture is, else the empty part
abbrev pub number : Call → World → ℕ
number (step n) w = step_number w.state w.tables w.pictures n
number (write address value) w = write_number w.state w.pictures address
number (read address) w = read_number w.state address
number (vram address value) w = vram_number w.state w.tables.vram
number (oam address value) w = oam_number w.tables.oam address
number (colour flag) w = colour_number w.state
number (bug kind) w = kind_number w.state w.tables.oam kind
number shown w = shown_number w.state w.pictures
number (pick line tall) w = pick_number w.tables.oam line tall
number (locked_vram address value) w = vram_number w.state w.tables.vram
number (locked_oam address value) w = locked_oam_number w.state w.tables.oam address
number (read_vram address) w = vram_number w.state w.tables.vram
number (read_oam address) w = locked_oam_number w.state w.tables.oam address

-- what a call can do: a step of n cycles, a write of a value to a register, the colour flag, other tables in place, or nothing
pub data Deed : Type 0 where
  steps : ℕ → Deed
  writes : ℕ → ℕ → Deed
  colours : Bool → Deed
  stores : Tables → Deed
  nothing : Deed

-- what an accepted call does, by the state and the tables that it finds: the pictures have no part in it
abbrev pub deed : Call → State → Tables → Deed
deed (step n) s t = steps n
deed (write address value) s t = writes address value
deed (read address) s t = nothing
deed (vram address value) s t = stores (with_vram t (vram_written t.vram s.regs.vbk address value))
deed (oam address value) s t = stores (with_oam t (oam_written t.oam address value))
deed (colour flag) s t = colours flag
deed (bug kind) s t = stores (with_oam t (corrupted kind t.oam (bug_row s)))
deed shown s t = nothing
deed (pick line tall) s t = nothing
deed (locked_vram address value) s t =
    cond (closed Vram s) nothing (stores (with_vram t (vram_written t.vram s.regs.vbk address value)))
deed (locked_oam address value) s t = cond (closed Oam s) nothing (stores (with_oam t (oam_written t.oam address value)))
deed (read_vram address) s t = nothing
deed (read_oam address) s t = nothing

-- what a deed makes of the world
abbrev pub does : Deed → World → World
does (steps n) w =
    record {
      state = stepped n w.tables w.state;
      tables = w.tables;
      pictures = pictures_after n w.tables w.state w.pictures;
    }
does (writes address value) w =
    record {
      state = state_written w.state address (kept address value);
      tables = w.tables;
      pictures = pictures_written w.state address (kept address value) w.pictures;
    }
does (colours flag) w = record { state = colour_set w.state flag; tables = w.tables; pictures = w.pictures }
does (stores t) w = record { state = w.state; tables = t; pictures = w.pictures }
does nothing w = w

-- what the draws of a deed answer
abbrev pub shots_by : Deed → State → Tables → List (Option Place)
shots_by (steps n) s t = shots_of n t s
shots_by (writes address value) s t = []
shots_by (colours flag) s t = []
shots_by (stores other) s t = []
shots_by nothing s t = []

-- whether a deed swaps: a step of a display that is on
abbrev pub swaps_by : Deed → State → Bool
swaps_by (steps n) s = lit s && swaps n s.beam
swaps_by (writes address value) s = false
swaps_by (colours flag) s = false
swaps_by (stores other) s = false
swaps_by nothing s = false

-- whether a deed blanks: a write that switches the display off
abbrev pub blanks_by : Deed → State → Bool
blanks_by (steps n) s = false
blanks_by (writes address value) s = blanks s.regs address (kept address value)
blanks_by (colours flag) s = false
blanks_by (stores other) s = false
blanks_by nothing s = false

-- one turn of a run: a call on the state and the memory that the turn before handed back; or any call with any other state or
-- lent memory that is refused for it, which leaves this world as it is. A call on another state that is accepted is another
-- machine's business and no turn of this run
pub data Turn : Type 0 where
  ours : Call → Turn
  astray : (c : Call) (lent : World) → (number c lent ≡ 0 → ⊥) → Turn

-- a step of a run
abbrev pub stepping : ℕ → Turn
stepping n = ours (step n)

-- the number that a turn is given
abbrev pub number_of : Turn → World → ℕ
number_of (ours c) w = number c w
number_of (astray c lent e) w = number c lent

-- what a turn does: a refused call does nothing
abbrev pub deed_of : Turn → World → Deed
deed_of (ours c) w = cond (done (number c w)) (deed c w.state w.tables) nothing
deed_of (astray c lent e) w = nothing

abbrev pub perform : Turn → World → World
perform c w = does (deed_of c w) w

abbrev pub shots_from : Turn → World → List (Option Place)
shots_from c w = shots_by (deed_of c w) w.state w.tables

abbrev pub swapped : Turn → World → Bool
swapped c w = swaps_by (deed_of c w) w.state

abbrev pub blanked : Turn → World → Bool
blanked c w = blanks_by (deed_of c w) w.state

-- the world after an accepted start of a machine, whatever the lent buffers held before
abbrev pub fresh_world : Machine → World
fresh_world machine =
    record {
      state = fresh_state machine;
      tables = tables (replicate vram_bytes 0) (replicate oam_bytes 0);
      pictures = pictures (replicate picture_bytes 255) (replicate picture_bytes 255);
    }
