-- 01's table of refusals, call by call: the lowest number that applies, 0 for done. A call is tested only for what it takes.
use Rattle.std.specs.Prelude.{ℕ, ◌%◌, ◌≡◌, Bool, true, not, ◌&&◌, ◌||◌, List, eqb, ltb, leb}
use Rattle.refusals.specs.Ladder.{lowest, own, first}
use Rattle.hardware.specs.Tables.{oam_bytes, Tables, vram_fits, oam_fits, tables_fit}
use Rattle.lcd.specs.Pictures.{Pictures, pictures_fit}
use Rattle.state.specs.With.{mode_of}
use Rattle.state.specs.Shape.{Shaped}
use Rattle.state.specs.declared.State.{State}
use Rattle.order.specs.Order.{in_order}
use Rattle.registers.specs.Registers.{listed}
use Rattle.registers.specs.Write.{readable}
use Rattle.oam_bug.specs.Kinds.{is_kind}

-- 3: a step is 2, or 4 at a multiple of 4
abbrev pub paced : ℕ → ℕ → Bool
paced cycle n = eqb n 2 || (eqb n 4 && eqb (cycle % 4) 0)

-- 4: a register address that is listed for the write (`listed`, in the table); an OAM address with a low byte below 160; a kind of
-- corruption that there is (`is_kind`)
abbrev pub in_oam : ℕ → Bool
in_oam address = ltb (address % 256) oam_bytes

-- 5: a corruption outside mode 2, or in it with a cycle from 4 to 83
abbrev pub timely : State → Bool
timely s = not (eqb (mode_of s.regs.stat) 2) || (leb 4 s.beam.cycle && leb s.beam.cycle 83)

-- the number of each call
abbrev pub start_number : Tables → Pictures → ℕ
start_number t p = lowest (tables_fit t && pictures_fit p) true 0

abbrev pub step_number : State → Tables → Pictures → ℕ → ℕ
step_number s t p n = lowest (tables_fit t && pictures_fit p) (in_order s) (own (paced s.beam.cycle n) 3)

abbrev pub write_number : State → Pictures → ℕ → ℕ
write_number s p address = lowest (pictures_fit p) (in_order s) (own (listed address) 4)

abbrev pub read_number : State → ℕ → ℕ
read_number s address = lowest true (in_order s) (own (readable address) 4)

abbrev pub vram_number : State → List ℕ → ℕ
vram_number s vram = lowest (vram_fits vram) (in_order s) 0

abbrev pub oam_number : List ℕ → ℕ → ℕ
oam_number oam address = lowest (oam_fits oam) true (own (in_oam address) 4)

-- request 12: a locked OAM call, write or read, takes the state besides; a locked VRAM call has the number of a VRAM write
abbrev pub locked_oam_number : State → List ℕ → ℕ → ℕ
locked_oam_number s oam address = lowest (oam_fits oam) (in_order s) (own (in_oam address) 4)

abbrev pub colour_number : State → ℕ
colour_number s = lowest true (in_order s) 0

abbrev pub kind_number : State → List ℕ → ℕ → ℕ
kind_number s oam kind = lowest (oam_fits oam) (in_order s) (first (own (is_kind kind) 4) (own (timely s) 5))

-- what it was while each kind of corruption had a call of its own: no call has it now, and each kind is held against it
abbrev pub bug_number : State → List ℕ → ℕ
bug_number s oam = lowest (oam_fits oam) (in_order s) (own (timely s) 5)

abbrev pub shown_number : State → Pictures → ℕ
shown_number s p = lowest (pictures_fit p) (in_order s) 0

-- a number as it was computed, and the sizes that the type of the state gives
pub record Graded (s : State) (n r : ℕ) : Type 0 where
  pub number : r ≡ n
  pub shape : Shaped s
