-- What the public functions answer and leave, in the words of a run. The functions of src/lib.rt call the public ones and promise
-- these: so the theorems of Demand speak of the code. A function that is not lent all of the world says it for any rest.
use Rattle.std.specs.Prelude.{ℕ, ◌≡◌, Bool, cond, List}
use Rattle.std.specs.Borrow.{Bor}
use Rattle.refusals.specs.Ladder.{done}
use Rattle.hardware.specs.Tables.{Tables, tables}
use Rattle.hardware.specs.declared.Machine.{Machine}
use Rattle.lcd.specs.Pictures.{Pictures, pictures, shown_of, chosen}
use Rattle.sprite.specs.Pick.{pick_of, Picked}
use Rattle.state.specs.declared.State.{State}
use Rattle.memory.specs.Fresh.{fresh_state}
use Rattle.registers.specs.Write.{register_read}
use Rattle.step.specs.Step.{report}
use Rattle.step.specs.declared.Report.{Report}
use Rattle.terms.specs.Numbers.{start_number, read_number}
use Rattle.ports.specs.Calls.{EmptyPart}
use Rattle.locks.specs.Calls.{locked_vram_read, locked_oam_read}
use Rattle.ppu.specs.Calls.{no_report}
use Rattle.ports.specs.Answers.{Answer}
use Rattle.ppu.specs.Answers.{StepAnswer}
use Rattle.ports.specs.Answers.{ReadAnswer}
use Rattle.history.specs.Run as run
use Rattle.history.specs.Run.{World, Call, step, write, read, colour, bug, shown, pick, ours, perform, fresh_world}
use Rattle.history.specs.Run.{locked_vram, locked_oam, read_vram, read_oam}

abbrev pub world : State → Tables → Pictures → World
world s t p = record { state = s; tables = t; pictures = p }

-- a call on a world gives its number and leaves the world that `perform` says
pub record Performs (c : Call) (w : World) (given : ℕ) (left : World) : Type 0 where
  pub number : given ≡ run.number c w
  pub world : left ≡ perform (ours c) w

-- what a step answers, and the picture that is shown
abbrev pub answer : ℕ → World → Report
answer n w = report n w.tables w.state

abbrev pub shown_picture : World → List ℕ
shown_picture w = shown_of w.state.beam.shown w.pictures

-- a step: besides, its report is `answer` where it is accepted, else 0 or no
pub record Stepped (n : ℕ) (w : World) (r : StepAnswer) (left : World) : Type 0 where
  pub performs : Performs (step n) w r.number left
  pub report : r.report ≡ cond (done (run.number (step n) w)) (answer n w) no_report

-- a start: the fresh world where it is accepted, else what was lent beside the fresh state
pub record Started (m : Machine) (t : Tables) (p : Pictures) (r : Answer) (left : World) : Type 0 where
  pub number : r.number ≡ start_number t p
  pub world : left ≡ cond (done (start_number t p)) (fresh_world m) (world (fresh_state m) t p)

abbrev pub Writes : State → Pictures → ℕ → ℕ → Answer → Pictures → Type 0
Writes s p address value r p' =
    (t : Tables) → Performs (write address value) (world s t p) r.number (world r.state t p')

pub record Reads (s : State) (address : ℕ) (r : ReadAnswer) : Type 0 where
  pub performs : (t : Tables) (p : Pictures) → Performs (read address) (world s t p) r.number (world r.state t p)
  pub value : r.value ≡ cond (done (read_number s address)) (register_read s.palettes address) 0

abbrev pub WritesVram : State → List ℕ → ℕ → ℕ → Answer → List ℕ → Type 0
WritesVram s vram address value r vram' =
    (oam : List ℕ) (p : Pictures)
    → Performs (run.vram address value) (world s (tables vram oam) p) r.number (world r.state (tables vram' oam) p)

abbrev pub WritesOam : List ℕ → ℕ → ℕ → ℕ → List ℕ → Type 0
WritesOam oam address value number oam' =
    (s : State) (vram : List ℕ) (p : Pictures)
    → Performs (run.oam address value) (world s (tables vram oam) p) number (world s (tables vram oam') p)

abbrev pub Colours : State → Bool → Answer → Type 0
Colours s flag r =
    (t : Tables) (p : Pictures) → Performs (colour flag) (world s t p) r.number (world r.state t p)

-- a corruption, by its kind
abbrev pub Corrupts : ℕ → State → List ℕ → Answer → List ℕ → Type 0
Corrupts kind s oam r oam' =
    (vram : List ℕ) (p : Pictures)
    → Performs (bug kind) (world s (tables vram oam) p) r.number (world r.state (tables vram oam') p)

-- the picture asked for: where its number is 0 the very picture lent, with the bytes of the picture shown; else the empty part
pub record Pictured (w : World) (a b r : Bor (List ℕ)) : Type 0 where
  pub given : run.number shown w ≡ 0 → r ≡ chosen w.state.beam.shown a b
  pub bytes : run.number shown w ≡ 0 → r.now ≡ shown_picture w
  pub empty : (run.number shown w ≡ 0 → ⊥) → EmptyPart a r
  pub world : w ≡ perform (ours shown) w

abbrev pub Asks : State → Bor (List ℕ) → Bor (List ℕ) → Bor (List ℕ) → Type 0
Asks s a b r = (t : Tables) → Pictured (world s t (pictures a.now b.now)) a b r

pub record Picks (oam : List ℕ) (line tall : ℕ) (r : Picked) : Type 0 where
  pub performs : (s : State) (vram : List ℕ) (p : Pictures)
      → Performs (pick line tall) (world s (tables vram oam) p) r.number (world s (tables vram oam) p)
  pub picked : r ≡ pick_of oam line tall

-- the locked writes; what they have to do with the old ones stands in Locks
abbrev pub WritesLockedVram : State → List ℕ → ℕ → ℕ → Answer → List ℕ → Type 0
WritesLockedVram s vram address value r vram' =
    (oam : List ℕ) (p : Pictures)
    → Performs (locked_vram address value) (world s (tables vram oam) p) r.number (world r.state (tables vram' oam) p)

abbrev pub WritesLockedOam : State → List ℕ → ℕ → ℕ → Answer → List ℕ → Type 0
WritesLockedOam s oam address value r oam' =
    (vram : List ℕ) (p : Pictures)
    → Performs (locked_oam address value) (world s (tables vram oam) p) r.number (world r.state (tables vram oam') p)

-- the locked reads: besides, the answer as `locks` has it
pub record ReadsVram (s : State) (vram : List ℕ) (address : ℕ) (r : ReadAnswer) : Type 0 where
  pub performs : (oam : List ℕ) (p : Pictures)
      → Performs (read_vram address) (world s (tables vram oam) p) r.number (world r.state (tables vram oam) p)
  pub answer : r ≡ locked_vram_read s vram address

pub record ReadsOam (s : State) (oam : List ℕ) (address : ℕ) (r : ReadAnswer) : Type 0 where
  pub performs : (vram : List ℕ) (p : Pictures)
      → Performs (read_oam address) (world s (tables vram oam) p) r.number (world r.state (tables vram oam) p)
  pub answer : r ≡ locked_oam_read s oam address
