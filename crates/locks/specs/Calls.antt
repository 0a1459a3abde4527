-- Request 12: the four locked calls, what each answers and leaves, done or refused. A refusal gives its number, the state as
-- given, 0 for a byte, and writes nothing. A closed memory is no refusal: its number is 0.
use Rattle.std.specs.Prelude.{ℕ, ◌≡◌, cond, List}
use Rattle.refusals.specs.Ladder.{done}
use Rattle.tiles.specs.Tile.{byte_at}
use Rattle.state.specs.declared.State.{State}
use Rattle.memory.specs.Writes.{vram_written, oam_written}
use Rattle.memory.specs.Reads.{oam_read}
use Rattle.terms.specs.Numbers.{vram_number, locked_oam_number}
use Rattle.ports.specs.Answers.{Answer, ReadAnswer}
use Rattle.locks.specs.Closed.{closed}
use Rattle.locks.specs.declared.Memory.{Memory}
use Rattle.locks.specs.declared.Memory.TheVariants.{Vram, Oam}

-- a locked write by its number, and by what the old write makes of the bytes: that where the memory is open, nothing where it is closed
pub record LockedWrite (memory : Memory) (s : State) (n : ℕ) (old bytes : List ℕ) (r : Answer) (bytes' : List ℕ) : Type 0 where
  pub number : r.number ≡ n
  pub state : r.state ≡ s
  pub written : bytes' ≡ cond (done n) (cond (closed memory s) bytes old) bytes

abbrev pub LockedVramWrite : State → List ℕ → ℕ → ℕ → Answer → List ℕ → Type 0
LockedVramWrite s vram address value =
    LockedWrite Vram s (vram_number s vram) (vram_written vram s.regs.vbk address value) vram

abbrev pub LockedOamWrite : State → List ℕ → ℕ → ℕ → Answer → List ℕ → Type 0
LockedOamWrite s oam address value = LockedWrite Oam s (locked_oam_number s oam address) (oam_written oam address value) oam

-- what a read sees of a byte: FF where the memory is closed
abbrev pub closed_byte : ℕ
closed_byte = 0xFF

abbrev pub seen : Memory → State → ℕ → ℕ
seen memory s byte = cond (closed memory s) closed_byte byte

-- a locked read by its number, and by the byte at the address
abbrev pub locked_read : Memory → State → ℕ → ℕ → ReadAnswer
locked_read memory s number byte = record { number = number; value = cond (done number) (seen memory s byte) 0; state = s }

abbrev pub locked_vram_read : State → List ℕ → ℕ → ReadAnswer
locked_vram_read s vram address = locked_read Vram s (vram_number s vram) (byte_at vram s.regs.vbk address)

abbrev pub locked_oam_read : State → List ℕ → ℕ → ReadAnswer
locked_oam_read s oam address = locked_read Oam s (locked_oam_number s oam address) (oam_read oam address)
