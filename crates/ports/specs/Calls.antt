-- The public calls that touch no picture, or only show one: what each answers and leaves, done or refused. A refusal gives its
-- number, the state as given, 0 or no for all else, and writes nothing.
use Rattle.std.specs.Prelude.{ℕ, ◌≡◌, Bool, true, false, cond, List, []}
use Rattle.std.specs.Borrow.{Bor}
use Rattle.refusals.specs.Ladder.{done}
use Rattle.lcd.specs.Pictures.{Pictures, pictures, chosen}
use Rattle.state.specs.With.{mode_of}
use Rattle.state.specs.declared.State.{State}
use Rattle.memory.specs.Writes.{vram_written, oam_written}
use Rattle.registers.specs.Write.{register_read, colour_set}
use Rattle.oam_bug.specs.Corruption.{corrupted_row}
use Rattle.oam_bug.specs.Kinds.{corrupted}
use Rattle.terms.specs.Numbers.{read_number, shown_number, vram_number, oam_number, colour_number, bug_number, kind_number}
use Rattle.ports.specs.Answers.{Answer, ReadAnswer}

-- a read, and a call of the colour flag, lend nothing; a read gives the state back as given, done or refused
abbrev pub read_answer : State → ℕ → ReadAnswer
read_answer s address =
    record {
      number = read_number s address;
      value = cond (done (read_number s address)) (register_read s.palettes address) 0;
      state = s;
    }

abbrev pub colour_answer : State → Bool → Answer
colour_answer s flag = record { number = colour_number s; state = cond (done (colour_number s)) (colour_set s flag) s }

-- a VRAM write reads the bank of the state and gives the state back as given
pub record VramWrite (s : State) (vram : List ℕ) (address value : ℕ) (r : Answer) (vram' : List ℕ) : Type 0 where
  pub number : r.number ≡ vram_number s vram
  pub state : r.state ≡ s
  pub written : vram' ≡ cond (done (vram_number s vram)) (vram_written vram s.regs.vbk address value) vram

-- an OAM write takes no state
pub record OamWrite (oam : List ℕ) (address value r : ℕ) (oam' : List ℕ) : Type 0 where
  pub number : r ≡ oam_number oam address
  pub written : oam' ≡ cond (done (oam_number oam address)) (oam_written oam address value) oam

-- a corruption by one of the three rules, at the row of the moment; the state comes back as given
abbrev pub bug_row : State → ℕ
bug_row s = corrupted_row (mode_of s.regs.stat) s.beam.cycle

pub record Corruption (rule : List ℕ → ℕ → List ℕ) (s : State) (oam : List ℕ) (r : Answer) (oam' : List ℕ) : Type 0 where
  pub number : r.number ≡ bug_number s oam
  pub state : r.state ≡ s
  pub corrupted : oam' ≡ cond (done (bug_number s oam)) (rule oam (bug_row s)) oam

-- the one call: a corruption of a kind. At each kind it promises what `Corruption` does by that kind's rule (specs/AsBefore)
pub record OamBug (kind : ℕ) (s : State) (oam : List ℕ) (r : Answer) (oam' : List ℕ) : Type 0 where
  pub number : r.number ≡ kind_number s oam kind
  pub state : r.state ≡ s
  pub corrupted : oam' ≡ cond (done (kind_number s oam kind)) (corrupted kind oam (bug_row s)) oam

-- a picture can be shown: both have their length, and the state is in order
abbrev pub shows : State → Pictures → Bool
shows s p = done (shown_number s p)

-- no byte, at the place where picture A begins
pub record EmptyPart (a r : Bor (List ℕ)) : Type 0 where
  pub place : r.ref_ptr ≡ a.ref_ptr
  pub bytes : r.now ≡ []

-- the answer is the very picture lent, A or B, whole and unmoved; on a refusal the empty part of picture A
pub record Shown (s : State) (a b r : Bor (List ℕ)) : Type 0 where
  pub picture : shows s (pictures a.now b.now) ≡ true → r ≡ chosen s.beam.shown a b
  pub empty : shows s (pictures a.now b.now) ≡ false → EmptyPart a r
