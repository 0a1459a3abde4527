-- In a run the one corruption call stands for the three that went (theorem `each_stands`).
use Rattle.std.specs.Prelude.{ℕ, ◌≡◌, List}
use Rattle.hardware.specs.Tables.{Tables, with_oam}
use Rattle.state.specs.declared.State.{State}
use Rattle.oam_bug.specs.Corruption.{write_corrupted, read_corrupted, read_write_corrupted}
use Rattle.terms.specs.Numbers.{bug_number}
use Rattle.ports.specs.Calls.{bug_row}
use Rattle.history.specs.Run as run
use Rattle.history.specs.Run.{World, bug, stores}

-- at a kind it has the number, and does the deed, of the call of a rule
pub record StandsFor (kind : ℕ) (rule : List ℕ → ℕ → List ℕ) : Type 0 where
  pub number : (w : World) → run.number (bug kind) w ≡ bug_number w.state w.tables.oam
  pub deed : (s : State) (t : Tables) → run.deed (bug kind) s t ≡ stores (with_oam t (rule t.oam (bug_row s)))

pub record EachStands : Type 0 where
  pub zero : StandsFor 0 write_corrupted
  pub one : StandsFor 1 read_corrupted
  pub two : StandsFor 2 read_write_corrupted
