-- What the one corruption call has to do with the three that it stands for: a statement for each kind (theorem `each_kind`).
use Rattle.std.specs.Prelude.{ℕ, ◌≡◌, List}
use Rattle.state.specs.declared.State.{State}
use Rattle.oam_bug.specs.Corruption.{write_corrupted, read_corrupted, read_write_corrupted}
use Rattle.ports.specs.Calls.{Corruption, OamBug}
use Rattle.ports.specs.Answers.{Answer}

-- a kind is what the call of a rule was: on every input the two promises allow the same answers and bytes, both ways; so the
-- call of the kind answers and leaves what that call answered and left
pub record Is (kind : ℕ) (rule : List ℕ → ℕ → List ℕ) : Type 0 where
  pub was : {s : State} {oam x : List ℕ} {r : Answer} → OamBug kind s oam r x → Corruption rule s oam r x
  pub still : {s : State} {oam x : List ℕ} {r : Answer} → Corruption rule s oam r x → OamBug kind s oam r x
  pub equal : {s : State} {oam x y : List ℕ} {r q : Answer} → OamBug kind s oam r x → Corruption rule s oam q y → (r ≡ q) × (x ≡ y)

-- 0 is what a write was, 1 what a read was, 2 what a read and a write in one cycle was
pub record EachKind : Type 0 where
  pub zero : Is 0 write_corrupted
  pub one : Is 1 read_corrupted
  pub two : Is 2 read_write_corrupted
