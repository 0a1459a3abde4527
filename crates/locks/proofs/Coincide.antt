-- No promise leaves freedom: two results that one allows for the same inputs coincide, the answer, the state and every lent byte.
use mathlib.Core.Path.{◌≡◌}
use mathlib.Core.List.{List}
use Prim.Native.Nat.{ℕ}
use Rattle.state.specs.declared.State.{State}
use Rattle.ports.specs.Answers.{Answer, ReadAnswer}
use Rattle.ports.proofs.Answers.{same_answer}
use Rattle.ports.proofs.Coincide.{one}
use Rattle.locks.specs.Calls.{LockedWrite, locked_read}
use Rattle.locks.specs.declared.Memory.{Memory}

pub locked_write_coincides : {memory : Memory} {s : State} {number : ℕ} {old bytes x y : List ℕ} {r q : Answer}
    → LockedWrite memory s number old bytes r x → LockedWrite memory s number old bytes q y → (r ≡ q) × (x ≡ y)
locked_write_coincides e f =
    (same_answer (one e.number f.number) (one e.state f.state), one e.written f.written)

pub locked_read_coincides : (memory : Memory) (s : State) (number byte : ℕ) {r q : ReadAnswer}
    → r ≡ locked_read memory s number byte → q ≡ locked_read memory s number byte → r ≡ q
locked_read_coincides memory s number byte = one
