-- An answer with the state as given; answers are equal by their parts.
use mathlib.Core.Path.{◌≡◌}
use Prim.Native.Nat.{ℕ}
use Rattle.state.specs.declared.State.{State}
use Rattle.ports.specs.Answers.{Answer, ReadAnswer}

-- the number with the state as given
abbrev pub given : ℕ → State → Answer
given r s = record { number = r; state = s }

pub same_answer : {r q : Answer} → r.number ≡ q.number → r.state ≡ q.state → r ≡ q
same_answer n s = λ i. record { number = n i; state = s i }

pub same_read : {r q : ReadAnswer} → r.number ≡ q.number → r.value ≡ q.value → r.state ≡ q.state → r ≡ q
same_read n v s = λ i. record { number = n i; value = v i; state = s i }
