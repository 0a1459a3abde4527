-- The number of a call that takes a state: how it is computed, and what the number 0 says of the state and of what is lent.
use mathlib.Core.Path.{◌≡◌, sym, ◌∙◌}
use mathlib.Core.Bool.{Bool, true}
use Prim.Native.Nat.{ℕ}
use Rattle.refusals.specs.Ladder.{lowest}
use Rattle.refusals.proofs.Ladder.{lowest_none}
use Rattle.state.specs.declared.State.{State}
use Rattle.order.specs.Order.{in_order}
use Rattle.order.specs.Fine.{Fine}
use Rattle.order.proofs.Clauses.{fine}
use Rattle.terms.specs.Numbers.{Graded}

-- no number: the state is in order, what is lent has its lengths, the call's own test passed
pub record Allowed (s : State) (b : Bool) (n : ℕ) : Type 0 where
  pub fine : Fine s
  pub sized : b ≡ true
  pub own : n ≡ 0

pub graded_fine : {s : State} {r : ℕ} (sized : Bool) {own : ℕ}
    → Graded s (lowest sized (in_order s) own) r → r ≡ 0 → Allowed s sized own
graded_fine {s} sized g z =
    let passed = lowest_none sized (in_order s) (sym g.number ∙ z) in
    record { fine = fine g.shape passed.ordered; sized = passed.sized; own = passed.own }
