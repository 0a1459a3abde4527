-- A corruption of any kind: what an accepted one is at, and what it leaves, refused or done.
use mathlib.Core.Path.{◌≡◌, refl, ap, ◌∙◌}
use mathlib.Core.Bool.{Bool, true}
use mathlib.Core.List.{List}
use Prim.Native.Nat.{ℕ, ◌≤◌, ◌<◌}
use native.Mathlib.Omega.{arith}
use borrow.Author.Tests.{leb-true, eq-eqb}
use Rattle.logic.proofs.Both.{split}
use Rattle.refusals.specs.Ladder.{lowest, own, first}
use Rattle.refusals.proofs.Ladder.{own_none, first_none}
use Rattle.refusals.proofs.Given.{refused, accepted}
use Rattle.state.specs.With.{mode_of}
use Rattle.state.specs.declared.State.{State}
use Rattle.order.specs.Order.{in_order}
use Rattle.oam_bug.specs.Words.{oam_rows}
use Rattle.oam_bug.specs.Kinds.{is_kind, corrupted}
use Rattle.oam_bug.proofs.Rows.{row_below}
use Rattle.terms.specs.Numbers.{timely, kind_number, Graded}
use Rattle.ports.specs.Calls.{bug_row, OamBug}
use Rattle.ports.proofs.Answers.{given}
use Rattle.terms.proofs.Graded.{graded_fine}

-- in mode 2 a timely one has a cycle from 4 to 83
timely_cycle : (s : State) → timely s ≡ true → mode_of s.regs.stat ≡ 2 → (4 ≤ s.beam.cycle) × (s.beam.cycle ≤ 83)
timely_cycle s e m =
    let both = split _ _ (rw (eq-eqb _ _ m) at e) in
    (leb-true _ _ both.0, leb-true _ _ both.1)

-- an accepted one: OAM has its length, there is such a kind, the moment is right, and the row is one of the twenty
pub record Corruptible (s : State) (kind : ℕ) (b : Bool) : Type 0 where
  pub sized : b ≡ true
  pub known : is_kind kind ≡ true
  pub moment : mode_of s.regs.stat ≡ 2 → (4 ≤ s.beam.cycle) × (s.beam.cycle ≤ 83)
  pub row : bug_row s < oam_rows

pub corruptible : {s : State} {sized : Bool} (kind : ℕ) {r : ℕ}
    → Graded s (lowest sized (in_order s) (first (own (is_kind kind) 4) (own (timely s) 5))) r → r ≡ 0 → Corruptible s kind sized
corruptible {s} {sized} kind g z =
    let f = graded_fine sized g z in
    let both = first_none (own (is_kind kind) 4) (own (timely s) 5) f.own in
    let moment = timely_cycle s (own_none (timely s) (omega arith) both.1) in
    record { sized = f.sized; known = own_none (is_kind kind) (omega arith) both.0; moment = moment; row = row_below _ _ moment }

module _ {kind : ℕ} {s : State} {oam : List ℕ} {r : ℕ} (g : Graded s (kind_number s oam kind) r) where
  pub bug_refused : (r ≡ 0 → ⊥) → OamBug kind s oam (given r s) oam
  bug_refused h = record { number = g.number; state = refl; corrupted = refused g.number _ _ h }

  pub bug_done : {row : ℕ} {oam' : List ℕ} → r ≡ 0 → row ≡ bug_row s → oam' ≡ corrupted kind oam row → OamBug kind s oam (given r s) oam'
  bug_done z e d = record { number = g.number; state = refl; corrupted = accepted g.number _ _ z (d ∙ ap (corrupted kind oam) e) }
