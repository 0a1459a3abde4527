-- Each kind of the one corruption call is what its own call was (specs/AsBefore).
use mathlib.Core.Path.{◌≡◌, refl, sym, ◌∙◌}
use mathlib.Core.Bool.{cond}
use mathlib.Core.List.{List}
use Prim.Native.Nat.{ℕ}
use Rattle.refusals.specs.Ladder.{done}
use Rattle.state.specs.declared.State.{State}
use Rattle.oam_bug.specs.Corruption.{write_corrupted, read_corrupted, read_write_corrupted}
use Rattle.oam_bug.specs.Kinds.{corrupted}
use Rattle.oam_bug.proofs.Rules.{By, zero_by_write, one_by_read, two_by_read_write}
use Rattle.terms.specs.Numbers.{bug_number, kind_number}
use Rattle.ports.specs.Calls.{bug_row, Corruption, OamBug}
use Rattle.ports.specs.AsBefore.{Is, EachKind}
use Rattle.ports.specs.Answers.{Answer}
use Rattle.ports.proofs.Coincide.{oam_bug_coincides}

-- where the number and the rule of a kind are those of its call
module _ (kind : ℕ) (rule : List ℕ → ℕ → List ℕ) (n : (s : State) (oam : List ℕ) → kind_number s oam kind ≡ bug_number s oam) (d : By kind rule) where
  left : (s : State) (oam : List ℕ)
      → cond (done (kind_number s oam kind)) (corrupted kind oam (bug_row s)) oam ≡ cond (done (bug_number s oam)) (rule oam (bug_row s)) oam
  left s oam = rw (n s oam, d oam (bug_row s)) refl

  still : {s : State} {oam x : List ℕ} {r : Answer} → Corruption rule s oam r x → OamBug kind s oam r x
  still {s} {oam} b = record { number = b.number ∙ sym (n s oam); state = b.state; corrupted = b.corrupted ∙ sym (left s oam) }

  is : Is kind rule
  is =
      record {
        was = λ {s} {oam} b. record { number = b.number ∙ n s oam; state = b.state; corrupted = b.corrupted ∙ left s oam };
        still = still;
        equal = λ b c. oam_bug_coincides b (still c);
      }

pub each_kind : EachKind
each_kind =
    record {
      zero = is 0 write_corrupted (λ s oam. refl) zero_by_write;
      one = is 1 read_corrupted (λ s oam. refl) one_by_read;
      two = is 2 read_write_corrupted (λ s oam. refl) two_by_read_write;
    }
