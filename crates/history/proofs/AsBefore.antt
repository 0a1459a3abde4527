-- In a run the one corruption call stands for the three (specs/AsBefore).
use mathlib.Core.Path.{◌≡◌, refl, ap}
use mathlib.Core.List.{List}
use Prim.Native.Nat.{ℕ}
use Rattle.hardware.specs.Tables.{with_oam}
use Rattle.oam_bug.proofs.Rules.{By, zero_by_write, one_by_read, two_by_read_write}
use Rattle.terms.specs.Numbers.{bug_number}
use Rattle.ports.specs.Calls.{bug_row}
use Rattle.history.specs.Run.{World, bug, number, stores}
use Rattle.history.specs.AsBefore.{StandsFor, EachStands}

stands : {kind : ℕ} {rule : List ℕ → ℕ → List ℕ}
    → ((w : World) → number (bug kind) w ≡ bug_number w.state w.tables.oam) → By kind rule → StandsFor kind rule
stands n d = record { number = n; deed = λ s t. ap (λ (oam : List ℕ). stores (with_oam t oam)) (d t.oam (bug_row s)) }

pub each_stands : EachStands
each_stands =
    record {
      zero = stands (λ w. refl) zero_by_write;
      one = stands (λ w. refl) one_by_read;
      two = stands (λ w. refl) two_by_read_write;
    }
