-- Laws of the kinds of corruption: the rule of each, and the length of OAM after it.
use mathlib.Core.Path.{◌≡◌, refl}
use mathlib.Core.Bool.{true}
use mathlib.Core.List.{List}
use Prim.Native.Nat.{ℕ}
use lib.Dec.{eqb}
use lib.ListN.{length}
use Rattle.logic.proofs.Tests.{by_test}
use Rattle.oam_bug.specs.Corruption.{write_corrupted, read_corrupted, read_write_corrupted}
use Rattle.oam_bug.specs.Kinds.{is_kind, number_of_kind, corrupted}
use Rattle.oam_bug.specs.declared.Kind.{Kind}
use Rattle.oam_bug.specs.declared.Kind.TheVariants.{Write, Read, ReadWrite}
use Rattle.oam_bug.proofs.Rows.{AsLong, length_write, length_read, length_read_write}

-- a kind does what a rule does
abbrev pub By : ℕ → (List ℕ → ℕ → List ℕ) → Type 0
By kind rule = (oam : List ℕ) (r : ℕ) → corrupted kind oam r ≡ rule oam r

pub zero_by_write : By 0 write_corrupted
zero_by_write oam r = refl

pub one_by_read : By 1 read_corrupted
one_by_read oam r = refl

pub two_by_read_write : By 2 read_write_corrupted
two_by_read_write oam r = refl

-- the number of a kind is one that there is
pub number_known : (kind : Kind) → is_kind (number_of_kind kind) ≡ true
number_known Write = refl
number_known Read = refl
number_known ReadWrite = refl

-- OAM keeps its length, whatever the kind
pub length_corrupted : (kind : ℕ) (l : List ℕ) (r : ℕ) → length (corrupted kind l r) ≡ length l
length_corrupted kind l r =
    by_test (AsLong l) (eqb kind 0) (λ e. length_write l r)
    (λ e. by_test (AsLong l) (eqb kind 1) (λ e. length_read l r)
    (λ e. by_test (AsLong l) (eqb kind 2) (λ e. length_read_write l r)
    (λ e. refl)))
