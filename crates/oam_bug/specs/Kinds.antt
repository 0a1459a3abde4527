-- The kinds of access that corrupt OAM, by their numbers: which there are, and the rule of each.
use Rattle.std.specs.Prelude.{◌≡◌, ℕ, Bool, false, cond, List, eqb, leb, Result, MatchResult}
use Rattle.oam_bug.specs.Corruption.{write_corrupted, read_corrupted, read_write_corrupted}
use Rattle.oam_bug.specs.declared.Kind.{Kind}
use Rattle.oam_bug.specs.declared.Kind.TheVariants.{Write, Read, ReadWrite}
use Rattle.oam_bug.specs.declared.UnknownKind.{UnknownKind}

-- 0 a write, 1 a read, 2 a read and a write together
abbrev pub is_kind : ℕ → Bool
is_kind kind = leb kind 2

-- the number of a kind
abbrev pub number_of_kind : Kind → ℕ
number_of_kind Write = 0
number_of_kind Read = 1
number_of_kind ReadWrite = 2

-- the kind of a number, or that there is none of that number
abbrev pub Numbers : ℕ → Result Kind UnknownKind → Type 0
Numbers number r = MatchResult r (λ kind. number_of_kind kind ≡ number) (λ none. is_kind number ≡ false)

-- what an access of a kind does at row r; there are no others, which would do nothing
abbrev pub corrupted : ℕ → List ℕ → ℕ → List ℕ
corrupted kind oam r =
    cond (eqb kind 0) (write_corrupted oam r)
    (cond (eqb kind 1) (read_corrupted oam r)
    (cond (eqb kind 2) (read_write_corrupted oam r)
    oam))
