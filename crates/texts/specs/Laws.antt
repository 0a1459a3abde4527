-- What is proved of bytes put one behind the other. The proof is in proofs/Appends.
use Rattle.std.specs.Prelude.{ℕ, List, ◌++◌}
use Rattle.texts.specs.Appended.{Appended}

-- what is appended and what is appended behind it are appended as one
abbrev pub AppendedBoth : Type 0
AppendedBoth =
    (a b c : List ℕ) (from mid to : ℕ) (x y : List ℕ) → Appended a b from mid x → Appended b c mid to y → Appended a c from to (x ++ y)
