-- What a text ends as, where all of its room is lent.
use Rattle.std.specs.Prelude.{ℕ, List, take}
use Rattle.std.specs.Borrow.{Lends, Fml, RattleType, MutBor, Array, u8}
use Rattle.texts.specs.contracts.Text.{the_row}

-- what r shows last, which has n bytes
abbrev pub LendsRoom : RattleType → ℕ → MutBor (List ℕ) → MutBor (List ℕ) → Fml
LendsRoom N n s r = Lends (the_row N) (Array u8 0) s r (take n)
