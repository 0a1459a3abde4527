-- Bytes put into a slice from a place on.
use Rattle.std.specs.Prelude.{ℕ, ◌+◌, ◌≤◌, ◌≡◌, List, ◌++◌, length, take, drop}

-- `to` is the place behind them: up to it stand what stood before `from`, and the bytes; behind it, what stood there
pub record Appended (before after : List ℕ) (from to : ℕ) (bytes : List ℕ) : Type 0 where
  pub behind : to ≡ from + length bytes
  pub written : take to after ≡ take from before ++ bytes
  pub kept : drop to after ≡ drop to before
  pub sized : length after ≡ length before

-- `&xs[..n]` is in bounds and has n bytes. The second part follows from the first, and spares a caller's `&xs[..n]` a proof file.
abbrev pub IsPrefixLen : ℕ → List ℕ → Type 0
IsPrefixLen n xs = (n ≤ length xs) × (n ≡ length (take n xs))
