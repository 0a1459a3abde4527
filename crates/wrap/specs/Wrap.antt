-- Bytes: the difference modulo 256, one more modulo 256, and the bits of a byte, bit 0 the lowest.
use Rattle.std.specs.Prelude.{ℕ, ◌+◌, ◌-◌, ◌/◌, ◌%◌, ◌^◌, Bool, ◌==◌}

-- a - b modulo 256
abbrev pub minus : ℕ → ℕ → ℕ
minus a b = (a + 256 - b) % 256

-- up by one, modulo 256
abbrev pub up : ℕ → ℕ
up x = (x + 1) % 256

-- bit n of x, as a number
abbrev pub digit_at : ℕ → ℕ → ℕ
digit_at x n = x / 2 ^ n % 2

-- bit n of x is set
abbrev pub bit_at : ℕ → ℕ → Bool
bit_at x n = digit_at x n == 1
