-- Numbers as digits.
use Rattle.std.specs.Prelude.{ℕ, zero, suc, ◌+◌, ◌/◌, ◌%◌, cond, List, [], ◌∷◌, ◌++◌, ltb}

-- a digit's letter: `0` to `9`, then `A` to `F`
unfoldable pub letter : ℕ → ℕ
letter d = cond (ltb d 10) (48 + d) (55 + d)

-- the last k digits of n
unfoldable pub digits : ℕ → ℕ → ℕ → List ℕ
digits base zero n = []
digits base (suc k) n = digits base k (n / base) ++ (letter (n % base) ∷ [])

-- how many decimal digits n has, with no zeros in front: one at least, and at most one more than `more`
unfoldable pub places : ℕ → ℕ → ℕ
places zero n = 1
places (suc more) n = cond (ltb n 10) 1 (suc (places more (n / 10)))

-- a decimal number with no zeros in front, of ten digits at most
unfoldable pub decimal : ℕ → List ℕ
decimal n = digits 10 (places 9 n) n
