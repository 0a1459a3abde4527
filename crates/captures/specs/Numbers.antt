-- Numbers read from their digits in base 10 or 16. (How they are written: specs/Numbers of `texts`.)
use Rattle.std.specs.Prelude.{cond, ◌&&◌, List, [], ◌∷◌, ℕ, ◌+◌, ◌-◌, ◌*◌, ltb, leb, Option, Some, None}

-- what a digit is worth: `0` to `9`, `A` to `F`, `a` to `f`; any other byte is no digit, and counts as 16
unfoldable pub digit_of : ℕ → ℕ
digit_of b =
    cond (leb 48 b && leb b 57) (b - 48)
    (cond (leb 65 b && leb b 70) (b - 55)
    (cond (leb 97 b && leb b 102) (b - 87)
    16))

-- a byte's digit in a base, if it is one
unfoldable pub digit_in : ℕ → ℕ → Option ℕ
digit_in base b = cond (ltb (digit_of b) base) (Some (digit_of b)) None

-- the number whose first digits say n and whose others are these bytes: each must be worth less than the base
unfoldable pub number_from : ℕ → ℕ → List ℕ → Option ℕ
number_from base n [] = Some n
number_from base n (b ∷ l) = cond (ltb (digit_of b) base) (number_from base (n * base + digit_of b) l) None
