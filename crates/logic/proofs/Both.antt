-- `&&` and `||` by their parts.
use mathlib.Core.Path.{◌≡◌, refl}
use mathlib.Core.Bool.{Bool, true, false, ◌&&◌, ◌||◌}

pub both : {a b : Bool} → a ≡ true → b ≡ true → a && b ≡ true
both e f = rw (e, f)

pub first : (a b : Bool) → a && b ≡ true → a ≡ true
first true b e = refl
first false b e = e

pub second : (a b : Bool) → a && b ≡ true → b ≡ true
second true b e = e
second false true e = refl
second false false e = e

-- both parts
pub split : (a b : Bool) → a && b ≡ true → (a ≡ true) × (b ≡ true)
split a b e = (first a b e, second a b e)

-- neither part
pub neither : (a b : Bool) → a || b ≡ false → (a ≡ false) × (b ≡ false)
neither true b e = (e, absurd_or b e)
  where
    absurd_or : (b : Bool) → true ≡ false → b ≡ false
    absurd_or true e = e
    absurd_or false e = refl
neither false b e = (refl, e)
