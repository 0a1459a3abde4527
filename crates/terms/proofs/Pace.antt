-- What a paced step, of 2 cycles or of 4 at a multiple of 4, does to the cycle.
use mathlib.Core.Path.{◌≡◌, refl}
use mathlib.Core.Bool.{Bool, true, false, ◌&&◌, ◌||◌}
use mathlib.Core.Logic.{◌⊎◌, inl, inr}
use Prim.Native.Nat.{ℕ, ◌+◌, ◌*◌, ◌%◌, ◌≤◌, ◌<◌}
use native.Mathlib.Omega.{arith}
use borrow.Author.Tests.{eqb-true}
use lib.Dec.{eqb}
use Rattle.logic.proofs.Both.{split}
use Rattle.hardware.specs.Screen.{line_cycles}
use Rattle.terms.specs.Numbers.{paced}

pub record Pace (cycle n : ℕ) : Type 0 where
  pub lengths : (n ≡ 2) ⊎ ((n ≡ 4) × (cycle % 4 ≡ 0))
  pub some : 0 < n
  pub most : n ≤ 4
  -- an even cycle stays even, and does not pass a multiple of 4 that it is below, nor the end of a line
  pub even : cycle % 2 ≡ 0 → (cycle + n) % 2 ≡ 0
  pub upto : (k : ℕ) → cycle % 2 ≡ 0 → cycle < 4 * k → cycle + n ≤ 4 * k
  pub fits : cycle % 2 ≡ 0 → cycle < line_cycles → cycle + n ≤ line_cycles

pub pace : (cycle n : ℕ) → paced cycle n ≡ true → Pace cycle n
pace cycle n e = by (eqb n 2) refl e
  where
    by : (b : Bool) → eqb n 2 ≡ b → (b || (eqb n 4 && eqb (cycle % 4) 0)) ≡ true → Pace cycle n
    by true f g =
        let two : n ≡ 2 = eqb-true _ _ f in
        record {
          lengths = inl two;
          some = omega arith;
          most = omega arith;
          even = λ h. omega arith;
          upto = λ k h l. omega arith;
          fits = λ h l. omega arith;
        }
    by false f g =
        let both = split _ _ g in
        let four : n ≡ 4 = eqb-true _ _ both.0 in
        let quarter : cycle % 4 ≡ 0 = eqb-true _ _ both.1 in
        record {
          lengths = inr (four, quarter);
          some = omega arith;
          most = omega arith;
          even = λ h. omega arith;
          upto = λ k h l. omega arith;
          fits = λ h l. omega arith;
        }
