-- `lcd::mixed` meets its contract: each sum of shifts is the sum of products that `mix` has.
use Prim.Native.Nat.{◌<◌}
use native.Mathlib.Omega.{arith}
use Rattle.lcd.specs.Mix.{mix}
use Rattle.lcd.proofs.Sums.{red_sum, green_sum, blue_sum}
use Rattle.lcd.proofs.mixed.Goals as goal

pub returns : goal.returns
unfolding mix
returns c =
    let r : c.args.c.r < 256 = omega arith in
    let g : c.args.c.g < 256 = omega arith in
    let b : c.args.c.b < 256 = omega arith in
    simp (
      c.from-r.ensures,
      c.from-g.ensures,
      c.from-b.ensures,
      c.quarter_of.ensures,
      c.quarter_of-2.ensures,
      c.quarter_of-3.ensures,
      red_sum r g b,
      green_sum g b,
      blue_sum r g b,
    )
