-- One more modulo 256 is 255 less.
use Rattle.std.proofs.Common.{◌≡◌, ℕ, arith}
use Rattle.wrap.specs.Wrap.{minus, up}

pub less_255 : (x : ℕ) → minus x 255 ≡ up x
less_255 x = omega arith
