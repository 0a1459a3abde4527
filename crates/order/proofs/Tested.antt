-- The pixels queued in a ring, tested front to back by the places that they have in the queue.
use mathlib.Core.Path.{◌≡◌, refl}
use mathlib.Core.Bool.{Bool}
use mathlib.Core.List.{List}
use Prim.Native.Nat.{ℕ, zero, suc, ◌+◌, ◌%◌}
use native.Mathlib.Nat.{add-zero}
use native.Mathlib.Omega.{arith}
use lib.ListN.{get_or}
use Rattle.std.specs.List.{list_all, range_with_len}
use Rattle.logic.specs.Every.{every}
use Rattle.fifo.specs.Ring.{live}

module _ {A : Type 0} (test : A → Bool) (size : ℕ) (blank : A) (slots : List A) (at : ℕ) where
  -- from place k on
  ring_from : (k n : ℕ)
      → list_all (λ j. test (get_or slots ((at + j) % size) blank)) (range_with_len k n) ≡ every test (live size blank slots (at + k) n)
  unfolding live every
  ring_from k zero = refl
  ring_from k (suc n) =
      let next : at + (k + 1) ≡ suc (at + k) = omega arith in
      rw (ring_from (k + 1) n, next)

  pub ring_all : (n : ℕ) → list_all (λ j. test (get_or slots ((at + j) % size) blank)) (range_with_len 0 n) ≡ every test (live size blank slots at n)
  ring_all n = rw add-zero at (ring_from 0 n)
