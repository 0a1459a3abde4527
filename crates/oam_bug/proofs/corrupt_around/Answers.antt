-- `oam_bug::corrupt_around` meets its contract.
use Prim.Native.Nat.{ℕ}
use native.Mathlib.Omega.{arith}
use borrow.Author.Tests.{lt-ltb, le-ltb}
use Rattle.oam_bug.specs.Corruption.{around_corrupted}
use Rattle.oam_bug.proofs.corrupt_around.Goals as goal
use Rattle.oam_bug.proofs.corrupt_around.Goals.{then-row-lt4-via-then-row-lt4, then-row-lt4-via-else-row-lt4+then-row-gt18}

pub returns-then-row-lt4 : goal.returns-then-row-lt4
unfolding around_corrupted
returns-then-row-lt4 c =
    let row : ℕ = c.args.row.index in
    elim c.then-row-lt4.branch [
      | then-row-lt4-via-then-row-lt4 w ↦ simp (lt-ltb row 4 (omega arith))
      | then-row-lt4-via-else-row-lt4+then-row-gt18 w ↦ simp (le-ltb row 4 (omega arith), lt-ltb 18 row (omega arith))
    ]

pub returns : goal.returns
unfolding around_corrupted
returns c =
    let row : ℕ = c.args.row.index in
    rw (le-ltb row 4 (omega arith), le-ltb 18 row (omega arith)) cc
