-- What a locked write answers and leaves, refused, closed or open.
use mathlib.Core.Path.{◌≡◌, refl}
use mathlib.Core.Bool.{true, false}
use mathlib.Core.List.{List}
use Prim.Native.Nat.{ℕ}
use Rattle.refusals.proofs.Given.{refused, accepted}
use Rattle.state.specs.declared.State.{State}
use Rattle.ports.proofs.Answers.{given}
use Rattle.locks.specs.Closed.{closed}
use Rattle.locks.specs.Calls.{LockedWrite}
use Rattle.locks.specs.declared.Memory.{Memory}

module _ {memory : Memory} {s : State} {number r : ℕ} {old bytes : List ℕ} (e : r ≡ number) where
  pub write_refused : (r ≡ 0 → ⊥) → LockedWrite memory s number old bytes (given r s) bytes
  write_refused h = record { number = e; state = refl; written = refused e _ _ h }

  pub write_dropped : r ≡ 0 → closed memory s ≡ true → LockedWrite memory s number old bytes (given r s) bytes
  write_dropped z shut = record { number = e; state = refl; written = accepted e _ _ z (rw shut refl) }

  pub write_done : {bytes' : List ℕ} → r ≡ 0 → closed memory s ≡ false → bytes' ≡ old
      → LockedWrite memory s number old bytes (given r s) bytes'
  write_done z free d = record { number = e; state = refl; written = accepted e _ _ z (rw free d) }
