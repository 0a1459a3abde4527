-- A call's arguments put into a buffer, one behind the other.
use mathlib.Core.List.{List, [], ◌∷◌, append-nil}
use Prim.Native.Nat.{ℕ}
use Rattle.texts.specs.Appended.{Appended}
use Rattle.texts.proofs.Appends.{then}
use Rattle.captures.specs.Printing.{spaced}

-- the last argument, and one more in front of others
pub last : {a b : List ℕ} {from to : ℕ} {w : List ℕ} → Appended a b from to (32 ∷ w) → Appended a b from to (spaced (w ∷ []))
unfolding spaced
last {w = w} p = rw (append-nil w) p

pub more : {a b c : List ℕ} {from mid to : ℕ} {w : List ℕ} (ws : List (List ℕ))
    → Appended a b from mid (32 ∷ w) → Appended b c mid to (spaced ws) → Appended a c from to (spaced (w ∷ ws))
unfolding spaced
more ws p q = then p q
