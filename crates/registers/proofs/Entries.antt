-- A search of the table from entry k on: an entry that has the address, one that has another, and none that is left.
use mathlib.Core.Path.{◌≡◌, refl}
use mathlib.Core.Bool.{cond}
use mathlib.Core.List.{List, ◌∷◌}
use Prim.Native.Nat.{ℕ, ◌+◌, ◌<◌, ◌≤◌}
use native.Mathlib.Numerals.{add-one}
use borrow.Author.Tests.{eq-eqb, ne_eqb}
use lib.Dec.{eqb}
use lib.ListN.{length, get_or, drop, drop_of_length-le}
use lib.Seq.{drop-cons}
use Rattle.registers.specs.Registers.{register, kept_in}
use Rattle.registers.specs.declared.Writable.{Writable}

abbrev pub none : Writable
none = register 0 0

kept_in_cons : (w : Writable) (rest : List Writable) (address : ℕ)
    → kept_in (w ∷ rest) address ≡ cond (eqb w.0 address) w.1 (kept_in rest address)
unfolding kept_in
kept_in_cons w rest address = refl

module _ (l : List Writable) (address k : ℕ) (less : k < length l) where
  -- entry k has the address
  pub found : (get_or l k none).0 ≡ address → (get_or l k none).1 ≡ kept_in (drop k l) address
  found e = rw (drop-cons l k none less, kept_in_cons, eq-eqb _ _ e)

  -- it has another
  pub passed : ((get_or l k none).0 ≡ address → ⊥) → kept_in (drop k l) address ≡ kept_in (drop (k + 1) l) address
  passed n = rw (add-one, drop-cons l k none less, kept_in_cons, ne_eqb _ _ n)

-- no entry is left
pub through : (l : List Writable) (address k : ℕ) → length l ≤ k → 0 ≡ kept_in (drop k l) address
unfolding kept_in
through l address k h = rw (drop_of_length-le l h)
