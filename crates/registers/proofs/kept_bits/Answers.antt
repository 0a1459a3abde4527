-- `registers::kept_bits` meets its contract: the entry found is the first with the address.
use Rattle.std.proofs.Common.{◌≡◌, refl, sym, ap, ◌∙◌, ℕ, Bool, true, false, cond, List, [], ◌∷◌, Option, Some, None, eqb, rules, tests, Bor, arith, eqb-true}
use borrow.Author.Tests.{eqb-false}
use Rattle.std.specs.Prelude.{MatchOption}
use Rattle.std.specs.Option.{option_map}
use Rattle.std.specs.List.{find}
use Rattle.std.proofs.lemmas.Iterator.{YieldsList-from_slice}
use Rattle.std.proofs.lemmas.Iterator.Search.{find_from_yields_List}
use Rattle.registers.specs.Registers.{writable, kept_in}
use Rattle.registers.specs.declared.Writable.{Writable}
use Rattle.registers.proofs.Entries.{found, passed, through}
use Rattle.registers.proofs.kept_bits.Goals as goal

-- the bits that an entry keeps, or 0 where there is none
kept_by : Option Writable → ℕ
kept_by None = 0
kept_by (Some w) = w.1

-- the first entry with the address gives its bits, entry by entry
first : (l : List Writable) (address : ℕ) → kept_in l address ≡ kept_by (find (λ w. eqb w.0 address) l)
unfolding kept_in kept_by
first [] address = sym (through [] address 0 (omega arith))
first (w ∷ rest) address = by (first rest address) (eqb w.0 address) refl
  where
    by : kept_in rest address ≡ kept_by (find (λ v. eqb v.0 address) rest) → (here : Bool) → eqb w.0 address ≡ here
        → kept_in (w ∷ rest) address ≡ kept_by (cond here (Some w) (find (λ v. eqb v.0 address) rest))
    by later true e = sym (found (w ∷ rest) address 0 (omega arith) (eqb-true _ _ e))
    by later false e = passed (w ∷ rest) address 0 (omega arith) (eqb-false _ _ e) ∙ later

asked : (o : Option (Bor Writable)) (kept : ℕ) (At : Bor Writable → Type 0) → MatchOption o (kept ≡ 0) At
    → ((w : Bor Writable) → At w → kept ≡ w.now.1) → kept ≡ kept_by (option_map (λ w. w.now) o)
unfolding kept_by
asked None kept At e by = e
asked (Some w) kept At e by = by w e

pub returns : goal.returns
unfolding writable
returns c =
    let address : ℕ = c.args.address in
    let one : option_map (λ (w : Bor Writable). w.now) c.find.result ≡ find (λ w. eqb w.0 address) writable
    = find_from_yields_List (λ (w : Writable). eqb w.0 address) _ _ c.find.result c.find.ensures.ran (YieldsList-from_slice writable cc) (λ x b q k. search (rules, tests)) in
    asked c.find.result c.map_or.result _ c.map_or.ensures (λ w k. search rules) ∙ ap kept_by one ∙ sym (first writable address)
