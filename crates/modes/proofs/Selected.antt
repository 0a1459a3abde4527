-- At most ten are selected, each of the forty entries of OAM.
use mathlib.Core.Path.{◌≡◌, refl, ◌∙◌}
use mathlib.Core.Bool.{Bool, true}
use mathlib.Core.List.{List, [], ◌∷◌, map}
use Prim.Native.Nat.{ℕ, zero, suc, ◌≤◌}
use native.Mathlib.Omega.{arith}
use borrow.Author.Tests.{le-leb}
use lib.Dec.{leb}
use lib.ListN.{length, take, length-append, length-drop, length-map, length-take}
use lib.Seq.{take_at}
use Rattle.logic.specs.Every.{every}
use Rattle.logic.proofs.Tests.{by_test}
use Rattle.logic.proofs.Both.{both, first, second}
use Rattle.logic.proofs.Every.{every_append, every_map, every_take}
use Rattle.sprite.specs.declared.SelectedSprite.{SelectedSprite}
use Rattle.sprite.specs.declared.Selection.{Selection}
use Rattle.sprite.specs.Pick.{up_to, those, touches, lowest_ten, copy_of, slots_of, selection}
use Rattle.order.specs.Order.{slot_order}
use Rattle.order.specs.Fine.{SelectionFine}

-- what holds of every element holds of those that pass a test
module _ (test : ℕ → Bool) where
  every_those : (t : ℕ → Bool) (l : List ℕ) → every test l ≡ true → every test (those t l) ≡ true
  unfolding every those
  every_those t [] e = refl
  every_those t (x ∷ l) e =
      let rest = every_those t l (second (test x) _ e) in
      by_test (λ (k : List ℕ). every test k ≡ true) (t x) (λ v. both {a = test x} (first (test x) (every test l) e) rest) (λ v. rest)

every_up_to : (n : ℕ) → n ≤ 40 → every (λ i. leb i 39) (up_to n) ≡ true
unfolding every up_to
every_up_to zero h = refl
every_up_to (suc n) h =
    rw (every_append) (both (every_up_to n (omega arith)) (both (le-leb n 39 (omega arith)) refl))

module _ (oam : List ℕ) (line tall : ℕ) where
  at_most_ten : length (lowest_ten oam line tall) ≤ 10
  unfolding lowest_ten
  at_most_ten = omega (arith, length-take 10 (those (touches oam line tall) (up_to 40)))

  of_the_forty : every (λ i. leb i 39) (lowest_ten oam line tall) ≡ true
  unfolding lowest_ten
  of_the_forty = every_take _ 10 _ (every_those _ (touches oam line tall) (up_to 40) (every_up_to 40 (omega arith)))

module _ (oam entries : List ℕ) (former : List SelectedSprite) where
  slots_length : length entries ≤ length former → length (slots_of oam entries former) ≡ length former
  slots_length h = rw (length-append, length-map, length-drop) (omega arith)

  slots_order : every (λ i. leb i 39) entries ≡ true → every slot_order (take (length entries) (slots_of oam entries former)) ≡ true
  slots_order e = rw (take_at (map (copy_of oam) entries) _ _ (length-map entries (copy_of oam)), every_map) e

-- a search over ten slots leaves a selection in order
pub selection_fine : (oam : List ℕ) (line tall : ℕ) {l : Selection} → SelectionFine l → SelectionFine (selection oam line tall l.slots)
selection_fine oam line tall {l} h =
    let few = at_most_ten oam line tall in
    let picked = lowest_ten oam line tall in
    record {
      slots = slots_length oam picked l.slots (omega (arith, few, h.slots)) ∙ h.slots;
      count = few;
      indexes = slots_order oam picked l.slots (of_the_forty oam line tall);
    }
