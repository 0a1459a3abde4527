-- `sprite::select` meets its contract. The invariant: below i fewer than ten are in range, and the slots hold them.
use mathlib.Core.Path.{◌≡◌, refl, ap, sym, ◌∙◌}
use mathlib.Core.Bool.{Bool, true, false}
use mathlib.Core.List.{List, [], ◌∷◌, ◌++◌, append_assoc, append-nil}
use Prim.Native.Nat.{ℕ, zero, suc, ◌+◌, ◌≤◌, ◌<◌, ◌-◌}
use native.Mathlib.Nat.{zero-add, suc-add, sub-add_cancel}
use native.Mathlib.Omega.{arith}
use lib.ListN.{length, set, length-append}
use lib.Seq.{take_at, take_all}
use Rattle.sprite.specs.Pick.{up_to, those, lowest_ten, touches, selection}
use Rattle.sprite.specs.Oam.{entry, in_range}
use Rattle.sprite.specs.declared.Sprite.{Sprite}
use Rattle.sprite.specs.declared.SelectedSprite.{SelectedSprite}
use Rattle.sprite.specs.declared.Selection.{Selection}
use Rattle.sprite.proofs.Those.{those_append, those_in, those_out}
use Rattle.sprite.proofs.Slots.{slots_more}
use Rattle.sprite.proofs.select.Invariants.{Holds}
use Rattle.sprite.proofs.select.Goals.{then-in_range+else-count-eq10, else-in_range, else-search-test, then-search-test+then-in_range+then-count-eq10}
use Rattle.sprite.proofs.select.Goals as goal

-- the first i of them stand in front
up_to_front : (i m : ℕ) → (rest : List ℕ) × (up_to (m + i) ≡ up_to i ++ rest)
unfolding up_to
up_to_front i zero = ([], rw (zero-add, append-nil))
up_to_front i (suc m) =
    let r = up_to_front i m in
    (r.0 ++ (m + i) ∷ [], rw (suc-add, r.1, append_assoc))

-- ten below i are the ten lowest of all
lowest_ten_ten : (oam : List ℕ) (line tall i : ℕ) → i ≤ 40 → length (those (touches oam line tall) (up_to i)) ≡ 10
    → lowest_ten oam line tall ≡ those (touches oam line tall) (up_to i)
unfolding lowest_ten
lowest_ten_ten oam line tall i h e =
    let t = touches oam line tall in
    let r = up_to_front i (40 - i) in
    rw (← sub-add_cancel h, r.1, those_append, take_at _ _ 10 e)

-- fewer than ten in all: they are the pick
lowest_ten_all : (oam : List ℕ) (line tall : ℕ) → length (those (touches oam line tall) (up_to 40)) ≤ 10
    → lowest_ten oam line tall ≡ those (touches oam line tall) (up_to 40)
unfolding lowest_ten
lowest_ten_all oam line tall h = take_all _ _ h

holds_none : {oam : List ℕ} {line tall : ℕ} {former : List SelectedSprite} → Holds oam line tall former 0 0 former
unfolding up_to those
holds_none = record { counted = refl; held = refl }

-- the code's test of entry i is the definition's
touched : (oam : List ℕ) (line tall i : ℕ) {s : Sprite} {b v : Bool} → s ≡ entry oam i → b ≡ in_range s.y line tall → b ≡ v
    → touches oam line tall i ≡ v
touched oam line tall i e r t = ap (λ (z : Sprite). in_range z.y line tall) (sym e) ∙ (sym r ∙ t)

module _ {oam : List ℕ} {line tall : ℕ} {former : List SelectedSprite} {i count : ℕ} {slots : List SelectedSprite} where
  holds_in : {s : Sprite} {b : Bool} → count < length former → s ≡ entry oam i → b ≡ in_range s.y line tall → b ≡ true
      → Holds oam line tall former i count slots
      → Holds oam line tall former (i + 1) (count + 1) (set slots count (record { sprite = s; index = i }))
  holds_in {s} {b} h e r t w =
      let in_range_law = those_in (touches oam line tall) i (touched oam line tall i e r t) in
      let more = slots_more oam (those (touches oam line tall) (up_to i)) i former (rw w.counted at h) in
      record { counted = rw (in_range_law, w.counted, length-append); held = rw (in_range_law, w.held, w.counted, e) more }

  holds_out : {s : Sprite} {b : Bool} → s ≡ entry oam i → b ≡ in_range s.y line tall → b ≡ false
      → Holds oam line tall former i count slots → Holds oam line tall former (i + 1) count slots
  holds_out e r t w =
      let out = those_out (touches oam line tall) i (touched oam line tall i e r t) in
      record { counted = rw out w.counted; held = rw out w.held }

  -- ten are found, or the forty are through
  holds_ten : i ≤ 40 → count ≡ 10 → Holds oam line tall former i count slots
      → ◌≡◌ {A = Selection} (record { count = count; slots = slots }) (selection oam line tall former)
  holds_ten h e w = rw (lowest_ten_ten oam line tall i h (sym w.counted ∙ e), w.held, w.counted)

  holds_all : i ≡ 40 → count ≤ 10 → Holds oam line tall former i count slots
      → ◌≡◌ {A = Selection} (record { count = count; slots = slots }) (selection oam line tall former)
  holds_all e h w = rw (lowest_ten_all oam line tall (rw (w.counted, e) at h), w.held, w.counted, e)

pub search-init : goal.search-init
search-init c = (omega arith, omega arith, holds_none)

pub search-preserved : goal.search-preserved
search-preserved c =
    let e = c.at-sprite.ensures in
    let r = c.in_range.ensures in
    elim c.if-in_range.branch [
      | then-in_range+else-count-eq10 w ↦
          (omega arith, omega (arith, w.count-is), rw (w.slots-is, w.count-is) (holds_in (omega (arith, c.well_formed)) e r w.if-in_range.true c.search.invariant.2))
      | else-in_range w ↦
          (omega arith, omega (arith, w.count-is), rw (w.slots-is, w.count-is) (holds_out e r w.if-in_range.false c.search.invariant.2))
    ]

pub returns : goal.returns
returns c =
    elim c.search-test.branch [
      | else-search-test w ↦
          rw (w.slots-is, w.count-is) (holds_all (omega (arith, w.search-test)) (omega arith) c.search.invariant.2)
      | then-search-test+then-in_range+then-count-eq10 w ↦
          rw (w.slots-is, w.count-is)
          (holds_ten (omega (arith, w.search-test)) w.if-count-eq10.true (holds_in (omega (arith, c.well_formed)) w.at-sprite.ensures w.in_range.ensures w.if-in_range.true c.search.invariant.2))
    ]
