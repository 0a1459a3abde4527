-- `line_sets::fill` meets its contract.
use Rattle.std.proofs.Common.{◌≡◌, ℕ, ◌+◌, ◌-◌, ◌<◌, ◌≤◌, List, [], ◌∷◌, ◌++◌, length, take, drop, set, sym, ap, ◌∙◌, arith, length-append, length-drop, take_all, drop-drop, take-add}
use Rattle.std.proofs.lemmas.List.{set-get_or}
use Rattle.sprite.specs.Oam.{entry}
use Rattle.sprite.specs.Pick.{copy_of, slots_of}
use Rattle.sprite.specs.declared.Sprite.{Sprite}
use Rattle.sprite.specs.declared.SelectedSprite.{SelectedSprite}
use Rattle.sprite.proofs.Slots.{slots_more}
use Rattle.line_sets.specs.Sets.{members}
use Rattle.line_sets.proofs.fill.Invariants.{Holds}
use Rattle.line_sets.proofs.fill.Goals as goal

-- the first of what is left joins what was taken
module _ (l : List ℕ) (n x : ℕ) (r : List ℕ) (e : drop n l ≡ x ∷ r) where
  take_next : take (n + 1) l ≡ take n l ++ x ∷ []
  take_next = take-add n 1 l ∙ rw e

  drop_next : drop (n + 1) l ≡ r
  drop_next = sym (drop-drop 1 n l) ∙ rw e

-- a slot written is the next of the slots that hold a list
next_slot : (oam : List ℕ) (i : ℕ) {slots held new : List SelectedSprite} {count n : ℕ} {sprite : Sprite}
    → slots ≡ held → n ≡ count → sprite ≡ entry oam i → set held n (copy_of oam i) ≡ new
    → set slots count (record { sprite = sprite; index = i }) ≡ new
next_slot oam i h l e more = rw (h, ← l, e) more

module _ {oam : List ℕ} {s : ℕ} {former : List SelectedSprite} {count rest : ℕ} {slots : List SelectedSprite} (w : Holds oam s former count rest slots) where
  holds_more : {sprite : Sprite} {i others : ℕ} → count < length former → sprite ≡ entry oam i → members rest ≡ i ∷ members others
      → Holds oam s former (count + 1) others (set slots count (record { sprite = sprite; index = i }))
  holds_more {sprite} {i} {others} h e more =
      let next = w.left ∙ more in
      let taken = take_next (members s) count i (members others) next in
      record {
        left = drop_next (members s) count i (members others) next;
        counted = rw (taken, length-append, w.counted);
        held = next_slot oam i w.held w.counted e (slots_more oam (take count (members s)) i former (rw w.counted h)) ∙ ap (λ (l : List ℕ). slots_of oam l former) (sym taken);
      }

  -- none is left
  holds_all : count ≤ length former → members rest ≡ [] → slots ≡ slots_of oam (take (length former) (members s)) former
  holds_all h z =
      let gone : length (members s) - count ≡ 0 = sym (length-drop count (members s)) ∙ ap length (w.left ∙ z) in
      let same = take_all count (members s) (omega (arith, gone)) ∙ sym (take_all (length former) (members s) (omega (arith, gone, h))) in
      w.held ∙ ap (λ (l : List ℕ). slots_of oam l former) same

pub loop-slot-preserved : goal.loop-slot-preserved
loop-slot-preserved c =
    holds_more c.loop-slot.invariant (omega arith) (rw c.from.ensures at c.at-sprite.ensures) (c.in-Some.ensures).1

pub returns-in_default : goal.returns-in_default
returns-in_default c = set-get_or _ _ _ ∙ holds_all c.loop-slot.invariant (omega arith) c.in_default.ensures
