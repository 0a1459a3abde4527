-- The slots of a selection: the next free one takes the next entry.
use mathlib.Core.Path.{◌≡◌, refl, ap}
use mathlib.Core.List.{List, [], ◌∷◌, ◌++◌, map, append_assoc}
use Prim.Native.Nat.{ℕ, ◌<◌}
use native.Mathlib.Numerals.{add-one}
use lib.ListN.{length, set, length-map, length-append}
use lib.Seq.{drop-cons, set_at}
use Rattle.sprite.specs.Pick.{copy_of, slots_of}
use Rattle.sprite.specs.declared.SelectedSprite.{SelectedSprite}

map_append : {A B : Type 0} (f : A → B) (a b : List A) → map f (a ++ b) ≡ map f a ++ map f b
map_append f [] b = refl
map_append f (x ∷ a) b = ap (λ (l : List _). f x ∷ l) (map_append f a b)

pub slots_more : (oam entries : List ℕ) (i : ℕ) (former : List SelectedSprite) → length entries < length former
    → set (slots_of oam entries former) (length entries) (copy_of oam i) ≡ slots_of oam (entries ++ i ∷ []) former
slots_more oam entries i former h =
    rw
    (drop-cons former (length entries) (copy_of oam i), set_at _ _ _ _ _ (length-map entries (copy_of oam)), map_append, length-append, append_assoc, add-one (length entries))
