-- Pan Docs, "Selection priority": of the entries in range of a line the first ten, in OAM's order.
use Rattle.std.specs.Prelude.{ℕ, zero, suc, Bool, true, cond, ◌&&◌, ◌||◌, List, [], ◌∷◌, ◌++◌, map, eqb, ltb, length, take, drop, replicate, Result, Ok, Err}
use Rattle.refusals.specs.Ladder.{lowest, own, done}
use Rattle.refusals.specs.Refused.{refusal_number}
use Rattle.refusals.specs.declared.Refusal.{Refusal}
use Rattle.hardware.specs.Screen.{height}
use Rattle.hardware.specs.Tables.{oam_fits}
use Rattle.sprite.specs.declared.SelectedSprite.{SelectedSprite}
use Rattle.sprite.specs.declared.Selection.{Selection}
use Rattle.sprite.specs.Oam.{entry, in_range}

-- 0 to n - 1
unfoldable pub up_to : ℕ → List ℕ
up_to zero = []
up_to (suc n) = up_to n ++ n ∷ []

-- the elements of a list that pass a test, in order
unfoldable pub those : (ℕ → Bool) → List ℕ → List ℕ
those test [] = []
those test (x ∷ l) = cond (test x) (x ∷ those test l) (those test l)

-- entry i, so tall, is in range of a line
abbrev pub touches : List ℕ → ℕ → ℕ → ℕ → Bool
touches oam line tall i = in_range (entry oam i).y line tall

-- the ten lowest of the forty entries that are in range
unfoldable pub lowest_ten : List ℕ → ℕ → ℕ → List ℕ
lowest_ten oam line tall = take 10 (those (touches oam line tall) (up_to 40))

-- entry i, copied, with its index
abbrev pub copy_of : List ℕ → ℕ → SelectedSprite
copy_of oam i = record { sprite = entry oam i; index = i }

-- the slots that follow from a list of entries: those past its end keep what they had
abbrev pub slots_of : List ℕ → List ℕ → List SelectedSprite → List SelectedSprite
slots_of oam entries former = map (copy_of oam) entries ++ drop (length entries) former

-- what a search leaves: how many were picked, and the slots
abbrev pub selection : List ℕ → ℕ → ℕ → List SelectedSprite → Selection
selection oam line tall former =
    record { count = length (lowest_ten oam line tall); slots = slots_of oam (lowest_ten oam line tall) former }

-- ten slots of nothing
abbrev pub blank_slots : List SelectedSprite
blank_slots = replicate 10 (record { sprite = record { y = 0; x = 0; tile = 0; flags = 0 }; index = 0 })

-- sprites are eight or sixteen rows tall
abbrev pub is_tall : ℕ → Bool
is_tall tall = eqb tall 8 || eqb tall 16

-- a line is of the picture, and sprites can be so tall
abbrev pub pickable : ℕ → ℕ → Bool
pickable line tall = ltb line height && is_tall tall

-- its number: 1 for an OAM of another length, 4 for another line or height; it takes no state that could be out of order
unfoldable pub pick_number : List ℕ → ℕ → ℕ → ℕ
pick_number oam line tall = lowest (oam_fits oam) true (own (pickable line tall) 4)

-- a pick by its number, and what was picked
pub record Picked : Type 0 where
  pub number : ℕ
  pub selection : Selection

-- refused, nothing is picked
abbrev pub nothing_picked : Selection
nothing_picked = record { count = 0; slots = blank_slots }

abbrev pub refused_pick : ℕ → Picked
refused_pick n = record { number = n; selection = nothing_picked }

-- what a pick answers
abbrev pub picked : Result Selection Refusal → Picked
picked (Ok selection) = record { number = 0; selection = selection }
picked (Err why) = refused_pick (refusal_number why)

-- the answer: the number, and what a search of blank slots leaves
unfoldable pub pick_of : List ℕ → ℕ → ℕ → Picked
pick_of oam line tall =
    record {
      number = pick_number oam line tall;
      selection = cond (done (pick_number oam line tall)) (selection oam line tall blank_slots) nothing_picked;
    }
