-- The file of a picture: the picture, and beside it what is known of it.
use Rattle.std.specs.Prelude.{ℕ, ◌<◌, ◌≡◌, Bool, cond, ◌&&◌, List, [], ◌∷◌, eqb, leb, length}
use Rattle.hardware.specs.Screen.{picture_bytes}
use Rattle.texts.specs.Numbers.{decimal}
use Rattle.png.specs.File.{Text, file}
use Rattle.beam.specs.declared.Mark.{Mark}
use Rattle.filing.specs.declared.Unfiled.{Unfiled}
use Rattle.filing.specs.declared.Unfiled.TheVariants.{Picture, Capture}
use Rattle.filing.specs.Names.{mark_word, most_name}

-- `Number`, `Mark`, `Stored`, `Capture`
abbrev pub number_key : List ℕ
number_key = 78 ∷ 117 ∷ 109 ∷ 98 ∷ 101 ∷ 114 ∷ []

abbrev pub mark_key : List ℕ
mark_key = 77 ∷ 97 ∷ 114 ∷ 107 ∷ []

abbrev pub stored_key : List ℕ
stored_key = 83 ∷ 116 ∷ 111 ∷ 114 ∷ 101 ∷ 100 ∷ []

abbrev pub capture_key : List ℕ
capture_key = 67 ∷ 97 ∷ 112 ∷ 116 ∷ 117 ∷ 114 ∷ 101 ∷ []

-- what the file says of its picture: its number, its mark, how many places were stored, and the capture that it was drawn from
unfoldable pub texts_of : ℕ → Mark → ℕ → List ℕ → List Text
texts_of number mark stored capture =
    record { key = number_key; value = decimal number }
    ∷ record { key = mark_key; value = mark_word mark }
    ∷ record { key = stored_key; value = decimal stored }
    ∷ record { key = capture_key; value = capture }
    ∷ []

-- a picture of another length than the screen's is none, and a name has at most 255 bytes
abbrev pub is_filed : List ℕ → List ℕ → Bool
is_filed picture capture = eqb (length picture) picture_bytes && leb (length capture) most_name

-- the file; no byte where there is no picture
unfoldable pub file_of : List ℕ → ℕ → Mark → ℕ → List ℕ → List ℕ
file_of picture number mark stored capture =
    cond (is_filed picture capture) (file picture (texts_of number mark stored capture)) []

-- why there is none
abbrev pub Unfit : List ℕ → List ℕ → Unfiled → Type 0
Unfit picture capture Picture = length picture ≡ picture_bytes → ⊥
Unfit picture capture Capture = (length picture ≡ picture_bytes) × (most_name < length capture)
