-- Names: of a picture's mark, of its file, and of the capture that it was drawn from.
use Rattle.std.specs.Prelude.{ℕ, cond, ◌&&◌, List, [], ◌∷◌, ◌++◌, map, leb, eqb, take}
use Rattle.beam.specs.declared.Mark.{Mark}
use Rattle.beam.specs.declared.Mark.TheVariants.{No, Whole, Unseen}
use Rattle.texts.specs.Numbers.{digits}

-- `torn`, `whole`, `unseen`
unfoldable pub mark_word : Mark → List ℕ
mark_word No = 116 ∷ 111 ∷ 114 ∷ 110 ∷ []
mark_word Whole = 119 ∷ 104 ∷ 111 ∷ 108 ∷ 101 ∷ []
mark_word Unseen = 117 ∷ 110 ∷ 115 ∷ 101 ∷ 101 ∷ 110 ∷ []

-- `picture-`, `.png`
abbrev pub front : List ℕ
front = 112 ∷ 105 ∷ 99 ∷ 116 ∷ 117 ∷ 114 ∷ 101 ∷ 45 ∷ []

abbrev pub ending : List ℕ
ending = 46 ∷ 112 ∷ 110 ∷ 103 ∷ []

-- what stands between the number and the end: nothing for a whole picture, the mark's word behind a `-` for any other
unfoldable pub mark_end : Mark → List ℕ
mark_end No = 45 ∷ 116 ∷ 111 ∷ 114 ∷ 110 ∷ []
mark_end Whole = []
mark_end Unseen = 45 ∷ 117 ∷ 110 ∷ 115 ∷ 101 ∷ 101 ∷ 110 ∷ []

-- a picture's name: its number in six digits, and its mark unless it is whole
unfoldable pub name_of : ℕ → Mark → List ℕ
name_of number mark = front ++ digits 10 6 number ++ mark_end mark ++ ending

-- a byte of a capture's name as it is shown: what is no letter, digit or sign of ASCII is a `?`
unfoldable pub shown : ℕ → ℕ
shown b = cond (leb 32 b && leb b 126) b 63

-- what stands behind the last `/`: `name` is what stands behind the last one so far
unfoldable pub behind_slash : List ℕ → List ℕ → List ℕ
behind_slash name [] = name
behind_slash name (b ∷ path) = behind_slash (cond (eqb b 47) path name) path

-- the name that a picture has of its capture: the capture's own, without its folders, at most 255 bytes of it
abbrev pub most_name : ℕ
most_name = 255

unfoldable pub shown_name : List ℕ → List ℕ
shown_name path = map shown (take most_name (behind_slash path path))
