-- The words that have a meaning, as the codes of their letters: the names of the calls, and the arguments that are no numbers.
use Rattle.std.specs.Prelude.{List, [], ◌∷◌, ℕ}

-- the calls
abbrev pub start_word : List ℕ
start_word = 115 ∷ 116 ∷ 97 ∷ 114 ∷ 116 ∷ []

abbrev pub write_word : List ℕ
write_word = 119 ∷ 114 ∷ 105 ∷ 116 ∷ 101 ∷ []

abbrev pub vram_word : List ℕ
vram_word = 118 ∷ 114 ∷ 97 ∷ 109 ∷ []

abbrev pub oam_word : List ℕ
oam_word = 111 ∷ 97 ∷ 109 ∷ []

abbrev pub step_word : List ℕ
step_word = 115 ∷ 116 ∷ 101 ∷ 112 ∷ []

abbrev pub corrupt_word : List ℕ
corrupt_word = 99 ∷ 111 ∷ 114 ∷ 114 ∷ 117 ∷ 112 ∷ 116 ∷ []

abbrev pub colour_word : List ℕ
colour_word = 99 ∷ 111 ∷ 108 ∷ 111 ∷ 117 ∷ 114 ∷ []

-- a device
abbrev pub dmg_word : List ℕ
dmg_word = 100 ∷ 109 ∷ 103 ∷ []

abbrev pub cgb_word : List ℕ
cgb_word = 99 ∷ 103 ∷ 98 ∷ []

-- colours: `colour`, which is also a call, or this
abbrev pub grey_word : List ℕ
grey_word = 103 ∷ 114 ∷ 101 ∷ 121 ∷ []

-- a switch
abbrev pub on_word : List ℕ
on_word = 111 ∷ 110 ∷ []

abbrev pub off_word : List ℕ
off_word = 111 ∷ 102 ∷ 102 ∷ []

-- a kind: `write`, which is also a call, or one of these
abbrev pub read_word : List ℕ
read_word = 114 ∷ 101 ∷ 97 ∷ 100 ∷ []

abbrev pub read_write_word : List ℕ
read_write_word = 114 ∷ 101 ∷ 97 ∷ 100 ∷ 45 ∷ 119 ∷ 114 ∷ 105 ∷ 116 ∷ 101 ∷ []
