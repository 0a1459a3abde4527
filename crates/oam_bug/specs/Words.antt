-- Pan Docs, "OAM Corruption Bug": OAM as 20 rows of four words, the low byte of a word first.
use Rattle.std.specs.Prelude.{ℕ, ◌+◌, ◌-◌, ◌*◌, ◌/◌, ◌%◌, List, [], ◌∷◌, get_or, set}

-- how many rows OAM has
abbrev pub oam_rows : ℕ
oam_rows = 20

-- the word at byte i
abbrev pub word : List ℕ → ℕ → ℕ
word oam i = get_or oam i 0 + get_or oam (i + 1) 0 * 256

-- a word stored at byte i
abbrev pub with_word : List ℕ → ℕ → ℕ → List ℕ
with_word oam i w = set (set oam i (w % 256)) (i + 1) (w / 256)

-- the first byte of word k of row r, both counted from 0
abbrev pub word_place : ℕ → ℕ → ℕ
word_place r k = 8 * r + 2 * k

-- word k of row r
abbrev pub word_of : List ℕ → ℕ → ℕ → ℕ
word_of oam r k = word oam (word_place r k)

-- the four words of row r
abbrev pub words_of : List ℕ → ℕ → List ℕ
words_of oam r = word_of oam r 0 ∷ word_of oam r 1 ∷ word_of oam r 2 ∷ word_of oam r 3 ∷ []

-- four words stored as row r
unfoldable pub with_row : List ℕ → ℕ → ℕ → ℕ → ℕ → ℕ → List ℕ
with_row oam r v w x y =
    with_word (with_word (with_word (with_word oam (word_place r 0) v) (word_place r 1) w) (word_place r 2) x) (word_place r 3) y

-- row r: its first word given, the other three copied from the row before
unfoldable pub row_from : List ℕ → ℕ → ℕ → List ℕ
row_from oam r first = with_row oam r first (word_of oam (r - 1) 1) (word_of oam (r - 1) 2) (word_of oam (r - 1) 3)

-- row p copied over row r
unfoldable pub row_copied : List ℕ → ℕ → ℕ → List ℕ
row_copied oam p r = with_row oam r (word_of oam p 0) (word_of oam p 1) (word_of oam p 2) (word_of oam p 3)
