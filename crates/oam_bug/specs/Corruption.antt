-- Pan Docs, "OAM Corruption Bug", "Corruption Patterns": what an access in mode 2 does to the row that is being searched.
use Rattle.std.specs.Prelude.{ℕ, ◌-◌, ◌/◌, cond, ◌||◌, List, eqb, ltb}
use Rattle.std.specs.Int.Bits.{bit_and, bit_or, bit_xor}
use Rattle.oam_bug.specs.Words.{word_place, with_word, word_of, row_from, row_copied}

-- the row searched at a cycle of the line in mode 2; in other modes row 0, which is never corrupted
abbrev pub corrupted_row : ℕ → ℕ → ℕ
corrupted_row mode cycle = cond (eqb mode 2) ((cycle - 4) / 4) 0

-- "Write Corruption": a is the word itself, b and c are the first and third of the row before
abbrev pub write_word : ℕ → ℕ → ℕ → ℕ
write_word a b c = bit_xor (bit_and (bit_xor a c) (bit_xor b c)) c

-- "Read Corruption": of the same three words
abbrev pub read_word : ℕ → ℕ → ℕ → ℕ
read_word a b c = bit_or b (bit_and a c)

-- "Read During Increase/Decrease": a, b, c are the first words of the second row before, the row before and the row,
-- d is the third of the row before
abbrev pub read_write_word : ℕ → ℕ → ℕ → ℕ → ℕ
read_write_word a b c d = bit_or (bit_and b (bit_or (bit_or a c) d)) (bit_and (bit_and a c) d)

-- a write at row r
unfoldable pub write_corrupted : List ℕ → ℕ → List ℕ
write_corrupted oam r =
    cond (eqb r 0) oam (row_from oam r (write_word (word_of oam r 0) (word_of oam (r - 1) 0) (word_of oam (r - 1) 2)))

-- a read at row r
unfoldable pub read_corrupted : List ℕ → ℕ → List ℕ
read_corrupted oam r =
    cond (eqb r 0) oam (row_from oam r (read_word (word_of oam r 0) (word_of oam (r - 1) 0) (word_of oam (r - 1) 2)))

-- the first word of the row before, when a read and a write at row r fall together
unfoldable pub before_corrupted : List ℕ → ℕ → List ℕ
before_corrupted oam r =
    with_word oam (word_place (r - 1) 0)
    (read_write_word (word_of oam (r - 2) 0) (word_of oam (r - 1) 0) (word_of oam r 0) (word_of oam (r - 1) 2))

-- the row before copied over row r and over the second row before
unfoldable pub spread : List ℕ → ℕ → List ℕ
spread oam r = row_copied (row_copied oam (r - 1) r) (r - 1) (r - 2)

-- these two, at rows 4 to 18
unfoldable pub around_corrupted : List ℕ → ℕ → List ℕ
around_corrupted oam r = cond (ltb r 4 || ltb 18 r) oam (spread (before_corrupted oam r) r)

-- a read and a write together at row r: then a read
abbrev pub read_write_corrupted : List ℕ → ℕ → List ℕ
read_write_corrupted oam r = read_corrupted (around_corrupted oam r) r
