-- A call's canonical text: its name and its arguments, each behind one space. Every call has one, also a call that no line says: of a
-- number that does not fit its digits the last ones are printed, a count over 8 counts as 8, and a kind over 2 as 2.
use Rattle.std.specs.Prelude.{cond, List, [], ◌∷◌, ◌++◌, ℕ, ◌*◌, min, eqb}
use Rattle.texts.specs.Numbers.{digits, decimal}
use Rattle.captures.specs.declared.Bytes.{Bytes}
use Rattle.captures.specs.declared.Call.{Call}
use Rattle.captures.specs.declared.Call.TheVariants.{Start, Write, Vram, Oam, Step, Corrupt, Colour}
use Rattle.captures.specs.Names.{start_word, write_word, vram_word, oam_word, step_word, corrupt_word, colour_word}
use Rattle.captures.specs.Names.{dmg_word, cgb_word, grey_word, on_word, off_word, read_word, read_write_word}

-- words, each behind a space
unfoldable pub spaced : List (List ℕ) → List ℕ
spaced [] = []
spaced (w ∷ ws) = 32 ∷ w ++ spaced ws

-- the word of a kind of corruption: 0 is `write`, 1 `read`, and any other `read-write`
unfoldable pub kind_word : ℕ → List ℕ
kind_word kind = cond (eqb kind 0) write_word (cond (eqb kind 1) read_word read_write_word)

-- the arguments of bytes: the address, two digits for each byte (a count over 8 counts as 8), and how many times
unfoldable pub bytes_words : Bytes → List (List ℕ)
bytes_words b = digits 16 4 b.address ∷ digits 16 (2 * min b.count 8) b.bytes ∷ decimal b.times ∷ []

-- a call's name
unfoldable pub name_of : Call → List ℕ
name_of (Start dmg cgb) = start_word
name_of (Write address value) = write_word
name_of (Vram b) = vram_word
name_of (Oam b) = oam_word
name_of (Step cycles times) = step_word
name_of (Corrupt kind) = corrupt_word
name_of (Colour on) = colour_word

-- a call's arguments
unfoldable pub arguments_of : Call → List (List ℕ)
arguments_of (Start dmg cgb) = cond dmg dmg_word cgb_word ∷ cond cgb colour_word grey_word ∷ []
arguments_of (Write address value) = digits 16 4 address ∷ digits 16 2 value ∷ []
arguments_of (Vram b) = bytes_words b
arguments_of (Oam b) = bytes_words b
arguments_of (Step cycles times) = decimal cycles ∷ decimal times ∷ []
arguments_of (Corrupt kind) = kind_word kind ∷ []
arguments_of (Colour on) = cond on on_word off_word ∷ []

-- a call's text
unfoldable pub printed : Call → List ℕ
printed call = name_of call ++ spaced (arguments_of call)
