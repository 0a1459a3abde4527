-- What a line of a capture says: nothing, a call, or what is wrong with it, the first from the left.
use Rattle.std.specs.Prelude.{Bool, true, false, cond, ◌&&◌, List, [], ◌∷◌, ℕ, ◌/◌, ◌%◌, eqb, leb, length}
use Rattle.std.specs.Prelude.{Option, Some, None, Result, Ok, Err}
use Rattle.captures.specs.declared.Wanted.{Wanted}
use Rattle.captures.specs.declared.Wanted.TheVariants as wanted
use Rattle.captures.specs.declared.Reason.{Reason}
use Rattle.captures.specs.declared.Reason.TheVariants.{Unknown, Missing, Extra}
use Rattle.captures.specs.declared.Reason.TheVariants.{BadDevice, BadColour, BadAddress, BadValue, BadBytes, BadCycles, BadTimes, BadKind, BadSwitch}
use Rattle.captures.specs.declared.Call.{Call}
use Rattle.captures.specs.declared.Call.TheVariants.{Start, Write, Vram, Oam, Step, Corrupt, Colour}
use Rattle.captures.specs.Words.{text, words, is_same}
use Rattle.captures.specs.Names.{start_word, write_word, vram_word, oam_word, step_word, corrupt_word, colour_word}
use Rattle.captures.specs.Names.{dmg_word, cgb_word, grey_word, on_word, off_word, read_word, read_write_word}
use Rattle.captures.specs.Numbers.{number_from}

-- AN ARGUMENT'S WORD, AND THE NUMBER THAT IT MEANS

-- one of two words: the first means 1, the other 0
unfoldable pub either : List ℕ → List ℕ → List ℕ → Option ℕ
either one other w = cond (is_same w one) (Some 1) (cond (is_same w other) (Some 0) None)

-- a kind of corruption: `write`, `read` or `read-write`
unfoldable pub kind_of : List ℕ → Option ℕ
kind_of w = cond (is_same w write_word) (Some 0) (cond (is_same w read_word) (Some 1) (cond (is_same w read_write_word) (Some 2) None))

-- so many hexadecimal digits
unfoldable pub hexadecimal : ℕ → List ℕ → Option ℕ
hexadecimal size w = cond (eqb (length w) size) (number_from 16 0 w) None

-- 1 to 8 bytes of two hexadecimal digits each: 2, 4, .. or 16 of them
unfoldable pub bytes_of : List ℕ → Option ℕ
bytes_of w = cond (eqb (length w % 2) 0 && leb 2 (length w) && leb (length w) 16) (number_from 16 0 w) None

-- a number, if it is from low to high
unfoldable pub within : ℕ → ℕ → Option ℕ → Option ℕ
within low high (Some n) = cond (leb low n && leb n high) (Some n) None
within low high None = None

-- one to ten decimal digits that say a number from low to high
unfoldable pub decimal : ℕ → ℕ → List ℕ → Option ℕ
decimal low high w = cond (leb 1 (length w) && leb (length w) 10) (within low high (number_from 10 0 w)) None

-- what a word means where an argument is wanted
unfoldable pub meaning : Wanted → List ℕ → Option ℕ
meaning wanted.Device w = either dmg_word cgb_word w
meaning wanted.Colour w = either colour_word grey_word w
meaning wanted.Address w = hexadecimal 4 w
meaning wanted.Value w = hexadecimal 2 w
meaning wanted.Bytes w = bytes_of w
meaning wanted.Cycles w = decimal 0 255 w
meaning wanted.Times w = decimal 1 4294967295 w
meaning wanted.Kind w = kind_of w
meaning wanted.Switch w = either on_word off_word w

-- what is wrong with a word that means nothing there
abbrev pub wrong : Wanted → Reason
wrong wanted.Device = BadDevice
wrong wanted.Colour = BadColour
wrong wanted.Address = BadAddress
wrong wanted.Value = BadValue
wrong wanted.Bytes = BadBytes
wrong wanted.Cycles = BadCycles
wrong wanted.Times = BadTimes
wrong wanted.Kind = BadKind
wrong wanted.Switch = BadSwitch

-- THE ARGUMENTS OF A CALL, ONE BEHIND THE OTHER

-- what a line says: nothing, a call, or what is wrong with it
abbrev pub Line : Type 0
Line = Result (Option Call) Reason

-- what a call makes of an argument: of its number, of how many bytes its word has, and of the words behind it
abbrev pub Then : Type 0
Then = ℕ → ℕ → List (List ℕ) → Line

-- TIMES may be left out, and no other argument
abbrev pub is_optional : Wanted → Bool
is_optional wanted.Device = false
is_optional wanted.Colour = false
is_optional wanted.Address = false
is_optional wanted.Value = false
is_optional wanted.Bytes = false
is_optional wanted.Cycles = false
is_optional wanted.Times = true
is_optional wanted.Kind = false
is_optional wanted.Switch = false

-- a word that means a number goes on, any other is wrong
unfoldable pub onward : Wanted → Option ℕ → ℕ → List (List ℕ) → Then → Line
onward k (Some n) size ws then = then n size ws
onward k None size ws then = Err (wrong k)

-- the next argument of a call: where the words end TIMES is 1, and any other is missing
unfoldable pub argument : Wanted → List (List ℕ) → Then → Line
argument k [] then = cond (is_optional k) (then 1 0 []) (Err Missing)
argument k (w ∷ ws) then = onward k (meaning k w) (length w) ws then

-- behind its last argument a call is whole: a word more is one too many
unfoldable pub whole : Call → List (List ℕ) → Line
whole call [] = Ok (Some call)
whole call (w ∷ ws) = Err Extra

-- THE CALLS

-- `start DEVICE COLOUR`: a fresh start
unfoldable pub read_start : List (List ℕ) → Line
read_start ws =
    argument wanted.Device ws λ device _ ws.
    argument wanted.Colour ws λ colour _ ws.
    whole (Start (eqb device 1) (eqb colour 1)) ws

-- `write ADDRESS VALUE`: a register write
unfoldable pub read_write : List (List ℕ) → Line
read_write ws =
    argument wanted.Address ws λ address _ ws.
    argument wanted.Value ws λ value _ ws.
    whole (Write address value) ws

-- `oam ADDRESS BYTES [TIMES]`, or `vram ..`: two digits make a byte
unfoldable pub read_bytes : Bool → List (List ℕ) → Line
read_bytes oam ws =
    argument wanted.Address ws λ address _ ws.
    argument wanted.Bytes ws λ bytes size ws.
    argument wanted.Times ws λ times _ ws.
    whole (cond oam Oam Vram (record { address = address; bytes = bytes; count = size / 2; times = times })) ws

-- `step CYCLES [TIMES]`
unfoldable pub read_step : List (List ℕ) → Line
read_step ws =
    argument wanted.Cycles ws λ cycles _ ws.
    argument wanted.Times ws λ times _ ws.
    whole (Step cycles times) ws

-- `corrupt KIND`: an OAM corruption
unfoldable pub read_corrupt : List (List ℕ) → Line
read_corrupt ws =
    argument wanted.Kind ws λ kind _ ws.
    whole (Corrupt kind) ws

-- `colour SWITCH`: the colour flag
unfoldable pub read_colour : List (List ℕ) → Line
read_colour ws =
    argument wanted.Switch ws λ switch _ ws.
    whole (Colour (eqb switch 1)) ws

-- the call of a name, with the words behind it
unfoldable pub read_call : List ℕ → List (List ℕ) → Line
read_call name ws =
    cond (is_same name start_word) (read_start ws)
    (cond (is_same name write_word) (read_write ws)
    (cond (is_same name vram_word) (read_bytes false ws)
    (cond (is_same name oam_word) (read_bytes true ws)
    (cond (is_same name step_word) (read_step ws)
    (cond (is_same name corrupt_word) (read_corrupt ws)
    (cond (is_same name colour_word) (read_colour ws)
    (Err Unknown)))))))

-- what words say: none say nothing, and the first of any names the call
unfoldable pub said : List (List ℕ) → Line
said [] = Ok None
said (name ∷ ws) = read_call name ws

-- what a line says
unfoldable pub reading : List ℕ → Line
reading l = said (words (text l))
