-- What is true of the reading and of the printing; proved in proofs/Laws.
use Rattle.std.specs.Prelude.{◌≡◌, Bool, true, ◌&&◌, List, ◌∷◌, ◌++◌, ℕ, ◌^◌, ◌≤◌, ltb, leb, length, take, drop, Some, Ok}
use Rattle.logic.specs.Every.{every}
use Rattle.captures.specs.declared.Bytes.{Bytes}
use Rattle.captures.specs.declared.Call.{Call}
use Rattle.captures.specs.declared.Call.TheVariants.{Start, Write, Vram, Oam, Step, Corrupt, Colour}
use Rattle.captures.specs.Words.{is_blank}
use Rattle.captures.specs.Reading.{reading}
use Rattle.captures.specs.Printing.{printed}

-- TIMES: from 1 to 4,294,967,295
abbrev pub is_times : ℕ → Bool
is_times n = leb 1 n && leb n 4294967295

-- 1 to 8 bytes, and a number that they hold
unfoldable pub are_bytes : Bytes → Bool
are_bytes b = ltb b.address 65536 && (leb 1 b.count && leb b.count 8) && ltb b.bytes (256 ^ b.count) && is_times b.times

-- a call that a line can say
unfoldable pub is_writable : Call → Bool
is_writable (Start dmg cgb) = true
is_writable (Write address value) = ltb address 65536 && ltb value 256
is_writable (Vram b) = are_bytes b
is_writable (Oam b) = are_bytes b
is_writable (Step cycles times) = ltb cycles 256 && is_times times
is_writable (Corrupt kind) = leb kind 2
is_writable (Colour on) = true

-- a call's text says the call
abbrev pub PrintedIsRead : Type 0
PrintedIsRead = (call : Call) → is_writable call ≡ true → reading (printed call) ≡ Ok (Some call)

-- a comment says nothing, whatever its bytes
abbrev pub CommentsSayNothing : Type 0
CommentsSayNothing = (l comment : List ℕ) → reading (l ++ 35 ∷ comment) ≡ reading l

-- and so do blanks at the end
abbrev pub BlanksSayNothing : Type 0
BlanksSayNothing = (l blanks : List ℕ) → every is_blank blanks ≡ true → reading (l ++ blanks) ≡ reading l

-- a call's text is never longer than this, so it fits a buffer of 40 bytes
abbrev pub PrintedFits : Type 0
PrintedFits = (call : Call) → length (printed call) ≤ 37

-- in such a buffer the text stands at the start, and the rest is as it was: what `put_call` promises is the whole buffer
abbrev pub BufferIs : Type 0
BufferIs = (call : Call) (before after : List ℕ) (r : ℕ) → take r after ≡ printed call → drop r after ≡ drop r before → after ≡ printed call ++ drop r before
