-- What the sets are good for, once over the height: each statement is of any OAM, any sets and any `tall`, and is proved in
-- proofs/Laws and proofs/Few. "True" sets are OAM's (`AreOf`).
use Rattle.std.specs.Prelude.{◌≡◌, ℕ, ◌%◌, ◌<◌, ◌≤◌, true, false, not, List, length, ◌==◌, ◌≢◌, slice_index}
use Rattle.hardware.specs.Screen.{height}
use Rattle.hardware.specs.Tables.{oam_bytes}
use Rattle.sprite.specs.Oam.{in_range}
use Rattle.sprite.specs.Pick.{up_to, those, touches, is_tall, pick_of}
use Rattle.memory.specs.Writes.{oam_written}
use Rattle.oam_bug.specs.Kinds.{corrupted}
use Rattle.line_sets.specs.Sets.{entries, first_of}
use Rattle.line_sets.specs.Lines.{AreOf, built, lines_of}
use Rattle.line_sets.specs.Numbers.{old_y, new_y, write_number}
use Rattle.line_sets.specs.Calls.{Build, oam_after, Write, count_of, first_on, pick_from}

-- the sets built afresh are OAM's, and no others are
abbrev pub BuiltAreTrue : Type 0
BuiltAreTrue = (oam : List ℕ) (tall : ℕ) → AreOf oam tall (built oam tall)

abbrev pub TrueAreBuilt : Type 0
TrueAreBuilt = (oam : List ℕ) (tall : ℕ) (sets : List ℕ) → AreOf oam tall sets → sets ≡ built oam tall

-- a build that is not refused leaves true sets, whatever stood there; a refused one leaves what stood there
abbrev pub Builds : Type 0
Builds =
    (oam sets : List ℕ) (tall r : ℕ) (sets' : List ℕ) → Build oam sets tall r sets'
    → (r ≡ 0 → AreOf oam tall sets') × ((r ≢ 0) → sets' ≡ sets)

-- after a write through the sets, refused or not, true sets are true, and those that a build would make
abbrev pub KeepsTrue : Type 0
KeepsTrue =
    (oam sets : List ℕ) (tall address value r : ℕ) (oam' sets' : List ℕ)
    → Write oam sets tall address value r oam' sets' → AreOf oam tall sets → AreOf oam' tall sets' × (sets' ≡ built oam' tall)

-- true sets are no reason to refuse a write: only the height or the address is
abbrev pub TrueAreTaken : Type 0
TrueAreTaken =
    (oam sets : List ℕ) (tall address value : ℕ) → AreOf oam tall sets → length oam ≡ oam_bytes → is_tall tall ≡ true
    → address % 256 < oam_bytes → write_number oam sets tall address value ≡ 0

-- so through true sets OAM is written as it is without them
abbrev pub WritesAsBefore : Type 0
WritesAsBefore =
    (oam sets : List ℕ) (tall address value r : ℕ) (oam' sets' : List ℕ)
    → Write oam sets tall address value r oam' sets' → AreOf oam tall sets → length oam ≡ oam_bytes → is_tall tall ≡ true
    → oam' ≡ oam_after oam address value

-- of a write to any sets, true or not: a line that neither the old nor the new entry touches keeps its set
abbrev pub OthersStay : Type 0
OthersStay =
    (oam sets : List ℕ) (tall address value r : ℕ) (oam' sets' : List ℕ)
    → Write oam sets tall address value r oam' sets'
    → (line : ℕ) → line < height → in_range (old_y oam address) line tall ≡ false → in_range (new_y oam address value) line tall ≡ false
    → slice_index sets' line ≡ slice_index sets line

-- a sprite touches at most as many lines as it is tall, so at most 32 of the 144 sets change
abbrev pub FewLines : Type 0
FewLines = (y tall : ℕ) → tall < 256 → length (lines_of y tall) ≤ tall

abbrev pub FewChange : Type 0
FewChange =
    (oam sets : List ℕ) (tall address value r : ℕ) (oam' sets' : List ℕ)
    → Write oam sets tall address value r oam' sets'
    → length (those (λ line. not ((slice_index sets' line) == (slice_index sets line))) (up_to height)) ≤ 32

-- where y stays as it was all sets do, as with a write to another byte than the first of an entry
abbrev pub NoYNoChange : Type 0
NoYNoChange =
    (oam sets : List ℕ) (tall address value r : ℕ) (oam' sets' : List ℕ)
    → Write oam sets tall address value r oam' sets' → old_y oam address ≡ new_y oam address value → sets' ≡ sets

abbrev pub OtherBytes : Type 0
OtherBytes = (oam : List ℕ) (address value : ℕ) → (address % 4 ≢ 0) → old_y oam address ≡ new_y oam address value

-- read off true sets: how many entries touch a line, the first of them, and the selection of ten, as a scan of OAM has them
abbrev pub CountsTouching : Type 0
CountsTouching =
    (oam : List ℕ) (tall : ℕ) (sets : List ℕ) → AreOf oam tall sets → (line : ℕ) → line < height
    → count_of sets line ≡ record { number = 0; count = length (those (touches oam line tall) (up_to entries)) }

abbrev pub FindsFirst : Type 0
FindsFirst =
    (oam : List ℕ) (tall : ℕ) (sets : List ℕ) → AreOf oam tall sets → (line : ℕ) → line < height
    → first_on sets line ≡ record { number = 0; first = first_of (those (touches oam line tall) (up_to entries)) }

abbrev pub PicksAsBefore : Type 0
PicksAsBefore =
    (oam : List ℕ) (tall : ℕ) (sets : List ℕ) → AreOf oam tall sets → is_tall tall ≡ true → (line : ℕ)
    → pick_from oam sets line ≡ pick_of oam line tall

-- what a write without the sets, or a corruption, leaves of OAM: a build is taken, and its sets are true again
abbrev pub TrueAfterWrite : Type 0
TrueAfterWrite =
    (oam sets : List ℕ) (tall address value r : ℕ) (sets' : List ℕ)
    → length oam ≡ oam_bytes → length sets ≡ height → is_tall tall ≡ true
    → Build (oam_written oam address value) sets tall r sets' → (r ≡ 0) × AreOf (oam_written oam address value) tall sets'

abbrev pub TrueAfterBug : Type 0
TrueAfterBug =
    (oam sets : List ℕ) (tall kind row r : ℕ) (sets' : List ℕ)
    → length oam ≡ oam_bytes → length sets ≡ height → is_tall tall ≡ true
    → Build (corrupted kind oam row) sets tall r sets' → (r ≡ 0) × AreOf (corrupted kind oam row) tall sets'
