-- The number of each call: 1 for a slice of another length, 4 for another height, line or address, or for a number that is no
-- set among those that the call reads or changes. No call takes a state that could be out of order.
use Rattle.std.specs.Prelude.{ℕ, ◌/◌, ◌%◌, Bool, true, ◌&&◌, List, length, ◌==◌, nat_lt, slice_index}
use Rattle.logic.specs.Every.{every}
use Rattle.refusals.specs.Ladder.{lowest, own}
use Rattle.hardware.specs.Screen.{height}
use Rattle.hardware.specs.Tables.{oam_bytes, oam_fits}
use Rattle.sprite.specs.Oam.{entry}
use Rattle.sprite.specs.Pick.{is_tall}
use Rattle.memory.specs.Writes.{oam_written}
use Rattle.line_sets.specs.Sets.{is_set}
use Rattle.line_sets.specs.Lines.{lines_of}

abbrev pub sets_fit : List ℕ → Bool
sets_fit sets = length sets == height

abbrev pub both_fit : List ℕ → List ℕ → Bool
both_fit oam sets = oam_fits oam && sets_fit sets

unfoldable pub build_number : List ℕ → List ℕ → ℕ → ℕ
build_number oam sets tall = lowest (both_fit oam sets) true (own (is_tall tall) 4)

-- a line is of the picture, and its number is a set
abbrev pub is_asked : List ℕ → ℕ → Bool
is_asked sets line = nat_lt line height && is_set (slice_index sets line)

unfoldable pub line_number : List ℕ → ℕ → ℕ
line_number sets line = lowest (sets_fit sets) true (own (is_asked sets line) 4)

unfoldable pub pick_number : List ℕ → List ℕ → ℕ → ℕ
pick_number oam sets line = lowest (both_fit oam sets) true (own (is_asked sets line) 4)

-- the entry that an address falls on, by its low byte, and its y before and after a write there
abbrev pub entry_at : ℕ → ℕ
entry_at address = address % 256 / 4

abbrev pub old_y : List ℕ → ℕ → ℕ
old_y oam address = (entry oam (entry_at address)).y

abbrev pub new_y : List ℕ → ℕ → ℕ → ℕ
new_y oam address value = (entry (oam_written oam address value) (entry_at address)).y

-- the numbers of the lines that a sprite at y touches are sets
abbrev pub are_sets : List ℕ → ℕ → ℕ → Bool
are_sets sets y tall = every (λ line. is_set (slice_index sets line)) (lines_of y tall)

abbrev pub is_writable : List ℕ → List ℕ → ℕ → ℕ → ℕ → Bool
is_writable oam sets tall address value =
    is_tall tall && nat_lt (address % 256) oam_bytes && are_sets sets (old_y oam address) tall
    && are_sets sets (new_y oam address value) tall

unfoldable pub write_number : List ℕ → List ℕ → ℕ → ℕ → ℕ → ℕ
write_number oam sets tall address value =
    lowest (both_fit oam sets) true (own (is_writable oam sets tall address value) 4)
