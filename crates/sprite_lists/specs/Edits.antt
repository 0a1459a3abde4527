-- The edits that the program reads: an address by its low byte and a value, two bytes each.
use Rattle.std.specs.Prelude.{ℕ, zero, suc, ◌+◌, ◌*◌, List, get_or}
use Rattle.line_sets.specs.Calls.{oam_after}

-- OAM after the first n edits
unfoldable pub edited : List ℕ → List ℕ → ℕ → List ℕ
edited oam edits zero = oam
edited oam edits (suc n) = oam_after (edited oam edits n) (get_or edits (2 * n) 0) (get_or edits (2 * n + 1) 0)
