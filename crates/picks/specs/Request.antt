-- The request that the program reads: OAM, a line and how tall sprites are, 162 bytes.
use Rattle.std.specs.Prelude.{ℕ, ◌+◌, cond, List, eqb, length, take, get_or}
use Rattle.hardware.specs.Tables.{oam_bytes}
use Rattle.sprite.specs.Pick.{refused_pick, pick_of, Picked}

-- OAM and two bytes after it
abbrev pub request_bytes : ℕ
request_bytes = oam_bytes + 2

-- the pick that a request asks for, refused by 1 at another length
unfoldable pub answer_to : List ℕ → Picked
answer_to s =
    cond (eqb (length s) request_bytes) (pick_of (take oam_bytes s) (get_or s oam_bytes 0) (get_or s (oam_bytes + 1) 0)) (refused_pick 1)
