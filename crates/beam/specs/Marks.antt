-- 01, "Lent memory and the state", the whole mark, with the three answers that request 5 gives it.
use Rattle.std.specs.Prelude.{ℕ, Bool, true, false, cond}
use Rattle.state.specs.declared.Beam.{Beam}
use Rattle.beam.specs.Advance.{whole}
use Rattle.beam.specs.declared.Mark.{Mark}
use Rattle.beam.specs.declared.Mark.TheVariants.{No, Whole, Unseen}

-- the number of each answer
abbrev pub mark_number : Mark → ℕ
mark_number No = 0
mark_number Whole = 1
mark_number Unseen = 2

-- what demand 3 reads each as: yes or no
abbrev pub is_yes : Mark → Bool
is_yes No = false
is_yes Whole = true
is_yes Unseen = true

-- a yes is one of two: Pan Docs, "LCDC.7", has the screen stay blank during the first frame after the display is switched on, so
-- a whole picture is unseen where the display was blanked since the last swap
abbrev pub mark_by : Bool → Bool → Mark
mark_by whole blanked = cond whole (cond blanked Unseen Whole) No

-- the mark of a step
unfoldable pub mark_of : ℕ → Beam → Mark
mark_of n b = mark_by (whole n b) b.blanked
