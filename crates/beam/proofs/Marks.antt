-- What a mark says, by whether the picture is whole and whether the display was blanked.
use mathlib.Core.Path.{◌≡◌, refl, sym, ap, ◌∙◌}
use mathlib.Core.Bool.{Bool, true, false, true≢false}
use mathlib.Core.Logic.{◌↔◌}
use native.Mathlib.Omega.{arith}
use Rattle.beam.specs.Marks.{mark_number, is_yes, mark_by}
use Rattle.beam.specs.declared.Mark.{Mark}
use Rattle.beam.specs.declared.Mark.TheVariants.{No, Whole, Unseen}

-- yes exactly where it is whole
pub mark_yes : (whole blanked : Bool) → is_yes (mark_by whole blanked) ≡ whole
mark_yes true true = refl
mark_yes true false = refl
mark_yes false blanked = refl

-- so a mark is known by its yes
pub mark_again : {m : Mark} (whole blanked : Bool) → m ≡ mark_by whole blanked → m ≡ mark_by (is_yes m) blanked
mark_again whole blanked e = e ∙ ap (λ (w : Bool). mark_by w blanked) (sym (ap is_yes e ∙ mark_yes whole blanked))

-- unseen exactly where it is whole and was blanked
pub mark_unseen : (whole blanked : Bool) → (mark_by whole blanked ≡ Unseen) ↔ ((whole ≡ true) × (blanked ≡ true))
mark_unseen true true = (λ e. (refl, refl), λ e. refl)
mark_unseen true false = (λ e. absurd (omega (arith, ap mark_number e)), λ e. absurd (true≢false (sym e.1)))
mark_unseen false blanked = (λ e. absurd (omega (arith, ap mark_number e)), λ e. absurd (true≢false (sym e.0)))

-- what is read as no is the first of the three
pub mark_no : (m : Mark) → is_yes m ≡ false → m ≡ No
mark_no No e = refl
mark_no Whole e = absurd (true≢false e)
mark_no Unseen e = absurd (true≢false e)
