-- The answer to a pick is told by what its promise speaks of.
use mathlib.Core.Path.{◌≡◌, refl, sym, ap, ◌∙◌}
use Rattle.std.specs.Prelude.{Result, Ok, Err}
use Rattle.refusals.specs.declared.Refusal.{Refusal}
use Rattle.refusals.specs.Refused.{number_of}
use Rattle.refusals.proofs.Tells.{answer_tells}
use Rattle.sprite.specs.Pick.{Picked, picked}
use Rattle.sprite.specs.declared.Selection.{Selection}

picked_number : (r : Result Selection Refusal) → (picked r).number ≡ number_of r
picked_number (Ok selection) = refl
picked_number (Err why) = refl

pub picked_tells : (r q : Result Selection Refusal) → picked r ≡ picked q → r ≡ q
picked_tells r q e =
    answer_tells (λ x. (picked x).selection) (λ x y d. d) r q
    (sym (picked_number r) ∙ ap (λ (p : Picked). p.number) e ∙ picked_number q) (ap (λ (p : Picked). p.selection) e)
