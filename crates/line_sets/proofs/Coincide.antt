-- No promise leaves freedom: two results that one allows for the same inputs coincide, the answer and every lent number.
use Rattle.std.proofs.Common.{◌≡◌, ℕ, List, refl, sym, ap, ◌∙◌, Option, Result, Ok, Err}
use Rattle.refusals.specs.Refused.{number_of}
use Rattle.refusals.specs.declared.Refusal.{Refusal}
use Rattle.refusals.proofs.Tells.{answer_tells}
use Rattle.sprite.specs.Pick.{Picked}
use Rattle.line_sets.specs.Calls.{Build, Write, Counted, counted, count_of, Found, found, first_on, pick_from}

pub build_coincides : {oam sets x y : List ℕ} {tall r q : ℕ} → Build oam sets tall r x → Build oam sets tall q y → (r ≡ q) × (x ≡ y)
build_coincides e f = (e.number ∙ sym f.number, e.built ∙ sym f.built)

pub write_coincides : {oam sets v w x y : List ℕ} {tall address value r q : ℕ}
    → Write oam sets tall address value r v x → Write oam sets tall address value q w y → (r ≡ q) × (v ≡ w) × (x ≡ y)
write_coincides e f = (e.number ∙ sym f.number, e.written ∙ sym f.written, e.renewed ∙ sym f.renewed)

pub count_coincides : (sets : List ℕ) (line : ℕ) {r q : Counted} → r ≡ count_of sets line → q ≡ count_of sets line → r ≡ q
count_coincides sets line e f = e ∙ sym f

pub first_coincides : (sets : List ℕ) (line : ℕ) {r q : Found} → r ≡ first_on sets line → q ≡ first_on sets line → r ≡ q
first_coincides sets line e f = e ∙ sym f

pub pick_coincides : (oam sets : List ℕ) (line : ℕ) {r q : Picked} → r ≡ pick_from oam sets line → q ≡ pick_from oam sets line → r ≡ q
pick_coincides oam sets line e f = e ∙ sym f

-- and an answer of the code is told by what its promise speaks of; that of a pick by `picked_tells` of `sprite`
counted_number : (r : Result ℕ Refusal) → (counted r).number ≡ number_of r
counted_number (Ok n) = refl
counted_number (Err why) = refl

pub counted_tells : (r q : Result ℕ Refusal) → counted r ≡ counted q → r ≡ q
counted_tells r q e =
    answer_tells (λ x. (counted x).count) (λ x y d. d) r q
    (sym (counted_number r) ∙ ap (λ (c : Counted). c.number) e ∙ counted_number q) (ap (λ (c : Counted). c.count) e)

found_number : (r : Result (Option ℕ) Refusal) → (found r).number ≡ number_of r
found_number (Ok entry) = refl
found_number (Err why) = refl

pub found_tells : (r q : Result (Option ℕ) Refusal) → found r ≡ found q → r ≡ q
found_tells r q e =
    answer_tells (λ x. (found x).first) (λ x y d. d) r q
    (sym (found_number r) ∙ ap (λ (f : Found). f.number) e ∙ found_number q) (ap (λ (f : Found). f.first) e)
