-- An answer is told by its number and its value: two that have both alike are the same answer.
use mathlib.Core.Path.{◌≡◌, refl, sym, ap, ◌∙◌}
use mathlib.Core.Bool.{cond}
use Prim.Native.Nat.{ℕ}
use native.Mathlib.Omega.{arith}
use lib.Dec.{eqb}
use Rattle.std.specs.Prelude.{Result, Ok, Err}
use Rattle.refusals.specs.Refused.{refusal_number, number_of}
use Rattle.refusals.specs.declared.Refusal.{Refusal}
use Rattle.refusals.specs.declared.Refusal.TheVariants.{Length, State, Pace, Argument, Time}

-- the refusal of a number
abbrev refusal_of : ℕ → Refusal
refusal_of n = cond (eqb n 1) Length (cond (eqb n 2) State (cond (eqb n 3) Pace (cond (eqb n 4) Argument Time)))

back : (a : Refusal) → refusal_of (refusal_number a) ≡ a
back Length = refl
back State = refl
back Pace = refl
back Argument = refl
back Time = refl

pub number_tells : (a b : Refusal) → refusal_number a ≡ refusal_number b → a ≡ b
number_tells a b e = sym (back a) ∙ ap refusal_of e ∙ back b

-- no refusal has the number of what is done
refused : (a : Refusal) → refusal_number a ≡ 0 → ⊥
refused Length e = omega arith
refused State e = omega arith
refused Pace e = omega arith
refused Argument e = omega arith
refused Time e = omega arith

pub unrefused : (a : Refusal) → 0 ≡ refusal_number a → ⊥
unrefused a e = refused a (sym e)

-- an answer whose value f tells
pub answer_tells : {A B : Type 0} (f : Result A Refusal → B) → ((x y : A) → f (Ok x) ≡ f (Ok y) → x ≡ y)
    → (r q : Result A Refusal) → number_of r ≡ number_of q → f r ≡ f q → r ≡ q
answer_tells f inside (Ok x) (Ok y) n e = ap Ok (inside x y e)
answer_tells f inside (Ok x) (Err why) n e = absurd (refused why (sym n))
answer_tells f inside (Err why) (Ok y) n e = absurd (refused why n)
answer_tells f inside (Err v) (Err w) n e = ap Err (number_tells v w n)

-- an answer of no value
pub done_tells : (r q : Result (Unit {0}) Refusal) → number_of r ≡ number_of q → r ≡ q
done_tells (Ok x) (Ok y) n = refl
done_tells (Ok x) (Err why) n = absurd (refused why (sym n))
done_tells (Err why) (Ok y) n = absurd (refused why n)
done_tells (Err v) (Err w) n = ap Err (number_tells v w n)
