-- A ladder of tests, each by `need` and `?`: its answer has the number that the definitions give.
use mathlib.Core.Path.{◌≡◌, refl, sym, ap, ◌∙◌}
use mathlib.Core.Bool.{Bool, true, false, cond}
use Prim.Native.Nat.{ℕ}
use Rattle.std.specs.Prelude.{Result, Ok, Err}
use Rattle.std.specs.Result.{IsErr, IsErrAnd}
use Rattle.std.proofs.lemmas.Result.{err_from_is_err_and}
use Rattle.refusals.specs.Ladder.{lowest, own, done}
use Rattle.refusals.specs.Refused.{refusal_number, number_of}
use Rattle.refusals.specs.declared.Refusal.{Refusal}
use Rattle.refusals.specs.declared.Refusal.TheVariants.{Length, State, Pace, Argument, Time}

-- what `need` answers
abbrev pub Needs : Bool → Refusal → Result (Unit {0}) Refusal → Type 0
Needs passed why r = r ≡ cond passed (Ok tt) (Err why)

-- what `?` hands on of an error
abbrev pub Handed : {A : Type 0} → Refusal → Result A Refusal → Type 0
Handed e q = IsErr q × IsErrAnd q (λ z. z ≡ e)

pub handed : {A : Type 0} {e : Refusal} (q : Result A Refusal) → Handed e q → q ≡ Err e
handed q h = let given = err_from_is_err_and q h.1 in given.1 ∙ ap Err given.2

-- no refusal has the number 0
pub undone : (why : Refusal) → done (refusal_number why) ≡ false
undone Length = refl
undone State = refl
undone Pace = refl
undone Argument = refl
undone Time = refl

-- a test by its answer, which is what the definitions say of it
module _ (why : Refusal) {answer said : Bool} {r : Result (Unit {0}) Refusal} (is : answer ≡ said) (n : Needs answer why r) where
  -- one that passed
  pub passed : {u : Unit {0}} → r ≡ Ok u → said ≡ true
  passed e = sym is ∙ by answer n
    where
      by : (b : Bool) → Needs b why r → b ≡ true
      by true m = refl
      by false m = cc

  -- one that failed, and the number that is handed on
  failed : {e : Refusal} → r ≡ Err e → (answer ≡ false) × (e ≡ why)
  failed {e} d = by answer n
    where
      by : (b : Bool) → Needs b why r → (b ≡ false) × (e ≡ why)
      by true m = cc
      by false m = (refl, cc)

  pub stopped : {A : Type 0} {e : Refusal} (q : Result A Refusal) → r ≡ Err e → Handed e q → (said ≡ false) × (number_of q ≡ refusal_number why)
  stopped q d h =
      let f = failed d in (sym is ∙ f.0, ap number_of (handed q h) ∙ ap refusal_number f.1)

  -- the last one
  pub last : number_of r ≡ own said (refusal_number why)
  last = ap number_of n ∙ (by answer ∙ ap (λ b. own b (refusal_number why)) is)
    where
      by : (b : Bool) → number_of (cond {A = Result (Unit {0}) Refusal} b (Ok tt) (Err why)) ≡ own b (refusal_number why)
      by true = refl
      by false = refl

-- the ladder: stopped at a length, at the state, at neither
module _ (sized ordered : Bool) (own : ℕ) {n : ℕ} where
  pub at_length : (sized ≡ false) × (n ≡ 1) → n ≡ lowest sized ordered own
  unfolding lowest
  at_length f = rw (f.0, f.1) refl

  pub at_state : sized ≡ true → (ordered ≡ false) × (n ≡ 2) → n ≡ lowest sized ordered own
  unfolding lowest
  at_state s f = rw (s, f.0, f.1) refl

  pub at_own : sized ≡ true → ordered ≡ true → n ≡ own → n ≡ lowest sized ordered own
  unfolding lowest
  at_own s o e = rw (s, o, e) refl

-- where the order of the state is the last test
pub at_order : (sized ordered : Bool) {n : ℕ} → sized ≡ true → n ≡ own ordered 2 → n ≡ lowest sized ordered 0
unfolding lowest
at_order sized ordered s e = rw s e
