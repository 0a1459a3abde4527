-- Laws of a test that holds of every element of a list.
use mathlib.Core.Path.{◌≡◌, refl}
use mathlib.Core.Bool.{Bool, true, false, ◌&&◌}
use mathlib.Core.List.{List, [], ◌∷◌, ◌++◌, map}
use Prim.Native.Nat.{ℕ, zero, suc, ◌<◌}
use native.Mathlib.Omega.{arith}
use lib.ListN.{length, get_or, take}
use Rattle.logic.specs.Every.{every}
use Rattle.logic.proofs.Both.{both, first, second}

module _ {A : Type 0} (test : A → Bool) where
  pub every_cons : (x : A) (l : List A) → every test (x ∷ l) ≡ test x && every test l
  unfolding every
  every_cons x l = refl

  -- by the parts of a list
  pub every_append : (a b : List A) → every test (a ++ b) ≡ every test a && every test b
  unfolding every
  every_append [] b = refl
  every_append (x ∷ a) b = step (test x) (every_append a b)
    where
      step : (v : Bool) → every test (a ++ b) ≡ every test a && every test b → v && every test (a ++ b) ≡ v && every test a && every test b
      step true e = e
      step false e = refl

  -- of a list made element by element
  pub every_map : {B : Type 0} (f : B → A) (l : List B) → every test (map f l) ≡ every (λ b. test (f b)) l
  unfolding every
  every_map f [] = refl
  every_map f (x ∷ l) = rw (every_map f l)

  -- of one element of them
  pub every_at : (l : List A) (k : ℕ) (d : A) → k < length l → every test l ≡ true → test (get_or l k d) ≡ true
  unfolding every
  every_at [] k d h e = absurd (omega arith)
  every_at (x ∷ l) zero d h e = first _ _ e
  every_at (x ∷ l) (suc k) d h e = every_at l k d (omega arith) (second (test x) _ e)

  -- and from each element
  pub every_fails : (l : List A) (k : ℕ) (d : A) → k < length l → test (get_or l k d) ≡ false → every test l ≡ false
  unfolding every
  every_fails [] k d h e = absurd (omega arith)
  every_fails (x ∷ l) zero d h e = rw e
  every_fails (x ∷ l) (suc k) d h e = neither (test x) (every_fails l k d (omega arith) e)
    where
      neither : (v : Bool) → every test l ≡ false → v && every test l ≡ false
      neither true f = f
      neither false f = refl

  pub every_all : (l : List A) (d : A) → ((k : ℕ) → k < length l → test (get_or l k d) ≡ true) → every test l ≡ true
  unfolding every
  every_all [] d f = refl
  every_all (x ∷ l) d f = both (f 0 (omega arith)) (every_all l d (λ k h. f (suc k) (omega arith)))

  -- of the first n
  pub every_take : (n : ℕ) (l : List A) → every test l ≡ true → every test (take n l) ≡ true
  unfolding every
  every_take zero l e = refl
  every_take (suc n) [] e = refl
  every_take (suc n) (x ∷ l) e = both {a = test x} (first (test x) (every test l) e) (every_take n l (second (test x) _ e))
