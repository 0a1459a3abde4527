-- A test of every element of a list, by the library's word for it, which is what `iter().all(..)` answers.
use mathlib.Core.Path.{◌≡◌, refl}
use mathlib.Core.Bool.{Bool}
use mathlib.Core.List.{List, [], ◌∷◌}
use Rattle.std.specs.List.{list_all}
use Rattle.logic.specs.Every.{every}

pub all_every : {A : Type 0} (test : A → Bool) (l : List A) → list_all test l ≡ every test l
unfolding every
all_every test [] = refl
all_every test (x ∷ l) = rw (all_every test l)
