-- 01's table of refusals: the lowest number that applies is given. A call is tested only for what it takes.
use Rattle.std.specs.Prelude.{ℕ, Bool, cond, eqb}

-- 1 unless every lent buffer has its length, 2 unless the state is in order, else the call's own number
unfoldable pub lowest : Bool → Bool → ℕ → ℕ
lowest sized ordered own = cond sized (cond ordered own 2) 1

-- a call's own number: none where its own test passes
abbrev pub own : Bool → ℕ → ℕ
own passed number = cond passed 0 number

-- 0: done
abbrev pub done : ℕ → Bool
done number = eqb number 0

-- of a call's two own numbers the lower comes first
abbrev pub first : ℕ → ℕ → ℕ
first lower higher = cond (done lower) higher lower
