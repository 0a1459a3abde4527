-- The words of marks, and the last part of a path.
use Prim.Native.Nat.{ℕ, zero, suc, ◌+◌, ◌≤◌, ◌<◌}
use mathlib.Core.Path.{◌≡◌, refl, ap, sym, ◌∙◌}
use mathlib.Core.Bool.{Bool, cond}
use mathlib.Core.List.{List, [], ◌∷◌}
use native.Mathlib.Omega.{arith}
use native.Mathlib.Numerals.{add-one}
use lib.ListN.{length, drop, get_or}
use lib.Dec.{eqb}
use borrow.Author.Tests.{eq-eqb, ne_eqb}
use Rattle.std.specs.Prelude.{◌≢◌}
use Rattle.beam.specs.declared.Mark.{Mark}
use Rattle.beam.specs.declared.Mark.TheVariants.{No, Whole, Unseen}
use Rattle.filing.specs.Names.{mark_word, behind_slash}

-- a mark's word has at most six bytes
pub mark_word_most : (m : Mark) → length (mark_word m) ≤ 6
unfolding mark_word
mark_word_most No = omega arith
mark_word_most Whole = omega arith
mark_word_most Unseen = omega arith

-- a path with no `/` leaves the name as it is
pub no_slash : (name path : List ℕ) → ((k : ℕ) → k < length path → get_or path k 0 ≢ 47) → behind_slash name path ≡ name
unfolding behind_slash
no_slash name [] none = refl
no_slash name (b ∷ path) none =
    ap (λ (t : Bool). behind_slash (cond t path name) path) (ne_eqb b 47 (none 0 (omega arith)))
    ∙ no_slash name path (λ k h. none (suc k) (omega arith))

-- the last `/` begins it
last_slash : (name path : List ℕ) (i : ℕ) → i < length path → get_or path i 0 ≡ 47
    → ((k : ℕ) → i + 1 ≤ k → k < length path → get_or path k 0 ≢ 47) → behind_slash name path ≡ drop (suc i) path
unfolding behind_slash
last_slash name [] i h e others = absurd (omega arith)
last_slash name (b ∷ path) zero h e others =
    ap (λ (t : Bool). behind_slash (cond t path name) path) (eq-eqb b 47 e) ∙ no_slash path path (λ k g. others (suc k) (omega arith) (omega arith))
last_slash name (b ∷ path) (suc i) h e others =
    last_slash (cond (eqb b 47) path name) path i (omega arith) e (λ k g l. others (suc k) (omega arith) (omega arith))

pub after_slash : (path : List ℕ) (i : ℕ) → i < length path → get_or path i 0 ≡ 47
    → ((k : ℕ) → i + 1 ≤ k → k < length path → get_or path k 0 ≢ 47) → drop (i + 1) path ≡ behind_slash path path
after_slash path i h e others = rw add-one (sym (last_slash path path i h e others))
