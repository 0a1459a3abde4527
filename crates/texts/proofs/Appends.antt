-- Bytes put into a slice from a place on.
use mathlib.Core.Path.{◌≡◌, refl, ap, sym, ◌∙◌}
use mathlib.Core.List.{List, [], ◌++◌, append_assoc, append-nil}
use Prim.Native.Nat.{ℕ, ◌+◌, ◌-◌, ◌≤◌}
use native.Mathlib.Omega.{arith}
use lib.ListN.{length, take, drop, length-append, length-take, length-drop}
use lib.Seq.{take_at, drop_at, drop-drop, take-add, length-take-le}
use borrow.Rule.Slice.PartMut.{put_mid}
use Rattle.texts.specs.Appended.{Appended, IsPrefixLen}
use Rattle.texts.specs.Laws.{AppendedBoth}

-- from the parts of what is left
pub from_parts : (a b : List ℕ) (i : ℕ) (x : List ℕ) → i + length x ≤ length a → b ≡ take i a ++ x ++ drop (i + length x) a
    → Appended a b i (i + length x) x
from_parts a b i x fits e =
    let start : length (take i a) ≡ i = length-take-le i a (omega arith) in
    let front : length (take i a ++ x) ≡ i + length x = length-append (take i a) x ∙ ap (λ (n : ℕ). n + length x) start in
    record {
      behind = refl;
      written = rw e (take_at (take i a ++ x) (drop (i + length x) a) (i + length x) front);
      kept = rw e (drop_at (take i a ++ x) (drop (i + length x) a) (i + length x) front);
      sized =
          rw (e, length-append (take i a ++ x) (drop (i + length x) a), front, length-drop (i + length x) a) (omega arith);
    }

-- a part that was copied into
pub copied : (a y : List ℕ) (i : ℕ) (x : List ℕ) → i + length x ≤ length a → y ≡ x → Appended a (put_mid i (i + length x - i) a y) i (i + length x) x
copied a y i x fits e =
    let count : i + length x - i ≡ length x = omega arith in
    rw (count, e)
    (from_parts a _ i x fits
    (ap (λ (l : List ℕ). take i a ++ (x ++ l)) (drop-drop (length x) i a) ∙ sym (append_assoc (take i a) x (drop (i + length x) a))))

-- two one behind the other
pub then : {a b c : List ℕ} {from mid to : ℕ} {x y : List ℕ} → Appended a b from mid x → Appended b c mid to y → Appended a c from to (x ++ y)
then {a} {b} {c} {from} {mid} {to} {x} {y} p q =
    let far : to ≡ mid + length y = q.behind in
    record {
      behind = omega (arith, p.behind, far, length-append x y);
      written = q.written ∙ ap (λ (l : List ℕ). l ++ y) p.written ∙ append_assoc (take from a) x y;
      kept = q.kept ∙ rw far (sym (drop-drop (length y) mid b) ∙ ap (drop (length y)) p.kept ∙ drop-drop (length y) mid a);
      sized = q.sized ∙ p.sized;
    }

pub both : AppendedBoth
both a b c from mid to x y p q = then p q

-- nothing
pub nothing : (a : List ℕ) (i : ℕ) → Appended a a i i []
nothing a i = record { behind = omega arith; written = sym (append-nil (take i a)); kept = refl; sized = refl }

-- read again
pub again : {a b : List ℕ} {from to : ℕ} {x : List ℕ} → Appended a b from to x → from ≤ length a → take (to - from) (drop from b) ≡ x
again {a} {b} {from} {to} {x} p fits =
    let count : to - from ≡ length x = omega (arith, p.behind) in
    let whole : take from b ++ take (length x) (drop from b) ≡ take from a ++ x = sym (take-add from (length x) b) ∙ rw (sym p.behind) p.written in
    rw count
    (sym (drop_at (take from b) (take (length x) (drop from b)) from (length-take-le from b (omega (arith, p.sized))))
    ∙ ap (drop from) whole ∙ drop_at (take from a) x from (length-take-le from a fits))

-- what is put at the start of a buffer is its first bytes
pub at_start : {before after : List ℕ} {to : ℕ} {bytes : List ℕ} → Appended before after 0 to bytes
    → IsPrefixLen to after × (take to after ≡ bytes)
at_start {after = after} {to = to} p =
    let held : to ≡ length (take to after) = omega (arith, p.behind, ap length p.written) in
    ((omega (arith, held, length-take to after), held), p.written)

-- how long the text of the first bytes is then
pub text_length : {a b : List ℕ} {from to : ℕ} {x : List ℕ} → Appended a b from to x → length (take to b) ≡ length (take from a) + length x
text_length {a = a} {from = from} {x = x} p = ap length p.written ∙ length-append (take from a) x
