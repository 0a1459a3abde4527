-- Laws of the corruptions: OAM keeps its length, a row holds the words stored in it, and bytes outside it stay.
use mathlib.Core.Path.{◌≡◌, refl, ap, ◌∙◌}
use mathlib.Core.Bool.{cond, ◌||◌}
use mathlib.Core.List.{List}
use mathlib.Core.Logic.{◌≢◌}
use Prim.Native.Nat.{ℕ, ◌+◌, ◌/◌, ◌%◌, ◌<◌, ◌≤◌}
use native.Mathlib.Nat.{div-add-mod'}
use native.Mathlib.Omega.{arith}
use borrow.Author.Tests.{eqb-true, eqb-false}
use lib.Dec.{eqb, ltb}
use lib.ListN.{length, get_or, set, length-set}
use lib.Seq.{get_or-set_same, get_or-set_other}
use Rattle.logic.proofs.Tests.{by_test}
use Rattle.oam_bug.specs.Words.{oam_rows, word, with_word, word_place, word_of, with_row, row_from, row_copied}
use Rattle.oam_bug.specs.Corruption.{corrupted_row, write_corrupted, read_corrupted, before_corrupted, spread, around_corrupted, read_write_corrupted}

-- ---- the row is one of the twenty

pub row_below : (mode cycle : ℕ) → (mode ≡ 2 → (4 ≤ cycle) × (cycle ≤ 83)) → corrupted_row mode cycle < oam_rows
row_below mode cycle h =
    by_test (λ (r : ℕ). r < oam_rows) (eqb mode 2) (λ e. let b = h (eqb-true mode 2 e) in omega arith) (λ e. omega arith)

-- ---- a row corrupted by a rule, that gives a word

pub by_rule : (oam new : List ℕ) (r v : ℕ) → (r ≡ 0 → new ≡ oam)
    → (0 < r → (w : ℕ) × (w ≡ v) × (new ≡ row_from oam r w)) → new ≡ cond (eqb r 0) oam (row_from oam r v)
by_rule oam new r v none others =
    by_test (λ (l : List ℕ). new ≡ l) (eqb r 0) (λ e. none (eqb-true r 0 e))
    (λ e. let p = others (omega (arith, eqb-false r 0 e)) in p.2 ∙ ap (row_from oam r) p.1)

-- ---- length

pub length_with_row : (l : List ℕ) (r a b c d : ℕ) → length (with_row l r a b c d) ≡ length l
unfolding with_row
length_with_row l r a b c d = simp length-set

pub length_row_from : (l : List ℕ) (r first : ℕ) → length (row_from l r first) ≡ length l
unfolding row_from
length_row_from l r first = rw length_with_row

pub length_row_copied : (l : List ℕ) (p r : ℕ) → length (row_copied l p r) ≡ length l
unfolding row_copied
length_row_copied l p r = rw length_with_row

-- as long as another
abbrev pub AsLong : List ℕ → List ℕ → Type 0
AsLong l x = length x ≡ length l

pub length_write : (l : List ℕ) (r : ℕ) → length (write_corrupted l r) ≡ length l
unfolding write_corrupted
length_write l r = by_test (AsLong l) (eqb r 0) (λ e. refl) (λ e. length_row_from l r _)

pub length_read : (l : List ℕ) (r : ℕ) → length (read_corrupted l r) ≡ length l
unfolding read_corrupted
length_read l r = by_test (AsLong l) (eqb r 0) (λ e. refl) (λ e. length_row_from l r _)

pub length_around : (l : List ℕ) (r : ℕ) → length (around_corrupted l r) ≡ length l
unfolding around_corrupted spread before_corrupted
length_around l r =
    by_test (AsLong l) (ltb r 4 || ltb 18 r) (λ e. refl) (λ e. simp (length_row_copied, length-set))

pub length_read_write : (l : List ℕ) (r : ℕ) → length (read_write_corrupted l r) ≡ length l
length_read_write l r = length_read (around_corrupted l r) r ∙ length_around l r

-- ---- the words of a row after a store, and the bytes outside

-- a word stored is read back
pub word_same : (l : List ℕ) (i w : ℕ) → i + 1 < length l → word (with_word l i w) i ≡ w
word_same l i w h =
    let low : get_or (set (set l i (w % 256)) (i + 1) (w / 256)) i 0 ≡ w % 256
    = get_or-set_other (set l i (w % 256)) (i + 1) i (w / 256) 0 (λ e. omega arith) ∙ get_or-set_same l i (w % 256) 0 (omega arith) in
    let high : get_or (set (set l i (w % 256)) (i + 1) (w / 256)) (i + 1) 0 ≡ w / 256
    = get_or-set_same (set l i (w % 256)) (i + 1) (w / 256) 0 (rw length-set h) in
    rw (low, high) (omega (arith, div-add-mod' w 256))

-- another byte stays
pub byte_other : (l : List ℕ) (i w j : ℕ) → j ≢ i → j ≢ i + 1 → get_or (with_word l i w) j 0 ≡ get_or l j 0
byte_other l i w j p q = get_or-set_other (set l i (w % 256)) (i + 1) j (w / 256) 0 q ∙ get_or-set_other l i j (w % 256) 0 p

-- a word before it stays
pub word_before : (l : List ℕ) (i w j : ℕ) → j + 1 < i → word (with_word l i w) j ≡ word l j
word_before l i w j h =
    rw (byte_other l i w j (λ e. omega arith) (λ e. omega arith), byte_other l i w (j + 1) (λ e. omega arith) (λ e. omega arith))

-- a row holds these four words
pub record Row (l : List ℕ) (r a b c d : ℕ) : Type 0 where
  pub first : word_of l r 0 ≡ a
  pub second : word_of l r 1 ≡ b
  pub third : word_of l r 2 ≡ c
  pub fourth : word_of l r 3 ≡ d

module _ (l : List ℕ) (r a b c d : ℕ) where
  -- after one, two and three of the four words
  abbrev one : List ℕ
  one = with_word l (word_place r 0) a

  abbrev two : List ℕ
  two = with_word one (word_place r 1) b

  abbrev three : List ℕ
  three = with_word two (word_place r 2) c

  -- a row stored holds the words stored
  pub row_stored : word_place r 3 + 1 < length l → Row (with_row l r a b c d) r a b c d
  unfolding with_row
  row_stored h =
      record {
        first = word_before three (word_place r 3) d (word_place r 0) (omega arith)
            ∙ word_before two (word_place r 2) c (word_place r 0) (omega arith)
            ∙ word_before one (word_place r 1) b (word_place r 0) (omega arith)
            ∙ word_same l (word_place r 0) a (omega arith);
        second = word_before three (word_place r 3) d (word_place r 1) (omega arith)
            ∙ word_before two (word_place r 2) c (word_place r 1) (omega arith)
            ∙ word_same one (word_place r 1) b (simp length-set (omega arith));
        third = word_before three (word_place r 3) d (word_place r 2) (omega arith)
            ∙ word_same two (word_place r 2) c (simp length-set (omega arith));
        fourth = word_same three (word_place r 3) d (simp length-set (omega arith));
      }

  -- a byte outside the row stays
  pub byte_outside : (j : ℕ) → (word_place r 0 ≤ j → j ≤ word_place r 3 + 1 → ⊥) → get_or (with_row l r a b c d) j 0 ≡ get_or l j 0
  unfolding with_row
  byte_outside j h =
      byte_other three (word_place r 3) d j (λ e. h (omega arith) (omega arith)) (λ e. h (omega arith) (omega arith))
      ∙ byte_other two (word_place r 2) c j (λ e. h (omega arith) (omega arith)) (λ e. h (omega arith) (omega arith))
      ∙ byte_other one (word_place r 1) b j (λ e. h (omega arith) (omega arith)) (λ e. h (omega arith) (omega arith))
      ∙ byte_other l (word_place r 0) a j (λ e. h (omega arith) (omega arith)) (λ e. h (omega arith) (omega arith))
