-- A name tells its mark, and a file is read back.
use Prim.Native.Nat.{ℕ, ◌+◌, ◌≤◌}
use mathlib.Core.Path.{◌≡◌, refl, ap}
use mathlib.Core.Bool.{true}
use mathlib.Core.List.{List, ◌++◌}
use native.Mathlib.Omega.{arith}
use lib.Dec.{ltb}
use lib.ListN.{length, length-append}
use borrow.Author.Tests.{lt-ltb}
use Rattle.logic.specs.Every.{every}
use Rattle.texts.specs.Numbers.{digits, decimal}
use Rattle.texts.proofs.Numbers.{digits_length, decimal_most}
use Rattle.png.specs.File.{length_limit}
use Rattle.png.specs.Laws.{text_fits}
use Rattle.png.proofs.Laws.{picture_read_back, texts_read_back}
use Rattle.beam.specs.declared.Mark.{Mark}
use Rattle.beam.specs.declared.Mark.TheVariants.{No, Whole, Unseen}
use Rattle.filing.specs.Names.{mark_word, front, mark_end, ending, name_of, most_name}
use Rattle.filing.specs.Files.{number_key, mark_key, stored_key, capture_key, texts_of}
use Rattle.filing.specs.Laws.{NamesTell, FileReadBack}
use Rattle.filing.proofs.Names.{mark_word_most}
use Rattle.filing.proofs.Files.{filed}

-- how long a name is
name_length : (n : ℕ) (k : Mark) → length (name_of n k) ≡ 18 + length (mark_end k)
unfolding name_of
name_length n k =
    omega (
      arith,
      length-append (front ++ digits 10 6 n ++ mark_end k) ending,
      length-append (front ++ digits 10 6 n) (mark_end k),
      length-append front (digits 10 6 n),
      digits_length 10 6 n,
    )

-- what tells that a picture is not whole has another length for each mark
ends_tell : (k l : Mark) → length (mark_end k) ≡ length (mark_end l) → k ≡ l
unfolding mark_end
ends_tell No No e = refl
ends_tell No Whole e = absurd (omega arith)
ends_tell No Unseen e = absurd (omega arith)
ends_tell Whole No e = absurd (omega arith)
ends_tell Whole Whole e = refl
ends_tell Whole Unseen e = absurd (omega arith)
ends_tell Unseen No e = absurd (omega arith)
ends_tell Unseen Whole e = absurd (omega arith)
ends_tell Unseen Unseen e = refl

pub names_tell : NamesTell
names_tell n m k l e = ends_tell k l (omega (arith, ap length e, name_length n k, name_length m l))

-- a text of the file fits, whatever its value: the keys are the four
fits : (key value : List ℕ) → length key ≤ 7 → length value ≤ most_name → ltb (length key + 1 + length value) length_limit ≡ true
fits key value short few = lt-ltb (length key + 1 + length value) length_limit (omega arith)

all_fit : (number stored : ℕ) (mark : Mark) (capture : List ℕ) → length capture ≤ most_name
    → every text_fits (texts_of number mark stored capture) ≡ true
unfolding every texts_of
all_fit number stored mark capture few =
    simp (
      fits number_key (decimal number) (omega arith) (omega (arith, decimal_most number)),
      fits mark_key (mark_word mark) (omega arith) (omega (arith, mark_word_most mark)),
      fits stored_key (decimal stored) (omega arith) (omega (arith, decimal_most stored)),
      fits capture_key capture (omega arith) few,
    )

pub file_read_back : FileReadBack
file_read_back picture capture number stored mark is few =
    let texts = texts_of number mark stored capture in
    let fit = all_fit number stored mark capture few in (
      rw (filed picture capture number stored mark is few) (picture_read_back picture texts is fit),
      rw (filed picture capture number stored mark is few) (texts_read_back picture texts is fit),
    )
