-- The file of a picture: when there is one, and its parts one behind the other.
use Prim.Native.Nat.{ℕ, ◌≤◌, ◌<◌}
use mathlib.Core.Path.{◌≡◌, ap, ◌∙◌}
use mathlib.Core.Bool.{Bool, true, false, cond, ◌&&◌}
use mathlib.Core.List.{List, [], ◌++◌, append_assoc, append-nil}
use lib.Dec.{leb}
use lib.ListN.{length}
use borrow.Author.Tests.{eq-eqb, ne_eqb, le-leb, lt-leb}
use Rattle.hardware.specs.Screen.{picture_bytes}
use Rattle.texts.specs.Numbers.{decimal}
use Rattle.png.specs.File.{file, opening, closing, text_chunk, text_chunks}
use Rattle.beam.specs.declared.Mark.{Mark}
use Rattle.filing.specs.Names.{mark_word, most_name}
use Rattle.filing.specs.Files.{number_key, mark_key, stored_key, capture_key, texts_of, is_filed, file_of}

module _ (picture capture : List ℕ) (number stored : ℕ) (mark : Mark) where
  by_filed : (b : Bool) → is_filed picture capture ≡ b
      → file_of picture number mark stored capture ≡ cond b (file picture (texts_of number mark stored capture)) []
  unfolding file_of
  by_filed b e = ap (λ (t : Bool). cond t (file picture (texts_of number mark stored capture)) []) e

  pub filed : length picture ≡ picture_bytes → length capture ≤ most_name
      → file_of picture number mark stored capture ≡ file picture (texts_of number mark stored capture)
  filed is fits =
      by_filed true
      (ap (λ (t : Bool). t && leb (length capture) most_name) (eq-eqb (length picture) picture_bytes is) ∙ le-leb (length capture) most_name fits)

  pub no_picture : (length picture ≡ picture_bytes → ⊥) → file_of picture number mark stored capture ≡ []
  no_picture is-not =
      by_filed false (ap (λ (t : Bool). t && leb (length capture) most_name) (ne_eqb (length picture) picture_bytes is-not))

  pub no_name : length picture ≡ picture_bytes → most_name < length capture → file_of picture number mark stored capture ≡ []
  no_name is long =
      by_filed false
      (ap (λ (t : Bool). t && leb (length capture) most_name) (eq-eqb (length picture) picture_bytes is)
      ∙ lt-leb (length capture) most_name long)

  -- the parts, as they are put one behind the other
  pub parts : opening ++ text_chunk number_key (decimal number) ++ text_chunk mark_key (mark_word mark)
      ++ text_chunk stored_key (decimal stored) ++ text_chunk capture_key capture ++ closing picture
      ≡ file picture (texts_of number mark stored capture)
  unfolding file texts_of text_chunks
  parts = simp (append_assoc, append-nil)
