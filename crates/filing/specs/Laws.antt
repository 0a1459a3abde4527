-- What is proved of names and files. The proofs are in proofs/Laws.
use Rattle.std.specs.Prelude.{ℕ, ◌≤◌, ◌≡◌, List, length}
use Rattle.std.proofs.Math.Option.{some}
use Rattle.hardware.specs.Screen.{width, height, picture_bytes}
use Rattle.png.specs.Read.{read_picture, read_texts}
use Rattle.beam.specs.declared.Mark.{Mark}
use Rattle.filing.specs.Names.{name_of, most_name}
use Rattle.filing.specs.Files.{texts_of, file_of}

-- a name tells its mark: a torn picture never has the name of a whole one, whatever their numbers
abbrev pub NamesTell : Type 0
NamesTell = (n m : ℕ) (k l : Mark) → name_of n k ≡ name_of m l → k ≡ l

-- a reader of PNG files finds in the file the picture, and beside it the number, the mark, the count and the capture's name
abbrev pub FileReadBack : Type 0
FileReadBack =
    (picture capture : List ℕ) (number stored : ℕ) (mark : Mark) → length picture ≡ picture_bytes → length capture ≤ most_name
    → (read_picture (file_of picture number mark stored capture) ≡ some (record { width = width; height = height; bytes = picture }))
    × (read_texts (file_of picture number mark stored capture) ≡ some (texts_of number mark stored capture))
