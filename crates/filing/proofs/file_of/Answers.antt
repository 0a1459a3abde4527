-- `filing::file_of` meets its contract: the text is cut to the file that was put into its room.
use mathlib.Core.Path.{◌≡◌, sym, ◌∙◌}
use mathlib.Core.List.{List, []}
use Prim.Native.Nat.{ℕ}
use native.Mathlib.Omega.{arith}
use lib.Seq.{take-take}
use Rattle.beam.specs.declared.Mark.{Mark}
use Rattle.filing.specs.declared.TheConstants.{FILE_BYTES}
use Rattle.filing.specs.declared.Unfiled.{Unfiled}
use Rattle.filing.specs.declared.Unfiled.TheVariants.{Picture, Capture}
use Rattle.filing.specs.Files.{file_of, Unfit}
use Rattle.filing.proofs.Files.{no_picture, no_name}
use Rattle.filing.proofs.file_of.Goals as goal

-- where there is a reason there is no byte
unfit : (picture capture : List ℕ) (number stored : ℕ) (mark : Mark) (why : Unfiled) → Unfit picture capture why
    → file_of picture number mark stored capture ≡ []
unfit picture capture number stored mark Picture u = no_picture picture capture number stored mark u
unfit picture capture number stored mark Capture u = no_name picture capture number stored mark u.0 u.1

pub returns-in-Ok-clause-file : goal.returns-in-Ok-clause-file
returns-in-Ok-clause-file c =
    let put = c.in-Ok.ensures.file in
    c.truncate.ensures ∙ take-take c.in-Ok.end FILE_BYTES c.put_file.new.out (omega (arith, put.0.0, c.put_file.ensures.size)) ∙ put.1

pub returns-in-Err-clause-file : goal.returns-in-Err-clause-file
returns-in-Err-clause-file c =
    let a = c.args in
    c.clear.ensures ∙ sym (unfit a.picture.now a.capture.now a.label.number a.label.stored a.label.mark c.in-Err.why c.in-Err.ensures.why)
