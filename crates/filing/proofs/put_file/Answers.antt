-- `filing::put_file` meets its contract: the parts of the file are put one behind the other.
use mathlib.Core.Path.{sym, ◌∙◌}
use Rattle.texts.proofs.Appends.{then, at_start}
use Rattle.filing.proofs.Files.{filed, parts}
use Rattle.filing.proofs.put_file.Goals as goal

pub returns-clause-file : goal.returns-clause-file
returns-clause-file c =
    let a = c.args in
    let mark = rw c.mark_word.ensures.word at c.add_text-at.ensures in
    let stored = rw c.from.ensures at c.put_number-at-2.ensures.put in
    let whole = then (then (then (then (then c.begin-at.ensures c.put_number-at.ensures.put) mark) stored) c.add_text-at-2.ensures) c.finish-end.ensures in
    let start = at_start whole in (
      start.0,
      start.1
          ∙ parts a.picture.now a.capture.now a.label.number a.label.stored a.label.mark
          ∙ sym (filed a.picture.now a.capture.now a.label.number a.label.stored a.label.mark c.if-picture-ne-PICTURE_BYTES.false c.if-capture-gt-NAME_BYTES.false),
      whole.kept,
    )
