-- The sizes of the arrays that a state holds: eight colours of a row, sixteen and eight slots of the queues, ten slots of the
-- selection, 64 bytes of a palette set. A state that a program holds has them by its type.
use Rattle.std.specs.Prelude.{◌≡◌, length}
use Rattle.state.specs.declared.State.{State}

pub record Shaped (s : State) : Type 0 where
  pub row : length s.pipe.fetcher.row ≡ 8
  pub bg : length s.pipe.bg.pixels ≡ 16
  pub obj : length s.pipe.obj.pixels ≡ 8
  pub slots : length s.selection.slots ≡ 10
  pub bg_bytes : length s.palettes.bg.bytes ≡ 64
  pub obj_bytes : length s.palettes.obj.bytes ≡ 64
