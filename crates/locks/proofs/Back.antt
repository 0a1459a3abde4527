-- An open read gives what an open write of that address stored (specs/Laws).
use native.Mathlib.Omega.{arith}
use lib.Seq.{get_or-set_same}
use Rattle.locks.specs.Laws.{ReadsBack}

pub reads_back : ReadsBack
reads_back =
    record {
      vram = λ vram bank address value sized b. get_or-set_same vram _ value 0 (omega arith);
      oam = λ oam address value sized inside. get_or-set_same oam _ value 0 (omega arith);
    }
