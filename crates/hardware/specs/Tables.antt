-- Pan Docs, "Memory map": the two tables that are lent, VRAM and OAM.
use Rattle.std.specs.Prelude.{ℕ, ◌≡◌, Bool, ◌&&◌, List, eqb, length}

-- VRAM is two banks; OAM is forty entries of four bytes
abbrev pub bank_bytes : ℕ
bank_bytes = 8192

abbrev pub vram_bytes : ℕ
vram_bytes = 16384

abbrev pub oam_bytes : ℕ
oam_bytes = 160

-- what is lent besides the pictures
pub record Tables : Type 0 where
  pub vram : List ℕ
  pub oam : List ℕ

abbrev pub tables : List ℕ → List ℕ → Tables
tables vram oam = record { vram = vram; oam = oam }

-- each has its length, and both: as a test, and as a fact
abbrev pub vram_fits : List ℕ → Bool
vram_fits vram = eqb (length vram) vram_bytes

abbrev pub oam_fits : List ℕ → Bool
oam_fits oam = eqb (length oam) oam_bytes

abbrev pub tables_fit : Tables → Bool
tables_fit t = vram_fits t.vram && oam_fits t.oam

pub record TablesSized (t : Tables) : Type 0 where
  pub vram : length t.vram ≡ vram_bytes
  pub oam : length t.oam ≡ oam_bytes

-- one of them put in place of what it was
abbrev pub with_vram : Tables → List ℕ → Tables
with_vram t vram = tables vram t.oam

abbrev pub with_oam : Tables → List ℕ → Tables
with_oam t oam = tables t.vram oam
