-- Pan Docs, "LCD Status Registers", "PPU mode": the modes, by their numbers in the lower two bits of STAT.
use Rattle.std.specs.Prelude.{ℕ}
use Rattle.hardware.specs.declared.Mode.{Mode}
use Rattle.hardware.specs.declared.Mode.TheVariants.{HBlank, VBlank, Search, Draw}

abbrev pub mode_number : Mode → ℕ
mode_number HBlank = 0
mode_number VBlank = 1
mode_number Search = 2
mode_number Draw = 3
