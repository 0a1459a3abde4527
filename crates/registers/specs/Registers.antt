-- 01, "Registers": the registers that can be written, each with its name in Pan Docs.
use Rattle.std.specs.Prelude.{ℕ, Bool, false, cond, ◌||◌, List, [], ◌∷◌, eqb}
use Rattle.registers.specs.declared.Writable.{Writable}

-- an address, and the bits of a write that are kept
abbrev pub register : ℕ → ℕ → Writable
register address kept = record { 0 = address; 1 = kept }

-- all of them
unfoldable pub writable : List Writable
writable =
    register 0xFF40 0xFF  -- LCDC
    ∷ register 0xFF41 0x78  -- STAT
    ∷ register 0xFF42 0xFF  -- SCY
    ∷ register 0xFF43 0xFF  -- SCX
    ∷ register 0xFF45 0xFF  -- LYC
    ∷ register 0xFF47 0xFF  -- BGP
    ∷ register 0xFF48 0xFF  -- OBP0
    ∷ register 0xFF49 0xFF  -- OBP1
    ∷ register 0xFF4A 0xFF  -- WY
    ∷ register 0xFF4B 0xFF  -- WX
    ∷ register 0xFF4F 0x01  -- VBK
    ∷ register 0xFF68 0xBF  -- BCPS
    ∷ register 0xFF69 0xFF  -- BCPD
    ∷ register 0xFF6A 0xBF  -- OCPS
    ∷ register 0xFF6B 0xFF  -- OCPD
    ∷ register 0xFF6C 0x01  -- OPRI
    ∷ []

-- the bits kept by the first entry of a table with an address; 0 where there is none
unfoldable pub kept_in : List Writable → ℕ → ℕ
kept_in [] address = 0
kept_in (w ∷ rest) address = cond (eqb w.0 address) w.1 (kept_in rest address)

abbrev pub kept_bits : ℕ → ℕ
kept_bits address = kept_in writable address

-- whether an address stands in a table
unfoldable pub listed_in : List Writable → ℕ → Bool
listed_in [] address = false
listed_in (w ∷ rest) address = eqb w.0 address || listed_in rest address

abbrev pub listed : ℕ → Bool
listed address = listed_in writable address
