-- The FNV-1a digest of 64 bits.
use Rattle.std.specs.Prelude.{ℕ, ◌*◌, ◌%◌, ◌^◌, List, fold, bit_xor}
use Rattle.wire.specs.declared.Digest.{Digest}

-- the digest of nothing
abbrev pub of_nothing : Digest
of_nothing = record { 0 = 0xCBF2_9CE4_8422_2325 }

-- a digest with one byte more
abbrev pub with_byte : Digest → ℕ → Digest
with_byte digest byte = record { 0 = bit_xor digest.0 byte * 0x100_0000_01B3 % 2 ^ 64 }

-- a digest with more bytes
abbrev pub with_bytes : Digest → List ℕ → Digest
with_bytes digest bytes = fold with_byte digest bytes
