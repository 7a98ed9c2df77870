-- The CRC of IEEE 802.3, which UEFI's table headers hold (UEFI 2.10, 4.2): the least significant bit of each byte first.
use Rattle.std.specs.Prelude.{ℕ, zero, suc, ◌-◌, ◌/◌, ◌%◌, ◌^◌, ◌==◌, bit_xor, List, [], ◌∷◌, if◌then◌else◌}

-- 0x04C11DB7 with its bits in the opposite order
abbrev pub polynomial : ℕ
polynomial = 0xedb88320

-- the remainder after one bit of the message, the least bit of the byte
abbrev pub after_bit : ℕ → ℕ
after_bit crc = if crc % 2 == 1 then bit_xor (crc / 2) polynomial else crc / 2

-- the remainder after so many bits
unfoldable pub after_bits : ℕ → ℕ → ℕ
after_bits zero crc = crc
after_bits (suc bits) crc = after_bits bits (after_bit crc)

-- the remainder after all bytes
unfoldable pub after_bytes : ℕ → List ℕ → ℕ
after_bytes crc [] = crc
after_bytes crc (byte ∷ bytes) = after_bytes (after_bits 8 (bit_xor crc byte)) bytes

-- the CRC of bytes: it begins with all ones, and all bits of the remainder are turned
unfoldable pub crc_of : List ℕ → ℕ
crc_of bytes = bit_xor (after_bytes (2 ^ 32 - 1) bytes) (2 ^ 32 - 1)

-- the remainders of so many numbers, from one on
unfoldable pub remainders : ℕ → ℕ → List ℕ
remainders from zero = []
remainders from (suc count) = after_bits 8 from ∷ remainders (suc from) count
