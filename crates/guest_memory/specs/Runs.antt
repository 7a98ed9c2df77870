-- So many bytes from an address on.
use Rattle.std.specs.Prelude.{ℕ, zero, suc, List, [], ◌∷◌}
use Rattle.uh_base.specs.Bytes.{next, with_byte}

-- the bytes there, in order
unfoldable pub bytes_from : (ℕ → ℕ) → ℕ → ℕ → List ℕ
bytes_from bytes at zero = []
bytes_from bytes at (suc n) = bytes at ∷ bytes_from bytes (next at) n

-- the bytes with others written from an address on
unfoldable pub with_bytes : (ℕ → ℕ) → ℕ → List ℕ → ℕ → ℕ
with_bytes bytes at [] = bytes
with_bytes bytes at (b ∷ bs) = with_bytes (with_byte bytes at b) (next at) bs
