-- What a store leaves, byte by byte. Addresses are numbers modulo 2^64.
use Rattle.std.specs.Prelude.{ℕ, ◌≡◌, ◌≢◌, ◌<◌, ◌≤◌, ◌/◌, ◌%◌, ◌^◌}
use Rattle.uh_base.specs.Bytes.{behind, number_at, with_number}

-- each byte of a stored number is where it was stored
abbrev pub StoresItsBytes : Type 0
StoresItsBytes = (bytes : ℕ → ℕ) (at width value i : ℕ) → at < 2 ^ 64 → width ≤ 8 → i < width
    → with_number bytes at width value (behind at i) ≡ value / 256 ^ i % 256

-- a byte that wasn't stored to stays
abbrev pub OtherBytesStay : Type 0
OtherBytesStay = (bytes : ℕ → ℕ) (at width value other : ℕ) → at < 2 ^ 64 → ((i : ℕ) → i < width → other ≢ behind at i)
    → with_number bytes at width value other ≡ bytes other

-- a load behind a store, of the same bytes, gives what was stored
abbrev pub StoredIsLoaded : Type 0
StoredIsLoaded = (bytes : ℕ → ℕ) (at width value : ℕ) → at < 2 ^ 64 → width ≤ 8
    → number_at (with_number bytes at width value) at width ≡ value % 256 ^ width
