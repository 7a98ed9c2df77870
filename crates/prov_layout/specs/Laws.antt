-- The laws of tests at many offsets, and of pieces inside their region.
use Rattle.std.specs.Prelude.{ℕ, ◌≡◌, ◌+◌, ◌*◌, ◌<◌, ◌≤◌, ◌⊎◌, Bool, true, false, List, Some, None, slice_get}
use Rattle.prov_cert.specs.declared.cert.CertSpan.{CertSpan}
use Rattle.prov_layout.specs.declared.piece.Piece.{Piece}
use Rattle.prov_layout.specs.Offsets.{every}
use Rattle.prov_layout.specs.Pieces.{AreOrdered, IsProperClass, piece_at}
use Rattle.prov_layout.specs.Laid.{class_of, laid, spans_meet}

-- a test at many numbers passes where it passes at each
abbrev pub EachPasses : Type 0
EachPasses = (test : ℕ → Bool) (lo by n : ℕ) → ((i : ℕ) → i < n → test (lo + i * by) ≡ true) → every test lo by n ≡ true

-- it passes at each where it passes
abbrev pub PassesEach : Type 0
PassesEach = (test : ℕ → Bool) (lo by n i : ℕ) → every test lo by n ≡ true → i < n → test (lo + i * by) ≡ true

-- it fails where it fails at one
abbrev pub OneFails : Type 0
OneFails = (test : ℕ → Bool) (lo by n i : ℕ) → i < n → test (lo + i * by) ≡ false → every test lo by n ≡ false

-- Where the pieces of a region end at a length or before, each byte from there on is closed.
abbrev pub IsClosedOutside : Type 0
IsClosedOutside = (pieces : List Piece) (r o length : ℕ) → ((i : ℕ) (p : Piece) → slice_get pieces i ≡ Some p → p.region ≡ r → p.at + p.len ≤ length) → length ≤ o → piece_at pieces r o ≡ None

abbrev pub IsProperSpan : CertSpan → Type 0
IsProperSpan s = IsProperClass (class_of 0 0 s.class)

-- What is laid is in the order of its places, where no two spans that have bytes meet, none lies where bytes are given, and
-- their kinds are proper.
abbrev pub LaidIsOrdered : Type 0
LaidIsOrdered = (targets : ℕ → ℕ) (spans : List CertSpan) → ((i : ℕ) (s : CertSpan) → slice_get spans i ≡ Some s → IsProperSpan s)
    → ((i : ℕ) (s : CertSpan) → slice_get spans i ≡ Some s → (s.region ≡ 0) ⊎ (5 < s.region))
    → ((i j : ℕ) (s t : CertSpan) → slice_get spans i ≡ Some s → slice_get spans j ≡ Some t → i < j → 0 < s.len → 0 < t.len → spans_meet s t ≡ false)
    → AreOrdered (laid targets spans)
