-- What a certificate lays over the bytes of regions.
use Rattle.std.specs.Prelude.{ℕ, zero, suc, ◌+◌, ◌*◌, ◌==◌, ◌&&◌, nat_lt, Bool, List, [], ◌∷◌, ◌++◌, if◌then◌else◌}
use Rattle.prov_types.specs.declared.kinds.Kind.TheVariants.{Ptr}
use Rattle.prov_types.specs.Spans.{one}
use Rattle.prov_cert.specs.declared.cert.CertSpan.{CertSpan}
use Rattle.prov_cert.specs.declared.cert.Class.TheVariants as spans
use Rattle.prov_cert.specs.declared.cert.Class.{Class as SpanClass}
use Rattle.prov_layout.specs.declared.piece.Class.{Class}
use Rattle.prov_layout.specs.declared.piece.Class.TheVariants.{Code, Plain, Number, Fixed, Convert}
use Rattle.prov_layout.specs.declared.piece.Piece.{Piece}
use Rattle.prov_layout.specs.Pieces.{begins_behind}

-- the class of a span; a fixed one holds the address of an offset of the image, and a convertible one has a number
abbrev pub class_of : (target cell : ℕ) → SpanClass → Class
class_of target cell spans.Code = Code
class_of target cell spans.Plain = Plain
class_of target cell (spans.Num kind) = Number kind
class_of target cell spans.Fixed = Fixed (Ptr 0 (one target))
class_of target cell (spans.Convert kind) = Convert kind cell

abbrev pub piece_of : (target cell : ℕ) → CertSpan → Piece
piece_of target cell s = record { region = s.region; at = s.at; len = s.len; class = class_of target cell s.class }

-- two spans with bytes have one in common
abbrev pub spans_meet : CertSpan → CertSpan → Bool
spans_meet s t = s.region == t.region && (nat_lt s.at (t.at + t.len) && nat_lt t.at (s.at + s.len))

-- the number of the next convertible cell behind a span
abbrev pub next_cell : ℕ → SpanClass → ℕ
next_cell cell (spans.Convert kind) = cell + 1
next_cell cell _ = cell

-- Spans from number i on, with the next convertible cell's number. `targets` gives by a span's number the offset of the image
-- whose address a fixed span holds. A span of no bytes lays nothing.
unfoldable pub pieces_from : (targets : ℕ → ℕ) → (i cell : ℕ) → List CertSpan → List Piece
pieces_from targets i cell [] = []
pieces_from targets i cell (s ∷ ss) =
    if s.len == 0 then pieces_from targets (i + 1) (next_cell cell s.class) ss
    else (piece_of (targets i) cell s ∷ pieces_from targets (i + 1) (next_cell cell s.class) ss)

-- the OS arguments, of 65,536 bytes
abbrev pub arguments : Piece
arguments = record { region = 2; at = 0; len = 65536; class = Plain }

-- Of the system table (UEFI 2.10, 4.3) in region 4, the system page: the address of the runtime services table.
abbrev pub table_cell : Piece
table_cell = record { region = 4; at = 88; len = 8; class = Fixed (Ptr 4 (one 256)) }

-- Of the runtime services table (UEFI 2.10, 4.5), at 256 behind its header of 24 bytes: the address of a service, which is a slot
-- of 16 bytes of region 5, the slot page.
abbrev pub service_cell : ℕ → Piece
service_cell i = record { region = 4; at = 280 + 8 * i; len = 8; class = Fixed (Ptr 5 (one (16 * (44 + i)))) }

unfoldable pub service_cells : (i n : ℕ) → List Piece
service_cells i zero = []
service_cells i (suc n) = service_cell i ∷ service_cells (i + 1) n

-- what is laid whatever the certificate says
abbrev pub given : List Piece
given = arguments ∷ table_cell ∷ service_cells 0 14

-- a piece in front of the first that begins behind it
unfoldable pub put_in : Piece → List Piece → List Piece
put_in p [] = p ∷ []
put_in p (q ∷ qs) = if begins_behind q p.region p.at then p ∷ (q ∷ qs) else (q ∷ put_in p qs)

-- pieces put in one after another, so that all are in the order of their places
unfoldable pub put_all : List Piece → List Piece → List Piece
put_all pieces [] = pieces
put_all pieces (p ∷ ps) = put_all (put_in p pieces) ps

-- All that is laid, in the order of places: what is given, and the spans, whose convertible cells are numbered in their order
-- from 0.
unfoldable pub laid : (targets : ℕ → ℕ) → List CertSpan → List Piece
laid targets spans = put_all [] (given ++ pieces_from targets 0 0 spans)
