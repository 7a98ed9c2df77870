-- The text of a certificate, each kind in its shortest form. Numbers are decimal, one space stands between words, and one
-- behind each comma and semicolon.
use Rattle.std.specs.Prelude.{ℕ, ◌^◌, ◌-◌, ◌==◌, ◌&&◌, Bool, List, [], ◌∷◌, ◌++◌, map, codes, if◌then◌else◌}
use Rattle.std.specs.Fmt.{decimal}
use Rattle.rv_decode.specs.Texts.{register_name}
use Rattle.prov_types.specs.declared.kinds.Span.{Span}
use Rattle.prov_types.specs.declared.kinds.Kind.{Kind}
use Rattle.prov_types.specs.declared.kinds.Kind.TheVariants.{Any, Num, Ptr, Opt}
use Rattle.prov_cert.specs.declared.cert.OwnRegion.{OwnRegion}
use Rattle.prov_cert.specs.declared.cert.CertSpan.{CertSpan}
use Rattle.prov_cert.specs.declared.cert.Class.{Class}
use Rattle.prov_cert.specs.declared.cert.Class.TheVariants as classes
use Rattle.prov_cert.specs.declared.cert.RegKind.{RegKind}
use Rattle.prov_cert.specs.declared.cert.StackPart.{StackPart}
use Rattle.prov_cert.specs.Cert.{Entry, Node, Plain}

-- a word, a space and what follows
abbrev pub spaced : List ℕ → List ℕ → List ℕ
spaced word rest = word ++ 32 ∷ rest

-- ---- lists of texts

-- each with something before and behind it
abbrev pub each : (before behind : List ℕ) → List (List ℕ) → List ℕ
each before behind [] = []
each before behind (text ∷ texts) = before ++ (text ++ (behind ++ each before behind texts))

-- the same, where before the first stands something else
abbrev pub list_of : (before between behind : List ℕ) → List (List ℕ) → List ℕ
list_of before between behind [] = []
list_of before between behind (text ∷ texts) = before ++ (text ++ (behind ++ each between behind texts))

-- between commas, and between spaces
abbrev pub with_commas : List (List ℕ) → List ℕ
with_commas texts = list_of [] (codes ", ") [] texts

abbrev pub with_spaces : List (List ℕ) → List ℕ
with_spaces texts = list_of [] (codes " ") [] texts

-- ---- kinds

abbrev pub is_one : Span → Bool
is_one s = s.lo == s.hi && s.by == 1

-- every number of 64 bits
abbrev pub is_whole : Span → Bool
is_whole s = s.lo == 0 && (s.hi == 2 ^ 64 - 1 && s.by == 1)

-- LO HI BY
unfoldable pub span_text : Span → List ℕ
span_text s = spaced (decimal s.lo) (spaced (decimal s.hi) (decimal s.by))

-- O, or LO HI BY
unfoldable pub offsets_text : Span → List ℕ
offsets_text s = if is_one s then decimal s.lo else span_text s

-- `c V`, `n`, or `n LO HI BY`
unfoldable pub number_text : Span → List ℕ
number_text s = if is_one s then spaced (codes "c") (decimal s.lo) else (if is_whole s then codes "n" else spaced (codes "n") (span_text s))

unfoldable pub kind_text : Kind → List ℕ
kind_text Any = codes "any"
kind_text (Num s) = number_text s
kind_text (Ptr r s) = spaced (codes "p") (spaced (decimal r) (offsets_text s))
kind_text (Opt r s) = spaced (codes "o") (spaced (decimal r) (offsets_text s))

-- ---- items

-- CELLREGION CELLAT LEN
unfoldable pub region_text : OwnRegion → List ℕ
region_text region = spaced (decimal region.cell_region) (spaced (decimal region.cell_at) (decimal region.len))

unfoldable pub class_text : Class → List ℕ
class_text classes.Code = codes "code"
class_text classes.Plain = codes "plain"
class_text (classes.Num kind) = spaced (codes "num") (kind_text kind)
class_text classes.Fixed = codes "fixed"
class_text (classes.Convert kind) = spaced (codes "convert") (kind_text kind)

-- REGION AT LEN CLASS
unfoldable pub stretch_text : CertSpan → List ℕ
stretch_text span = spaced (decimal span.region) (spaced (decimal span.at) (spaced (decimal span.len) (class_text span.class)))

-- reg KIND
unfoldable pub register_text : RegKind → List ℕ
register_text k = spaced (register_name k.reg) (kind_text k.kind)

-- AT WIDTH KIND
unfoldable pub part_text : StackPart → List ℕ
part_text part = spaced (decimal part.at) (spaced (decimal part.width) (kind_text part.kind))

abbrev pub registers_text : List RegKind → List ℕ
registers_text kinds = with_commas (map register_text kinds)

abbrev pub stack_text : List StackPart → List ℕ
stack_text parts = with_commas (map part_text parts)

abbrev pub indices_text : List ℕ → List ℕ
indices_text numbers = with_spaces (map decimal numbers)

-- a text, a semicolon, a space and what follows
abbrev pub before_semicolon : List ℕ → List ℕ → List ℕ
before_semicolon text rest = text ++ (codes "; " ++ rest)

-- NAME NODE; ARGKINDS
unfoldable pub entry_text : Entry → List ℕ
entry_text entry = spaced entry.name (before_semicolon (decimal entry.node) (registers_text entry.arg_kinds))

-- AT; REGS; STACK; NEXT; DONE
unfoldable pub node_text : Node → List ℕ
node_text node =
    before_semicolon (decimal node.at) (before_semicolon (registers_text node.regs) (before_semicolon (stack_text node.stack)
    (before_semicolon (indices_text node.next) (indices_text node.done))))

-- ---- the document

-- texts in quotes, on one line
abbrev pub quoted_list : List (List ℕ) → List ℕ
quoted_list texts = codes "[" ++ (list_of (codes "\"") (codes ", \"") (codes "\"") texts ++ codes "]")

abbrev pub number_list : List ℕ → List ℕ
number_list numbers = codes "[" ++ (with_commas (map decimal numbers) ++ codes "]")

-- texts in quotes, each on a line of its own with a comma behind it
abbrev pub line_list : List (List ℕ) → List ℕ
line_list [] = codes "[]"
line_list texts = codes "[" ++ (each (codes "\n\"") (codes "\",") texts ++ codes "\n]")

-- `key = VALUE` and a line's end, and what follows
abbrev pub line : (key value rest : List ℕ) → List ℕ
line key value rest = key ++ (codes " = " ++ (value ++ (codes "\n" ++ rest)))

-- the five keys, each with its value
abbrev pub document : (regions spans entries notify nodes : List ℕ) → List ℕ
document regions spans entries notify nodes =
    line (codes "regions") regions (line (codes "spans") spans (line (codes "entries") entries (line (codes "notify") notify (line (codes "nodes") nodes []))))

-- the text of a certificate
unfoldable pub cert_lines : Plain → List ℕ
cert_lines cert =
    document (quoted_list (map region_text cert.regions)) (quoted_list (map stretch_text cert.spans)) (quoted_list (map entry_text cert.entries))
    (number_list cert.notify) (line_list (map node_text cert.nodes))
