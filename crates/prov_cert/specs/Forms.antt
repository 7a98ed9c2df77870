-- The texts of a certificate: what each says, None where it hasn't the form or names what doesn't exist.
use Rattle.std.specs.Prelude.{ℕ, ◌+◌, ◌-◌, ◌%◌, ◌==◌, ◌&&◌, ◌||◌, not, Bool, List, [], ◌∷◌, ◌++◌, length, codes, Option, Some, None, nat_lt, nat_le, if◌then◌else◌}
use Rattle.std.specs.List.{list_any, slice_split}
use Rattle.std.specs.Str.{bytes_eq}
use Rattle.uh_base.specs.Names.{is_name}
use Rattle.uh_base.specs.Numbers.{number_of}
use Rattle.rv_decode.specs.Texts.{register_names}
use Rattle.prov_types.specs.declared.kinds.Span.{Span}
use Rattle.prov_types.specs.declared.kinds.Kind.{Kind}
use Rattle.prov_types.specs.declared.kinds.Kind.TheVariants.{Any, Num, Ptr, Opt}
use Rattle.prov_types.specs.Spans.{one, whole}
use Rattle.prov_cert.specs.declared.cert.OwnRegion.{OwnRegion}
use Rattle.prov_cert.specs.declared.cert.CertSpan.{CertSpan}
use Rattle.prov_cert.specs.declared.cert.Class.{Class}
use Rattle.prov_cert.specs.declared.cert.Class.TheVariants as classes
use Rattle.prov_cert.specs.declared.cert.RegKind.{RegKind}
use Rattle.prov_cert.specs.declared.cert.StackPart.{StackPart}
use Rattle.prov_cert.specs.Cert.{Entry, Node}
use Rattle.prov_cert.specs.Words.{◌>>=◌, where_true, is_blank, next_word, next_number, one_number, cut, listed}

-- ---- kinds

-- a low and a high end and the step: the step is at least 1, and whole steps lead from the low end to the high one
abbrev pub is_span : (lo hi by : ℕ) → Bool
is_span lo hi by = nat_lt 0 by && (nat_le lo hi && (hi - lo) % by == 0)

-- LO HI BY, where LO is read
unfoldable pub span_from : ℕ → List ℕ → Option Span
span_from lo text = next_number text >>= λ hi. one_number hi.1 >>= λ by. where_true (is_span lo hi.0 by) (record { lo = lo; hi = hi.0; by = by })

-- O, or LO HI BY
unfoldable pub offsets : List ℕ → Option Span
offsets text = next_number text >>= λ p. if is_blank p.1 then Some (one p.0) else span_from p.0 p.1

-- `n`, or `n LO HI BY`
unfoldable pub number_kind : List ℕ → Option Kind
number_kind text = if is_blank text then Some (Num whole) else (next_number text >>= λ p. span_from p.0 p.1 >>= λ s. Some (Num s))

-- `c V`
unfoldable pub value_kind : List ℕ → Option Kind
value_kind text = one_number text >>= λ v. Some (Num (one v))

-- R, one of so many regions, and the offsets
unfoldable pub pointed : ℕ → List ℕ → Option (ℕ × Span)
pointed regions text = next_number text >>= λ p. where_true (nat_lt p.0 regions) p.0 >>= λ r. offsets p.1 >>= λ s. Some (r, s)

unfoldable pub kind_by : List ℕ → ℕ → List ℕ → Option Kind
kind_by word regions rest =
    if bytes_eq word (codes "any") then where_true (is_blank rest) Any
    else (if bytes_eq word (codes "n") then number_kind rest
    else (if bytes_eq word (codes "c") then value_kind rest
    else (if bytes_eq word (codes "p") then (pointed regions rest >>= λ p. Some (Ptr p.0 p.1))
    else (if bytes_eq word (codes "o") then (pointed regions rest >>= λ p. Some (Opt p.0 p.1)) else None))))

-- a kind, where there are so many regions
unfoldable pub kind_of : ℕ → List ℕ → Option Kind
kind_of regions text = next_word text >>= λ p. kind_by p.0 regions p.1

-- ---- regions and spans

-- CELLREGION CELLAT LEN of the own region of a number: the cell lies in a region of a lower one
unfoldable pub region_of : ℕ → List ℕ → Option OwnRegion
region_of number text = next_number text >>= λ r. next_number r.1 >>= λ at. one_number at.1 >>= λ len.
    where_true (nat_lt r.0 number) (record { cell_region = r.0; cell_at = at.0; len = len })

abbrev pub is_width : ℕ → Bool
is_width n = n == 1 || (n == 2 || (n == 4 || n == 8))

abbrev pub num_class : ℕ → Kind → Option Class
num_class len (Num s) = where_true (is_width len) (classes.Num (Num s))
num_class len _ = None

abbrev pub convert_class : ℕ → Kind → Option Class
convert_class len (Ptr r s) = where_true (len == 8) (classes.Convert (Ptr r s))
convert_class len (Opt r s) = where_true (len == 8) (classes.Convert (Opt r s))
convert_class len _ = None

-- a class of a span of so many bytes
unfoldable pub class_by : List ℕ → (regions len : ℕ) → List ℕ → Option Class
class_by word regions len rest =
    if bytes_eq word (codes "code") then where_true (is_blank rest) classes.Code
    else (if bytes_eq word (codes "plain") then where_true (is_blank rest) classes.Plain
    else (if bytes_eq word (codes "fixed") then where_true (is_blank rest && len == 8) classes.Fixed
    else (if bytes_eq word (codes "num") then (kind_of regions rest >>= num_class len)
    else (if bytes_eq word (codes "convert") then (kind_of regions rest >>= convert_class len) else None))))

unfoldable pub class_of : (regions len : ℕ) → List ℕ → Option Class
class_of regions len text = next_word text >>= λ p. class_by p.0 regions len p.1

-- REGION AT LEN CLASS
unfoldable pub span_of : ℕ → List ℕ → Option CertSpan
span_of regions text = next_number text >>= λ r. where_true (nat_lt r.0 regions) r.1 >>= λ rest. next_number rest >>= λ at. next_number at.1 >>= λ len.
    class_of regions len.0 len.1 >>= λ class. Some (record { region = r.0; at = at.0; len = len.0; class = class })

-- ---- registers

-- the number of a register's name
abbrev pub register_from : ℕ → List (List ℕ) → List ℕ → Option ℕ
register_from n [] text = None
register_from n (name ∷ names) text = if bytes_eq name text then Some n else register_from (n + 1) names text

unfoldable pub register : List ℕ → Option ℕ
register text = register_from 0 register_names text

-- reg KIND
unfoldable pub reg_kind : ℕ → List ℕ → Option RegKind
reg_kind regions text = next_word text >>= λ p. register p.0 >>= λ reg. kind_of regions p.1 >>= λ kind. Some (record { reg = reg; kind = kind })

abbrev pub has_register : List RegKind → ℕ → Bool
has_register kinds reg = list_any (λ k. k.reg == reg) kinds

-- a register that none before it is
abbrev pub new_register : List RegKind → RegKind → Option RegKind
new_register before k = where_true (not (has_register before k.reg)) k

-- the register of a part, beside those before it
abbrev pub next_register : ℕ → List RegKind → List ℕ → Option RegKind
next_register regions before part = reg_kind regions part >>= new_register before

unfoldable pub registers_of : ℕ → List RegKind → List (List ℕ) → Option (List RegKind)
registers_of regions before [] = Some before
registers_of regions before (part ∷ parts) = next_register regions before part >>= λ k. registers_of regions (before ++ k ∷ []) parts

-- ---- the stack

abbrev pub is_apart : (at width : ℕ) → StackPart → Bool
is_apart at width p = nat_le (at + width) p.at || nat_le (p.at + p.width) at

-- a part that meets none of those before it
abbrev pub meets_none : List StackPart → (at width : ℕ) → Bool
meets_none before at width = not (list_any (λ p. not (is_apart at width p)) before)

-- AT WIDTH KIND
unfoldable pub stack_part : ℕ → List ℕ → Option StackPart
stack_part regions text = next_number text >>= λ at. next_number at.1 >>= λ width.
    where_true (is_width width.0 && at.0 % width.0 == 0) width.1 >>= λ rest. kind_of regions rest >>= λ kind. Some (record { at = at.0; width = width.0; kind = kind })

abbrev pub new_part : List StackPart → StackPart → Option StackPart
new_part before p = where_true (meets_none before p.at p.width) p

abbrev pub next_part : ℕ → List StackPart → List ℕ → Option StackPart
next_part regions before part = stack_part regions part >>= new_part before

unfoldable pub stack_of : ℕ → List StackPart → List (List ℕ) → Option (List StackPart)
stack_of regions before [] = Some before
stack_of regions before (part ∷ parts) = next_part regions before part >>= λ p. stack_of regions (before ++ p ∷ []) parts

-- ---- numbers of nodes and cells

abbrev pub index_below : ℕ → Option ℕ → Option ℕ
index_below bound None = None
index_below bound (Some n) = where_true (nat_lt n bound) n

-- numbers between spaces, each below a bound
unfoldable pub indices_of : ℕ → List ℕ → List (List ℕ) → Option (List ℕ)
indices_of bound before [] = Some before
indices_of bound before (word ∷ words) =
    if length word == 0 then indices_of bound before words
    else (index_below bound (number_of word) >>= λ n. indices_of bound (before ++ n ∷ []) words)

unfoldable pub indices : ℕ → List ℕ → Option (List ℕ)
indices bound text = indices_of bound [] (slice_split (λ b. b == 32) text)

-- ---- entries and nodes

-- what the numbers in a certificate may name
pub record Counts : Type 0 where
  pub regions : ℕ
  pub nodes : ℕ
  pub cells : ℕ

-- a name, which is one word
unfoldable pub name_of : List ℕ → Option (List ℕ × List ℕ)
name_of text = next_word text >>= λ p. where_true (is_name p.0) p

-- NAME NODE; ARGKINDS
unfoldable pub entry_of : Counts → List ℕ → Option Entry
entry_of counts text = cut 59 text >>= λ parts. name_of parts.0 >>= λ name. index_below counts.nodes (one_number name.1) >>= λ node.
    registers_of counts.regions [] (listed parts.1) >>= λ kinds. Some (record { name = name.0; node = node; arg_kinds = kinds })

-- the texts between four semicolons
pub record Fields : Type 0 where
  pub at : List ℕ
  pub regs : List ℕ
  pub stack : List ℕ
  pub next : List ℕ
  pub done : List ℕ

unfoldable pub fields_of : List ℕ → Option Fields
fields_of text = cut 59 text >>= λ a. cut 59 a.1 >>= λ b. cut 59 b.1 >>= λ c. cut 59 c.1 >>= λ d.
    Some (record { at = a.0; regs = b.0; stack = c.0; next = d.0; done = d.1 })

-- AT; REGS; STACK; NEXT; DONE
unfoldable pub node_of : Counts → List ℕ → Option Node
node_of counts text = fields_of text >>= λ f. one_number f.at >>= λ at. registers_of counts.regions [] (listed f.regs) >>= λ regs.
    stack_of counts.regions [] (listed f.stack) >>= λ stack. indices counts.nodes f.next >>= λ next. indices counts.cells f.done >>= λ done.
    Some (record { at = at; regs = regs; stack = stack; next = next; done = done })
