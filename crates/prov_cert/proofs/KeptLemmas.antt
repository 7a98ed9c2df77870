-- What a certificate that is read keeps: what each part of the reading asked for.
use Rattle.std.proofs.Common.{◌≡◌, ℕ, ◌+◌, ◌-◌, ◌%◌, ◌^◌, ◌<◌, ◌≤◌, Bool, true, false, not, ◌&&◌, nat_lt, nat_le, List, [], ◌∷◌, ◌++◌, length, drop, codes, Option, Some, None, Result, Ok, Err, refl, sym, ap, ◌∙◌, append_assoc, length-append, arith, subst}
use Rattle.std.specs.Prelude.{if◌then◌else◌, ◌==◌, pos, negsuc}
use Rattle.std.specs.List.{slice_split}
use Rattle.std.specs.Str.{bytes_eq, is_utf8}
use Rattle.std.proofs.lemmas.Bool.{and_parts}
use Rattle.std.proofs.lemmas.Bool.Decides.{nat_tests}
use Rattle.std.proofs.lemmas.List.{append-nil}
use Rattle.toml.specs.Data.{Data, integer, string, float, boolean, datetime, array, table, Items, no_items, item, Members, get_member, as_str}
use Rattle.toml.specs.Parse.{parse_document}
use Rattle.uh_base.specs.Names.{is_name}
use Rattle.uh_base.specs.Numbers.{are_digits, value_of, digits_number, has_needless_zero, decimal_number, hexadecimal_number, is_prefixed, number_of}
use Rattle.rv_decode.specs.Texts.{register_names}
use Rattle.prov_types.specs.declared.kinds.Span.{Span}
use Rattle.prov_types.specs.declared.kinds.Kind.{Kind}
use Rattle.prov_types.specs.declared.kinds.Kind.TheVariants.{Any, Num, Ptr, Opt}
use Rattle.prov_types.specs.Spans.{one, whole}
use Rattle.prov_cert.specs.declared.fault.Part.{Part}
use Rattle.prov_cert.specs.declared.fault.Part.TheVariants as parts
use Rattle.prov_cert.specs.declared.cert.OwnRegion.{OwnRegion}
use Rattle.prov_cert.specs.declared.cert.CertSpan.{CertSpan}
use Rattle.prov_cert.specs.declared.cert.Class.{Class}
use Rattle.prov_cert.specs.declared.cert.Class.TheVariants as classes
use Rattle.prov_cert.specs.declared.cert.RegKind.{RegKind}
use Rattle.prov_cert.specs.declared.cert.StackPart.{StackPart}
use Rattle.prov_cert.specs.Cert.{Entry, Node, Plain}
use Rattle.prov_cert.specs.Faults.{Place, placed, ◌>>>◌}
use Rattle.prov_cert.specs.Words.{◌>>=◌, where_true, is_blank, next_word, with_number, next_number, one_number, cut, listed}
use Rattle.prov_cert.specs.Forms.{is_span, span_from, offsets, number_kind, value_kind, pointed, kind_by, kind_of, region_of, is_width, num_class, convert_class, class_by, class_of, span_of, register_from, register, reg_kind, has_register, new_register, next_register, registers_of, meets_none, stack_part, new_part, next_part, stack_of, index_below, indices_of, indices, Counts, name_of, entry_of, Fields, fields_of, node_of}
use Rattle.prov_cert.specs.Reading.{only_keys, items_len, at_most, list_in, list_field, Lists, lists_of, region_in, region_at, span_at, entry_at, node_number, notify_at, node_at, items_of, cells_in, counts_of, with_counts, with_lists, of_lists, of_document, cert_in}
use Rattle.prov_cert.specs.Kept.{IsNumber, IsSpan, IsKind, AreRegions, IsClass, IsStretch, AreSpans, AreRegisters, IsPart, AreParts, AreBelow, IsEntry, AreEntries, IsNode, AreNodes, IsCert, CertsKeepForms}

-- ---- a chain that ends well has no fault on its way

record Went {A B : Type 0} (o : Option A) (f : A → Option B) (y : B) : Type 0 where
  x : A
  first : o ≡ Some x
  then_ : f x ≡ Some y

went : {A B : Type 0} (o : Option A) (f : A → Option B) (y : B) → (o >>= f) ≡ Some y → Went o f y
went (Some x) f y h = record { x = x; first = refl; then_ = h }
went None f y h = cc

record WentOn {A B : Type 0} (r : Result A Place) (f : A → Result B Place) (y : B) : Type 0 where
  x : A
  first : r ≡ Ok x
  then_ : f x ≡ Ok y

went_on : {A B : Type 0} (r : Result A Place) (f : A → Result B Place) (y : B) → (r >>> f) ≡ Ok y → WentOn r f y
went_on (Ok x) f y h = record { x = x; first = refl; then_ = h }
went_on (Err e) f y h = cc

record WasThere {A B : Type 0} (o : Option A) (f : A → Result B Place) (y : B) : Type 0 where
  x : A
  first : o ≡ Some x
  then_ : f x ≡ Ok y

was_there : {A B : Type 0} (place : Place) (o : Option A) (f : A → Result B Place) (y : B) → placed place o f ≡ Ok y → WasThere o f y
was_there place (Some x) f y h = record { x = x; first = refl; then_ = h }
was_there place None f y h = cc

tested : {A : Type 0} (b : Bool) (x y : A) → where_true b x ≡ Some y → (b ≡ true) × (x ≡ y)
tested true x y h = (refl, cc)
tested false x y h = cc

-- ---- numbers

digits_below : (base : ℕ) (bytes : List ℕ) (n : ℕ) → digits_number base bytes ≡ Some n → IsNumber n
unfolding digits_number
digits_below base bytes n h = by (are_digits base bytes) (nat_lt (value_of base bytes) (2 ^ 64)) refl h
  where
    by : (a b : Bool) → nat_lt (value_of base bytes) (2 ^ 64) ≡ b → (if a && b then Some (value_of base bytes) else None) ≡ Some n → IsNumber n
    by true true e h =
        let same : value_of base bytes ≡ n = cc in
        let low : value_of base bytes < 2 ^ 64 = grind (arith, nat_tests, e) in
        rw (← same) low
    by true false e h = cc
    by false b e h = cc

kept_below : (base : ℕ) (bytes : List ℕ) (n : ℕ) (b : Bool) → (if b then digits_number base bytes else None) ≡ Some n → IsNumber n
kept_below base bytes n true h = digits_below base bytes n h
kept_below base bytes n false h = cc

number_below : (text : List ℕ) (n : ℕ) → number_of text ≡ Some n → IsNumber n
unfolding number_of
number_below text n h = by (is_prefixed text) h
  where
    by : (b : Bool) → (if b then hexadecimal_number (drop 2 text) else decimal_number text) ≡ Some n → IsNumber n
    by true h = kept_below 16 (drop 2 text) n (nat_le 1 (length (drop 2 text)) && nat_le (length (drop 2 text)) 16) h
    by false h = kept_below 10 text n (nat_le 1 (length text) && not (has_needless_zero text)) h

word_number : (word rest : List ℕ) (p : ℕ × List ℕ) → with_number rest (number_of word) ≡ Some p → IsNumber p.0
word_number word rest p h = by (number_of word) refl h
  where
    by : (o : Option ℕ) → number_of word ≡ o → with_number rest o ≡ Some p → IsNumber p.0
    by None e h = cc
    by (Some n) e h = let same : (n, rest) ≡ p = cc in subst (λ (q : ℕ × List ℕ). IsNumber q.0) same (number_below word n e)

next_below : (text : List ℕ) (p : ℕ × List ℕ) → next_number text ≡ Some p → IsNumber p.0
unfolding next_number
next_below text p h = let a = went (next_word text) (λ w. with_number w.1 (number_of w.0)) p h in word_number a.x.0 a.x.1 p a.then_

one_below : (text : List ℕ) (n : ℕ) → one_number text ≡ Some n → IsNumber n
unfolding one_number
one_below text n h =
    let a = went (next_number text) (λ p. where_true (is_blank p.1) p.0) n h in
    let b = tested (is_blank a.x.1) a.x.0 n a.then_ in
    let same : a.x.0 ≡ n = b.1 in
    rw (← same) (next_below text a.x a.first)

-- ---- kinds

made_span : (lo hi step : ℕ) → is_span lo hi step ≡ true → IsNumber hi → IsNumber step → IsSpan (record { lo = lo; hi = hi; by = step })
made_span lo hi step h high low =
    let a = and_parts (nat_lt 0 step) (nat_le lo hi && (hi - lo) % step == 0) h in
    let b = and_parts (nat_le lo hi) ((hi - lo) % step == 0) a.1 in
    record { proper = record { steps = grind (arith, nat_tests, a.0); order = grind (arith, nat_tests, b.0); whole = grind (arith, nat_tests, b.1) }; high = high; step = low }

one_span : (v : ℕ) → IsNumber v → IsSpan (one v)
one_span v h = record { proper = record { steps = omega arith; order = omega arith; whole = omega arith }; high = h; step = omega arith }

whole_span : IsSpan whole
whole_span = record { proper = record { steps = omega arith; order = omega arith; whole = refl }; high = omega arith; step = omega arith }

span_kept : (lo : ℕ) (text : List ℕ) (s : Span) → span_from lo text ≡ Some s → IsSpan s
unfolding span_from
span_kept lo text s h =
    let last : ℕ × List ℕ → ℕ → Option Span = λ hi step. where_true (is_span lo hi.0 step) (record { lo = lo; hi = hi.0; by = step }) in
    let a = went (next_number text) (λ hi. one_number hi.1 >>= last hi) s h in
    let b = went (one_number a.x.1) (last a.x) s a.then_ in
    let c = tested (is_span lo a.x.0 b.x) (record { lo = lo; hi = a.x.0; by = b.x }) s b.then_ in
    subst IsSpan c.1 (made_span lo a.x.0 b.x c.0 (next_below text a.x a.first) (one_below a.x.1 b.x b.first))

offsets_kept : (text : List ℕ) (s : Span) → offsets text ≡ Some s → IsSpan s
unfolding offsets
offsets_kept text s h =
    let a = went (next_number text) (λ p. if is_blank p.1 then Some (one p.0) else span_from p.0 p.1) s h in
    by a.x (next_below text a.x a.first) (is_blank a.x.1) a.then_
  where
    by : (p : ℕ × List ℕ) → IsNumber p.0 → (b : Bool) → (if b then Some (one p.0) else span_from p.0 p.1) ≡ Some s → IsSpan s
    by p low true h = let same : one p.0 ≡ s = cc in subst IsSpan same (one_span p.0 low)
    by p low false h = span_kept p.0 p.1 s h

number_kept : (regions : ℕ) (text : List ℕ) (kind : Kind) → number_kind text ≡ Some kind → IsKind regions kind
unfolding number_kind
number_kept regions text kind h = by (is_blank text) h
  where
    by : (b : Bool) → (if b then Some (Num whole) else (next_number text >>= λ p. span_from p.0 p.1 >>= λ s. Some (Num s))) ≡ Some kind → IsKind regions kind
    by true h = let same : Num whole ≡ kind = cc in subst (IsKind regions) same whole_span
    by false h =
        let a = went (next_number text) (λ p. span_from p.0 p.1 >>= λ s. Some (Num s)) kind h in
        let b = went (span_from a.x.0 a.x.1) (λ s. Some (Num s)) kind a.then_ in
        let same : Num b.x ≡ kind = cc in
        subst (IsKind regions) same (span_kept a.x.0 a.x.1 b.x b.first)

value_kept : (regions : ℕ) (text : List ℕ) (kind : Kind) → value_kind text ≡ Some kind → IsKind regions kind
unfolding value_kind
value_kept regions text kind h =
    let a = went (one_number text) (λ v. Some (Num (one v))) kind h in
    let same : Num (one a.x) ≡ kind = cc in
    subst (IsKind regions) same (one_span a.x (one_below text a.x a.first))

pointed_kept : (regions : ℕ) (text : List ℕ) (p : ℕ × Span) → pointed regions text ≡ Some p → (p.0 < regions) × IsSpan p.1
unfolding pointed
pointed_kept regions text p h =
    let last : List ℕ → ℕ → Option (ℕ × Span) = λ rest r. offsets rest >>= λ s. Some (r, s) in
    let a = went (next_number text) (λ q. where_true (nat_lt q.0 regions) q.0 >>= last q.1) p h in
    let b = went (where_true (nat_lt a.x.0 regions) a.x.0) (last a.x.1) p a.then_ in
    let t = tested (nat_lt a.x.0 regions) a.x.0 b.x b.first in
    let c = went (offsets a.x.1) (λ s. Some (b.x, s)) p b.then_ in
    let same : (b.x, c.x) ≡ p = cc in
    let test : nat_lt a.x.0 regions ≡ true = t.0 in
    let equal : a.x.0 ≡ b.x = t.1 in
    let low : b.x < regions = grind (arith, nat_tests, test, equal) in
    subst (λ (q : ℕ × Span). (q.0 < regions) × IsSpan q.1) {x = (b.x, c.x)} same (low, offsets_kept a.x.1 c.x c.first)

address_kept : (regions : ℕ) (text : List ℕ) (as_kind : ℕ → Span → Kind) (kind : Kind) → ((r : ℕ) (s : Span) → r < regions → IsSpan s → IsKind regions (as_kind r s)) → (pointed regions text >>= λ p. Some (as_kind p.0 p.1)) ≡ Some kind → IsKind regions kind
address_kept regions text as_kind kind f h =
    let a = went (pointed regions text) (λ p. Some (as_kind p.0 p.1)) kind h in
    let same : as_kind a.x.0 a.x.1 ≡ kind = cc in
    let k = pointed_kept regions text a.x a.first in
    subst (IsKind regions) same (f a.x.0 a.x.1 k.0 k.1)

any_kept : (regions : ℕ) (b : Bool) (kind : Kind) → where_true b Any ≡ Some kind → IsKind regions kind
any_kept regions b kind h = let t = tested b Any kind h in subst (IsKind regions) t.1 tt

by_kept : (word : List ℕ) (regions : ℕ) (rest : List ℕ) (kind : Kind) → kind_by word regions rest ≡ Some kind → IsKind regions kind
unfolding kind_by
by_kept word regions rest kind h = by (bytes_eq word (codes "any")) (bytes_eq word (codes "n")) (bytes_eq word (codes "c")) (bytes_eq word (codes "p")) (bytes_eq word (codes "o")) h
  where
    by : (a n c p o : Bool) → (if a then where_true (is_blank rest) Any else (if n then number_kind rest else (if c then value_kind rest else (if p then (pointed regions rest >>= λ p. Some (Ptr p.0 p.1)) else (if o then (pointed regions rest >>= λ p. Some (Opt p.0 p.1)) else None))))) ≡ Some kind → IsKind regions kind
    by true n c p o h = any_kept regions (is_blank rest) kind h
    by false true c p o h = number_kept regions rest kind h
    by false false true p o h = value_kept regions rest kind h
    by false false false true o h = address_kept regions rest Ptr kind (λ r s low k. (low, k)) h
    by false false false false true h = address_kept regions rest Opt kind (λ r s low k. (low, k)) h
    by false false false false false h = cc

kind_kept : (regions : ℕ) (text : List ℕ) (kind : Kind) → kind_of regions text ≡ Some kind → IsKind regions kind
unfolding kind_of
kind_kept regions text kind h = let a = went (next_word text) (λ p. kind_by p.0 regions p.1) kind h in by_kept a.x.0 regions a.x.1 kind a.then_

-- ---- regions and spans

record ReadsRegion (number : ℕ) (region : OwnRegion) : Type 0 where
  cell : region.cell_region < number
  at : IsNumber region.cell_at
  len : IsNumber region.len

region_kept : (number : ℕ) (text : List ℕ) (region : OwnRegion) → region_of number text ≡ Some region → ReadsRegion number region
unfolding region_of
region_kept number text region h =
    let last : ℕ × List ℕ → ℕ × List ℕ → ℕ → Option OwnRegion = λ r at len. where_true (nat_lt r.0 number) (record { cell_region = r.0; cell_at = at.0; len = len }) in
    let a = went (next_number text) (λ r. next_number r.1 >>= λ at. one_number at.1 >>= last r at) region h in
    let b = went (next_number a.x.1) (λ at. one_number at.1 >>= last a.x at) region a.then_ in
    let c = went (one_number b.x.1) (last a.x b.x) region b.then_ in
    let made : OwnRegion = record { cell_region = a.x.0; cell_at = b.x.0; len = c.x } in
    let t = tested (nat_lt a.x.0 number) made region c.then_ in
    let test : nat_lt a.x.0 number ≡ true = t.0 in
    let low : a.x.0 < number = grind (arith, nat_tests, test) in
    subst (ReadsRegion number) t.1 (record { cell = low; at = next_below a.x.1 b.x b.first; len = one_below b.x.1 c.x c.first })

num_class_kept : (regions len : ℕ) (kind : Kind) (class : Class) → IsKind regions kind → num_class len kind ≡ Some class → IsClass regions len class
num_class_kept regions len (Num s) class k h = let t = tested (is_width len) (classes.Num (Num s)) class h in subst (IsClass regions len) t.1 (t.0, k)
num_class_kept regions len Any class k h = cc
num_class_kept regions len (Ptr r s) class k h = cc
num_class_kept regions len (Opt r s) class k h = cc

is_eight : (len : ℕ) → (len == 8) ≡ true → len ≡ 8
is_eight len h = grind (arith, nat_tests, h)

convert_class_kept : (regions len : ℕ) (kind : Kind) (class : Class) → IsKind regions kind → convert_class len kind ≡ Some class → IsClass regions len class
convert_class_kept regions len (Ptr r s) class k h = let t = tested (len == 8) (classes.Convert (Ptr r s)) class h in subst (IsClass regions len) t.1 (is_eight len t.0, k)
convert_class_kept regions len (Opt r s) class k h = let t = tested (len == 8) (classes.Convert (Opt r s)) class h in subst (IsClass regions len) t.1 (is_eight len t.0, k)
convert_class_kept regions len Any class k h = cc
convert_class_kept regions len (Num s) class k h = cc

plain_class_kept : (regions len : ℕ) (b : Bool) (made class : Class) → IsClass regions len made → where_true b made ≡ Some class → IsClass regions len class
plain_class_kept regions len b made class k h = let t = tested b made class h in subst (IsClass regions len) t.1 k

fixed_class_kept : (regions len : ℕ) (b : Bool) (class : Class) → where_true (b && len == 8) classes.Fixed ≡ Some class → IsClass regions len class
fixed_class_kept regions len b class h =
    let t = tested (b && len == 8) classes.Fixed class h in
    let a = and_parts b (len == 8) t.0 in
    subst (IsClass regions len) t.1 (is_eight len a.1)

class_by_kept : (word : List ℕ) (regions len : ℕ) (rest : List ℕ) (class : Class) → class_by word regions len rest ≡ Some class → IsClass regions len class
unfolding class_by
class_by_kept word regions len rest class h = by (bytes_eq word (codes "code")) (bytes_eq word (codes "plain")) (bytes_eq word (codes "fixed")) (bytes_eq word (codes "num")) (bytes_eq word (codes "convert")) h
  where
    by : (a b c d e : Bool) → (if a then where_true (is_blank rest) classes.Code else (if b then where_true (is_blank rest) classes.Plain else (if c then where_true (is_blank rest && len == 8) classes.Fixed else (if d then (kind_of regions rest >>= num_class len) else (if e then (kind_of regions rest >>= convert_class len) else None))))) ≡ Some class → IsClass regions len class
    by true b c d e h = plain_class_kept regions len (is_blank rest) classes.Code class tt h
    by false true c d e h = plain_class_kept regions len (is_blank rest) classes.Plain class tt h
    by false false true d e h = fixed_class_kept regions len (is_blank rest) class h
    by false false false true e h = let a = went (kind_of regions rest) (num_class len) class h in num_class_kept regions len a.x class (kind_kept regions rest a.x a.first) a.then_
    by false false false false true h = let a = went (kind_of regions rest) (convert_class len) class h in convert_class_kept regions len a.x class (kind_kept regions rest a.x a.first) a.then_
    by false false false false false h = cc

class_kept : (regions len : ℕ) (text : List ℕ) (class : Class) → class_of regions len text ≡ Some class → IsClass regions len class
unfolding class_of
class_kept regions len text class h = let a = went (next_word text) (λ p. class_by p.0 regions len p.1) class h in class_by_kept a.x.0 regions len a.x.1 class a.then_

stretch_kept : (regions : ℕ) (text : List ℕ) (span : CertSpan) → span_of regions text ≡ Some span → IsStretch regions span
unfolding span_of
stretch_kept regions text span h =
    let made : ℕ → ℕ → ℕ → Class → Option CertSpan = λ r at len class. Some (record { region = r; at = at; len = len; class = class }) in
    let last : ℕ → ℕ × List ℕ → ℕ × List ℕ → Option CertSpan = λ r at len. class_of regions len.0 len.1 >>= made r at.0 len.0 in
    let a = went (next_number text) (λ r. where_true (nat_lt r.0 regions) r.1 >>= λ rest. next_number rest >>= λ at. next_number at.1 >>= last r.0 at) span h in
    let b = went (where_true (nat_lt a.x.0 regions) a.x.1) (λ rest. next_number rest >>= λ at. next_number at.1 >>= last a.x.0 at) span a.then_ in
    let t = tested (nat_lt a.x.0 regions) a.x.1 b.x b.first in
    let c = went (next_number b.x) (λ at. next_number at.1 >>= last a.x.0 at) span b.then_ in
    let d = went (next_number c.x.1) (last a.x.0 c.x) span c.then_ in
    let e = went (class_of regions d.x.0 d.x.1) (made a.x.0 c.x.0 d.x.0) span d.then_ in
    let whole_span : CertSpan = record { region = a.x.0; at = c.x.0; len = d.x.0; class = e.x } in
    let same : whole_span ≡ span = cc in
    let test : nat_lt a.x.0 regions ≡ true = t.0 in
    let low : a.x.0 < regions = grind (arith, nat_tests, test) in
    subst (IsStretch regions) same (record { region = low; at = next_below b.x c.x c.first; len = next_below c.x.1 d.x d.first; class = class_kept regions d.x.0 d.x.1 e.x e.first })

-- ---- registers

register_below : (names : List (List ℕ)) (n : ℕ) (text : List ℕ) (reg : ℕ) → register_from n names text ≡ Some reg → reg < n + length names
register_below [] n text reg h = cc
register_below (name ∷ names) n text reg h = by (bytes_eq name text) (λ k. register_below names (n + 1) text reg k) h
  where
    by : (b : Bool) → (register_from (n + 1) names text ≡ Some reg → reg < n + 1 + length names) → (if b then Some n else register_from (n + 1) names text) ≡ Some reg → reg < n + length (name ∷ names)
    by true f h = let same : n ≡ reg = cc in omega (arith, same)
    by false f h = omega (arith, f h)

register_kept : (text : List ℕ) (reg : ℕ) → register text ≡ Some reg → reg < 32
unfolding register register_names
register_kept text reg h = register_below register_names 0 text reg h

record ReadsRegister (regions : ℕ) (before : List RegKind) (k : RegKind) : Type 0 where
  reg : k.reg < 32
  new : has_register before k.reg ≡ false
  kind : IsKind regions k.kind

was_false : (b : Bool) → not b ≡ true → b ≡ false
was_false true h = cc
was_false false h = refl

next_register_kept : (regions : ℕ) (before : List RegKind) (part : List ℕ) (k : RegKind) → next_register regions before part ≡ Some k → ReadsRegister regions before k
unfolding reg_kind
next_register_kept regions before part k h =
    let made : ℕ → Kind → Option RegKind = λ reg kind. Some (record { reg = reg; kind = kind }) in
    let a = went (reg_kind regions part) (new_register before) k h in
    let t = tested (not (has_register before a.x.reg)) a.x k a.then_ in
    let b = went (next_word part) (λ p. register p.0 >>= λ reg. kind_of regions p.1 >>= made reg) a.x a.first in
    let c = went (register b.x.0) (λ reg. kind_of regions b.x.1 >>= made reg) a.x b.then_ in
    let d = went (kind_of regions b.x.1) (made c.x) a.x c.then_ in
    let both : RegKind = record { reg = c.x; kind = d.x } in
    let same : both ≡ a.x = cc in
    let new : has_register before a.x.reg ≡ false = was_false (has_register before a.x.reg) t.0 in
    subst (ReadsRegister regions before) (same ∙ t.1) (record { reg = register_kept b.x.0 c.x c.first; new = ap (λ (r : RegKind). has_register before r.reg) same ∙ new; kind = kind_kept regions b.x.1 d.x d.first })

record Registers (regions : ℕ) (before kinds : List RegKind) : Type 0 where
  added : List RegKind
  same : kinds ≡ before ++ added
  keep : AreRegisters regions before added

registers_kept : (regions : ℕ) (before : List RegKind) (texts : List (List ℕ)) (kinds : List RegKind) → registers_of regions before texts ≡ Some kinds → Registers regions before kinds
unfolding registers_of
registers_kept regions before [] kinds h = let e : before ≡ kinds = cc in record { added = []; same = sym e ∙ sym (append-nil before); keep = tt }
registers_kept regions before (part ∷ texts) kinds h =
    let p = went (next_register regions before part) (λ k. registers_of regions (before ++ k ∷ []) texts) kinds h in
    let first = next_register_kept regions before part p.x p.first in
    let rest = registers_kept regions (before ++ p.x ∷ []) texts kinds p.then_ in
    record { added = p.x ∷ rest.added; same = rest.same ∙ append_assoc before (p.x ∷ []) rest.added; keep = (first.reg, first.new, first.kind, rest.keep) }

all_registers : (regions : ℕ) (texts : List (List ℕ)) (kinds : List RegKind) → registers_of regions [] texts ≡ Some kinds → AreRegisters regions [] kinds
all_registers regions texts kinds h = let r = registers_kept regions [] texts kinds h in subst (AreRegisters regions []) (sym r.same) r.keep

-- ---- the stack

record ReadsPart (regions : ℕ) (before : List StackPart) (part : StackPart) : Type 0 where
  whole_part : IsPart regions part
  apart : meets_none before part.at part.width ≡ true

pub part_kept : (regions : ℕ) (text : List ℕ) (part : StackPart) → stack_part regions text ≡ Some part → IsPart regions part
unfolding stack_part
part_kept regions text part h =
    let made : ℕ → ℕ → Kind → Option StackPart = λ at width kind. Some (record { at = at; width = width; kind = kind }) in
    let fit : ℕ → ℕ → Bool = λ at width. is_width width && at % width == 0 in
    let a = went (next_number text) (λ at. next_number at.1 >>= λ width. where_true (fit at.0 width.0) width.1 >>= λ rest. kind_of regions rest >>= made at.0 width.0) part h in
    let b = went (next_number a.x.1) (λ width. where_true (fit a.x.0 width.0) width.1 >>= λ rest. kind_of regions rest >>= made a.x.0 width.0) part a.then_ in
    let c = went (where_true (fit a.x.0 b.x.0) b.x.1) (λ rest. kind_of regions rest >>= made a.x.0 b.x.0) part b.then_ in
    let t = tested (fit a.x.0 b.x.0) b.x.1 c.x c.first in
    let d = went (kind_of regions c.x) (made a.x.0 b.x.0) part c.then_ in
    let whole_part : StackPart = record { at = a.x.0; width = b.x.0; kind = d.x } in
    let same : whole_part ≡ part = cc in
    let both = and_parts (is_width b.x.0) (a.x.0 % b.x.0 == 0) t.0 in
    subst (IsPart regions) same (record { at = next_below text a.x a.first; width = both.0; aligned = grind (arith, nat_tests, both.1); kind = kind_kept regions c.x d.x d.first })

next_part_kept : (regions : ℕ) (before : List StackPart) (text : List ℕ) (part : StackPart) → next_part regions before text ≡ Some part → ReadsPart regions before part
next_part_kept regions before text part h =
    let a = went (stack_part regions text) (new_part before) part h in
    let t = tested (meets_none before a.x.at a.x.width) a.x part a.then_ in
    subst (ReadsPart regions before) t.1 (record { whole_part = part_kept regions text a.x a.first; apart = t.0 })

record Parts (regions : ℕ) (before all : List StackPart) : Type 0 where
  added : List StackPart
  same : all ≡ before ++ added
  keep : AreParts regions before added

parts_kept : (regions : ℕ) (before : List StackPart) (texts : List (List ℕ)) (all : List StackPart) → stack_of regions before texts ≡ Some all → Parts regions before all
unfolding stack_of
parts_kept regions before [] all h = let e : before ≡ all = cc in record { added = []; same = sym e ∙ sym (append-nil before); keep = tt }
parts_kept regions before (text ∷ texts) all h =
    let p = went (next_part regions before text) (λ k. stack_of regions (before ++ k ∷ []) texts) all h in
    let first = next_part_kept regions before text p.x p.first in
    let rest = parts_kept regions (before ++ p.x ∷ []) texts all p.then_ in
    record { added = p.x ∷ rest.added; same = rest.same ∙ append_assoc before (p.x ∷ []) rest.added; keep = (first.whole_part, first.apart, rest.keep) }

all_parts : (regions : ℕ) (texts : List (List ℕ)) (all : List StackPart) → stack_of regions [] texts ≡ Some all → AreParts regions [] all
all_parts regions texts all h = let r = parts_kept regions [] texts all h in subst (AreParts regions []) (sym r.same) r.keep

-- ---- numbers of nodes and cells

index_kept : (bound : ℕ) (o : Option ℕ) (n : ℕ) → index_below bound o ≡ Some n → n < bound
index_kept bound None n h = cc
index_kept bound (Some m) n h =
    let t = tested (nat_lt m bound) m n h in
    let test : nat_lt m bound ≡ true = t.0 in
    let same : m ≡ n = t.1 in
    grind (arith, nat_tests, test, same)

record Indices (bound : ℕ) (before all : List ℕ) : Type 0 where
  added : List ℕ
  same : all ≡ before ++ added
  keep : AreBelow bound added

indices_kept : (bound : ℕ) (before : List ℕ) (words : List (List ℕ)) (all : List ℕ) → indices_of bound before words ≡ Some all → Indices bound before all
unfolding indices_of
indices_kept bound before [] all h = let e : before ≡ all = cc in record { added = []; same = sym e ∙ sym (append-nil before); keep = tt }
indices_kept bound before (word ∷ words) all h = by (length word == 0) (λ front k. indices_kept bound front words all k) h
  where
    by : (b : Bool) → ((front : List ℕ) → indices_of bound front words ≡ Some all → Indices bound front all) → (if b then indices_of bound before words else (index_below bound (number_of word) >>= λ n. indices_of bound (before ++ n ∷ []) words)) ≡ Some all → Indices bound before all
    by true f h = f before h
    by false f h =
        let p = went (index_below bound (number_of word)) (λ n. indices_of bound (before ++ n ∷ []) words) all h in
        let rest = f (before ++ p.x ∷ []) p.then_ in
        record { added = p.x ∷ rest.added; same = rest.same ∙ append_assoc before (p.x ∷ []) rest.added; keep = (index_kept bound (number_of word) p.x p.first, rest.keep) }

all_indices : (bound : ℕ) (text : List ℕ) (all : List ℕ) → indices bound text ≡ Some all → AreBelow bound all
unfolding indices
all_indices bound text all h = let r = indices_kept bound [] (slice_split (λ b. b == 32) text) all h in subst (AreBelow bound) (sym r.same) r.keep

-- ---- entries and nodes

name_kept : (text : List ℕ) (p : List ℕ × List ℕ) → name_of text ≡ Some p → is_name p.0 ≡ true
unfolding name_of
name_kept text p h =
    let a = went (next_word text) (λ q. where_true (is_name q.0) q) p h in
    let t = tested (is_name a.x.0) a.x p a.then_ in
    subst (λ (q : List ℕ × List ℕ). is_name q.0 ≡ true) t.1 t.0

entry_kept : (counts : Counts) (text : List ℕ) (entry : Entry) → entry_of counts text ≡ Some entry → IsEntry counts entry
unfolding entry_of
entry_kept counts text entry h =
    let made : List ℕ → ℕ → List RegKind → Option Entry = λ name node kinds. Some (record { name = name; node = node; arg_kinds = kinds }) in
    let last : List ℕ → List ℕ → ℕ → Option Entry = λ text name node. registers_of counts.regions [] (listed text) >>= made name node in
    let a = went (cut 59 text) (λ parts. name_of parts.0 >>= λ name. index_below counts.nodes (one_number name.1) >>= last parts.1 name.0) entry h in
    let b = went (name_of a.x.0) (λ name. index_below counts.nodes (one_number name.1) >>= last a.x.1 name.0) entry a.then_ in
    let c = went (index_below counts.nodes (one_number b.x.1)) (last a.x.1 b.x.0) entry b.then_ in
    let d = went (registers_of counts.regions [] (listed a.x.1)) (made b.x.0 c.x) entry c.then_ in
    let whole_entry : Entry = record { name = b.x.0; node = c.x; arg_kinds = d.x } in
    let same : whole_entry ≡ entry = cc in
    subst (IsEntry counts) same (record { name = name_kept a.x.0 b.x b.first; node = index_kept counts.nodes (one_number b.x.1) c.x c.first; arg_kinds = all_registers counts.regions (listed a.x.1) d.x d.first })

node_kept : (counts : Counts) (text : List ℕ) (node : Node) → node_of counts text ≡ Some node → IsNode counts node
unfolding node_of
node_kept counts text node h =
    let made : ℕ → List RegKind → List StackPart → List ℕ → List ℕ → Option Node = λ at regs stack next done. Some (record { at = at; regs = regs; stack = stack; next = next; done = done }) in
    let from_next : Fields → ℕ → List RegKind → List StackPart → List ℕ → Option Node = λ f at regs stack next. indices counts.cells f.done >>= made at regs stack next in
    let from_stack : Fields → ℕ → List RegKind → List StackPart → Option Node = λ f at regs stack. indices counts.nodes f.next >>= from_next f at regs stack in
    let from_regs : Fields → ℕ → List RegKind → Option Node = λ f at regs. stack_of counts.regions [] (listed f.stack) >>= from_stack f at regs in
    let a = went (fields_of text) (λ f. one_number f.at >>= λ at. registers_of counts.regions [] (listed f.regs) >>= from_regs f at) node h in
    let b = went (one_number a.x.at) (λ at. registers_of counts.regions [] (listed a.x.regs) >>= from_regs a.x at) node a.then_ in
    let c = went (registers_of counts.regions [] (listed a.x.regs)) (from_regs a.x b.x) node b.then_ in
    let d = went (stack_of counts.regions [] (listed a.x.stack)) (from_stack a.x b.x c.x) node c.then_ in
    let e = went (indices counts.nodes a.x.next) (from_next a.x b.x c.x d.x) node d.then_ in
    let f = went (indices counts.cells a.x.done) (made b.x c.x d.x e.x) node e.then_ in
    let whole_node : Node = record { at = b.x; regs = c.x; stack = d.x; next = e.x; done = f.x } in
    let same : whole_node ≡ node = cc in
    subst (IsNode counts) same (record { at = one_below a.x.at b.x b.first; regs = all_registers counts.regions (listed a.x.regs) c.x c.first; stack = all_parts counts.regions (listed a.x.stack) d.x d.first; next = all_indices counts.nodes a.x.next e.x e.first; done = all_indices counts.cells a.x.done f.x f.first })

-- ---- lists

record ReadItems {A : Type 0} (Keeps : List A → List A → Type 0) (before all : List A) (count : ℕ) : Type 0 where
  added : List A
  same : all ≡ before ++ added
  keep : Keeps before added
  long : length added ≡ count

module _ {A : Type 0} (part : Part) (form : List A → Data → Option A) (Keeps : List A → List A → Type 0) (Is : List A → A → Type 0)
    (none : (before : List A) → Keeps before []) (more : (before : List A) (x : A) (xs : List A) → Is before x → Keeps (before ++ x ∷ []) xs → Keeps before (x ∷ xs))
    (one_kept : (before : List A) (content : Data) (x : A) → form before content ≡ Some x → Is before x) where
  items_kept : (before : List A) (items : Items) (all : List A) → items_of part form before items ≡ Ok all → ReadItems Keeps before all (items_len items)
  unfolding items_of
  items_kept before no_items all h = let e : before ≡ all = cc in record { added = []; same = sym e ∙ sym (append-nil before); keep = none before; long = refl }
  items_kept before (item content items) all h =
      let p = was_there (part, length before) (form before content) (λ x. items_of part form (before ++ x ∷ []) items) all h in
      let rest = items_kept (before ++ p.x ∷ []) items all p.then_ in
      record { added = p.x ∷ rest.added; same = rest.same ∙ append_assoc before (p.x ∷ []) rest.added; keep = more before p.x rest.added (one_kept before content p.x p.first) rest.keep; long = omega (arith, rest.long) }

  all_kept : (items : Items) (all : List A) → items_of part form [] items ≡ Ok all → Keeps [] all × (length all ≡ items_len items)
  all_kept items all h = let r = items_kept [] items all h in let same : all ≡ r.added = r.same in (subst (Keeps []) (sym same) r.keep, ap length same ∙ r.long)

abbrev RegionsBehind : List OwnRegion → List OwnRegion → Type 0
RegionsBehind before regions = AreRegions (6 + length before) regions

one_region : (before : List OwnRegion) (content : Data) (region : OwnRegion) → region_at before content ≡ Some region → ReadsRegion (6 + length before) region
unfolding region_at region_in
one_region before content region h = let a = went (as_str content) (region_of (6 + length before)) region h in region_kept (6 + length before) a.x region a.then_

more_regions : (before : List OwnRegion) (region : OwnRegion) (regions : List OwnRegion) → ReadsRegion (6 + length before) region → RegionsBehind (before ++ region ∷ []) regions → RegionsBehind before (region ∷ regions)
more_regions before region regions r k =
    let next : 6 + length (before ++ region ∷ []) ≡ 6 + length before + 1 = omega (arith, length-append before (region ∷ [])) in
    (r.cell, r.at, r.len, subst (λ n. AreRegions n regions) next k)

regions_kept : (items : Items) (all : List OwnRegion) → items_of parts.Regions region_at [] items ≡ Ok all → AreRegions 6 all × (length all ≡ items_len items)
regions_kept items all h = all_kept parts.Regions region_at RegionsBehind (λ before region. ReadsRegion (6 + length before) region) (λ before. tt) more_regions one_region items all h

one_stretch : (regions : ℕ) (before : List CertSpan) (content : Data) (span : CertSpan) → span_at regions before content ≡ Some span → IsStretch regions span
unfolding span_at
one_stretch regions before content span h = let a = went (as_str content) (span_of regions) span h in stretch_kept regions a.x span a.then_

spans_kept : (regions : ℕ) (items : Items) (all : List CertSpan) → items_of parts.Spans (span_at regions) [] items ≡ Ok all → AreSpans regions all × (length all ≡ items_len items)
spans_kept regions items all h = all_kept parts.Spans (span_at regions) (λ before spans. AreSpans regions spans) (λ before span. IsStretch regions span) (λ before. tt) (λ before span spans k l. (k, l)) (one_stretch regions) items all h

one_entry : (counts : Counts) (before : List Entry) (content : Data) (entry : Entry) → entry_at counts before content ≡ Some entry → IsEntry counts entry
unfolding entry_at
one_entry counts before content entry h = let a = went (as_str content) (entry_of counts) entry h in entry_kept counts a.x entry a.then_

entries_kept : (counts : Counts) (items : Items) (all : List Entry) → items_of parts.Entries (entry_at counts) [] items ≡ Ok all → AreEntries counts all × (length all ≡ items_len items)
entries_kept counts items all h = all_kept parts.Entries (entry_at counts) (λ before entries. AreEntries counts entries) (λ before entry. IsEntry counts entry) (λ before. tt) (λ before entry entries k l. (k, l)) (one_entry counts) items all h

number_in : (nodes : ℕ) (content : Data) (n : ℕ) → node_number nodes content ≡ Some n → n < nodes
number_in nodes (integer (pos m)) n h =
    let t = tested (nat_lt m nodes) m n h in
    let test : nat_lt m nodes ≡ true = t.0 in
    let same : m ≡ n = t.1 in
    grind (arith, nat_tests, test, same)
number_in nodes (integer (negsuc m)) n h = cc
number_in nodes (string s) n h = cc
number_in nodes (float x) n h = cc
number_in nodes (boolean b) n h = cc
number_in nodes (datetime d) n h = cc
number_in nodes (array ds) n h = cc
number_in nodes (table ms) n h = cc

one_notify : (nodes : ℕ) (before : List ℕ) (content : Data) (n : ℕ) → notify_at nodes before content ≡ Some n → n < nodes
unfolding notify_at
one_notify nodes before content n h = number_in nodes content n h

notify_kept : (nodes : ℕ) (items : Items) (all : List ℕ) → items_of parts.Notify (notify_at nodes) [] items ≡ Ok all → AreBelow nodes all × (length all ≡ items_len items)
notify_kept nodes items all h = all_kept parts.Notify (notify_at nodes) (λ before numbers. AreBelow nodes numbers) (λ before n. n < nodes) (λ before. tt) (λ before n numbers k l. (k, l)) (one_notify nodes) items all h

one_node : (counts : Counts) (before : List Node) (content : Data) (node : Node) → node_at counts before content ≡ Some node → IsNode counts node
unfolding node_at
one_node counts before content node h = let a = went (as_str content) (node_of counts) node h in node_kept counts a.x node a.then_

nodes_kept : (counts : Counts) (items : Items) (all : List Node) → items_of parts.Nodes (node_at counts) [] items ≡ Ok all → AreNodes counts all × (length all ≡ items_len items)
nodes_kept counts items all h = all_kept parts.Nodes (node_at counts) (λ before nodes. AreNodes counts nodes) (λ before node. IsNode counts node) (λ before. tt) (λ before node nodes k l. (k, l)) (one_node counts) items all h

-- ---- the whole

few_kept : (most : ℕ) (items kept : Items) → at_most most items ≡ Some kept → items_len kept ≤ most
few_kept most items kept h = by (nat_lt most (items_len items)) refl h
  where
    by : (b : Bool) → nat_lt most (items_len items) ≡ b → (if b then None else Some items) ≡ Some kept → items_len kept ≤ most
    by true e h = cc
    by false e h =
        let same : items ≡ kept = cc in
        let few : items_len items ≤ most = grind (arith, nat_tests, e) in
        rw (← same) few

few_in : (most : ℕ) (content : Option Data) (kept : Items) → list_in most content ≡ Some kept → items_len kept ≤ most
few_in most (Some (array items)) kept h = few_kept most items kept h
few_in most (Some (string s)) kept h = cc
few_in most (Some (integer n)) kept h = cc
few_in most (Some (float x)) kept h = cc
few_in most (Some (boolean b)) kept h = cc
few_in most (Some (datetime d)) kept h = cc
few_in most (Some (table ms)) kept h = cc
few_in most None kept h = cc

few_at : (key : List ℕ) (most : ℕ) (document : Members) (kept : Items) → list_field key most document ≡ Some kept → items_len kept ≤ most
unfolding list_field
few_at key most document kept h = few_in most (get_member key document) kept h

record FewItems (lists : Lists) : Type 0 where
  regions : items_len lists.regions ≤ 26
  spans : items_len lists.spans ≤ 4096
  entries : items_len lists.entries ≤ 64
  notify : items_len lists.notify ≤ 16
  nodes : items_len lists.nodes ≤ 4096

abbrev all_lists : Items → Items → Items → Items → Items → Option Lists
all_lists regions spans entries notify nodes = Some (record { regions = regions; spans = spans; entries = entries; notify = notify; nodes = nodes })

abbrev lists_behind : Members → Option Lists
lists_behind document =
    list_field (codes "regions") 26 document >>= λ regions. list_field (codes "spans") 4096 document >>= λ spans. list_field (codes "entries") 64 document >>= λ entries.
    list_field (codes "notify") 16 document >>= λ notify. list_field (codes "nodes") 4096 document >>= all_lists regions spans entries notify

lists_few : (document : Members) (lists : Lists) → lists_behind document ≡ Some lists → FewItems lists
lists_few document lists h =
    let from_notify : Items → Items → Items → Items → Option Lists = λ regions spans entries notify. list_field (codes "nodes") 4096 document >>= all_lists regions spans entries notify in
    let from_entries : Items → Items → Items → Option Lists = λ regions spans entries. list_field (codes "notify") 16 document >>= from_notify regions spans entries in
    let from_spans : Items → Items → Option Lists = λ regions spans. list_field (codes "entries") 64 document >>= from_entries regions spans in
    let a = went (list_field (codes "regions") 26 document) (λ regions. list_field (codes "spans") 4096 document >>= from_spans regions) lists h in
    let b = went (list_field (codes "spans") 4096 document) (from_spans a.x) lists a.then_ in
    let c = went (list_field (codes "entries") 64 document) (from_entries a.x b.x) lists b.then_ in
    let d = went (list_field (codes "notify") 16 document) (from_notify a.x b.x c.x) lists c.then_ in
    let e = went (list_field (codes "nodes") 4096 document) (all_lists a.x b.x c.x d.x) lists d.then_ in
    let made : Lists = record { regions = a.x; spans = b.x; entries = c.x; notify = d.x; nodes = e.x } in
    let same : made ≡ lists = cc in
    subst FewItems same (record {
      regions = few_at (codes "regions") 26 document a.x a.first;
      spans = few_at (codes "spans") 4096 document b.x b.first;
      entries = few_at (codes "entries") 64 document c.x c.first;
      notify = few_at (codes "notify") 16 document d.x d.first;
      nodes = few_at (codes "nodes") 4096 document e.x e.first;
    })

lists_kept : (document : Members) (lists : Lists) → lists_of document ≡ Some lists → FewItems lists
unfolding lists_of
lists_kept document lists h = by (only_keys (codes "regions" ∷ codes "spans" ∷ codes "entries" ∷ codes "notify" ∷ codes "nodes" ∷ []) document) h
  where
    by : (b : Bool) → (if b then lists_behind document else None) ≡ Some lists → FewItems lists
    by true h = lists_few document lists h
    by false h = cc

whole_kept : (lists : Lists) (cert : Plain) → FewItems lists → with_lists lists ≡ Ok cert → IsCert cert
unfolding with_lists with_counts
whole_kept lists cert few h =
    let regions = went_on (items_of parts.Regions region_at [] lists.regions) (λ regions. items_of parts.Spans (span_at (6 + length regions)) [] lists.spans >>> λ spans. with_counts lists (counts_of lists regions spans) regions spans) cert h in
    let spans = went_on (items_of parts.Spans (span_at (6 + length regions.x)) [] lists.spans) (λ spans. with_counts lists (counts_of lists regions.x spans) regions.x spans) cert regions.then_ in
    let counts : Counts = counts_of lists regions.x spans.x in
    let made : List Entry → List ℕ → List Node → Result Plain Place = λ entries notify nodes. Ok (record { regions = regions.x; spans = spans.x; entries = entries; notify = notify; nodes = nodes }) in
    let from_notify : List Entry → List ℕ → Result Plain Place = λ entries notify. items_of parts.Nodes (node_at counts) [] lists.nodes >>> made entries notify in
    let entries = went_on (items_of parts.Entries (entry_at counts) [] lists.entries) (λ entries. items_of parts.Notify (notify_at counts.nodes) [] lists.notify >>> from_notify entries) cert spans.then_ in
    let notify = went_on (items_of parts.Notify (notify_at counts.nodes) [] lists.notify) (from_notify entries.x) cert entries.then_ in
    let nodes = went_on (items_of parts.Nodes (node_at counts) [] lists.nodes) (made entries.x notify.x) cert notify.then_ in
    let whole_cert : Plain = record { regions = regions.x; spans = spans.x; entries = entries.x; notify = notify.x; nodes = nodes.x } in
    let same : whole_cert ≡ cert = cc in
    let r = regions_kept lists.regions regions.x regions.first in
    let s = spans_kept (6 + length regions.x) lists.spans spans.x spans.first in
    let e = entries_kept counts lists.entries entries.x entries.first in
    let n = notify_kept counts.nodes lists.notify notify.x notify.first in
    let o = nodes_kept counts lists.nodes nodes.x nodes.first in
    let named : counts ≡ record { regions = 6 + length regions.x; nodes = length nodes.x; cells = cells_in spans.x } = ap (λ k. record { regions = 6 + length regions.x; nodes = k; cells = cells_in spans.x }) (sym o.1) in
    let long_regions : length regions.x ≡ items_len lists.regions = r.1 in
    let long_spans : length spans.x ≡ items_len lists.spans = s.1 in
    let long_entries : length entries.x ≡ items_len lists.entries = e.1 in
    let long_notify : length notify.x ≡ items_len lists.notify = n.1 in
    let long_nodes : length nodes.x ≡ items_len lists.nodes = o.1 in
    subst IsCert same (record {
      few_regions = rw long_regions few.regions;
      few_spans = rw long_spans few.spans;
      few_entries = rw long_entries few.entries;
      few_notify = rw long_notify few.notify;
      few_nodes = rw long_nodes few.nodes;
      regions = r.0;
      spans = s.0;
      entries = subst (λ k. AreEntries k entries.x) named e.0;
      notify = subst (λ k. AreBelow k notify.x) (sym long_nodes) n.0;
      nodes = subst (λ k. AreNodes k nodes.x) named o.0;
    })

lists_read : (document : Members) (cert : Plain) → of_lists (lists_of document) ≡ Ok cert → IsCert cert
lists_read document cert h = by (lists_of document) refl h
  where
    by : (o : Option Lists) → lists_of document ≡ o → of_lists o ≡ Ok cert → IsCert cert
    by None e h = cc
    by (Some lists) e h = whole_kept lists cert (lists_kept document lists e) h

document_read : (document : Option Members) (cert : Plain) → of_document document ≡ Ok cert → IsCert cert
document_read None cert h = cc
document_read (Some document) cert h = lists_read document cert h

pub keeps_forms : CertsKeepForms
unfolding cert_in
keeps_forms bytes cert h = by (is_utf8 bytes) h
  where
    by : (text : Bool) → (if text then of_document (parse_document bytes) else Err (parts.Text, 0)) ≡ Ok cert → IsCert cert
    by true h = document_read (parse_document bytes) cert h
    by false h = cc
