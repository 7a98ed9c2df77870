-- Texts that are written are read back: regions, spans, registers, parts of a stack, entries and nodes.
use Rattle.std.proofs.Common.{◌≡◌, ℕ, zero, suc, ◌+◌, ◌%◌, ◌<◌, ◌≤◌, Bool, true, false, ◌&&◌, ◌||◌, nat_lt, nat_le, List, [], ◌∷◌, ◌++◌, length, drop, map, codes, Option, Some, None, refl, sym, ap, ◌∙◌, append-nil, append_assoc, length-append, arith}
use Rattle.std.specs.Prelude.{if◌then◌else◌, ◌==◌, not}
use Rattle.std.specs.Fmt.{decimal}
use Rattle.std.specs.List.{All, position_or_len, slice_split, slice_get, list_all}
use Rattle.std.proofs.Math.Seq.{take-append_seam, drop-append-add}
use Rattle.std.proofs.lemmas.List.Elements.{All-nil, All-cons}
use Rattle.std.proofs.lemmas.List.Splits.{slice_split_none, slice_split_at}
use Rattle.std.proofs.lemmas.Bool.{and_parts}
use Rattle.std.proofs.lemmas.Bool.Decides.{nat_tests}
use Rattle.uh_base.specs.Names.{is_name_byte, is_name}
use Rattle.rv_decode.specs.Texts.{or_empty, register_names, register_name}
use Rattle.prov_types.specs.declared.kinds.Span.{Span}
use Rattle.prov_types.specs.declared.kinds.Kind.{Kind}
use Rattle.prov_types.specs.declared.kinds.Kind.TheVariants.{Any, Num, Ptr, Opt}
use Rattle.prov_cert.specs.declared.cert.OwnRegion.{OwnRegion}
use Rattle.prov_cert.specs.declared.cert.CertSpan.{CertSpan}
use Rattle.prov_cert.specs.declared.cert.Class.{Class}
use Rattle.prov_cert.specs.declared.cert.Class.TheVariants as classes
use Rattle.prov_cert.specs.declared.cert.RegKind.{RegKind}
use Rattle.prov_cert.specs.declared.cert.StackPart.{StackPart}
use Rattle.prov_cert.specs.Cert.{Entry, Node}
use Rattle.prov_cert.specs.Words.{◌>>=◌, is_blank, cut, listed}
use Rattle.prov_cert.specs.Forms.{kind_of, region_of, is_width, num_class, convert_class, class_by, class_of, span_of, register, reg_kind, registers_of, stack_part, stack_of, indices_of, indices, Counts, name_of, entry_of, fields_of, node_of}
use Rattle.prov_cert.specs.Kept.{IsNumber, IsSpan, IsKind, IsNumberKind, IsAddressKind, IsClass, IsStretch, AreRegisters, IsPart, AreParts, AreBelow, IsEntry, IsNode}
use Rattle.prov_cert.specs.Back.{AreFew}
use Rattle.prov_cert.specs.Texts.{spaced, each, with_commas, is_one, is_whole, span_text, offsets_text, number_text, kind_text, region_text, class_text, stretch_text, register_text, part_text, registers_text, stack_text, indices_text, before_semicolon, entry_text, node_text}
use Rattle.prov_cert.proofs.BackLemmas.{Are, are-append, are-more, no_space, IsWord, word_are, word_front, not_zero, next_word_at, next_word_space, kind_of_space, blank_space, blank_nil, decimal_word, ReadBack, below_true, number_at, number_behind, number_alone, number_last, kind_back}

-- ---- register names

abbrev is_number : ℕ → Option ℕ → Bool
is_number n None = false
is_number n (Some m) = m == n

abbrev is_word_test : List ℕ → Bool
is_word_test [] = false
is_word_test (b ∷ bs) = is_name_byte b && list_all is_name_byte bs

abbrev names_test : ℕ → List (List ℕ) → Bool
names_test n [] = true
names_test n (name ∷ names) = is_number n (register name) && (is_word_test name && names_test (suc n) names)

names_pass : names_test 0 register_names ≡ true
unfolding register register_names
names_pass = refl

names_are_32 : length register_names ≡ 32
unfolding register_names
names_are_32 = refl

is_that : (n : ℕ) (o : Option ℕ) → is_number n o ≡ true → o ≡ Some n
is_that n None h = cc
is_that n (Some m) h = let same : m ≡ n = grind (arith, nat_tests, h) in ap Some same

are_all : (bs : List ℕ) → list_all is_name_byte bs ≡ true → Are is_name_byte bs
are_all [] h = tt
are_all (b ∷ bs) h = let p = and_parts (is_name_byte b) (list_all is_name_byte bs) h in (p.0, are_all bs p.1)

word_passes : (w : List ℕ) → is_word_test w ≡ true → IsWord w
word_passes [] h = cc
word_passes (b ∷ bs) h = let p = and_parts (is_name_byte b) (list_all is_name_byte bs) h in (p.0, are_all bs p.1)

named : (n : ℕ) (names : List (List ℕ)) → names_test n names ≡ true → (k : ℕ) → k < length names → (register (or_empty (slice_get names k)) ≡ Some (n + k)) × IsWord (or_empty (slice_get names k))
named n [] h k l = absurd (omega (arith, l))
named n (name ∷ names) h zero l =
    let p = and_parts (is_number n (register name)) (is_word_test name && names_test (suc n) names) h in
    let q = and_parts (is_word_test name) (names_test (suc n) names) p.1 in
    let e : n ≡ n + 0 = omega arith in
    (is_that n (register name) p.0 ∙ ap Some e, word_passes name q.0)
named n (name ∷ names) h (suc k) l =
    let p = and_parts (is_number n (register name)) (is_word_test name && names_test (suc n) names) h in
    let q = and_parts (is_word_test name) (names_test (suc n) names) p.1 in
    let r = named (suc n) names q.1 k (omega (arith, l)) in
    let e : suc n + k ≡ n + suc k = omega arith in
    (r.0 ∙ ap Some e, r.1)

name_back : (r : ℕ) → r < 32 → (register (register_name r) ≡ Some r) × IsWord (register_name r)
unfolding register_name
name_back r h =
    let p = named 0 register_names names_pass r (rw names_are_32 h) in
    let e : 0 + r ≡ r = omega arith in
    (p.0 ∙ ap Some e, p.1)

-- ---- bytes of words and spaces, of lists, and of all items

abbrev pub is_part : ℕ → Bool
is_part b = is_name_byte b || b == 32

abbrev pub is_list : ℕ → Bool
is_list b = is_part b || b == 44

abbrev pub is_item : ℕ → Bool
is_item b = is_list b || b == 59

or_left : (a b : Bool) → a ≡ true → (a || b) ≡ true
or_left true b h = refl
or_left false b h = cc

part_of_word : (b : ℕ) → is_name_byte b ≡ true → is_part b ≡ true
part_of_word b h = or_left (is_name_byte b) (b == 32) h

pub list_of_part : (b : ℕ) → is_part b ≡ true → is_list b ≡ true
list_of_part b h = or_left (is_part b) (b == 44) h

pub item_of_list : (b : ℕ) → is_list b ≡ true → is_item b ≡ true
item_of_list b h = or_left (is_list b) (b == 59) h

no_comma : (b : ℕ) → is_part b ≡ true → (b == 44) ≡ false
no_comma b h = grind (arith, nat_tests, h)

no_semicolon : (b : ℕ) → is_list b ≡ true → not (b == 59) ≡ true
no_semicolon b h = grind (arith, nat_tests, h)

pub words_part : (w : List ℕ) → IsWord w → Are is_part w
words_part w h = are-more is_name_byte is_part part_of_word w (word_are w h)

pub number_part : (n : ℕ) → IsNumber n → Are is_part (decimal n)
number_part n h = words_part (decimal n) (decimal_word n h)

pub spaced_part : (a b : List ℕ) → Are is_part a → Are is_part b → Are is_part (spaced a b)
spaced_part a b p q = are-append is_part a (32 ∷ b) p (refl, q)

low_number : (s : Span) → IsSpan s → IsNumber s.lo
low_number s p = let x = p.proper.order in let y = p.high in omega (arith, x, y)

span_part : (s : Span) → IsSpan s → Are is_part (span_text s)
unfolding span_text
span_part s p = spaced_part (decimal s.lo) _ (number_part s.lo (low_number s p)) (spaced_part (decimal s.hi) (decimal s.by) (number_part s.hi p.high) (number_part s.by p.step))

offsets_part : (s : Span) → IsSpan s → Are is_part (offsets_text s)
unfolding offsets_text
offsets_part s p = by (is_one s)
  where
    by : (b : Bool) → Are is_part (if b then decimal s.lo else span_text s)
    by true = number_part s.lo (low_number s p)
    by false = span_part s p

number_text_part : (s : Span) → IsSpan s → Are is_part (number_text s)
unfolding number_text
number_text_part s p = by (is_one s) (is_whole s)
  where
    by : (b c : Bool) → Are is_part (if b then spaced (codes "c") (decimal s.lo) else (if c then codes "n" else spaced (codes "n") (span_text s)))
    by true c = spaced_part (codes "c") (decimal s.lo) (refl, tt) (number_part s.lo (low_number s p))
    by false true = (refl, tt)
    by false false = spaced_part (codes "n") (span_text s) (refl, tt) (span_part s p)

pub kind_part : (regions : ℕ) (kind : Kind) → regions ≤ 32 → IsKind regions kind → Are is_part (kind_text kind)
unfolding kind_text
kind_part regions Any few k = (refl, (refl, (refl, tt)))
kind_part regions (Num s) few k = number_text_part s k
kind_part regions (Ptr r s) few k = let low = k.0 in spaced_part (codes "p") _ (refl, tt) (spaced_part (decimal r) (offsets_text s) (number_part r (omega (arith, low, few))) (offsets_part s k.1))
kind_part regions (Opt r s) few k = let low = k.0 in spaced_part (codes "o") _ (refl, tt) (spaced_part (decimal r) (offsets_text s) (number_part r (omega (arith, low, few))) (offsets_part s k.1))

-- ---- pieces between commas: each begins with a word

abbrev pub IsPiece : List ℕ → Type 0
IsPiece [] = ⊥
IsPiece (b ∷ bs) = (is_name_byte b ≡ true) × Are is_part bs

abbrev pub ArePieces : List (List ℕ) → Type 0
ArePieces [] = Unit {0}
ArePieces (t ∷ ts) = IsPiece t × ArePieces ts

piece_part : (t : List ℕ) → IsPiece t → Are is_part t
piece_part [] h = absurd h
piece_part (b ∷ bs) h = (part_of_word b h.0, h.1)

piece : (w rest : List ℕ) → IsWord w → Are is_part rest → IsPiece (w ++ rest)
piece [] rest h r = absurd h
piece (b ∷ w) rest h r = (h.0, are-append is_part w rest (are-more is_name_byte is_part part_of_word w h.1) r)

no_commas : (t : List ℕ) → Are is_part t → All (λ b. (b == 44) ≡ false) t
no_commas [] a = All-nil (λ b. (b == 44) ≡ false)
no_commas (b ∷ bs) a = All-cons (λ b. (b == 44) ≡ false) b bs (no_comma b a.0) (no_commas bs a.1)

commas : (t : List ℕ) (ts : List (List ℕ)) → IsPiece t → ArePieces ts → slice_split (λ b. b == 44) (32 ∷ (t ++ each (codes ", ") [] ts)) ≡ (32 ∷ t) ∷ map (λ u. 32 ∷ u) ts
commas t [] a p = ap (λ x. slice_split (λ b. b == 44) (32 ∷ x)) (append-nil t) ∙ slice_split_none (λ b. b == 44) (32 ∷ t) (no_commas (32 ∷ t) (refl, piece_part t a))
commas t (u ∷ ts) a p = slice_split_at (λ b. b == 44) (32 ∷ t) 44 (32 ∷ (u ++ each (codes ", ") [] ts)) (no_commas (32 ∷ t) (refl, piece_part t a)) refl ∙ ap (λ r. (32 ∷ t) ∷ r) (commas u ts p.0 p.1)

not_blank_at : (t rest : List ℕ) → IsPiece t → is_blank (t ++ rest) ≡ false
unfolding is_blank
not_blank_at [] rest h = absurd h
not_blank_at (b ∷ bs) rest h = rw (word_front b (bs ++ rest) h.0) (not_zero (length (bs ++ rest)))

listed_back : (ts : List (List ℕ)) → ArePieces ts → listed (32 ∷ with_commas ts) ≡ map (λ u. 32 ∷ u) ts
unfolding listed
listed_back [] p = rw (blank_space [] ∙ blank_nil) refl
listed_back (t ∷ ts) p = rw (blank_space (t ++ each (codes ", ") [] ts) ∙ not_blank_at t (each (codes ", ") [] ts) p.0) (commas t ts p.0 p.1)

each_list : (ts : List (List ℕ)) → ArePieces ts → Are is_list (each (codes ", ") [] ts)
each_list [] p = tt
each_list (t ∷ ts) p = (refl, (refl, are-append is_list t (each (codes ", ") [] ts) (are-more is_part is_list list_of_part t (piece_part t p.0)) (each_list ts p.1)))

pub commas_list : (ts : List (List ℕ)) → ArePieces ts → Are is_list (with_commas ts)
commas_list [] p = tt
commas_list (t ∷ ts) p = are-append is_list t (each (codes ", ") [] ts) (are-more is_part is_list list_of_part t (piece_part t p.0)) (each_list ts p.1)

-- ---- semicolons

position_at : (a b : List ℕ) → Are (λ x. not (x == 59)) a → position_or_len (λ x. x == 59) (a ++ 59 ∷ b) ≡ length a
position_at [] b h = refl
position_at (x ∷ a) b h = let n = h.0 in rw n (omega (arith, position_at a b h.1))

cut_at : (a b : List ℕ) → Are is_list a → cut 59 (a ++ 59 ∷ b) ≡ Some (a, b)
unfolding cut
cut_at a b h =
    let p = position_at a b (are-more is_list (λ x. not (x == 59)) no_semicolon a h) in
    let long = length-append a (59 ∷ b) in
    let test : nat_lt (length a) (length (a ++ 59 ∷ b)) ≡ true = grind (arith, nat_tests, long) in
    let behind : drop (length a + 1) (a ++ 59 ∷ b) ≡ b = drop-append-add a (59 ∷ b) 1 in
    rw (p, test, take-append_seam a (59 ∷ b), behind) refl

-- ---- items

module _ (back : ReadBack) where
  pub region_back : (number : ℕ) (region : OwnRegion) → number ≤ 32 → region.cell_region < number → IsNumber region.cell_at → IsNumber region.len → region_of number (region_text region) ≡ Some region
  unfolding region_of region_text
  region_back number region few h at len =
      rw (number_at back region.cell_region (32 ∷ (decimal region.cell_at ++ 32 ∷ decimal region.len)) (omega (arith, few, h)) refl, number_behind back region.cell_at (32 ∷ decimal region.len) at refl, number_last back region.len len, below_true region.cell_region number h) refl

  num_back : (regions len : ℕ) (kind : Kind) → regions ≤ 32 → is_width len ≡ true → IsNumberKind kind → (kind_of regions (32 ∷ kind_text kind) >>= num_class len) ≡ Some (classes.Num kind)
  num_back regions len (Num s) few w k = rw (kind_of_space regions (kind_text (Num s)), kind_back back regions (Num s) few k, w) refl
  num_back regions len Any few w k = absurd k
  num_back regions len (Ptr r s) few w k = absurd k
  num_back regions len (Opt r s) few w k = absurd k

  convert_back : (regions len : ℕ) (kind : Kind) → regions ≤ 32 → len ≡ 8 → IsAddressKind regions kind → (kind_of regions (32 ∷ kind_text kind) >>= convert_class len) ≡ Some (classes.Convert kind)
  convert_back regions len (Ptr r s) few w k = rw (kind_of_space regions (kind_text (Ptr r s)), kind_back back regions (Ptr r s) few k, w) refl
  convert_back regions len (Opt r s) few w k = rw (kind_of_space regions (kind_text (Opt r s)), kind_back back regions (Opt r s) few k, w) refl
  convert_back regions len Any few w k = absurd k
  convert_back regions len (Num s) few w k = absurd k

  class_back : (regions len : ℕ) (class : Class) → regions ≤ 32 → IsClass regions len class → class_of regions len (32 ∷ class_text class) ≡ Some class
  unfolding class_of class_by class_text
  class_back regions len classes.Code few k = rw (next_word_space (codes "code"), next_word_at (codes "code") [] (refl, (refl, (refl, (refl, tt)))) refl, blank_nil) refl
  class_back regions len classes.Plain few k = rw (next_word_space (codes "plain"), next_word_at (codes "plain") [] (refl, (refl, (refl, (refl, (refl, tt))))) refl, blank_nil) refl
  class_back regions len classes.Fixed few k = rw (next_word_space (codes "fixed"), next_word_at (codes "fixed") [] (refl, (refl, (refl, (refl, (refl, tt))))) refl, blank_nil, k) refl
  class_back regions len (classes.Num kind) few k = rw (next_word_space (spaced (codes "num") (kind_text kind)), next_word_at (codes "num") (32 ∷ kind_text kind) (refl, (refl, (refl, tt))) refl) (num_back regions len kind few k.0 k.1)
  class_back regions len (classes.Convert kind) few k = rw (next_word_space (spaced (codes "convert") (kind_text kind)), next_word_at (codes "convert") (32 ∷ kind_text kind) (refl, (refl, (refl, (refl, (refl, (refl, (refl, tt))))))) refl) (convert_back regions len kind few k.0 k.1)

  pub stretch_back : (regions : ℕ) (span : CertSpan) → regions ≤ 32 → IsStretch regions span → span_of regions (stretch_text span) ≡ Some span
  unfolding span_of stretch_text
  stretch_back regions span few h =
      let low = h.region in
      rw (
        number_at back span.region (32 ∷ (decimal span.at ++ 32 ∷ (decimal span.len ++ 32 ∷ class_text span.class))) (omega (arith, few, low)) refl,
        below_true span.region regions low,
        number_behind back span.at (32 ∷ (decimal span.len ++ 32 ∷ class_text span.class)) h.at refl,
        number_behind back span.len (32 ∷ class_text span.class) h.len refl,
        class_back regions span.len span.class few h.class,
      ) refl

  register_kind_back : (regions : ℕ) (k : RegKind) → regions ≤ 32 → k.reg < 32 → IsKind regions k.kind → reg_kind regions (32 ∷ register_text k) ≡ Some k
  unfolding reg_kind register_text
  register_kind_back regions k few h kind =
      let n = name_back k.reg h in
      rw (next_word_space (spaced (register_name k.reg) (kind_text k.kind)), next_word_at (register_name k.reg) (32 ∷ kind_text k.kind) n.1 refl, n.0, kind_of_space regions (kind_text k.kind), kind_back back regions k.kind few kind) refl

  registers_back : (regions : ℕ) (before kinds : List RegKind) → regions ≤ 32 → AreRegisters regions before kinds → registers_of regions before (map (λ u. 32 ∷ u) (map register_text kinds)) ≡ Some (before ++ kinds)
  unfolding registers_of
  registers_back regions before [] few h = ap Some (sym (append-nil before))
  registers_back regions before (k ∷ kinds) few h =
      rw (register_kind_back regions k few h.0 h.2, h.1) (registers_back regions (before ++ k ∷ []) kinds few h.3 ∙ ap Some (append_assoc before (k ∷ []) kinds))

  pub register_pieces : (regions : ℕ) (before kinds : List RegKind) → regions ≤ 32 → AreRegisters regions before kinds → ArePieces (map register_text kinds)
  unfolding register_text
  register_pieces regions before [] few h = tt
  register_pieces regions before (k ∷ kinds) few h =
      let n = name_back k.reg h.0 in (piece (register_name k.reg) (32 ∷ kind_text k.kind) n.1 (refl, kind_part regions k.kind few h.2), register_pieces regions (before ++ k ∷ []) kinds few h.3)

  width_number : (w : ℕ) → is_width w ≡ true → IsNumber w
  width_number w h = grind (arith, nat_tests, h)

  stack_part_back : (regions : ℕ) (part : StackPart) → regions ≤ 32 → IsPart regions part → stack_part regions (32 ∷ part_text part) ≡ Some part
  unfolding stack_part part_text
  stack_part_back regions part few h =
      let z = h.aligned in
      let aligned : (part.at % part.width == 0) ≡ true = grind (arith, nat_tests, z) in
      rw (number_behind back part.at (32 ∷ (decimal part.width ++ 32 ∷ kind_text part.kind)) h.at refl, number_behind back part.width (32 ∷ kind_text part.kind) (width_number part.width h.width) refl, h.width, aligned, kind_of_space regions (kind_text part.kind), kind_back back regions part.kind few h.kind) refl

  stack_back : (regions : ℕ) (before parts : List StackPart) → regions ≤ 32 → AreParts regions before parts → stack_of regions before (map (λ u. 32 ∷ u) (map part_text parts)) ≡ Some (before ++ parts)
  unfolding stack_of
  stack_back regions before [] few h = ap Some (sym (append-nil before))
  stack_back regions before (part ∷ parts) few h =
      rw (stack_part_back regions part few h.0, h.1) (stack_back regions (before ++ part ∷ []) parts few h.2 ∙ ap Some (append_assoc before (part ∷ []) parts))

  pub stack_pieces : (regions : ℕ) (before parts : List StackPart) → regions ≤ 32 → AreParts regions before parts → ArePieces (map part_text parts)
  unfolding part_text
  stack_pieces regions before [] few h = tt
  stack_pieces regions before (part ∷ parts) few h =
      let p = h.0 in
      (piece (decimal part.at) (32 ∷ (decimal part.width ++ 32 ∷ kind_text part.kind)) (decimal_word part.at p.at) (refl, spaced_part (decimal part.width) (kind_text part.kind) (words_part (decimal part.width) (decimal_word part.width (width_number part.width p.width))) (kind_part regions part.kind few p.kind)), stack_pieces regions (before ++ part ∷ []) parts few h.2)

  -- numbers between spaces

  no_spaces : (w : List ℕ) → Are is_name_byte w → All (λ b. (b == 32) ≡ false) w
  no_spaces [] a = All-nil (λ b. (b == 32) ≡ false)
  no_spaces (b ∷ bs) a = All-cons (λ b. (b == 32) ≡ false) b bs (no_space b a.0) (no_spaces bs a.1)

  spaces : (bound n : ℕ) (ns : List ℕ) → bound ≤ 4096 → n < bound → AreBelow bound ns → slice_split (λ b. b == 32) (decimal n ++ each (codes " ") [] (map decimal ns)) ≡ decimal n ∷ map decimal ns
  spaces bound n [] few h a = ap (slice_split (λ b. b == 32)) (append-nil (decimal n)) ∙ slice_split_none (λ b. b == 32) (decimal n) (no_spaces (decimal n) (word_are (decimal n) (decimal_word n (omega (arith, few, h)))))
  spaces bound n (m ∷ ns) few h a =
      slice_split_at (λ b. b == 32) (decimal n) 32 (decimal m ++ each (codes " ") [] (map decimal ns)) (no_spaces (decimal n) (word_are (decimal n) (decimal_word n (omega (arith, few, h))))) refl
      ∙ ap (λ r. decimal n ∷ r) (spaces bound m ns few a.0 a.1)

  not_empty : (w : List ℕ) → IsWord w → (length w == 0) ≡ false
  not_empty [] h = absurd h
  not_empty (b ∷ w) h = not_zero (length w)

  numbers_back : (bound : ℕ) (before ns : List ℕ) → bound ≤ 4096 → AreBelow bound ns → indices_of bound before (map decimal ns) ≡ Some (before ++ ns)
  unfolding indices_of
  numbers_back bound before [] few h = ap Some (sym (append-nil before))
  numbers_back bound before (n ∷ ns) few h =
      let low = h.0 in
      let small : IsNumber n = omega (arith, few, low) in
      rw (not_empty (decimal n) (decimal_word n small), back n small, below_true n bound low) (numbers_back bound (before ++ n ∷ []) ns few h.1 ∙ ap Some (append_assoc before (n ∷ []) ns))

  behind_empty : (bound : ℕ) (words : List (List ℕ)) → indices_of bound [] ([] ∷ words) ≡ indices_of bound [] words
  unfolding indices_of
  behind_empty bound words = refl

  indices_back : (bound : ℕ) (ns : List ℕ) → bound ≤ 4096 → AreBelow bound ns → indices bound (32 ∷ indices_text ns) ≡ Some ns
  unfolding indices
  indices_back bound [] few h = behind_empty bound ([] ∷ []) ∙ behind_empty bound [] ∙ numbers_back bound [] [] few tt
  indices_back bound (n ∷ ns) few h =
      ap (indices_of bound []) (slice_split_at (λ b. b == 32) [] 32 (decimal n ++ each (codes " ") [] (map decimal ns)) (All-nil (λ b. (b == 32) ≡ false)) refl ∙ ap (λ r. [] ∷ r) (spaces bound n ns few h.0 h.1))
      ∙ behind_empty bound (decimal n ∷ map decimal ns) ∙ numbers_back bound [] (n ∷ ns) few h

  spaces_part : (bound : ℕ) (ns : List ℕ) → bound ≤ 4096 → AreBelow bound ns → Are is_part (each (codes " ") [] (map decimal ns))
  spaces_part bound [] few h = tt
  spaces_part bound (n ∷ ns) few h = let low = h.0 in (refl, are-append is_part (decimal n) _ (words_part (decimal n) (decimal_word n (omega (arith, few, low)))) (spaces_part bound ns few h.1))

  pub indices_part : (bound : ℕ) (ns : List ℕ) → bound ≤ 4096 → AreBelow bound ns → Are is_part (indices_text ns)
  indices_part bound [] few h = tt
  indices_part bound (n ∷ ns) few h = let low = h.0 in are-append is_part (decimal n) _ (words_part (decimal n) (decimal_word n (omega (arith, few, low)))) (spaces_part bound ns few h.1)

  -- entries and nodes

  pub name_word : (name : List ℕ) → is_name name ≡ true → IsWord name
  name_word [] h = cc
  name_word (b ∷ bs) h =
      let p = and_parts (nat_le 1 (length (b ∷ bs))) (nat_le (length (b ∷ bs)) 32 && list_all is_name_byte (b ∷ bs)) h in
      let q = and_parts (nat_le (length (b ∷ bs)) 32) (list_all is_name_byte (b ∷ bs)) p.1 in
      are_all (b ∷ bs) q.1

  pub entry_back : (counts : Counts) (entry : Entry) → AreFew counts → IsEntry counts entry → entry_of counts (entry_text entry) ≡ Some entry
  unfolding entry_of entry_text name_of
  entry_back counts entry few h =
      let low = h.node in
      let few_nodes = few.nodes in
      let node : IsNumber entry.node = omega (arith, few_nodes, low) in
      let word = name_word entry.name h.name in
      let front = spaced entry.name (decimal entry.node) in
      let kinds = registers_text entry.arg_kinds in
      let pieces = register_pieces counts.regions [] entry.arg_kinds few.regions h.arg_kinds in
      let part = spaced_part entry.name (decimal entry.node) (words_part entry.name word) (words_part (decimal entry.node) (decimal_word entry.node node)) in
      let same : spaced entry.name (before_semicolon (decimal entry.node) kinds) ≡ front ++ 59 ∷ 32 ∷ kinds = sym (append_assoc entry.name (32 ∷ decimal entry.node) (59 ∷ 32 ∷ kinds)) in
      let parts : cut 59 (spaced entry.name (before_semicolon (decimal entry.node) kinds)) ≡ Some (front, 32 ∷ kinds) = ap (cut 59) same ∙ cut_at front (32 ∷ kinds) (are-more is_part is_list list_of_part front part) in
      rw (parts, next_word_at entry.name (32 ∷ decimal entry.node) word refl, h.name, number_last back entry.node node, below_true entry.node counts.nodes low, listed_back (map register_text entry.arg_kinds) pieces, registers_back counts.regions [] entry.arg_kinds few.regions h.arg_kinds) refl

  pub node_back : (counts : Counts) (node : Node) → AreFew counts → IsNode counts node → node_of counts (node_text node) ≡ Some node
  unfolding node_of node_text fields_of
  node_back counts node few h =
      let at = decimal node.at in
      let regs = registers_text node.regs in
      let stack = stack_text node.stack in
      let next = indices_text node.next in
      let done = indices_text node.done in
      let reg_pieces = register_pieces counts.regions [] node.regs few.regions h.regs in
      let part_pieces = stack_pieces counts.regions [] node.stack few.regions h.stack in
      let a = cut_at at (32 ∷ (regs ++ 59 ∷ 32 ∷ (stack ++ 59 ∷ 32 ∷ (next ++ 59 ∷ 32 ∷ done)))) (are-more is_part is_list list_of_part at (words_part at (decimal_word node.at h.at))) in
      let b = cut_at (32 ∷ regs) (32 ∷ (stack ++ 59 ∷ 32 ∷ (next ++ 59 ∷ 32 ∷ done))) (refl, commas_list (map register_text node.regs) reg_pieces) in
      let c = cut_at (32 ∷ stack) (32 ∷ (next ++ 59 ∷ 32 ∷ done)) (refl, commas_list (map part_text node.stack) part_pieces) in
      let d = cut_at (32 ∷ next) (32 ∷ done) (refl, are-more is_part is_list list_of_part next (indices_part counts.nodes node.next few.nodes h.next)) in
      rw (
        a,
        b,
        c,
        d,
        number_alone back node.at h.at,
        listed_back (map register_text node.regs) reg_pieces,
        registers_back counts.regions [] node.regs few.regions h.regs,
        listed_back (map part_text node.stack) part_pieces,
        stack_back counts.regions [] node.stack few.regions h.stack,
        indices_back counts.nodes node.next few.nodes h.next,
        indices_back counts.cells node.done few.cells h.done,
      ) refl
