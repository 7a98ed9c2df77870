-- The text that is written for a certificate is read as the certificate.
use Rattle.std.proofs.Common.{◌≡◌, ℕ, zero, suc, ◌+◌, ◌-◌, ◌<◌, ◌≤◌, Bool, true, false, ◌||◌, nat_lt, List, [], ◌∷◌, ◌++◌, length, map, codes, Some, Ok, refl, sym, ap, ◌∙◌, append-nil, append_assoc, length-append, arith}
use Rattle.std.specs.Prelude.{if◌then◌else◌, ◌==◌}
use Rattle.std.specs.Fmt.{decimal}
use Rattle.std.specs.List.{list_all}
use Rattle.std.specs.Str.{is_utf8, IsAscii}
use Rattle.std.proofs.lemmas.Str.{IsUtf8-from_ascii, is_utf8-from_IsUtf8}
use Rattle.std.proofs.lemmas.Bool.{and_parts}
use Rattle.std.proofs.lemmas.Bool.Decides.{nat_tests}
use Rattle.toml_parser.specs.Lexical.{first, skip_blank}
use Rattle.toml_writer.specs.Text.{key_text}
use Rattle.toml.specs.Data.{Data, array, Items}
use Rattle.toml.specs.Tables.{Nodes, no_nodes, node, value, close, Document, key_value, define, along_header, along_dots, at_key}
use Rattle.toml.specs.Parse.{lines, skip_bom, parse_document}
use Rattle.toml.proofs.Turns.{document_some, lines_end}
use Rattle.toml.proofs.Blanks.{skip_none, skip_newline, skip_within}
use Rattle.prov_cert.specs.declared.fault.Part.TheVariants as parts
use Rattle.prov_cert.specs.declared.cert.OwnRegion.{OwnRegion}
use Rattle.prov_cert.specs.declared.cert.CertSpan.{CertSpan}
use Rattle.prov_cert.specs.declared.cert.Class.{Class}
use Rattle.prov_cert.specs.declared.cert.Class.TheVariants as classes
use Rattle.prov_types.specs.declared.kinds.Kind.{Kind}
use Rattle.prov_types.specs.declared.kinds.Kind.TheVariants.{Any, Num, Ptr, Opt}
use Rattle.prov_cert.specs.Cert.{Entry, Node, Plain}
use Rattle.prov_cert.specs.Forms.{Counts}
use Rattle.prov_cert.specs.Reading.{is_convert, cells_in, with_counts, with_lists, cert_in, items_len, only_keys, list_field, Lists, lists_of, region_in, region_at, span_at, entry_at, notify_at, node_at, items_of}
use Rattle.prov_cert.specs.Kept.{IsNumberKind, IsAddressKind, IsClass, AreRegions, AreSpans, AreEntries, AreBelow, AreNodes, named_in, IsCert}
use Rattle.prov_cert.specs.Back.{AreFew}
use Rattle.prov_cert.specs.Texts.{each, list_of, quoted_list, number_list, line_list, class_text, kind_text, registers_text, stack_text, indices_text, before_semicolon, line, document, region_text, stretch_text, entry_text, node_text, cert_lines}
use Rattle.prov_cert.proofs.BackLemmas.{Are, are-append, are-more, ReadBack, below_true}
use Rattle.prov_cert.proofs.ItemLemmas.{is_part, is_list, is_item, list_of_part, item_of_list, words_part, number_part, spaced_part, kind_part, commas_list, register_pieces, stack_pieces, indices_part, name_word, region_back, stretch_back, entry_back, node_back}
use Rattle.prov_cert.proofs.DocLemmas.{strings, integers, AreItems, list_read, numbers_read, line_list_read, IsRead, IsBracketed, turn}

-- ---- the document of five lists

abbrev tables : (regions spans entries notify nodes : Data) → Nodes
tables regions spans entries notify nodes =
    node (codes "entries") (value entries) (node (codes "nodes") (value nodes) (node (codes "notify") (value notify) (node (codes "regions") (value regions) (node (codes "spans") (value spans) no_nodes))))

module _ (r s e n d : Data) where
  first_key : define (no_nodes, []) (([], codes "regions"), key_value r) ≡ Some (node (codes "regions") (value r) no_nodes, [])
  unfolding define along_header along_dots at_key
  first_key = refl

  second_key : define (node (codes "regions") (value r) no_nodes, []) (([], codes "spans"), key_value s) ≡ Some (node (codes "regions") (value r) (node (codes "spans") (value s) no_nodes), [])
  unfolding define along_header along_dots at_key
  second_key = refl

  third_key : define (node (codes "regions") (value r) (node (codes "spans") (value s) no_nodes), []) (([], codes "entries"), key_value e) ≡ Some (node (codes "entries") (value e) (node (codes "regions") (value r) (node (codes "spans") (value s) no_nodes)), [])
  unfolding define along_header along_dots at_key
  third_key = refl

  fourth_key : define (node (codes "entries") (value e) (node (codes "regions") (value r) (node (codes "spans") (value s) no_nodes)), []) (([], codes "notify"), key_value n) ≡ Some (node (codes "entries") (value e) (node (codes "notify") (value n) (node (codes "regions") (value r) (node (codes "spans") (value s) no_nodes))), [])
  unfolding define along_header along_dots at_key
  fourth_key = refl

  fifth_key : define (node (codes "entries") (value e) (node (codes "notify") (value n) (node (codes "regions") (value r) (node (codes "spans") (value s) no_nodes))), []) (([], codes "nodes"), key_value d) ≡ Some (tables r s e n d, [])
  unfolding define along_header along_dots at_key
  fifth_key = refl

bare_keys : (key_text (codes "regions") ≡ codes "regions") × (key_text (codes "spans") ≡ codes "spans") × (key_text (codes "entries") ≡ codes "entries") × (key_text (codes "notify") ≡ codes "notify") × (key_text (codes "nodes") ≡ codes "nodes")
unfolding key_text
bare_keys = (refl, refl, refl, refl, refl)

last_line : (m : ℕ) (doc : Document) → 0 < m → lines m doc (10 ∷ []) ≡ Some doc
last_line m doc h =
    let short = skip_within [] in
    let none : length (skip_blank (10 ∷ [])) ≡ 0 = ap length (skip_newline []) ∙ omega (arith, short) in
    lines_end m doc (10 ∷ []) h none

no_mark : (t : List ℕ) → (first t == 239) ≡ false → skip_bom t ≡ t
unfolding skip_bom
no_mark t h = rw h refl

behind : (t : List ℕ) (c : ℕ) → first t ≡ c → (((c == 10 || c == 13) || c == 32) || (c == 9 || c == 35)) ≡ false → skip_blank (10 ∷ t) ≡ t
behind t c h other = skip_newline t ∙ skip_none t c h other

module _ (r s e n d : List ℕ) (dr ds de dn dd : Data) (rr : IsRead r dr) (rs : IsRead s ds) (re : IsRead e de) (rn : IsRead n dn) (rd : IsRead d dd) (br : IsBracketed r) (bs : IsBracketed s) (be : IsBracketed e) (bn : IsBracketed n) (bd : IsBracketed d) where
  document_read : parse_document (document r s e n d) ≡ Some (close (tables dr ds de dn dd))
  document_read =
      let t5 = line (codes "nodes") d [] in
      let t4 = line (codes "notify") n t5 in
      let t3 = line (codes "entries") e t4 in
      let t2 = line (codes "spans") s t3 in
      let t1 = line (codes "regions") r t2 in
      let m = length t1 in
      let long : 9 < m = omega arith in
      let a = turn (codes "regions") r t2 dr bare_keys.0 rr br (suc m) t1 (no_nodes, []) _ (skip_none t1 114 refl refl) refl (omega arith) (omega arith) (first_key dr ds de dn dd) in
      let b = turn (codes "spans") s t3 ds bare_keys.1 rs bs (suc m - 1) (10 ∷ t2) _ _ (behind t2 115 refl refl) refl (omega arith) (omega (arith, long)) (second_key dr ds de dn dd) in
      let c = turn (codes "entries") e t4 de bare_keys.2 re be (suc m - 1 - 1) (10 ∷ t3) _ _ (behind t3 101 refl refl) refl (omega arith) (omega (arith, long)) (third_key dr ds de dn dd) in
      let f = turn (codes "notify") n t5 dn bare_keys.3 rn bn (suc m - 1 - 1 - 1) (10 ∷ t4) _ _ (behind t4 110 refl refl) refl (omega arith) (omega (arith, long)) (fourth_key dr ds de dn dd) in
      let g = turn (codes "nodes") d [] dd bare_keys.4 rd bd (suc m - 1 - 1 - 1 - 1) (10 ∷ t5) _ _ (behind t5 110 refl refl) refl (omega arith) (omega (arith, long)) (fifth_key dr ds de dn dd) in
      let last = last_line (suc m - 1 - 1 - 1 - 1 - 1) (tables dr ds de dn dd, []) (omega (arith, long)) in
      document_some t1 (tables dr ds de dn dd, []) (ap (lines (suc m) (no_nodes, [])) (no_mark t1 refl) ∙ (a ∙ (b ∙ (c ∙ (f ∙ (g ∙ last))))))

-- ---- the lists

integers_len : (ns : List ℕ) → items_len (integers ns) ≡ length ns
integers_len [] = refl
integers_len (n ∷ ns) = omega (arith, integers_len ns)

lists_found : (r s e n d : Items) → nat_lt 26 (items_len r) ≡ false → nat_lt 4096 (items_len s) ≡ false → nat_lt 64 (items_len e) ≡ false → nat_lt 16 (items_len n) ≡ false → nat_lt 4096 (items_len d) ≡ false → lists_of (close (tables (array r) (array s) (array e) (array n) (array d))) ≡ Some (record { regions = r; spans = s; entries = e; notify = n; nodes = d })
unfolding lists_of only_keys list_field
lists_found r s e n d hr hs he hn hd = rw (hr, hs, he, hn, hd) refl

-- ---- items

regions_read : (back : ReadBack) (before rs : List OwnRegion) → 6 + length before + length rs ≤ 32 → AreRegions (6 + length before) rs → items_of parts.Regions region_at before (strings (map region_text rs)) ≡ Ok (before ++ rs)
unfolding items_of region_at region_in
regions_read back before [] few h = ap Ok (sym (append-nil before))
regions_read back before (r ∷ rs) few h =
    let long = length-append before (r ∷ []) in
    let next : 6 + length before + 1 ≡ 6 + length (before ++ r ∷ []) = omega (arith, long) in
    let more : AreRegions (6 + length (before ++ r ∷ [])) rs = rw next at h.3 in
    rw (region_back back (6 + length before) r (omega (arith, few)) h.0 h.1 h.2) (regions_read back (before ++ r ∷ []) rs (omega (arith, few, long)) more ∙ ap Ok (append_assoc before (r ∷ []) rs))

spans_read : (back : ReadBack) (regions : ℕ) (before ss : List CertSpan) → regions ≤ 32 → AreSpans regions ss → items_of parts.Spans (span_at regions) before (strings (map stretch_text ss)) ≡ Ok (before ++ ss)
unfolding items_of span_at
spans_read back regions before [] few h = ap Ok (sym (append-nil before))
spans_read back regions before (s ∷ ss) few h =
    rw (stretch_back back regions s few h.0) (spans_read back regions (before ++ s ∷ []) ss few h.1 ∙ ap Ok (append_assoc before (s ∷ []) ss))

entries_read : (back : ReadBack) (counts : Counts) (before es : List Entry) → AreFew counts → AreEntries counts es → items_of parts.Entries (entry_at counts) before (strings (map entry_text es)) ≡ Ok (before ++ es)
unfolding items_of entry_at
entries_read back counts before [] few h = ap Ok (sym (append-nil before))
entries_read back counts before (e ∷ es) few h =
    rw (entry_back back counts e few h.0) (entries_read back counts (before ++ e ∷ []) es few h.1 ∙ ap Ok (append_assoc before (e ∷ []) es))

notify_read : (nodes : ℕ) (before ns : List ℕ) → AreBelow nodes ns → items_of parts.Notify (notify_at nodes) before (integers ns) ≡ Ok (before ++ ns)
unfolding items_of notify_at
notify_read nodes before [] h = ap Ok (sym (append-nil before))
notify_read nodes before (n ∷ ns) h =
    rw (below_true n nodes h.0) (notify_read nodes (before ++ n ∷ []) ns h.1 ∙ ap Ok (append_assoc before (n ∷ []) ns))

nodes_read : (back : ReadBack) (counts : Counts) (before ns : List Node) → AreFew counts → AreNodes counts ns → items_of parts.Nodes (node_at counts) before (strings (map node_text ns)) ≡ Ok (before ++ ns)
unfolding items_of node_at
nodes_read back counts before [] few h = ap Ok (sym (append-nil before))
nodes_read back counts before (n ∷ ns) few h =
    rw (node_back back counts n few h.0) (nodes_read back counts (before ++ n ∷ []) ns few h.1 ∙ ap Ok (append_assoc before (n ∷ []) ns))

-- ---- the bytes of items

item_of_part : (t : List ℕ) → Are is_part t → Are is_item t
item_of_part t a = are-more is_list is_item item_of_list t (are-more is_part is_list list_of_part t a)

item_of : (t : List ℕ) → Are is_list t → Are is_item t
item_of t a = are-more is_list is_item item_of_list t a

semicolon_items : (t rest : List ℕ) → Are is_item t → Are is_item rest → Are is_item (before_semicolon t rest)
semicolon_items t rest a b = are-append is_item t (59 ∷ 32 ∷ rest) a (refl, (refl, b))

region_bytes : (number : ℕ) (rs : List OwnRegion) → number + length rs ≤ 32 → AreRegions number rs → AreItems (map region_text rs)
unfolding region_text
region_bytes number [] few h = tt
region_bytes number (r ∷ rs) few h =
    let low = h.0 in (
      item_of_part _ (spaced_part (decimal r.cell_region) _ (number_part r.cell_region (omega (arith, few, low))) (spaced_part (decimal r.cell_at) (decimal r.len) (number_part r.cell_at h.1) (number_part r.len h.2))),
      region_bytes (number + 1) rs (omega (arith, few)) h.3,
    )

num_bytes : (regions : ℕ) (kind : Kind) → regions ≤ 32 → IsNumberKind kind → Are is_part (kind_text kind)
num_bytes regions (Num s) few k = kind_part regions (Num s) few k
num_bytes regions Any few k = absurd k
num_bytes regions (Ptr r s) few k = absurd k
num_bytes regions (Opt r s) few k = absurd k

convert_bytes : (regions : ℕ) (kind : Kind) → regions ≤ 32 → IsAddressKind regions kind → Are is_part (kind_text kind)
convert_bytes regions (Ptr r s) few k = kind_part regions (Ptr r s) few k
convert_bytes regions (Opt r s) few k = kind_part regions (Opt r s) few k
convert_bytes regions Any few k = absurd k
convert_bytes regions (Num s) few k = absurd k

class_bytes : (regions len : ℕ) (class : Class) → regions ≤ 32 → IsClass regions len class → Are is_part (class_text class)
unfolding class_text
class_bytes regions len classes.Code few k = (refl, (refl, (refl, (refl, tt))))
class_bytes regions len classes.Plain few k = (refl, (refl, (refl, (refl, (refl, tt)))))
class_bytes regions len classes.Fixed few k = (refl, (refl, (refl, (refl, (refl, tt)))))
class_bytes regions len (classes.Num kind) few k = spaced_part (codes "num") (kind_text kind) (refl, (refl, (refl, tt))) (num_bytes regions kind few k.1)
class_bytes regions len (classes.Convert kind) few k = spaced_part (codes "convert") (kind_text kind) (refl, (refl, (refl, (refl, (refl, (refl, (refl, tt))))))) (convert_bytes regions kind few k.1)

span_bytes : (regions : ℕ) (ss : List CertSpan) → regions ≤ 32 → AreSpans regions ss → AreItems (map stretch_text ss)
unfolding stretch_text
span_bytes regions [] few h = tt
span_bytes regions (s ∷ ss) few h =
    let k = h.0 in
    let low = k.region in (
      item_of_part _ (spaced_part (decimal s.region) _ (number_part s.region (omega (arith, few, low))) (spaced_part (decimal s.at) _ (number_part s.at k.at) (spaced_part (decimal s.len) (class_text s.class) (number_part s.len k.len) (class_bytes regions s.len s.class few k.class)))),
      span_bytes regions ss few h.1,
    )

entry_bytes : (back : ReadBack) (counts : Counts) (es : List Entry) → AreFew counts → AreEntries counts es → AreItems (map entry_text es)
unfolding entry_text
entry_bytes back counts [] few h = tt
entry_bytes back counts (e ∷ es) few h =
    let k = h.0 in
    let low = k.node in
    let few_nodes = few.nodes in
    let kinds = commas_list _ (register_pieces back counts.regions [] e.arg_kinds few.regions k.arg_kinds) in
    let node = item_of_part (decimal e.node) (number_part e.node (omega (arith, low, few_nodes))) in
    let name = item_of_part e.name (words_part e.name (name_word back e.name k.name)) in (
      are-append is_item e.name _ name (refl, semicolon_items (decimal e.node) (registers_text e.arg_kinds) node (item_of _ kinds)),
      entry_bytes back counts es few h.1,
    )

node_bytes : (back : ReadBack) (counts : Counts) (ns : List Node) → AreFew counts → AreNodes counts ns → AreItems (map node_text ns)
unfolding node_text
node_bytes back counts [] few h = tt
node_bytes back counts (n ∷ ns) few h =
    let k = h.0 in
    let regs = item_of (registers_text n.regs) (commas_list _ (register_pieces back counts.regions [] n.regs few.regions k.regs)) in
    let stack = item_of (stack_text n.stack) (commas_list _ (stack_pieces back counts.regions [] n.stack few.regions k.stack)) in
    let next = item_of_part (indices_text n.next) (indices_part back counts.nodes n.next few.nodes k.next) in
    let done = item_of_part (indices_text n.done) (indices_part back counts.cells n.done few.cells k.done) in (
      semicolon_items (decimal n.at) _ (item_of_part (decimal n.at) (number_part n.at k.at)) (semicolon_items (registers_text n.regs) _ regs (semicolon_items (stack_text n.stack) _ stack (semicolon_items (indices_text n.next) (indices_text n.done) next done))),
      node_bytes back counts ns few h.1,
    )

number_bytes : (bound : ℕ) (ns : List ℕ) → bound ≤ 4096 → AreBelow bound ns → AreItems (map decimal ns)
number_bytes bound [] few h = tt
number_bytes bound (n ∷ ns) few h = let low = h.0 in (item_of_part (decimal n) (number_part n (omega (arith, few, low))), number_bytes bound ns few h.1)

-- ---- the text is ASCII

abbrev is_low : ℕ → Bool
is_low b = nat_lt b 128

low_of_item : (b : ℕ) → is_item b ≡ true → is_low b ≡ true
low_of_item b h = grind (arith, nat_tests, h)

literal_low : (bs : List ℕ) → list_all is_low bs ≡ true → Are is_low bs
literal_low [] h = tt
literal_low (b ∷ bs) h = let p = and_parts (is_low b) (list_all is_low bs) h in (p.0, literal_low bs p.1)

each_low : (before behind : List ℕ) (ts : List (List ℕ)) → Are is_low before → Are is_low behind → AreItems ts → Are is_low (each before behind ts)
each_low before behind [] p q a = tt
each_low before behind (t ∷ ts) p q a =
    are-append is_low before _ p (are-append is_low t _ (are-more is_item is_low low_of_item t a.0) (are-append is_low behind _ q (each_low before behind ts p q a.1)))

list_low : (before between behind : List ℕ) (ts : List (List ℕ)) → Are is_low before → Are is_low between → Are is_low behind → AreItems ts → Are is_low (list_of before between behind ts)
list_low before between behind [] p m q a = tt
list_low before between behind (t ∷ ts) p m q a =
    are-append is_low before _ p (are-append is_low t _ (are-more is_item is_low low_of_item t a.0) (are-append is_low behind _ q (each_low between behind ts m q a.1)))

quoted_low : (ts : List (List ℕ)) → AreItems ts → Are is_low (quoted_list ts)
quoted_low ts a = (refl, are-append is_low _ (codes "]") (list_low (codes "\"") (codes ", \"") (codes "\"") ts (refl, tt) (refl, (refl, (refl, tt))) (refl, tt) a) (refl, tt))

numbers_low : (ns : List ℕ) → AreItems (map decimal ns) → Are is_low (number_list ns)
numbers_low ns a = (refl, are-append is_low _ (codes "]") (list_low [] (codes ", ") [] (map decimal ns) tt (refl, (refl, tt)) tt a) (refl, tt))

lines_low : (ts : List (List ℕ)) → AreItems ts → Are is_low (line_list ts)
lines_low [] a = (refl, (refl, tt))
lines_low (t ∷ ts) a =
    (refl, are-append is_low (each (codes "\n\"") (codes "\",") (t ∷ ts)) (codes "\n]") (each_low (codes "\n\"") (codes "\",") (t ∷ ts) (refl, (refl, tt)) (refl, (refl, tt)) a) (refl, (refl, tt)))

line_low : (key content rest : List ℕ) → Are is_low key → Are is_low content → Are is_low rest → Are is_low (line key content rest)
line_low key content rest k c r = are-append is_low key _ k (refl, (refl, (refl, are-append is_low content (10 ∷ rest) c (refl, r))))

document_low : (r s e n d : List ℕ) → Are is_low r → Are is_low s → Are is_low e → Are is_low n → Are is_low d → Are is_low (document r s e n d)
document_low r s e n d lr ls le ln ld =
    let t5 = line (codes "nodes") d [] in
    let t4 = line (codes "notify") n t5 in
    let t3 = line (codes "entries") e t4 in
    let t2 = line (codes "spans") s t3 in
    let a5 : Are is_low t5 = line_low (codes "nodes") d [] (literal_low (codes "nodes") refl) ld tt in
    let a4 : Are is_low t4 = line_low (codes "notify") n t5 (literal_low (codes "notify") refl) ln a5 in
    let a3 : Are is_low t3 = line_low (codes "entries") e t4 (literal_low (codes "entries") refl) le a4 in
    let a2 : Are is_low t2 = line_low (codes "spans") s t3 (literal_low (codes "spans") refl) ls a3 in
    line_low (codes "regions") r t2 (literal_low (codes "regions") refl) lr a2

ascii : (bs : List ℕ) → Are is_low bs → IsAscii bs
ascii [] a zero = omega arith
ascii [] a (suc i) = omega arith
ascii (b ∷ bs) a zero = let h = a.0 in grind (arith, nat_tests, h)
ascii (b ∷ bs) a (suc i) = ascii bs a.1 i

utf8 : (bs : List ℕ) → Are is_low bs → is_utf8 bs ≡ true
utf8 bs a = is_utf8-from_IsUtf8 bs (IsUtf8-from_ascii bs (ascii bs a))

-- ---- the whole

cells_few : (ss : List CertSpan) → cells_in ss ≤ length ss
cells_few [] = omega arith
cells_few (s ∷ ss) = by (is_convert s.class) (cells_few ss)
  where
    by : (b : Bool) → cells_in ss ≤ length ss → (if b then 1 + cells_in ss else cells_in ss) ≤ suc (length ss)
    by true less = omega (arith, less)
    by false less = omega (arith, less)

within : (most n : ℕ) → n ≤ most → nat_lt most n ≡ false
within most n h = grind (arith, nat_tests, h)

map_len : {A : Type 0} (f : A → List ℕ) (xs : List A) → items_len (strings (map f xs)) ≡ length xs
map_len f [] = refl
map_len f (x ∷ xs) = omega (arith, map_len f xs)

bracketed_lines : (ts : List (List ℕ)) → IsBracketed (line_list ts)
bracketed_lines [] = (_, refl)
bracketed_lines (t ∷ ts) = (_, refl)

module _ (back : ReadBack) (cert : Plain) (h : IsCert cert) where
  few : AreFew (named_in cert)
  few =
      let r = h.few_regions in
      let s = h.few_spans in
      record { regions = omega (arith, r); nodes = h.few_nodes; cells = omega (arith, s, cells_few cert.spans) }

  abbrev lists : Lists
  lists = record { regions = strings (map region_text cert.regions); spans = strings (map stretch_text cert.spans); entries = strings (map entry_text cert.entries); notify = integers cert.notify; nodes = strings (map node_text cert.nodes) }

  regions_items : AreItems (map region_text cert.regions)
  regions_items = let r = h.few_regions in region_bytes 6 cert.regions (omega (arith, r)) h.regions

  spans_items : AreItems (map stretch_text cert.spans)
  spans_items = span_bytes (6 + length cert.regions) cert.spans few.regions h.spans

  entries_items : AreItems (map entry_text cert.entries)
  entries_items = entry_bytes back (named_in cert) cert.entries few h.entries

  notify_items : AreItems (map decimal cert.notify)
  notify_items = number_bytes (length cert.nodes) cert.notify h.few_nodes h.notify

  nodes_items : AreItems (map node_text cert.nodes)
  nodes_items = node_bytes back (named_in cert) cert.nodes few h.nodes

  text_utf8 : is_utf8 (cert_lines cert) ≡ true
  unfolding cert_lines
  text_utf8 = utf8 (cert_lines cert) (document_low (quoted_list (map region_text cert.regions)) (quoted_list (map stretch_text cert.spans)) (quoted_list (map entry_text cert.entries)) (number_list cert.notify) (line_list (map node_text cert.nodes)) (quoted_low (map region_text cert.regions) regions_items) (quoted_low (map stretch_text cert.spans) spans_items) (quoted_low (map entry_text cert.entries) entries_items) (numbers_low cert.notify notify_items) (lines_low (map node_text cert.nodes) nodes_items))

  text_parsed : parse_document (cert_lines cert) ≡ Some (close (tables (array lists.regions) (array lists.spans) (array lists.entries) (array lists.notify) (array lists.nodes)))
  unfolding cert_lines
  text_parsed =
      document_read _ _ _ _ _ (array lists.regions) (array lists.spans) (array lists.entries) (array lists.notify) (array lists.nodes)
      (list_read _ regions_items) (list_read _ spans_items) (list_read _ entries_items) (numbers_read (length cert.nodes) cert.notify h.few_nodes h.notify) (line_list_read _ nodes_items)
      (_, refl) (_, refl) (_, refl) (_, refl) (bracketed_lines (map node_text cert.nodes))

  are_lists : lists_of (close (tables (array lists.regions) (array lists.spans) (array lists.entries) (array lists.notify) (array lists.nodes))) ≡ Some lists
  are_lists =
      lists_found lists.regions lists.spans lists.entries lists.notify lists.nodes
      (within 26 _ (rw (map_len region_text cert.regions) h.few_regions)) (within 4096 _ (rw (map_len stretch_text cert.spans) h.few_spans)) (within 64 _ (rw (map_len entry_text cert.entries) h.few_entries))
      (within 16 _ (rw (integers_len cert.notify) h.few_notify)) (within 4096 _ (rw (map_len node_text cert.nodes) h.few_nodes))

  counts_read : with_counts lists (named_in cert) cert.regions cert.spans ≡ Ok cert
  unfolding with_counts
  counts_read = rw (entries_read back (named_in cert) [] cert.entries few h.entries, notify_read (length cert.nodes) [] cert.notify h.notify, nodes_read back (named_in cert) [] cert.nodes few h.nodes) refl

  lists_read : with_lists lists ≡ Ok cert
  unfolding with_lists
  lists_read =
      let r = h.few_regions in
      rw (regions_read back [] cert.regions (omega (arith, r)) h.regions, spans_read back (6 + length cert.regions) [] cert.spans few.regions h.spans, map_len node_text cert.nodes) counts_read

  pub cert_back : cert_in (cert_lines cert) ≡ Ok cert
  unfolding cert_in
  cert_back = rw (text_utf8, text_parsed, are_lists) lists_read
