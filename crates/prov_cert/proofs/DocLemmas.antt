-- The document that is written for a certificate is read as its lists of texts.
use Rattle.std.proofs.Common.{◌≡◌, pos, ℕ, ◌-◌, ◌<◌, ◌≤◌, Bool, true, false, List, [], ◌∷◌, ◌++◌, length, map, codes, Some, refl, sym, ap, ◌∙◌, append_assoc, length-append, arith}
use Rattle.std.specs.Prelude.{◌==◌, FitsSigned}
use Rattle.std.specs.Int.{w64}
use Rattle.std.specs.Fmt.{decimal}
use Rattle.std.specs.List.{list_any}
use Rattle.std.proofs.lemmas.Bool.Decides.{nat_tests}
use Rattle.toml_parser.specs.Lexical.{first, skip_blank, skip_ws}
use Rattle.toml_writer.specs.Text.{is_control, needs_escape, quotes_after, escaped, basic, encoding_of, string_text, key_text}
use Rattle.toml.specs.Data.{Data, string, integer, array, Items, no_items, item, push_item, items_depth, items_have_valid_dates}
use Rattle.toml.specs.Tables.{Document, key_value, define}
use Rattle.toml.specs.Parse.{val, items, after_element, key_equals, expression, ends_line, line, lines}
use Rattle.toml.specs.Text.{IsValueText, IsItemsText}
use Rattle.toml.proofs.Turns.{val_array, items_end, items_more, keyval_ok, lines_more}
use Rattle.toml.proofs.Blanks.{starts_value, skip_none, skip_newline}
use Rattle.toml.proofs.ReadValues.{EndsValue, item_join, item_join-none, item_join-push, key_equals-pair, read_value}
use Rattle.toml_parser.proofs.LexicalLemmas.{skip_ws_none}
use Rattle.prov_cert.specs.Texts.{each, list_of, with_commas, quoted_list, number_list, line_list}
use Rattle.prov_cert.specs.Kept.{AreBelow}
use Rattle.prov_cert.proofs.BackLemmas.{Are}
use Rattle.prov_cert.proofs.ItemLemmas.{is_item}

-- ---- a text in quotes

abbrev pub quoted : List ℕ → List ℕ
quoted t = 34 ∷ (t ++ 34 ∷ [])

none_of : (p : ℕ → Bool) → ((b : ℕ) → is_item b ≡ true → p b ≡ false) → (t : List ℕ) → Are is_item t → list_any p t ≡ false
none_of p f [] a = refl
none_of p f (b ∷ t) a = rw (f b a.0) (none_of p f t a.1)

not_control : (b : ℕ) → is_item b ≡ true → is_control b ≡ false
not_control b h = grind (arith, nat_tests, h)

not_backslash : (b : ℕ) → is_item b ≡ true → (b == 92) ≡ false
not_backslash b h = grind (arith, nat_tests, h)

not_quote : (b : ℕ) → is_item b ≡ true → (b == 34) ≡ false
not_quote b h = grind (arith, nat_tests, h)

not_line_feed : (b : ℕ) → is_item b ≡ true → (b == 10) ≡ false
not_line_feed b h = grind (arith, nat_tests, h)

no_escape : (quotes b : ℕ) → is_item b ≡ true → needs_escape false quotes b ≡ false
unfolding needs_escape
no_escape quotes b h = grind (arith, nat_tests, h)

plain : (quotes : ℕ) (t : List ℕ) → Are is_item t → escaped false quotes t ≡ t
unfolding escaped
plain quotes [] a = refl
plain quotes (b ∷ t) a = rw (no_escape quotes b a.0) (ap (λ r. b ∷ r) (plain (quotes_after false quotes b) t a.1))

is_basic : (t : List ℕ) → Are is_item t → encoding_of t ≡ basic
unfolding encoding_of
is_basic t a =
    rw (none_of is_control not_control t a, none_of (λ x. x == 92) not_backslash t a, none_of (λ x. x == 34) not_quote t a, none_of (λ x. x == 10) not_line_feed t a) refl

pub quoted_text : (t : List ℕ) → Are is_item t → string_text t ≡ quoted t
unfolding string_text
quoted_text t a = rw (is_basic t a) (ap (λ r. 34 ∷ (r ++ 34 ∷ [])) (plain 0 t a))

-- ---- lists as data

abbrev pub strings : List (List ℕ) → Items
strings [] = no_items
strings (t ∷ ts) = item (string t) (strings ts)

abbrev pub integers : List ℕ → Items
integers [] = no_items
integers (n ∷ ns) = item (integer (pos n)) (integers ns)

abbrev pub AreItems : List (List ℕ) → Type 0
AreItems [] = Unit {0}
AreItems (t ∷ ts) = Are is_item t × AreItems ts

each_text : (ts : List (List ℕ)) → AreItems ts → IsItemsText false false false (strings ts) (each (codes ", \"") (codes "\"") ts ++ codes "]")
each_text [] a = refl
each_text (t ∷ ts) a =
    let more = each (codes ", \"") (codes "\"") ts in
    (quoted t, more ++ 93 ∷ [], ap (λ x. 44 ∷ 32 ∷ 34 ∷ x) (append_assoc t (34 ∷ more) (93 ∷ []) ∙ sym (append_assoc t (34 ∷ []) (more ++ 93 ∷ []))), sym (quoted_text t a.0), each_text ts a.1)

first_text : (t : List ℕ) (ts : List (List ℕ)) → Are is_item t → AreItems ts → IsItemsText false false true (item (string t) (strings ts)) (list_of (codes "\"") (codes ", \"") (codes "\"") (t ∷ ts) ++ codes "]")
first_text t ts h a =
    let more = each (codes ", \"") (codes "\"") ts in
    (quoted t, more ++ 93 ∷ [], ap (λ x. 34 ∷ x) (append_assoc t (34 ∷ more) (93 ∷ []) ∙ sym (append_assoc t (34 ∷ []) (more ++ 93 ∷ []))), sym (quoted_text t h), each_text ts a)

pub list_text : (ts : List (List ℕ)) → AreItems ts → IsValueText false (array (strings ts)) (quoted_list ts)
list_text [] a = (codes "]", refl, refl)
list_text (t ∷ []) a = (_, refl, first_text t [] a.0 tt)
list_text (t ∷ u ∷ us) a = (_, refl, first_text t (u ∷ us) a.0 a.1)

low_integer : (n : ℕ) → n < 4096 → FitsSigned w64 (pos n)
low_integer n h = omega (arith, h)

each_number : (bound : ℕ) (ns : List ℕ) → bound ≤ 4096 → AreBelow bound ns → IsItemsText false false false (integers ns) (each (codes ", ") [] (map decimal ns) ++ codes "]")
each_number bound [] few a = refl
each_number bound (n ∷ ns) few a =
    let more = each (codes ", ") [] (map decimal ns) in
    let low = a.0 in
    (decimal n, more ++ 93 ∷ [], ap (λ x. 44 ∷ 32 ∷ x) (append_assoc (decimal n) more (93 ∷ [])), (refl, low_integer n (omega (arith, few, low))), each_number bound ns few a.1)

first_number : (bound n : ℕ) (ns : List ℕ) → bound ≤ 4096 → n < bound → AreBelow bound ns → IsItemsText false false true (item (integer (pos n)) (integers ns)) (with_commas (map decimal (n ∷ ns)) ++ codes "]")
first_number bound n ns few low a =
    let more = each (codes ", ") [] (map decimal ns) in
    (decimal n, more ++ 93 ∷ [], append_assoc (decimal n) more (93 ∷ []), (refl, low_integer n (omega (arith, few, low))), each_number bound ns few a)

pub numbers_text : (bound : ℕ) (ns : List ℕ) → bound ≤ 4096 → AreBelow bound ns → IsValueText false (array (integers ns)) (number_list ns)
numbers_text bound [] few a = (codes "]", refl, refl)
numbers_text bound (n ∷ []) few a = (_, refl, first_number bound n [] few a.0 tt)
numbers_text bound (n ∷ m ∷ ns) few a = (_, refl, first_number bound n (m ∷ ns) few a.0 a.1)

-- ---- the list with a line for each text

after_comma : (t : List ℕ) → after_element 93 (44 ∷ t) ≡ Some t
unfolding after_element
after_comma t = rw (skip_none (44 ∷ t) 44 refl refl) refl

abbrev rest_of_lines : List (List ℕ) → List ℕ → List ℕ
rest_of_lines ts rest = each (codes "\n\"") (codes "\",") ts ++ (10 ∷ 93 ∷ rest)

line_at : (t : List ℕ) (ts : List (List ℕ)) (rest : List ℕ) → rest_of_lines (t ∷ ts) rest ≡ 10 ∷ (quoted t ++ 44 ∷ rest_of_lines ts rest)
line_at t ts rest =
    let more = each (codes "\n\"") (codes "\",") ts in
    ap (λ x. 10 ∷ 34 ∷ x) (append_assoc t (34 ∷ 44 ∷ more) (10 ∷ 93 ∷ rest) ∙ sym (append_assoc t (34 ∷ []) (44 ∷ (more ++ (10 ∷ 93 ∷ rest)))))

lines_read : (ts : List (List ℕ)) (m : ℕ) (found : Items) (rest : List ℕ) → AreItems ts → length ts < m → items (val 79) m found (rest_of_lines ts rest) ≡ Some (item_join found (strings ts), rest)
lines_read [] m found rest a h =
    let closing : skip_blank (10 ∷ 93 ∷ rest) ≡ 93 ∷ rest = skip_newline (93 ∷ rest) ∙ skip_none (93 ∷ rest) 93 refl refl in
    items_end (val 79) m found (10 ∷ 93 ∷ rest) (omega (arith, h)) (rw closing refl) ∙ rw (closing, item_join-none found) refl
lines_read (t ∷ ts) m found rest a h =
    let text = rest_of_lines (t ∷ ts) rest in
    let more = rest_of_lines ts rest in
    let s = quoted t ++ 44 ∷ more in
    let at_start : skip_blank text ≡ s = ap skip_blank (line_at t ts rest) ∙ skip_newline s ∙ skip_none s 34 refl refl in
    let ends : EndsValue (44 ∷ more) = ((refl, refl), (refl, refl)) in
    let read : val 79 s ≡ Some (string t, 44 ∷ more) = read_value false (string t) 79 (quoted t) (44 ∷ more) (sym (quoted_text t a.0)) (omega arith) refl ends in
    let other : (first (skip_blank text) == 93) ≡ false = rw at_start refl in
    items_more (val 79) m found text (string t) (44 ∷ more) more (omega (arith, h)) other (rw at_start read) (after_comma more)
    ∙ lines_read ts (m - 1) (push_item found (string t)) rest a.1 (omega (arith, h)) ∙ ap (λ d. Some (d, rest)) (item_join-push found (string t) (strings ts))

line_count : (ts : List (List ℕ)) (rest : List ℕ) → length ts ≤ length (rest_of_lines ts rest)
line_count [] rest = omega arith
line_count (t ∷ ts) rest =
    let same = ap length (line_at t ts rest) in
    let long = length-append (quoted t) (44 ∷ rest_of_lines ts rest) in
    omega (arith, same, long, line_count ts rest)

-- ---- lines

-- a value that is read in front of a line's end
abbrev pub IsRead : List ℕ → Data → Type 0
IsRead value d = (rest : List ℕ) → val 80 (value ++ 10 ∷ rest) ≡ Some (d, 10 ∷ rest)

line_ends : (rest : List ℕ) → EndsValue (10 ∷ rest)
line_ends rest = ((refl, refl), (refl, refl))

strings_low : (ts : List (List ℕ)) → items_depth (strings ts) ≡ 0
strings_low [] = refl
strings_low (t ∷ ts) = rw (strings_low ts) refl

strings_valid : (ts : List (List ℕ)) → items_have_valid_dates (strings ts) ≡ true
strings_valid [] = refl
strings_valid (t ∷ ts) = strings_valid ts

integers_low : (ns : List ℕ) → items_depth (integers ns) ≡ 0
integers_low [] = refl
integers_low (n ∷ ns) = rw (integers_low ns) refl

integers_valid : (ns : List ℕ) → items_have_valid_dates (integers ns) ≡ true
integers_valid [] = refl
integers_valid (n ∷ ns) = integers_valid ns

pub list_read : (ts : List (List ℕ)) → AreItems ts → IsRead (quoted_list ts) (array (strings ts))
list_read ts a rest = let low = strings_low ts in read_value false (array (strings ts)) 80 (quoted_list ts) (10 ∷ rest) (list_text ts a) (omega (arith, low)) (strings_valid ts) (line_ends rest)

pub numbers_read : (bound : ℕ) (ns : List ℕ) → bound ≤ 4096 → AreBelow bound ns → IsRead (number_list ns) (array (integers ns))
numbers_read bound ns few a rest = let low = integers_low ns in read_value false (array (integers ns)) 80 (number_list ns) (10 ∷ rest) (numbers_text bound ns few a) (omega (arith, low)) (integers_valid ns) (line_ends rest)

pub line_list_read : (ts : List (List ℕ)) → AreItems ts → IsRead (line_list ts) (array (strings ts))
line_list_read [] a rest = read_value false (array no_items) 80 (codes "[]") (10 ∷ rest) (codes "]", refl, refl) (omega arith) refl (line_ends rest)
line_list_read (t ∷ ts) a rest =
    let body = rest_of_lines (t ∷ ts) (10 ∷ rest) in
    let same : line_list (t ∷ ts) ++ 10 ∷ rest ≡ 91 ∷ body = ap (λ x. 91 ∷ x) (append_assoc (each (codes "\n\"") (codes "\",") (t ∷ ts)) (10 ∷ 93 ∷ []) (10 ∷ rest)) in
    let long = line_count (t ∷ ts) (10 ∷ rest) in
    let read = lines_read (t ∷ ts) (length (91 ∷ body)) no_items (10 ∷ rest) a (omega (arith, long)) in
    ap (val 80) same ∙ val_array 79 (91 ∷ body) refl ∙ rw read refl

-- one line: a bare key, and a value that begins with a bracket
abbrev pub IsBracketed : List ℕ → Type 0
IsBracketed value = (x : List ℕ) × (value ≡ 91 ∷ x)

module _ (k value rest : List ℕ) (d : Data) (bare : key_text k ≡ k) (read : IsRead value d) (bracket : IsBracketed value) where
  abbrev pub text : List ℕ
  text = k ++ (codes " = " ++ (value ++ 10 ∷ rest))

  line_read : (first text == 91) ≡ false → line text ≡ Some ((([], k), key_value d), 10 ∷ rest)
  unfolding line expression
  line_read other =
      let start : starts_value (first (value ++ 10 ∷ rest)) ≡ true = rw bracket.1 refl in
      let key : key_equals text ≡ Some (([], k), value ++ 10 ∷ rest) = rw bare at (key_equals-pair k (value ++ 10 ∷ rest) start) in
      let pair = keyval_ok (val 80) text (value ++ 10 ∷ rest) (10 ∷ rest) ([], k) d key (read rest) in
      let end : ends_line (skip_ws (10 ∷ rest)) ≡ true = rw (skip_ws_none (10 ∷ rest) refl) (grind (arith, nat_tests)) in
      rw (other, pair, end) refl

  -- a turn of the reader, at a text that is this line but for line ends in front
  pub turn : (m : ℕ) (x : List ℕ) (doc next : Document) → skip_blank x ≡ text → (first text == 91) ≡ false → 0 < length text → 0 < m → define doc (([], k), key_value d) ≡ Some next → lines m doc x ≡ lines (m - 1) next (10 ∷ rest)
  turn m x doc next at other long some step =
      let there : (length (skip_blank x) == 0) ≡ false = rw at (grind (arith, nat_tests, long)) in
      lines_more m doc next x (([], k), key_value d) (10 ∷ rest) some there (rw at (line_read other)) step
