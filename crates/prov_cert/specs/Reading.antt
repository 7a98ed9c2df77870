-- The certificate that a document says, or the first thing that is wrong with it.
use Rattle.std.specs.Prelude.{ℕ, pos, ◌+◌, ◌&&◌, Bool, true, false, List, [], ◌∷◌, ◌++◌, length, codes, Option, Some, None, Result, Ok, Err, nat_lt, if◌then◌else◌}
use Rattle.std.specs.List.{list_any}
use Rattle.std.specs.Str.{bytes_eq, is_utf8}
use Rattle.toml.specs.Data.{Data, integer, array, Items, no_items, item, Members, no_members, member, get_member, as_str}
use Rattle.toml.specs.Parse.{parse_document}
use Rattle.prov_cert.specs.declared.cert.OwnRegion.{OwnRegion}
use Rattle.prov_cert.specs.declared.cert.CertSpan.{CertSpan}
use Rattle.prov_cert.specs.declared.cert.Class.{Class}
use Rattle.prov_cert.specs.declared.cert.Class.TheVariants as classes
use Rattle.prov_cert.specs.declared.fault.Part.{Part}
use Rattle.prov_cert.specs.declared.fault.Part.TheVariants as parts
use Rattle.prov_cert.specs.Cert.{Entry, Node, Plain}
use Rattle.prov_cert.specs.Words.{◌>>=◌, where_true}
use Rattle.prov_cert.specs.Forms.{Counts, region_of, span_of, entry_of, node_of}
use Rattle.prov_cert.specs.Faults.{Place, placed, ◌>>>◌}

-- ---- the five keys

abbrev pub keys_pass : (List ℕ → Bool) → Members → Bool
keys_pass p no_members = true
keys_pass p (member key content members) = p key && keys_pass p members

-- the key is one of the words
abbrev pub is_among : List (List ℕ) → List ℕ → Bool
is_among words key = list_any (λ word. bytes_eq word key) words

-- every key is known
unfoldable pub only_keys : List (List ℕ) → Members → Bool
only_keys words members = keys_pass (is_among words) members

abbrev pub items_len : Items → ℕ
items_len no_items = 0
items_len (item content items) = items_len items + 1

-- a list of at most so many items
abbrev pub at_most : ℕ → Items → Option Items
at_most most items = if nat_lt most (items_len items) then None else Some items

abbrev pub list_in : ℕ → Option Data → Option Items
list_in most (Some (array items)) = at_most most items
list_in most _ = None

unfoldable pub list_field : List ℕ → ℕ → Members → Option Items
list_field key most members = list_in most (get_member key members)

pub record Lists : Type 0 where
  pub regions : Items
  pub spans : Items
  pub entries : Items
  pub notify : Items
  pub nodes : Items

unfoldable pub lists_of : Members → Option Lists
lists_of document =
    if only_keys (codes "regions" ∷ codes "spans" ∷ codes "entries" ∷ codes "notify" ∷ codes "nodes" ∷ []) document then
    (list_field (codes "regions") 26 document >>= λ regions. list_field (codes "spans") 4096 document >>= λ spans.
    list_field (codes "entries") 64 document >>= λ entries. list_field (codes "notify") 16 document >>= λ notify.
    list_field (codes "nodes") 4096 document >>= λ nodes.
    Some (record { regions = regions; spans = spans; entries = entries; notify = notify; nodes = nodes }))
    else None

-- ---- items

-- own regions are numbered from 6; the cell of each lies in a region of a lower number
unfoldable pub region_in : ℕ → Data → Option OwnRegion
region_in number content = as_str content >>= region_of number

unfoldable pub region_at : List OwnRegion → Data → Option OwnRegion
region_at before content = region_in (6 + length before) content

unfoldable pub span_at : ℕ → List CertSpan → Data → Option CertSpan
span_at regions before content = as_str content >>= span_of regions

unfoldable pub entry_at : Counts → List Entry → Data → Option Entry
entry_at counts before content = as_str content >>= entry_of counts

-- the first node of a notified function
abbrev pub node_number : ℕ → Data → Option ℕ
node_number nodes (integer (pos n)) = where_true (nat_lt n nodes) n
node_number nodes _ = None

unfoldable pub notify_at : ℕ → List ℕ → Data → Option ℕ
notify_at nodes before content = node_number nodes content

unfoldable pub node_at : Counts → List Node → Data → Option Node
node_at counts before content = as_str content >>= node_of counts

-- each item beside those before it, which give its number
unfoldable pub items_of : {A : Type 0} → Part → (List A → Data → Option A) → List A → Items → Result (List A) Place
items_of part form before no_items = Ok before
items_of part form before (item content items) = placed (part, length before) (form before content) (λ x. items_of part form (before ++ x ∷ []) items)

-- ---- the whole

abbrev pub is_convert : Class → Bool
is_convert (classes.Convert kind) = true
is_convert _ = false

-- how many spans are convertible cells; they are numbered in this order, from 0
abbrev pub cells_in : List CertSpan → ℕ
cells_in [] = 0
cells_in (span ∷ spans) = if is_convert span.class then 1 + cells_in spans else cells_in spans

abbrev pub counts_of : Lists → List OwnRegion → List CertSpan → Counts
counts_of lists regions spans = record { regions = 6 + length regions; nodes = items_len lists.nodes; cells = cells_in spans }

unfoldable pub with_counts : Lists → Counts → List OwnRegion → List CertSpan → Result Plain Place
with_counts lists counts regions spans = items_of parts.Entries (entry_at counts) [] lists.entries >>> λ entries.
    items_of parts.Notify (notify_at counts.nodes) [] lists.notify >>> λ notify. items_of parts.Nodes (node_at counts) [] lists.nodes >>> λ nodes.
    Ok (record { regions = regions; spans = spans; entries = entries; notify = notify; nodes = nodes })

unfoldable pub with_lists : Lists → Result Plain Place
with_lists lists = items_of parts.Regions region_at [] lists.regions >>> λ regions. items_of parts.Spans (span_at (6 + length regions)) [] lists.spans >>> λ spans.
    with_counts lists (counts_of lists regions spans) regions spans

abbrev pub of_lists : Option Lists → Result Plain Place
of_lists None = Err (parts.Keys, 0)
of_lists (Some lists) = with_lists lists

abbrev pub of_document : Option Members → Result Plain Place
of_document None = Err (parts.Text, 0)
of_document (Some document) = of_lists (lists_of document)

-- the certificate that the bytes of a document say
unfoldable pub cert_in : List ℕ → Result Plain Place
cert_in bytes = if is_utf8 bytes then of_document (parse_document bytes) else Err (parts.Text, 0)
