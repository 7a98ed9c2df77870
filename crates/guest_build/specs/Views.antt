-- What the program keeps, as what it stands for.
use Rattle.std.specs.Prelude.{◌≡◌, ℕ, List, Option, Some, None, Result, Ok, Err, if◌then◌else◌}
use Rattle.std.specs.Str.{bytes_eq}
use Rattle.std.specs.BTreeMap.{get_by_text}
use Rattle.guest_build.specs.declared.labels.Labels.{Labels}
use Rattle.uh_base.specs.Answers.{Stops, kind_of}
use Rattle.guest_build.specs.declared.fault.AsmKind.{AsmKind}
use Rattle.uh_base.specs.declared.fault.Fault.{Fault}
use Rattle.guest_build.specs.declared.places.Place.{Place}
use Rattle.guest_build.specs.declared.sections.Content as code_content
use Rattle.guest_build.specs.declared.sections.Sections as code
use Rattle.guest_build.specs.declared.layout.Frame.{Frame}
use Rattle.guest_build.specs.Layout.{Content, Sections, Layout}

-- the first of two that is there
abbrev pub or_else : {A : Type 0} → Option A → Option A → Option A
or_else (Some x) other = Some x
or_else None other = other

-- where labels stand, by their names
abbrev pub places_in : Labels → List ℕ → Option Place
places_in labels name = get_by_text labels.places name

-- one label alone
abbrev pub one_label : List ℕ → Place → List ℕ → Option Place
one_label label place name = if bytes_eq label name then Some place else None

abbrev pub content_of : code_content.Content → Content
content_of c = record { bytes = c.bytes.items; sites = c.sites.items }

abbrev pub sections_of : code.Sections → Sections
sections_of s = record { section = s.section; in_text = content_of s.in_text; in_data = content_of s.in_data; settings = s.settings }

-- the numbers of a layout; the size of the table is kept modulo 2^64
abbrev pub frame_of : Layout → Frame
frame_of l = record { alignment = l.alignment; headers = l.headers; text_from = l.text_from; data_from = l.data_from; reloc_from = l.reloc_from; size = l.size }

-- What is changed becomes what judging gives, unless memory runs out.
abbrev pub Makes : {A X : Type 0} → Result X (Fault AsmKind) → (new : A) → Result A AsmKind → Type 0
Makes (Ok done) new judged = judged ≡ Ok new
Makes (Err e) new judged = Stops (kind_of e) judged

-- a layout by its numbers and the bytes of .reloc
abbrev pub drawn : Frame → List ℕ → Layout
drawn f table = record { alignment = f.alignment; headers = f.headers; text_from = f.text_from; data_from = f.data_from; reloc_from = f.reloc_from; table = table; size = f.size }
