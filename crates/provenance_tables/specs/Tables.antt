-- The rules on a driver and its certificate as a whole: the first one that fails, with a number.
use Rattle.std.specs.Prelude.{ℕ, ◌≡◌, ◌+◌, ◌-◌, ◌==◌, ◌&&◌, ◌||◌, not, Bool, true, false, List, [], ◌∷◌, length, Option, Some, None, if◌then◌else◌, slice_get}
use Rattle.std.specs.List.{list_any}
use Rattle.event_queue.specs.declared.event.Notify.{Notify}
use Rattle.map_faults.specs.Grounds.{Kept}
use Rattle.virtual_map.specs.States.{Runtime}
use Rattle.prov_cert.specs.declared.cert.CertSpan.{CertSpan}
use Rattle.prov_cert.specs.Cert.{Node, Plain}
use Rattle.provenance_check.specs.declared.rule.Rule.{Rule}
use Rattle.provenance_check.specs.declared.rule.Rule.TheVariants as rules
use Rattle.provenance_check.specs.Entries.{first_entry, first_from}
use Rattle.provenance_check.specs.Notified.{AreMarksOfEach, begins_notified, exits_leave}
use Rattle.prov_cert.specs.Reading.{is_convert}
use Rattle.provenance_tables.specs.Regions.{kept_with, lens_of, region_passes, starts_of}
use Rattle.provenance_tables.specs.Spans.{data_passes, span_passes}

-- Phase: the image is a runtime driver that stays, boot services are over, and no map was made.
abbrev pub phase_number : Runtime → Option ℕ
phase_number r = if r.gone && not r.mapped then None else Some 0

abbrev pub is_empty : List ℕ → Bool
is_empty [] = true
is_empty (n ∷ ns) = false

-- Behind the first function no cell is converted but those that the one before leaves so.
abbrev pub follows : List Node → List (List Bool) → (i : ℕ) → List ℕ → Option (List Bool) → Bool
follows nodes marks i done None = is_empty done
follows nodes marks i done (Some before) = exits_leave nodes before done

abbrev pub marks_before : List (List Bool) → (i : ℕ) → Option (List Bool)
marks_before marks i = if i == 0 then None else slice_get marks (i - 1)

abbrev pub begins_well : Kept → (starts lens : List ℕ) → List Node → List (List Bool) → (i : ℕ) → Option Node → Option Notify → Bool
begins_well image starts lens nodes marks i (Some node) (Some f) =
    image.base + node.at == f.function && (begins_notified starts lens f.context node && follows nodes marks i node.done (marks_before marks i))
begins_well image starts lens nodes marks i _ _ = false

abbrev pub node_of : List Node → Option ℕ → Option Node
node_of nodes None = None
node_of nodes (Some n) = slice_get nodes n

-- A function's first node stands where the function does, what holds there serves it, and just the cells that the function
-- before leaves converted are so.
abbrev pub notify_passes : Kept → (starts lens : List ℕ) → List Notify → List Node → List ℕ → List (List Bool) → (i : ℕ) → Bool
notify_passes image starts lens functions nodes notify marks i = begins_well image starts lens nodes marks i (node_of nodes (slice_get notify i)) (slice_get functions i)

abbrev pub has_convert : List CertSpan → Bool
has_convert spans = list_any (λ (s : CertSpan). is_convert s.class) spans

-- Notify: there is a node for each function, and a function where a cell is to be converted; and each begins well.
unfoldable pub notify_number : Kept → (starts lens : List ℕ) → List Notify → Plain → List (List Bool) → Option ℕ
notify_number image starts lens functions cert marks =
    if not (length cert.notify == length functions) || (has_convert cert.spans && length functions == 0) then Some 0
    else first_from (notify_passes image starts lens functions cert.nodes cert.notify marks) 0 (length cert.notify)

-- the rules behind the first, each with the number at which it fails
abbrev pub tests : Runtime → Kept → Plain → (starts lens : List ℕ) → List (List Bool) → List (Rule × Option ℕ)
tests r image cert starts lens marks =
    (rules.Region, first_from (region_passes r starts lens cert.regions cert.spans) 0 (length starts))
    ∷ (rules.Span, first_from (span_passes r starts lens cert.spans) 0 (length cert.spans))
    ∷ (rules.Data, first_from (data_passes image r starts lens cert.spans) 0 (length cert.spans))
    ∷ (rules.Entry, first_entry cert.nodes cert.entries (length cert.entries))
    ∷ (rules.Notify, notify_number image starts lens r.notifies cert marks)
    ∷ []

abbrev pub tests_of : Runtime → Plain → List (List Bool) → Option Kept → List (Rule × Option ℕ)
tests_of r cert marks None = (rules.Phase, Some 0) ∷ []
tests_of r cert marks (Some image) = (rules.Phase, phase_number r) ∷ tests r image cert (starts_of r image cert.regions) (lens_of image cert.regions) marks

abbrev pub or_later : Rule → Option ℕ → Option (Rule × ℕ) → Option (Rule × ℕ)
or_later rule None later = later
or_later rule (Some n) later = Some (rule, n)

-- the first that fails
unfoldable pub first_number : List (Rule × Option ℕ) → Option (Rule × ℕ)
first_number [] = None
first_number ((rule, number) ∷ rest) = or_later rule number (first_number rest)

-- The first of the rules from Phase to Notify that fails, with its number, by marks for the nodes that are reached from each
-- notified function.
unfoldable pub first_in_tables : Runtime → (handle : ℕ) → Plain → List (List Bool) → Option (Rule × ℕ)
first_in_tables r handle cert marks = first_number (tests_of r cert marks (kept_with handle r.kept))

-- What the rules from Phase to Notify come to: the first that fails, or none.
pub record TablesGive (r : Runtime) (handle : ℕ) (cert : Plain) (answer : Option (Rule × ℕ)) : Type 0 where
  pub marks : List (List Bool)
  pub are_marks : AreMarksOfEach cert.nodes cert.notify marks
  pub first : answer ≡ first_in_tables r handle cert marks
