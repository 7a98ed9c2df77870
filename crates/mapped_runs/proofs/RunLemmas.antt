-- Two runs of a driver that was checked.
use Rattle.std.proofs.Common.{◌≡◌, ◌<◌, ◌≤◌, ◌+◌, ◌-◌, ◌%◌, ℕ, Bool, true, false, List, refl, sym, subst, arith, ◌⊎◌, inl, inr, ◌∙◌, ap}
use Rattle.std.specs.Prelude.{◌^◌, ◌↔◌, nat_lt, slice_get, slice_index, Some}
use Rattle.std.proofs.lemmas.Bool.Decides.{nat_tests}
use Rattle.uh_base.specs.Bytes.{behind}
use Rattle.rv_step.specs.declared.bus.Access.TheVariants as access
use Rattle.rv_step.specs.Exec.{Rights}
use Rattle.memory_map.specs.Laws.{MapIsMap}
use Rattle.guest_memory.specs.Pages.{rights_at}
use Rattle.address_view.specs.declared.view.Window.{Window}
use Rattle.address_view.specs.Windows.{see}
use Rattle.address_view.specs.Seen.{all_pass, view_allows}
use Rattle.address_view.specs.Laws.{AllPass}
use Rattle.map_faults.specs.Grounds.{Call, Kept}
use Rattle.virtual_map.specs.States.{Runtime}
use Rattle.prov_types.specs.Kinds.{AreApart, length_of}
use Rattle.prov_cert.specs.declared.cert.Class.{Class as SpanClass}
use Rattle.prov_cert.specs.declared.cert.Class.TheVariants as spans
use Rattle.prov_cert.specs.Cert.{Plain}
use Rattle.prov_layout.specs.declared.piece.Piece.{Piece}
use Rattle.prov_layout.specs.Pieces.{AreOrdered, is_code, is_of, piece_at}
use Rattle.prov_layout.specs.Laid.{class_of, laid}
use Rattle.prov_layout.specs.Laws.{PassesEach}
use Rattle.prov_runs.specs.Bytes.{AreDisjoint}
use Rattle.prov_runs.specs.Memory.{IsLaid}
use Rattle.provenance_check.specs.Ground.{AreFormed, Ground}
use Rattle.provenance_tables.specs.Regions.{address_of, fixed_starts, lens_of, rights_in, starts_of}
use Rattle.provenance_tables.specs.Spans.{may_run}
use Rattle.provenance_tables.specs.Passed.{NoneFailsStands}
use Rattle.prov_laws.specs.Checked.{BeginEven, regions_of}
use Rattle.mapped_runs.specs.Places.{RangesAreSeen}
use Rattle.mapped_runs.specs.Checked.{IsChecked, RegionsAreApart, RegionsAreDisjoint, starts_after, starts_before}
use Rattle.mapped_runs.specs.Shown.{RightsStay, rights_before}
use Rattle.mapped_runs.specs.Runs.{IsGroundOf, RunIsOf, RunsAreOf, targets_in}
use Rattle.mapped_runs.proofs.GroundLemmas.{places, view_is}
use Rattle.mapped_runs.proofs.RegionLemmas.{after_at, after_none, before_at, before_none, is_image, passes, ram_of, region_moves, start_at}
use Rattle.mapped_runs.proofs.LaidLemmas.{IsGiven, IsOfSpan, OfClass, buffers, laid_listed, of_class, service, tables}
use Rattle.mapped_runs.proofs.FormedLemmas.{nodes_formed}

-- a range passes a test where each of its addresses does
abbrev pub RangesPass : Type 0
RangesPass = (test : ℕ → Bool) (at n : ℕ) → at < 2 ^ 64 → (all_pass test at n ≡ true) ↔ AllPass test at n

code_span : (target cell : ℕ) (class : SpanClass) → is_code (class_of target cell class) ≡ true → class ≡ spans.Code
code_span target cell spans.Code h = refl
code_span target cell spans.Plain h = absurd cc
code_span target cell (spans.Num kind) h = absurd cc
code_span target cell spans.Fixed h = absurd cc
code_span target cell (spans.Convert kind) h = absurd cc

module _ (is_map : MapIsMap) (each : PassesEach) (stands : NoneFailsStands) (seen : RangesAreSeen) where
  module _ (r : Runtime) (call : Call) (image : Kept) (cert : Plain) (checked : IsChecked r call image cert) where
    abbrev starts : List ℕ
    starts = starts_of r image cert.regions

    abbrev lens : List ℕ
    lens = lens_of image cert.regions

    -- ---- what is laid

    given_inside : (p : Piece) → IsGiven p → (p.at + p.len ≤ length_of lens p.region) × (p.region ≡ 1 → ⊥)
    given_inside p (buffers is) = subst (λ (q : Piece). (q.at + q.len ≤ length_of lens q.region) × (q.region ≡ 1 → ⊥)) (sym is) (omega arith, λ e. absurd (omega (arith, e)))
    given_inside p (tables is) = subst (λ (q : Piece). (q.at + q.len ≤ length_of lens q.region) × (q.region ≡ 1 → ⊥)) (sym is) (omega arith, λ e. absurd (omega (arith, e)))
    given_inside p (service i few is) = subst (λ (q : Piece). (q.at + q.len ≤ length_of lens q.region) × (q.region ≡ 1 → ⊥)) (sym is) (omega (arith, few), λ e. absurd (omega (arith, e)))

    off_one : (n : ℕ) → (n ≡ 0) ⊎ (5 < n) → n ≡ 1 → ⊥
    off_one n (inl z) e = omega (arith, z, e)
    off_one n (inr l) e = omega (arith, l, e)

    span_inside : (targets : ℕ → ℕ) (p : Piece) → IsOfSpan targets cert.spans p → (p.at + p.len ≤ length_of lens p.region) × (p.region ≡ 1 → ⊥)
    span_inside targets p o =
        let lies = (passes is_map each stands seen r call image cert checked).lie o.number o.span o.here in
        subst (λ (q : Piece). (q.at + q.len ≤ length_of lens q.region) × (q.region ≡ 1 → ⊥)) (sym o.is) (lies.inside, off_one o.span.region lies.region)

    piece_inside : (i : ℕ) (p : Piece) → slice_get (laid (targets_in r image cert) cert.spans) i ≡ Some p → (p.at + p.len ≤ length_of lens p.region) × (p.region ≡ 1 → ⊥)
    piece_inside i p h = by (laid_listed (targets_in r image cert) cert.spans i p h)
      where
        by : IsGiven p ⊎ IsOfSpan (targets_in r image cert) cert.spans p → (p.at + p.len ≤ length_of lens p.region) × (p.region ≡ 1 → ⊥)
        by (inl g) = given_inside p g
        by (inr o) = span_inside (targets_in r image cert) p o

    -- ---- even addresses

    old_even : (n start : ℕ) → slice_index starts n ≡ start → start % 4096 ≡ 0 → starts_before r image cert n % 2 ≡ 0
    old_even n start is even = by (nat_lt 0 (length_of lens n)) refl
      where
        by : (b : Bool) → nat_lt 0 (length_of lens n) ≡ b → starts_before r image cert n % 2 ≡ 0
        by true e = let old = before_at is_map each stands seen r call image cert checked n (grind (arith, nat_tests)) in omega (arith, old, is, even)
        by false e = let old = before_none is_map each stands seen r call image cert checked n (grind (arith, nat_tests)) in omega (arith, old)

    new_even : (n start : ℕ) → slice_index starts n ≡ start → start % 4096 ≡ 0 → starts_after r call image cert n % 2 ≡ 0
    new_even n start is even = by (nat_lt 0 (length_of lens n)) refl
      where
        by : (b : Bool) → nat_lt 0 (length_of lens n) ≡ b → starts_after r call image cert n % 2 ≡ 0
        by true e =
            let some : 0 < length_of lens n = grind (arith, nat_tests) in
            let new = after_at is_map each stands seen r call image cert checked n some in
            let page = (seen r call (slice_index starts n) (length_of lens n) checked.whole checked.accepted some (region_moves is_map each stands seen r call image cert checked n some).as_one).page in
            omega (arith, new, is, even, page)
        by false e = let new = after_none is_map each stands seen r call image cert checked n (grind (arith, nat_tests)) in omega (arith, new)

    -- the image, the OS return page and the slot page begin at pages
    record OnPages : Type 0 where
      image_page : image.base % 4096 ≡ 0
      return_page : r.layout.os_return % 4096 ≡ 0
      slot_page : r.layout.slots % 4096 ≡ 0

    on_pages : OnPages
    on_pages =
        let p = places r.layout checked.whole.ram.is_layout in
        let a = p.stack in let b = p.arguments in let c = p.back in let d = p.slots in let e = p.even in
        record { image_page = (is_image is_map each stands seen r call image cert checked).on_page; return_page = omega (arith, a, b, c); slot_page = omega (arith, d, e) }

    first_six : (k start : ℕ) → k < 6 → slice_index (fixed_starts r.layout image) k ≡ start → slice_index starts k ≡ start
    first_six k start l is = start_at is_map each stands seen r call image cert checked k l ∙ is

    -- ---- code

    code_allowed : (pass : RangesPass) (o : ℕ) → is_of is_code (piece_at (laid (targets_in r image cert) cert.spans) 0 o) ≡ true → rights_in r access.Fetch (starts_before r image cert 0 + o) ≡ true
    code_allowed pass o h = by (laid_listed (targets_in r image cert) cert.spans found.has.index found.piece found.has.listed)
      where
        found : OfClass is_code (laid (targets_in r image cert) cert.spans) 0 o
        found = of_class is_code (laid (targets_in r image cert) cert.spans) 0 o h

        by : IsGiven found.piece ⊎ IsOfSpan (targets_in r image cert) cert.spans found.piece → rights_in r access.Fetch (starts_before r image cert 0 + o) ≡ true
        by (inl (buffers is)) = let bad : is_code found.piece.class ≡ false = ap (λ (q : Piece). is_code q.class) is in let no = found.passes in absurd cc
        by (inl (tables is)) = let bad : is_code found.piece.class ≡ false = ap (λ (q : Piece). is_code q.class) is in let no = found.passes in absurd cc
        by (inl (service i few is)) = let bad : is_code found.piece.class ≡ false = ap (λ (q : Piece). is_code q.class) is in let no = found.passes in absurd cc
        by (inr s) =
            let class : s.span.class ≡ spans.Code = code_span (targets_in r image cert s.number) s.cell s.span.class (sym (ap (λ (q : Piece). is_code q.class) s.is) ∙ found.passes) in
            let lies = (passes is_map each stands seen r call image cert checked).lie s.number s.span s.here in
            let zero_region : s.span.region ≡ 0 = sym (ap (λ (q : Piece). q.region) s.is) ∙ found.has.region in
            let at : found.piece.at ≡ s.span.at = ap (λ (q : Piece). q.at) s.is in
            let long : found.piece.len ≡ s.span.len = ap (λ (q : Piece). q.len) s.is in
            let low = found.has.low in
            let high = found.has.high in
            let runs : all_pass (rights_in r access.Fetch) (address_of starts s.span.region s.span.at) s.span.len ≡ true = subst (λ (c : SpanClass). may_run (rights_in r) starts s.span c ≡ true) class lies.runs in
            let inside : s.span.at + s.span.len ≤ length_of lens 0 = subst (λ (n : ℕ). s.span.at + s.span.len ≤ length_of lens n) zero_region lies.inside in
            let some : 0 < length_of lens 0 = omega (arith, inside, low, high, at, long) in
            let start : slice_index starts s.span.region ≡ slice_index starts 0 = ap (slice_index starts) zero_region in
            let ram = ram_of is_map each stands seen r call image cert checked 0 some in
            let top = ram.high in
            let end = (places r.layout checked.whole.ram.is_layout).end in
            let old = before_at is_map each stands seen r call image cert checked 0 some in
            let pass_at = ((pass (rights_in r access.Fetch) (address_of starts s.span.region s.span.at) s.span.len (omega arith)).0 runs) (o - s.span.at) (omega (arith, low, high, at, long)) in
            let is : starts_before r image cert 0 + o ≡ behind (address_of starts s.span.region s.span.at) (o - s.span.at) = omega (arith, old, start, low, high, at, long, top, end, inside) in
            ap (rights_in r access.Fetch) is ∙ pass_at

    -- ---- runs

    abbrev Laying : Ground → (new : ℕ → ℕ) → Type 0
    Laying g new = IsLaid (regions_of g (starts_before r image cert) new) g.pieces

    is_laid : (g : Ground) → IsGroundOf r image cert g → (new : ℕ → ℕ) → Laying g new
    is_laid g is new = record {
      order = subst AreOrdered (sym is.pieces) ((passes is_map each stands seen r call image cert checked).ordered (targets_in r image cert));
      inside = λ i p h. subst (λ (ls : List ℕ). p.at + p.len ≤ length_of ls p.region) (sym is.lens) (piece_inside i p (subst (λ (ps : List Piece). slice_get ps i ≡ Some p) is.pieces h)).0;
      off_stack = λ i p h. (piece_inside i p (subst (λ (ps : List Piece). slice_get ps i ≡ Some p) is.pieces h)).1;
    }

    rights_are : rights_in r ≡ rights_before r r.memory
    rights_are = ap (λ (ws : List Window). view_allows (see ws) (rights_at r.memory)) (view_is r call checked.whole checked.accepted)

    pub starts_are : (g : Ground) → IsGroundOf r image cert g → (n : ℕ) → 0 < length_of g.lens n → starts_before r image cert n ≡ slice_index g.starts n
    starts_are g is n some = before_at is_map each stands seen r call image cert checked n (subst (λ (ls : List ℕ). 0 < length_of ls n) is.lens some) ∙ ap (λ (xs : List ℕ). slice_index xs n) (sym is.starts)

    old_begin_even : BeginEven (starts_before r image cert)
    old_begin_even = let p = on_pages in record {
      image = old_even 0 image.base (first_six 0 image.base (omega arith) refl) p.image_page;
      return_page = old_even 3 r.layout.os_return (first_six 3 r.layout.os_return (omega arith) refl) p.return_page;
      slot_page = old_even 5 r.layout.slots (first_six 5 r.layout.slots (omega arith) refl) p.slot_page;
    }

    new_begin_even : BeginEven (starts_after r call image cert)
    new_begin_even = let p = on_pages in record {
      image = new_even 0 image.base (first_six 0 image.base (omega arith) refl) p.image_page;
      return_page = new_even 3 r.layout.os_return (first_six 3 r.layout.os_return (omega arith) refl) p.return_page;
      slot_page = new_even 5 r.layout.slots (first_six 5 r.layout.slots (omega arith) refl) p.slot_page;
    }

  module _ (apart : RegionsAreApart) (disjoint : RegionsAreDisjoint) (rights : RightsStay) (pass : RangesPass) where
    pub runs_are_of : RunsAreOf
    runs_are_of r call image cert g checked is = record {
      formed = subst AreFormed (sym is.nodes) (nodes_formed cert checked.form);
      starts = starts_are r call image cert checked g is;
      apart = subst (λ (ls : List ℕ). AreApart (record { old = starts_before r image cert; new = starts_after r call image cert; lens = ls })) (sym is.lens) (apart r call image cert checked);
      disjoint = subst (λ (ls : List ℕ). AreDisjoint (record { old = starts_before r image cert; new = starts_after r call image cert; lens = ls })) (sym is.lens) (disjoint r call image cert checked);
      is_laid = is_laid r call image cert checked g is (starts_after r call image cert);
      code = λ o h. code_allowed r call image cert checked pass o (subst (λ (ps : List Piece). is_of is_code (piece_at ps 0 o) ≡ true) is.pieces h);
      rights = λ n o right l. rights r call image cert r.memory n o right checked (subst (λ (ls : List ℕ). o < length_of ls n) is.lens l) ∙ ap (λ (f : Rights). f right (starts_before r image cert n + o)) (sym (rights_are r call image cert checked));
      old_even = old_begin_even r call image cert checked;
      new_even = new_begin_even r call image cert checked;
    }

    pub run_is_of : RunIsOf
    run_is_of r call image cert g checked is =
        let two = runs_are_of r call image cert g checked is in
        record {
          formed = two.formed;
          starts = two.starts;
          apart = record { old_begins = two.apart.old_begins; new_begins = two.apart.old_begins; old_ends = two.apart.old_ends; new_ends = two.apart.old_ends };
          disjoint = record { old = two.disjoint.old; new = two.disjoint.old };
          is_laid = record { order = two.is_laid.order; inside = two.is_laid.inside; off_stack = two.is_laid.off_stack };
          code = two.code;
          rights = λ n o right l. refl;
          old_even = two.old_even;
          new_even = two.old_even;
        }
