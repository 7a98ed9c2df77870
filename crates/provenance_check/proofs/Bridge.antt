-- From tests to what they establish.
use Rattle.std.proofs.Common.{◌≡◌, ℕ, zero, suc, ◌≤◌, ◌<◌, ◌+◌, ◌-◌, ◌%◌, ◌/◌, ◌*◌, ◌⊎◌, arith, Bool, true, false, refl, sym, ◌∙◌, ap, subst, Option, Some, None, List, [], ◌∷◌, length, inl, inr}
use Rattle.std.specs.Prelude.{◌==◌, ◌&&◌, ◌||◌, not, nat_le, nat_lt, if◌then◌else◌, slice_get, slice_index, slice_set, slice_index_or, replicate, is_some}
use Rattle.std.specs.List.{Contains, list_any}
use Rattle.std.proofs.lemmas.Bool.Decides.{nat_tests}
use Rattle.std.proofs.lemmas.List.{get_or_past, length-set}
use Rattle.std.proofs.lemmas.Nat.{le-div}
use Rattle.rv_decode.specs.declared.insn.Insn.{Insn}
use Rattle.rv_step.specs.declared.bus.Access.TheVariants as access
use Rattle.rv_step.specs.Exec.{Rights}
use Rattle.prov_types.specs.declared.kinds.Span.{Span}
use Rattle.prov_types.specs.declared.kinds.Kind.{Kind}
use Rattle.prov_types.specs.declared.kinds.Kind.TheVariants.{Any, Num, Ptr, Opt}
use Rattle.prov_types.specs.declared.kinds.Place.{Place}
use Rattle.prov_types.specs.Spans.{InSpan, one}
use Rattle.prov_types.specs.Kinds.{length_of}
use Rattle.prov_types.specs.Fits.{fits}
use Rattle.prov_types.specs.Narrow.{narrow}
use Rattle.prov_types.specs.Asked.{KindAsk, Sets, Loads, Stores, Forks, Goes, Jumps, Stops, asked_kinds}
use Rattle.prov_cert.specs.declared.cert.RegKind.{RegKind}
use Rattle.prov_cert.specs.declared.cert.StackPart.{StackPart}
use Rattle.prov_cert.specs.Cert.{Node}
use Rattle.prov_layout.specs.Offsets.{at_each, count, every}
use Rattle.prov_layout.specs.Pieces.{is_shut, piece_at, shown}
use Rattle.prov_layout.specs.Loads.{span_kind}
use Rattle.prov_layout.specs.Stores.{is_number, store_keeps}
use Rattle.prov_layout.specs.Stack.{part_kind}
use Rattle.provenance_check.specs.declared.rule.Rule.{Rule}
use Rattle.provenance_check.specs.declared.rule.Rule.TheVariants as rules
use Rattle.provenance_check.specs.Ground.{AreFormed, Ground}
use Rattle.provenance_check.specs.Registers.{kind_at, kinds_of, naming, written}
use Rattle.provenance_check.specs.Reading.{insn_at, place_of}
use Rattle.provenance_check.specs.Accesses.{is_allowed, loaded, loaded_outside, stack_allows, stores, stores_at}
use Rattle.provenance_check.specs.Successors.{Before, Successor, Target, Inner, Out, Converts, Astray, behind_conversion, behind_jump, cell_in, even_offset, link_kind, on_at, or_any, narrowed, successors, target_by}
use Rattle.provenance_check.specs.Rules.{all_above, are_among, before, convert_rule, converts, converts_by, converts_cell, disposition, edges, exit_rule, first_of, first_rule, has_part, is_exit, is_marked, is_value, jump_rule, kinds_fit, leads, leaves, load_rule, order_rule, parts_fit, same_cells, serves, site_rule, store_rule, tests, tests_at, unconverted_rule}
use Rattle.provenance_check.specs.Judged.{AllowedAt, ConversionLeads, ConvertPasses, EdgeLeads, InOrder, JumpPasses, Judged, Leads, LoadsGive, LoadsOutside, NoneFailsJudges, OnStack, PartIn, PartsFit, Passes, StoresOutside}
use Rattle.provenance_check.proofs.Runs.{both, le_of, of_every}
use Rattle.provenance_check.proofs.ProperKinds.{kinds_proper}

eq_of : (a b : ℕ) → (a == b) ≡ true → a ≡ b
eq_of a b e = grind (arith, nat_tests)

-- a number of a span is one of those counted
record Counted (s : Span) (o : ℕ) : Type 0 where
  index : ℕ
  below : index < count s
  is : o ≡ s.lo + index * s.by

counted : (s : Span) (o : ℕ) → InSpan s o → Counted s o
counted s o h = by (s.by == 0) refl
  where
    by : (c : Bool) → (s.by == 0) ≡ c → Counted s o
    by true e =
        let z : s.by ≡ 0 = grind (arith, nat_tests) in
        let f : o ≡ s.lo + h.up * 0 = rw z at h.from_lo in
        record { index = 0; below = omega arith; is = omega (arith, f) }
    by false e =
        let p : 0 < s.by = grind (arith, nat_tests) in
        let f : h.up * s.by ≤ s.hi - s.lo = omega (arith, h.from_lo, h.to_hi) in
        let g : h.up ≤ (s.hi - s.lo) / s.by = le-div h.up (s.hi - s.lo) s.by p f in
        record { index = h.up; below = omega (arith, g); is = h.from_lo }

of_each : (test : ℕ → Bool) (s : Span) → at_each test s ≡ true → (o : ℕ) → InSpan s o → test o ≡ true
unfolding at_each
of_each test s e o h =
    let k = counted s o h in
    ap test k.is ∙ of_every test s.lo s.by (count s) k.index (both _ _ e).1 k.below

of_allowed : (g : Ground) (right : ℕ → Bool) (r width o : ℕ) → is_allowed g right r width o ≡ true → AllowedAt g right r o width
of_allowed g right r width o e =
    let a = both (nat_le (o + width) (length_of g.lens r)) (every right (slice_index g.starts r + o) 1 width) e in
    record {
      inside = le_of _ _ a.0;
      allowed = λ i h. let z : slice_index g.starts r + o + i ≡ slice_index g.starts r + o + i * 1 = omega arith in ap right z ∙ of_every right (slice_index g.starts r + o) 1 width i a.1 h;
    }

on_stack : (g : Ground) (right : ℕ → Bool) (r : ℕ) (s : Span) (width : ℕ) → (r == 1) ≡ true → stack_allows g right s width ≡ true → OnStack g right r s width
unfolding stack_allows
on_stack g right r s width e h =
    let a = both (s.lo == s.hi) (s.lo % width == 0 && is_allowed g right 1 width s.lo) h in
    let b = both (s.lo % width == 0) (is_allowed g right 1 width s.lo) a.1 in
    record { region = eq_of _ _ e; one = eq_of _ _ a.0; aligned = eq_of _ _ b.0; allowed = of_allowed g right 1 width s.lo b.1 }

-- what the rule Load says
some_if : (b : Bool) (k : Kind) → is_some (if b then Some k else None) ≡ true → b ≡ true
some_if true k e = refl
some_if false k e = absurd cc

loads_outside : (g : Ground) (allows : Rights) (b : Before) (r : ℕ) (s : Span) (width : ℕ) → (r == 1) ≡ false
    → is_some (loaded_outside g allows b.notified b.done r s width) ≡ true → LoadsOutside g allows b r s width (or_any (loaded_outside g allows b.notified b.done r s width))
unfolding loaded_outside
loads_outside g allows b r s width f = by (at_each (is_allowed g (allows access.Load) r width) s) (span_kind (shown (is_shut b.notified b.done) g.pieces r) s width) refl refl
  where
    by : (c : Bool) (k : Option Kind) → at_each (is_allowed g (allows access.Load) r width) s ≡ c → span_kind (shown (is_shut b.notified b.done) g.pieces r) s width ≡ k
        → is_some (if c then k else None) ≡ true → LoadsOutside g allows b r s width (or_any (if c then k else None))
    by true (Some k) e q h = record { region = f; allowed = λ o i. of_allowed g (allows access.Load) r width o (of_each (is_allowed g (allows access.Load) r width) s e o i); gives = q }
    by true None e q h = absurd cc
    by false k e q h = absurd cc

load_gives : (g : Ground) (allows : Rights) (b : Before) (r : ℕ) (s : Span) (width : ℕ) → is_some (loaded g allows b.notified b.done b.parts r s width) ≡ true
    → LoadsGive g allows b r s width (or_any (loaded g allows b.notified b.done b.parts r s width))
unfolding loaded
load_gives g allows b r s width = by (r == 1) (stack_allows g (allows access.Load) s width) refl refl
  where
    by : (c d : Bool) → (r == 1) ≡ c → stack_allows g (allows access.Load) s width ≡ d
        → is_some (if c then (if d then Some (part_kind b.parts s.lo width) else None) else loaded_outside g allows b.notified b.done r s width) ≡ true
        → LoadsGive g allows b r s width (or_any (if c then (if d then Some (part_kind b.parts s.lo width) else None) else loaded_outside g allows b.notified b.done r s width))
    by true true e f h = inl (on_stack g (allows access.Load) r s width e f, refl)
    by true false e f h = absurd cc
    by false d e f h = inr (loads_outside g allows b r s width e h)

-- what the rule Store says
not_true : (b : Bool) → not b ≡ true → b ≡ false
not_true true e = absurd cc
not_true false e = refl

stores_outside : (g : Ground) (allows : Rights) (b : Before) (r : ℕ) (s : Span) (width : ℕ) (kind : Kind) → (r == 1) ≡ false
    → (not b.notified && at_each (stores_at g allows r width kind) s) ≡ true → StoresOutside g allows b r s width kind
unfolding stores_at
stores_outside g allows b r s width kind f h =
    let a = both (not b.notified) (at_each (stores_at g allows r width kind) s) h in
    let each : (o : ℕ) → InSpan s o → (is_allowed g (allows access.Store) r width o && store_keeps (piece_at g.pieces r) o width kind) ≡ true = of_each (stores_at g allows r width kind) s a.1 in
    record {
      region = f;
      call = not_true b.notified a.0;
      allowed = λ o i. of_allowed g (allows access.Store) r width o (both _ _ (each o i)).0;
      keeps = λ o i. (both _ _ (each o i)).1;
    }

store_so : (g : Ground) (allows : Rights) (b : Before) (r : ℕ) (s : Span) (width : ℕ) (kind : Kind) → stores g allows b.notified r s width kind ≡ true
    → OnStack g (allows access.Store) r s width ⊎ StoresOutside g allows b r s width kind
unfolding stores
store_so g allows b r s width kind = by (r == 1) refl
  where
    by : (c : Bool) → (r == 1) ≡ c → (if c then stack_allows g (allows access.Store) s width else (not b.notified && at_each (stores_at g allows r width kind) s)) ≡ true
        → OnStack g (allows access.Store) r s width ⊎ StoresOutside g allows b r s width kind
    by true e h = inl (on_stack g (allows access.Store) r s width e h)
    by false e h = inr (stores_outside g allows b r s width kind e h)

-- Edges

part_in : (have : List StackPart) (p : StackPart) → has_part have p ≡ true → PartIn have p
unfolding has_part
part_in [] p e = absurd cc
part_in (q ∷ qs) p e = by (part_in qs p) (q.at == p.at) (q.width == p.width) (fits q.kind p.kind) refl refl refl e
  where
    by : (has_part qs p ≡ true → PartIn qs p) → (x y z : Bool) → (q.at == p.at) ≡ x → (q.width == p.width) ≡ y → fits q.kind p.kind ≡ z → ((x && (y && z)) || has_part qs p) ≡ true → PartIn (q ∷ qs) p
    by more true true true f g h k = inl (record { at = eq_of _ _ f; width = eq_of _ _ g; kind = h })
    by more true true false f g h k = inr (more k)
    by more true false z f g h k = inr (more k)
    by more false y z f g h k = inr (more k)

of_parts_fit : (have ps : List StackPart) → parts_fit have ps ≡ true → PartsFit have ps
unfolding parts_fit
of_parts_fit have [] e = tt
of_parts_fit have (p ∷ ps) e = let a = both (has_part have p) (parts_fit have ps) e in (part_in have p a.0, of_parts_fit have ps a.1)

fits_any : (a : Kind) → fits a Any ≡ true
unfolding fits
fits_any Any = refl
fits_any (Num s) = refl
fits_any (Ptr r s) = refl
fits_any (Opt r s) = refl

written_long : (kinds : List Kind) (r : ℕ) (kind : Kind) → length kinds ≡ 32 → length (written kinds r kind) ≡ 32
written_long kinds r kind h = by (r == 0)
  where
    by : (b : Bool) → length (if b then kinds else slice_set kinds r kind) ≡ 32
    by true = h
    by false = length-set kinds r kind ∙ h

naming_long : (kinds : List Kind) (regs : List RegKind) → length kinds ≡ 32 → length (naming kinds regs) ≡ 32
unfolding naming
naming_long kinds [] h = h
naming_long kinds (k ∷ ks) h = naming_long (written kinds k.reg k.kind) ks (written_long kinds k.reg k.kind h)

kinds_long : (regs : List RegKind) → length (kinds_of regs) ≡ 32
unfolding kinds_of
kinds_long regs = naming_long (Num (one 0) ∷ replicate 31 Any) regs refl

of_kinds_fit : (have : List Kind) (regs : List RegKind) → kinds_fit have (kinds_of regs) ≡ true → (r : ℕ) → fits (kind_at have r) (kind_at (kinds_of regs) r) ≡ true
unfolding kinds_fit
of_kinds_fit have regs e r = by (nat_le 32 r) refl
  where
    by : (b : Bool) → nat_le 32 r ≡ b → fits (kind_at have r) (kind_at (kinds_of regs) r) ≡ true
    by true f =
        let h : 32 ≤ r = le_of 32 r f in
        let l = kinds_long regs in
        let k : kind_at (kinds_of regs) r ≡ Any = get_or_past (kinds_of regs) r Any (omega (arith, h, l)) in
        rw k (fits_any (kind_at have r))
    by false f =
        let h : r < 32 = grind (arith, nat_tests) in
        let z : r ≡ 0 + r * 1 = omega arith in
        ap (λ n. fits (kind_at have n) (kind_at (kinds_of regs) n)) z ∙ of_every (λ n. fits (kind_at have n) (kind_at (kinds_of regs) n)) 0 1 32 r e h

-- each of some numbers is among others, so all that is among them is
among : (numbers ns : List ℕ) → are_among numbers ns ≡ true → (c : ℕ) → list_any (λ m. m == c) ns ≡ true → list_any (λ m. m == c) numbers ≡ true
unfolding are_among
among numbers [] e c h = absurd cc
among numbers (n ∷ ns) e c h =
    let a = both (list_any (λ m. m == n) numbers) (are_among numbers ns) e in
    by a.0 (λ k. among numbers ns a.1 c k) (n == c) refl h
  where
    by : list_any (λ m. m == n) numbers ≡ true → (list_any (λ m. m == c) ns ≡ true → list_any (λ m. m == c) numbers ≡ true) → (x : Bool) → (n == c) ≡ x → (x || list_any (λ m. m == c) ns) ≡ true → list_any (λ m. m == c) numbers ≡ true
    by here more true f k = let z : n ≡ c = eq_of n c f in subst (λ m. list_any (λ y. y == m) numbers ≡ true) z here
    by here more false f k = more k

same_test : (a b : Bool) → (a ≡ true → b ≡ true) → (b ≡ true → a ≡ true) → a ≡ b
same_test true true f g = refl
same_test true false f g = sym (f refl)
same_test false true f g = g refl
same_test false false f g = refl

of_same : (xs ys : List ℕ) → same_cells xs ys ≡ true → (c : ℕ) → list_any (λ m. m == c) ys ≡ list_any (λ m. m == c) xs
of_same xs ys e c =
    let a = both (are_among xs ys) (are_among ys xs) e in
    same_test (list_any (λ m. m == c) ys) (list_any (λ m. m == c) xs) (among xs ys a.0 c) (among ys xs a.1 c)

contains_later : (m : ℕ) (ns : List ℕ) (n : ℕ) → Contains ns n → Contains (m ∷ ns) n
contains_later m ns n h = (suc h.0, let l = h.1 in omega (arith, l), h.2)

leads_later : (nodes : List Node) (m : ℕ) (ns : List ℕ) (s : Successor) → Leads nodes ns s → Leads nodes (m ∷ ns) s
leads_later nodes m ns s e = record {
  number = e.number;
  node = e.node;
  named = contains_later m ns e.number e.named;
  listed = e.listed;
  at = e.at;
  kinds = e.kinds;
  proper = e.proper;
  parts = e.parts;
  proper_parts = e.proper_parts;
  cells = e.cells;
}

leads_here : (nodes : List Node) (m : ℕ) (ns : List ℕ) (s : Successor) → AreFormed nodes → serves s (slice_get nodes m) ≡ true → Leads nodes (m ∷ ns) s
leads_here nodes m ns s formed = by (slice_get nodes m) refl
  where
    by : (o : Option Node) → slice_get nodes m ≡ o → serves s o ≡ true → Leads nodes (m ∷ ns) s
    by None f e = absurd cc
    by (Some n) f e =
        let a = both (n.at == s.to) (kinds_fit s.kinds (kinds_of n.regs) && (parts_fit s.parts n.stack && same_cells s.done n.done)) e in
        let b = both (kinds_fit s.kinds (kinds_of n.regs)) (parts_fit s.parts n.stack && same_cells s.done n.done) a.1 in
        let d = both (parts_fit s.parts n.stack) (same_cells s.done n.done) b.1 in
        let form = formed m n f in
        record {
          number = m;
          node = n;
          named = (0, omega arith, refl);
          listed = f;
          at = eq_of _ _ a.0;
          kinds = of_kinds_fit s.kinds n.regs b.0;
          proper = kinds_proper n.regs form.registers;
          parts = of_parts_fit s.parts n.stack d.0;
          proper_parts = form.parts;
          cells = of_same s.done n.done d.1;
        }

-- each place where a run may go on has its node
leads_each : (nodes : List Node) (next : List ℕ) (ss : List Successor) → AreFormed nodes → edges nodes next ss ≡ true → (i : ℕ) (s : Successor) → slice_get ss i ≡ Some s → Leads nodes next s
unfolding edges
leads_each nodes [] [] formed e i s h = absurd cc
leads_each nodes [] (t ∷ ts) formed e i s h = absurd cc
leads_each nodes (m ∷ ms) [] formed e i s h = absurd cc
leads_each nodes (m ∷ ms) (t ∷ ts) formed e zero s h =
    let same : t ≡ s = cc in subst (Leads nodes (m ∷ ms)) same (leads_here nodes m ms t formed (both (serves t (slice_get nodes m)) (edges nodes ms ts) e).0)
leads_each nodes (m ∷ ms) (t ∷ ts) formed e (suc i) s h = leads_later nodes m ms s (leads_each nodes ms ts formed (both (serves t (slice_get nodes m)) (edges nodes ms ts) e).1 i s h)

edges_lead : (g : Ground) (b : Before) (next : List ℕ) (insn : Insn) (behind target : ℕ) (x y : Option (Kind × Kind)) → AreFormed g.nodes
    → edges g.nodes next (narrowed b insn target x (narrowed b insn behind y [])) ≡ true → EdgeLeads g b next insn target x × EdgeLeads g b next insn behind y
edges_lead g b next insn behind target None None formed e = (tt, tt)
edges_lead g b next insn behind target (Some (x, y)) None formed e = (leads_each g.nodes next (narrowed b insn target (Some (x, y)) []) formed e 0 _ refl, tt)
edges_lead g b next insn behind target None (Some (x, y)) formed e = (tt, leads_each g.nodes next (narrowed b insn behind (Some (x, y)) []) formed e 0 _ refl)
edges_lead g b next insn behind target (Some (x, y)) (Some (v, w)) formed e = (
  leads_each g.nodes next (narrowed b insn target (Some (x, y)) (narrowed b insn behind (Some (v, w)) [])) formed e 0 _ refl,
  leads_each g.nodes next (narrowed b insn target (Some (x, y)) (narrowed b insn behind (Some (v, w)) [])) formed e 1 _ refl,
)

-- Jumps

convert_cell : (g : Ground) (allows : Rights) (b : Before) (kinds : List Kind) (r : ℕ) (s : Span) (o : Option (Kind × ℕ)) → kind_at kinds 11 ≡ Ptr r s → s.lo ≡ s.hi
    → cell_in s.lo (piece_at g.pieces r s.lo) ≡ o → converts_cell g allows b.done (kind_at kinds 10) r s.lo o ≡ true → ConvertPasses g allows b kinds
convert_cell g allows b kinds r s None f e q h = absurd cc
convert_cell g allows b kinds r s (Some (kind, cell)) f e q h =
    let a = both (is_value (disposition kind) (kind_at kinds 10)) (is_allowed g (allows access.Store) r 8 s.lo && not (list_any (λ c. c == cell) b.done)) h in
    let d = both (is_allowed g (allows access.Store) r 8 s.lo) (not (list_any (λ c. c == cell) b.done)) a.1 in
    record {
      region = r;
      span = s;
      cell_kind = kind;
      cell = cell;
      address = f;
      one = e;
      is = q;
      debug = a.0;
      writable = of_allowed g (allows access.Store) r 8 s.lo d.0;
      fresh = not_true (list_any (λ c. c == cell) b.done) d.1;
    }

convert_by : (g : Ground) (allows : Rights) (b : Before) (kinds : List Kind) (k : Kind) → kind_at kinds 11 ≡ k → converts g allows b.done (kind_at kinds 10) k ≡ true → ConvertPasses g allows b kinds
unfolding converts
convert_by g allows b kinds (Ptr r s) f h =
    let a = both (s.lo == s.hi) (converts_cell g allows b.done (kind_at kinds 10) r s.lo (cell_in s.lo (piece_at g.pieces r s.lo))) h in
    convert_cell g allows b kinds r s (cell_in s.lo (piece_at g.pieces r s.lo)) f (eq_of _ _ a.0) refl a.1
convert_by g allows b kinds Any f h = absurd cc
convert_by g allows b kinds (Num s) f h = absurd cc
convert_by g allows b kinds (Opt r s) f h = absurd cc

conversion_by : (g : Ground) (b : Before) (next : List ℕ) (kinds : List Kind) (o : Option ℕ) → AreFormed g.nodes → even_offset (kind_at kinds 1) ≡ o → is_some o ≡ true
    → edges g.nodes next (behind_conversion g b kinds o) ≡ true → ConversionLeads g b next kinds
conversion_by g b next kinds None formed f e h = absurd cc
conversion_by g b next kinds (Some to) formed f e h = record { to = to; back = f; leads = leads_each g.nodes next (behind_conversion g b kinds (Some to)) formed h 0 _ refl }

second_of : (a b : Bool) → (a || b) ≡ true → a ≡ false → b ≡ true
second_of true b e f = absurd cc
second_of false b e f = e

jump_so : (g : Ground) (allows : Rights) (b : Before) (next : List ℕ) (kinds : List Kind) (t : Target) → AreFormed g.nodes → leads kinds t ≡ true → leaves b.notified kinds t ≡ true
    → converts_by g allows b.done kinds t ≡ true → edges g.nodes next (behind_jump g b kinds t) ≡ true → JumpPasses g allows b next kinds t
jump_so g allows b next kinds (Inner to) formed l o c e = leads_each g.nodes next (on_at b to kinds ∷ []) formed e 0 _ refl
jump_so g allows b next kinds Out formed l o c e =
    let a = both (fits (kind_at kinds 2) (Ptr 1 (one 65536))) (b.notified || is_number (kind_at kinds 10)) o in
    record { stack = a.0; value = λ f. second_of b.notified (is_number (kind_at kinds 10)) a.1 f }
jump_so g allows b next kinds Converts formed l o c e =
    (convert_by g allows b kinds (kind_at kinds 11) refl c, conversion_by g b next kinds (even_offset (kind_at kinds 1)) formed refl l e)
jump_so g allows b next kinds Astray formed l o c e = absurd cc

-- Together

if_true : (c x : Bool) → (if c then x else true) ≡ true → c ≡ true → x ≡ true
if_true true x h e = h
if_true false x h e = absurd cc

above_at : (number : ℕ) (ns : List ℕ) (k n : ℕ) → all_above number ns ≡ true → k < length ns → slice_index_or ns k n ≡ n → number < n
unfolding all_above
above_at number [] k n e h q = absurd (omega arith)
above_at number (m ∷ ns) zero n e h q =
    let a = both (nat_lt number m) (all_above number ns) e in
    let f = a.0 in
    let l : number < m = grind (arith, nat_tests) in
    omega (arith, l, q)
above_at number (m ∷ ns) (suc k) n e h q = let a = both (nat_lt number m) (all_above number ns) e in above_at number ns k n a.1 (omega (arith, h)) q

order_so : (g : Ground) (number : ℕ) (node : Node) → order_rule g number node ≡ true → is_marked g.notified number ≡ true → InOrder g number node
order_so g number node h e =
    let a = both (all_above number node.next) (not (is_marked g.called number)) (if_true (is_marked g.notified number) (all_above number node.next && not (is_marked g.called number)) h e) in
    record { later = λ n c. above_at number node.next c.0 n a.0 c.1 c.2; alone = not_true (is_marked g.called number) a.1 }

and_true : (a b : Bool) → a ≡ true → b ≡ true → (a && b) ≡ true
and_true true b e f = f
and_true false b e f = absurd cc

converted_so : (g : Ground) (number : ℕ) (node : Node) → unconverted_rule g number node ≡ true → is_marked g.last number ≡ true → is_exit node ≡ true
    → (cell : ℕ) → cell < g.cells → list_any (λ c. c == cell) node.done ≡ true
converted_so g number node h e f cell k =
    let a = if_true (is_marked g.last number && is_exit node) (every (λ cell. list_any (λ c. c == cell) node.done) 0 1 g.cells) h (and_true (is_marked g.last number) (is_exit node) e f) in
    let z : cell ≡ 0 + cell * 1 = omega arith in
    ap (λ m. list_any (λ c. c == m) node.done) z ∙ of_every (λ cell. list_any (λ c. c == cell) node.done) 0 1 g.cells cell a k

passes_first : (rule : Rule) (p : Bool) (rest : List (Rule × Bool)) → first_of ((rule, p) ∷ rest) ≡ None → (p ≡ true) × (first_of rest ≡ None)
unfolding first_of
passes_first rule true rest e = (refl, e)
passes_first rule false rest e = absurd cc

record AllPass (g : Ground) (allows : Rights) (number : ℕ) (node : Node) (place : Place) (insn : Insn) (ask : KindAsk) : Type 0 where
  load : load_rule g allows (before g number node) ask ≡ true
  store : store_rule g allows (before g number node) ask ≡ true
  jump : jump_rule g (before g number node) place ask ≡ true
  exit : exit_rule g (before g number node) place ask ≡ true
  convert : convert_rule g allows (before g number node) place ask ≡ true
  edge : edges g.nodes node.next (successors g allows (before g number node) place insn ask) ≡ true
  order : order_rule g number node ≡ true
  converted : unconverted_rule g number node ≡ true

all_pass : (g : Ground) (allows : Rights) (number : ℕ) (node : Node) (place : Place) (insn : Insn) (ask : KindAsk) → first_of (tests g allows number node place insn ask) ≡ None → AllPass g allows number node place insn ask
all_pass g allows number node place insn ask e =
    let a = passes_first rules.Load (load_rule g allows (before g number node) ask) _ e in
    let b = passes_first rules.Store (store_rule g allows (before g number node) ask) _ a.1 in
    let c = passes_first rules.Jump (jump_rule g (before g number node) place ask) _ b.1 in
    let d = passes_first rules.Exit (exit_rule g (before g number node) place ask) _ c.1 in
    let f = passes_first rules.Convert (convert_rule g allows (before g number node) place ask) _ d.1 in
    let h = passes_first rules.Edge (edges g.nodes node.next (successors g allows (before g number node) place insn ask)) _ f.1 in
    let i = passes_first rules.Order (order_rule g number node) _ h.1 in
    let j = passes_first rules.Unconverted (unconverted_rule g number node) _ i.1 in
    record { load = a.0; store = b.0; jump = c.0; exit = d.0; convert = f.0; edge = h.0; order = i.0; converted = j.0 }

passes_so : (g : Ground) (allows : Rights) (number : ℕ) (node : Node) (place : Place) (insn : Insn) (ask : KindAsk) → AreFormed g.nodes → AllPass g allows number node place insn ask
    → Passes g allows (before g number node) node.next place insn ask
passes_so g allows number node place insn (Sets rd kind) formed t = leads_each g.nodes node.next (successors g allows (before g number node) place insn (Sets rd kind)) formed t.edge 0 _ refl
passes_so g allows number node place insn (Loads rd (Ptr r s) width sign) formed t = record {
  kind = or_any (loaded g allows (is_marked g.notified number) node.done node.stack r s width);
  gives = load_gives g allows (before g number node) r s width t.load;
  leads = leads_each g.nodes node.next (successors g allows (before g number node) place insn (Loads rd (Ptr r s) width sign)) formed t.edge 0 _ refl;
}
passes_so g allows number node place insn (Loads rd Any width sign) formed t = let f : false ≡ true = t.load in absurd cc
passes_so g allows number node place insn (Loads rd (Num s) width sign) formed t = let f : false ≡ true = t.load in absurd cc
passes_so g allows number node place insn (Loads rd (Opt r s) width sign) formed t = let f : false ≡ true = t.load in absurd cc
passes_so g allows number node place insn (Stores (Ptr r s) width kind) formed t = record {
  stores = store_so g allows (before g number node) r s width kind t.store;
  leads = leads_each g.nodes node.next (successors g allows (before g number node) place insn (Stores (Ptr r s) width kind)) formed t.edge 0 _ refl;
}
passes_so g allows number node place insn (Stores Any width kind) formed t = let f : false ≡ true = t.store in absurd cc
passes_so g allows number node place insn (Stores (Num s) width kind) formed t = let f : false ≡ true = t.store in absurd cc
passes_so g allows number node place insn (Stores (Opt r s) width kind) formed t = let f : false ≡ true = t.store in absurd cc
passes_so g allows number node place insn (Forks op x y behind target) formed t =
    let e = edges_lead g (before g number node) node.next insn behind target (narrow insn true x y) (narrow insn false x y) formed t.edge in
    record { compares = t.jump; taken = e.0; passed = e.1 }
passes_so g allows number node place insn (Goes to rd) formed t = leads_each g.nodes node.next (successors g allows (before g number node) place insn (Goes to rd)) formed t.edge 0 _ refl
passes_so g allows number node place insn (Jumps to rd) formed t =
    jump_so g allows (before g number node) node.next (written (kinds_of node.regs) rd (link_kind g place)) (target_by (is_marked g.notified number) to) formed t.jump t.exit t.convert t.edge
passes_so g allows number node place insn Stops formed t = tt

judged_by : (g : Ground) (allows : Rights) (number : ℕ) (node : Node) (found : Option (Insn × ℕ)) → AreFormed g.nodes → insn_at g node.at ≡ found
    → first_of (tests_at g allows number node found) ≡ None → Judged g allows number node
judged_by g allows number node None formed f e = let a = passes_first rules.Insn false _ e in let x : false ≡ true = a.0 in absurd cc
judged_by g allows number node (Some (insn, len)) formed f e =
    let place = place_of g node.at len in
    let ask = asked_kinds g.lens insn place (kind_at (kinds_of node.regs)) in
    let a = passes_first rules.Insn true _ e in
    let b = passes_first rules.Site (site_rule g place insn) _ a.1 in
    let t = all_pass g allows number node place insn ask b.1 in
    record {
      insn = insn;
      len = len;
      reads = f;
      site = b.0;
      passes = passes_so g allows number node place insn ask formed t;
      order = order_so g number node t.order;
      converted = converted_so g number node t.converted;
    }

pub none_fails_judges : NoneFailsJudges
unfolding first_rule
none_fails_judges g allows number node formed e = judged_by g allows number node (insn_at g node.at) formed refl e
