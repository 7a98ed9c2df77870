-- What is so of a node where none of its rules fails, by what its instruction asks for.
use Rattle.std.proofs.Common.{◌≡◌, ℕ, ◌<◌, ◌%◌, ℤ, arith, Bool, true, false, refl, sym, ap, subst, Option, Some, None, List, length, inl, inr}
use Rattle.std.specs.Prelude.{◌⊎◌, ◌==◌, ◌&&◌, if◌then◌else◌, slice_index}
use Rattle.std.proofs.lemmas.Bool.Decides.{nat_tests}
use Rattle.rv_decode.specs.declared.insn.Insn.{Insn}
use Rattle.rv_decode.specs.declared.insn.Op.{Op}
use Rattle.rv_decode.specs.declared.insn.Op.TheVariants as ops
use Rattle.rv_step.specs.declared.bus.Access.TheVariants as access
use Rattle.rv_step.specs.Exec.{Rights}
use Rattle.uh_base.specs.Bytes.{plus}
use Rattle.prov_types.specs.declared.kinds.Kind.{Kind}
use Rattle.prov_types.specs.declared.kinds.Kind.TheVariants.{Any, Num, Ptr, Opt}
use Rattle.prov_types.specs.declared.kinds.Place.{Place}
use Rattle.prov_types.specs.declared.kinds.Span.{Span}
use Rattle.prov_types.specs.Spans.{one}
use Rattle.prov_types.specs.Kinds.{length_of}
use Rattle.prov_types.specs.Fits.{fits}
use Rattle.prov_types.specs.Narrow.{narrow}
use Rattle.prov_types.specs.Asked.{Forks, Goes, Jumps, KindAsk, Loads, Sets, Stops, Stores, kind_asked}
use Rattle.prov_cert.specs.declared.cert.StackPart.{StackPart}
use Rattle.prov_layout.specs.Loads.{read_kind}
use Rattle.prov_layout.specs.Stack.{with_part}
use Rattle.prov_layout.specs.Stores.{is_number}
use Rattle.prov_runs.specs.States.{with_kind}
use Rattle.prov_runs.specs.Steps.{LoadsGive, Runs, StoresLeave}
use Rattle.prov_runs.specs.NodeLaws.{linked}
use Rattle.prov_runs.specs.OneNode.{Graph, Leads, Passes}
use Rattle.provenance_check.specs.Ground.{Ground}
use Rattle.provenance_check.specs.Registers.{kind_at, written}
use Rattle.provenance_check.specs.Reading.{stops}
use Rattle.provenance_check.specs.Successors.{Astray, Before, Converts, Out, even_offset, is_out, is_place, link_kind, inner_or, on_at, parts_behind, target_by}
use Rattle.provenance_check.specs.Judged.{EdgeLeads, Leads as LeadsIn, LoadsGive as GivesIn, OnStack as OnStackIn, OutPasses, Passes as PassesIn, JumpPasses as JumpsIn, StoresOutside as OutsideIn}
use Rattle.prov_laws.specs.Checked.{runs_of}
use Rattle.prov_laws.proofs.KindLemmas.{AreKinds, as_they_are, with_one, written_long}
use Rattle.prov_laws.proofs.EdgeLemmas.{HasNext, allows_so, leads_so}
use Rattle.prov_laws.proofs.ReadLemmas.{both}

-- no instruction stops that goes on
pub goes_so : (op : Op) (lens : List ℕ) (imm : ℤ) (place : Place) (rd : ℕ) (a b : Kind) → stops op ≡ false → kind_asked op lens imm place rd a b ≡ Stops → ⊥
goes_so ops.Ecall lens imm place rd a b e h = absurd cc
goes_so ops.Ebreak lens imm place rd a b e h = absurd cc
goes_so op lens imm place rd a b e h = absurd cc

-- which way out a jump takes
pub record OutBy (notified : Bool) (doors : (r o : ℕ) → (ℕ → Kind) → Bool) : Type 0 where
  pub ends : (kinds : ℕ → Kind) → fits (kinds 2) (Ptr 1 (one 65536)) ≡ true → (notified ≡ false → is_number (kinds 10) ≡ true) → doors (if notified then 5 else 3) (if notified then 1072 else 0) kinds ≡ true
  pub converts : notified ≡ true → (kinds : ℕ → Kind) → doors 5 784 kinds ≡ true

module _ (g : Ground) (old new : ℕ → ℕ) (done : List ℕ) (allows others : Rights) (graph : Graph) (next : List ℕ) (b : Before) (place : Place) (insn : Insn)
    (starts : (q : ℕ) → 0 < length_of g.lens q → old q ≡ slice_index g.starts q) (long : length b.kinds ≡ 32) (has : HasNext graph g.nodes next b.done) where
  abbrev pub runs : Runs
  runs = runs_of g old new done allows others

  abbrev pub link : ℕ → List Kind
  link rd = written b.kinds rd (link_kind g place)

  leads_on : (to : ℕ) (have : List Kind) (parts : List StackPart) (kinds : ℕ → Kind) → AreKinds have kinds → LeadsIn g.nodes next (record { to = to; kinds = have; parts = parts; done = b.done }) → Leads graph next to kinds parts
  leads_on to have parts kinds same h = leads_so graph g.nodes next (record { to = to; kinds = have; parts = parts; done = b.done }) kinds has same h

  one_kind : (rd : ℕ) (kind : Kind) → AreKinds (written b.kinds rd kind) (with_kind (kind_at b.kinds) rd kind)
  one_kind rd kind = with_one b.kinds (kind_at b.kinds) rd kind long (as_they_are b.kinds)

  gives : (r : ℕ) (s : Span) (width : ℕ) (kind : Kind) → GivesIn g allows b r s width kind → LoadsGive runs b.notified b.done b.parts r s width kind
  gives r s width kind (inl (stack, is)) = inl (record { region = stack.region; one = stack.one; allows = allows_so g old new done allows others access.Load 1 s.lo width starts stack.allowed }, is)
  gives r s width kind (inr h) = inr (record { allows = λ o i. allows_so g old new done allows others access.Load r o width starts (h.allowed o i); gives = h.gives })

  leaves : (r : ℕ) (s : Span) (width : ℕ) (kind : Kind) → OnStackIn g (allows access.Store) r s width ⊎ OutsideIn g allows b r s width kind
      → StoresLeave runs b.parts r s width kind (parts_behind b.parts r s width kind)
  leaves r s width kind (inl stack) =
      let is : parts_behind b.parts r s width kind ≡ with_part s.lo width kind b.parts = ap (λ n. parts_behind b.parts n s width kind) stack.region in
      inl (record { region = stack.region; one = stack.one; allows = allows_so g old new done allows others access.Store 1 s.lo width starts stack.allowed }, is)
  leaves r s width kind (inr h) =
      let is : parts_behind b.parts r s width kind ≡ b.parts = ap (λ c. if c then with_part s.lo width kind b.parts else b.parts) h.region in
      inr (record { allows = λ o i. allows_so g old new done allows others access.Store r o width starts (h.allowed o i); keeps = h.keeps }, is)

  edge : (to : ℕ) (o : Option (Kind × Kind)) (x y : Kind) → EdgeLeads g b next insn to o → o ≡ Some (x, y) → Leads graph next to (with_kind (with_kind (kind_at b.kinds) insn.rs1 x) insn.rs2 y) b.parts
  edge to None x y h e = absurd cc
  edge to (Some (v, w)) x y h e =
      let p : ◌≡◌ {A = Kind × Kind} (v, w) (x, y) = cc in
      let first : v ≡ x = ap (λ z. z.0) p in
      let second : w ≡ y = ap (λ z. z.1) p in
      let same : AreKinds (written (written b.kinds insn.rs1 v) insn.rs2 w) (with_kind (with_kind (kind_at b.kinds) insn.rs1 v) insn.rs2 w) =
      with_one (written b.kinds insn.rs1 v) (with_kind (kind_at b.kinds) insn.rs1 v) insn.rs2 w (written_long b.kinds insn.rs1 v long) (one_kind insn.rs1 v) in
      subst (λ k. Leads graph next to (with_kind (with_kind (kind_at b.kinds) insn.rs1 k) insn.rs2 y) b.parts) first
      (subst (λ k. Leads graph next to (with_kind (with_kind (kind_at b.kinds) insn.rs1 v) insn.rs2 k) b.parts) second
      (leads_on to (written (written b.kinds insn.rs1 v) insn.rs2 w) b.parts (with_kind (with_kind (kind_at b.kinds) insn.rs1 v) insn.rs2 w) same h))

  branch : (passed target : ℕ) (a c : Kind) → EdgeLeads g b next insn target (narrow insn true a c) → EdgeLeads g b next insn passed (narrow insn false a c)
      → (went : Bool) (x y : Kind) → narrow insn went a c ≡ Some (x, y) → Leads graph next (if went then target else passed) (with_kind (with_kind (kind_at b.kinds) insn.rs1 x) insn.rs2 y) b.parts
  branch passed target a c h k true x y e = edge target (narrow insn true a c) x y h e
  branch passed target a c h k false x y e = edge passed (narrow insn false a c) x y k e

  -- Jumps
  abbrev pub kinds_behind : ℕ → ℕ → Kind
  kinds_behind rd = linked runs place (kind_at b.kinds) rd

  linked_same : (rd : ℕ) → AreKinds (link rd) (kinds_behind rd)
  linked_same rd = one_kind rd (link_kind g place)

  abbrev pub JumpsTo : Kind → ℕ → Type 0
  JumpsTo to rd = Passes runs b.notified b.done graph next place insn (kind_at b.kinds) b.parts (Jumps to rd)

  pub inner : (rd : ℕ) (to : Kind) (o : ℕ) → even_offset to ≡ Some o → LeadsIn g.nodes next (on_at b o (link rd)) → JumpsTo to rd
  inner rd Any o e h = absurd cc
  inner rd (Num s) o e h = absurd cc
  inner rd (Opt r s) o e h = absurd cc
  inner rd (Ptr r s) o e h = by (r == 0) (s.lo == s.hi) (s.lo % 2 == 0) refl refl refl e h
    where
      by : (x y z : Bool) → (r == 0) ≡ x → (s.lo == s.hi) ≡ y → (s.lo % 2 == 0) ≡ z → (if x && (y && z) then Some s.lo else None) ≡ Some o → LeadsIn g.nodes next (on_at b o (link rd)) → JumpsTo (Ptr r s) rd
      by true true true e f k is h =
          let same : s.lo ≡ o = cc in
          record {
            single = grind (arith, nat_tests);
            where_to = inl (record {
              image = grind (arith, nat_tests);
              is_even = grind (arith, nat_tests);
              leads = subst (λ n. Leads graph next n (kinds_behind rd) b.parts) (sym same) (leads_on o (link rd) b.parts (kinds_behind rd) (linked_same rd) h);
            });
          }
      by true true false e f k is h = absurd cc
      by true false z e f k is h = absurd cc
      by false y z e f k is h = absurd cc

  -- one offset of another region, where a way out is
  outer : (rd : ℕ) (to : Kind) (q o : ℕ) → is_place q o to ≡ true → graph.doors q o (kinds_behind rd) ≡ true → JumpsTo to rd
  outer rd Any q o e h = absurd cc
  outer rd (Num s) q o e h = absurd cc
  outer rd (Opt r s) q o e h = absurd cc
  outer rd (Ptr r s) q o e h =
      let a = both (r == q) (s.lo == o && s.hi == o) e in
      let c = both (s.lo == o) (s.hi == o) a.1 in
      let first = a.0 in
      let low = c.0 in
      let high = c.1 in
      let region : r ≡ q = grind (arith, nat_tests) in
      let at : s.lo ≡ o = grind (arith, nat_tests) in
      record {
        single = grind (arith, nat_tests);
        where_to = inr (subst (λ n. graph.doors n s.lo (kinds_behind rd) ≡ true) (sym region) (subst (λ n. graph.doors q n (kinds_behind rd) ≡ true) (sym at) h));
      }

  place_out : (n : Bool) (to : Kind) → is_out n to ≡ true → is_place (if n then 5 else 3) (if n then 1072 else 0) to ≡ true
  place_out true to e = e
  place_out false to e = e

  ends : OutBy b.notified graph.doors → (rd : ℕ) (to : Kind) → is_out b.notified to ≡ true → OutPasses b (link rd) → JumpsTo to rd
  ends out rd to e h =
      let stack : fits (kinds_behind rd 2) (Ptr 1 (one 65536)) ≡ true = subst (λ k. fits k (Ptr 1 (one 65536)) ≡ true) (linked_same rd 2 (omega arith)) h.stack in
      let value : b.notified ≡ false → is_number (kinds_behind rd 10) ≡ true = λ n. subst (λ k. is_number k ≡ true) (linked_same rd 10 (omega arith)) (h.value n) in
      outer rd to (if b.notified then 5 else 3) (if b.notified then 1072 else 0) (place_out b.notified to e) (out.ends (kinds_behind rd) stack value)

  pub jump_so : OutBy b.notified graph.doors → (rd : ℕ) (to : Kind) → JumpsIn g allows b next (link rd) (target_by b.notified to) → JumpsTo to rd
  unfolding target_by
  jump_so out rd to = by (even_offset to) (is_out b.notified to) (b.notified && is_place 5 784 to) refl refl refl
    where
      by : (o : Option ℕ) (x y : Bool) → even_offset to ≡ o → is_out b.notified to ≡ x → (b.notified && is_place 5 784 to) ≡ y
          → JumpsIn g allows b next (link rd) (inner_or o (if x then Out else (if y then Converts else Astray))) → JumpsTo to rd
      by (Some o) x y e f k h = inner rd to o e h
      by None true y e f k h = ends out rd to f h
      by None false true e f k h = let a = both b.notified (is_place 5 784 to) k in outer rd to 5 784 a.1 (out.converts a.0 (kinds_behind rd))
      by None false false e f k h = absurd h

  -- together, where jumps pass
  pub passes_by : (k : KindAsk) → (k ≡ Stops → ⊥) → ((rd : ℕ) (to : Kind) → k ≡ Jumps to rd → JumpsIn g allows b next (link rd) (target_by b.notified to) → JumpsTo to rd)
      → PassesIn g allows b next place insn k → Passes runs b.notified b.done graph next place insn (kind_at b.kinds) b.parts k
  passes_by (Sets rd kind) go jumps h = leads_on (plus place.at place.len) (written b.kinds rd kind) b.parts (with_kind (kind_at b.kinds) rd kind) (one_kind rd kind) h
  passes_by (Loads rd (Ptr r s) width sign) go jumps h = record {
    kind = h.kind;
    gives = gives r s width h.kind h.gives;
    leads = leads_on (plus place.at place.len) (written b.kinds rd (read_kind sign width h.kind)) b.parts (with_kind (kind_at b.kinds) rd (read_kind sign width h.kind)) (one_kind rd (read_kind sign width h.kind)) h.leads;
  }
  passes_by (Loads rd Any width sign) go jumps h = absurd h
  passes_by (Loads rd (Num s) width sign) go jumps h = absurd h
  passes_by (Loads rd (Opt r s) width sign) go jumps h = absurd h
  passes_by (Stores (Ptr r s) width kind) go jumps h = record {
    after = parts_behind b.parts r s width kind;
    leaves = leaves r s width kind h.stores;
    leads = leads_on (plus place.at place.len) b.kinds (parts_behind b.parts r s width kind) (kind_at b.kinds) (as_they_are b.kinds) h.leads;
  }
  passes_by (Stores Any width kind) go jumps h = absurd h
  passes_by (Stores (Num s) width kind) go jumps h = absurd h
  passes_by (Stores (Opt r s) width kind) go jumps h = absurd h
  passes_by (Forks op x y passed target) go jumps h = record { compares = h.compares; leads = branch passed target x y h.taken h.passed }
  passes_by (Goes to rd) go jumps h = leads_on to (link rd) b.parts (kinds_behind rd) (linked_same rd) h
  passes_by (Jumps to rd) go jumps h = jumps rd to refl h
  passes_by Stops go jumps h = absurd (go refl)

  pub passes_so : OutBy b.notified graph.doors → (k : KindAsk) → (k ≡ Stops → ⊥) → PassesIn g allows b next place insn k → Passes runs b.notified b.done graph next place insn (kind_at b.kinds) b.parts k
  passes_so out k go h = passes_by k go (λ rd to e j. jump_so out rd to j) h
