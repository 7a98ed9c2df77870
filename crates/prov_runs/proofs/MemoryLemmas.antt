-- One step of two runs at a load or a store.
use Rattle.std.proofs.Common.{◌≡◌, ℕ, ◌≤◌, ◌<◌, ◌+◌, ◌^◌, arith, Bool, false, refl, sym, ◌∙◌, ap, subst, Option, Some, None, List, inl, inr}
use Rattle.std.specs.Prelude.{IsTrue, Result, Ok, Err, ◌≢◌}
use Rattle.uh_base.specs.Bytes.{first_refused, is_width, loaded, plus, with_number}
use Rattle.rv_decode.specs.declared.insn.Insn.{Insn}
use Rattle.rv_step.specs.declared.bus.Access.{Access}
use Rattle.rv_step.specs.declared.bus.Access.TheVariants as access
use Rattle.rv_step.specs.declared.ask.Ask.{Ask}
use Rattle.rv_step.specs.declared.ask.Ask.TheVariants.{Jump, Load, Set, Stop, Store}
use Rattle.rv_step.specs.Exec.{IsFit, Outcome, State, as_read, done, loads, step_of, stores, written}
use Rattle.rv_step.specs.Numbers.{AsksAreFit, AsksFit, BitsFit, IsNumber}
use Rattle.prov_types.specs.declared.kinds.Span.{Span}
use Rattle.prov_types.specs.declared.kinds.Place.{Place}
use Rattle.prov_types.specs.declared.kinds.Kind.{Kind}
use Rattle.prov_types.specs.declared.kinds.Kind.TheVariants.{Any, Num, Ptr, Opt}
use Rattle.prov_types.specs.Kinds.{Holds, HoldsPtr, Regions, length_of}
use Rattle.prov_types.specs.Asked.{Forks, Goes, Jumps, KindAsk, Loads, Sets, Stops, Stores, asked_kinds}
use Rattle.prov_types.specs.Laws.{AsksHold}
use Rattle.prov_cert.specs.declared.cert.StackPart.{StackPart}
use Rattle.prov_layout.specs.Pieces.{is_of, piece_at}
use Rattle.prov_layout.specs.Loads.{read_kind}
use Rattle.prov_runs.specs.Bytes.{NumberHolds}
use Rattle.prov_runs.specs.Memory.{HasCode, Moved, PartsHold, converted}
use Rattle.prov_runs.specs.States.{with_kind}
use Rattle.prov_runs.specs.LoadLaws.{ReadsHold, SpansHold, StackHolds}
use Rattle.prov_runs.specs.StoreLaws.{BothStore, CodeStays, OthersStay, PartsStay, RegionsStay, StackKeeps, StackKeepsCode, StackLeaves, StoresKeep, is_stored_to, stored}
use Rattle.prov_runs.specs.FetchLaws.{FetchesAlike}
use Rattle.prov_runs.specs.Steps.{Allows, AtNode, BothGo, LoadsGive, OnStack, Runs, StoresLeave, behind, reached}
use Rattle.prov_runs.specs.NodeLaws.{BothStep, LoadsAtNode, OthersStand, StoresAtNode, StoresToStack}
use Rattle.prov_runs.proofs.NumberLemmas.{number_below}
use Rattle.prov_runs.proofs.ReadLemmas.{read_fits, width_is, width_of}
use Rattle.prov_runs.proofs.FetchLemmas.{allowed_all, load_is}
use Rattle.prov_runs.proofs.NodeLemmas.{Alike, alike, bytes_after, first_ask, first_fit, first_number, new_next_is, old_next_is, one_offset, plus_fits, read, second_ask, second_number, set_go, step_is, steps}

module _ (fetches : FetchesAlike) (hold : AsksHold) (numbers : AsksFit) (are_fit : AsksAreFit) (u : Runs) (place : Place) (insn : Insn) (kinds : ℕ → Kind) (parts : List StackPart) (s t : State) (node : AtNode u place insn kinds parts s t) where
  abbrev g : Regions
  g = u.regions

  abbrev old_behind : ℕ
  old_behind = plus s.pc place.len

  abbrev new_behind : ℕ
  new_behind = plus t.pc place.len

  abbrev GoOn : (ℕ → Kind) → List StackPart → Outcome → Outcome → Type 0
  GoOn ks ps x y = BothGo u 0 (behind place) ks ps s t x y

  old_allowed : (right : Access) (r o width : ℕ) → Allows u right r o width → first_refused (u.old_rights right) (g.old r + o) width ≡ None
  old_allowed right r o width h =
      let m = node.are_runs.apart.old_ends r in
      let n = h.inside in
      allowed_all (u.old_rights right) (g.old r + o) width (omega (arith, m, n)) h.allowed

  new_allowed : (right : Access) (r o width : ℕ) → Allows u right r o width → first_refused (u.new_rights right) (g.new r + o) width ≡ None
  new_allowed right r o width h =
      let m = node.are_runs.apart.new_ends r in
      let n = h.inside in
      allowed_all (u.new_rights right) (g.new r + o) width (omega (arith, m, n))
      (λ i k. let e : g.new r + o + i ≡ g.new r + (o + i) = omega arith in let f : g.old r + (o + i) ≡ g.old r + o + i = omega arith in
      ap (u.new_rights right) e ∙ node.are_runs.rights r (o + i) right (omega (arith, k, n)) ∙ ap (u.old_rights right) f ∙ h.allowed i k)

  -- Loads

  load_one : BitsFit → ReadsHold → (rd width : ℕ) (sign : Bool) (r o : ℕ) (kind : Kind) → rd < 32 → IsTrue (is_width width) → Allows u access.Load r o width → NumberHolds g r o width kind s.bytes t.bytes
      → GoOn (with_kind kinds rd (read_kind sign width kind)) parts (loads old_behind s rd width sign (loaded s.bytes (u.old_rights access.Load) (g.old r + o) width)) (loads new_behind t rd width sign (loaded t.bytes (u.new_rights access.Load) (g.new r + o) width))
  load_one bits reads rd width sign r o kind h wi allows number =
      let first = load_is s.bytes (u.old_rights access.Load) (g.old r + o) width (old_allowed access.Load r o width allows) in
      let second = load_is t.bytes (u.new_rights access.Load) (g.new r + o) width (new_allowed access.Load r o width allows) in
      let low = number_below s.bytes (g.old r + o) width node.related.first.bytes in
      let also = number_below t.bytes (g.new r + o) width node.related.second.bytes in
      rw (first, second) (set_go fetches hold numbers are_fit u place insn kinds parts s t node rd _ _ (read_kind sign width kind) h (read_fits bits sign width _ (width_is width wi) low) (read_fits bits sign width _ (width_is width wi) also)
      (reads g sign s.bytes t.bytes r o width kind node.related.first.bytes wi number))

  load_go : BitsFit → ReadsHold → SpansHold → StackHolds → (notified : Bool) (cells : List ℕ) → u.done ≡ converted notified cells → (rd width : ℕ) (sign : Bool) (r a b : ℕ) (q : Span) (kind : Kind) → rd < 32 → IsTrue (is_width width)
      → HoldsPtr g r q a b → LoadsGive u notified cells parts r q width kind
      → GoOn (with_kind kinds rd (read_kind sign width kind)) parts (loads old_behind s rd width sign (loaded s.bytes (u.old_rights access.Load) a width)) (loads new_behind t rd width sign (loaded t.bytes (u.new_rights access.Load) b width))
  load_go bits reads spans stack notified cells same rd width sign r a b q kind h wi p gives = rw (p.old, p.new) (by gives)
    where
      by : LoadsGive u notified cells parts r q width kind
          → GoOn (with_kind kinds rd (read_kind sign width kind)) parts (loads old_behind s rd width sign (loaded s.bytes (u.old_rights access.Load) (g.old r + p.offset) width)) (loads new_behind t rd width sign (loaded t.bytes (u.new_rights access.Load) (g.new r + p.offset) width))
      by (inl (on, is)) =
          let o = one_offset q p.offset p.within on.one in
          let number : NumberHolds g 1 q.lo width kind s.bytes t.bytes = subst (λ k. NumberHolds g 1 q.lo width k s.bytes t.bytes) (sym is) (stack g parts s.bytes t.bytes q.lo width node.stands.stack) in
          rw (on.region, o) (load_one bits reads rd width sign 1 q.lo kind h wi on.allows number)
      by (inr off) =
          let allows = off.allows p.offset p.within in
          let moved : Moved g u.laid (converted notified cells) s.bytes t.bytes = subst (λ z. Moved g u.laid z s.bytes t.bytes) same node.related.moved in
          let number = spans g u.laid notified cells s.bytes t.bytes r q p.offset width kind (record { apart = node.are_runs.apart; is_laid = node.are_runs.is_laid; bytes = node.related.first.bytes; moved = moved }) p.within allows.inside off.gives in
          load_one bits reads rd width sign r p.offset kind h wi allows number

  loads_go : BitsFit → ReadsHold → SpansHold → StackHolds → (notified : Bool) (cells : List ℕ) → u.done ≡ converted notified cells → (rd r : ℕ) (q : Span) (width : ℕ) (sign : Bool) (kind : Kind) (a b : Ask)
      → Alike fetches hold numbers are_fit u place insn kinds parts s t node (Loads rd (Ptr r q) width sign) a b → IsFit a → LoadsGive u notified cells parts r q width kind
      → GoOn (with_kind kinds rd (read_kind sign width kind)) parts (done a old_behind u.old_rights s) (done b new_behind u.new_rights t)
  loads_go bits reads spans stack notified cells same rd r q width sign kind (Load m x k v) (Load n y l w) h f gives =
      rw (h.first, h.second, h.width_first, h.width_second, h.sign_first, h.sign_second)
      (load_go bits reads spans stack notified cells same rd width sign r x y q kind (subst (λ z. z < 32) h.first (f.0)) (subst (λ z. IsTrue (is_width z)) h.width_first (f.1)) h.address gives)
  loads_go bits reads spans stack notified cells same rd r q width sign kind a b h f gives = absurd h

  pub loads_at : BitsFit → ReadsHold → SpansHold → StackHolds → (notified : Bool) (cells : List ℕ) → u.done ≡ converted notified cells → (rd r : ℕ) (q : Span) (width : ℕ) (sign : Bool) (kind : Kind)
      → asked_kinds g.lens insn place kinds ≡ Loads rd (Ptr r q) width sign → LoadsGive u notified cells parts r q width kind
      → BothStep u 0 (behind place) (with_kind kinds rd (read_kind sign width kind)) parts s t
  loads_at bits reads spans stack notified cells same rd r q width sign kind e gives =
      steps fetches hold numbers are_fit u place insn kinds parts s t node 0 (behind place) (with_kind kinds rd (read_kind sign width kind)) parts
      (loads_go bits reads spans stack notified cells same rd r q width sign kind _ _
      (subst (λ k. Alike fetches hold numbers are_fit u place insn kinds parts s t node k (first_ask fetches hold numbers are_fit u place insn kinds parts s t node) (second_ask fetches hold numbers are_fit u place insn kinds parts s t node)) e
      (alike fetches hold numbers are_fit u place insn kinds parts s t node))
      (first_fit fetches hold numbers are_fit u place insn kinds parts s t node) gives)

  -- Stores

  both_store : (r o width : ℕ) (kind : Kind) (v w : ℕ) → IsTrue (is_width width) → o + width ≤ length_of g.lens r → Holds g kind v w → v < 2 ^ 64 → w < 2 ^ 64 → BothStore g u.laid.pieces r o width kind v w
  both_store r o width kind v w wi within p fv fw =
      let k = width_of width (width_is width wi) in
      record { apart = node.are_runs.apart; disjoint = node.are_runs.disjoint; is_laid = node.are_runs.is_laid; some = k.low; most = k.high; inside = within; value = p; first = fv; second = fw }

  abbrev OthersLeft : (r o width v w : ℕ) → Type 0
  OthersLeft r o width v w = (q x : ℕ) → x < length_of g.lens q → q ≢ 1 → is_of is_stored_to (piece_at u.laid.pieces q x) ≡ false
      → (stored g.old r o width v s.bytes (g.old q + x) ≡ s.bytes (g.old q + x)) × (stored g.new r o width w t.bytes (g.new q + x) ≡ t.bytes (g.new q + x))

  store_one : (width r o v w : ℕ) (after : List StackPart) → Allows u access.Store r o width
      → Moved g u.laid u.done (stored g.old r o width v s.bytes) (stored g.new r o width w t.bytes) → HasCode g u.laid.pieces u.image (stored g.old r o width v s.bytes)
      → PartsHold g after (stored g.old r o width v s.bytes) (stored g.new r o width w t.bytes) → OthersLeft r o width v w
      → GoOn kinds after (stores old_behind s (g.old r + o) width v (first_refused (u.old_rights access.Store) (g.old r + o) width)) (stores new_behind t (g.new r + o) width w (first_refused (u.new_rights access.Store) (g.new r + o) width))
  store_one width r o v w after allows moved code held left = rw (old_allowed access.Store r o width allows, new_allowed access.Store r o width allows) (record {
    left = record { x = s.x; pc = old_behind; bytes = with_number s.bytes (g.old r + o) width v };
    right = record { x = t.x; pc = new_behind; bytes = with_number t.bytes (g.new r + o) width w };
    first = refl;
    second = refl;
    old_inside = (r, o, refl, allows.inside);
    new_inside = (r, o, refl, allows.inside);
    related = record {
      first = record { registers = node.related.first.registers; count = node.related.first.count; pc = plus_fits s.pc place.len; bytes = bytes_after s.bytes (g.old r + o) width v node.related.first.bytes };
      second = record { registers = node.related.second.registers; count = node.related.second.count; pc = plus_fits t.pc place.len; bytes = bytes_after t.bytes (g.new r + o) width w node.related.second.bytes };
      moved = moved;
      code = code;
    };
    stands = record {
      old_pc = old_next_is fetches hold numbers are_fit u place insn kinds parts s t node;
      new_pc = new_next_is fetches hold numbers are_fit u place insn kinds parts s t node;
      registers = node.stands.registers;
      stack = held;
    };
    others = left;
  })

  module _ (keep : StoresKeep) (stay : OthersStay) (code_stay : CodeStays) (parts_stay : PartsStay) (stack_keep : StackKeeps) (stack_code : StackKeepsCode) (stack_leave : StackLeaves) (regions : RegionsStay) where
    store_go : (width r a b v w : ℕ) (q : Span) (kind : Kind) (after : List StackPart) → IsTrue (is_width width) → HoldsPtr g r q a b → Holds g kind v w → v < 2 ^ 64 → w < 2 ^ 64 → StoresLeave u parts r q width kind after
        → GoOn kinds after (stores old_behind s a width v (first_refused (u.old_rights access.Store) a width)) (stores new_behind t b width w (first_refused (u.new_rights access.Store) b width))
    store_go width r a b v w q kind after wi p value fv fw leaves = rw (p.old, p.new) (by leaves)
      where
        by : StoresLeave u parts r q width kind after
            → GoOn kinds after (stores old_behind s (g.old r + p.offset) width v (first_refused (u.old_rights access.Store) (g.old r + p.offset) width)) (stores new_behind t (g.new r + p.offset) width w (first_refused (u.new_rights access.Store) (g.new r + p.offset) width))
        by (inl (on, is)) =
            let o = one_offset q p.offset p.within on.one in
            let st = both_store 1 q.lo width kind v w wi on.allows.inside value fv fw in
            rw (on.region, o) (store_one width 1 q.lo v w after on.allows
            (stack_keep g u.laid u.done s.bytes t.bytes q.lo width kind v w st node.related.moved)
            (stack_code g u.laid.pieces u.image s.bytes q.lo width kind v w st node.related.code)
            (subst (λ n. PartsHold g n (stored g.old 1 q.lo width v s.bytes) (stored g.new 1 q.lo width w t.bytes)) (sym is) (stack_leave g u.laid.pieces parts s.bytes t.bytes q.lo width kind v w st node.stands.stack))
            (λ m x within off closed. regions g u.laid.pieces s.bytes t.bytes 1 q.lo width kind v w m x st within off))
        by (inr (off, is)) =
            let allows = off.allows p.offset p.within in
            let keeps = off.keeps p.offset p.within in
            let st = both_store r p.offset width kind v w wi allows.inside value fv fw in
            store_one width r p.offset v w after allows
            (keep g u.laid u.done s.bytes t.bytes r p.offset width kind v w st keeps node.related.moved)
            (code_stay g u.laid.pieces u.image s.bytes r p.offset width kind v w st keeps node.related.code)
            (subst (λ n. PartsHold g n (stored g.old r p.offset width v s.bytes) (stored g.new r p.offset width w t.bytes)) (sym is) (parts_stay g u.laid.pieces parts s.bytes t.bytes r p.offset width kind v w st keeps node.stands.stack))
            (λ m x within other closed. stay g u.laid.pieces s.bytes t.bytes r p.offset width kind v w m x st keeps within closed)

    stores_go : (r : ℕ) (q : Span) (width : ℕ) (kind : Kind) (after : List StackPart) (a b : Ask)
        → Alike fetches hold numbers are_fit u place insn kinds parts s t node (Stores (Ptr r q) width kind) a b → IsFit a → IsNumber a → IsNumber b → StoresLeave u parts r q width kind after
        → GoOn kinds after (done a old_behind u.old_rights s) (done b new_behind u.new_rights t)
    stores_go r q width kind after (Store x k v) (Store y l w) h f i j leaves =
        rw (h.width_first, h.width_second) (store_go width r x y v w q kind after (subst (λ z. IsTrue (is_width z)) h.width_first f) h.address h.value (i.1) (j.1) leaves)
    stores_go r q width kind after a b h f i j leaves = absurd h

    pub stores_at : (r : ℕ) (q : Span) (width : ℕ) (kind : Kind) (after : List StackPart) → asked_kinds g.lens insn place kinds ≡ Stores (Ptr r q) width kind → StoresLeave u parts r q width kind after
        → BothStep u 0 (behind place) kinds after s t
    stores_at r q width kind after e leaves =
        steps fetches hold numbers are_fit u place insn kinds parts s t node 0 (behind place) kinds after
        (stores_go r q width kind after _ _
        (subst (λ k. Alike fetches hold numbers are_fit u place insn kinds parts s t node k (first_ask fetches hold numbers are_fit u place insn kinds parts s t node) (second_ask fetches hold numbers are_fit u place insn kinds parts s t node)) e
        (alike fetches hold numbers are_fit u place insn kinds parts s t node))
        (first_fit fetches hold numbers are_fit u place insn kinds parts s t node) (first_number fetches hold numbers are_fit u place insn kinds parts s t node) (second_number fetches hold numbers are_fit u place insn kinds parts s t node) leaves)

  -- What a store to the stack alone leaves

  abbrev Stands : State → Type 0
  Stands left = (q x : ℕ) → x < length_of g.lens q → q ≢ 1 → left.bytes (g.old q + x) ≡ s.bytes (g.old q + x)

  stood : (x : List ℕ) (pc : ℕ) (left : State) → Some (record { x = x; pc = pc; bytes = s.bytes }) ≡ Some left → Stands left
  stood x pc left h = by (record { x = x; pc = pc; bytes = s.bytes }) left h (λ q y within off. refl)
    where
      by : (to left : State) → Some to ≡ Some left → ((q y : ℕ) → y < length_of g.lens q → q ≢ 1 → to.bytes (g.old q + y) ≡ s.bytes (g.old q + y)) → Stands left
      by to left h e = let same : to ≡ left = cc in subst (λ z. (q y : ℕ) → y < length_of g.lens q → q ≢ 1 → z.bytes (g.old q + y) ≡ s.bytes (g.old q + y)) same e

  load_stands : (rd width : ℕ) (sign : Bool) (got : Result ℕ ℕ) (left : State) → reached (loads old_behind s rd width sign got) ≡ Some left → Stands left
  load_stands rd width sign (Ok n) left h = stood (written s.x rd (as_read sign width n)) old_behind left h
  load_stands rd width sign (Err n) left h = absurd cc

  module _ (regions : RegionsStay) where
    store_stands : (r a b : ℕ) (q : Span) (width : ℕ) (kind : Kind) (v w : ℕ) (refused : Option ℕ) (left : State) → IsTrue (is_width width) → OnStack u access.Store r q width → HoldsPtr g r q a b → Holds g kind v w → v < 2 ^ 64 → w < 2 ^ 64
        → reached (stores old_behind s a width v refused) ≡ Some left → Stands left
    store_stands r a b q width kind v w (Some n) left wi on p value fv fw h = absurd cc
    store_stands r a b q width kind v w None left wi on p value fv fw h = by (record { x = s.x; pc = old_behind; bytes = with_number s.bytes a width v }) left h stay
      where
        at : a ≡ g.old 1 + q.lo
        at = p.old ∙ ap (λ n. g.old n + p.offset) on.region ∙ ap (λ n. g.old 1 + n) (one_offset q p.offset p.within on.one)

        stay : (k x : ℕ) → x < length_of g.lens k → k ≢ 1 → with_number s.bytes a width v (g.old k + x) ≡ s.bytes (g.old k + x)
        stay k x within off = ap (λ n. with_number s.bytes n width v (g.old k + x)) at ∙
            (regions g u.laid.pieces s.bytes t.bytes 1 q.lo width kind v w k x (both_store 1 q.lo width kind v w wi on.allows.inside value fv fw) within off).0

        by : (to left : State) → Some to ≡ Some left → ((k x : ℕ) → x < length_of g.lens k → k ≢ 1 → to.bytes (g.old k + x) ≡ s.bytes (g.old k + x)) → Stands left
        by to left h e = let same : to ≡ left = cc in subst (λ z. (k x : ℕ) → x < length_of g.lens k → k ≢ 1 → z.bytes (g.old k + x) ≡ s.bytes (g.old k + x)) same e

    ask_stands : (k : KindAsk) (a b : Ask) (left : State) → Alike fetches hold numbers are_fit u place insn kinds parts s t node k a b → StoresToStack u k → IsFit a → IsNumber a → IsNumber b
        → reached (done a old_behind u.old_rights s) ≡ Some left → Stands left
    ask_stands k (Set rd value) b left alike on f i j h = stood (written s.x rd value) old_behind left h
    ask_stands k (Load rd at width sign) b left alike on f i j h = load_stands rd width sign (loaded s.bytes (u.old_rights access.Load) at width) left h
    ask_stands k (Jump to rd) b left alike on f i j h = stood (written s.x rd old_behind) to left h
    ask_stands k (Stop trap) b left alike on f i j h = absurd cc
    ask_stands (Stores (Ptr r q) width kind) (Store a n v) (Store b m w) left alike on f i j h =
        let same = alike.width_first in
        store_stands r a b q width kind v w (first_refused (u.old_rights access.Store) a width) left (subst (λ z. IsTrue (is_width z)) same f) on alike.address alike.value (i.1) (j.1)
        (subst (λ z. reached (stores old_behind s a z v (first_refused (u.old_rights access.Store) a z)) ≡ Some left) same h)
    ask_stands (Stores (Ptr r q) width kind) (Store a n v) b left alike on f i j h = absurd alike
    ask_stands (Stores Any width kind) (Store a n v) b left alike on f i j h = absurd on
    ask_stands (Stores (Num q) width kind) (Store a n v) b left alike on f i j h = absurd on
    ask_stands (Stores (Opt r q) width kind) (Store a n v) b left alike on f i j h = absurd on
    ask_stands (Sets rd kind) (Store a n v) b left alike on f i j h = absurd alike
    ask_stands (Loads rd at width sign) (Store a n v) b left alike on f i j h = absurd alike
    ask_stands (Forks op x y next target) (Store a n v) b left alike on f i j h = absurd alike
    ask_stands (Goes to rd) (Store a n v) b left alike on f i j h = absurd alike
    ask_stands (Jumps to rd) (Store a n v) b left alike on f i j h = absurd alike
    ask_stands Stops (Store a n v) b left alike on f i j h = absurd on

    pub stands_at : (left : State) → StoresToStack u (asked_kinds g.lens insn place kinds) → reached (step_of u.old_rights s) ≡ Some left → Stands left
    stands_at left on h =
        let same = step_is u.old_rights s insn place.len (read fetches hold numbers are_fit u place insn kinds parts s t node).first in
        ask_stands (asked_kinds g.lens insn place kinds) _ _ left (alike fetches hold numbers are_fit u place insn kinds parts s t node) on
        (first_fit fetches hold numbers are_fit u place insn kinds parts s t node) (first_number fetches hold numbers are_fit u place insn kinds parts s t node) (second_number fetches hold numbers are_fit u place insn kinds parts s t node)
        (subst (λ o. reached o ≡ Some left) same h)

pub others_stand_at : FetchesAlike → AsksHold → AsksFit → AsksAreFit → RegionsStay → OthersStand
others_stand_at fetches hold numbers are_fit regions u place insn kinds parts s t left node on h = stands_at fetches hold numbers are_fit u place insn kinds parts s t node regions left on h

pub loads_at_node : FetchesAlike → AsksHold → AsksFit → AsksAreFit → BitsFit → ReadsHold → SpansHold → StackHolds → LoadsAtNode
loads_at_node fetches hold numbers are_fit bits reads spans stack u notified cells place insn kinds parts s t rd r q width sign kind same node e gives =
    loads_at fetches hold numbers are_fit u place insn kinds parts s t node bits reads spans stack notified cells same rd r q width sign kind e gives

pub stores_at_node : FetchesAlike → AsksHold → AsksFit → AsksAreFit → StoresKeep → OthersStay → CodeStays → PartsStay → StackKeeps → StackKeepsCode → StackLeaves → RegionsStay → StoresAtNode
stores_at_node fetches hold numbers are_fit keep stay code_stay parts_stay stack_keep stack_code stack_leave regions u place insn kinds parts after s t r q width kind node e leaves =
    stores_at fetches hold numbers are_fit u place insn kinds parts s t node keep stay code_stay parts_stay stack_keep stack_code stack_leave regions r q width kind after e leaves
