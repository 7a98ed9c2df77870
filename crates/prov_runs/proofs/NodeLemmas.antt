-- One step of two runs at one node.
use Rattle.std.proofs.Common.{◌≡◌, ℕ, zero, suc, ◌≤◌, ◌<◌, ◌+◌, ◌%◌, ◌/◌, ◌^◌, ℤ, arith, Bool, true, false, refl, sym, ◌∙◌, ap, subst, Option, Some, None, List, length}
use Rattle.std.specs.Int.{w64}
use Rattle.std.specs.Prelude.{FitsSigned, ◌==◌, ◌≢◌, Ok, nat_lt, if◌then◌else◌, slice_get, slice_index, slice_set}
use Rattle.std.proofs.lemmas.Bool.Decides.{nat_tests}
use Rattle.std.proofs.lemmas.List.{get_or-set_same, get_or-set_other, length-set}
use Rattle.uh_base.specs.Bytes.{next, plus, with_byte, with_number}
use Rattle.rv_decode.specs.declared.insn.Insn.{Insn}
use Rattle.rv_decode.specs.declared.insn.Op.{Op}
use Rattle.rv_decode.specs.declared.insn.Op.TheVariants as ops
use Rattle.rv_step.specs.declared.bus.Access.TheVariants as access
use Rattle.rv_step.specs.declared.ask.Ask.{Ask}
use Rattle.rv_step.specs.declared.ask.Ask.TheVariants.{Set, Jump}
use Rattle.rv_step.specs.Asks.{asks, even}
use Rattle.rv_step.specs.Exec.{IsFit, Outcome, Rights, State, Went, done, execute, fetched, step_of, written}
use Rattle.rv_step.specs.Numbers.{AreNumbers, AsksAreFit, AsksFit, IsNumber}
use Rattle.prov_types.specs.declared.kinds.Span.{Span}
use Rattle.prov_types.specs.declared.kinds.Place.{Place}
use Rattle.prov_types.specs.declared.kinds.Kind.{Kind}
use Rattle.prov_types.specs.declared.kinds.Kind.TheVariants.{Any, Ptr}
use Rattle.prov_types.specs.Spans.{InSpan, one}
use Rattle.prov_types.specs.Kinds.{Holds, Regions, length_of}
use Rattle.prov_types.specs.Transfer.{image_kind}
use Rattle.prov_types.specs.Narrow.{narrow, narrow_between}
use Rattle.prov_types.specs.Asked.{AskHolds, BothHold, Forks, ForksAlike, Goes, Jumps, KindAsk, Sets, SiteHolds, asked_kinds, kind_asked, may_compare}
use Rattle.prov_types.specs.Laws.{AsksHold, FitsIsSound}
use Rattle.prov_cert.specs.declared.cert.StackPart.{StackPart}
use Rattle.prov_layout.specs.Pieces.{is_code, is_of, piece_at}
use Rattle.prov_runs.specs.Bytes.{AreBytes, NumberHolds}
use Rattle.prov_runs.specs.Sites.{target_at}
use Rattle.prov_runs.specs.Memory.{PartHolds}
use Rattle.prov_runs.specs.States.{RegistersHold, with_kind}
use Rattle.prov_runs.specs.FetchLaws.{FetchesAlike, MayFetch, OneFetched}
use Rattle.prov_runs.specs.Steps.{AtNode, BothGo, Runs, ServesPart, behind}
use Rattle.prov_runs.specs.NodeLaws.{BothFork, BothStep, EdgesServe, ForksAtNode, GoesAtNode, JumpsAtNode, SetsAtNode, linked}
use Rattle.prov_runs.proofs.PieceLemmas.{found, has, of_class}

-- Registers

module _ (g : Regions) (kinds : ℕ → Kind) (kind : Kind) (x y : List ℕ) where
  module _ (rd v w : ℕ) (in_x : rd < length x) (in_y : rd < length y) (hold : RegistersHold g kinds x y) (holds : Holds g kind v w) where
    set_one : (r : ℕ) (c : Bool) → (r == rd) ≡ c → Holds g (if c then kind else kinds r) (slice_index (slice_set x rd v) r) (slice_index (slice_set y rd w) r)
    set_one r true e =
        let same : r ≡ rd = grind (arith, nat_tests) in
        rw (same, get_or-set_same x rd v 0 in_x, get_or-set_same y rd w 0 in_y) holds
    set_one r false e =
        let other : r ≢ rd = λ h. absurd (grind (arith, nat_tests)) in
        rw (get_or-set_other x rd r v 0 other, get_or-set_other y rd r w 0 other) (hold r)

    set_all : (c : Bool) (r : ℕ) → Holds g (if c then kinds r else (if r == rd then kind else kinds r))
        (slice_index (if c then x else slice_set x rd v) r) (slice_index (if c then y else slice_set y rd w) r)
    set_all true r = hold r
    set_all false r = set_one r (r == rd) refl

    -- one register that both write
    written_hold : RegistersHold g (with_kind kinds rd kind) (written x rd v) (written y rd w)
    written_hold r = set_all (rd == 0) r

  -- a register of which more is known
  known_hold : (rd : ℕ) → RegistersHold g kinds x y → Holds g kind (slice_index x rd) (slice_index y rd) → RegistersHold g (with_kind kinds rd kind) x y
  known_hold rd hold holds r = by (rd == 0) (r == rd) refl
    where
      by : (c d : Bool) → (r == rd) ≡ d → Holds g (if c then kinds r else (if d then kind else kinds r)) (slice_index x r) (slice_index y r)
      by true d e = hold r
      by false true e = let same : r ≡ rd = grind (arith, nat_tests) in rw same holds
      by false false e = hold r

written_count : (x : List ℕ) (rd v : ℕ) → length (written x rd v) ≡ length x
written_count x rd v = by (rd == 0)
  where
    by : (c : Bool) → length (if c then x else slice_set x rd v) ≡ length x
    by true = refl
    by false = length-set x rd v

written_numbers : (x : List ℕ) (rd v : ℕ) → rd < length x → v < 2 ^ 64 → AreNumbers x → AreNumbers (written x rd v)
written_numbers x rd v h k xs r = by (rd == 0) (r == rd) refl
  where
    by : (c d : Bool) → (r == rd) ≡ d → slice_index (if c then x else slice_set x rd v) r < 2 ^ 64
    by true d e = xs r
    by false true e = let same : r ≡ rd = grind (arith, nat_tests) in rw (same, get_or-set_same x rd v 0 h) k
    by false false e = let other : r ≢ rd = λ h. absurd (grind (arith, nat_tests)) in rw (get_or-set_other x rd r v 0 other) (xs r)

pub bytes_after : (b : ℕ → ℕ) (at n value : ℕ) → AreBytes b → AreBytes (with_number b at n value)
unfolding with_number
bytes_after b at zero value h = h
bytes_after b at (suc n) value h = bytes_after (with_byte b at (value % 256)) (next at) n (value / 256) (λ a. by a (a == at))
  where
    by : (a : ℕ) (c : Bool) → (if c then value % 256 else b a) < 256
    by a true = omega arith
    by a false = h a

-- the one value of a span of one
pub one_offset : (s : Span) (v : ℕ) → InSpan s v → s.lo ≡ s.hi → v ≡ s.lo
one_offset s v p e = let a = p.from_lo in let b = p.to_hi in omega (arith, a, b, e)

offset_is : (a o i pc : ℕ) → pc ≡ a + o → plus pc i ≡ plus a (plus o i)
offset_is a o i pc e = omega arith

pub plus_fits : (a b : ℕ) → plus a b < 2 ^ 64
plus_fits a b = omega arith

pub step_is : (allows : Rights) (s : State) (insn : Insn) (len : ℕ) → fetched s.bytes allows s.pc ≡ Ok (insn, len) → step_of allows s ≡ done (asks insn len s.x s.pc) (plus s.pc len) allows s
unfolding step_of execute
step_is allows s insn len h = rw h refl

other_fits : (g : Regions) (target : Option ℕ) (insn other : Insn) → FitsSigned w64 insn.imm → SiteHolds g target insn other → FitsSigned w64 other.imm
other_fits g None insn other f e = subst (λ z. FitsSigned w64 z.imm) (sym e) f
other_fits g (Some target) insn other f m = m.fits

-- what a branch asks for in kinds
record IsFork (op : Op) (a b : Kind) (own : Op) (x y : Kind) : Type 0 where
  name : own ≡ op
  first : x ≡ a
  second : y ≡ b

fork_is : (op : Op) (lens : List ℕ) (imm : ℤ) (place : Place) (rd : ℕ) (a b : Kind) (own : Op) (x y : Kind) (next target : ℕ) → kind_asked op lens imm place rd a b ≡ Forks own x y next target → IsFork op a b own x y
fork_is ops.Beq lens imm place rd a b own x y next target h = record { name = cc; first = cc; second = cc }
fork_is ops.Bne lens imm place rd a b own x y next target h = record { name = cc; first = cc; second = cc }
fork_is ops.Blt lens imm place rd a b own x y next target h = record { name = cc; first = cc; second = cc }
fork_is ops.Bge lens imm place rd a b own x y next target h = record { name = cc; first = cc; second = cc }
fork_is ops.Bltu lens imm place rd a b own x y next target h = record { name = cc; first = cc; second = cc }
fork_is ops.Bgeu lens imm place rd a b own x y next target h = record { name = cc; first = cc; second = cc }
fork_is op lens imm place rd a b own x y next target h = absurd cc

module _ (fetches : FetchesAlike) (hold : AsksHold) (numbers : AsksFit) (are_fit : AsksAreFit) (u : Runs) (place : Place) (insn : Insn) (kinds : ℕ → Kind) (parts : List StackPart) (s t : State) (node : AtNode u place insn kinds parts s t) where
  abbrev g : Regions
  g = u.regions

  code_inside : (o : ℕ) → is_of is_code (piece_at u.laid.pieces 0 o) ≡ true → o < length_of g.lens 0
  code_inside o k =
      let c = of_class is_code (piece_at u.laid.pieces 0) o k in
      let f = found u.laid.pieces c.piece 0 o c.is in
      let h = has c.piece 0 o f.byte in
      let z : c.piece.at + c.piece.len ≤ length_of g.lens 0 = subst (λ n. c.piece.at + c.piece.len ≤ length_of g.lens n) h.region (node.are_runs.is_laid.inside f.index c.piece f.listed) in
      let top = h.high in
      omega (arith, z, top)

  may_fetch : MayFetch g u.laid.pieces u.old_rights u.new_rights
  may_fetch = record { old = node.are_runs.code; new = λ o k. node.are_runs.rights 0 o access.Fetch (code_inside o k) ∙ node.are_runs.code o k }

  pub read : OneFetched g (target_at u.laid.sites place.at) place.at place.len insn (fetched s.bytes u.old_rights s.pc) (fetched t.bytes u.new_rights t.pc)
  read = fetches g u.laid u.done u.image place.at place.len insn u.old_rights u.new_rights s t node.are_runs.apart node.are_runs.is_laid may_fetch node.is_insn node.related node.stands.old_pc node.stands.new_pc

  old_pc : s.pc ≡ g.old 0 + place.at
  old_pc = let m = node.are_runs.apart.old_ends 0 in let n = read.inside in let e = node.stands.old_pc in omega (arith, m, n, e)

  new_pc : t.pc ≡ g.new 0 + place.at
  new_pc = let m = node.are_runs.apart.new_ends 0 in let n = read.inside in let e = node.stands.new_pc in omega (arith, m, n, e)

  abbrev pub first_ask : Ask
  first_ask = asks insn place.len s.x s.pc

  abbrev pub second_ask : Ask
  second_ask = asks read.other place.len t.x t.pc

  abbrev pub old_next : ℕ
  old_next = plus s.pc place.len

  abbrev pub new_next : ℕ
  new_next = plus t.pc place.len

  site : SiteHolds g place.target insn read.other
  site = subst (λ z. SiteHolds g z insn read.other) (sym node.target_is) read.site

  abbrev pub Alike : KindAsk → Ask → Ask → Type 0
  Alike k a b = AskHolds g (slice_index s.x insn.rs1) (slice_index t.x insn.rs1) (slice_index s.x insn.rs2) (slice_index t.x insn.rs2) k a b

  pub alike : Alike (asked_kinds g.lens insn place kinds) first_ask second_ask
  alike = hold g insn read.other place kinds s.x t.x s.pc t.pc
      (record { apart = node.are_runs.apart; fits = read.fits.imm; first_numbers = node.related.first.registers; second_numbers = node.related.second.registers; site = site; first_at = old_pc; second_at = new_pc; inside = read.inside })
      node.proper node.stands.registers

  pub first_number : IsNumber first_ask
  first_number = numbers insn place.len s.x s.pc read.fits.imm node.related.first.registers node.related.first.pc

  pub second_number : IsNumber second_ask
  second_number = numbers read.other place.len t.x t.pc (other_fits g place.target insn read.other read.fits.imm site) node.related.second.registers node.related.second.pc

  pub first_fit : IsFit first_ask
  first_fit = are_fit insn place.len s.x s.pc read.fits.names

  abbrev pub Gives : (r at : ℕ) → (ℕ → Kind) → List StackPart → Outcome → Outcome → Type 0
  Gives r at ks ps x y = BothGo u r at ks ps s t x y

  -- both steps, where what is asked is done so
  pub steps : (r at : ℕ) (ks : ℕ → Kind) (ps : List StackPart) → Gives r at ks ps (done first_ask old_next u.old_rights s) (done second_ask new_next u.new_rights t) → BothStep u r at ks ps s t
  steps r at ks ps h = rw (step_is u.old_rights s insn place.len read.first, step_is u.new_rights t read.other place.len read.second) h

  pub old_next_is : old_next ≡ plus (g.old 0) (behind place)
  old_next_is = offset_is (g.old 0) place.at place.len s.pc old_pc

  pub new_next_is : new_next ≡ plus (g.new 0) (behind place)
  new_next_is = offset_is (g.new 0) place.at place.len t.pc new_pc

  old_count : (rd : ℕ) → rd < 32 → rd < length s.x
  old_count rd h = let k = node.related.first.count in omega (arith, h, k)

  new_count : (rd : ℕ) → rd < 32 → rd < length t.x
  new_count rd h = let k = node.related.second.count in omega (arith, h, k)

  -- both write a register and go on, with memory as it was
  wrote : (rd v w to to' r at : ℕ) (ks : ℕ → Kind) → rd < 32 → v < 2 ^ 64 → w < 2 ^ 64 → to < 2 ^ 64 → to' < 2 ^ 64 → to ≡ plus (g.old r) at → to' ≡ plus (g.new r) at
      → RegistersHold g ks (written s.x rd v) (written t.x rd w)
      → Gives r at ks parts (Went (record { x = written s.x rd v; pc = to; bytes = s.bytes })) (Went (record { x = written t.x rd w; pc = to'; bytes = t.bytes }))
  wrote rd v w to to' r at ks h fv fw ft fu e f regs = record {
    left = record { x = written s.x rd v; pc = to; bytes = s.bytes };
    right = record { x = written t.x rd w; pc = to'; bytes = t.bytes };
    first = refl;
    second = refl;
    old_inside = tt;
    new_inside = tt;
    related = record {
      first = record { registers = written_numbers s.x rd v (old_count rd h) fv node.related.first.registers; count = written_count s.x rd v ∙ node.related.first.count; pc = ft; bytes = node.related.first.bytes };
      second = record { registers = written_numbers t.x rd w (new_count rd h) fw node.related.second.registers; count = written_count t.x rd w ∙ node.related.second.count; pc = fu; bytes = node.related.second.bytes };
      moved = node.related.moved;
      code = node.related.code;
    };
    stands = record { old_pc = e; new_pc = f; registers = regs; stack = node.stands.stack };
    others = λ q o within off closed. (refl, refl);
  }

  pub set_go : (rd v w : ℕ) (kind : Kind) → rd < 32 → v < 2 ^ 64 → w < 2 ^ 64 → Holds g kind v w
      → Gives 0 (behind place) (with_kind kinds rd kind) parts (Went (record { x = written s.x rd v; pc = old_next; bytes = s.bytes })) (Went (record { x = written t.x rd w; pc = new_next; bytes = t.bytes }))
  set_go rd v w kind h fv fw p = wrote rd v w old_next new_next 0 (behind place) (with_kind kinds rd kind) h fv fw (plus_fits s.pc place.len) (plus_fits t.pc place.len) old_next_is new_next_is
      (written_hold g kinds kind s.x t.x rd v w (old_count rd h) (new_count rd h) node.stands.registers p)

  sets_go : (rd : ℕ) (kind : Kind) (a b : Ask) → Alike (Sets rd kind) a b → IsNumber a → IsNumber b → IsFit a → Gives 0 (behind place) (with_kind kinds rd kind) parts (done a old_next u.old_rights s) (done b new_next u.new_rights t)
  sets_go rd kind (Set m x) (Set n y) h i j f = rw (h.first, h.second) (set_go rd x y kind (subst (λ z. z < 32) h.first f) i j h.value)
  sets_go rd kind a b h i j f = absurd h

  sets_at : (rd : ℕ) (kind : Kind) → asked_kinds g.lens insn place kinds ≡ Sets rd kind → BothStep u 0 (behind place) (with_kind kinds rd kind) parts s t
  sets_at rd kind e = steps 0 (behind place) (with_kind kinds rd kind) parts (sets_go rd kind first_ask second_ask (subst (λ k. Alike k first_ask second_ask) e alike) first_number second_number first_fit)

  -- Jumps

  link : Holds g (image_kind g.lens (behind place)) old_next new_next
  link = by (nat_lt (length_of g.lens 0) (behind place)) refl
    where
      by : (c : Bool) → nat_lt (length_of g.lens 0) (behind place) ≡ c → Holds g (if c then Any else Ptr 0 (one (behind place))) old_next new_next
      by true k = tt
      by false k =
          let inside : behind place ≤ length_of g.lens 0 = grind (arith, nat_tests) in
          let m = node.are_runs.apart.old_ends 0 in
          let n = node.are_runs.apart.new_ends 0 in
          let e = old_next_is in
          let f = new_next_is in
          record { offset = behind place; old = omega (arith, e, m, inside); new = omega (arith, f, n, inside); within = record { up = 0; down = 0; from_lo = omega arith; to_hi = omega arith }; inside = inside }

  jump_to : (rd v w r at : ℕ) → rd < 32 → v ≡ plus (g.old r) at → w ≡ plus (g.new r) at
      → Gives r at (linked u place kinds rd) parts (Went (record { x = written s.x rd old_next; pc = v; bytes = s.bytes })) (Went (record { x = written t.x rd new_next; pc = w; bytes = t.bytes }))
  jump_to rd v w r at h e f = wrote rd old_next new_next v w r at (linked u place kinds rd) h (plus_fits s.pc place.len) (plus_fits t.pc place.len) (omega (arith, e)) (omega (arith, f)) e f
      (written_hold g kinds (image_kind g.lens (behind place)) s.x t.x rd old_next new_next (old_count rd h) (new_count rd h) node.stands.registers link)

  goes_go : (to rd : ℕ) (a b : Ask) → Alike (Goes to rd) a b → IsFit a → Gives 0 to (linked u place kinds rd) parts (done a old_next u.old_rights s) (done b new_next u.new_rights t)
  goes_go to rd (Jump x m) (Jump y n) h f = rw (h.first, h.second) (jump_to rd x y 0 to (subst (λ z. z < 32) h.first f) h.old_to h.new_to)
  goes_go to rd a b h f = absurd h

  goes_at : (to rd : ℕ) → asked_kinds g.lens insn place kinds ≡ Goes to rd → BothStep u 0 to (linked u place kinds rd) parts s t
  goes_at to rd e = steps 0 to (linked u place kinds rd) parts (goes_go to rd first_ask second_ask (subst (λ k. Alike k first_ask second_ask) e alike) first_fit)

  even_is : (n : ℕ) → n % 2 ≡ 0 → even n ≡ n
  even_is n h = omega (arith, h)

  jumps_go : (r : ℕ) (q : Span) (rd : ℕ) (a b : Ask) → q.lo ≡ q.hi → (g.old r + q.lo) % 2 ≡ 0 → (g.new r + q.lo) % 2 ≡ 0 → Alike (Jumps (Ptr r q) rd) a b → IsFit a
      → Gives r q.lo (linked u place kinds rd) parts (done a old_next u.old_rights s) (done b new_next u.new_rights t)
  jumps_go r q rd (Jump x m) (Jump y n) single first second h f =
      let p = h.target in
      let o = one_offset q p.offset p.within single in
      let i = p.inside in
      let old : h.old_whole ≡ g.old r + q.lo = p.old ∙ ap (λ z. g.old r + z) o in
      let new : h.new_whole ≡ g.new r + q.lo = p.new ∙ ap (λ z. g.new r + z) o in
      let c = node.are_runs.apart.old_ends r in
      let d = node.are_runs.apart.new_ends r in
      let v : x ≡ g.old r + q.lo = h.old_to ∙ ap even old ∙ even_is (g.old r + q.lo) first in
      let w : y ≡ g.new r + q.lo = h.new_to ∙ ap even new ∙ even_is (g.new r + q.lo) second in
      rw (h.first, h.second) (jump_to rd x y r q.lo (subst (λ z. z < 32) h.first f) (omega (arith, v, o, i, c)) (omega (arith, w, o, i, d)))
  jumps_go r q rd a b single first second h f = absurd h

  jumps_at : (r : ℕ) (q : Span) (rd : ℕ) → asked_kinds g.lens insn place kinds ≡ Jumps (Ptr r q) rd → q.lo ≡ q.hi → (g.old r + q.lo) % 2 ≡ 0 → (g.new r + q.lo) % 2 ≡ 0
      → BothStep u r q.lo (linked u place kinds rd) parts s t
  jumps_at r q rd e single first second = steps r q.lo (linked u place kinds rd) parts (jumps_go r q rd first_ask second_ask single first second (subst (λ k. Alike k first_ask second_ask) e alike) first_fit)

  -- Branches

  abbrev Forked : (a b : Kind) (next target : ℕ) (x y : Outcome) → Type 0
  Forked a b next target x y = (went : Bool) × (k : Kind) × (l : Kind) × (narrow insn went a b ≡ Some (k, l)) × Gives 0 (if went then target else next) (with_kind (with_kind kinds insn.rs1 k) insn.rs2 l) parts x y

  fork_to : (a b k l : Kind) (to x y : ℕ) → x ≡ plus (g.old 0) to → y ≡ plus (g.new 0) to
      → Holds g k (slice_index s.x insn.rs1) (slice_index t.x insn.rs1) → Holds g l (slice_index s.x insn.rs2) (slice_index t.x insn.rs2)
      → Gives 0 to (with_kind (with_kind kinds insn.rs1 k) insn.rs2 l) parts (Went (record { x = s.x; pc = x; bytes = s.bytes })) (Went (record { x = t.x; pc = y; bytes = t.bytes }))
  fork_to a b k l to x y e f p q = wrote 0 0 0 x y 0 to (with_kind (with_kind kinds insn.rs1 k) insn.rs2 l) (omega arith) (omega arith) (omega arith) (omega (arith, e)) (omega (arith, f)) e f
      (known_hold g (with_kind kinds insn.rs1 k) l s.x t.x insn.rs2 (known_hold g kinds k s.x t.x insn.rs1 node.stands.registers p) q)

  forks_go : (op : Op) (a b : Kind) (next target : ℕ) (x y : Ask) → op ≡ insn.op → a ≡ kinds insn.rs1 → b ≡ kinds insn.rs2 → may_compare op a b ≡ true → Alike (Forks op a b next target) x y
      → Forked a b next target (done x old_next u.old_rights s) (done y new_next u.new_rights t)
  unfolding narrow
  forks_go op a b next target (Jump x m) (Jump y n) is_op is_a is_b may h = let k = h may in zeroed k (insn.rs1 == insn.rs2) refl
    where
      zeroed : (k : ForksAlike g op a b next target (slice_index s.x insn.rs1) (slice_index t.x insn.rs1) (slice_index s.x insn.rs2) (slice_index t.x insn.rs2) x y m n) → (c : Bool) → (insn.rs1 == insn.rs2) ≡ c
          → Forked a b next target (done (Jump x m) old_next u.old_rights s) (done (Jump y n) new_next u.new_rights t)
      zeroed k true e =
          let goes = fork_to a b a b (if k.went then target else next) x y k.goes.old_to k.goes.new_to (subst (λ z. Holds g z (slice_index s.x insn.rs1) (slice_index t.x insn.rs1)) (sym is_a) (node.stands.registers insn.rs1)) (subst (λ z. Holds g z (slice_index s.x insn.rs2) (slice_index t.x insn.rs2)) (sym is_b) (node.stands.registers insn.rs2)) in
          rw (k.goes.first, k.goes.second) (k.went, a, b, rw e refl, goes)
      zeroed k false e = apart (narrow_between op k.went a b) refl k.narrowed
        where
          apart : (o : Option (Kind × Kind)) → narrow_between op k.went a b ≡ o → BothHold g (slice_index s.x insn.rs1) (slice_index t.x insn.rs1) (slice_index s.x insn.rs2) (slice_index t.x insn.rs2) o
              → Forked a b next target (done (Jump x m) old_next u.old_rights s) (done (Jump y n) new_next u.new_rights t)
          apart None f p = absurd p
          apart (Some (c, d)) f p =
              let goes = fork_to a b c d (if k.went then target else next) x y k.goes.old_to k.goes.new_to (p.0) (p.1) in
              let is : narrow_between insn.op k.went a b ≡ Some (c, d) = subst (λ z. narrow_between z k.went a b ≡ Some (c, d)) is_op f in
              rw (k.goes.first, k.goes.second) (k.went, c, d, rw e is, goes)
  forks_go op a b next target x y is_op is_a is_b may h = absurd h

  forks_at : (op : Op) (a b : Kind) (next target : ℕ) → asked_kinds g.lens insn place kinds ≡ Forks op a b next target → may_compare op a b ≡ true → BothFork u insn a b next target kinds parts s t
  unfolding asked_kinds
  forks_at op a b next target e may =
      let f = fork_is insn.op g.lens insn.imm place insn.rd (kinds insn.rs1) (kinds insn.rs2) op a b next target e in
      let z = forks_go op a b next target first_ask second_ask f.name f.first f.second may (subst (λ k. Alike k first_ask second_ask) e alike) in
      record { went = z.0; x = z.1; y = z.2; narrowed = z.3; goes = steps 0 (if z.0 then target else next) (with_kind (with_kind kinds insn.rs1 (z.1)) insn.rs2 (z.2)) parts (z.4) }

pub sets_at_node : FetchesAlike → AsksHold → AsksFit → AsksAreFit → SetsAtNode
sets_at_node fetches hold numbers are_fit u place insn kinds parts s t rd kind node e = sets_at fetches hold numbers are_fit u place insn kinds parts s t node rd kind e

pub goes_at_node : FetchesAlike → AsksHold → AsksFit → AsksAreFit → GoesAtNode
goes_at_node fetches hold numbers are_fit u place insn kinds parts s t to rd node e = goes_at fetches hold numbers are_fit u place insn kinds parts s t node to rd e

pub jumps_at_node : FetchesAlike → AsksHold → AsksFit → AsksAreFit → JumpsAtNode
jumps_at_node fetches hold numbers are_fit u place insn kinds parts s t r q rd node e single first second = jumps_at fetches hold numbers are_fit u place insn kinds parts s t node r q rd e single first second

pub forks_at_node : FetchesAlike → AsksHold → AsksFit → AsksAreFit → ForksAtNode
forks_at_node fetches hold numbers are_fit u place insn kinds parts s t op a b next target node e may = forks_at fetches hold numbers are_fit u place insn kinds parts s t node op a b next target e may

-- Edges

pub edges_serve : FitsIsSound → EdgesServe
edges_serve sound g r at kinds want parts wanted s t stands kinds_fit proper parts_fit = record {
  old_pc = stands.old_pc;
  new_pc = stands.new_pc;
  registers = λ n. sound g (kinds n) (want n) _ _ (proper n) (kinds_fit n) (stands.registers n);
  stack = λ i p listed. part p (parts_fit i p listed);
}
  where
    part : (p : StackPart) → (j : ℕ) × (q : StackPart) × (slice_get parts j ≡ Some q) × ServesPart q p → PartHolds g p s.bytes t.bytes
    part p (j, q, listed, serves) =
        let h = stands.stack j q listed in
        let at_is : q.at ≡ p.at = serves.at in
        let width_is : q.width ≡ p.width = serves.width in
        let room = h.inside in
        let number : NumberHolds g 1 p.at p.width q.kind s.bytes t.bytes = subst (λ z. NumberHolds g 1 p.at z q.kind s.bytes t.bytes) width_is (subst (λ z. NumberHolds g 1 z q.width q.kind s.bytes t.bytes) at_is h.holds) in
        record { inside = omega (arith, room, at_is, width_is); holds = sound g q.kind p.kind _ _ serves.proper serves.kind number }
