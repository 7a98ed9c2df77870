-- How calls begin.
use Rattle.std.proofs.Common.{◌≡◌, ℕ, zero, suc, ◌<◌, ◌≤◌, ◌+◌, ◌%◌, arith, Bool, true, false, refl, sym, ◌∙◌, ap, subst, Option, Some, None, List, [], ◌∷◌, length}
use Rattle.std.specs.Prelude.{◌≢◌, ◌==◌, ◌&&◌, nat_le, if◌then◌else◌, slice_get, slice_index, slice_set, replicate}
use Rattle.std.proofs.lemmas.Bool.Decides.{nat_tests}
use Rattle.std.proofs.lemmas.List.{get_or-set_same, get_or-set_other, get_or_past}
use Rattle.uh_base.specs.Bytes.{next, with_byte, with_number}
use Rattle.rv_step.specs.Exec.{Rights, State}
use Rattle.prov_types.specs.declared.kinds.Kind.{Kind}
use Rattle.prov_types.specs.declared.kinds.Kind.TheVariants.{Any, Num, Ptr, Opt}
use Rattle.prov_types.specs.Spans.{one}
use Rattle.prov_types.specs.Kinds.{Holds, IsProperKind, Regions, length_of, nought, pointed}
use Rattle.prov_types.specs.Fits.{fits}
use Rattle.prov_types.specs.Laws.{FitsIsSound}
use Rattle.prov_cert.specs.declared.cert.RegKind.{RegKind}
use Rattle.prov_cert.specs.declared.cert.StackPart.{StackPart}
use Rattle.prov_cert.specs.Cert.{Entry, Node}
use Rattle.prov_layout.specs.declared.piece.Class.{Class}
use Rattle.prov_layout.specs.declared.piece.Class.TheVariants.{Code, Plain, Number, Fixed, Convert}
use Rattle.prov_layout.specs.declared.piece.Piece.{Piece}
use Rattle.prov_layout.specs.Pieces.{all_of, is_exactly, is_of, is_plain, piece_at}
use Rattle.prov_layout.specs.Stores.{store_by, store_keeps, takes}
use Rattle.prov_runs.specs.Memory.{PartsHold}
use Rattle.prov_runs.specs.States.{RegistersHold}
use Rattle.prov_runs.specs.StoreLaws.{BothStore, CodeStays, StoresKeep, stored}
use Rattle.provenance_check.specs.Ground.{Ground}
use Rattle.provenance_check.specs.Registers.{kind_at, kinds_of, naming, written}
use Rattle.provenance_check.specs.Rules.{has_part, is_marked, kinds_fit, parts_fit}
use Rattle.provenance_check.specs.Reached.{Reached, begins}
use Rattle.provenance_check.specs.Entries.{are_arguments, begins_at, entry_rule, is_argument, is_given, start_kinds}
use Rattle.prov_laws.specs.Checked.{AreRunsOf, known, regions_of}
use Rattle.prov_laws.specs.Entries.{AreOf, Argument, Begins, Buffer, BuffersKeep, CallsBegin, HasWindow, IsOf, Shared, Value, held, with_buffer}
use Rattle.prov_laws.proofs.KindLemmas.{kinds_long, kinds_proper, written_long}
use Rattle.prov_laws.proofs.EdgeLemmas.{bound, marked_is}
use Rattle.prov_laws.proofs.ReadLemmas.{both, every_at}

-- no register that is named is this one
abbrev Unnamed : List RegKind → ℕ → Type 0
Unnamed named r = (i : ℕ) (k : RegKind) → slice_get named i ≡ Some k → k.reg ≢ r

module _ (g : Regions) (x y : List ℕ) where
  abbrev HoldsAt : Kind → ℕ → Type 0
  HoldsAt kind r = Holds g kind (slice_index x r) (slice_index y r)

  -- kinds that are named one after another
  named_hold : (have : List Kind) (named : List RegKind) → length have ≡ 32
      → ((i : ℕ) (k : RegKind) → slice_get named i ≡ Some k → (10 ≤ k.reg) × HoldsAt k.kind k.reg)
      → ((r : ℕ) → r < 32 → Unnamed named r → HoldsAt (kind_at have r) r) → (r : ℕ) → r < 32 → HoldsAt (kind_at (naming have named) r) r
  unfolding naming
  named_hold have [] long each free r h = free r h (λ i k e. absurd cc)
  named_hold have (k ∷ ks) long each free r h =
      named_hold (written have k.reg k.kind) ks (written_long have k.reg k.kind long) (λ i q e. each (suc i) q e) here r h
    where
      first : (10 ≤ k.reg) × HoldsAt k.kind k.reg
      first = each 0 k refl

      here : (q : ℕ) → q < 32 → Unnamed ks q → HoldsAt (kind_at (written have k.reg k.kind) q) q
      here q l off = by (k.reg == 0) (q == k.reg) refl refl
        where
          unnamed : q ≢ k.reg → Unnamed (k ∷ ks) q
          unnamed other zero p e z = let same : k ≡ p = cc in other (sym z ∙ ap (λ w. w.reg) (sym same))
          unnamed other (suc i) p e z = off i p e z

          by : (c d : Bool) → (k.reg == 0) ≡ c → (q == k.reg) ≡ d → HoldsAt (kind_at (if c then have else slice_set have k.reg k.kind) q) q
          by true d e f = let low = first.0 in let z : k.reg ≡ 0 = grind (arith, nat_tests) in absurd (omega (arith, low, z))
          by false true e f =
              let same : q ≡ k.reg = grind (arith, nat_tests) in
              subst (λ n. HoldsAt (kind_at (slice_set have k.reg k.kind) n) n) (sym same)
              (subst (λ z. HoldsAt z k.reg) (sym (get_or-set_same have k.reg k.kind Any (omega (arith, l, long, same)))) (first.1))
          by false false e f =
              let other : q ≢ k.reg = λ z. absurd (grind (arith, nat_tests)) in
              subst (λ z. HoldsAt z q) (sym (get_or-set_other have k.reg q k.kind Any other)) (free q l (unnamed other))

-- An argument holds its kind.
given_holds : (g : Ground) (old new : ℕ → ℕ) (kind : Kind) (a : Argument) → length_of g.lens 2 ≡ 65536 → is_given kind ≡ true → IsOf kind a → Holds (regions_of g old new) kind (held old a) (held new a)
given_holds g old new (Num s) (Value v) long e h = record { same = refl; within = h }
given_holds g old new (Num s) (Buffer o) long e h = absurd h
given_holds g old new (Ptr r s) (Value v) long e h = absurd h
given_holds g old new (Ptr r s) (Buffer o) long e h =
    let is : r ≡ 2 = grind (arith, nat_tests) in
    let few = h.1 in
    record {
      offset = o;
      old = ap (λ n. old n + o) (sym is);
      new = ap (λ n. new n + o) (sym is);
      within = h.0;
      inside = subst (λ n. o ≤ length_of g.lens n) (sym is) (omega (arith, long, few));
    }
given_holds g old new (Opt r s) (Value v) long e h = nought h h
given_holds g old new (Opt r s) (Buffer o) long e h =
    let is : r ≡ 2 = grind (arith, nat_tests) in
    let few = h.1 in
    pointed (record {
      offset = o;
      old = ap (λ n. old n + o) (sym is);
      new = ap (λ n. new n + o) (sym is);
      within = h.0;
      inside = subst (λ n. o ≤ length_of g.lens n) (sym is) (omega (arith, long, few));
    })
given_holds g old new Any a long e h = absurd cc

each_argument : (named : List RegKind) (i : ℕ) (k : RegKind) → are_arguments named ≡ true → slice_get named i ≡ Some k → is_argument k ≡ true
unfolding are_arguments
each_argument [] i k e h = absurd cc
each_argument (q ∷ qs) zero k e h = let same : q ≡ k = cc in subst (λ z. is_argument z ≡ true) same (both (is_argument q) (are_arguments qs) e).0
each_argument (q ∷ qs) (suc i) k e h = each_argument qs i k (both (is_argument q) (are_arguments qs) e).1 h

repeated : (n r : ℕ) (k : Kind) → r < n → kind_at (replicate n k) r ≡ k
repeated zero r k h = absurd (omega arith)
repeated (suc n) zero k h = refl
repeated (suc n) (suc r) k h = repeated n r k (omega (arith, h))

-- before arguments are named
abbrev first_kinds : List Kind
first_kinds = written (written (replicate 32 (Num (one 0))) 1 (Ptr 3 (one 0))) 2 (Ptr 1 (one 65536))

module _ (g : Ground) (old new : ℕ → ℕ) (named : List RegKind) (arguments : ℕ → Argument) (at : ℕ) (s t : State)
    (sizes : HasWindow g) (first : Begins old at named arguments s) (second : Begins new at named arguments t) where
  null_holds : (r : ℕ) → r ≢ 1 → r ≢ 2 → Unnamed named r → HoldsAt (regions_of g old new) s.x t.x (Num (one 0)) r
  null_holds r a b off =
      let x = first.others r a b off in
      let y = second.others r a b off in
      record { same = x ∙ sym y; within = record { up = 0; down = 0; from_lo = omega (arith, x); to_hi = omega (arith, x) } }

  begin_holds : (r : ℕ) → r < 32 → Unnamed named r → HoldsAt (regions_of g old new) s.x t.x (kind_at first_kinds r) r
  begin_holds zero h off = null_holds 0 (λ e. absurd (omega (arith, e))) (λ e. absurd (omega (arith, e))) off
  begin_holds (suc zero) h off =
      let x = first.link in
      let y = second.link in
      record { offset = 0; old = omega (arith, x); new = omega (arith, y); within = record { up = 0; down = 0; from_lo = omega arith; to_hi = omega arith }; inside = omega arith }
  begin_holds (suc (suc zero)) h off =
      let l = sizes.stack in
      record { offset = 65536; old = first.stack; new = second.stack; within = record { up = 0; down = 0; from_lo = omega arith; to_hi = omega arith }; inside = omega (arith, l) }
  begin_holds (suc (suc (suc r))) h off =
      subst (λ k. HoldsAt (regions_of g old new) s.x t.x k (suc (suc (suc r)))) (sym (repeated 29 r (Num (one 0)) (omega (arith, h))))
      (null_holds (suc (suc (suc r))) (λ e. absurd (omega (arith, e))) (λ e. absurd (omega (arith, e))) off)

  pub start_holds : are_arguments named ≡ true → AreOf named arguments → (r : ℕ) → r < 32 → HoldsAt (regions_of g old new) s.x t.x (kind_at (start_kinds named) r) r
  unfolding start_kinds
  start_holds ok are = named_hold (regions_of g old new) s.x t.x first_kinds named refl each begin_holds
    where
      each : (i : ℕ) (k : RegKind) → slice_get named i ≡ Some k → (10 ≤ k.reg) × HoldsAt (regions_of g old new) s.x t.x k.kind k.reg
      each i k e =
          let a = both (nat_le 10 k.reg) (nat_le k.reg 17 && is_given k.kind) (each_argument named i k ok e) in
          let b = both (nat_le k.reg 17) (is_given k.kind) a.1 in
          let low = a.0 in
          let x = first.given i k e in
          let y = second.given i k e in (
            grind (arith, nat_tests),
            subst (λ v. Holds (regions_of g old new) k.kind v (slice_index t.x k.reg)) (sym x) (subst (λ w. Holds (regions_of g old new) k.kind (held old (arguments k.reg)) w) (sym y)
                (given_holds g old new k.kind (arguments k.reg) sizes.arguments b.1 (are i k e))),
          )

-- what is served where all 32 registers hold their kinds
served : FitsIsSound → (g : Regions) (x y : List ℕ) (have : List Kind) (regs : List RegKind) → ((r : ℕ) → IsProperKind (kind_at (kinds_of regs) r))
    → ((r : ℕ) → r < 32 → Holds g (kind_at have r) (slice_index x r) (slice_index y r)) → kinds_fit have (kinds_of regs) ≡ true → RegistersHold g (kind_at (kinds_of regs)) x y
unfolding kinds_fit
served sound g x y have regs proper hold e r = by (nat_le 32 r) refl
  where
    by : (b : Bool) → nat_le 32 r ≡ b → Holds g (kind_at (kinds_of regs) r) (slice_index x r) (slice_index y r)
    by true f =
        let h : 32 ≤ r = grind (arith, nat_tests) in
        let l = kinds_long regs in
        let k : kind_at (kinds_of regs) r ≡ Any = get_or_past (kinds_of regs) r Any (omega (arith, h, l)) in
        subst (λ z. Holds g z (slice_index x r) (slice_index y r)) (sym k) tt
    by false f =
        let h : r < 32 = grind (arith, nat_tests) in
        let z : r ≡ 0 + r = omega arith in
        let fit : fits (kind_at have r) (kind_at (kinds_of regs) r) ≡ true = ap (λ n. fits (kind_at have n) (kind_at (kinds_of regs) n)) z ∙ every_at (λ n. fits (kind_at have n) (kind_at (kinds_of regs) n)) 0 32 r e h in
        sound g (kind_at have r) (kind_at (kinds_of regs) r) (slice_index x r) (slice_index y r) (proper r) fit (hold r h)

-- where no part is there, none is served
no_parts : (g : Regions) (parts : List StackPart) (b c : ℕ → ℕ) → parts_fit [] parts ≡ true → PartsHold g parts b c
unfolding parts_fit has_part
no_parts g [] b c e i p h = absurd cc
no_parts g (q ∷ qs) b c e i p h = absurd cc

entry_so : (nodes : List Node) (entry : Entry) (node : Node) → slice_get nodes entry.node ≡ Some node → entry_rule nodes entry ≡ true
    → (are_arguments entry.arg_kinds ≡ true) × (kinds_fit (start_kinds entry.arg_kinds) (kinds_of node.regs) ≡ true) × (parts_fit [] node.stack ≡ true)
entry_so nodes entry node e h =
    let a = both (are_arguments entry.arg_kinds) (begins_at entry.arg_kinds (slice_get nodes entry.node)) h in
    let i : begins_at entry.arg_kinds (Some node) ≡ true = subst (λ o. begins_at entry.arg_kinds o ≡ true) e a.1 in
    let b = both (kinds_fit (start_kinds entry.arg_kinds) (kinds_of node.regs)) (parts_fit [] node.stack) i in
    (a.0, b.0, b.1)

pub calls_begin : FitsIsSound → CallsBegin
calls_begin sound g old new allows others starts entry node arguments s t of sizes reached named listed passes are first second related =
    let rule = entry_so g.nodes entry node listed passes in
    let proper = kinds_proper node.regs (of.formed entry.node node listed).registers in
    let here : Reached g.nodes starts entry.node = begins entry.node named in
    let marked : is_marked g.called entry.node ≡ true = (reached.1 entry.node (bound g.nodes entry.node node listed)).1 here in
    record {
      number = entry.node;
      node = known node;
      listed = marked_is g.nodes g.called entry.node node marked listed;
      related = related;
      stands = record {
        old_pc = first.pc;
        new_pc = second.pc;
        registers = served sound (regions_of g old new) s.x t.x (start_kinds entry.arg_kinds) node.regs proper (start_holds g old new entry.arg_kinds arguments node.at s t sizes first second rule.0 are) rule.1;
        stack = no_parts (regions_of g old new) node.stack s.bytes t.bytes rule.2;
      };
    }

-- Buffers

byte_is : (b : ℕ → ℕ) (at v : ℕ) → v < 256 → with_number b at 1 v ≡ with_byte b at v
unfolding with_number
byte_is b at v h = let z : v % 256 ≡ v = omega arith in ap (with_byte b at) z

plain_keeps : (at : ℕ → Option Piece) (o v : ℕ) → is_of is_plain (at o) ≡ true → store_keeps at o 1 (Num (one v)) ≡ true
unfolding store_keeps all_of
plain_keeps at o v e = by (at o) e refl
  where
    all : is_of is_plain (at o) ≡ true → all_of is_plain at o 1 ≡ true
    all k = rw k refl

    taken : (c : Class) → is_plain c ≡ true → takes c 1 (Num (one v)) ≡ true
    taken Plain k = refl
    taken Code k = absurd cc
    taken (Number own) k = absurd cc
    taken (Fixed own) k = absurd cc
    taken (Convert own cell) k = absurd cc

    by : (p : Option Piece) → is_of is_plain p ≡ true → at o ≡ p → store_by p at o 1 (Num (one v)) ≡ true
    by None k f = absurd cc
    by (Some p) k f = on (is_exactly o 1 p)
      where
        on : (x : Bool) → (if x then takes p.class 1 (Num (one v)) else (true && all_of is_plain at o 1)) ≡ true
        on true = taken p.class k
        on false = all e

module _ (keep : StoresKeep) (stay : CodeStays) (g : Ground) (old new : ℕ → ℕ) (allows others : Rights) (of : AreRunsOf g old new allows others) (sizes : HasWindow g) where
  one_byte : (o v : ℕ) (b c : ℕ → ℕ) → o < 65536 → v < 256 → Shared g old new b c → Shared g old new (with_byte b (old 2 + o) v) (with_byte c (new 2 + o) v)
  one_byte o v b c h small shared =
      let l = sizes.arguments in
      let st : BothStore (regions_of g old new) g.pieces 2 o 1 (Num (one v)) v v = record {
        apart = of.apart;
        disjoint = of.disjoint;
        is_laid = of.is_laid;
        some = omega arith;
        most = omega arith;
        inside = omega (arith, l, h);
        value = record { same = refl; within = record { up = 0; down = 0; from_lo = omega arith; to_hi = omega arith } };
        first = omega (arith, small);
        second = omega (arith, small);
      } in
      let keeps = plain_keeps (piece_at g.pieces 2) o v (sizes.plain o h) in
      let moved = keep (regions_of g old new) (record { pieces = g.pieces; sites = g.sites }) [] b c 2 o 1 (Num (one v)) v v st keeps shared.moved in
      let code = stay (regions_of g old new) g.pieces g.image b 2 o 1 (Num (one v)) v v st keeps shared.code in
      subst (λ d. Shared g old new d (with_byte c (new 2 + o) v)) (byte_is b (old 2 + o) v small)
      (subst (λ d. Shared g old new (stored old 2 o 1 v b) d) (byte_is c (new 2 + o) v small) (record { moved = moved; code = code }))

  buffer : (vs : List ℕ) (o : ℕ) (b c : ℕ → ℕ) → o + length vs ≤ 65536 → ((i : ℕ) → slice_index vs i < 256) → Shared g old new b c
      → Shared g old new (with_buffer b (old 2 + o) vs) (with_buffer c (new 2 + o) vs)
  unfolding with_buffer
  buffer [] o b c h bytes shared = shared
  buffer (v ∷ vs) o b c h bytes shared =
      let m = of.apart.old_ends 2 in
      let n = of.apart.new_ends 2 in
      let l = sizes.arguments in
      let first : next (old 2 + o) ≡ old 2 + (o + 1) = omega (arith, m, l, h) in
      let second : next (new 2 + o) ≡ new 2 + (o + 1) = omega (arith, n, l, h) in
      rw (first, second) (buffer vs (o + 1) (with_byte b (old 2 + o) v) (with_byte c (new 2 + o) v) (omega (arith, h)) (λ i. bytes (suc i)) (one_byte o v b c (omega (arith, h)) (bytes 0) shared))

pub buffers_keep : StoresKeep → CodeStays → BuffersKeep
buffers_keep keep stay g old new allows others o vs b c of sizes h bytes shared = buffer keep stay g old new allows others of sizes vs o b c h bytes shared
