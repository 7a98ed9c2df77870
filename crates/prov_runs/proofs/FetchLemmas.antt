-- Both runs fetch one instruction.
use Rattle.std.proofs.Common.{◌≡◌, ℕ, zero, suc, ◌≤◌, ◌<◌, ◌+◌, ◌-◌, ◌%◌, ◌/◌, ◌*◌, ◌^◌, arith, Bool, true, false, refl, sym, ◌∙◌, ap, subst, Some, None, List}
use Rattle.std.specs.Prelude.{◌==◌, ◌≢◌, Ok, if◌then◌else◌, slice_index}
use Rattle.std.proofs.lemmas.Bool.Decides.{nat_tests}
use Rattle.uh_base.specs.Bytes.{first_refused, loaded, next, number_at, plus}
use Rattle.rv_decode.specs.declared.insn.Insn.{Insn}
use Rattle.rv_decode.specs.declared.insn.Op.TheVariants as ops
use Rattle.rv_decode.specs.Immediates.{imm_u}
use Rattle.rv_decode.specs.Means.{decoded}
use Rattle.rv_decode.specs.RowLaws.{LengthIs, LuiFieldIsImmediate}
use Rattle.rv_step.specs.declared.bus.Access.TheVariants as access
use Rattle.rv_step.specs.Exec.{Rights, State, fetched}
use Rattle.rv_step.specs.Values.{bits_of}
use Rattle.prov_types.specs.Kinds.{AreApart, Regions, length_of}
use Rattle.prov_types.specs.Asked.{SiteHolds, SiteMoves}
use Rattle.prov_layout.specs.declared.piece.Class.{Class}
use Rattle.prov_layout.specs.declared.piece.Class.TheVariants.{Code, Plain, Number, Fixed, Convert}
use Rattle.prov_layout.specs.Pieces.{all_of, is_cell_among, is_code, is_of, piece_at}
use Rattle.prov_runs.specs.Bytes.{AreBytes, SameByte}
use Rattle.prov_runs.specs.Sites.{is_sited, names_offset, target_at, target_of}
use Rattle.prov_runs.specs.Memory.{ClassHolds, IsLaid, Layout, SameCode}
use Rattle.prov_runs.specs.States.{Related}
use Rattle.prov_runs.specs.FetchLaws.{DecodedFits, FetchesAlike, InsnFits, IsInsnAt, MayFetch, OneFetched, SiteAllows, clear, sited, decoded_at, half_at}
use Rattle.prov_runs.proofs.PieceLemmas.{OfClass, all_at, found, has}

-- An access that is allowed at each address.
pub allowed_all : (allowed : ℕ → Bool) (at n : ℕ) → at + n < 2 ^ 64 → ((i : ℕ) → i < n → allowed (at + i) ≡ true) → first_refused allowed at n ≡ None
unfolding first_refused
allowed_all allowed at zero h k = refl
allowed_all allowed at (suc n) h k =
    let zero_at : at ≡ at + 0 = omega arith in
    let first : allowed at ≡ true = ap allowed zero_at ∙ k 0 (omega arith) in
    let behind : next at ≡ at + 1 = omega arith in
    let more = allowed_all allowed (at + 1) n (omega arith) (λ i l. let e : at + 1 + i ≡ at + suc i = omega arith in ap allowed e ∙ k (suc i) (omega arith)) in
    rw (first, behind, more) refl

pub load_is : (b : ℕ → ℕ) (allowed : ℕ → Bool) (at n : ℕ) → first_refused allowed at n ≡ None → loaded b allowed at n ≡ Ok (number_at b at n)
unfolding loaded
load_is b allowed at n h = rw h refl

-- an instruction of so many bytes at an address
data DecodesAt (b : ℕ → ℕ) (pc : ℕ) (insn : Insn) (len : ℕ) : Type 0 where
  four : (number_at b pc 2 % 4 == 3) ≡ true → len ≡ 4 → decoded (number_at b pc 2) (number_at b (pc + 2) 2) ≡ Some (insn, len) → DecodesAt b pc insn len
  two : (number_at b pc 2 % 4 == 3) ≡ false → len ≡ 2 → decoded (number_at b pc 2) 0 ≡ Some (insn, len) → DecodesAt b pc insn len

fetched_is : (b : ℕ → ℕ) (allows : Rights) (pc len : ℕ) (insn : Insn) → pc + len < 2 ^ 64 → ((i : ℕ) → i < len → allows access.Fetch (pc + i) ≡ true) → DecodesAt b pc insn len
    → fetched b allows pc ≡ Ok (insn, len)
unfolding fetched
fetched_is b allows pc len insn end runs (four low is means) =
    let first = load_is b (allows access.Fetch) pc 2 (allowed_all (allows access.Fetch) pc 2 (omega (arith, is, end)) (λ i k. runs i (omega (arith, is, k)))) in
    let step : plus pc 2 ≡ pc + 2 = omega (arith, end, is) in
    let second = load_is b (allows access.Fetch) (pc + 2) 2 (allowed_all (allows access.Fetch) (pc + 2) 2 (omega (arith, is, end))
    (λ i k. let e : pc + 2 + i ≡ pc + (2 + i) = omega arith in ap (allows access.Fetch) e ∙ runs (2 + i) (omega (arith, is, k)))) in
    rw (first, low, step, second, means) refl
fetched_is b allows pc len insn end runs (two low is means) =
    let first = load_is b (allows access.Fetch) pc 2 (allowed_all (allows access.Fetch) pc 2 (omega (arith, is, end)) (λ i k. runs i (omega (arith, is, k)))) in
    rw (first, low, means) refl

-- two bytes as a number
half_is : (b : ℕ → ℕ) (at : ℕ) → at + 2 < 2 ^ 64 → number_at b at 2 ≡ b at + 256 * b (at + 1)
unfolding number_at
half_is b at h = let e : next at ≡ at + 1 = omega arith in ap (λ z. b at + 256 * (b z + 256 * 0)) e ∙ omega arith

-- a word and its halves
record Halves (b : ℕ → ℕ) (pc : ℕ) : Type 0 where
  low : number_at b pc 4 % 2 ^ 16 ≡ number_at b pc 2
  high : number_at b pc 4 / 2 ^ 16 ≡ number_at b (pc + 2) 2

halves : (b : ℕ → ℕ) (pc : ℕ) → AreBytes b → pc + 4 < 2 ^ 64 → Halves b pc
unfolding number_at
halves b pc bytes h =
    let step : next (next pc) ≡ pc + 2 = omega arith in
    let b0 = bytes pc in
    let b1 = bytes (next pc) in
    let b2 = bytes (next (next pc)) in
    let b3 = bytes (next (next (next pc))) in
    let low : (b pc + 256 * (b (next pc) + 256 * (b (next (next pc)) + 256 * (b (next (next (next pc))) + 256 * 0)))) % 2 ^ 16 ≡ b pc + 256 * (b (next pc) + 256 * 0) = omega (arith, b0, b1, b2, b3) in
    let high : (b pc + 256 * (b (next pc) + 256 * (b (next (next pc)) + 256 * (b (next (next (next pc))) + 256 * 0)))) / 2 ^ 16 ≡ b (next (next pc)) + 256 * (b (next (next (next pc))) + 256 * 0) = omega (arith, b0, b1, b2, b3) in
    record { low = low; high = high ∙ ap (λ z. b z + 256 * (b (next z) + 256 * 0)) step }

-- where an image's bytes stand in memory
decodes_in : LengthIs → (b : ℕ → ℕ) (image : List ℕ) (start at len : ℕ) (insn : Insn) → start + at + len < 2 ^ 64 → ((i : ℕ) → i < len → b (start + (at + i)) ≡ slice_index image (at + i))
    → decoded_at image at ≡ Some (insn, len) → DecodesAt b (start + at) insn len
decodes_in length_is b image start at len insn end same means = by (half_at image at % 4 == 3) refl means
  where
    half_same : (x : ℕ) → x + 2 ≤ len → number_at b (start + (at + x)) 2 ≡ half_at image (at + x)
    half_same x h =
        let e : start + (at + x) + 1 ≡ start + (at + (x + 1)) = omega arith in
        let f : at + (x + 1) ≡ at + x + 1 = omega arith in
        let first : b (start + (at + x)) ≡ slice_index image (at + x) = same x (omega (arith, h)) in
        let second : b (start + (at + x) + 1) ≡ slice_index image (at + x + 1) = ap b e ∙ same (x + 1) (omega (arith, h)) ∙ ap (slice_index image) f in
        half_is b (start + (at + x)) (omega (arith, end, h)) ∙ ap (λ z. z + 256 * b (start + (at + x) + 1)) first ∙ ap (λ z. slice_index image (at + x) + 256 * z) second

    first_half : 2 ≤ len → number_at b (start + at) 2 ≡ half_at image at
    first_half h = let z : at + 0 ≡ at = omega arith in subst (λ x. number_at b (start + x) 2 ≡ half_at image x) z (half_same 0 (omega (arith, h)))

    by : (c : Bool) → (half_at image at % 4 == 3) ≡ c → decoded (half_at image at) (if c then half_at image (at + 2) else 0) ≡ Some (insn, len) → DecodesAt b (start + at) insn len
    by true e m =
        let long : len ≡ 4 = (length_is (half_at image at) (half_at image (at + 2)) insn len m).four.0 (grind (arith, nat_tests, e)) in
        let first = first_half (omega (arith, long)) in
        let z : start + (at + 2) ≡ start + at + 2 = omega arith in
        let second : number_at b (start + at + 2) 2 ≡ half_at image (at + 2) = ap (λ x. number_at b x 2) (sym z) ∙ half_same 2 (omega (arith, long)) in
        four (subst (λ x. (x % 4 == 3) ≡ true) (sym first) e) long
        (subst (λ x. decoded (number_at b (start + at) 2) x ≡ Some (insn, len)) (sym second) (subst (λ x. decoded x (half_at image (at + 2)) ≡ Some (insn, len)) (sym first) m))
    by false e m =
        let other : half_at image at % 4 ≢ 3 = grind (arith, nat_tests, e) in
        let long : len ≡ 2 = (length_is (half_at image at) 0 insn len m).two.0 other in
        let first = first_half (omega (arith, long)) in
        two (subst (λ x. (x % 4 == 3) ≡ false) (sym first) e) long (subst (λ x. decoded x 0 ≡ Some (insn, len)) (sym first) m)

module _ (fits : DecodedFits) (length_is : LengthIs) (lui_is : LuiFieldIsImmediate) (g : Regions) (laid : Layout) (done image : List ℕ) (at len : ℕ) (insn : Insn) (allows others : Rights) (s t : State)
    (apart : AreApart g) (is_laid : IsLaid g laid.pieces) (may : MayFetch g laid.pieces allows others) (here : IsInsnAt laid image at len insn) (related : Related g laid done image s t) where
  code_at : (i : ℕ) → i < len → OfClass is_code (piece_at laid.pieces 0) (at + i)
  code_at i k = all_at is_code (piece_at laid.pieces 0) at len i here.code k

  is_code_at : (i : ℕ) → i < len → is_of is_code (piece_at laid.pieces 0 (at + i)) ≡ true
  is_code_at i k = let o = code_at i k in subst (λ z. is_of is_code z ≡ true) (sym o.is) o.passes

  byte_inside : (i : ℕ) → i < len → at + i < length_of g.lens 0
  byte_inside i k =
      let o = code_at i k in
      let f = found laid.pieces o.piece 0 (at + i) o.is in
      let h = has o.piece 0 (at + i) f.byte in
      let z : o.piece.at + o.piece.len ≤ length_of g.lens 0 = subst (λ n. o.piece.at + o.piece.len ≤ length_of g.lens n) h.region (is_laid.inside f.index o.piece f.listed) in
      let top = h.high in
      omega (arith, z, top)

  -- an instruction has 2 bytes or 4
  some : 0 < len
  some = by (half_at image at % 4 == 3) refl here.means
    where
      by : (c : Bool) → (half_at image at % 4 == 3) ≡ c → decoded (half_at image at) (if c then half_at image (at + 2) else 0) ≡ Some (insn, len) → 0 < len
      by true e m = let long : len ≡ 4 = (length_is (half_at image at) (half_at image (at + 2)) insn len m).four.0 (grind (arith, nat_tests, e)) in omega (arith, long)
      by false e m =
          let other : half_at image at % 4 ≢ 3 = grind (arith, nat_tests, e) in
          let long : len ≡ 2 = (length_is (half_at image at) 0 insn len m).two.0 other in
          omega (arith, long)

  inside : at + len ≤ length_of g.lens 0
  inside = let h = byte_inside (len - 1) (omega (arith, some)) in let k = some in omega (arith, h, k)

  old_end : g.old 0 + at + len < 2 ^ 64
  old_end = let m = apart.old_ends 0 in let n = inside in omega (arith, m, n)

  new_end : g.new 0 + at + len < 2 ^ 64
  new_end = let m = apart.new_ends 0 in let n = inside in omega (arith, m, n)

  insn_fits : InsnFits insn
  insn_fits = by (half_at image at % 4 == 3) here.means
    where
      by : (c : Bool) → decoded (half_at image at) (if c then half_at image (at + 2) else 0) ≡ Some (insn, len) → InsnFits insn
      by true m = fits (half_at image at) (half_at image (at + 2)) insn len m
      by false m = fits (half_at image at) 0 insn len m

  first_decodes : DecodesAt s.bytes (g.old 0 + at) insn len
  first_decodes = decodes_in length_is s.bytes image (g.old 0) at len insn old_end (λ i k. related.code (at + i) (is_code_at i k)) here.means

  old_runs : (i : ℕ) → i < len → allows access.Fetch (g.old 0 + at + i) ≡ true
  old_runs i k = let e : g.old 0 + at + i ≡ g.old 0 + (at + i) = omega arith in ap (allows access.Fetch) e ∙ may.old (at + i) (is_code_at i k)

  new_runs : (i : ℕ) → i < len → others access.Fetch (g.new 0 + at + i) ≡ true
  new_runs i k = let e : g.new 0 + at + i ≡ g.new 0 + (at + i) = omega arith in ap (others access.Fetch) e ∙ may.new (at + i) (is_code_at i k)

  -- Without a site

  code_class : (class : Class) → is_code class ≡ true → class ≡ Code
  code_class Code h = refl
  code_class Plain h = absurd cc
  code_class (Number k) h = absurd cc
  code_class (Fixed k) h = absurd cc
  code_class (Convert k cell) h = absurd cc

  code_fresh : (class : Class) → is_code class ≡ true → is_cell_among done class ≡ false
  code_fresh Code h = refl
  code_fresh Plain h = absurd cc
  code_fresh (Number k) h = absurd cc
  code_fresh (Fixed k) h = absurd cc
  code_fresh (Convert k cell) h = absurd cc

  code_byte : (i : ℕ) → i < len → piece_at laid.sites 0 (at + i) ≡ None → SameByte g 0 (at + i) s.bytes t.bytes
  code_byte i k none =
      let o = code_at i k in
      let p = o.piece in
      let f = found laid.pieces p 0 (at + i) o.is in
      let h = has p 0 (at + i) f.byte in
      let low : p.at ≤ at + i = h.low in
      let high : at + i < p.at + p.len = h.high in
      let there : p.at + (at + i - p.at) ≡ at + i = omega (arith, low) in
      let whole : SameCode g laid.sites p s.bytes t.bytes = subst (λ z. ClassHolds g laid.sites p z s.bytes t.bytes) (code_class p.class o.passes) (related.moved.pieces f.index p f.listed (code_fresh p.class o.passes)) in
      let no_site : is_sited laid.sites 0 (at + i) ≡ false = ap names_offset none in
      let not_here : is_sited laid.sites p.region (p.at + (at + i - p.at)) ≡ false = subst (λ z. is_sited laid.sites z (p.at + (at + i - p.at)) ≡ false) (sym h.region) (subst (λ z. is_sited laid.sites 0 z ≡ false) (sym there) no_site) in
      let same : SameByte g p.region (p.at + (at + i - p.at)) s.bytes t.bytes = whole (at + i - p.at) (omega (arith, low, high)) not_here in
      subst (λ z. SameByte g z (at + i) s.bytes t.bytes) h.region (subst (λ z. SameByte g p.region z s.bytes t.bytes) there same)

  clear_fetched : ((i : ℕ) → i < len → piece_at laid.sites 0 (at + i) ≡ None) → s.pc ≡ g.old 0 + at → t.pc ≡ g.new 0 + at → OneFetched g (target_at laid.sites at) at len insn (fetched s.bytes allows s.pc) (fetched t.bytes others t.pc)
  clear_fetched none e f =
      let second : DecodesAt t.bytes (g.new 0 + at) insn len = decodes_in length_is t.bytes image (g.new 0) at len insn new_end
      (λ i k. sym (code_byte i k (none i k)) ∙ related.code (at + i) (is_code_at i k)) here.means in
      let z : at + 0 ≡ at = omega arith in
      let first_none : piece_at laid.sites 0 at ≡ None = subst (λ x. piece_at laid.sites 0 x ≡ None) z (none 0 some) in
      let untargeted : target_at laid.sites at ≡ None = ap (λ p. target_of p at) first_none in
      rw (e, f) (record {
        other = insn;
        first = fetched_is s.bytes allows (g.old 0 + at) len insn old_end old_runs first_decodes;
        second = fetched_is t.bytes others (g.new 0 + at) len insn new_end new_runs second;
        site = subst (λ x. SiteHolds g x insn insn) (sym untargeted) refl;
        inside = inside;
        fits = insn_fits;
      })

  -- Under a site

  four_bytes : len ≡ 4 → DecodesAt s.bytes (g.old 0 + at) insn len → ((number_at s.bytes (g.old 0 + at) 2 % 4 == 3) ≡ true) × (decoded (number_at s.bytes (g.old 0 + at) 2) (number_at s.bytes (g.old 0 + at + 2) 2) ≡ Some (insn, 4))
  four_bytes long (four low is means) = (low, subst (λ z. decoded (number_at s.bytes (g.old 0 + at) 2) (number_at s.bytes (g.old 0 + at + 2) 2) ≡ Some (insn, z)) long means)
  four_bytes long (two low is means) = absurd (omega (arith, long, is))

  sited_fetched : insn.op ≡ ops.Lui → len ≡ 4 → (target : ℕ) → target_at laid.sites at ≡ Some target → s.pc ≡ g.old 0 + at → t.pc ≡ g.new 0 + at
      → OneFetched g (target_at laid.sites at) at len insn (fetched s.bytes allows s.pc) (fetched t.bytes others t.pc)
  sited_fetched lui long target names e f =
      let w = number_at s.bytes (g.old 0 + at) 4 in
      let u = number_at t.bytes (g.new 0 + at) 4 in
      let code : all_of is_code (piece_at laid.pieces 0) at 4 ≡ true = subst (λ z. all_of is_code (piece_at laid.pieces 0) at z ≡ true) long here.code in
      let m = related.moved.sites at target names code in
      let end : g.old 0 + at + 4 < 2 ^ 64 = let z = old_end in omega (arith, z, long) in
      let also_end : g.new 0 + at + 4 < 2 ^ 64 = let z = new_end in omega (arith, z, long) in
      let h = halves s.bytes (g.old 0 + at) related.first.bytes end in
      let k = halves t.bytes (g.new 0 + at) related.second.bytes also_end in
      let read = four_bytes long first_decodes in
      let means : decoded (w % 2 ^ 16) (w / 2 ^ 16) ≡ Some (insn, 4) =
      subst (λ z. decoded (w % 2 ^ 16) z ≡ Some (insn, 4)) (sym h.high) (subst (λ z. decoded z (number_at s.bytes (g.old 0 + at + 2) 2) ≡ Some (insn, 4)) (sym h.low) (read.1)) in
      let again : decoded (w % 2 ^ 16) (w / 2 ^ 16) ≡ Some (record insn { imm = imm_u w }, 4) = lui_is w w insn means lui refl in
      let other_means : decoded (u % 2 ^ 16) (u / 2 ^ 16) ≡ Some (record insn { imm = imm_u u }, 4) = lui_is w u insn means lui m.rest in
      let own : record insn { imm = imm_u w } ≡ insn = ap (λ z. z.0) (inner (sym again ∙ means)) in
      let own_imm : imm_u w ≡ insn.imm = ap (λ z. z.imm) own in
      let other_fits = fits (u % 2 ^ 16) (u / 2 ^ 16) (record insn { imm = imm_u u }) 4 other_means in
      let rest = m.rest in
      let low_first : number_at s.bytes (g.old 0 + at) 2 % 4 ≡ 3 = three _ (read.0) in
      let low_is = h.low in
      let low_other = k.low in
      let low : number_at t.bytes (g.new 0 + at) 2 % 4 ≡ 3 = omega (arith, rest, low_first, low_is, low_other) in
      let second_means : decoded (number_at t.bytes (g.new 0 + at) 2) (number_at t.bytes (g.new 0 + at + 2) 2) ≡ Some (record insn { imm = imm_u u }, len) =
      subst (λ z. decoded (number_at t.bytes (g.new 0 + at) 2) (number_at t.bytes (g.new 0 + at + 2) 2) ≡ Some (record insn { imm = imm_u u }, z)) (sym long)
      (subst (λ z. decoded (number_at t.bytes (g.new 0 + at) 2) z ≡ Some (record insn { imm = imm_u u }, 4)) k.high (subst (λ z. decoded z (u / 2 ^ 16) ≡ Some (record insn { imm = imm_u u }, 4)) k.low other_means)) in
      let second : DecodesAt t.bytes (g.new 0 + at) (record insn { imm = imm_u u }) len = four (is_three _ low) long second_means in
      let moves : SiteMoves g target insn (record insn { imm = imm_u u }) = record {
        is_lui = lui;
        other_is = lui;
        same_rd = refl;
        old_names = ap bits_of (sym own_imm) ∙ m.old_names;
        new_names = m.new_names;
        fits = other_fits.imm;
        rd_fits = insn_fits.names.rd;
      } in
      rw (e, f) (record {
        other = record insn { imm = imm_u u };
        first = fetched_is s.bytes allows (g.old 0 + at) len insn old_end old_runs first_decodes;
        second = fetched_is t.bytes others (g.new 0 + at) len (record insn { imm = imm_u u }) new_end new_runs second;
        site = subst (λ x. SiteHolds g x insn (record insn { imm = imm_u u })) (sym names) moves;
        inside = inside;
        fits = insn_fits;
      })
    where
      inner : {x y : Insn × ℕ} → Some x ≡ Some y → x ≡ y
      inner e = cc

      three : (n : ℕ) → (n % 4 == 3) ≡ true → n % 4 ≡ 3
      three n h = grind (arith, nat_tests)

      is_three : (n : ℕ) → n % 4 ≡ 3 → (n % 4 == 3) ≡ true
      is_three n h = grind (arith, nat_tests)

  one_fetched : s.pc ≡ plus (g.old 0) at → t.pc ≡ plus (g.new 0) at → OneFetched g (target_at laid.sites at) at len insn (fetched s.bytes allows s.pc) (fetched t.bytes others t.pc)
  one_fetched e f = by here.site
    where
      old_pc : s.pc ≡ g.old 0 + at
      old_pc = let m = old_end in omega (arith, e, m)

      new_pc : t.pc ≡ g.new 0 + at
      new_pc = let m = new_end in omega (arith, f, m)

      by : SiteAllows laid.sites at len insn → OneFetched g (target_at laid.sites at) at len insn (fetched s.bytes allows s.pc) (fetched t.bytes others t.pc)
      by (clear none) = clear_fetched none old_pc new_pc
      by (sited lui long target names) = sited_fetched lui long target names old_pc new_pc

pub fetches_alike : DecodedFits → LengthIs → LuiFieldIsImmediate → FetchesAlike
fetches_alike fits length_is lui_is g laid done image at len insn allows others s t apart is_laid may here related old new =
    one_fetched fits length_is lui_is g laid done image at len insn allows others s t apart is_laid may here related old new
