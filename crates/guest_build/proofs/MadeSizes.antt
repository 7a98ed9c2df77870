-- How long the bytes of a statement are, and its site in them.
use Rattle.std.proofs.Common.{◌≡◌, ◌⊎◌, inl, inr, ℕ, ◌+◌, ◌*◌, ◌%◌, ◌^◌, Bool, true, false, ◌&&◌, List, [], ◌∷◌, ◌++◌, length, replicate, Option, Result, Ok, Err, refl, sym, ap, ◌∙◌, length-append, arith}
use Rattle.std.proofs.lemmas.Bool.{cases_Bool}
use Rattle.std.proofs.lemmas.List.{length-replicate}
use Rattle.uh_base.specs.Guid.{bytes_of}
use Rattle.uh_base.specs.LittleEndian.{low_bytes}
use Rattle.uh_base.specs.declared.guid.Guid.{Guid}
use Rattle.rv_decode.specs.Encoded.{encoded}
use Rattle.rv_decode.specs.Fits.{fits}
use Rattle.rv_decode.specs.declared.insn.Insn.{Insn}
use Rattle.rv_decode.specs.declared.insn.Op.{Op}
use Rattle.base_reloc.specs.Sites.{width_of}
use Rattle.guest_build.specs.Codes.{offset_of, if_fits, imm_of, with_imm, word_bytes, upper_insn, lower_insn, pair_bytes, li_bytes, wrapped_distance, is_near, la_bytes, is_width, number_bytes, zero_bytes, units, bytes_at}
use Rattle.uh_base.specs.Answers.{◌>>=◌}
use Rattle.guest_build.specs.Layout.{site_at}
use Rattle.guest_build.specs.Numbers.{wrapped, is_between, is_signed, is_data}
use Rattle.guest_build.specs.Places.{most, sum, is_base, is_subsystem, is_alignment, zeros_in, size_of, is_moved}
use Rattle.guest_build.specs.Read.{kind_read}
use Rattle.guest_build.specs.declared.fault.AsmKind.{AsmKind}
use Rattle.guest_build.specs.declared.number.Number.{Number}
use Rattle.guest_build.specs.declared.places.Origins.{Origins}
use Rattle.guest_build.specs.declared.places.Place.{Place}
use Rattle.guest_build.specs.declared.relocation.SiteKind.{SiteKind}
use Rattle.guest_build.specs.declared.relocation.SiteKind.TheVariants as kinds
use Rattle.guest_build.specs.declared.statement.Operand.{Operand}
use Rattle.guest_build.specs.declared.statement.Operand.TheVariants as operands
use Rattle.guest_build.specs.declared.statement.Statement.{Statement}
use Rattle.guest_build.specs.declared.statement.Statement.TheVariants as statements
use Rattle.guest_build.proofs.LowLemmas.{length-low_bytes}

-- ---- what goes well, step by step

pub steps : {A B : Type 0} (r : Result A AsmKind) (f : A → Result B AsmKind) (y : B) → (r >>= f) ≡ Ok y → (x : A) × (r ≡ Ok x) × (f x ≡ Ok y)
steps (Ok x) f y h = (x, refl, h)
steps (Err kind) f y h = absurd cc

pub fitted : {A : Type 0} (good : Bool) (x y : A) → if_fits good x ≡ Ok y → (good ≡ true) × (x ≡ y)
fitted true x y h = (refl, cc)
fitted false x y h = absurd cc

-- ---- how long the bytes are

word_long : (i : Insn) (bytes : List ℕ) → word_bytes i ≡ Ok bytes → length bytes ≡ 4
unfolding word_bytes
word_long i bytes h = ap length (sym (fitted (fits i) (low_bytes 4 (encoded i)) bytes h).1) ∙ length-low_bytes 4 (encoded i)

pair_long : (first second : Op) (rd n : ℕ) (bytes : List ℕ) → pair_bytes first second rd n ≡ Ok bytes → length bytes ≡ 8
unfolding pair_bytes
pair_long first second rd n bytes h =
    let one = steps (word_bytes (upper_insn first rd n)) (λ one. word_bytes (lower_insn second rd n) >>= λ other. Ok (one ++ other)) bytes h in
    let other = steps (word_bytes (lower_insn second rd n)) (λ other. Ok (one.0 ++ other)) bytes one.2 in
    let is : one.0 ++ other.0 ≡ bytes = (let e = other.2 in cc) in
    omega (arith, ap length is, length-append one.0 other.0, word_long _ one.0 one.1, word_long _ other.0 other.1)

li_long : (rd : ℕ) (n : Number) (bytes : List ℕ) → li_bytes rd n ≡ Ok bytes → size_of (statements.LoadImmediate rd n) ≡ length bytes
unfolding li_bytes size_of
li_long rd n bytes h =
    elim (cases_Bool (is_signed 12 n)) [
      | inl small ↦ (let e = rw small at h in rw small (sym (word_long _ bytes e)))
      | inr large ↦ (let e = rw large at h in rw large (sym (elim (cases_Bool (is_signed 32 n)) [
        | inl good ↦ (let f = rw good at e in pair_long _ _ _ _ bytes f)
        | inr bad ↦ (let f = rw bad at e in absurd cc)
      ])))
    ]

la_long : (rd from to : ℕ) (bytes : List ℕ) → la_bytes rd from to ≡ Ok bytes → length bytes ≡ 8
unfolding la_bytes
la_long rd from to bytes h =
    elim (cases_Bool (is_near (wrapped_distance from to))) [
      | inl good ↦ (let e = rw good at h in pair_long _ _ _ _ bytes e)
      | inr bad ↦ (let e = rw bad at h in absurd cc)
    ]

zero_long : (n : Number) (bytes : List ℕ) → zero_bytes n ≡ Ok bytes → zeros_in n ≡ length bytes
unfolding zero_bytes
zero_long n bytes h =
    let e = fitted (is_between 0 most n) (replicate n.size 0) bytes h in
    rw e.0 (sym (length-replicate n.size 0) ∙ ap length e.1)

units_long : (text : List ℕ) → length (units text) ≡ 2 * length text + 2
unfolding low_bytes
units_long [] = refl
units_long (b ∷ text) = omega (arith, units_long text)

guid_long : (id : Guid) → length (bytes_of id) ≡ 16
unfolding bytes_of
guid_long id = refl

number_long : (width : ℕ) (n : Number) (bytes : List ℕ) → number_bytes width n ≡ Ok bytes → width ≡ length bytes
unfolding number_bytes
number_long width n bytes h = sym (length-low_bytes width (wrapped n)) ∙ ap length (fitted (is_width width && is_data (8 * width) n) (low_bytes width (wrapped n)) bytes h).1

-- what is made of a value that is found first
made_long : {X : Type 0} (found : Result X AsmKind) (f : X → Result (List ℕ) AsmKind) (n : ℕ) → ((x : X) (bytes : List ℕ) → f x ≡ Ok bytes → length bytes ≡ n)
    → (bytes : List ℕ) → (found >>= f) ≡ Ok bytes → length bytes ≡ n
made_long found f n long bytes h = let e = steps found f bytes h in long e.0 bytes e.2

-- where a line stands
module _ (origins : Origins) (find : List ℕ → Option Place) (here : ℕ) where
  address_long : (target bytes : List ℕ) → bytes_at origins find here (statements.Address target) ≡ Ok bytes → length bytes ≡ 8
  unfolding bytes_at
  address_long target = made_long (offset_of origins (find target)) (λ there. Ok (low_bytes 8 (sum origins.base there))) 8
      (λ there bytes h. (let e : low_bytes 8 (sum origins.base there) ≡ bytes = cc in sym (ap length e) ∙ length-low_bytes 8 (sum origins.base there)))

  instruction_long : (i : Insn) (operand : Operand) (bytes : List ℕ) → bytes_at origins find here (statements.Instruction i operand) ≡ Ok bytes → length bytes ≡ 4
  unfolding bytes_at
  instruction_long i operand = made_long (imm_of origins find here operand) (λ imm. word_bytes (with_imm i imm)) 4 (λ imm. word_long (with_imm i imm))

  pub size_is : (statement : Statement) (bytes : List ℕ) → bytes_at origins find here statement ≡ Ok bytes → size_of statement % 2 ^ 64 ≡ length bytes % 2 ^ 64
  unfolding bytes_at size_of
  size_is statements.Empty bytes h = let e : [] ≡ bytes = cc in ap (λ n. length n % 2 ^ 64) e
  size_is (statements.Fault kind) bytes h = absurd cc
  size_is statements.Text bytes h = let e : [] ≡ bytes = cc in ap (λ n. length n % 2 ^ 64) e
  size_is statements.Data bytes h = let e : [] ≡ bytes = cc in ap (λ n. length n % 2 ^ 64) e
  size_is (statements.Base n) bytes h = ap (λ n. length n % 2 ^ 64) (fitted (is_base n) [] bytes h).1
  size_is (statements.Subsystem n) bytes h = ap (λ n. length n % 2 ^ 64) (fitted (is_subsystem n) [] bytes h).1
  size_is (statements.Alignment n) bytes h = ap (λ n. length n % 2 ^ 64) (fitted (is_alignment n) [] bytes h).1
  size_is (statements.Number width n) bytes h = ap (λ n. n % 2 ^ 64) (number_long width n bytes h)
  size_is (statements.Address target) bytes h = ap (λ n. n % 2 ^ 64) (sym (address_long target bytes h))
  size_is (statements.Zero n) bytes h = ap (λ n. n % 2 ^ 64) (zero_long n bytes h)
  size_is (statements.Ascii16 text) bytes h = let e : units text ≡ bytes = cc in omega (arith, units_long text, ap length e)
  size_is (statements.Guid id) bytes h = let e : bytes_of id ≡ bytes = cc in omega (arith, guid_long id, ap length e)
  size_is (statements.Instruction i operand) bytes h = ap (λ n. n % 2 ^ 64) (sym (instruction_long i operand bytes h))
  size_is (statements.LoadImmediate rd n) bytes h = ap (λ n. n % 2 ^ 64) (li_long rd n bytes h)
  size_is (statements.LoadAddress rd target) bytes h = ap (λ n. n % 2 ^ 64) (sym (made_long (offset_of origins (find target)) (la_bytes rd here) 8 (la_long rd here) bytes h))

  -- ---- its site

  -- a statement has no site, or one that has all its bytes
  pub site_is : (at : ℕ) (statement : Statement) (bytes : List ℕ) → bytes_at origins find here statement ≡ Ok bytes
      → (is_moved statement ≡ false) × (site_at at statement ≡ []) ⊎ (is_moved statement ≡ true) × ((kind : SiteKind) × (site_at at statement ≡ record { at = at; kind = kind } ∷ []) × (width_of (kind_read kind) ≡ length bytes))
  unfolding is_moved
  site_is at (statements.Address target) bytes h = inr (refl, (kinds.Dir64, refl, sym (address_long target bytes h)))
  site_is at (statements.Instruction i (operands.High target)) bytes h = inr (refl, (kinds.High20, refl, sym (instruction_long i (operands.High target) bytes h)))
  site_is at statement bytes h = inl (refl, refl)
