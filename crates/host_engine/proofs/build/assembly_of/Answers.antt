use Rattle.std.proofs.Common.{◌≡◌, List, ℕ, Err, refl, sym, inl, inr}
use Rattle.std.proofs.lemmas.Bool.{cases_Bool}
use Rattle.std.proofs.lemmas.Str.{IsUtf8-from_is_utf8, is_utf8-from_IsUtf8}
use Rattle.std.specs.Str.{is_utf8, IsUtf8}
use Rattle.guest_build.specs.Assembled.{assembled}
use Rattle.guest_build.specs.declared.fault.AsmKind.TheVariants.{Word}
use Rattle.host_engine.specs.Assemblies.{assembled_file}
use Rattle.host_engine.proofs.build.assembly_of.Goals as goal

is_text : (file text : List ℕ) → text ≡ file → IsUtf8 file → assembled text ≡ assembled_file file
is_text file text same utf8 = rw (is_utf8-from_IsUtf8 file utf8, same) refl

no_text : (file : List ℕ) → (IsUtf8 file → ⊥) → Err (0, Word) ≡ assembled_file file
no_text file h =
    elim (cases_Bool (is_utf8 file)) [
      | inl good ↦ absurd (h (IsUtf8-from_is_utf8 file good))
      | inr bad ↦ rw bad refl
    ]

pub returns-in-Ok : goal.returns-in-Ok
returns-in-Ok c = rw (sym (is_text c.args.file.now c.in-Ok.text.now c.in-Ok.ensures.cases.0 c.in-Ok.ensures.cases.1)) c.assembly.ensures.gives

pub returns-in-Err : goal.returns-in-Err
returns-in-Err c = rw (sym (no_text c.args.file.now c.in-Err.ensures.cases.0)) c.refused.ensures
