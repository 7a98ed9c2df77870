use Rattle.std.proofs.Common.{◌≡◌, List, ℕ, Some, None, Err, refl, inl, inr, rules}
use Rattle.std.proofs.lemmas.Bool.{cases_Bool}
use Rattle.std.proofs.lemmas.Str.{IsUtf8-from_is_utf8, is_utf8-from_IsUtf8}
use Rattle.std.specs.Str.{is_utf8, IsUtf8}
use Rattle.toml.specs.Data.{Members}
use Rattle.toml.specs.Parse.{parse_document}
use Rattle.prov_cert.specs.declared.fault.Part.TheVariants as parts
use Rattle.prov_cert.specs.Reading.{cert_in, lists_of, of_lists}
use Rattle.prov_cert.proofs.reading.read_cert.Goals as goal

found : (bytes : List ℕ) (ms : Members) → IsUtf8 bytes → parse_document bytes ≡ Some ms → cert_in bytes ≡ of_lists (lists_of ms)
unfolding cert_in
found bytes ms text is = rw (is_utf8-from_IsUtf8 bytes text, is) refl

refused : (bytes : List ℕ) → (IsUtf8 bytes → parse_document bytes ≡ None) → cert_in bytes ≡ Err (parts.Text, 0)
unfolding cert_in
refused bytes h =
    elim (cases_Bool (is_utf8 bytes)) [
      | inl good ↦ rw (good, h (IsUtf8-from_is_utf8 bytes good)) refl
      | inr bad ↦ rw bad refl
    ]

pub returns-in-Ok : goal.returns-in-Ok
returns-in-Ok c = rw (found c.args.bytes.now _ c.in-Ok.ensures.ok.0 c.in-Ok.ensures.ok.1) c.of_document.ensures

pub returns-else-is_memory : goal.returns-else-is_memory
returns-else-is_memory c = refused c.args.bytes.now (c.in-Err.ensures.refused (search (rules, c.is_memory.ensures)))
