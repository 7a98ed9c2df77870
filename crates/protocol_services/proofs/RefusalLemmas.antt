-- Refusals that aren't want of memory.
use Rattle.std.proofs.Common.{◌≡◌, ◌≢◌, ℕ, refl, sym, ap, ◌∙◌}
use Rattle.std.specs.Prelude.{List, Option, Result, Ok, Err, IfOk}
use Rattle.guest_memory.specs.Pages.{Pages}
use Rattle.service_answer.specs.Answers.{Answer}
use Rattle.protocol_db.specs.declared.request.OpenRequest.{OpenRequest}
use Rattle.protocol_services.specs.Outputs.{ProtocolDone}
use Rattle.protocol_services.specs.Opening.{not_opened, opened}
use Rattle.handle_db.specs.declared.entry.OpenEntry.{OpenEntry}
use Rattle.protocol_db.specs.Registrations.{Protocols}
use Rattle.protocol_db.specs.Calls.{Done, Gives, Refuses}
use Rattle.protocol_db.specs.declared.refusal.ProtocolRefusal.{ProtocolRefusal}
use Rattle.protocol_db.specs.declared.refusal.ProtocolRefusal.TheVariants.{Invalid, NotFound, Unsupported, AccessDenied, AlreadyStarted, Full, Memory}

pub refused : {A : Type 0} (refusal : ProtocolRefusal) (wanted : Result (Done A) ProtocolRefusal) (old new : Protocols) → refusal ≢ Memory → Gives {A = A} (Err refusal) wanted old new → (wanted ≡ Err refusal) × (new ≡ old)
refused Invalid wanted old new o g = g
refused NotFound wanted old new o g = g
refused Unsupported wanted old new o g = g
refused AccessDenied wanted old new o g = g
refused AlreadyStarted wanted old new o g = g
refused Full wanted old new o g = g
refused Memory wanted old new o g = absurd (o refl)

pub asked_refused : (refusal : ProtocolRefusal) (wanted : Result (List OpenEntry) ProtocolRefusal) → refusal ≢ Memory → Refuses refusal wanted → wanted ≡ Err refusal
asked_refused Invalid wanted o g = g
asked_refused NotFound wanted o g = g
asked_refused Unsupported wanted o g = g
asked_refused AccessDenied wanted o g = g
asked_refused AlreadyStarted wanted o g = g
asked_refused Full wanted o g = g
asked_refused Memory wanted o g = absurd (o refl)

-- an open that is refused, where that isn't want of memory
pub open_refused : {E : Type 0} (r : Result Answer E) (see : ℕ → Option ℕ) (m new : Pages) (at : ℕ) (request : OpenRequest) (p q : Protocols) (wanted : Result (Done ℕ) ProtocolRefusal) (refusal : ProtocolRefusal)
    → IfOk r (λ answer. refusal ≢ Memory) → Gives {A = ℕ} (Err refusal) wanted p q
    → ((s : Protocols) → IfOk r (λ answer. ◌≡◌ {A = ProtocolDone} (record { answer = answer; memory = new; protocols = s }) (not_opened see m s at request refusal)))
    → IfOk r (λ answer. ◌≡◌ {A = ProtocolDone} (record { answer = answer; memory = new; protocols = q }) (opened see m p at request wanted))
open_refused (Ok answer) see m new at request p q wanted refusal other gives is =
    let f = refused {A = ℕ} refusal wanted p q other gives in
    ap (λ (s : Protocols). record { answer = answer; memory = new; protocols = s }) f.1 ∙ is p ∙ ap (opened see m p at request) (sym f.0)
open_refused (Err end) see m new at request p q wanted refusal other gives is = tt
