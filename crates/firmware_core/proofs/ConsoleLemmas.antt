-- The handle of the console.
use Rattle.std.proofs.Common.{◌≡◌, ◌+◌, [], None, Result, Ok, Err, sym, ap, ◌∙◌}
use Rattle.page_alloc.specs.declared.layout.Layout.{Layout}
use Rattle.handle_db.specs.Calls.{installation as handle_installation}
use Rattle.protocol_db.specs.declared.refusal.ProtocolRefusal.{ProtocolRefusal}
use Rattle.protocol_db.specs.Registrations.{Protocols, all_notified}
use Rattle.protocol_db.specs.Calls.{Done, Installation, installation}
use Rattle.firmware_core.specs.Opening.{text_output_protocol, with_console}

abbrev pub none_yet : Protocols
none_yet = record { handles = record { live = []; made = 0 }; registrations = []; made = 0 }

abbrev pub behind : Protocols → Result (Done Installation) ProtocolRefusal → Protocols
behind p (Ok done) = done.after
behind p (Err refusal) = p

-- The first install is the console's.
pub console_alone : (layout : Layout) (p new : Protocols) (answer : Installation) → p ≡ none_yet
    → installation p None text_output_protocol (layout.boot + 0x200) ≡ Ok (record { answer = answer; after = new }) → new ≡ with_console layout
unfolding installation handle_installation all_notified
console_alone layout p new answer e h =
    sym (ap (behind p) h) ∙ ap (λ (q : Protocols). behind p (installation q None text_output_protocol (layout.boot + 0x200))) e
