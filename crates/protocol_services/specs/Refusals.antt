-- The statuses of refusals (UEFI 2.10, section 7.3 and appendix D).
use Rattle.std.specs.Prelude.{ℕ}
use Rattle.uh_base.specs.Statuses.{invalid_parameter, unsupported, not_found, access_denied, already_started, out_of_resources}
use Rattle.protocol_db.specs.declared.refusal.ProtocolRefusal.{ProtocolRefusal}
use Rattle.protocol_db.specs.declared.refusal.ProtocolRefusal.TheVariants as refusals

-- the status of a refusal
abbrev pub protocol_status : ProtocolRefusal → ℕ
protocol_status refusals.Invalid = invalid_parameter
protocol_status refusals.NotFound = not_found
protocol_status refusals.Unsupported = unsupported
protocol_status refusals.AccessDenied = access_denied
protocol_status refusals.AlreadyStarted = already_started
protocol_status refusals.Full = out_of_resources
protocol_status refusals.Memory = out_of_resources
