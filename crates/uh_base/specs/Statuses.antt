-- The statuses of services (UEFI 2.10, appendix D). An error has bit 63; a warning hasn't.
use Rattle.std.specs.Prelude.{ℕ}

abbrev pub success : ℕ
success = 0

-- a warning: a character of a text couldn't be printed
abbrev pub warn_unknown_glyph : ℕ
warn_unknown_glyph = 1

abbrev pub load_error : ℕ
load_error = 0x8000000000000001

abbrev pub invalid_parameter : ℕ
invalid_parameter = 0x8000000000000002

abbrev pub unsupported : ℕ
unsupported = 0x8000000000000003

abbrev pub buffer_too_small : ℕ
buffer_too_small = 0x8000000000000005

abbrev pub not_ready : ℕ
not_ready = 0x8000000000000006

abbrev pub device_error : ℕ
device_error = 0x8000000000000007

abbrev pub write_protected : ℕ
write_protected = 0x8000000000000008

abbrev pub out_of_resources : ℕ
out_of_resources = 0x8000000000000009

abbrev pub not_found : ℕ
not_found = 0x800000000000000e

abbrev pub access_denied : ℕ
access_denied = 0x800000000000000f

abbrev pub no_mapping : ℕ
no_mapping = 0x8000000000000011

abbrev pub not_started : ℕ
not_started = 0x8000000000000013

abbrev pub already_started : ℕ
already_started = 0x8000000000000014

abbrev pub aborted : ℕ
aborted = 0x8000000000000015

abbrev pub security_violation : ℕ
security_violation = 0x800000000000001a
