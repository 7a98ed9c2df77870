-- UpdateCapsule and QueryCapsuleCapabilities (UEFI 2.10, section 8.5), where `x` are the registers of the call. No capsule
-- is taken.
use Rattle.std.specs.Prelude.{ℕ, ◌==◌, List, if◌then◌else◌}
use Rattle.uh_base.specs.Statuses.{invalid_parameter, unsupported}
use Rattle.guest_call.specs.Arguments.{argument}

-- UpdateCapsule(array, count)
unfoldable pub update_capsule : List ℕ → ℕ
update_capsule x = if argument 1 x == 0 then invalid_parameter else unsupported

-- QueryCapsuleCapabilities
abbrev pub query_capsule_capabilities : ℕ
query_capsule_capabilities = unsupported
