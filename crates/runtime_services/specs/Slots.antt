-- The runtime services by their slots.
use Rattle.std.specs.Prelude.{ℕ, ◌==◌, Option, Some, None, if◌then◌else◌}
use Rattle.runtime_services.specs.declared.service.RuntimeService.{RuntimeService}
use Rattle.runtime_services.specs.declared.service.RuntimeService.TheVariants.{GetNextMonotonicCount, GetTime, SetTime, GetWakeupTime, SetWakeupTime, GetVariable, GetNextVariableName, SetVariable, GetNextHighMonotonicCount, UpdateCapsule, QueryCapsuleCapabilities, QueryVariableInfo}

-- the service of a slot
unfoldable pub service_of : ℕ → Option RuntimeService
service_of slot =
    if slot == 27 then Some GetNextMonotonicCount
    else if slot == 44 then Some GetTime
    else if slot == 45 then Some SetTime
    else if slot == 46 then Some GetWakeupTime
    else if slot == 47 then Some SetWakeupTime
    else if slot == 50 then Some GetVariable
    else if slot == 51 then Some GetNextVariableName
    else if slot == 52 then Some SetVariable
    else if slot == 53 then Some GetNextHighMonotonicCount
    else if slot == 55 then Some UpdateCapsule
    else if slot == 56 then Some QueryCapsuleCapabilities
    else if slot == 57 then Some QueryVariableInfo
    else None
