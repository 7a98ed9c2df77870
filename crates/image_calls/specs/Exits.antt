-- Exit (UEFI 2.10, section 7.4.5), where `x` are the registers of the call.
use Rattle.std.specs.Prelude.{ℕ, ◌==◌, not, Bool, false, List, Option, Some, None, if◌then◌else◌}
use Rattle.guest_call.specs.Arguments.{argument}
use Rattle.image_services.specs.Images.{Loaded, find_image}
use Rattle.image_calls.specs.declared.exit.ExitStep.{ExitStep}
use Rattle.image_calls.specs.declared.exit.ExitStep.TheVariants.{Refused, Unloads, Ends}

-- the image that runs is that of the top frame, if that is an image's
abbrev pub is_top : Option ℕ → ℕ → Bool
is_top None handle = false
is_top (Some running) handle = running == handle

abbrev pub exit_by : List ℕ → Option ℕ → Option Loaded → ExitStep
exit_by x top None = Refused
exit_by x top (Some image) =
    if not image.started then Unloads image.handle
    else (if is_top top image.handle then Ends (argument 1 x) (argument 2 x) (argument 3 x) else Refused)

-- Exit(image, status, size, data): an image that wasn't started is unloaded, and a started one ends where it is the one
-- that runs.
unfoldable pub exit_asked : List ℕ → List Loaded → Option ℕ → ExitStep
exit_asked x images top = exit_by x top (find_image images (argument 0 x))
