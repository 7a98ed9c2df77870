-- The program's table of services is the definition's.
use Rattle.std.proofs.Common.{◌≡◌, map, refl}
use Rattle.record_text.specs.Services.{service_names}
use Rattle.record_text.specs.declared.service.TheConstants.{SERVICES}

pub names_are : map (λ name. name.now) SERVICES ≡ service_names
unfolding service_names
names_are = refl
