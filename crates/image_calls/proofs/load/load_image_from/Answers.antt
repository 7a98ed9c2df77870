use Rattle.std.proofs.Common.{◌∙◌, ◌≤◌}
use Rattle.guest_memory.specs.Pages.{bytes_of}
use Rattle.address_view.specs.Windows.{see, seen_bytes}
use Rattle.image_calls.specs.Loading.{most_bytes}
use Rattle.image_calls.proofs.ShownLemmas.{few_bytes}
use Rattle.image_calls.proofs.load.load_image_from.Goals as goal

pub load_and_tell-requires-clause-file : goal.load_and_tell-requires-clause-file
load_and_tell-requires-clause-file c =
    let few : c.argument-size.result ≤ most_bytes = rw c.argument-size.ensures c.in-None.ensures.few in
    few_bytes (seen_bytes (see c.args.view.now) (bytes_of c.args.memory.now)) c.argument-source.result c.argument-size.result most_bytes c.as_slice.result.now (c.as_slice.ensures.value ∙ c.in_ok-file-in-None.ensures) few
