use Rattle.std.proofs.Common.{◌≡◌, ap, ◌∙◌}
use Rattle.variable_store.specs.Entries.{Entry}
use Rattle.runtime_services.proofs.get.tell_variable.Goals as goal

pub returns-clause-ok : goal.returns-clause-ok
returns-clause-ok c =
    let bytes : c.as_slice-bytes.result.now ≡ c.args.variable.now.data = c.as_slice-bytes.ensures.value ∙ ap (λ (entry : Entry). entry.data) c.variable.view_is in
    rw (c.attribute_bytes-attributes.ensures, c.size_bytes-size.ensures, bytes) at c.in_ok-served.ensures.ok
