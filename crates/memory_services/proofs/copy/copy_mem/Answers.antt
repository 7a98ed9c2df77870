use Rattle.std.proofs.Common.{◌≡◌, ℕ, true, length, sym, subst, ap, ◌∙◌}
use Rattle.rv_step.specs.declared.bus.Access.TheVariants.{Store}
use Rattle.guest_memory.specs.Pages.{rights_at}
use Rattle.address_view.specs.Windows.{see}
use Rattle.address_view.specs.Seen.{all_pass, view_allows}
use Rattle.memory_services.proofs.CopyLemmas.{as_many}
use Rattle.memory_services.proofs.copy.copy_mem.Goals as goal

pub write_bytes-requires : goal.write_bytes-requires
write_bytes-requires c =
    let many : length c.as_slice.result.now ≡ c.argument-size.result = ap length c.as_slice.ensures.value ∙ ap length c.in_ok-bytes.ensures ∙ as_many _ _ _ in
    subst (λ (n : ℕ). all_pass (view_allows (see c.args.view.now) (rights_at c.args.memory.now) Store) c.argument-to.result n ≡ true) (sym many) (sym c.if-not-allowed-2.ensures)
