use Rattle.std.proofs.Common.{◌≡◌, Some, None, refl, sym}
use Rattle.std.specs.List.{position}
use Rattle.uh_base.proofs.FileLemmas.{has_name, replaced, appended, found, missed}
use Rattle.uh_base.proofs.mem_files.MemFiles.add.Goals as goal

pub returns-in-Some-clause-ok : goal.returns-in-Some-clause-ok
returns-in-Some-clause-ok c =
    let at : position (has_name c.args.name.now) c.self.inside.entries.items ≡ Some c.in-Some.place = sym (rw c.as_slice.ensures.value at c.in-Some.ensures) in
    let h = found _ _ _ at in
    rw (c.in_ok-new.ensures, c.in_ok-new-2.ensures, ← c.self.view_is) (record { file = λ asked. replaced _ _ _ _ asked h.0 h.1; others = refl })

pub returns-in_ok-push-in-None-clause-ok : goal.returns-in_ok-push-in-None-clause-ok
returns-in_ok-push-in-None-clause-ok c =
    let at : position (has_name c.args.name.now) c.self.inside.entries.items ≡ None = sym (rw c.as_slice.ensures.value at c.in-None.ensures) in
    let h = missed _ _ at in
    rw (c.in_ok-push-in-None.ensures.items, c.in_ok-new.ensures, c.in_ok-new-2.ensures, ← c.self.view_is) (record { file = λ asked. appended _ _ _ asked h; others = refl })
