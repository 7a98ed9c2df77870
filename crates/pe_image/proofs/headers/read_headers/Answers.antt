use Rattle.std.proofs.Common.{ℕ, sym}
use Rattle.std.proofs.lemmas.Result.{err_from_is_err_and}
use Rattle.pe_image.proofs.HeaderLemmas.{optional_fails, directory_fails, table_fails, headers_read, headers_are}
use Rattle.pe_image.proofs.headers.read_headers.Goals as goal

pub returns-in_err-optional-clause-read : goal.returns-in_err-optional-clause-read
returns-in_err-optional-clause-read c =
    let p = err_from_is_err_and c.from_residual-in_err-optional.result c.from_residual-in_err-optional.ensures.1 in
    rw (p.1, p.2) (sym (optional_fails c.args.bytes.now _ _ (sym c.in_ok-signature.ensures.read) _ (sym c.in_ok-coff.ensures) _ (sym c.in_err-optional.ensures.read)))

pub returns-in_err-relocations-clause-read : goal.returns-in_err-relocations-clause-read
returns-in_err-relocations-clause-read c =
    let p = err_from_is_err_and c.from_residual-in_err-relocations.result c.from_residual-in_err-relocations.ensures.1 in
    rw (p.1, p.2) (sym (directory_fails c.args.bytes.now _ _ (sym c.in_ok-signature.ensures.read) _ (sym c.in_ok-coff.ensures) _ (sym c.in_ok-optional.ensures.read) _ (sym c.in_err-relocations.ensures)))

pub returns-in_err-find_table-clause-read : goal.returns-in_err-find_table-clause-read
returns-in_err-find_table-clause-read c =
    let p = err_from_is_err_and c.from_residual-in_err-find_table.result c.from_residual-in_err-find_table.ensures.1 in
    rw (p.1, p.2) (sym (table_fails c.args.bytes.now _ _ (sym c.in_ok-signature.ensures.read) _ (sym c.in_ok-coff.ensures) _ (sym c.in_ok-optional.ensures.read) _ (sym c.in_ok-relocations.ensures) _ _ (sym c.in_err-find_table.ensures.found)))

pub returns-clause-read : goal.returns-clause-read
returns-clause-read c =
    rw (headers_are {X = ℕ} c.args.bytes.now 0 _ (sym c.in_ok-signature.ensures.read) _ (sym c.in_ok-coff.ensures) _ (sym c.in_ok-optional.ensures.read) _ (sym c.in_ok-relocations.ensures))
    (sym (headers_read c.args.bytes.now _ _ (sym c.in_ok-signature.ensures.read) _ (sym c.in_ok-coff.ensures) _ (sym c.in_ok-optional.ensures.read) _ (sym c.in_ok-relocations.ensures) _ _ (sym c.in_ok-find_table.ensures.found)))
