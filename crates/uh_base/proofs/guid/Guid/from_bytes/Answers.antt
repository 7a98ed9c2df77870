use Rattle.uh_base.proofs.GuidLemmas.{back, value}
use Rattle.uh_base.proofs.guid.Guid.from_bytes.Goals as goal

pub returns-clause-value : goal.returns-clause-value
returns-clause-value c =
    value c.args.bytes.now c.told-bytes _ _ _ _
    c.from_le_bytes.ensures c.from_le_bytes-2.ensures c.from_le_bytes-3.ensures c.from_be_bytes.ensures

pub returns-clause-back : goal.returns-clause-back
returns-clause-back c =
    back c.args.bytes.now c.told-bytes c.fits-bytes _ _ _ _
    c.from_le_bytes.ensures c.from_le_bytes-2.ensures c.from_le_bytes-3.ensures c.from_be_bytes.ensures
