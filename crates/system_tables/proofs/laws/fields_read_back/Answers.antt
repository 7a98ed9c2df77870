use Rattle.system_tables.proofs.ReadLemmas.{fields_back, numbers_back, others_stay, crc_alone}
use Rattle.system_tables.proofs.laws.fields_read_back.Goals as goal

pub returns-clause-fields : goal.returns-clause-fields
returns-clause-fields c = fields_back

pub returns-clause-numbers : goal.returns-clause-numbers
returns-clause-numbers c = numbers_back

pub returns-clause-others : goal.returns-clause-others
returns-clause-others c = others_stay

pub returns-clause-crcs : goal.returns-clause-crcs
returns-clause-crcs c = crc_alone
