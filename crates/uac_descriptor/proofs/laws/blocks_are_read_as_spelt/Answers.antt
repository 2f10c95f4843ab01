use Rattle.uac_descriptor.proofs.LawsLemmas.{spelt_is_read, read_is_spelt}
use Rattle.uac_descriptor.proofs.laws.blocks_are_read_as_spelt.Goals as goal

pub returns-clause-spelt_is_read : goal.returns-clause-spelt_is_read
returns-clause-spelt_is_read c = spelt_is_read

pub returns-clause-read_is_spelt : goal.returns-clause-read_is_spelt
returns-clause-read_is_spelt c = read_is_spelt
