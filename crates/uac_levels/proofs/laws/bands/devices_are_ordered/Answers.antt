use Rattle.uac_levels.proofs.ProjectionLemmas.{deviations_keep_order, requests_keep_order, starts_are_ordered, transfers_keep_order}
use Rattle.uac_levels.proofs.laws.bands.devices_are_ordered.Goals as goal

pub returns-clause-start : goal.returns-clause-start
returns-clause-start c = starts_are_ordered

pub returns-clause-deviation : goal.returns-clause-deviation
returns-clause-deviation c = deviations_keep_order

pub returns-clause-request : goal.returns-clause-request
returns-clause-request c = requests_keep_order

pub returns-clause-transfer : goal.returns-clause-transfer
returns-clause-transfer c = transfers_keep_order
