use Rattle.uac_units.proofs.RenderingLemmas.{selector-in_a_row, feature-in_a_row, effect-in_a_row}
use Rattle.uac_units.proofs.laws.pins_are_the_sources.Goals as goal

pub returns-clause-selector : goal.returns-clause-selector
returns-clause-selector c = selector-in_a_row

pub returns-clause-feature : goal.returns-clause-feature
returns-clause-feature c = feature-in_a_row

pub returns-clause-effect : goal.returns-clause-effect
returns-clause-effect c = effect-in_a_row
