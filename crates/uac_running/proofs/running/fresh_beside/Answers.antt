use Rattle.std.proofs.Common.{◌∙◌, ap, List, map}
use Rattle.std.specs.List.{filter}
use Rattle.uac_entities.specs.declared.entity.Entity.{Entity}
use Rattle.uac_device.specs.DeviceWorld.{is_input_jack}
use Rattle.uac_running.specs.RunningWorld.{silent_jack}
use Rattle.uac_running.specs.TickCounts.{none_counted}
use Rattle.uac_running.proofs.running.fresh_beside.Goals as goal

pub returns-clause-jacks : goal.returns-clause-jacks
returns-clause-jacks c = c.in_ok-jacks.ensures ∙ ap (λ (es : List Entity). map silent_jack (filter is_input_jack es)) c.entities.ensures

pub returns-clause-counts : goal.returns-clause-counts
returns-clause-counts c = c.in_ok-counts.ensures ∙ ap (map none_counted) c.domains.ensures
