use Rattle.std.proofs.Common.{◌≡◌, ◌∙◌, ap, get_or, subst, sym, List}
use Rattle.uac_entities.specs.declared.entity.Entity.{Entity}
use Rattle.uac_graph.specs.Meaning.{entity}
use Rattle.uac_device.specs.DeviceWorld.{is_output_jack}
use Rattle.uac_device.specs.DeviceKept.{DeviceFields}
use Rattle.uac_device.proofs.DeviceWorldLemmas.{entity_found, jack_nowhere}
use Rattle.uac_device.proofs.device.Device.plays.Goals as goal

pub returns-in-Some : goal.returns-in-Some
returns-in-Some c =
    c.is_output_jack.ensures
    ∙ ap is_output_jack
    (entity_found c.self.inside.function.entities c.args.id c.in-Some.index c.index-entities-index.result (sym c.find.ensures.value ∙ c.in-Some.is)
    (subst (λ (entities : List Entity). c.index-entities-index.result ≡ get_or entities c.in-Some.index c.index-entities-index.result) c.entities.ensures c.index-entities-index.is))
    ∙ ap (λ (device : DeviceFields). is_output_jack (entity device.function.entities c.args.id)) c.self.view_is

pub returns-in-None : goal.returns-in-None
returns-in-None c =
    jack_nowhere c.self.inside.function.entities c.args.id (sym c.find.ensures.value ∙ c.in-None.is)
    ∙ ap (λ (device : DeviceFields). is_output_jack (entity device.function.entities c.args.id)) c.self.view_is
