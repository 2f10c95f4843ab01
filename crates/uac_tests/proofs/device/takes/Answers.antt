use Rattle.std.proofs.Common.{◌≡◌, ◌∙◌, ap, get_or, subst, sym, List}
use Rattle.uac_entities.specs.declared.entity.Entity.{Entity}
use Rattle.uac_topology.specs.Function.{FunctionFields}
use Rattle.uac_graph.specs.Meaning.{entity}
use Rattle.uac_device.specs.DeviceWorld.{is_input_jack}
use Rattle.uac_device.proofs.DeviceWorldLemmas.{entity_found}
use Rattle.uac_tests.proofs.device.takes.Goals as goal

pub returns-in-Some-clause-jack : goal.returns-in-Some-clause-jack
returns-in-Some-clause-jack c taken =
    let here =
    entity_found c.function-function.result.now.entities c.args.terminal c.in-Some.place c.index-entities-place.result (sym c.find.ensures.value ∙ c.in-Some.is)
    (subst (λ (entities : List Entity). c.index-entities-place.result ≡ get_or entities c.in-Some.place c.index-entities-place.result) c.entities.ensures c.index-entities-place.is)
    ∙ ap (λ (f : FunctionFields). entity f.entities c.args.terminal) c.function-function.ensures in
    ap is_input_jack (sym here) ∙ c.is_taken.ensures.jack taken

pub returns-in-Some-clause-channels : goal.returns-in-Some-clause-channels
returns-in-Some-clause-channels c taken =
    let here =
    entity_found c.function-function.result.now.entities c.args.terminal c.in-Some.place c.index-entities-place.result (sym c.find.ensures.value ∙ c.in-Some.is)
    (subst (λ (entities : List Entity). c.index-entities-place.result ≡ get_or entities c.in-Some.place c.index-entities-place.result) c.entities.ensures c.index-entities-place.is)
    ∙ ap (λ (f : FunctionFields). entity f.entities c.args.terminal) c.function-function.ensures in
    sym c.len.ensures.value ∙ c.is_taken.ensures.channels taken ∙ ap (λ (e : Entity). e.cluster.channels) here
