use Rattle.std.proofs.Common.{List, slice_get, ◌∙◌, sym, ap}
use Rattle.uac_entities.specs.declared.entity.Entity.{Entity}
use Rattle.uac_topology.proofs.FunctionFoundLemmas.{named_at, looked_up}
use Rattle.uac_topology.proofs.function.Function.entity.Goals as goal

pub returns-in-Some : goal.returns-in-Some
returns-in-Some c =
    looked_up _ _ _ c.get.ensures.lookup.0 c.get.ensures.lookup.1
    ∙ ap (λ (xs : List Entity). slice_get xs c.in-Some.index) c.entities.ensures
    ∙ named_at _ _ _ (sym c.find.ensures.value ∙ c.in-Some.is)
