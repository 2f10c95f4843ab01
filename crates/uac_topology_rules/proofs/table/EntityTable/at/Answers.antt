use Rattle.std.proofs.Common.{◌≡◌, List, ap, ◌∙◌, get_or}
use Rattle.uac_entities.specs.declared.entity.Entity.{Entity}
use Rattle.uac_topology_rules.proofs.TableIdLemmas.{at_read}
use Rattle.uac_topology_rules.proofs.table.EntityTable.at.Goals as goal

pub returns : goal.returns
returns c =
    let v : c.self.inside.entities.items ≡ c.args.self.now = c.self.view_is in
    at_read c.args.self.now c.args.index c.index.result.now c.requires
    (c.index.ensures ∙ ap (λ (xs : List Entity). get_or xs c.args.index c.index.result.now) v)
