use Rattle.std.proofs.Common.{◌≡◌, List, arith, ap, ◌∙◌, length, get_or}
use Rattle.uac_entities.specs.declared.entity.Entity.{Entity}
use Rattle.uac_topology_rules.proofs.TableIdLemmas.{found_is, kind_read, kind_none}
use Rattle.uac_topology_rules.proofs.table.EntityTable.kind_of.Goals as goal

pub index-requires : goal.index-requires
index-requires c =
    let v : c.self.inside.entities.items ≡ c.args.self.now = c.self.view_is in
    let w = found_is c.args.self.now c.args.id c.in-Some.index c.in-Some.ensures in
    omega (arith, w.0, ap (λ (xs : List Entity). length xs) v, c.self.inside.entities.ok.0)

pub returns-in-Some : goal.returns-in-Some
returns-in-Some c =
    let v : c.self.inside.entities.items ≡ c.args.self.now = c.self.view_is in
    kind_read c.args.self.now c.args.id c.in-Some.index c.index.result.now c.in-Some.ensures
    (c.index.ensures ∙ ap (λ (xs : List Entity). get_or xs c.in-Some.index c.index.result.now) v)

pub returns-in-None : goal.returns-in-None
returns-in-None c = kind_none c.args.self.now c.args.id c.in-None.ensures
