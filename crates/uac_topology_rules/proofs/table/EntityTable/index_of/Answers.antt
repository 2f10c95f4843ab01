use Rattle.std.proofs.Common.{◌≡◌, List, arith, ap, sym, length}
use Rattle.uac_entities.specs.declared.entity.Entity.{Entity}
use Rattle.uac_topology_rules.proofs.TableIdLemmas.{found_is, found_none}
use Rattle.uac_topology_rules.proofs.table.EntityTable.index_of.Goals as goal

pub returns-in-Some : goal.returns-in-Some
returns-in-Some c = sym (found_is c.args.self.now c.args.id c.in-Some.index c.in-Some.ensures).1

pub returns-in-None : goal.returns-in-None
returns-in-None c =
    let v : c.self.inside.entities.items ≡ c.args.self.now = c.self.view_is in
    omega (arith, c.len.ensures, found_none c.args.self.now c.args.id c.in-None.ensures, ap (λ (xs : List Entity). length xs) v, c.self.inside.entities.ok.0)
