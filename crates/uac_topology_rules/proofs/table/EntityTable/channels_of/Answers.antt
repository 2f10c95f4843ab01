use Rattle.std.proofs.Common.{◌≡◌, List, arith, ap, sym, ◌∙◌, length, get_or}
use Rattle.uac_entities.specs.declared.entity.Entity.{Entity}
use Rattle.uac_topology_rules.proofs.TableLemmas.{channels_nowhere, channels_placed, channels_read}
use Rattle.uac_topology_rules.proofs.TableIdLemmas.{found_is}
use Rattle.uac_topology_rules.proofs.table.EntityTable.channels_of.Goals as goal

pub index-requires : goal.index-requires
index-requires c =
    let v : c.self.inside.entities.items ≡ c.args.self.now = c.self.view_is in
    let w = found_is c.args.self.now c.args.id c.in-Some.index c.in-Some.ensures in
    omega (arith, w.0, ap (λ (xs : List Entity). length xs) v, c.self.inside.entities.ok.0)

pub returns-in-Some-clause-placed : goal.returns-in-Some-clause-placed
returns-in-Some-clause-placed c =
    let v : c.self.inside.entities.items ≡ c.args.self.now = c.self.view_is in
    channels_read c.args.self.now c.args.id c.in-Some.index c.index.result.now c.in-Some.ensures
    (c.index.ensures ∙ ap (λ (xs : List Entity). get_or xs c.in-Some.index c.index.result.now) v)

pub returns-in-Some-clause-value : goal.returns-in-Some-clause-value
returns-in-Some-clause-value c =
    let v : c.self.inside.entities.items ≡ c.args.self.now = c.self.view_is in
    channels_read c.args.self.now c.args.id c.in-Some.index c.index.result.now c.in-Some.ensures
    (c.index.ensures ∙ ap (λ (xs : List Entity). get_or xs c.in-Some.index c.index.result.now) v)
    ∙ sym (channels_placed c.args.self.now c.args.id)

pub returns-in-None-clause-placed : goal.returns-in-None-clause-placed
returns-in-None-clause-placed c = channels_nowhere c.args.self.now c.args.id c.in-None.ensures

pub returns-in-None-clause-value : goal.returns-in-None-clause-value
returns-in-None-clause-value c = channels_nowhere c.args.self.now c.args.id c.in-None.ensures ∙ sym (channels_placed c.args.self.now c.args.id)
