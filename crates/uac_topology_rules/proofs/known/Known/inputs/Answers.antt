use Rattle.std.proofs.Common.{◌≡◌, ◌<◌, ℕ, List, length, get_or, map, sum, arith, ap, sym, ◌∙◌, subst}
use Rattle.uac_topology_rules.specs.Walk.{links}
use Rattle.uac_entities.specs.Entities.{no_cluster}
use Rattle.uac_entities.specs.declared.entity.Cluster.{Cluster}
use Rattle.uac_entities.specs.declared.entity.Entity.{Entity}
use Rattle.uac_topology_rules.specs.Clusters.{pins}
use Rattle.uac_topology_rules.proofs.SignalsLemmas.{source_has, pins_are, row_is}
use Rattle.uac_topology_rules.proofs.known.Known.inputs.Goals as goal

pub inputs_of-requires : goal.inputs_of-requires
inputs_of-requires c =
    λ i s.
    let k = c.self.inside in
    let es = k.table in
    let v : k.table ≡ c.args.self.now = c.self.view_is in
    let below : c.args.index < length es = subst (λ (xs : List Entity). c.args.index < length xs) (sym v) c.requires in
    let row : c.as_slice.result.now ≡ links k.links.items c.args.index =
    c.as_slice.ensures ∙ row_is es k.links.items k.clusters.items k.clocks.items c.self.invariant c.args.index c.index.result.now below c.index.ensures in
    let in' : i < length (links k.links.items c.args.index) = subst (λ (xs : List ℕ). i < length xs) row s in
    omega (
      arith,
      source_has es k.links.items k.clusters.items k.clocks.items c.self.invariant c.args.index i below in',
      ap (λ (xs : List ℕ). get_or xs i 0) row,
      ap (λ (cs : List Cluster). length cs) c.as_slice-2.ensures.value,
    )

pub returns-clause-value : goal.returns-clause-value
returns-clause-value c =
    let k = c.self.inside in
    let es = k.table in
    let v : k.table ≡ c.args.self.now = c.self.view_is in
    let below : c.args.index < length es = subst (λ (xs : List Entity). c.args.index < length xs) (sym v) c.requires in
    let row : c.as_slice.result.now ≡ links k.links.items c.args.index =
    c.as_slice.ensures ∙ row_is es k.links.items k.clusters.items k.clocks.items c.self.invariant c.args.index c.index.result.now below c.index.ensures in
    c.inputs_of.ensures.value
    ∙ ap (λ (xs : List ℕ). sum (map (λ p. (get_or c.as_slice-2.result.now p no_cluster).channels) xs)) row
    ∙ ap (λ (cs : List Cluster). sum (map (λ p. (get_or cs p no_cluster).channels) (links k.links.items c.args.index))) c.as_slice-2.ensures.value
    ∙ ap sum (pins_are es k.links.items k.clusters.items k.clocks.items c.self.invariant c.args.index below)
    ∙ ap (λ (xs : List Entity). sum (pins xs c.args.index)) v
