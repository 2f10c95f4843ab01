use Rattle.std.proofs.Common.{◌≡◌, ◌<◌, ℕ, List, length, get_or, map, Bool, not, ◌==◌, arith, ap, sym, ◌∙◌, subst}
use Rattle.std.specs.List.{list_any}
use Rattle.uac_topology_rules.specs.Walk.{links}
use Rattle.uac_entities.specs.Entities.{no_cluster}
use Rattle.uac_entities.specs.declared.entity.Cluster.{Cluster}
use Rattle.uac_entities.specs.declared.entity.Entity.{Entity}
use Rattle.uac_topology_rules.specs.Clusters.{pins}
use Rattle.uac_topology_rules.proofs.SignalsLemmas.{source_has, pins_are, row_is}
use Rattle.uac_topology_rules.proofs.known.Known.pins_differ.Goals as goal

pub channels_differ-requires : goal.channels_differ-requires
channels_differ-requires c =
    λ i s.
    let k = c.self.inside in
    let es = k.table in
    let v : k.table ≡ c.args.self.now = c.self.view_is in
    let below : c.args.index < length es = subst (λ (xs : List Entity). c.args.index < length xs) (sym v) c.requires in
    let row : c.as_slice.result.now ≡ links k.links.items c.args.index =
    c.as_slice.ensures ∙ row_is es k.links.items k.clusters.items k.clocks.items c.self.invariant c.args.index c.index.result.now below c.index.ensures in
    let in' : i < length (links k.links.items c.args.index) = subst (λ (xs : List ℕ). i < length xs) row s in
    omega (
      arith,
      source_has es k.links.items k.clusters.items k.clocks.items c.self.invariant c.args.index i below in',
      ap (λ (xs : List ℕ). get_or xs i 0) row,
      ap (λ (cs : List Cluster). length cs) c.as_slice-2.ensures.value,
    )

pub returns : goal.returns
returns c =
    let k = c.self.inside in
    let differ : List ℕ → Bool = list_any (λ n. not (n == c.args.channels)) in
    let es = k.table in
    let v : k.table ≡ c.args.self.now = c.self.view_is in
    let below : c.args.index < length es = subst (λ (xs : List Entity). c.args.index < length xs) (sym v) c.requires in
    let row : c.as_slice.result.now ≡ links k.links.items c.args.index =
    c.as_slice.ensures ∙ row_is es k.links.items k.clusters.items k.clocks.items c.self.invariant c.args.index c.index.result.now below c.index.ensures in
    c.channels_differ.ensures
    ∙ ap (λ (xs : List ℕ). differ (map (λ p. (get_or c.as_slice-2.result.now p no_cluster).channels) xs)) row
    ∙ ap (λ (cs : List Cluster). differ (map (λ p. (get_or cs p no_cluster).channels) (links k.links.items c.args.index))) c.as_slice-2.ensures.value
    ∙ ap differ (pins_are es k.links.items k.clusters.items k.clocks.items c.self.invariant c.args.index below)
    ∙ ap (λ (xs : List Entity). differ (pins xs c.args.index)) v
