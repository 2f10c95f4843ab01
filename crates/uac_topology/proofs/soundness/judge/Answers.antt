use Rattle.std.proofs.Common.{◌≡◌, List, Some, None, sym, ap, ◌∙◌}
use Rattle.uac_entities.specs.declared.entity.Entity.{Entity}
use Rattle.uac_entities.specs.Entities.{entities_of}
use Rattle.uac_entities.specs.EntitySettings.{declared_settings}
use Rattle.uac_entities.specs.EntityInterfaces.{streaming_interfaces_of}
use Rattle.uac_entities.specs.declared.settings.DeclaredSetting.{DeclaredSetting}
use Rattle.uac_topology_rules.specs.Clusters.{with_own_clusters}
use Rattle.uac_topology_rules.specs.Domains.{domains_of}
use Rattle.uac_topology_rules.specs.RuleFaults.{broken_names, broken_walks}
use Rattle.uac_topology.specs.Topology.{IsFunctionOf, IsSound, streams_in}
use Rattle.uac_topology.proofs.TopologyGroupLemmas.{by_names, by_walks, by_shapes, by_ends}
use Rattle.uac_topology.proofs.soundness.judge.Goals as goal
use Rattle.uac_topology.proofs.soundness.judge.Goals.{After-total_of}

pub returns-in-Some : goal.returns-in-Some
returns-in-Some c =
    let e : c.in_ok-table.table ≡ entities_of c.args.blocks.now = c.in_ok-table.ensures ∙ c.in_ok-entities_of.ensures in
    by_names c.args.blocks.now c.in_ok-table.table e c.in-Some.fault c.in-Some.ensures

pub returns-in-Some-fault : goal.returns-in-Some-fault
returns-in-Some-fault c =
    let e : c.in_ok-table.table ≡ entities_of c.args.blocks.now = c.in_ok-table.ensures ∙ c.in_ok-entities_of.ensures in
    by_walks c.args.blocks.now c.in_ok-table.table e c.in-Some-fault.fault c.in_default.ensures (sym c.in-Some-fault.is ∙ c.in_ok-walked.ensures.judged)

pub returns-in-Some-shapes_fault : goal.returns-in-Some-shapes_fault
returns-in-Some-shapes_fault c =
    let e : c.in_ok-table.table ≡ entities_of c.args.blocks.now = c.in_ok-table.ensures ∙ c.in_ok-entities_of.ensures in
    let k : c.in_ok-known.known ≡ entities_of c.args.blocks.now = c.in_ok-known.ensures ∙ e in
    let names : None ≡ broken_names c.in_ok-known.known = c.in_default.ensures ∙ ap broken_names (sym c.in_ok-known.ensures) in
    let walks : None ≡ broken_walks c.in_ok-known.known =
    sym c.in_default-fault.is ∙ c.in_ok-walked.ensures.judged ∙ ap broken_walks (sym c.in_ok-known.ensures) in
    by_shapes c.args.blocks.now c.in_ok-known.known k c.in-Some-shapes_fault.fault names walks c.in-Some-shapes_fault.ensures

pub returns-in-Some-ends_fault : goal.returns-in-Some-ends_fault
returns-in-Some-ends_fault c =
    let e : c.in_ok-table.table ≡ entities_of c.args.blocks.now = c.in_ok-table.ensures ∙ c.in_ok-entities_of.ensures in
    let k : c.in_ok-known.known ≡ entities_of c.args.blocks.now = c.in_ok-known.ensures ∙ e in
    let names : None ≡ broken_names c.in_ok-known.known = c.in_default.ensures ∙ ap broken_names (sym c.in_ok-known.ensures) in
    let walks : None ≡ broken_walks c.in_ok-known.known =
    sym c.in_default-fault.is ∙ c.in_ok-walked.ensures.judged ∙ ap broken_walks (sym c.in_ok-known.ensures) in
    let all : c.in_ok-all.all.items ≡ declared_settings c.args.blocks.now = c.in_ok-all.ensures in
    let seen : c.as_slice.result.now ≡ entities_of c.args.blocks.now = c.as_slice.ensures ∙ c.table-2.ensures ∙ k in
    let streams : c.in_ok-streams.streams.items ≡ streams_in c.args.blocks.now =
    c.in_ok-streams.ensures
    ∙ ap (λ (xs : List Entity). streaming_interfaces_of xs c.deref.result.now) seen
    ∙ ap (λ (xs : List DeclaredSetting). streaming_interfaces_of (entities_of c.args.blocks.now) xs) (c.deref.ensures.value ∙ all) in
    by_ends c.args.blocks.now c.in_ok-known.known k c.deref-2.result.now c.deref-3.result.now (Some c.in-Some-ends_fault.fault)
    (c.deref-2.ensures.value ∙ all) (c.deref-3.ensures.value ∙ streams) names walks c.in_default-shapes_fault.ensures c.in-Some-ends_fault.ensures

-- what is made at the end is the function of sound blocks
made : (c : After-total_of) → IsSound c.args.blocks.now × IsFunctionOf (record {
  entities = c.into_table.result;
  domains = c.into_clocks.result.items;
  streams = c.in_ok-streams.streams.items;
  control_interface = c.control_interface_of.result;
  total = c.total_of.result;
}) c.args.blocks.now
made c =
    let e : c.in_ok-table.table ≡ entities_of c.args.blocks.now = c.in_ok-table.ensures ∙ c.in_ok-entities_of.ensures in
    let k : c.in_ok-known.known ≡ entities_of c.args.blocks.now = c.in_ok-known.ensures ∙ e in
    let names : None ≡ broken_names c.in_ok-known.known = c.in_default.ensures ∙ ap broken_names (sym c.in_ok-known.ensures) in
    let walks : None ≡ broken_walks c.in_ok-known.known =
    sym c.in_default-fault.is ∙ c.in_ok-walked.ensures.judged ∙ ap broken_walks (sym c.in_ok-known.ensures) in
    let all : c.in_ok-all.all.items ≡ declared_settings c.args.blocks.now = c.in_ok-all.ensures in
    let seen : c.as_slice.result.now ≡ entities_of c.args.blocks.now = c.as_slice.ensures ∙ c.table-2.ensures ∙ k in
    let streams : c.in_ok-streams.streams.items ≡ streams_in c.args.blocks.now =
    c.in_ok-streams.ensures
    ∙ ap (λ (xs : List Entity). streaming_interfaces_of xs c.deref.result.now) seen
    ∙ ap (λ (xs : List DeclaredSetting). streaming_interfaces_of (entities_of c.args.blocks.now) xs) (c.deref.ensures.value ∙ all) in (
      by_ends c.args.blocks.now c.in_ok-known.known k c.deref-2.result.now c.deref-3.result.now None
          (c.deref-2.ensures.value ∙ all) (c.deref-3.ensures.value ∙ streams) names walks c.in_default-shapes_fault.ensures c.in_default-ends_fault.ensures,
      record {
        entities = c.into_table.ensures ∙ ap with_own_clusters k;
        domains = c.into_clocks.ensures ∙ c.in_ok-domains.ensures.clocked ∙ ap domains_of (c.as_slice-2.ensures ∙ c.table-3.ensures ∙ k);
        streams = streams;
        control_interface = c.control_interface_of.ensures;
        total = c.total_of.ensures;
      },
    )

pub invariant_of-result : goal.invariant_of-result
invariant_of-result c = let sound = made (goal.at.invariant_of-result c).After-total_of in (c.args.blocks.now, sound.0, sound.1, c.requires)

pub returns : goal.returns
returns c = made (goal.at.returns c).After-total_of
