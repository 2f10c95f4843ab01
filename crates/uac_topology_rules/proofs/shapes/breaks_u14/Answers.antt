use Rattle.std.proofs.Common.{rules, arith, ◌≡◌, ◌-◌, ◌*◌, ◌==◌, ◌&&◌, ◌||◌, ltb, Bool, false, ℕ, List, slice_index, sym, ap, ◌∙◌}
use Rattle.uac_topology_rules.specs.Table.{at}
use Rattle.uac_topology_rules.specs.Clusters.{inputs, cluster_of}
use Rattle.uac_topology_rules.specs.Rules.{breaks_u14, names_ninth, too_large}
use Rattle.uac_topology_rules.proofs.DomainsEntityLemmas.{ninth_is}
use Rattle.uac_topology_rules.proofs.ShapeRulesProductLemmas.{product_fits}
use Rattle.uac_topology_rules.proofs.shapes.breaks_u14.Goals as goal

pub overflow_mul-nodes : goal.overflow_mul-nodes
overflow_mul-nodes c =
    omega (arith, product_fits c.inputs-inputs.result c.from.result c.inputs-inputs.ensures.small (omega (arith, c.from.ensures, c.channels.type_inv)))

pub returns-else-too_large : goal.returns-else-too_large
unfolding breaks_u14
returns-else-too_large c =
    let es = c.args.known.now in
    let index : ℕ = c.args.index in
    let counts = c.args.domains.now.counts.items in
    let small : too_large (at es index).kind (ltb 256 (inputs es index)) (ltb 256 (inputs es index * (cluster_of es index).channels)) ≡ false = search rules in
    c.passes_limit.ensures
    ∙ ap (λ (ns : List ℕ). ltb 0 index && (slice_index ns (index - 1) == 8 && ltb 8 (slice_index ns index))) c.deref.ensures.value
    ∙ ninth_is es c.args.domains.now.clocks.items counts index c.requires.counted c.requires.inside
    ∙ sym (ap (λ (b : Bool). b || names_ninth es index) small)
