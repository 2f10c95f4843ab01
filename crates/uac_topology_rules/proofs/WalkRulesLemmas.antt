-- The two rules on cycles, by the two graphs.
use Rattle.std.proofs.Common.{◌≡◌, ℕ, List, Option, sym, ap, ◌∙◌}
use Rattle.uac_entities.specs.declared.entity.Entity.{Entity}
use Rattle.std.specs.Option.{option_or}
use Rattle.uac_topology_rules.specs.declared.fault.TopologyFault.{TopologyFault}
use Rattle.uac_topology_rules.specs.Links.{signal_links, clock_links}
use Rattle.uac_topology_rules.specs.Rules.{breaks_u6, breaks_u7}
use Rattle.uac_topology_rules.specs.RuleFaults.{of_entity, broken_walks}
use Rattle.uac_topology_rules.specs.WalkRules.{goes_on}
use Rattle.uac_topology_rules.proofs.LinksLemmas.{option_or-none}

pub walks_are : (es : List Entity) (g h : List (List ℕ)) → g ≡ signal_links es → h ≡ clock_links es → (a b : Option TopologyFault) →
    a ≡ of_entity 6 es (goes_on g) → b ≡ of_entity 7 es (goes_on h) → option_or a b ≡ broken_walks es
unfolding broken_walks of_entity breaks_u6 breaks_u7
walks_are es g h e f a b p q =
    let a' : a ≡ of_entity 6 es (goes_on (signal_links es)) = p ∙ ap (λ (x : List (List ℕ)). of_entity 6 es (goes_on x)) e in
    let b' : b ≡ of_entity 7 es (goes_on (clock_links es)) = q ∙ ap (λ (x : List (List ℕ)). of_entity 7 es (goes_on x)) f in
    ap (λ (x : Option TopologyFault). option_or x b) a'
    ∙ ap (λ (x : Option TopologyFault). option_or (of_entity 6 es (goes_on (signal_links es))) x) (b' ∙ sym (option_or-none _))
