-- Reading what is known along the links.
use Rattle.std.proofs.Common.{◌≡◌, ◌<◌, ℕ, List, [], ◌∷◌, Option, None, suc, length, get_or, map, refl, sym, ap, ◌∙◌, subst, arith}
use Rattle.std.specs.List.{All}
use Rattle.std.proofs.lemmas.List.{length-map, get_or_read}
use Rattle.uac_topology_rules.specs.Walk.{links}
use Rattle.uac_entities.specs.Entities.{no_cluster}
use Rattle.uac_entities.specs.declared.entity.Cluster.{Cluster}
use Rattle.uac_entities.specs.declared.entity.Entity.{Entity}
use Rattle.uac_topology_rules.specs.declared.fault.TopologyFault.{TopologyFault}
use Rattle.uac_topology_rules.specs.declared.signals.Behind.{Behind}
use Rattle.uac_topology_rules.specs.Clusters.{cluster_of, pins}
use Rattle.uac_topology_rules.specs.Rules.{breaks_u6}
use Rattle.uac_topology_rules.specs.RuleFaults.{broken_names, broken_walks}
use Rattle.uac_topology_rules.specs.WalkRules.{IsWalked}
use Rattle.uac_topology_rules.specs.Signals.{IsAcyclic, IsWalkable, IsKnown, AreClusters, AreClocks}
use Rattle.uac_topology_rules.proofs.RuleFaultsLemmas.{breaks_none}
use Rattle.uac_topology_rules.proofs.LinksLemmas.{or_none, signal_closed}

-- where the rules on walks hold, no walk goes on for ever
pub acyclic_is : (es : List Entity) → broken_walks es ≡ None → IsAcyclic es
unfolding broken_walks breaks_u6
acyclic_is es e k below = breaks_none 6 es breaks_u6 (or_none _ _ e).0 k below

pub walkable_is : (es : List Entity) (graph : List (List ℕ)) (order : List ℕ) (fault : Option TopologyFault) → IsWalked es graph order fault →
    fault ≡ None → IsWalkable es graph order
walkable_is es graph order fault w none =
    record { linked = w.linked; ordered = w.ordered; acyclic = acyclic_is es (sym w.judged ∙ none) }

pub known_is : (es : List Entity) (graph : List (List ℕ)) (order : List ℕ) (fault : Option TopologyFault) (clusters : List Cluster) (list : List Behind) →
    broken_names es ≡ None → IsWalked es graph order fault → AreClusters es clusters → AreClocks es list → IsKnown es graph clusters list
known_is es graph order fault clusters list named w a b =
    record {
      linked = w.linked;
      closed = subst (λ (g : List (List ℕ)). (v : ℕ) → v < length g → All (λ (t : ℕ). t < length g) (links g v)) (sym w.linked) (signal_closed es named);
      sounding = a;
      ticking = b;
    }

pub map_same : {Y : Type 0} (f g : ℕ → Y) (xs : List ℕ) → ((i : ℕ) → i < length xs → f (get_or xs i 0) ≡ g (get_or xs i 0)) → map f xs ≡ map g xs
map_same f g [] h = refl
map_same f g (x ∷ xs) h = ap (λ y. y ∷ map f xs) (h 0 (omega arith)) ∙ ap (λ ys. g x ∷ ys) (map_same f g xs (λ i b. h (suc i) (omega arith)))

module _ (es : List Entity) (graph : List (List ℕ)) (clusters : List Cluster) (list : List Behind) (h : IsKnown es graph clusters list) where
  graph_size : length graph ≡ length es
  graph_size = ap (λ (g : List (List ℕ)). length g) h.linked ∙ length-map es _

  -- a source is an entity
  pub source_in : (k i : ℕ) → k < length es → i < length (links graph k) → get_or (links graph k) i 0 < length es
  source_in k i b s = subst (λ (n : ℕ). get_or (links graph k) i 0 < n) graph_size (h.closed k (omega (arith, graph_size)) i 0 s)

  pub source_has : (k i : ℕ) → k < length es → i < length (links graph k) → get_or (links graph k) i 0 < length clusters
  source_has k i b s = omega (arith, source_in k i b s, h.sounding.sized)

  -- the channels of the pins
  pub pins_are : (k : ℕ) → k < length es → map (λ p. (get_or clusters p no_cluster).channels) (links graph k) ≡ pins es k
  unfolding pins
  pins_are k b =
      map_same (λ p. (get_or clusters p no_cluster).channels) (λ p. (cluster_of es p).channels) (links graph k)
      (λ i s. ap (λ (c : Cluster). c.channels) (h.sounding.found (get_or (links graph k) i 0) (source_in k i b s)))
      ∙ ap (λ (g : List (List ℕ)). map (λ p. (cluster_of es p).channels) (links g k)) h.linked

  pub row_is : (k : ℕ) (row : List ℕ) → k < length es → row ≡ get_or graph k row → row ≡ links graph k
  row_is k row b e = get_or_read graph k row (omega (arith, graph_size)) e []
