-- The settings of a sound function link to USB streaming terminals.
use Rattle.std.proofs.Common.{◌≡◌, ◌∙◌, sym, ap, subst, refl, arith, ℕ, ◌<◌, ◌==◌, ◌&&◌, ◌||◌, not, true, false, List, [], ◌∷◌, Option, Some, None, length, get_or, slice_get, take}
use Rattle.std.specs.List.{All, cons_option, list_any}
use Rattle.std.specs.Option.{option_map, option_map_or}
use Rattle.std.proofs.lemmas.Bool.{and_parts, eqb-true, or_parts}
use Rattle.std.proofs.lemmas.List.Elements.{All-nil, All-cons}
use Rattle.std.proofs.lemmas.List.Folds.{find_at}
use Rattle.std.proofs.lemmas.Option.{slice_get-get_or}
use Rattle.uac_descriptor.specs.declared.streaming.General.{General}
use Rattle.uac_entities.specs.Entities.{entities_of}
use Rattle.uac_entities.specs.EntityInterfaces.{link_of, links_of, entity_by_id}
use Rattle.uac_entities.specs.declared.entity.Entity.{Entity}
use Rattle.uac_entities.specs.declared.stream.Setting.{Setting}
use Rattle.uac_entities.specs.declared.stream.StreamInterface.{StreamInterface}
use Rattle.uac_topology_rules.specs.Clusters.{cluster_of, with_own_clusters}
use Rattle.uac_topology_rules.specs.RuleFaults.{of_interface}
use Rattle.uac_topology_rules.specs.Rules.{at_stream, breaks_u12, is_usb, is_usb_terminal}
use Rattle.uac_topology_rules.specs.Table.{at, first_index_of, nothing, index_of, with_cluster}
use Rattle.uac_topology_rules.proofs.TableIdLemmas.{found_is}
use Rattle.uac_topology.specs.Function.{FunctionFields}
use Rattle.uac_topology.specs.FunctionKept.{AreLinks}
use Rattle.uac_topology.specs.Topology.{IsSoundFunction, streams_in}
use Rattle.uac_topology.proofs.ClustersLemmas.{with_own_clusters-at, length-with_own_clusters, same_index}
use Rattle.uac_topology.proofs.FunctionKeptRangeLemmas.{not_false}
use Rattle.uac_topology.proofs.TopologyRuleLemmas.{links_within, no_interface}

-- ---- what the rule on links says of an interface

pub record IsRight (es : List Entity) (ss : List StreamInterface) (index : ℕ) (s : StreamInterface) : Type 0 where
  pub links : list_any (λ l. not (is_usb es l && l == s.terminal)) (links_of s.settings) ≡ false
  pub alone : (not (s.terminal == 0) && list_any (λ d. d.terminal == s.terminal) (take index ss)) ≡ false

pub right_at : (es : List Entity) (ss : List StreamInterface) → of_interface 12 ss (breaks_u12 es) ≡ None → (k : ℕ) (d : StreamInterface) → k < length ss
    → IsRight es ss k (get_or ss k d)
unfolding breaks_u12 at_stream
right_at es ss none k d below =
    let both = or_parts _ _ (
    ap (λ o. option_map_or (λ (s : StreamInterface).
    list_any (λ l. not (is_usb es l && l == s.terminal)) (links_of s.settings)
    || (not (s.terminal == 0) && list_any (λ d. d.terminal == s.terminal) (take k ss))) o false) (sym (slice_get-get_or ss k d below))
    ∙ no_interface 12 ss (breaks_u12 es) none k below) in
    record { links = both.0; alone = both.1 }

-- ---- the terminal of a link

pub usb_there : (es : List Entity) (id : ℕ) → is_usb es id ≡ true → (index_of es id < length es) × (is_usb_terminal (at es (index_of es id)) ≡ true)
unfolding is_usb
usb_there es id usb = by (first_index_of es id) refl usb
  where
    by : (o : Option ℕ) → first_index_of es id ≡ o → option_map_or (λ index. is_usb_terminal (at es index)) o false ≡ true
        → (index_of es id < length es) × (is_usb_terminal (at es (index_of es id)) ≡ true)
    by None e usb = absurd (cc)
    by (Some p) e usb =
        let is = found_is es id p (sym e) in (omega (arith, is.0, is.1), ap (λ (q : ℕ). is_usb_terminal (at es q)) is.1 ∙ usb)

named_clustered : (es : List Entity) (id : ℕ) → index_of es id < length es
    → entity_by_id (with_own_clusters es) id ≡ Some (with_cluster (at es (index_of es id)) (cluster_of es (index_of es id)))
unfolding entity_by_id index_of
named_clustered es id below =
    find_at (λ (e : Entity). e.id == id) (with_own_clusters es)
    ∙ ap (slice_get (with_own_clusters es)) (same_index es id)
    ∙ slice_get-get_or (with_own_clusters es) (index_of es id) nothing (omega (arith, below, length-with_own_clusters es))
    ∙ ap (λ (e : Entity). Some e) (with_own_clusters-at es (index_of es id) nothing below)

-- ---- the settings of an interface

abbrev IsOwn : List Entity → ℕ → Setting → Type 0
IsOwn es terminal t = (g : General) → t.general ≡ Some g → (g.link ≡ terminal) × (is_usb es g.link ≡ true)

each_own : (es : List Entity) (terminal : ℕ) (settings : List Setting)
    → list_any (λ l. not (is_usb es l && l == terminal)) (links_of settings) ≡ false → All (IsOwn es terminal) settings
unfolding link_of
each_own es terminal [] none = All-nil (IsOwn es terminal)
each_own es terminal (t ∷ ts) none = by t.general refl none (each_own es terminal ts)
  where
    by : (o : Option General) → t.general ≡ o
        → list_any (λ l. not (is_usb es l && l == terminal)) (cons_option (option_map (λ g. g.link) o) (links_of ts)) ≡ false
        → (list_any (λ l. not (is_usb es l && l == terminal)) (links_of ts) ≡ false → All (IsOwn es terminal) ts)
        → All (IsOwn es terminal) (t ∷ ts)
    by None is none rest = All-cons (IsOwn es terminal) t ts (λ g there. absurd (let no : None ≡ Some g = sym is ∙ there in cc)) (rest none)
    by (Some h) is none rest =
        let both = or_parts _ _ none in
        let here = and_parts _ _ (not_false _ both.0) in
        All-cons (IsOwn es terminal) t ts (λ g there.
        let same : h ≡ g = (let both : Some h ≡ Some g = sym is ∙ there in cc) in
        subst (λ (x : General). (x.link ≡ terminal) × (is_usb es x.link ≡ true)) same (eqb-true h.link terminal here.1, here.0))
        (rest both.1)

-- ---- a function

pub are_links : (function : FunctionFields) → IsSoundFunction function → AreLinks function
are_links function sound =
    let es = entities_of sound.0 in
    let ss = streams_in sound.0 in
    let right = right_at es ss (links_within sound.0 sound.1) in
    let whole : AreLinks (record function { entities = with_own_clusters es; streams = ss }) =
    λ k d below j e under g there.
    let s = get_or ss k d in
    let own = each_own es s.terminal s.settings (right k d below).links j e under g there in
    let usb = usb_there es s.terminal (subst (λ (id : ℕ). is_usb es id ≡ true) own.0 own.1) in
    record {
      own = own.0;
      entity = with_cluster (at es (index_of es s.terminal)) (cluster_of es (index_of es s.terminal));
      there = named_clustered es s.terminal usb.0;
      usb = usb.1;
    } in
    subst AreLinks (λ i. record function { entities = sym sound.2.entities i; streams = sym sound.2.streams i }) whole
