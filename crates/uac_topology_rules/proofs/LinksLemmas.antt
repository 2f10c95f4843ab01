-- What follows where the lesser rules hold.
use Rattle.std.proofs.Common.{◌≡◌, ℕ, ◌<◌, not, false, List, [], Option, Some, None, length, get_or, map, refl, sym, arith, subst}
use Rattle.std.specs.List.{All}
use Rattle.std.specs.Option.{option_or, option_map, is_none}
use Rattle.std.proofs.lemmas.Bool.{or_parts, true≢false}
use Rattle.std.proofs.lemmas.List.{get_or-map, length-map}
use Rattle.uac_topology_rules.specs.Walk.{links}
use Rattle.uac_topology_rules.specs.Order.{IsClosed}
use Rattle.uac_topology_rules.proofs.WalkLemmas.{none_at}
use Rattle.uac_entities.specs.declared.entity.Entity.{Entity}
use Rattle.uac_topology_rules.specs.Table.{first_index_of, index_of, at, nothing, kind_of}
use Rattle.uac_topology_rules.specs.Links.{signal_sources, clock_sources, signal_links, clock_links}
use Rattle.uac_topology_rules.specs.Rules.{breaks_u3, breaks_u5, is_some_clock}
use Rattle.uac_topology_rules.specs.RuleFaults.{of_entity, broken_names}
use Rattle.uac_topology_rules.specs.Rules as rules
use Rattle.uac_topology_rules.proofs.RuleFaultsLemmas.{breaks_none}
use Rattle.uac_topology_rules.proofs.TableIdLemmas.{found_is}

pub or_none : {X : Type 0} (a b : Option X) → option_or a b ≡ None → (a ≡ None) × (b ≡ None)
or_none None b e = (refl, e)
or_none (Some x) b e = absurd (cc)

-- nothing after an answer changes it
pub option_or-none : {X : Type 0} (o : Option X) → option_or o None ≡ o
option_or-none None = refl
option_or-none (Some x) = refl

-- the rules U1 to U5 hold
pub record HasNames (es : List Entity) : Type 0 where
  pub u1 : of_entity 1 es rules.breaks_u1 ≡ None
  pub u2 : of_entity 2 es rules.breaks_u2 ≡ None
  pub u3 : of_entity 3 es rules.breaks_u3 ≡ None
  pub u4 : of_entity 4 es rules.breaks_u4 ≡ None
  pub u5 : of_entity 5 es rules.breaks_u5 ≡ None

pub has_names : (es : List Entity) → broken_names es ≡ None → HasNames es
unfolding broken_names
has_names es e =
    let a = or_none _ _ e in
    let b = or_none _ _ a.1 in
    let c = or_none _ _ b.1 in
    let d = or_none _ _ c.1 in
    let f = or_none _ _ d.1 in
    record { u1 = a.0; u2 = b.0; u3 = c.0; u4 = d.0; u5 = f.0 }

-- an id that some kind has is that of an entity
kind_below : (es : List Entity) (id : ℕ) → is_none (kind_of es id) ≡ false → index_of es id < length es
unfolding kind_of
kind_below es id e = by (first_index_of es id) refl
  where
    by : (o : Option ℕ) → first_index_of es id ≡ o → index_of es id < length es
    by None f = absurd (true≢false (subst (λ (o : Option ℕ). is_none (option_map (λ (p : ℕ). (at es p).kind) o) ≡ false) f e))
    by (Some k) f = let w = found_is es id k (sym f) in omega (arith, w.0, w.1)

none_from_clock : (es : List Entity) (id : ℕ) → not (is_some_clock (kind_of es id)) ≡ false → is_none (kind_of es id) ≡ false
none_from_clock es id e = by (kind_of es id) e
  where
    by : (o : Option _) → not (is_some_clock o) ≡ false → is_none o ≡ false
    by None e = absurd (cc)
    by (Some k) e = refl

-- the links of an entity
pub signal_links-at : (es : List Entity) (k : ℕ) → k < length es → links (signal_links es) k ≡ map (index_of es) (signal_sources (at es k))
unfolding at
signal_links-at es k below = get_or-map (λ (e : Entity). map (index_of es) (signal_sources e)) es k nothing [] below

pub clock_links-at : (es : List Entity) (k : ℕ) → k < length es → links (clock_links es) k ≡ map (index_of es) (clock_sources (at es k))
unfolding at
clock_links-at es k below = get_or-map (λ (e : Entity). map (index_of es) (clock_sources e)) es k nothing [] below

closed_at : (es : List Entity) (ids : List ℕ) → ((i : ℕ) → i < length ids → index_of es (get_or ids i 0) < length es) →
    All (λ (t : ℕ). t < length es) (map (index_of es) ids)
closed_at es ids h i d below =
    let in' : i < length ids = omega (arith, length-map ids (index_of es)) in
    subst (λ (t : ℕ). t < length es) (sym (get_or-map (index_of es) ids i 0 d in')) (h i in')

-- what the signal sources name are entities
pub signal_closed : (es : List Entity) → broken_names es ≡ None → IsClosed (signal_links es)
unfolding breaks_u3
signal_closed es e v below =
    let size : length (signal_links es) ≡ length es = length-map es (λ (x : Entity). map (index_of es) (signal_sources x)) in
    let in' : v < length es = omega arith in
    let holds = breaks_none 3 es breaks_u3 (has_names es e).u3 v in' in
    let ids = signal_sources (at es v) in
    let here : All (λ (t : ℕ). t < length es) (map (index_of es) ids) =
    closed_at es ids (λ i b. kind_below es (get_or ids i 0) (none_at (λ (id : ℕ). is_none (kind_of es id)) ids i 0 b holds)) in
    let P : List ℕ → ℕ → Type 0 = λ xs n. (i : ℕ) (d : ℕ) → i < length xs → get_or xs i d < n in
    subst (λ (n : ℕ). P (links (signal_links es) v) n) (sym size) (subst (λ (xs : List ℕ). P xs (length es)) (sym (signal_links-at es v in')) here)

-- what the clock sources name are entities
pub clock_closed : (es : List Entity) → broken_names es ≡ None → IsClosed (clock_links es)
unfolding breaks_u5
clock_closed es e v below =
    let size : length (clock_links es) ≡ length es = length-map es (λ (x : Entity). map (index_of es) (clock_sources x)) in
    let in' : v < length es = omega arith in
    let holds = (or_parts _ _ (breaks_none 5 es breaks_u5 (has_names es e).u5 v in')).1 in
    let ids = clock_sources (at es v) in
    let here : All (λ (t : ℕ). t < length es) (map (index_of es) ids) =
    closed_at es ids (λ i b. kind_below es (get_or ids i 0) (none_from_clock es (get_or ids i 0)
    (none_at (λ (id : ℕ). not (is_some_clock (kind_of es id))) ids i 0 b holds))) in
    let P : List ℕ → ℕ → Type 0 = λ xs n. (i : ℕ) (d : ℕ) → i < length xs → get_or xs i d < n in
    subst (λ (n : ℕ). P (links (clock_links es) v) n) (sym size) (subst (λ (xs : List ℕ). P xs (length es)) (sym (clock_links-at es v in')) here)
