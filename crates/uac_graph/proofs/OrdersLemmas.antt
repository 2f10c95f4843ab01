-- Entities in the order in which they are rendered, each after its sources.
use Rattle.std.proofs.Common.{◌≡◌, ◌∙◌, sym, ap, subst, refl, arith, ℕ, zero, suc, ◌+◌, ◌-◌, ◌<◌, ◌≤◌, ◌==◌, Bool, true, false, ◌||◌, ◌&&◌, eqb, List, [], ◌∷◌, ◌++◌, length, get_or, take, drop, inl, inr, below_more}
use Rattle.std.specs.List.{All, list_any}
use Rattle.std.proofs.Math.Bool.{or_assoc, or-false}
use Rattle.std.proofs.lemmas.Bool.{cases_eq, cases_lt, eq-eqb, ne_eqb, eqb-true, or_right}
use Rattle.std.proofs.lemmas.List.{get_or_default, take_all, take-append-drop, take-append-le}
use Rattle.std.proofs.lemmas.List.Elements.{All-nil, All-push}
use Rattle.std.proofs.lemmas.List.Folds.{list_any-append, list_any_at, list_any_more, list_any_none}
use Rattle.std.proofs.Math.ListN.{get_or-append, length-append}
use Rattle.std.proofs.Math.Seq.{get_or-append_seam, take-append_seam}
use Rattle.uac_entities.specs.declared.entity.Entity.{Entity}
use Rattle.uac_topology_rules.specs.Links.{is_clock, signal_sources}
use Rattle.uac_topology_rules.specs.Rules.{is_output}
use Rattle.uac_topology_rules.specs.Table.{at, nothing, index_of}
use Rattle.uac_topology_rules.proofs.ListFindLemmas.{any_at}
use Rattle.uac_topology_rules.proofs.TableIdLemmas.{at_read}
use Rattle.uac_graph.specs.Fitness.{IsSignalGraph}
use Rattle.uac_graph.specs.Meaning.{entity}
use Rattle.uac_graph.specs.Needs.{depends_on, is_end, reaches}
use Rattle.uac_graph.specs.Orders.{AreOrders, IsKeptOrder, IsRenderOrder, IsOrderOf, has_id}
use Rattle.uac_graph.specs.declared.orders.Order.{Order}
use Rattle.uac_graph.proofs.OrdersOnceLemmas.{apart_more}
use Rattle.uac_graph.proofs.WiringLemmas.{id_at}
use Rattle.uac_graph.proofs.MeaningReachLemmas.{reaches_self, reaches_step}
use Rattle.uac_graph.proofs.WiringTerminalLemmas.{entity_itself, tested_more}
use Rattle.uac_graph.proofs.WiringWireLemmas.{signal_below, signal_sources_of}

-- what passes in a front passes in the whole
any_front : (p : ℕ → Bool) (xs : List ℕ) (j : ℕ) → list_any p (take j xs) ≡ true → list_any p xs ≡ true
any_front p xs j e =
    ap (list_any p) (sym (take-append-drop j xs)) ∙ list_any-append p (take j xs) (drop j xs) ∙ ap (λ (b : Bool). b || list_any p (drop j xs)) e

or_within : (a b : Bool) → (b ≡ true → a ≡ true) → a ≡ (a || b)
or_within true b f = refl
or_within false true f = f refl
or_within false false f = refl

or_last : (a b c : Bool) → ((a || b) || (c || false)) ≡ (a || (c || b))
or_last true b c = refl
or_last false true true = refl
or_last false true false = refl
or_last false false true = refl
or_last false false false = refl

-- the sources of an entity that is held are held
sources_held : (entities : List Entity) (indices : List ℕ) (id k : ℕ) → IsSignalGraph entities → IsRenderOrder entities indices → has_id entities indices id ≡ true
    → k < length (signal_sources (entity entities id)) → has_id entities indices (get_or (signal_sources (entity entities id)) k 0) ≡ true
sources_held entities indices id k sound order held below =
    let found = any_at (λ index. eqb (at entities index).id id) indices held in
    let j = found.0 in
    let index = get_or indices j 0 in
    let named : (at entities index).id ≡ id = eqb-true (at entities index).id id found.2 in
    let itself : entity entities id ≡ at entities index = ap (entity entities) (sym named) ∙ entity_itself entities index sound (order.inside j 0 found.1) in
    any_front (λ p. eqb (at entities p).id (get_or (signal_sources (entity entities id)) k 0)) indices j
    (subst (λ (e : Entity). (i : ℕ) → i < length (signal_sources e) → has_id entities (take j indices) (get_or (signal_sources e) i 0) ≡ true) (sym itself)
    (λ i inside. order.following j found.1 i 0 inside) k below)

-- and so is all that it reaches
closed : (entities : List Entity) (indices : List ℕ) (n id k : ℕ) → IsSignalGraph entities → IsRenderOrder entities indices → has_id entities indices id ≡ true
    → reaches entities n id k ≡ true → has_id entities indices k ≡ true
unfolding reaches
closed entities indices zero id k sound order held reached = subst (λ (i : ℕ). has_id entities indices i ≡ true) (eqb-true id k reached) held
closed entities indices (suc n) id k sound order held reached =
    elim (cases_eq id k) [
      | inl same ↦ subst (λ (i : ℕ). has_id entities indices i ≡ true) same held
      | inr other ↦
          (let sources = signal_sources (entity entities id) in
          let later : list_any (λ s. reaches entities n s k) sources ≡ true =
          ap (λ (b : Bool). b || list_any (λ s. reaches entities n s k) sources) (sym (ne_eqb id k other)) ∙ reached in
          let found = any_at (λ s. reaches entities n s k) sources later in
          closed entities indices n (get_or sources found.0 0) k sound order (sources_held entities indices id found.0 sound order held found.1) found.2)
    ]

-- where the entity's index is there, so is all that it reaches
pub held_already : (entities : List Entity) (indices slice : List ℕ) (links id index : ℕ) → IsSignalGraph entities → is_clock (entity entities id).kind ≡ false
    → IsRenderOrder entities indices → index ≡ index_of entities id → slice ≡ indices → list_any (λ p. p == index) slice ≡ true
    → (k : ℕ) → has_id entities indices k ≡ (has_id entities indices k || reaches entities links id k)
held_already entities indices slice links id index sound signal order where_it_is same there k =
    let found = any_at (λ p. eqb p index) indices (subst (λ (xs : List ℕ). list_any (λ p. eqb p index) xs ≡ true) same there) in
    let here : get_or indices found.0 0 ≡ index_of entities id = eqb-true (get_or indices found.0 0) index found.2 ∙ where_it_is in
    let named : (at entities (get_or indices found.0 0)).id ≡ id = ap (λ (p : ℕ). (at entities p).id) here ∙ id_at entities id (signal_below entities id signal) in
    let held : has_id entities indices id ≡ true = list_any_at (λ p. eqb (at entities p).id id) indices found.0 0 found.1 (eq-eqb (at entities (get_or indices found.0 0)).id id named) in
    or_within (has_id entities indices k) (reaches entities links id k) (closed entities indices links id k sound order held)

-- one source more
pub held_more : (entities : List Entity) (links i : ℕ) (sources old mid new : List ℕ) → i < length sources
    → ((k : ℕ) → has_id entities mid k ≡ (has_id entities old k || list_any (λ s. reaches entities links s k) (take i sources)))
    → ((k : ℕ) → has_id entities new k ≡ (has_id entities mid k || reaches entities links (get_or sources i 0) k))
    → (k : ℕ) → has_id entities new k ≡ (has_id entities old k || list_any (λ s. reaches entities links s k) (take (i + 1) sources))
held_more entities links i sources old mid new below before after k =
    after k
    ∙ ap (λ (b : Bool). b || reaches entities links (get_or sources i 0) k) (before k)
    ∙ or_assoc (has_id entities old k) (list_any (λ s. reaches entities links s k) (take i sources)) (reaches entities links (get_or sources i 0) k)
    ∙ ap (λ (b : Bool). has_id entities old k || b) (sym (list_any_more (λ s. reaches entities links s k) sources i 0 below))

-- all sources
pub held_done : (entities : List Entity) (links i id : ℕ) (e : Entity) (sources old new : List ℕ) → is_clock (entity entities id).kind ≡ false
    → e ≡ entity entities id → sources ≡ e.sources → length sources ≤ i
    → ((k : ℕ) → has_id entities new k ≡ (has_id entities old k || list_any (λ s. reaches entities links s k) (take i sources)))
    → (k : ℕ) → has_id entities new k ≡ (has_id entities old k || list_any (λ s. reaches entities links s k) (signal_sources (entity entities id)))
held_done entities links i id e sources old new signal here own past before k =
    before k
    ∙ ap (λ (xs : List ℕ). has_id entities old k || list_any (λ s. reaches entities links s k) xs)
    (take_all i sources past ∙ own ∙ ap (λ (f : Entity). f.sources) here ∙ sym (signal_sources_of (entity entities id) signal))

-- the entity itself, after its sources
pub held_itself : (entities : List Entity) (links id index : ℕ) (old mid new : List ℕ) → is_clock (entity entities id).kind ≡ false → 0 < links
    → index ≡ index_of entities id → new ≡ mid ++ index ∷ []
    → ((k : ℕ) → has_id entities mid k ≡ (has_id entities old k || list_any (λ s. reaches entities (links - 1) s k) (signal_sources (entity entities id))))
    → (k : ℕ) → has_id entities new k ≡ (has_id entities old k || reaches entities links id k)
held_itself entities links id index old mid new signal some where_it_is pushed before k =
    let later = list_any (λ s. reaches entities (links - 1) s k) (signal_sources (entity entities id)) in
    let named : (at entities index).id ≡ id = ap (λ (p : ℕ). (at entities p).id) where_it_is ∙ id_at entities id (signal_below entities id signal) in
    ap (λ (ps : List ℕ). has_id entities ps k) pushed
    ∙ list_any-append (λ p. eqb (at entities p).id k) mid (index ∷ [])
    ∙ ap (λ (b : Bool). b || (eqb (at entities index).id k || false)) (before k)
    ∙ or_last (has_id entities old k) later (eqb (at entities index).id k)
    ∙ ap (λ (n : ℕ). has_id entities old k || (eqb n k || later)) named
    ∙ ap (λ (b : Bool). has_id entities old k || b) (sym (reaches_step entities links id k some))

-- the entity stands after its sources
pub order_more : (entities : List Entity) (links id index : ℕ) (old mid new : List ℕ) → IsSignalGraph entities → is_clock (entity entities id).kind ≡ false
    → index ≡ index_of entities id → new ≡ mid ++ index ∷ [] → has_id entities mid id ≡ false → IsRenderOrder entities mid
    → ((k : ℕ) → has_id entities mid k ≡ (has_id entities old k || list_any (λ s. reaches entities links s k) (signal_sources (entity entities id))))
    → IsRenderOrder entities new
unfolding entity
order_more entities links id index old mid new sound signal where_it_is pushed absent order before =
    subst (IsRenderOrder entities) (sym pushed)
    (record {
      inside = All-push (λ p. p < length entities) mid index order.inside (subst (λ (p : ℕ). p < length entities) (sym where_it_is) (signal_below entities id signal));
      signal =
          All-push (λ p. is_clock (at entities p).kind ≡ false) mid index order.signal
          (subst (λ (p : ℕ). is_clock (at entities p).kind ≡ false) (sym where_it_is) signal);
      apart = apart_more entities id index mid signal where_it_is absent order;
      following = λ k below. elim (cases_lt k (length mid)) [
        | inl inside ↦
            subst (λ (p : ℕ). All (λ s. has_id entities (take k (mid ++ index ∷ [])) s ≡ true) (signal_sources (at entities p)))
            (sym (get_or-append mid (index ∷ []) 0 k inside))
            (subst (λ (ps : List ℕ). All (λ s. has_id entities ps s ≡ true) (signal_sources (at entities (get_or mid k 0))))
            (sym (take-append-le k mid (index ∷ []) (omega arith))) (order.following k inside))
        | inr past ↦
            (let last : k ≡ length mid = omega (arith, length-append mid (index ∷ [])) in
            subst (λ (j : ℕ). All (λ s. has_id entities (take j (mid ++ index ∷ [])) s ≡ true) (signal_sources (at entities (get_or (mid ++ index ∷ []) j 0)))) (sym last)
            (subst (λ (p : ℕ). All (λ s. has_id entities (take (length mid) (mid ++ index ∷ [])) s ≡ true) (signal_sources (at entities p)))
            (sym (get_or-append_seam mid index [] 0 ∙ where_it_is))
            (subst (λ (ps : List ℕ). All (λ s. has_id entities ps s ≡ true) (signal_sources (at entities (index_of entities id))))
            (sym (take-append_seam mid (index ∷ []))) sources_there)))
      ];
    })
  where
    sources_there : All (λ s. has_id entities mid s ≡ true) (signal_sources (at entities (index_of entities id)))
    sources_there k d below =
        let sources = signal_sources (at entities (index_of entities id)) in
        let s = get_or sources k d in
        before s ∙ or_right (has_id entities old s) (list_any (λ t. reaches entities links t s) sources)
        (list_any_at (λ t. reaches entities links t s) sources k d below (reaches_self entities links s))

-- no indices
pub order_none : (entities : List Entity) (indices : List ℕ) → indices ≡ [] → IsRenderOrder entities indices
order_none entities indices none =
    subst (IsRenderOrder entities) (sym none)
    (record {
      inside = λ k d below. absurd (omega arith);
      signal = λ k d below. absurd (omega arith);
      apart = λ j k less below. absurd (omega arith);
      following = λ k below. absurd (omega arith);
    })

pub held_none : (entities : List Entity) (indices : List ℕ) (k : ℕ) → indices ≡ [] → has_id entities indices k ≡ false
held_none entities indices k none = ap (λ (ps : List ℕ). has_id entities ps k) none

-- one output terminal more
pub ends_more : (entities slice : List Entity) (domain i : ℕ) (e : Entity) (mid new : List ℕ) → slice ≡ entities → i < length slice → e ≡ get_or slice i e
    → is_end domain e ≡ true
    → ((k : ℕ) → has_id entities mid k ≡ list_any (λ f. is_end domain f && reaches entities (length entities) f.id k) (take i slice))
    → ((k : ℕ) → has_id entities new k ≡ (has_id entities mid k || reaches entities (length slice) e.id k))
    → (k : ℕ) → has_id entities new k ≡ list_any (λ f. is_end domain f && reaches entities (length entities) f.id k) (take (i + 1) slice)
ends_more entities slice domain i e mid new same below item end before after k =
    after k
    ∙ ap (λ (b : Bool). b || reaches entities (length slice) e.id k) (before k)
    ∙ ap (λ (b : Bool). list_any (λ f. is_end domain f && reaches entities (length entities) f.id k) (take i slice) || (b && reaches entities (length slice) e.id k)) (sym end)
    ∙ sym (tested_more entities slice domain i k e same below item)

-- another entity
pub ends_same : (entities slice : List Entity) (domain i : ℕ) (e : Entity) (indices : List ℕ) → slice ≡ entities → i < length slice → e ≡ get_or slice i e
    → is_end domain e ≡ false
    → ((k : ℕ) → has_id entities indices k ≡ list_any (λ f. is_end domain f && reaches entities (length entities) f.id k) (take i slice))
    → (k : ℕ) → has_id entities indices k ≡ list_any (λ f. is_end domain f && reaches entities (length entities) f.id k) (take (i + 1) slice)
ends_same entities slice domain i e indices same below item other before k =
    before k
    ∙ sym (or-false (list_any (λ f. is_end domain f && reaches entities (length entities) f.id k) (take i slice)))
    ∙ ap (λ (b : Bool). list_any (λ f. is_end domain f && reaches entities (length entities) f.id k) (take i slice) || (b && reaches entities (length slice) e.id k)) (sym other)
    ∙ sym (tested_more entities slice domain i k e same below item)

-- all output terminals
pub ends_all : (entities slice : List Entity) (domain i : ℕ) (indices : List ℕ) → slice ≡ entities → length slice ≤ i → IsRenderOrder entities indices
    → ((k : ℕ) → has_id entities indices k ≡ list_any (λ f. is_end domain f && reaches entities (length entities) f.id k) (take i slice))
    → IsOrderOf entities domain indices
unfolding depends_on
ends_all entities slice domain i indices same past order all = record {
  order = order;
  all = λ k.
      all k ∙ ap (λ (xs : List Entity). list_any (λ f. is_end domain f && reaches entities (length entities) f.id k) xs) (take_all i slice past ∙ same);
}

-- one entity more whose domain has an order, if it is an output terminal
pub passed_more : (slice : List Entity) (orders : List Order) (i : ℕ) (e : Entity) → i < length slice → e ≡ get_or slice i e
    → (is_output e.kind ≡ true → list_any (λ o. o.domain == e.clock) orders ≡ true)
    → ((k : ℕ) → k < i → is_output (at slice k).kind ≡ true → list_any (λ o. o.domain == (at slice k).clock) orders ≡ true)
    → (k : ℕ) → k < i + 1 → is_output (at slice k).kind ≡ true → list_any (λ o. o.domain == (at slice k).clock) orders ≡ true
passed_more slice orders i e below item here before =
    below_more (λ k. is_output (at slice k).kind ≡ true → list_any (λ o. o.domain == (at slice k).clock) orders ≡ true) i before
    (subst (λ (f : Entity). is_output f.kind ≡ true → list_any (λ o. o.domain == f.clock) orders ≡ true) (at_read slice i e below item) here)

-- no orders
pub each_none : (entities : List Entity) (orders : List Order) → orders ≡ [] → All (IsKeptOrder entities) orders
each_none entities orders none = subst (All (IsKeptOrder entities)) (sym none) (All-nil (IsKeptOrder entities))

-- with one order more
pub each_more : (entities : List Entity) (old new : List Order) (o : Order) → new ≡ old ++ o ∷ [] → All (IsKeptOrder entities) old → IsKeptOrder entities o
    → All (IsKeptOrder entities) new
each_more entities old new o pushed before here = subst (All (IsKeptOrder entities)) (sym pushed) (All-push (IsKeptOrder entities) old o before here)

pub known_more : (slice : List Entity) (old new : List Order) (o : Order) (i : ℕ) → new ≡ old ++ o ∷ []
    → ((k : ℕ) → k < i → is_output (at slice k).kind ≡ true → list_any (λ p. p.domain == (at slice k).clock) old ≡ true)
    → (k : ℕ) → k < i → is_output (at slice k).kind ≡ true → list_any (λ p. p.domain == (at slice k).clock) new ≡ true
known_more slice old new o i pushed before k below output =
    let test : Order → Bool = λ p. eqb p.domain (at slice k).clock in
    ap (list_any test) pushed ∙ list_any-append test old (o ∷ []) ∙ ap (λ (b : Bool). b || (test o || false)) (before k below output)

pub known_last : (old new : List Order) (o : Order) (domain : ℕ) → new ≡ old ++ o ∷ [] → o.domain ≡ domain → list_any (λ p. p.domain == domain) new ≡ true
known_last old new o domain pushed same =
    let test : Order → Bool = λ p. eqb p.domain domain in
    ap (list_any test) pushed ∙ list_any-append test old (o ∷ [])
    ∙ or_right (list_any test old) (test o || false) (ap (λ (b : Bool). b || false) (eq-eqb o.domain domain same))

-- all entities
pub orders_all : (entities slice : List Entity) (orders : List Order) (i : ℕ) → slice ≡ entities → length slice ≤ i
    → All (IsKeptOrder entities) orders
    → ((k : ℕ) → k < i → is_output (at slice k).kind ≡ true → list_any (λ o. o.domain == (at slice k).clock) orders ≡ true)
    → AreOrders entities orders
unfolding depends_on at
orders_all entities slice orders i same past each passed = record {
  each = each;
  others = λ domain none id.
      ap (λ (xs : List Entity). list_any (λ e. is_end domain e && reaches entities (length entities) e.id id) xs) (sym same)
      ∙ list_any_none (λ e. is_end domain e && reaches entities (length entities) e.id id) slice
      (λ k d below.
      subst (λ (e : Entity). (is_end domain e && reaches entities (length entities) e.id id) ≡ false) (get_or_default slice k nothing d below)
      (no_end domain (at slice k) orders (reaches entities (length entities) (at slice k).id id) none (passed k (omega arith))));
}
  where
    no_end : (domain : ℕ) (e : Entity) (os : List Order) (b : Bool) → list_any (λ o. o.domain == domain) os ≡ false
        → (is_output e.kind ≡ true → list_any (λ o. o.domain == e.clock) os ≡ true) → (is_end domain e && b) ≡ false
    no_end domain e os b none known = by_kind (is_output e.kind) (eqb e.clock domain) refl refl
      where
        by_kind : (output same : Bool) → is_output e.kind ≡ output → eqb e.clock domain ≡ same → ((output && same) && b) ≡ false
        by_kind false same o s = refl
        by_kind true false o s = refl
        by_kind true true o s =
            absurd (let clash : true ≡ false = sym (known o) ∙ ap (λ (d : ℕ). list_any (λ p. p.domain == d) os) (eqb-true e.clock domain s) ∙ none in cc)

-- the order at an index among those that are kept
pub order_at : (entities : List Entity) (orders : List Order) (i : ℕ) (o : Order) → i < length orders → o ≡ get_or orders i o → AreOrders entities orders
    → IsKeptOrder entities o
order_at entities orders i o below item are = subst (IsKeptOrder entities) (sym item) (are.each i o below)

-- the order of a domain that has none
pub order_of_none : (entities : List Entity) (orders : List Order) (domain i : ℕ) (indices : List ℕ) → length orders ≤ i → list_any (λ o. o.domain == domain) (take i orders) ≡ false
    → indices ≡ [] → AreOrders entities orders → IsOrderOf entities domain indices
order_of_none entities orders domain i indices past none empty are = record {
  order = order_none entities indices empty;
  all = λ id. held_none entities indices id empty ∙ sym (are.others domain (ap (list_any (λ (o : Order). eqb o.domain domain)) (sym (take_all i orders past)) ∙ none) id);
}

-- one order more that is of another domain
pub none_more : (orders : List Order) (domain i : ℕ) (o : Order) → i < length orders → o ≡ get_or orders i o → eqb o.domain domain ≡ false
    → list_any (λ p. p.domain == domain) (take i orders) ≡ false → list_any (λ p. p.domain == domain) (take (i + 1) orders) ≡ false
none_more orders domain i o below item other before =
    let test : Order → Bool = λ p. eqb p.domain domain in
    list_any_more test orders i o below ∙ ap (λ (b : Bool). b || test (get_or orders i o)) before ∙ ap test (sym item) ∙ other
