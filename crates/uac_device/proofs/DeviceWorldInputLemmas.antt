-- What a tick gives the input terminals, interface by interface.
use Rattle.std.proofs.Common.{◌≡◌, ◌≢◌, ◌∙◌, sym, refl, ap, subst, arith, ℕ, zero, suc, ◌<◌, ◌≤◌, ◌==◌, Bool, true, false, if◌then◌else◌, not, nat_eq, ℤ, List, [], ◌∷◌, Option, Some, None, length, get_or, map, position, slice_get, unwrap_or, eq-eqb}
use Rattle.std.specs.List.{IsDistinct, find, fold, position_or_len}
use Rattle.std.specs.Option.{option_and_then}
use Rattle.std.proofs.lemmas.Bool.{and_from, and_parts, eqb-true}
use Rattle.std.proofs.lemmas.List.{get_or-map, length-map}
use Rattle.std.proofs.lemmas.List.Folds.{find_at}
use Rattle.std.proofs.lemmas.List.Sums.{fails_before_first, position_or_len_is}
use Rattle.std.proofs.lemmas.List.Quantifiers.{position-Some}
use Rattle.std.proofs.lemmas.Map.Keys.{apart_from_distinct}
use Rattle.std.proofs.lemmas.Option.{same_Some, slice_get-get_or, slice_get_past}
use Rattle.uac_entities.specs.declared.entity.Entity.{Entity}
use Rattle.uac_entities.specs.declared.entity.EntityKind.{EntityKind}
use Rattle.uac_entities.specs.declared.entity.EntityKind.TheVariants as kind
use Rattle.uac_entities.specs.declared.stream.StreamInterface.{StreamInterface}
use Rattle.uac_topology_rules.specs.Clusters.{is_input}
use Rattle.uac_topology_rules.specs.Rules.{is_output}
use Rattle.uac_topology_rules.proofs.ListFindLemmas.{position_is, position_none}
use Rattle.uac_graph.specs.Meaning.{entity}
use Rattle.uac_graph.specs.Wiring.{silence}
use Rattle.uac_flow.specs.FlowStreams.{OutStream, next_taken}
use Rattle.uac_device.specs.declared.device_stream.Port.{Port}
use Rattle.uac_device.specs.DeviceWorld.{DeviceWorld, entity_in, input_of, is_jack, is_streamed, stream_to, streamed_frame}
use Rattle.uac_device.specs.Linked.{AreLinked}
use Rattle.uac_device.specs.DeviceStreams.{frame_given, frame_given_by, gives_to, port_of}

-- no entity is both
pub apart : (k : EntityKind) → is_input k ≡ true → is_output k ≡ true → ⊥
apart kind.OutputTerminal input output = cc
apart _ input output = cc

-- what is found by a key that no other has
pub find_own : {X : Type 0} (key : X → ℕ) (xs : List X) (k : ℕ) (d : X) → IsDistinct nat_eq (map key xs) → k < length xs
    → find (λ x. key x == key (get_or xs k d)) xs ≡ Some (get_or xs k d)
find_own key xs k d distinct below =
    find_at (λ x. key x == key (get_or xs k d)) xs ∙ ap (slice_get xs) here ∙ slice_get-get_or xs k d below
  where
    here : position_or_len (λ x. key x == key (get_or xs k d)) xs ≡ k
    here =
        position_or_len_is (λ x. key x == key (get_or xs k d)) xs k d (omega (arith, below))
        (λ j less.
        (let e : nat_eq (get_or (map key xs) j 0) (get_or (map key xs) k 0) ≡ false =
        apart_from_distinct nat_eq (map key xs) j k 0 distinct less (omega (arith, below, length-map xs key)) in
        ap (λ (n : ℕ). nat_eq n (key (get_or xs k d))) (sym (get_or-map key xs j d 0 (omega (arith, less, below))))
        ∙ ap (nat_eq (get_or (map key xs) j 0)) (sym (get_or-map key xs k d 0 below))
        ∙ e))
        (λ inside. eq-eqb (key (get_or xs k d)) (key (get_or xs k d)) refl)

-- ---- interface by interface

module _ (test : Port → Bool) (frame : Port → List ℤ) where
  pub given_none : (ps : List Port) (before : Option (List ℤ)) → ((j : ℕ) (d : Port) → j < length ps → test (get_or ps j d) ≡ false)
      → fold (λ f p. if test p then Some (frame p) else f) before ps ≡ before
  given_none [] before other = refl
  given_none (p ∷ ps) before other =
      ap (λ (b : Bool). fold (λ f q. if test q then Some (frame q) else f) (if b then Some (frame p) else before) ps) (other 0 p (omega arith))
      ∙ given_none ps before (λ j d below. other (suc j) d (omega (arith, below)))

  pub given_once : (ps : List Port) (before : Option (List ℤ)) (k : ℕ) (d : Port) → k < length ps → test (get_or ps k d) ≡ true
      → ((j : ℕ) (e : Port) → j < length ps → j ≢ k → test (get_or ps j e) ≡ false)
      → fold (λ f p. if test p then Some (frame p) else f) before ps ≡ Some (frame (get_or ps k d))
  given_once [] before k d below here other = absurd (omega (arith, below))
  given_once (p ∷ ps) before zero d below here other =
      ap (λ (b : Bool). fold (λ f q. if test q then Some (frame q) else f) (if b then Some (frame p) else before) ps) here
      ∙ given_none ps (Some (frame p)) (λ j e inside. other (suc j) e (omega (arith, inside)) (omega arith))
  given_once (p ∷ ps) before (suc k) d below here other =
      ap (λ (b : Bool). fold (λ f q. if test q then Some (frame q) else f) (if b then Some (frame p) else before) ps) (other 0 p (omega arith) (omega arith))
      ∙ given_once ps before k d (omega (arith, below)) here (λ j e inside differ. other (suc j) e (omega (arith, inside)) (omega (arith, differ)))

-- ---- in a world

false_where : (b : Bool) → (b ≡ true → ⊥) → b ≡ false
false_where true never = absurd (never refl)
false_where false never = refl

-- the port at an index
port_at : (entities : List Entity) (streams : List StreamInterface) (k : ℕ) (d : Port) (e : StreamInterface) → k < length streams
    → get_or (map (port_of entities) streams) k d ≡ port_of entities (get_or streams k e)
port_at entities streams k d e below = get_or-map (port_of entities) streams k e d below

-- where an interface gives a terminal a frame, that is an input terminal of the bus in the domain
gives_where : (w : DeviceWorld) (domain id k : ℕ) (e : StreamInterface) → AreLinked w.function → k < length w.function.streams
    → gives_to domain id (port_of w.function.entities (get_or w.function.streams k e)) ≡ true
    → (is_streamed domain (entity_in w id) ≡ true) × ((get_or w.function.streams k e).out ≡ true) × ((get_or w.function.streams k e).terminal ≡ id)
gives_where w domain id k e linked below gives =
    let s = get_or w.function.streams k e in
    let a = and_parts s.out _ gives in
    let b = and_parts ((entity w.function.entities s.terminal).clock == domain) _ a.1 in
    let at : s.terminal ≡ id = eqb-true s.terminal id b.1 in
    let bus = linked.inputs k e below a.0 in
    let not_jack : not (is_jack (entity w.function.entities s.terminal)) ≡ true = ap not bus.1 in (
      subst (λ (n : ℕ). is_streamed domain (entity w.function.entities n) ≡ true) at
          (and_from (is_input (entity w.function.entities s.terminal).kind) _ bus.0 (and_from (not (is_jack (entity w.function.entities s.terminal))) _ not_jack b.0)),
      a.0,
      at,
    )

-- a terminal that gets no frame of the bus
pub given_nothing : (w : DeviceWorld) (domain id : ℕ) (before : Option (List ℤ)) → AreLinked w.function → is_streamed domain (entity_in w id) ≡ false
    → frame_given_by domain id w.outs (map (port_of w.function.entities) w.function.streams) before ≡ before
given_nothing w domain id before linked other =
    given_none (gives_to domain id) (λ p. frame_given (w.outs p.interface) p) (map (port_of w.function.entities) w.function.streams) before
    (λ j d inside.
    (let below : j < length w.function.streams = omega (arith, inside, length-map w.function.streams (port_of w.function.entities)) in
    let e = no_interface in
    ap (gives_to domain id) (port_at w.function.entities w.function.streams j d e below)
    ∙ false_where (gives_to domain id (port_of w.function.entities (get_or w.function.streams j e)))
    (λ gives. (let is = (gives_where w domain id j e linked below gives).0 in cc))))
  where
    no_interface : StreamInterface
    no_interface = record { number = 0; terminal = 0; out = false; settings = [] }

-- one that gets one
given_frame : (w : DeviceWorld) (domain id k : ℕ) (before : Option (List ℤ)) → AreLinked w.function
    → ((s : StreamInterface) → s.out ≡ false → is_output (entity w.function.entities s.terminal).kind ≡ true → s.terminal ≡ id → ⊥)
    → 1 ≤ (entity_in w id).cluster.channels → is_streamed domain (entity_in w id) ≡ true → position (λ s. s.terminal == id) w.function.streams ≡ Some k
    → frame_given_by domain id w.outs (map (port_of w.function.entities) w.function.streams) before ≡ Some (streamed_frame w id)
unfolding streamed_frame
given_frame w domain id k before linked never some bus found =
    given_once (gives_to domain id) (λ p. frame_given (w.outs p.interface) p) ps before k (port_of entities e) (omega (arith, at.0, sized)) here others
    ∙ ap (λ (p : Port). Some (frame_given (w.outs p.interface) p)) (port_at entities streams k (port_of entities e) e at.0)
    ∙ ap (λ (n : ℕ). Some (unwrap_or (option_and_then next_taken (w.outs s.number)) (silence (entity entities n).cluster.channels))) is
    ∙ ap (λ (o : Option OutStream). Some (unwrap_or (option_and_then next_taken o) (silence (entity entities id).cluster.channels))) (sym to)
  where
    entities : List Entity
    entities = w.function.entities

    streams : List StreamInterface
    streams = w.function.streams

    e : StreamInterface
    e = record { number = 0; terminal = 0; out = false; settings = [] }

    s : StreamInterface
    s = get_or streams k e

    ps : List Port
    ps = map (port_of entities) streams

    sized : length ps ≡ length streams
    sized = length-map streams (port_of entities)

    at : (k < length streams) × ((s.terminal == id) ≡ true) × ((n : ℕ) → n < k → ((get_or streams n e).terminal == id) ≡ false)
    at = position-Some (λ (t : StreamInterface). t.terminal == id) streams k e found

    is : s.terminal ≡ id
    is = eqb-true s.terminal id at.1

    to : stream_to w id ≡ w.outs s.number
    to =
        ap (option_and_then (λ (t : StreamInterface). w.outs t.number))
        (find_at (λ (t : StreamInterface). t.terminal == id) streams ∙ ap (slice_get streams) (position_is (λ (t : StreamInterface). t.terminal == id) streams k found).1
        ∙ slice_get-get_or streams k e at.0)

    out : s.out ≡ true
    out = by s.out refl
      where
        by : (b : Bool) → s.out ≡ b → b ≡ true
        by true same = refl
        by false same =
            absurd (never s same (linked.outputs k e at.0 same (subst (λ (n : ℕ). 1 ≤ (entity entities n).cluster.channels) (sym is) some)) is)

    domains : ((entity entities s.terminal).clock == domain) ≡ true
    domains =
        subst (λ (n : ℕ). ((entity entities n).clock == domain) ≡ true) (sym is)
        (and_parts (not (is_jack (entity entities id))) _ (and_parts (is_input (entity entities id).kind) _ bus).1).1

    here : gives_to domain id (get_or ps k (port_of entities e)) ≡ true
    here =
        ap (gives_to domain id) (port_at entities streams k (port_of entities e) e at.0)
        ∙ and_from s.out _ out (and_from ((entity entities s.terminal).clock == domain) _ domains at.1)

    others : (j : ℕ) (d : Port) → j < length ps → j ≢ k → gives_to domain id (get_or ps j d) ≡ false
    others j d inside differ =
        let below : j < length streams = omega (arith, inside, sized) in
        ap (gives_to domain id) (port_at entities streams j d e below)
        ∙ false_where (gives_to domain id (port_of entities (get_or streams j e)))
        (λ gives.
        (let there = gives_where w domain id j e linked below gives in
        let alone = linked.alone j e below there.1 in
        let same : position (λ (t : StreamInterface). t.terminal == id) streams ≡ Some j =
        ap (λ (n : ℕ). position (λ (t : StreamInterface). t.terminal == n) streams) (sym there.2) ∙ alone in
        differ (same_Some j k (sym same ∙ found))))

-- so each input terminal is given its frame
pub given_input : (w : DeviceWorld) (domain id : ℕ) (before : Option (List ℤ)) → AreLinked w.function
    → is_input (entity_in w id).kind ≡ true → 1 ≤ (entity_in w id).cluster.channels → before ≡ Some (w.given id)
    → (is_jack (entity_in w id) ≡ false → find (λ s. s.terminal == id) w.function.streams ≡ None → w.given id ≡ silence (entity_in w id).cluster.channels)
    → frame_given_by domain id w.outs (map (port_of w.function.entities) w.function.streams) before ≡ Some (input_of domain w id)
unfolding input_of streamed_frame
given_input w domain id before linked input some held unlinked = by_streamed (is_streamed domain (entity_in w id)) refl
  where
    streams : List StreamInterface
    streams = w.function.streams

    given : Option (List ℤ)
    given = frame_given_by domain id w.outs (map (port_of w.function.entities) w.function.streams) before

    nothing_streamed : find (λ s. s.terminal == id) streams ≡ None → streamed_frame w id ≡ silence (entity_in w id).cluster.channels
    nothing_streamed none =
        ap (λ (o : Option StreamInterface). unwrap_or (option_and_then next_taken (option_and_then (λ (s : StreamInterface). w.outs s.number) o)) (silence (entity_in w id).cluster.channels)) none

    by_index : is_streamed domain (entity_in w id) ≡ true → (o : Option ℕ) → position (λ s. s.terminal == id) streams ≡ o → given ≡ Some (streamed_frame w id)
    by_index bus (Some k) found =
        given_frame w domain id k before linked
        (λ s other output at. apart (entity_in w id).kind input (subst (λ (n : ℕ). is_output (entity w.function.entities n).kind ≡ true) at output)) some bus found
    by_index bus None nowhere =
        given_none (gives_to domain id) (λ p. frame_given (w.outs p.interface) p) (map (port_of w.function.entities) streams) before
        (λ j d inside.
        (let below : j < length streams = omega (arith, inside, length-map streams (port_of w.function.entities)) in
        ap (gives_to domain id) (port_at w.function.entities streams j d no_interface below)
        ∙ false_where (gives_to domain id (port_of w.function.entities (get_or streams j no_interface)))
        (λ gives. elsewhere j below (gives_where w domain id j no_interface linked below gives).2)))
        ∙ held
        ∙ ap Some (unlinked (not_jack (is_jack (entity_in w id)) (and_parts (not (is_jack (entity_in w id))) _ (and_parts (is_input (entity_in w id).kind) _ bus).1).0) none
        ∙ sym (nothing_streamed none))
      where
        no_interface : StreamInterface
        no_interface = record { number = 0; terminal = 0; out = false; settings = [] }

        past : position_or_len (λ (s : StreamInterface). s.terminal == id) streams ≡ length streams
        past = position_none (λ (s : StreamInterface). s.terminal == id) streams nowhere

        none : find (λ s. s.terminal == id) streams ≡ None
        none = find_at (λ (s : StreamInterface). s.terminal == id) streams ∙ slice_get_past streams (position_or_len (λ (s : StreamInterface). s.terminal == id) streams) (omega (arith, past))

        elsewhere : (j : ℕ) → j < length streams → (get_or streams j no_interface).terminal ≡ id → ⊥
        elsewhere j below at =
            let e : ((get_or streams j no_interface).terminal == id) ≡ false = fails_before_first (λ (s : StreamInterface). s.terminal == id) streams j no_interface (omega (arith, below, past)) in
            let f : ((get_or streams j no_interface).terminal == id) ≡ true = eq-eqb (get_or streams j no_interface).terminal id at in
            cc

        not_jack : (b : Bool) → not b ≡ true → b ≡ false
        not_jack true e = absurd (cc)
        not_jack false e = refl

    by_streamed : (b : Bool) → is_streamed domain (entity_in w id) ≡ b → given ≡ Some (if b then streamed_frame w id else w.given id)
    by_streamed true bus = by_index bus (position (λ s. s.terminal == id) streams) refl
    by_streamed false other = given_nothing w domain id before linked other ∙ held
