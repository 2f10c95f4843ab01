-- The elements of a view are declared controls of its entities.
use Rattle.std.proofs.Common.{◌≡◌, ◌∙◌, refl, ap, sym, subst, ℕ, ◌+◌, ◌<◌, ◌==◌, nat_eq, nat_lt, Bool, true, false, if◌then◌else◌, zero, suc, List, [], ◌∷◌, ◌++◌, map, length, get_or, sum, Option, Some, None, add-one, append_assoc, arith}
use Rattle.std.specs.List.{All, AllByRecursion, IsDistinct, cons_option, filter_map, flat_map, range_with_len}
use Rattle.std.specs.Option.{option_and_then}
use Rattle.std.proofs.lemmas.Bool.{eqb-true, eqb-false, eq-eqb}
use Rattle.std.proofs.lemmas.List.Elements.{All-from_recursion, filter_map-append}
use Rattle.uac_entities.specs.EntityInterfaces.{entity_by_id}
use Rattle.uac_entities.specs.declared.entity.Entity.{Entity}
use Rattle.uac_topology.specs.Function.{FunctionFields}
use Rattle.uac_topology.specs.Topology.{IsSoundFunction}
use Rattle.uac_store.specs.ControlTable.{IsSmall, selectors_of}
use Rattle.uac_store.specs.StoreControls.{IsKeyed, count_of, pins_of}
use Rattle.uac_store.specs.Keyed.{key_of}
use Rattle.uac_store.proofs.StoreControlsSoundLemmas.{keyed}
use Rattle.uac_request.specs.Requests.{is_declared_on, is_writable_on}
use Rattle.uac_mixer.specs.declared.kinds.ElementKind.{ElementKind}
use Rattle.uac_mixer.specs.declared.element.Element.{Element}
use Rattle.uac_mixer.specs.MixerElements.{control_elements, element_on, entity_elements, kind_at, element_list, with_no_value}
use Rattle.uac_mixer.specs.ViewWorld.{IsViewOf, ViewWorld}

-- a declared control of these entities
pub record IsElementOf (entities : List Entity) (x : Element) : Type 0 where
  pub entity : Entity
  pub found : entity_by_id entities x.key.entity ≡ Some entity
  pub shows : kind_at entity.kind x.key.selector ≡ Some x.kind
  pub channel : nat_lt x.key.channel (count_of entities entity) ≡ true
  pub declared : is_declared_on entity.kind entity x.key.selector x.key.channel ≡ true

-- ---- lists

pub joined : {X : Type 0} (P : X → Type 0) (xs ys : List X) → AllByRecursion P xs → AllByRecursion P ys → AllByRecursion P (xs ++ ys)
joined P [] ys h g = g
joined P (x ∷ xs) ys h g = (h.0, joined P xs ys h.1 g)

flat : {X Y : Type 0} (P : Y → Type 0) (f : X → List Y) (xs : List X) → AllByRecursion (λ x. AllByRecursion P (f x)) xs → AllByRecursion P (flat_map f xs)
flat P f [] h = tt
flat P f (x ∷ xs) h = joined P (f x) (flat_map f xs) h.0 (flat P f xs h.1)

pub chosen : {X Y : Type 0} (P : Y → Type 0) (g : X → Option Y) (xs : List X) → AllByRecursion (λ x. (y : Y) → g x ≡ Some y → P y) xs → AllByRecursion P (filter_map g xs)
chosen P g [] h = tt
chosen {Y = Y} P g (x ∷ xs) h = from (g x) refl (chosen P g xs h.1) where
  from : (o : Option Y) → g x ≡ o → AllByRecursion P (filter_map g xs) → AllByRecursion P (cons_option o (filter_map g xs))
  from None is rest = rest
  from (Some y) is rest = (h.0 y is, rest)

-- what is so of each number below a bound
counted : (P : ℕ → Type 0) (from n : ℕ) → ((i : ℕ) → i < from + n → P i) → AllByRecursion P (range_with_len from n)
counted P from zero h = tt
counted P from (suc n) h = (h from (omega arith), counted P (from + 1) n (λ i below. h i (omega arith)))

pub every : {X : Type 0} (P : X → Type 0) (xs : List X) → ((x : X) → P x) → AllByRecursion P xs
every P [] h = tt
every P (x ∷ xs) h = (h x, every P xs h)

pub weaker : {X : Type 0} (P Q : X → Type 0) (xs : List X) → ((x : X) → P x → Q x) → AllByRecursion P xs → AllByRecursion Q xs
weaker P Q [] h all = tt
weaker P Q (x ∷ xs) h all = (h x all.0, weaker P Q xs h all.1)

pub unmapped : {X Y : Type 0} (P : Y → Type 0) (f : X → Y) (xs : List X) → AllByRecursion P (map f xs) → AllByRecursion (λ x. P (f x)) xs
unmapped P f [] all = tt
unmapped P f (x ∷ xs) all = (all.0, unmapped P f xs all.1)

-- ---- each entity is the one with its id

-- none after an entity has its id
none_following : (x e : Entity) (ys : List Entity) → AllByRecursion (λ y. nat_eq x.id y ≡ false) (map (λ e. e.id) ys) → x.id ≡ e.id → entity_by_id ys e.id ≡ Some e → false ≡ true
unfolding entity_by_id
none_following x e [] all same found = cc
none_following x e (y ∷ ys) all same found = step (y.id == e.id) refl found (none_following x e ys all.1 same) where
  step : (b : Bool) → (y.id == e.id) ≡ b → (if b then Some y else entity_by_id ys e.id) ≡ Some e → (entity_by_id ys e.id ≡ Some e → false ≡ true) → false ≡ true
  step true here is rest = (let it : x.id ≡ y.id = same ∙ sym (eqb-true y.id e.id here) in absurd (eqb-false x.id y.id all.0 it))
  step false there is rest = rest is

apart_named : (x : Entity) (xs : List Entity) (e : Entity) → AllByRecursion (λ y. nat_eq x.id y ≡ false) (map (λ e. e.id) xs) → entity_by_id xs e.id ≡ Some e → entity_by_id (x ∷ xs) e.id ≡ Some e
unfolding entity_by_id
apart_named x xs e apart is = from (x.id == e.id) refl where
  from : (b : Bool) → (x.id == e.id) ≡ b → (if b then Some x else entity_by_id xs e.id) ≡ Some e
  from true here = (let no : false ≡ true = none_following x e xs apart (eqb-true x.id e.id here) is in cc)
  from false there = is

named_itself : (xs : List Entity) → IsDistinct nat_eq (map (λ e. e.id) xs) → AllByRecursion (λ e. entity_by_id xs e.id ≡ Some e) xs
unfolding entity_by_id IsDistinct
named_itself [] distinct = tt
named_itself (x ∷ xs) distinct = (
  (let self : (x.id == x.id) ≡ true = eq-eqb x.id x.id refl in rw self refl),
  weaker (λ e. entity_by_id xs e.id ≡ Some e) (λ e. entity_by_id (x ∷ xs) e.id ≡ Some e) xs (λ e is. apart_named x xs e distinct.0 is) (named_itself xs distinct.1),
)

-- ---- the elements

-- an element as it is listed
abbrev unread_on : Entity → ℕ → ℕ → ElementKind → Element
unread_on e s c k = record { key = key_of e.id s c; kind = k; writable = is_writable_on e.kind e s c; value = None }

-- what it is
from_control : (entities : List Entity) (e : Entity) (s c : ℕ) (y : Element) → entity_by_id entities e.id ≡ Some e → c < count_of entities e → element_on e s c ≡ Some y → IsElementOf entities y
from_control entities e s c y found below is = of_kind (kind_at e.kind s) refl is where
  if_declared : (k : ElementKind) (b : Bool) → kind_at e.kind s ≡ Some k → is_declared_on e.kind e s c ≡ b → (if b then Some (unread_on e s c k) else None) ≡ Some y → IsElementOf entities y
  if_declared k true shows declared is =
      let same : unread_on e s c k ≡ y = cc in
      let within : nat_lt c (count_of entities e) ≡ true = grind arith in
      subst (IsElementOf entities) same (record { entity = e; found = found; shows = shows; channel = within; declared = declared })
  if_declared k false shows declared is = cc

  of_kind : (o : Option ElementKind) → kind_at e.kind s ≡ o → option_and_then (λ k. if is_declared_on e.kind e s c then Some (unread_on e s c k) else None) o ≡ Some y → IsElementOf entities y
  of_kind None shows is = cc
  of_kind (Some k) shows is = if_declared k (is_declared_on e.kind e s c) shows refl is

-- what is so of each element of a control, and of an entity
pub in_control : (P : Element → Type 0) (entities : List Entity) (e : Entity) (s : ℕ)
    → ((c : ℕ) (y : Element) → c < count_of entities e → element_on e s c ≡ Some y → P y) → AllByRecursion P (control_elements entities e s)
unfolding control_elements
in_control P entities e s each =
    chosen P (element_on e s) (range_with_len 0 (count_of entities e))
    (counted (λ c. (y : Element) → element_on e s c ≡ Some y → P y) 0 (count_of entities e) (λ c below y is. each c y (omega arith) is))

pub in_entity : (P : Element → Type 0) (entities : List Entity) (e : Entity)
    → ((s c : ℕ) (y : Element) → c < count_of entities e → element_on e s c ≡ Some y → P y) → AllByRecursion P (entity_elements entities e)
unfolding entity_elements
in_entity P entities e each =
    flat P (control_elements entities e) (range_with_len 1 (selectors_of e.kind))
    (every (λ s. AllByRecursion P (control_elements entities e s)) (range_with_len 1 (selectors_of e.kind))
    (λ s. in_control P entities e s (each s)))

of_entity : (entities : List Entity) (e : Entity) → entity_by_id entities e.id ≡ Some e → AllByRecursion (IsElementOf entities) (entity_elements entities e)
of_entity entities e found = in_entity (IsElementOf entities) entities e (λ s c y below is. from_control entities e s c y found below is)

pub all_listed : (entities : List Entity) → IsDistinct nat_eq (map (λ e. e.id) entities) → AllByRecursion (IsElementOf entities) (element_list entities)
unfolding element_list
all_listed entities distinct =
    flat (IsElementOf entities) (entity_elements entities) entities
    (weaker (λ e. entity_by_id entities e.id ≡ Some e) (λ e. AllByRecursion (IsElementOf entities) (entity_elements entities e)) entities
    (λ e found. of_entity entities e found) (named_itself entities distinct))

-- what is so of it for each kind
as_listed : (P : Element → Type 0) (e : Entity) (s c : ℕ) (y : Element) → ((k : ElementKind) → P (unread_on e s c k)) → element_on e s c ≡ Some y → P y
as_listed P e s c y each is = of_kind (kind_at e.kind s) is where
  if_declared : (k : ElementKind) (b : Bool) → (if b then Some (unread_on e s c k) else None) ≡ Some y → P y
  if_declared k true is = (let same : unread_on e s c k ≡ y = cc in subst P same (each k))
  if_declared k false is = cc

  of_kind : (o : Option ElementKind) → option_and_then (λ k. if is_declared_on e.kind e s c then Some (unread_on e s c k) else None) o ≡ Some y → P y
  of_kind None is = cc
  of_kind (Some k) is = if_declared k (is_declared_on e.kind e s c) is

-- it has the key of its control
pub keyed_on : (e : Entity) (s c : ℕ) (y : Element) → element_on e s c ≡ Some y → y.key ≡ key_of e.id s c
keyed_on e s c y is = as_listed (λ (x : Element). x.key ≡ key_of e.id s c) e s c y (λ k. refl) is

-- none of them is read
pub none_read : (entities : List Entity) → AllByRecursion (λ (x : Element). x.value ≡ None) (element_list entities)
unfolding element_list
none_read entities =
    flat (λ (x : Element). x.value ≡ None) (entity_elements entities) entities
    (every (λ (e : Entity). AllByRecursion (λ (x : Element). x.value ≡ None) (entity_elements entities e)) entities
    (λ e. in_entity (λ (x : Element). x.value ≡ None) entities e (λ s c y below is. as_listed (λ (x : Element). x.value ≡ None) e s c y (λ k. refl) is)))

-- an element is what it is, read or not
as_read : (entities : List Entity) (x : Element) → IsElementOf entities (with_no_value x) → IsElementOf entities x
as_read entities x is = record { entity = is.entity; found = is.found; shows = is.shows; channel = is.channel; declared = is.declared }

pub members : (function : FunctionFields) (view : ViewWorld) → IsSoundFunction function → IsViewOf function.entities view → All (IsElementOf function.entities) view.elements
members function view sound is =
    All-from_recursion (IsElementOf function.entities) view.elements
    (weaker (λ x. IsElementOf function.entities (with_no_value x)) (IsElementOf function.entities) view.elements (as_read function.entities)
    (unmapped (IsElementOf function.entities) with_no_value view.elements
    (subst (λ xs. AllByRecursion (IsElementOf function.entities) xs) (sym is) (all_listed function.entities (keyed function sound).apart))))

-- ---- listing

range_more : (a n : ℕ) → range_with_len a (suc n) ≡ range_with_len a n ++ (a + n) ∷ []
range_more a zero = (let e : a ≡ a + 0 = omega arith in ap (λ (i : ℕ). i ∷ []) e)
range_more a (suc n) = (let e : a + 1 + n ≡ a + suc n = omega arith in ap (λ (xs : List ℕ). a ∷ xs) (range_more (a + 1) n ∙ ap (λ (i : ℕ). range_with_len (a + 1) n ++ i ∷ []) e))

-- one channel more
pub channel_more : (e : Entity) (s n : ℕ) (before now after : List Element) → after ≡ now ++ cons_option (element_on e s n) [] → now ≡ before ++ filter_map (element_on e s) (range_with_len 0 n)
    → after ≡ before ++ filter_map (element_on e s) (range_with_len 0 (n + 1))
channel_more e s n before now after added upto =
    let none_before : 0 + n ≡ n = omega arith in
    let next : filter_map (element_on e s) (range_with_len 0 (suc n)) ≡ filter_map (element_on e s) (range_with_len 0 n) ++ cons_option (element_on e s n) [] =
    ap (filter_map (element_on e s)) (range_more 0 n ∙ ap (λ (i : ℕ). range_with_len 0 n ++ i ∷ []) none_before) ∙ filter_map-append (element_on e s) (range_with_len 0 n) (n ∷ []) in
    added ∙ ap (λ (xs : List Element). xs ++ cons_option (element_on e s n) []) upto
    ∙ append_assoc before (filter_map (element_on e s) (range_with_len 0 n)) (cons_option (element_on e s n) [])
    ∙ ap (λ (xs : List Element). before ++ xs) (sym next ∙ ap (λ (i : ℕ). filter_map (element_on e s) (range_with_len 0 i)) (sym (add-one n)))

-- each mixer is small
pub small_at : (items all : List Entity) (i : ℕ) (e : Entity) → items ≡ all → IsKeyed all → i < length items → e ≡ get_or items i e → IsSmall e.kind (sum (pins_of all e)) e.cluster.channels
small_at items all i e same keys within is =
    let below : i < length all = subst (λ (xs : List Entity). i < length xs) same within in
    let here : e ≡ get_or all i e = is ∙ ap (λ (xs : List Entity). get_or xs i e) same in
    subst (λ (x : Entity). IsSmall x.kind (sum (pins_of all x)) x.cluster.channels) (sym here) (keys.small i e below)
