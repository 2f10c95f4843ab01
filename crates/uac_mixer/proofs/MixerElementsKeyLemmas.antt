-- No two elements of a view have one key, so a request for one of them leaves the others.
use Rattle.std.proofs.Common.{◌≡◌, ◌∙◌, refl, ap, sym, subst, arith, ℕ, zero, suc, ◌<◌, ◌==◌, ◌&&◌, ◌||◌, nat_eq, Bool, true, false, if◌then◌else◌, List, [], ◌∷◌, ◌++◌, map, length, get_or, slice_get, slice_set, Option, Some, None, inl, inr}
use Rattle.std.specs.List.{AllByRecursion, IsDistinct, cons_option, filter_map, flat_map, range_with_len}
use Rattle.std.proofs.lemmas.Bool.{and_cases, and_left, and_right, ne_eqb, or_parts}
use Rattle.std.proofs.lemmas.List.Elements.{All-from_recursion}
use Rattle.std.proofs.lemmas.List.FromFn.{get_or-range_with_len, length-range_with_len}
use Rattle.std.proofs.lemmas.Map.Keys.{IsDistinct-from_apart}
use Rattle.std.proofs.lemmas.Option.{get_or_from_slice_get, slice_get_within}
use Rattle.uac_entities.specs.declared.entity.Entity.{Entity}
use Rattle.uac_store.specs.declared.keys.Key.{Key}
use Rattle.uac_store.specs.ControlTable.{selectors_of}
use Rattle.uac_store.specs.StoreControls.{count_of}
use Rattle.uac_store.specs.Keyed.{same_key}
use Rattle.uac_store.proofs.KeyedLemmas.{key_laws}
use Rattle.uac_request.specs.Requests.{AnswerFields, key_named, low}
use Rattle.uac_request.specs.declared.setup.Setup.{Setup}
use Rattle.uac_mixer.specs.declared.element.Element.{Element}
use Rattle.uac_mixer.specs.MixerElements.{control_elements, element_on, entity_elements, element_list, with_no_value}
use Rattle.uac_mixer.specs.Readable.{is_for_any}
use Rattle.uac_mixer.specs.ViewTransfers.{after_get, after_set, element_after, gets, is_for, sets, value_after, view_after}
use Rattle.uac_mixer.specs.ViewWorld.{IsViewOf, ViewWorld}
use Rattle.uac_mixer.proofs.ViewTransfersLemmas.{all_left, view_left}
use Rattle.uac_mixer.proofs.MixerElementsListLemmas.{chosen, every, in_control, in_entity, joined, keyed_on, unmapped, weaker}
use Rattle.uac_mixer.proofs.ViewLinksReadLemmas.{element_there}

-- ---- lists of which no two elements are the same

apart_joined : {Y : Type 0} (same : Y → Y → Bool) (xs ys : List Y) → IsDistinct same xs → IsDistinct same ys
    → AllByRecursion (λ x. AllByRecursion (λ y. same x y ≡ false) ys) xs → IsDistinct same (xs ++ ys)
unfolding IsDistinct
apart_joined same [] ys these those far = those
apart_joined same (x ∷ xs) ys these those far =
    (joined (λ y. same x y ≡ false) xs ys these.0 far.0, apart_joined same xs ys these.1 those far.1)

apart_unmapped : {X Y : Type 0} (same : Y → Y → Bool) (f : X → Y) (xs : List X)
    → IsDistinct same (map f xs) → IsDistinct (λ x y. same (f x) (f y)) xs
unfolding IsDistinct
apart_unmapped same f [] apart = tt
apart_unmapped same f (x ∷ xs) apart = (unmapped (λ y. same (f x) y ≡ false) f xs apart.0, apart_unmapped same f xs apart.1)

-- numbers in a row differ
pub numbers_apart : (from n : ℕ) → IsDistinct nat_eq (range_with_len from n)
numbers_apart from n =
    IsDistinct-from_apart nat_eq (range_with_len from n)
    (λ i j d before within. apart_at i j d before (let long = length-range_with_len from n in omega (arith, within))) where
      apart_at : (i j d : ℕ) → i < j → j < n → nat_eq (get_or (range_with_len from n) i d) (get_or (range_with_len from n) j d) ≡ false
      apart_at i j d before within =
          let here = get_or-range_with_len from n i d (omega arith) in
          let there = get_or-range_with_len from n j d within in
          ne_eqb (get_or (range_with_len from n) i d) (get_or (range_with_len from n) j d) (λ same. absurd (omega (arith, here, there, same)))

-- what is made of things with tags of their own: of two that differ in the tag none is the other
module _ {X Y : Type 0} (same : Y → Y → Bool) (tag : X → ℕ) (of : Y → ℕ)
    (differ : (y z : Y) → nat_eq (of y) (of z) ≡ false → same y z ≡ false) where
  other : (x z : X) (y w : Y) → of y ≡ tag x → of w ≡ tag z → nat_eq (tag x) (tag z) ≡ false → same y w ≡ false
  other x z y w here there apart = differ y w ((λ j. nat_eq (here j) (there j)) ∙ apart)

  chosen_apart : (pick : X → Option Y) → ((x : X) (y : Y) → pick x ≡ Some y → of y ≡ tag x) → (xs : List X)
      → IsDistinct (λ x z. nat_eq (tag x) (tag z)) xs → IsDistinct same (filter_map pick xs)
  unfolding IsDistinct
  chosen_apart pick tagged [] apart = tt
  chosen_apart pick tagged (x ∷ xs) apart = from (pick x) refl (chosen_apart pick tagged xs apart.1) where
    from : (o : Option Y) → pick x ≡ o → IsDistinct same (filter_map pick xs) → IsDistinct same (cons_option o (filter_map pick xs))
    from None is rest = rest
    from (Some y) is rest = (
      chosen (λ w. same y w ≡ false) pick xs
          (weaker (λ z. nat_eq (tag x) (tag z) ≡ false) (λ z. (w : Y) → pick z ≡ Some w → same y w ≡ false) xs
          (λ z far w is_w. other x z y w (tagged x y is) (tagged z w is_w) far) apart.0),
      rest,
    )

  flat_apart : (part : X → List Y) (xs : List X) → AllByRecursion (λ x. AllByRecursion (λ y. of y ≡ tag x) (part x)) xs
      → AllByRecursion (λ x. IsDistinct same (part x)) xs → IsDistinct (λ x z. nat_eq (tag x) (tag z)) xs
      → IsDistinct same (flat_map part xs)
  unfolding IsDistinct
  flat_apart part [] tagged each apart = tt
  flat_apart part (x ∷ xs) tagged each apart =
      apart_joined same (part x) (flat_map part xs) each.0 (flat_apart part xs tagged.1 each.1 apart.1)
      (weaker (λ y. of y ≡ tag x) (λ y. AllByRecursion (λ w. same y w ≡ false) (flat_map part xs)) (part x)
      (λ y is. far y is xs apart.0 tagged.1) tagged.0) where
        far : (y : Y) → of y ≡ tag x → (zs : List X) → AllByRecursion (λ z. nat_eq (tag x) (tag z) ≡ false) zs
            → AllByRecursion (λ z. AllByRecursion (λ w. of w ≡ tag z) (part z)) zs
            → AllByRecursion (λ w. same y w ≡ false) (flat_map part zs)
        far y is [] apart tagged = tt
        far y is (z ∷ zs) apart tagged =
            joined (λ w. same y w ≡ false) (part z) (flat_map part zs)
            (weaker (λ w. of w ≡ tag z) (λ w. same y w ≡ false) (part z) (λ w is_w. other x z y w is is_w apart.0) tagged.0)
            (far y is zs apart.1 tagged.1)

-- ---- the elements of a function

-- two elements with one key
abbrev pub share_key : Element → Element → Bool
share_key x y = same_key x.key y.key

other_entity : (x y : Element) → nat_eq x.key.entity y.key.entity ≡ false → share_key x y ≡ false
other_entity x y differs =
    and_left (x.key.entity == y.key.entity) (x.key.selector == y.key.selector && x.key.channel == y.key.channel) differs

other_selector : (x y : Element) → nat_eq x.key.selector y.key.selector ≡ false → share_key x y ≡ false
other_selector x y differs =
    and_right (x.key.entity == y.key.entity) (x.key.selector == y.key.selector && x.key.channel == y.key.channel)
    (and_left (x.key.selector == y.key.selector) (x.key.channel == y.key.channel) differs)

other_channel : (x y : Element) → nat_eq x.key.channel y.key.channel ≡ false → share_key x y ≡ false
other_channel x y differs =
    and_right (x.key.entity == y.key.entity) (x.key.selector == y.key.selector && x.key.channel == y.key.channel)
    (and_right (x.key.selector == y.key.selector) (x.key.channel == y.key.channel) differs)

of_control : (entities : List Entity) (e : Entity) (s : ℕ) → IsDistinct share_key (control_elements entities e s)
unfolding control_elements
of_control entities e s =
    chosen_apart share_key (λ (c : ℕ). c) (λ (y : Element). y.key.channel) other_channel (element_on e s)
    (λ c y is. ap (λ (k : Key). k.channel) (keyed_on e s c y is))
    (range_with_len 0 (count_of entities e)) (numbers_apart 0 (count_of entities e))

of_entity : (entities : List Entity) (e : Entity) → IsDistinct share_key (entity_elements entities e)
unfolding entity_elements
of_entity entities e =
    flat_apart share_key (λ (s : ℕ). s) (λ (y : Element). y.key.selector) other_selector (control_elements entities e)
    (range_with_len 1 (selectors_of e.kind))
    (every (λ s. AllByRecursion (λ (y : Element). y.key.selector ≡ s) (control_elements entities e s))
    (range_with_len 1 (selectors_of e.kind))
    (λ s. in_control (λ (y : Element). y.key.selector ≡ s) entities e s
    (λ c y below is. ap (λ (k : Key). k.selector) (keyed_on e s c y is))))
    (every (λ s. IsDistinct share_key (control_elements entities e s)) (range_with_len 1 (selectors_of e.kind)) (of_control entities e))
    (numbers_apart 1 (selectors_of e.kind))

pub all_apart : (entities : List Entity) → IsDistinct nat_eq (map (λ e. e.id) entities) → IsDistinct share_key (element_list entities)
unfolding element_list
all_apart entities distinct =
    flat_apart share_key (λ (e : Entity). e.id) (λ (y : Element). y.key.entity) other_entity (entity_elements entities) entities
    (every (λ (e : Entity). AllByRecursion (λ (y : Element). y.key.entity ≡ e.id) (entity_elements entities e)) entities
    (λ e. in_entity (λ (y : Element). y.key.entity ≡ e.id) entities e (λ s c y below is. ap (λ (k : Key). k.entity) (keyed_on e s c y is))))
    (every (λ (e : Entity). IsDistinct share_key (entity_elements entities e)) entities (of_entity entities))
    (apart_unmapped nat_eq (λ (e : Entity). e.id) entities distinct)

pub viewed_apart : (entities : List Entity) (view : ViewWorld) → IsDistinct nat_eq (map (λ e. e.id) entities) → IsViewOf entities view
    → IsDistinct share_key view.elements
viewed_apart entities view distinct is =
    apart_unmapped share_key with_no_value view.elements (subst (IsDistinct share_key) (sym is) (all_apart entities distinct))

-- ---- what a request leaves

none_of : (r l k : Bool) → (r && l) ≡ false → (r && (l && k)) ≡ false
none_of false l k none = refl
none_of true false k none = refl
none_of true true k none = cc

-- a request of neither type, or of no control, is for none by either type
neither : (s g r l k : Bool) → ((s || g) && (r && l)) ≡ false → ((s && (r && (l && k))) ≡ false) × ((g && (r && (l && k))) ≡ false)
neither s g r l k none = elim (and_cases (s || g) (r && l) none) [
  | inl types ↦ (let each = or_parts s g types in (and_left s (r && (l && k)) each.0, and_left g (r && (l && k)) each.1))
  | inr rest ↦ (let no = none_of r l k rest in (and_right s (r && (l && k)) no, and_right g (r && (l && k)) no))
]

module _ (control : ℕ) (p : Setup) (sent : List ℕ) (came : Option AnswerFields) where
  -- an element that it neither sets nor gets
  unasked : (y : Element) → sets control p y ≡ false → gets control p y ≡ false → value_after control p sent came y ≡ y.value
  unfolding value_after
  unasked y no_set no_get =
      ap (λ (b : Bool). if b then after_set y sent came else if gets control p y then after_get y came else y.value) no_set
      ∙ ap (λ (b : Bool). if b then after_get y came else y.value) no_get

  not_for : (type : ℕ) (y : Element) → same_key y.key (key_named p) ≡ false → is_for type control p y ≡ false
  unfolding is_for
  not_for type y apart =
      and_right (p.request_type == type) (p.request == 1 && (low p.index == control && same_key y.key (key_named p)))
      (and_right (p.request == 1) (low p.index == control && same_key y.key (key_named p))
      (and_right (low p.index == control) (same_key y.key (key_named p)) apart))

  -- one with another key
  other_left : (y : Element) → same_key y.key (key_named p) ≡ false → value_after control p sent came y ≡ y.value
  other_left y apart = unasked y (not_for 33 y apart) (not_for 161 y apart)

  -- all but the one at its index
  alone : (xs : List Element) (at : ℕ) (x : Element) → IsDistinct share_key xs → slice_get xs at ≡ Some x → x.key ≡ key_named p
      → slice_set xs at (element_after control p sent came x) ≡ map (element_after control p sent came) xs
  unfolding IsDistinct
  alone [] at x apart there named = refl
  alone (y ∷ ys) zero x apart there named =
      let same : x ≡ y = cc in
      let key : y.key ≡ key_named p = sym (ap (λ (e : Element). e.key) same) ∙ named in
      let rest : map (element_after control p sent came) ys ≡ ys =
      all_left control p sent came ys
      (weaker (λ z. share_key y z ≡ false) (λ z. value_after control p sent came z ≡ z.value) ys
      (λ z far. other_left z (ap (same_key z.key) (sym key) ∙ key_laws.symm z.key y.key ∙ far)) apart.0) in
      (λ j. element_after control p sent came (same j) ∷ sym rest j)
  alone (y ∷ ys) (suc at) x apart there named =
      let far : share_key y x ≡ false =
      subst (λ (z : Element). share_key y z ≡ false) (get_or_from_slice_get ys at x x there)
      (All-from_recursion (λ z. share_key y z ≡ false) ys apart.0 at x (slice_get_within ys at x there)) in
      let still : value_after control p sent came y ≡ y.value = other_left y (ap (same_key y.key) (sym named) ∙ far) in
      (λ j. record y { value = sym still j } ∷ alone ys at x apart.1 there named j)

  -- a view, all but the element at that index
  pub view_alone : (before after : ViewWorld) (at : ℕ) → IsDistinct share_key before.elements → at < length before.elements
      → ((x : Element) → slice_get before.elements at ≡ Some x → x.key ≡ key_named p)
      → ((x : Element) → slice_get before.elements at ≡ Some x
      → after.elements ≡ slice_set before.elements at (element_after control p sent came x))
      → after ≡ view_after control p sent came before
  unfolding view_after
  view_alone before after at apart within named changed =
      let e = element_there before.elements at within in
      let elements : after.elements ≡ map (element_after control p sent came) before.elements =
      changed e.0 e.1 ∙ alone before.elements at e.0 apart e.1 (named e.0 e.1) in
      (λ j. record { elements = elements j })

  none_asked : is_for_any control p ≡ false → (y : Element) → value_after control p sent came y ≡ y.value
  unfolding is_for_any is_for
  none_asked none y =
      let each = neither (p.request_type == 33) (p.request_type == 161) (p.request == 1) (low p.index == control)
      (same_key y.key (key_named p)) none in
      unasked y each.0 each.1

  -- a whole view, where it is for none of its controls
  pub none_left : (before : ViewWorld) → is_for_any control p ≡ false → before ≡ view_after control p sent came before
  none_left before none = sym (view_left control p sent came before (none_asked none))
