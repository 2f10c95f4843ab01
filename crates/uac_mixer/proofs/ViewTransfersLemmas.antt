-- The transfers of one element: what comes back of them, and what they leave of the element.
use Rattle.std.proofs.Common.{◌≡◌, ◌∙◌, refl, ap, sym, ℕ, ◌+◌, ◌*◌, ◌/◌, ◌%◌, ◌<◌, ◌⊎◌, ◌==◌, ◌&&◌, ◌||◌, nat_lt, Bool, true, false, not, if◌then◌else◌, ℤ, List, [], ◌∷◌, map, length, slice_get, take, Option, Some, None, is_some, arith}
use Rattle.std.specs.List.{AllByRecursion}
use Rattle.std.specs.Option.{option_map_or}
use Rattle.std.proofs.lemmas.Bool.{eq-eqb}
use Rattle.std.proofs.lemmas.List.{take_all}
use Rattle.uac_entities.specs.EntityInterfaces.{entity_by_id}
use Rattle.uac_topology.specs.Function.{FunctionFields}
use Rattle.uac_store.specs.StoreControls.{IsStoreOf, count_of}
use Rattle.uac_store.specs.Keyed.{same_key}
use Rattle.uac_request.specs.Owners.{get_rules}
use Rattle.uac_request.specs.Requests.{AnswerFields, RequestState, by_entity, cur_named, entity_width, first_broken, has_interface, high, is_declared_on, is_done, is_stalled, key_named, least, low, owner_of, reply_of, value_bytes, with_bytes}
use Rattle.uac_request.specs.declared.setup.Setup.{Setup}
use Rattle.uac_request.proofs.RequestsRuleLemmas.{first_cur}
use Rattle.uac_mixer.specs.declared.element.Element.{Element}
use Rattle.uac_mixer.specs.MixerElements.{fits_element, width_of}
use Rattle.uac_mixer.specs.ViewTransfers.{after_get, after_set, element_after, get_of, gets, is_for, set_of, sets, element_setup, value_after, value_in, view_after}
use Rattle.uac_mixer.specs.ViewWorld.{ViewWorld}
use Rattle.uac_mixer.proofs.MixerElementsByteLemmas.{comes_back, whole}
use Rattle.uac_mixer.proofs.MixerElementsLemmas.{Agrees, agrees}
use Rattle.uac_mixer.proofs.MixerElementsListLemmas.{IsElementOf, every}
use Rattle.uac_mixer.proofs.RequestsLemmas.{get_reply, owner_is, set_reply}
use Rattle.uac_mixer.proofs.AgreementLemmas.{IsHeldAs, control_bytes, held_as, is_request, same_keys, all_four}

-- ---- the setup of an element's request

-- the parts of an element's key, and the control interface, are bytes
pub record IsNarrow (control : ℕ) (x : Element) : Type 0 where
  pub interface : control < 256
  pub entity : x.key.entity < 256
  pub selector : x.key.selector < 256
  pub channel : x.key.channel < 256

high_of : (a b : ℕ) → b < 256 → (256 * a + b) / 256 ≡ a
high_of a b below = omega arith

low_of : (a b : ℕ) → b < 256 → (256 * a + b) % 256 ≡ b
low_of a b below = omega arith

key_back : (type control : ℕ) (x : Element) → IsNarrow control x → key_named (element_setup type control x) ≡ x.key
key_back type control x n =
    let i = high_of x.key.entity control n.interface in
    let j = high_of x.key.selector x.key.channel n.channel in
    let m = low_of x.key.selector x.key.channel n.channel in
    λ p. record { entity = i p; selector = j p; channel = m p }

-- it is a request for the element
pub is_for_it : (type control : ℕ) (x : Element) → IsNarrow control x → is_for type control (element_setup type control x) x ≡ true
unfolding is_for
is_for_it type control x n =
    all_four (type == type) (1 == 1) ((256 * x.key.entity + control) % 256 == control) (same_key x.key (key_named (element_setup type control x)))
    (eq-eqb type type refl) refl (eq-eqb ((256 * x.key.entity + control) % 256) control (low_of x.key.entity control n.interface)) (same_keys x.key (key_named (element_setup type control x)) (sym (key_back type control x n)))

-- one element stands at an index
pub one_element : (xs : List Element) (at : ℕ) (x y : Element) → slice_get xs at ≡ Some y → slice_get xs at ≡ Some x → y ≡ x
one_element xs at x y a b = (let same : Some y ≡ Some x = sym a ∙ b in cc)

-- the request names its key
pub names_it : (type control : ℕ) (setup : Setup) (xs : List Element) (at : ℕ) (y : Element) → setup ≡ element_setup type control y
    → IsNarrow control y → slice_get xs at ≡ Some y
    → (x : Element) → slice_get xs at ≡ Some x → x.key ≡ key_named setup
names_it type control setup xs at y is n there x at_x =
    ap (λ (e : Element). e.key) (one_element xs at y x at_x there) ∙ sym (key_back type control y n) ∙ ap key_named (sym is)

-- and none of another type
and_false : (b : Bool) → (false && b) ≡ false
and_false b = refl

pub no_set : (control : ℕ) (x y : Element) → sets control (get_of control x) y ≡ false
unfolding is_for
no_set control x y = refl

pub no_get : (control : ℕ) (x y : Element) → gets control (set_of control x) y ≡ false
unfolding is_for
no_get control x y = refl

-- ---- what the device answers

-- where none of the rules is broken
unbroken : (a b c d : Bool) → a ≡ false → b ≡ false → c ≡ false → d ≡ false → least ((4, a) ∷ (5, b) ∷ (6, c) ∷ (8, d) ∷ []) ≡ None
unbroken a b c d i j k l = rw (i, j, k, l) refl

or_false : (b : Bool) → b ≡ true → (not b || false) ≡ false
or_false true is = refl
or_false false is = cc

and_not : (b c : Bool) → c ≡ true → (b && not c) ≡ false
and_not true true is = refl
and_not false true is = refl
and_not true false is = cc
and_not false false is = cc

not_true : (b : Bool) → b ≡ true → not b ≡ false
not_true true is = refl
not_true false is = cc

in_function : (f : FunctionFields) → has_interface f f.control_interface ≡ true
in_function f = rw (eq-eqb f.control_interface f.control_interface refl) refl

module _ (f : FunctionFields) (h : RequestState) (x : Element) (store : IsStoreOf f.entities h.controls) (m : IsElementOf f.entities x) (n : IsNarrow f.control_interface x) where
  own_kinds : Agrees m.entity.kind x.key.selector x.kind
  own_kinds = agrees m.entity.kind x.key.selector x.kind m.shows

  abbrev pub own_value : IsHeldAs f.entities h.controls x
  own_value = held_as f.entities h.controls x store m

  its_owner : (type : ℕ) → owner_of f (element_setup type f.control_interface x).index ≡ Some (by_entity m.entity)
  its_owner type =
      owner_is f (element_setup type f.control_interface x).index m.entity
      (eq-eqb ((256 * x.key.entity + f.control_interface) % 256) f.control_interface (low_of x.key.entity f.control_interface n.interface))
      (ap (entity_by_id f.entities) (high_of x.key.entity f.control_interface n.interface) ∙ m.found)

  get_unbroken : least (get_rules f (get_of f.control_interface x) [] (by_entity m.entity) false) ≡ None
  get_unbroken =
      let s : high (get_of f.control_interface x).value ≡ x.key.selector = high_of x.key.selector x.key.channel n.channel in
      let c : low (get_of f.control_interface x).value ≡ x.key.channel = low_of x.key.selector x.key.channel n.channel in
      let wide : is_some (entity_width m.entity.kind (high (get_of f.control_interface x).value)) ≡ true = ap (λ (i : ℕ). is_some (entity_width m.entity.kind i)) s ∙ ap is_some own_kinds.width in
      let declared : is_declared_on m.entity.kind m.entity (high (get_of f.control_interface x).value) (low (get_of f.control_interface x).value) ≡ true =
      ap (λ (i : ℕ). is_declared_on m.entity.kind m.entity i (low (get_of f.control_interface x).value)) s ∙ ap (is_declared_on m.entity.kind m.entity x.key.selector) c ∙ m.declared in
      let within : nat_lt (low (get_of f.control_interface x).value) (count_of f.entities m.entity) ≡ true = ap (λ (i : ℕ). nat_lt i (count_of f.entities m.entity)) c ∙ m.channel in
      unbroken _ _ _ _ (or_false _ wide) (and_not _ _ declared) (not_true _ within) refl

  -- the GET CUR of an element is answered with its value
  pub is_told : reply_of f h (get_of f.control_interface x) [] ≡ with_bytes (value_bytes (width_of x.kind) own_value.value)
  is_told =
      let p : Setup = get_of f.control_interface x in
      let has : has_interface f (low p.index) ≡ true = ap (has_interface f) (low_of x.key.entity f.control_interface n.interface) ∙ in_function f in
      let met : first_broken f h p [] ≡ None = first_cur f h p [] (by_entity m.entity) has (its_owner 161) refl refl ∙ get_unbroken in
      let bytes : cur_named f h p ≡ value_bytes (width_of x.kind) own_value.value = control_bytes f h p [] x store m 161 (is_request 161 f.control_interface p x (is_for_it 161 f.control_interface x n)) in
      get_reply f h p [] refl refl
      ∙ ap (λ (q : Option ℕ). option_map_or is_stalled q (with_bytes (take p.length (cur_named f h p)))) met
      ∙ ap (λ (bs : List ℕ). with_bytes (take (width_of x.kind) bs)) bytes
      ∙ ap with_bytes (take_all (width_of x.kind) (value_bytes (width_of x.kind) own_value.value) (let long = whole x.kind own_value.value in omega arith))

-- a SET CUR of an element is done or stalled
pub set_told : (f : FunctionFields) (h : RequestState) (x : Element) (sent : List ℕ)
    → (reply_of f h (set_of f.control_interface x) sent ≡ is_done) ⊎ ((rule : ℕ) × (reply_of f h (set_of f.control_interface x) sent ≡ is_stalled rule))
set_told f h x sent = set_reply f h (set_of f.control_interface x) sent refl refl

-- ---- the element after it

-- elements whose values stay, and a view of which all stay
pub all_left : (control : ℕ) (p : Setup) (sent : List ℕ) (came : Option AnswerFields) (ys : List Element)
    → AllByRecursion (λ (y : Element). value_after control p sent came y ≡ y.value) ys
    → map (element_after control p sent came) ys ≡ ys
all_left control p sent came [] still = refl
all_left control p sent came (y ∷ ys) still = (λ j. record y { value = still.0 j } ∷ all_left control p sent came ys still.1 j)

pub view_left : (control : ℕ) (p : Setup) (sent : List ℕ) (came : Option AnswerFields) (view : ViewWorld)
    → ((y : Element) → value_after control p sent came y ≡ y.value)
    → view_after control p sent came view ≡ view
unfolding view_after
view_left control p sent came view still =
    let each = every (λ (y : Element). value_after control p sent came y ≡ y.value) view.elements still in
    (λ j. record { elements = all_left control p sent came view.elements each j })

-- a value that came of its GET CUR
pub value_got : (control : ℕ) (x y : Element) (v : ℤ) → y ≡ x → IsNarrow control x → fits_element x.kind v ≡ true
    → value_after control (get_of control x) [] (Some (with_bytes (value_bytes (width_of x.kind) v))) y ≡ Some v
unfolding value_after
value_got control x y v is n fits =
    let same : value_after control (get_of control x) [] (Some (with_bytes (value_bytes (width_of x.kind) v))) y ≡ value_after control (get_of control x) [] (Some (with_bytes (value_bytes (width_of x.kind) v))) x =
    ap (value_after control (get_of control x) [] (Some (with_bytes (value_bytes (width_of x.kind) v)))) is in
    let other : sets control (get_of control x) x ≡ false = no_set control x x in
    let asks : gets control (get_of control x) x ≡ true = is_for_it 161 control x n in
    let long : (length (value_bytes (width_of x.kind) v) == width_of x.kind) ≡ true = eq-eqb (length (value_bytes (width_of x.kind) v)) (width_of x.kind) (whole x.kind v) in
    same
    ∙ ap (λ (b : Bool). if b then after_set x [] (Some (with_bytes (value_bytes (width_of x.kind) v))) else if gets control (get_of control x) x then after_get x (Some (with_bytes (value_bytes (width_of x.kind) v))) else x.value) other
    ∙ ap (λ (b : Bool). if b then after_get x (Some (with_bytes (value_bytes (width_of x.kind) v))) else x.value) asks
    ∙ ap (λ (b : Bool). if b then Some (value_in x (value_bytes (width_of x.kind) v)) else x.value) long
    ∙ ap (λ (w : ℤ). Some w) (comes_back x.kind v fits)

-- a GET CUR that broke changes nothing
got_still : (control : ℕ) (x y : Element) → value_after control (get_of control x) [] None y ≡ y.value
unfolding value_after is_for
got_still control x y = one (gets control (get_of control x) y) where
  one : (b : Bool) → (if b then after_get y None else y.value) ≡ y.value
  one true = refl
  one false = refl

pub get_broke : (control : ℕ) (x : Element) (view : ViewWorld) → view_after control (get_of control x) [] None view ≡ view
get_broke control x view = view_left control (get_of control x) [] None view (got_still control x)

-- a value that was set
pub value_set : (control : ℕ) (x : Element) (v : ℤ) → IsNarrow control x → fits_element x.kind v ≡ true
    → value_after control (set_of control x) (value_bytes (width_of x.kind) v) (Some is_done) x ≡ Some v
unfolding value_after
value_set control x v n fits =
    ap (λ (b : Bool). if b then Some (value_in x (value_bytes (width_of x.kind) v)) else if gets control (set_of control x) x then after_get x (Some is_done) else x.value) (is_for_it 33 control x n)
    ∙ ap (λ (w : ℤ). Some w) (comes_back x.kind v fits)

-- one that broke
pub value_lost : (control : ℕ) (x : Element) (sent : List ℕ) → IsNarrow control x → value_after control (set_of control x) sent None x ≡ None
unfolding value_after
value_lost control x sent n =
    ap (λ (b : Bool). if b then None else if gets control (set_of control x) x then after_get x None else x.value) (is_for_it 33 control x n)

-- a set that was stalled changes nothing
still : (control : ℕ) (x : Element) (sent : List ℕ) (rule : ℕ) (y : Element) → value_after control (set_of control x) sent (Some (is_stalled rule)) y ≡ y.value
unfolding value_after
still control x sent rule y = one (sets control (set_of control x) y) (gets control (set_of control x) y) where
  one : (a b : Bool) → (if a then after_set y sent (Some (is_stalled rule)) else if b then after_get y (Some (is_stalled rule)) else y.value) ≡ y.value
  one true b = refl
  one false true = refl
  one false false = refl

pub set_stalled : (control : ℕ) (x : Element) (sent : List ℕ) (rule : ℕ) (view : ViewWorld) → view_after control (set_of control x) sent (Some (is_stalled rule)) view ≡ view
set_stalled control x sent rule view = view_left control (set_of control x) sent (Some (is_stalled rule)) view (still control x sent rule)
