-- What following a message answers, and what is known then.
use Rattle.std.proofs.Common.{◌≡◌, ◌∙◌, ◌↔◌, refl, ap, sym, subst, ℕ, Bool, true, false, if◌then◌else◌, ℤ, List, [], ◌∷◌, map, zero, suc, slice_get, Option, None, Some, is_some, IsSome, Result, Ok, Err}
use Rattle.std.specs.List.{find}
use Rattle.std.specs.Option.{option_and_then, option_map}
use Rattle.uac_store.specs.declared.keys.Key.{Key}
use Rattle.uac_store.specs.Keyed.{same_key, value_of}
use Rattle.uac_store.proofs.KeyedLemmas.{one_key}
use Rattle.uac_request.specs.Requests.{AnswerFields}
use Rattle.uac_request.specs.declared.setup.Setup.{Setup}
use Rattle.uac_mixer.specs.Agreement.{IsMade}
use Rattle.uac_mixer.specs.ViewLinks.{LinkFields}
use Rattle.uac_mixer.specs.ViewTransfers.{came_of_get, element_after, get_of, view_after}
use Rattle.uac_mixer.specs.ViewWorld.{ViewWorld}
use Rattle.uac_mixer.specs.declared.element.Element.{Element}
use Rattle.uac_mixer.specs.declared.link.Broken.{Broken}
use Rattle.uac_mixer.specs.declared.link.When.{When}
use Rattle.uac_status.specs.declared.following.FollowFault.{FollowFault}
use Rattle.uac_status.specs.declared.following.FollowFault.TheVariants as faults
use Rattle.uac_status.specs.declared.following.Heard.{Heard}
use Rattle.uac_status.specs.Messages.{element_keyed, is_foreign, key_told}
use Rattle.uac_status.specs.PanelCalls.{IsFollowed, IsKnownNow}

-- ---- elements of a view after a transfer

find_mapped : (f : Element → Element) (k : Key) (xs : List Element) → ((x : Element) → (f x).key ≡ x.key)
    → find (λ (x : Element). same_key x.key k) (map f xs) ≡ option_map f (find (λ (x : Element). same_key x.key k) xs)
find_mapped f k [] same = refl
find_mapped f k (x ∷ xs) same = by (same_key x.key k) (same_key (f x).key k) (ap (λ (l : Key). same_key l k) (same x)) (find_mapped f k xs same) where
  by : (a b : Bool) → b ≡ a → find (λ (y : Element). same_key y.key k) (map f xs) ≡ option_map f (find (λ (y : Element). same_key y.key k) xs)
      → (if b then Some (f x) else find (λ (y : Element). same_key y.key k) (map f xs)) ≡ option_map f (if a then Some x else find (λ (y : Element). same_key y.key k) xs)
  by true true e rest = refl
  by false false e rest = rest
  by true false e rest = absurd (cc)
  by false true e rest = absurd (cc)

get_mapped : (f : Element → Element) (xs : List Element) (at : ℕ) → slice_get (map f xs) at ≡ option_map f (slice_get xs at)
get_mapped f [] at = refl
get_mapped f (x ∷ xs) zero = refl
get_mapped f (x ∷ xs) (suc n) = get_mapped f xs n

-- what was found has the key
key_of_found : (k : Key) (x : Element) (xs : List Element) → element_keyed xs k ≡ Some x → x.key ≡ k
key_of_found k x [] is = absurd (cc)
key_of_found k x (y ∷ xs) is = by (same_key y.key k) refl is (key_of_found k x xs) where
  by : (b : Bool) → same_key y.key k ≡ b → (if b then Some y else element_keyed xs k) ≡ Some x → (element_keyed xs k ≡ Some x → x.key ≡ k) → x.key ≡ k
  by true same e rest = (let one : y ≡ x = cc in ap (λ (z : Element). z.key) (sym one) ∙ one_key y.key k same)
  by false other e rest = rest e

-- ---- the element that was found

module _ (control : ℕ) (before after : ViewWorld) (message : List ℕ) (at : ℕ) (x : Element) (old new : LinkFields)
    (own : control ≡ old.device.function.control_interface) (there : slice_get before.elements at ≡ Some x)
    (found : option_and_then (slice_get before.elements) (Some at) ≡ (if is_foreign control before.elements message then None else element_keyed before.elements (key_told message))) where
  by_found : (b : Bool) → Some x ≡ (if b then None else element_keyed before.elements (key_told message)) → (b ≡ false) × (element_keyed before.elements (key_told message) ≡ Some x)
  by_found true e = absurd (let no : Some x ≡ None = e in cc)
  by_found false e = (refl, sym e)

  both : (is_foreign control before.elements message ≡ false) × (element_keyed before.elements (key_told message) ≡ Some x)
  both = by_found (is_foreign control before.elements message) (sym there ∙ found)

  pub keyed : element_keyed before.elements (key_told message) ≡ Some x
  keyed = both.1

  ours : is_foreign old.device.function.control_interface before.elements message ≡ false
  ours = ap (λ (i : ℕ). is_foreign i before.elements message) (sym own) ∙ both.0

  pub never_foreign : is_foreign old.device.function.control_interface before.elements message ≡ true → ⊥
  never_foreign foreign = (let no : false ≡ true = sym ours ∙ foreign in absurd (cc))

  same_one : (y : Element) → element_keyed before.elements (key_told message) ≡ Some y → x ≡ y
  same_one y other = (let e : Some x ≡ Some y = sym keyed ∙ other in cc)

  pub followed_by_get : (result : Result ℤ Broken) (answered : Bool) → is_some (came_of_get x result) ≡ answered
      → IsMade (get_of old.device.function.control_interface x) [] (came_of_get x result) before after old new
      → (y : Element) → element_keyed before.elements (key_told message) ≡ Some y → IsFollowed answered y before after old new
  followed_by_get result answered is made y other =
      subst (λ (z : Element). IsFollowed answered z before after old new) (same_one y other)
      (record { came = came_of_get x result; made = made; is_answered = is })

  -- the value that came is known
  pub known_by_get : (value : ℤ) → IsMade (get_of old.device.function.control_interface x) [] (came_of_get x (Ok value)) before after old new
      → option_map (λ y. y.value) (slice_get after.elements at) ≡ Some (Some value) → value_of old.device.controls x.key ≡ Some value
      → IsKnownNow old.device.controls after.elements (key_told message)
  unfolding view_after
  known_by_get value made kept is =
      let p : Setup = get_of old.device.function.control_interface x in
      let came : Option AnswerFields = came_of_get x (Ok value) in
      let f : Element → Element = element_after old.device.function.control_interface p [] came in
      let elements = ap (λ (v : ViewWorld). v.elements) made.view in
      let here : slice_get after.elements at ≡ Some (f x) =
      ap (λ (xs : List Element). slice_get xs at) elements ∙ get_mapped f before.elements at ∙ ap (option_map f) there in
      let now : element_keyed after.elements (key_told message) ≡ Some (f x) =
      ap (λ (xs : List Element). element_keyed xs (key_told message)) elements ∙ find_mapped f (key_told message) before.elements (λ y. refl) ∙ ap (option_map f) keyed in
      let has : Some (f x).value ≡ Some (Some value) = sym (ap (option_map (λ (y : Element). y.value)) here) ∙ kept in
      let k_is : x.key ≡ key_told message = key_of_found (key_told message) x before.elements keyed in
      record {
        element = f x;
        value = value;
        found = now;
        known = cc;
        is = ap (value_of old.device.controls) (sym k_is) ∙ is;
      }

  -- a link that tells its fault
  pub told_of_get : (result : Result ℤ Broken) (fault : Option When) → old.fault ≡ Some fault → IsMade (get_of old.device.function.control_interface x) [] (came_of_get x result) before after old new
      → (came_of_get x result ≡ None) ↔ IsSome fault
  told_of_get result fault tells made = (made.transfer.told fault tells).breaks

  -- a message that was followed, over a link that tells its fault
  pub told_ok : (heard : Heard) (value : ℤ) (fault : Option When) → old.fault ≡ Some fault
      → IsMade (get_of old.device.function.control_interface x) [] (came_of_get x (Ok value)) before after old new
      → (◌≡◌ {A = Result Heard FollowFault} (Ok heard) (Err faults.Broken)) ↔ IsSome fault
  told_ok heard value fault tells made = (
    λ no. absurd (cc),
    λ some. absurd (let none : came_of_get x (Ok value) ≡ None = (made.transfer.told fault tells).breaks.1 some in cc),
  )

  pub told_err : (broken : Broken) (fault : Option When) → old.fault ≡ Some fault
      → IsMade (get_of old.device.function.control_interface x) [] (came_of_get x (Err broken)) before after old new
      → (◌≡◌ {A = Result Heard FollowFault} (Err faults.Broken) (Err faults.Broken)) ↔ IsSome fault
  told_err broken fault tells made = (λ same. (made.transfer.told fault tells).breaks.0 refl, λ some. refl)
