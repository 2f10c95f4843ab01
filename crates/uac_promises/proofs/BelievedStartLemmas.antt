-- The lines of a descriptor: what they feed is bytes, and what the host knows of the device that the bytes describe is so from the start.
use Rattle.std.proofs.Common.{◌≡◌, sym, refl, ap, ℕ, ℤ, true, List, [], ◌∷◌, map, Option, None, Some, is_some, IfSome}
use Rattle.std.specs.List.{AllByRecursion}
use Rattle.std.proofs.lemmas.List.Elements.{All-map}
use Rattle.uac_descriptor.specs.BlockParsing.{AreBytes}
use Rattle.uac_entities.specs.declared.entity.Entity.{Entity}
use Rattle.uac_topology.specs.Function.{FunctionFields}
use Rattle.uac_topology.specs.Topology.{IsSoundFunction}
use Rattle.uac_topology.proofs.FunctionKeptPinLemmas.{have_pins}
use Rattle.uac_store.specs.declared.keys.Key.{Key}
use Rattle.uac_store.specs.StoreControls.{IsStoreOf}
use Rattle.uac_store.specs.Keyed.{value_of}
use Rattle.uac_store.proofs.StoreControlsSoundLemmas.{keyed}
use Rattle.uac_mixer.specs.Agreement.{IsAgreed}
use Rattle.uac_mixer.specs.MixerElements.{element_list, with_no_value}
use Rattle.uac_mixer.specs.ViewWorld.{IsViewOf, known_view, read_from}
use Rattle.uac_mixer.specs.declared.element.Element.{Element}
use Rattle.uac_mixer.proofs.AgreementLemmas.{held_as}
use Rattle.uac_mixer.proofs.MixerElementsListLemmas.{IsElementOf, all_listed, none_read}
use Rattle.uac_mixer.proofs.AgreementStartLemmas.{starts}
use Rattle.uac_script.specs.Phrase.{Phrase, bytes_line}
use Rattle.uac_units.specs.Hearing.{Reading}
use Rattle.uac_running.specs.RunningWorld.{at_start}
use Rattle.uac_device.specs.DeviceWorld.{fresh}
use Rattle.uac_rows.specs.BusWorld.{step_describing}
use Rattle.uac_promises.proofs.ScriptsStartLemmas.{describing_is}
use Rattle.uac_promises.proofs.BelievedWorldLemmas.{Begins, IsBegun, IsBelieved}

-- ---- the device that bytes without a fault describe

-- each element that is listed is read
unread_again : (values : List (Key × ℤ)) (xs : List Element) → AllByRecursion (λ (x : Element). x.value ≡ None) xs
    → map with_no_value (map (read_from values) xs) ≡ xs
unread_again values [] none = refl
unread_again values (x ∷ xs) none = (λ j. record x { value = sym none.0 j } ∷ unread_again values xs none.1 j)

known_of : (entities : List Entity) (values : List (Key × ℤ)) → IsViewOf entities (known_view entities values)
unfolding known_view
known_of entities values = unread_again values (element_list entities) (none_read entities)

known_agrees : (entities : List Entity) (values : List (Key × ℤ)) → IsAgreed values (known_view entities values)
unfolding known_view
known_agrees entities values =
    All-map (λ (x : Element). IfSome x.value (λ v. value_of values x.key ≡ Some v)) (read_from values) (element_list entities)
    (λ k d below. itself (value_of values _))
  where
    itself : (o : Option ℤ) → IfSome o (λ v. o ≡ Some v)
    itself None = tt
    itself (Some v) = refl

-- each element that is listed has a value
known_at : (entities : List Entity) (values : List (Key × ℤ)) (x : Element) → IsStoreOf entities values → IsElementOf entities x
    → is_some (read_from values x).value ≡ true
known_at entities values x store is = ap is_some (held_as entities values x store is).is

each_known : (entities : List Entity) (values : List (Key × ℤ)) (xs : List Element) → IsStoreOf entities values
    → AllByRecursion (IsElementOf entities) xs → AllByRecursion (λ (x : Element). is_some x.value ≡ true) (map (read_from values) xs)
each_known entities values [] store are = tt
each_known entities values (x ∷ xs) store are = (known_at entities values x store are.0, each_known entities values xs store are.1)

all_known : (function : FunctionFields) → IsSoundFunction function
    → AllByRecursion (λ (x : Element). is_some x.value ≡ true) (known_view function.entities (fresh function).controls).elements
unfolding known_view fresh
all_known function sound =
    each_known function.entities (fresh function).controls (element_list function.entities) (starts have_pins keyed function sound)
    (all_listed function.entities (keyed function sound).apart)

starts_believed : (bytes : List ℕ) (function : FunctionFields) (meters : List Reading) → IsSoundFunction function
    → IsBelieved (at_start bytes function meters)
unfolding at_start fresh
starts_believed bytes function meters sound = record {
  sound = sound;
  store = starts have_pins keyed function sound;
  of_function = known_of function.entities (fresh function).controls;
  agreed = known_agrees function.entities (fresh function).controls;
}

starts_begun : (bytes : List ℕ) (function : FunctionFields) (meters : List Reading) → IsSoundFunction function
    → IsBegun (at_start bytes function meters)
unfolding at_start
starts_begun bytes function meters sound =
    record { believed = starts_believed bytes function meters sound; known = all_known function sound }

-- ---- lines

pub describing_begins : (bytes : List ℕ) (meters : List Reading) (phrase : Phrase) → AreBytes bytes
    → ((more : List ℕ) → phrase ≡ bytes_line more → AreBytes more) → Begins (step_describing bytes meters phrase)
describing_begins bytes meters =
    describing_is (λ phrase s. Begins s) (λ phrase fault. tt) bytes meters (λ are. are) (λ more now are. are)
    (λ function is. starts_begun bytes function meters is.sound)
