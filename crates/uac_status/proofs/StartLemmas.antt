-- A panel begins with a view that knows each value of the device.
use Rattle.std.proofs.Common.{◌≡◌, sym, refl, subst, ◌<◌, ℤ, false, List, [], ◌∷◌, map, slice_index_or, Option, None, Some, IfSome}
use Rattle.std.specs.List.{All, AllByRecursion}
use Rattle.std.proofs.lemmas.List.Elements.{All-map}
use Rattle.uac_descriptor.specs.BlockParsing.{AreBytes}
use Rattle.uac_grammar_rules.specs.Sentence.{spellings}
use Rattle.uac_entities.specs.declared.entity.Entity.{Entity}
use Rattle.uac_topology.specs.Function.{FunctionFields}
use Rattle.uac_topology.specs.Topology.{IsSoundFunction}
use Rattle.uac_topology.proofs.ClustersLemmas.{seen_alike}
use Rattle.uac_topology_rules.specs.Clusters.{with_own_clusters}
use Rattle.uac_entities.specs.Entities.{entities_of}
use Rattle.uac_topology.proofs.FunctionKeptPinLemmas.{have_pins}
use Rattle.uac_topology.proofs.FunctionKeptNumberLemmas.{are_numbered}
use Rattle.uac_store.specs.declared.keys.Key.{Key}
use Rattle.uac_store.specs.StoreControls.{initial_controls}
use Rattle.uac_store.specs.Keyed.{value_of}
use Rattle.uac_store.proofs.StoreControlsSoundLemmas.{keyed}
use Rattle.uac_mixer.specs.MixerElements.{element_list, with_no_value}
use Rattle.uac_mixer.specs.ViewWorld.{IsViewOf, known_view, read_from}
use Rattle.uac_mixer.specs.declared.element.Element.{Element}
use Rattle.uac_mixer.proofs.MixerElementsListLemmas.{members, none_read, unmapped}
use Rattle.uac_mixer.proofs.AgreementStartLemmas.{starts}
use Rattle.uac_status.specs.Knobs.{is_pending}
use Rattle.uac_status.specs.Panels.{panel_start}
use Rattle.uac_status.specs.PanelLaws.{IsKnown, IsPanel}
use Rattle.uac_status.proofs.BytesLemmas.{IsId, ids_of_bytes, key_of_bytes}

unread_again : (values : List (Key × ℤ)) (xs : List Element) → AllByRecursion (λ (x : Element). x.value ≡ None) xs
    → map with_no_value (map (read_from values) xs) ≡ xs
unread_again values [] none = refl
unread_again values (x ∷ xs) none = (λ j. record x { value = sym none.0 j } ∷ unread_again values xs none.1 j)

known_of : (entities : List Entity) (values : List (Key × ℤ)) → IsViewOf entities (known_view entities values)
unfolding known_view
known_of entities values = unread_again values (element_list entities) (none_read entities)

agrees_at : (values : List (Key × ℤ)) (xs : List Element) → All (λ x. is_pending [] x.key ≡ false → IsKnown values x) (map (read_from values) xs)
agrees_at values xs =
    All-map (λ (x : Element). is_pending [] x.key ≡ false → IsKnown values x) (read_from values) xs (λ k d below none. itself (value_of values _)) where
      itself : (o : Option ℤ) → IfSome o (λ v. o ≡ Some v)
      itself None = tt
      itself (Some v) = refl

mapped : {X Y : Type 0} (P : Y → Type 0) (f : X → Y) (xs : List X) → AllByRecursion (λ x. P (f x)) xs → AllByRecursion P (map f xs)
mapped P f [] all = tt
mapped P f (x ∷ xs) all = (all.0, mapped P f xs all.1)

own_ids : (es : List Entity) → AllByRecursion IsId es → AllByRecursion IsId (with_own_clusters es)
own_ids es ids =
    unmapped (λ n. n < 256) (λ (e : Entity). e.id) (with_own_clusters es)
    (subst (AllByRecursion (λ n. n < 256)) (sym (seen_alike es 0 (λ (e : Entity). e.id) (λ e c. refl))) (mapped (λ n. n < 256) (λ (e : Entity). e.id) es ids))

-- the function of bytes
pub starts_so : (function : FunctionFields) (sound : IsSoundFunction function) → AreBytes (spellings sound.0) → IsPanel (panel_start function)
unfolding panel_start known_view
starts_so function sound bytes =
    let of : IsViewOf function.entities (known_view function.entities (initial_controls function.entities)) = known_of function.entities (initial_controls function.entities) in
    let ids : AllByRecursion IsId function.entities = subst (AllByRecursion IsId) (sym sound.2.entities) (own_ids (entities_of sound.0) (ids_of_bytes sound.0 bytes)) in
    record {
      sound = sound;
      store = starts have_pins keyed function sound;
      of_function = of;
      interface = (are_numbered function sound).control;
      bytes = λ k d within. key_of_bytes function (slice_index_or (known_view function.entities (initial_controls function.entities)).elements k d) sound ids
          (members function (known_view function.entities (initial_controls function.entities)) sound of k d within);
      agreed = agrees_at (initial_controls function.entities) (element_list function.entities);
      shown = tt;
      once = tt;
    }
