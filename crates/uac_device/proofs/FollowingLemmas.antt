-- What follows from a device's controls, before and after a request.
use Rattle.std.proofs.Common.{◌≡◌, ◌∙◌, sym, refl, ap, subst, ℕ, Bool, true, false, cond, if◌then◌else◌, ℤ, List, [], ◌∷◌, Option, Some, None, get_or, map, is_some}
use Rattle.std.specs.List.{All}
use Rattle.std.specs.Map.{lookup, set_value}
use Rattle.std.specs.Option.{option_and_then, option_map_or}
use Rattle.std.proofs.lemmas.Bool.{and_parts, eqb-true}
use Rattle.std.proofs.lemmas.List.Elements.{All-map}
use Rattle.uac_clock.specs.Nominal.{nominal_of}
use Rattle.uac_entities.specs.EntityInterfaces.{entity_by_id}
use Rattle.uac_entities.specs.declared.entity.Entity.{Entity}
use Rattle.uac_topology_rules.specs.Links.{is_clock}
use Rattle.uac_topology.specs.Function.{FunctionFields}
use Rattle.uac_store.specs.declared.keys.Key.{Key}
use Rattle.uac_store.specs.Keyed.{key_of, same_key, value_of, with_value}
use Rattle.uac_alt.specs.declared.settings.InterfaceSetting.{InterfaceSetting}
use Rattle.uac_alt.specs.AltSettings.{with_setting}
use Rattle.uac_graph.specs.GraphControls.{controls_in}
use Rattle.uac_graph.specs.Jobs.{AreSameBut}
use Rattle.uac_request.specs.Requests.{RequestState, Owner, after_request, controls_set, first_broken, request_state, high, key_named, left_by, owner_of, sent_value, sets_cur, sets_interface}
use Rattle.uac_request.proofs.KeyedLemmas.{SameClocks, id_of_named, same_rate}
use Rattle.uac_request.specs.declared.setup.Setup.{Setup}
use Rattle.uac_device.specs.Following.{IsDerived, IsLeftBy, IsDomainRate, renewed_rate}
use Rattle.uac_device.specs.declared.derived.Derived.{Derived}
use Rattle.uac_device.specs.declared.derived.DomainRate.{DomainRate}

-- rates that are renewed are those of the controls
pub renewed_paces : (entities : List Entity) (controls : List (Key × ℤ)) (rates : List DomainRate) → All (IsDomainRate entities controls) (map (renewed_rate entities controls) rates)
renewed_paces entities controls rates = All-map (IsDomainRate entities controls) (renewed_rate entities controls) rates (λ k d below. refl)

-- where an entity is no clock, other values of its controls leave the rates as they are
pub same_paces : (entities : List Entity) (before after : List (Key × ℤ)) (id : ℕ) (rates : List DomainRate) → AreSameBut id (controls_in before) (controls_in after)
    → option_map_or (λ e. is_clock e.kind) (entity_by_id entities id) false ≡ false → All (IsDomainRate entities before) rates → All (IsDomainRate entities after) rates
same_paces entities before after id rates same other paced k d below =
    paced k d below ∙ ap (option_and_then nominal_of) (sym (same_rate entities before after clocks (get_or rates k d).domain))
  where
    no_clock : (e : Entity) → entity_by_id entities id ≡ Some e → is_clock e.kind ≡ true → ⊥
    no_clock e found clock =
        let no : false ≡ true = sym other ∙ ap (λ o. option_map_or (λ x. is_clock x.kind) o false) found ∙ clock in absurd (cc)

    clocks : SameClocks entities before after
    clocks = record {
      at = λ at e found clock selector.
          sym (same e.id selector 0 (λ own. no_clock e (ap (entity_by_id entities) (sym own ∙ id_of_named entities at e found) ∙ found) clock));
    }

-- the value of a control of another entity stays
value_stays : (controls : List (Key × ℤ)) (k l : Key) (v : ℤ) → (l.entity ≡ k.entity → ⊥) → value_of controls l ≡ value_of (with_value controls k v) l
unfolding value_of with_value
value_stays [] k l v other = refl
value_stays (e ∷ es) k l v other = by (same_key k e.0) (same_key l e.0) refl refl (value_stays es k l v other)
  where
    by : (here there : Bool) → same_key k e.0 ≡ here → same_key l e.0 ≡ there
        → lookup (same_key l) es ≡ lookup (same_key l) (set_value (same_key k) es v)
        → cond there (Some e.1) (lookup (same_key l) es) ≡ lookup (same_key l) (cond here ((e.0, v) ∷ es) (e ∷ set_value (same_key k) es v))
    by true true h t others = absurd (other (eqb-true l.entity e.0.entity (and_parts _ _ t).0 ∙ sym (eqb-true k.entity e.0.entity (and_parts _ _ h).0)))
    by true false h t others = sym (ap (λ (b : Bool). cond b (Some v) (lookup (same_key l) es)) t)
    by false true h t others = sym (ap (λ (b : Bool). cond b (Some e.1) (lookup (same_key l) (set_value (same_key k) es v))) t)
    by false false h t others = others ∙ sym (ap (λ (b : Bool). cond b (Some e.1) (lookup (same_key l) (set_value (same_key k) es v))) t)

-- what a request to set a control leaves
set_leaves : (function : FunctionFields) (held : RequestState) (p : Setup) (bytes : List ℕ) (o : Option Owner)
    → AreSameBut (high p.index) (controls_in held.controls)
    (controls_in (option_map_or (λ o. with_value held.controls (key_named p) (sent_value o (high p.value) bytes)) o held.controls))
set_leaves function held p bytes None k selector channel other = refl
set_leaves function held p bytes (Some o) k selector channel other =
    value_stays held.controls (key_named p) (key_of k selector channel) (sent_value o (high p.value) bytes) other

-- what a request leaves
pub left_by_request : (function : FunctionFields) (held after : RequestState) (p : Setup) (bytes : List ℕ) → after ≡ after_request function held p bytes
    → IsLeftBy p held.controls after.controls
unfolding after_request left_by
left_by_request function held after p bytes is = subst (λ (h : RequestState). IsLeftBy p held.controls h.controls) (sym is) (by (is_some (first_broken function held p bytes)) (sets_cur p) (sets_interface p) refl)
  where
    by : (broken control setting : Bool) → sets_cur p ≡ control
        → IsLeftBy p held.controls (if broken then held else if control then record held { controls = controls_set function held p bytes }
        else if setting then record held { settings = with_setting held.settings p.index p.value } else held).controls
    by true control setting e = record { same = λ _. refl; others = λ k selector channel other. refl }
    by false true setting e = record { same = λ f. absurd (cc); others = set_leaves function held p bytes (owner_of function p.index) }
    by false false true e = record { same = λ _. refl; others = λ k selector channel other. refl }
    by false false false e = record { same = λ _. refl; others = λ k selector channel other. refl }

-- what follows from controls, after a request that was answered
pub follows : (function : FunctionFields) (before after : List (Key × ℤ)) (settings later : List InterfaceSetting) (p : Setup) (bytes : List ℕ) (old new : Derived)
    → request_state after later ≡ after_request function (request_state before settings) p bytes → IsDerived function before old
    → ((was : List (Key × ℤ)) → IsDerived function was old → IsLeftBy p was after → IsDerived function after new) → IsDerived function after new
follows function before after settings later p bytes old new is derived follow =
    follow before derived (left_by_request function (request_state before settings) (request_state after later) p bytes is)
