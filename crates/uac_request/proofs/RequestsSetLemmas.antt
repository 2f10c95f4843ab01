-- What is so of a request to set a control that breaks no rule.
use Rattle.std.proofs.Common.{◌≡◌, ◌∙◌, sym, refl, ℕ, ◌&&◌, not, Bool, true, false, List, [], ◌∷◌, length, Some, None, is_some, unwrap_or, eqb-true}
use Rattle.std.proofs.lemmas.Bool.{and_parts}
use Rattle.uac_topology.specs.Function.{FunctionFields}
use Rattle.uac_store.specs.StoreValues.{is_legal}
use Rattle.uac_alt.specs.AltSettings.{is_running}
use Rattle.uac_request.specs.declared.setup.Setup.{Setup}
use Rattle.uac_request.specs.Requests.{first_broken, has_interface, has_value, RequestState, high, is_clock_control, is_in_range, is_writable, key_named, least, low, Owner, owner_of, sent_value, width_of}
use Rattle.uac_request.specs.Owners.{set_rules}
use Rattle.uac_request.proofs.RequestsRuleLemmas.{first_set}

-- where a table's least broken rule is none, no rule of it is broken
abbrev pub AreMet : List (ℕ × Bool) → Type 0
AreMet [] = Unit {0}
AreMet ((rule, broken) ∷ rules) = (broken ≡ false) × AreMet rules

pub are_met : (rules : List (ℕ × Bool)) → least rules ≡ None → AreMet rules
are_met [] none = tt
are_met ((rule, true) ∷ rules) none = cc
are_met ((rule, false) ∷ rules) none = (refl, are_met rules none)

pub not_false : (b : Bool) → not b ≡ false → b ≡ true
not_false true is = refl
not_false false is = cc

pub record IsTaken (function : FunctionFields) (held : RequestState) (p : Setup) (sent : List ℕ) (owner : Owner) : Type 0 where
  pub wide : is_some (width_of owner (high p.value)) ≡ true
  pub within : is_in_range function.entities owner (low p.value) ≡ true
  pub writable : is_writable owner (high p.value) (low p.value) ≡ true
  pub whole : length sent ≡ unwrap_or (width_of owner (high p.value)) 0
  pub legal : is_legal function.entities held.controls (key_named p) (sent_value owner (high p.value) sent) ≡ true
  pub still : (is_clock_control owner && (is_running held.settings && not (has_value held.controls (key_named p) (sent_value owner (high p.value) sent)))) ≡ false

pub is_taken : (function : FunctionFields) (held : RequestState) (p : Setup) (sent : List ℕ) (owner : Owner) → has_interface function (low p.index) ≡ true → owner_of function p.index ≡ Some owner → p.request_type ≡ 33 → p.request ≡ 1 → first_broken function held p sent ≡ None → IsTaken function held p sent owner
is_taken function held p sent owner has of type number none =
    let met = are_met (set_rules function held p sent owner) (sym (first_set function held p sent owner has of type number) ∙ none) in
    record {
      wide = not_false _ met.0;
      within = not_false _ met.1.1.0;
      writable = not_false _ met.1.1.1.0;
      whole = eqb-true _ _ (and_parts _ _ (not_false _ met.1.1.1.1.0)).1;
      legal = not_false _ met.1.1.1.1.1.0;
      still = met.1.1.1.1.1.1.0;
    }
