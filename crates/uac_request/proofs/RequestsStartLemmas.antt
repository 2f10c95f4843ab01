-- The settings at the start.
use Rattle.std.proofs.Common.{◌≡◌, ℕ, ◌==◌, true, false, List, [], ◌∷◌, map, is_some, refl, inl, inr, arith}
use Rattle.std.proofs.lemmas.Bool.{cases_Bool}
use Rattle.std.specs.List.{find}
use Rattle.uac_entities.specs.declared.stream.StreamInterface.{StreamInterface}
use Rattle.uac_topology.specs.Function.{FunctionFields}
use Rattle.uac_alt.specs.AltSettings.{in_first, initial_settings, setting_of}
use Rattle.uac_request.specs.Requests.{AreSettingsOf}

-- of the streaming interfaces
among_streams : (streams : List StreamInterface) (n : ℕ) → is_some (setting_of (map in_first (map (λ s. s.number) streams)) n) ≡ is_some (find (λ s. s.number == n) streams)
unfolding setting_of
among_streams [] n = refl
among_streams (s ∷ streams) n = elim (cases_Bool (s.number == n)) [
  | inl same ↦ rw same refl
  | inr other ↦ rw other (among_streams streams n)
]

pub are_settings : (function : FunctionFields) → AreSettingsOf function (initial_settings function)
unfolding setting_of initial_settings
are_settings function n = elim (cases_Bool (n == function.control_interface)) [
  | inl own ↦ (let turned : (function.control_interface == n) ≡ true = grind arith in rw (turned, own) refl)
  | inr other ↦ (let turned : (function.control_interface == n) ≡ false = grind arith in rw (turned, other) (among_streams function.streams n))
]
