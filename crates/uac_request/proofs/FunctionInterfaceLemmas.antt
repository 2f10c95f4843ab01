-- Interfaces that were found by number.
use Rattle.std.proofs.Common.{◌≡◌, ℕ, ◌==◌, if◌then◌else◌, List, [], ◌∷◌, Some, None, ap, sym, inl, inr, arith}
use Rattle.std.proofs.lemmas.Bool.{cases_Bool}
use Rattle.std.specs.List.{find}
use Rattle.uac_entities.specs.declared.stream.StreamInterface.{StreamInterface}
use Rattle.uac_topology.specs.Function.{FunctionFields, interface_in}
use Rattle.uac_request.specs.Requests.{has_interface}

-- one that was found has the number that was looked for
pub has_number : (streams : List StreamInterface) (n : ℕ) (s : StreamInterface) → find (λ t. t.number == n) streams ≡ Some s → s.number ≡ n
has_number [] n s found = cc
has_number (t ∷ streams) n s found = elim (cases_Bool (t.number == n)) [
  | inl same ↦ (let it : Some t ≡ Some s = rw same at found in let is : t.number ≡ n = grind arith in cc)
  | inr other ↦ has_number streams n s (rw other at found)
]

-- and so has a streaming interface of the function
pub number_found : (function : FunctionFields) (n : ℕ) (s : StreamInterface) → Some s ≡ interface_in function n → Some s.number ≡ (if has_interface function n then Some n else None)
number_found function n s found = elim (cases_Bool (n == function.control_interface)) [
  | inl own ↦ rw (own) (ap Some (has_number function.streams n s (sym found)))
  | inr other ↦ rw (other, ← found) (ap Some (has_number function.streams n s (sym found)))
]
