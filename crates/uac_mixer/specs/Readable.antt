-- For which transfers the elements of a view are looked through, and what makes the value that one gives an element one of 32 bits.
use Rattle.std.specs.Prelude.{◌≡◌, ℕ, ◌≤◌, ◌==◌, ◌&&◌, ◌||◌, Bool, true, List, length, Option, Some}
use Rattle.std.specs.Int.{w32}
use Rattle.std.specs.Int.RustNames.{FitsSigned}
use Rattle.uac_request.specs.Requests.{AnswerFields, is_done, low, with_bytes}
use Rattle.uac_request.specs.declared.setup.Setup.{Setup}
use Rattle.uac_mixer.specs.declared.element.Element.{Element}
use Rattle.uac_mixer.specs.MixerElements.{width_of}
use Rattle.uac_mixer.specs.ViewTransfers.{gets, sets, value_in}

-- a transfer sets or gets a control of the interface with this number, whichever it names
unfoldable pub is_for_any : ℕ → Setup → Bool
is_for_any control p = (p.request_type == 33 || p.request_type == 161) && (p.request == 1 && low p.index == control)

-- the value that was sent, where it is done, and the value that came
pub record IsReadable (control : ℕ) (p : Setup) (sent : List ℕ) (came : Option AnswerFields) (x : Element) : Type 0 where
  pub short : sets control p x ≡ true → came ≡ Some is_done → length sent ≤ 4
  pub sent_fits : sets control p x ≡ true → came ≡ Some is_done → FitsSigned w32 (value_in x sent)
  pub told_fits : (bytes : List ℕ) → gets control p x ≡ true → came ≡ Some (with_bytes bytes) → length bytes ≡ width_of x.kind
      → FitsSigned w32 (value_in x bytes)
