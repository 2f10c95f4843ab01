-- Reading the view at the start leaves what the device stands for.
use Rattle.std.proofs.Common.{◌≡◌, ◌∙◌, sym, ap, subst, refl, ℕ, ℤ, Bool, true, false, ◌&&◌, if◌then◌else◌, List, [], ◌∷◌}
use Rattle.uac_alt.specs.declared.settings.InterfaceSetting.{InterfaceSetting}
use Rattle.uac_store.specs.declared.keys.Key.{Key}
use Rattle.uac_request.specs.Requests.{RequestState, after_request, request_state, reply_of, sets_interface, is_done_answer}
use Rattle.uac_request.specs.declared.setup.Setup.{Setup}
use Rattle.uac_device.specs.DeviceKept as device
use Rattle.uac_topology.specs.Function.{FunctionFields}
use Rattle.uac_store.specs.StoreControls.{initial_controls}
use Rattle.uac_device.specs.DeviceWorld.{DeviceWorld, after_control, after_restart, fresh, stream_in_setting}
use Rattle.uac_mixer.specs.Agreement.{IsElementRead}
use Rattle.uac_mixer.specs.MixerElements.{element_list}
use Rattle.uac_mixer.specs.ViewLinks.{AreAsked, IsAsBefore, LinkFields}
use Rattle.uac_mixer.specs.ViewTransfers.{get_of}
use Rattle.uac_mixer.specs.ViewWorld.{known_view}
use Rattle.uac_mixer.specs.declared.element.Element.{Element}

-- the world where this is held
abbrev with_held : DeviceWorld → RequestState → DeviceWorld
with_held w after = record w { controls = after.controls; settings = after.settings }

-- a request that sets no interface changes what is held
controlled_held : (p : Setup) (bytes : List ℕ) (w : DeviceWorld) → sets_interface p ≡ false
    → after_control p bytes w ≡ with_held w (after_request w.function (request_state w.controls w.settings) p bytes)
unfolding after_control
controlled_held p bytes w other =
    let held = request_state w.controls w.settings in
    let asked = with_held w (after_request w.function held p bytes) in
    ap (λ (b : Bool). if b && is_done_answer (reply_of w.function held p bytes)
    then after_restart p.index (stream_in_setting w.function w.controls p.index p.value) asked else asked) other

-- reading an element sets no interface
gets_only : (control : ℕ) (x : Element) → sets_interface (get_of control x) ≡ false
gets_only control x = refl

-- the device stands for the same world with what it holds now
asked_stand : (control : ℕ) (xs : List Element) (old new : device.DeviceFields) (w : DeviceWorld) → AreAsked control xs old new → device.DeviceStands old w
    → (h : RequestState) × device.DeviceStands new (with_held w h)
asked_stand control [] old new w same stands = (request_state w.controls w.settings, subst (λ (d : device.DeviceFields). device.DeviceStands d w) (sym same) stands)
asked_stand control (x ∷ xs) old new w (between, told, is, rest) stands =
    let other = gets_only control x in
    let next = after_request w.function (request_state w.controls w.settings) (get_of control x) [] in
    let here : device.DeviceStands between (with_held w next) = subst (λ (v : DeviceWorld). device.DeviceStands between v) (controlled_held (get_of control x) [] w other) (is.stands w stands) in
    asked_stand control xs between new (with_held w next) rest here

same_held : (a b : List (Key × ℤ)) (s t : List InterfaceSetting) → a ≡ b → s ≡ t → request_state a s ≡ request_state b t
same_held a b s t c d = ap (λ (x : List (Key × ℤ)). request_state x s) c ∙ ap (λ (y : List InterfaceSetting). request_state b y) d

-- and it holds what it held
pub read_stands : (control : ℕ) (xs : List Element) (old new : device.DeviceFields) (w : DeviceWorld) → AreAsked control xs old new → IsAsBefore old new
    → device.DeviceStands old w → device.DeviceStands new w
read_stands control xs old new w asked same stands =
    let now = asked_stand control xs old new w asked stands in
    let h = now.0 in
    let is : h ≡ request_state w.controls w.settings =
    same_held h.controls w.controls h.settings w.settings (sym now.1.controls ∙ same.controls ∙ stands.controls) (sym now.1.settings ∙ same.settings ∙ stands.settings) in
    subst (λ (k : RequestState). device.DeviceStands new (with_held w k)) is now.1

-- and so does reading every element of a view: what is kept after it stands for what stood before it
pub reading_stands : (old new : LinkFields) (d e : device.DeviceFields) (w : DeviceWorld) → IsElementRead true old new → old.device ≡ d → e ≡ new.device
    → device.DeviceStands d w → device.DeviceStands e w
reading_stands old new d e w reading lent back stands =
    subst (λ (f : device.DeviceFields). device.DeviceStands f w) (sym back)
    (read_stands old.device.function.control_interface (element_list old.device.function.entities) old.device new.device w (reading.all refl) reading.as_before
    (subst (λ (f : device.DeviceFields). device.DeviceStands f w) (sym lent) stands))

pub function_kept : (function : FunctionFields) (d : device.DeviceFields) → device.DeviceStands d (fresh function) → d.function ≡ function
unfolding fresh
function_kept function d stands = stands.function

-- what is read of a fresh device
pub known_start : (function : FunctionFields) (d : device.DeviceFields) → device.DeviceStands d (fresh function)
    → known_view d.function.entities d.controls ≡ known_view function.entities (initial_controls function.entities)
unfolding fresh
known_start function d stands =
    ap (λ (f : FunctionFields). known_view f.entities d.controls) stands.function ∙ ap (known_view function.entities) stands.controls
