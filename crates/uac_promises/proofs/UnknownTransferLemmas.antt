-- What a transfer reveals of an element is what becomes of its value in the host's view.
use Rattle.std.proofs.Common.{◌≡◌, refl, ℕ, ◌==◌, ◌&&◌, ◌||◌, Bool, true, false, if◌then◌else◌, ℤ, List, [], ◌∷◌, map, length, Option, None, Some, is_some, unwrap_or}
use Rattle.std.specs.List.{AllZip}
use Rattle.uac_request.specs.Requests.{AnswerFields, is_done, is_stalled, with_bytes, with_descriptor}
use Rattle.uac_request.specs.declared.setup.Setup.{Setup}
use Rattle.uac_mixer.specs.MixerElements.{with_no_value, width_of}
use Rattle.uac_mixer.specs.ViewTransfers.{after_get, after_set, element_after, gets, is_for, sets, value_after, value_in, view_after}
use Rattle.uac_mixer.specs.declared.element.Element.{Element}
use Rattle.uac_mixer.proofs.AgreementLemmas.{is_request}
use Rattle.uac_running.specs.RunningWorld.{RunningWorld}
use Rattle.uac_running.specs.RunningTransfers.{after_transfer}
use Rattle.uac_promises.specs.Unknown.{Transfer, brings, came_back, is_broken, came_done, reveals}

-- what becomes of an element: it stays the same but for its value, which is known as was told, or as it was where nothing was told
pub record IsToldOf (told : Option Bool) (x y : Element) : Type 0 where
  pub same : with_no_value y ≡ with_no_value x
  pub known : is_some y.value ≡ unwrap_or told (is_some x.value)

-- ---- lists of elements

zip_map : {X : Type 0} (R : X → X → Type 0) (f : X → X) (xs : List X) → ((x : X) → R x (f x)) → AllZip R xs (map f xs)
zip_map R f [] each = tt
zip_map R f (x ∷ xs) each = (each x, zip_map R f xs each)

pub none_told : (xs : List Element) → AllZip (IsToldOf None) xs xs
none_told [] = tt
none_told (x ∷ xs) = (record { same = refl; known = refl }, none_told xs)

-- ---- one element

-- no transfer sets and gets
no_get : (control : ℕ) (p : Setup) (x : Element) → sets control p x ≡ true → gets control p x ≡ false
unfolding is_for
no_get control p x is = (let type : p.request_type ≡ 33 = (is_request 33 control p x is).type' in rw type refl)

-- the value after a transfer that this came back of, where it is a set of the element or isn't, and a get or isn't
abbrev value_by : Bool → Bool → List ℕ → Option AnswerFields → Element → Option ℤ
value_by s g sent came x = if s then after_set x sent came else if g then after_get x came else x.value

abbrev told_by : Bool → Bool → Option AnswerFields → Element → Option Bool
told_by s g came x =
    if s && is_broken came then Some false else if (s && came_done came) || (g && brings (width_of x.kind) came) then Some true else None

abbrev IsAsTold : Bool → Bool → List ℕ → Option AnswerFields → Element → Type 0
IsAsTold s g sent came x = is_some (value_by s g sent came x) ≡ unwrap_or (told_by s g came x) (is_some x.value)

got : (sent bytes : List ℕ) (x : Element) → IsAsTold false true sent (Some (with_bytes bytes)) x
got sent bytes x = by (length bytes == width_of x.kind)
  where
    by : (b : Bool) → is_some (if b then Some (value_in x bytes) else x.value) ≡ unwrap_or (if b then Some true else None) (is_some x.value)
    by true = refl
    by false = refl

by_kind : (s g : Bool) (sent : List ℕ) (came : Option AnswerFields) (x : Element) → (s ≡ true → g ≡ false) → IsAsTold s g sent came x
by_kind true true sent came x apart = (let no : true ≡ false = apart refl in cc)
by_kind true false sent None x apart = refl
by_kind true false sent (Some (with_bytes bytes)) x apart = refl
by_kind true false sent (Some (with_descriptor from to)) x apart = refl
by_kind true false sent (Some is_done) x apart = refl
by_kind true false sent (Some (is_stalled rule)) x apart = refl
by_kind false true sent None x apart = refl
by_kind false true sent (Some (with_bytes bytes)) x apart = got sent bytes x
by_kind false true sent (Some (with_descriptor from to)) x apart = refl
by_kind false true sent (Some is_done) x apart = refl
by_kind false true sent (Some (is_stalled rule)) x apart = refl
by_kind false false sent came x apart = refl

one_told : (r : RunningWorld) (t : Transfer) (x : Element)
    → IsToldOf (reveals r x t) x (element_after r.device.function.control_interface t.setup t.sent (came_back r t) x)
unfolding reveals value_after
one_told r t x =
    let control = r.device.function.control_interface in
    record {
      same = refl;
      known = by_kind (sets control t.setup x) (gets control t.setup x) t.sent (came_back r t) x (no_get control t.setup x);
    }

-- ---- the view

-- what a transfer of a running device tells of each element of its view is what becomes of it
pub transfer_told : (r : RunningWorld) (t : Transfer)
    → AllZip (λ x y. IsToldOf (reveals r x t) x y) r.view.elements (after_transfer t.setup t.sent r).view.elements
unfolding after_transfer view_after
transfer_told r t =
    zip_map (λ x y. IsToldOf (reveals r x t) x y)
    (element_after r.device.function.control_interface t.setup t.sent (came_back r t)) r.view.elements (one_told r t)
