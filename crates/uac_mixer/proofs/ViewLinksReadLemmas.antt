-- Reading each element of a view in turn.
use Rattle.std.proofs.Common.{◌≡◌, ◌∙◌, refl, ap, sym, subst, ℕ, ◌+◌, ◌<◌, ◌≤◌, ◌==◌, Bool, true, false, if◌then◌else◌, ℤ, List, [], ◌∷◌, ◌++◌, map, length, take, zero, suc, slice_get, slice_index_or, Option, Some, None, IfSome, IsSome, Result, Ok, Err, IsErrAnd, OnErr, is_ok, inl, inr, arith}
use Rattle.std.specs.List.{All, AllByRecursion}
use Rattle.std.specs.Option.{option_map}
use Rattle.std.proofs.lemmas.Bool.{cases_lt}
use Rattle.std.proofs.lemmas.List.{length-map, take_all, take_more}
use Rattle.std.proofs.lemmas.List.Elements.{All-from_recursion, recursion_from_All}
use Rattle.std.proofs.lemmas.Option.{slice_get-get_or, slice_get-map, slice_get_within, get_or_from_slice_get}
use Rattle.uac_entities.specs.declared.entity.Entity.{Entity}
use Rattle.uac_topology.specs.Function.{FunctionFields}
use Rattle.uac_store.specs.declared.keys.Key.{Key}
use Rattle.uac_store.specs.Keyed.{value_of}
use Rattle.uac_request.specs.Requests.{AnswerFields, is_done, is_stalled, value_bytes, with_bytes, with_descriptor}
use Rattle.uac_device.specs.DeviceKept.{DeviceFields, IsControlled}
use Rattle.uac_mixer.specs.declared.element.Element.{Element}
use Rattle.uac_mixer.specs.declared.link.When.{When}
use Rattle.uac_mixer.specs.declared.link.When.TheVariants as when
use Rattle.uac_mixer.specs.MixerElements.{element_list, with_no_value, width_of}
use Rattle.uac_mixer.specs.ViewLinks.{AreAsked, BreaksAs, IsAsBefore, IsTransferred, LinkFields}
use Rattle.uac_mixer.specs.ViewTransfers.{after_get, after_set, element_after, get_of, gets, value_after, value_in, view_after}
use Rattle.uac_mixer.specs.ViewWorld.{IsViewOf, ViewWorld, known_view, read_from}
use Rattle.uac_mixer.specs.Agreement.{IsAgreed, IsMade, IsElementRead}
use Rattle.uac_mixer.proofs.ViewTransfersLemmas.{no_set}
use Rattle.uac_mixer.proofs.MixerElementsListLemmas.{none_read}

-- the first elements were read
pub record HaveRead (at : ℕ) (now : ViewWorld) (old new : LinkFields) : Type 0 where
  pub of : IsViewOf old.device.function.entities now
  pub agreed : IsAgreed old.device.controls now
  pub known : (k : ℕ) (x : Element) → k < at → slice_get now.elements k ≡ Some x → IsSome x.value
  pub asked : AreAsked old.device.function.control_interface (take at (element_list old.device.function.entities)) old.device new.device
  pub before : IsAsBefore old.device new.device
  pub never_falls : old.breaks ≤ new.breaks
  pub told : old.fault ≡ Some None → new.fault ≡ Some None

-- ---- the chain of gets

one_more : (control : ℕ) (xs : List Element) (x : Element) (told : AnswerFields) (a b c : DeviceFields) → AreAsked control xs a b → IsControlled (get_of control x) [] told b c → AreAsked control (xs ++ x ∷ []) a c
one_more control [] x told a b c is acted = (c, told, subst (λ (d : DeviceFields). IsControlled (get_of control x) [] told d c) is acted, refl)
one_more control (y ∷ ys) x told a b c is acted = (is.0, is.1, is.2, one_more control ys x told is.0 b c is.3 acted)

-- the element at an index, as it is listed
listed_at : (entities : List Entity) (view : ViewWorld) (at : ℕ) (x : Element) → IsViewOf entities view → slice_get view.elements at ≡ Some x → take (at + 1) (element_list entities) ≡ take at (element_list entities) ++ with_no_value x ∷ []
listed_at entities view at x is there =
    let mapped : slice_get (element_list entities) at ≡ Some (with_no_value x) = ap (λ (xs : List Element). slice_get xs at) (sym is) ∙ slice_get-map with_no_value view.elements at ∙ ap (option_map with_no_value) there in
    let within : at < length (element_list entities) = slice_get_within (element_list entities) at (with_no_value x) mapped in
    take_more (element_list entities) at (with_no_value x) within ∙ ap (λ (y : Element). take at (element_list entities) ++ y ∷ []) (get_or_from_slice_get (element_list entities) at (with_no_value x) (with_no_value x) mapped)

-- ---- what is known

got_some : (y : Element) (t : AnswerFields) → IsSome y.value → IsSome (after_get y (Some t))
got_some y (with_bytes bytes) known = from (length bytes == width_of y.kind) where
  from : (b : Bool) → IsSome (if b then Some (value_in y bytes) else y.value)
  from true = refl
  from false = known
got_some y (with_descriptor a b) known = known
got_some y is_done known = known
got_some y (is_stalled rule) known = known

still_some : (control : ℕ) (x y : Element) (t : AnswerFields) → IsSome y.value → IsSome (value_after control (get_of control x) [] (Some t) y)
unfolding value_after
still_some control x y t known =
    subst (λ (b : Bool). IsSome (if b then after_set y [] (Some t) else if gets control (get_of control x) y then after_get y (Some t) else y.value)) (sym (no_set control x y)) (from (gets control (get_of control x) y))
  where
    from : (b : Bool) → IsSome (if b then after_get y (Some t) else y.value)
    from true = got_some y t known
    from false = known

known_before : (control : ℕ) (x : Element) (t : AnswerFields) (view : ViewWorld) (k : ℕ) (z : Element) → ((y : Element) → slice_get view.elements k ≡ Some y → IsSome y.value)
    → slice_get (view_after control (get_of control x) [] (Some t) view).elements k ≡ Some z → IsSome z.value
unfolding view_after
known_before control x t view k z known is = from (slice_get view.elements k) refl (sym (slice_get-map (element_after control (get_of control x) [] (Some t)) view.elements k) ∙ is) where
  from : (o : Option Element) → slice_get view.elements k ≡ o → option_map (element_after control (get_of control x) [] (Some t)) o ≡ Some z → IsSome z.value
  from None there same = cc
  from (Some y) there same =
      let it : element_after control (get_of control x) [] (Some t) y ≡ z = cc in
      subst (λ (e : Element). IsSome e.value) it (still_some control x y t (known y there))

same_controls : (a b c : DeviceFields) → IsAsBefore a b → IsAsBefore b c → IsAsBefore a c
same_controls a b c is more = record { function = more.function ∙ is.function; controls = more.controls ∙ is.controls; settings = more.settings ∙ is.settings }

-- a told fault of none, after one more transfer
none_told : (control : ℕ) (x : Element) (came : Option AnswerFields) (old new : LinkFields) → IsTransferred (get_of control x) [] came old new → old.fault ≡ Some None → new.fault ≡ Some None
none_told control x came old new transfer none = (transfer.told None none).over

-- ---- one element more

pub read_more : (at : ℕ) (x : Element) (v : ℤ) (now after : ViewWorld) (old between new : LinkFields) → HaveRead at now old between → slice_get now.elements at ≡ Some x
    → IsMade (get_of between.device.function.control_interface x) [] (Some (with_bytes (value_bytes (width_of x.kind) v))) now after between new
    → option_map (λ (y : Element). y.value) (slice_get after.elements at) ≡ Some (Some v) → IsAsBefore between.device new.device → HaveRead (at + 1) after old new
read_more at x v now after old between new so there made kept still =
    let control : ℕ = old.device.function.control_interface in
    let told : AnswerFields = with_bytes (value_bytes (width_of x.kind) v) in
    let same : between.device.function ≡ old.device.function = so.before.function in
    let own : IsMade (get_of control x) [] (Some told) now after between new = subst (λ (f : FunctionFields). IsMade (get_of f.control_interface x) [] (Some told) now after between new) same made in
    let function : new.device.function ≡ old.device.function = made.function ∙ same in
    let view : after ≡ view_after control (get_of control x) [] (Some told) now = own.view ∙ ap (λ (f : FunctionFields). view_after f.control_interface (get_of control x) [] (Some told) now) same in
    record {
      of = subst (λ (f : FunctionFields). IsViewOf f.entities after) function made.of_function;
      agreed = subst (λ (c : List (Key × ℤ)). IsAgreed c after) (still.controls ∙ so.before.controls) (made.agreed (subst (λ (c : List (Key × ℤ)). IsAgreed c now) (sym so.before.controls) so.agreed));
      known = λ k z below is. elim (cases_lt k at) [
        | inl earlier ↦ known_before control x told now k z (λ y there'. so.known k y earlier there') (subst (λ (w : ViewWorld). slice_get w.elements k ≡ Some z) view is)
        | inr last ↦ (let here : k ≡ at = omega arith in
            let it : slice_get after.elements at ≡ Some z = subst (λ (i : ℕ). slice_get after.elements i ≡ Some z) here is in
            let value : option_map (λ (y : Element). y.value) (Some z) ≡ Some (Some v) = sym (ap (option_map (λ (y : Element). y.value)) it) ∙ kept in
            let some : z.value ≡ Some v = cc in subst IsSome (sym some) refl)
      ];
      asked = subst (λ (xs : List Element). AreAsked control xs old.device new.device) (sym (listed_at old.device.function.entities now at x so.of there))
          (one_more control (take at (element_list old.device.function.entities)) (with_no_value x) told old.device between.device new.device so.asked own.transfer.answered.device);
      before = same_controls old.device between.device new.device so.before still;
      never_falls = (let more = made.transfer.never_falls in let first = so.never_falls in omega arith);
      told = λ none. none_told between.device.function.control_interface x (Some told) between new made.transfer (so.told none);
    }

-- ---- where it broke

pub record HasBroken (old new : LinkFields) : Type 0 where
  pub reading : IsElementRead false old new
  pub broken : old.breaks < new.breaks
  pub told : (fault : Option When) → old.fault ≡ Some fault → IsSome fault

asked_so_far : (control : ℕ) (xs : List Element) (x : Element) (at : When) (old between new : LinkFields) → AreAsked control xs old.device between.device → BreaksAs at (get_of control x) [] between new
    → (ys : List Element) × AreAsked control ys old.device new.device
asked_so_far control xs x when.Before old between new asked broke = (xs, subst (λ (d : DeviceFields). AreAsked control xs old.device d) (sym broke.device) asked)
asked_so_far control xs x when.After old between new asked broke = (xs ++ x ∷ [], one_more control xs x broke.0 old.device between.device new.device asked broke.1.device)

fault_there : (x : Element) (old between new : LinkFields) (control : ℕ) → (old.fault ≡ Some None → between.fault ≡ Some None) → IsTransferred (get_of control x) [] None between new → (fault : Option When) → old.fault ≡ Some fault → IsSome fault
fault_there x old between new control none transfer (Some w) is = refl
fault_there x old between new control none transfer None is = (transfer.told None (none is)).breaks.0 refl

pub read_broke : (at : ℕ) (x : Element) (now after : ViewWorld) (old between new : LinkFields) → HaveRead at now old between
    → IsMade (get_of between.device.function.control_interface x) [] None now after between new → IsAsBefore between.device new.device → HasBroken old new
read_broke at x now after old between new so made still =
    let control : ℕ = old.device.function.control_interface in
    let transfer : IsTransferred (get_of control x) [] None between new = subst (λ (f : FunctionFields). IsTransferred (get_of f.control_interface x) [] None between new) so.before.function made.transfer in
    let rose = transfer.answered.0 in
    record {
      reading = record {
        never_falls = (let first = so.never_falls in omega arith);
        asked = asked_so_far control (take at (element_list old.device.function.entities)) x transfer.answered.1.0 old between new so.asked transfer.answered.1.1;
        all = λ no. cc;
        as_before = same_controls old.device between.device new.device so.before still;
        told = λ none. none_told control x None between new transfer (so.told none);
      };
      broken = (let first = so.never_falls in omega arith);
      told = fault_there x old between new control so.told transfer;
    }

-- ---- the start and the end

unread_agrees : (controls : List (Key × ℤ)) (view : ViewWorld) → All (λ (x : Element). x.value ≡ None) view.elements → IsAgreed controls view
unread_agrees controls view none = λ k d below. subst (λ (o : Option ℤ). IfSome o (λ v. value_of controls (slice_index_or view.elements k d).key ≡ Some v)) (sym (none k d below)) tt

unread_alone : (xs : List Element) → AllByRecursion (λ (x : Element). x.value ≡ None) xs → map with_no_value xs ≡ xs
unread_alone [] none = refl
unread_alone (x ∷ xs) none = (λ j. record x { value = sym none.0 j } ∷ unread_alone xs none.1 j)

-- at the start
pub read_none : (view : ViewWorld) (link : LinkFields) → view.elements ≡ element_list link.device.function.entities → HaveRead 0 view link link
read_none view link is =
    let none : AllByRecursion (λ (x : Element). x.value ≡ None) view.elements =
    subst (λ (xs : List Element). AllByRecursion (λ (x : Element). x.value ≡ None) xs) (sym is) (none_read link.device.function.entities) in
    record {
      of = unread_alone view.elements none ∙ is;
      agreed = unread_agrees link.device.controls view (All-from_recursion (λ (x : Element). x.value ≡ None) view.elements none);
      known = λ k x below there. absurd (omega arith);
      asked = refl;
      before = record { function = refl; controls = refl; settings = refl };
      never_falls = omega arith;
      told = λ is. is;
    }

pub element_there : (xs : List Element) (at : ℕ) → at < length xs → (x : Element) × (slice_get xs at ≡ Some x)
element_there [] at below = absurd (omega arith)
element_there (x ∷ xs) zero below = (x, refl)
element_there (x ∷ xs) (suc at) below = element_there xs at (omega arith)

-- the view has as many elements as at the start
pub as_long : (at : ℕ) (first now : ViewWorld) (old new : LinkFields) → HaveRead at now old new → first.elements ≡ element_list old.device.function.entities → length now.elements ≡ length first.elements
as_long at first now old new so is = sym (length-map now.elements with_no_value) ∙ ap length so.of ∙ ap length (sym is)

each_read : (controls : List (Key × ℤ)) (x : Element) → IsSome x.value → IfSome x.value (λ v. value_of controls x.key ≡ Some v) → read_from controls (with_no_value x) ≡ x
each_read controls x some agreed = (λ j. record x { value = from x.value some agreed j }) where
  from : (o : Option ℤ) → IsSome o → IfSome o (λ v. value_of controls x.key ≡ Some v) → value_of controls x.key ≡ o
  from None some agreed = cc
  from (Some v) some agreed = agreed

all_read : (controls : List (Key × ℤ)) (xs : List Element) → AllByRecursion (λ x. read_from controls (with_no_value x) ≡ x) xs → map (read_from controls) (map with_no_value xs) ≡ xs
all_read controls [] all = refl
all_read controls (x ∷ xs) all = (λ j. all.0 j ∷ all_read controls xs all.1 j)

pub record HasFinished (now : ViewWorld) (old new : LinkFields) : Type 0 where
  pub view : now ≡ known_view old.device.function.entities old.device.controls
  pub of : IsViewOf new.device.function.entities now
  pub reading : IsElementRead true old new

pub read_whole : (at : ℕ) (now : ViewWorld) (old new : LinkFields) → HaveRead at now old new → length now.elements ≤ at → HasFinished now old new
unfolding known_view
read_whole at now old new so past =
    let each : All (λ (x : Element). read_from old.device.controls (with_no_value x) ≡ x) now.elements =
    (λ k d below. each_read old.device.controls (slice_index_or now.elements k d) (so.known k (slice_index_or now.elements k d) (omega arith) (slice_get-get_or now.elements k d below)) (so.agreed k d below)) in
    let elements : now.elements ≡ map (read_from old.device.controls) (element_list old.device.function.entities) =
    sym (all_read old.device.controls now.elements (recursion_from_All (λ (x : Element). read_from old.device.controls (with_no_value x) ≡ x) now.elements each)) ∙ ap (map (read_from old.device.controls)) so.of in
    let long : length (element_list old.device.function.entities) ≤ at = subst (λ (xs : List Element). length xs ≤ at) so.of (let l = length-map now.elements with_no_value in omega arith) in
    let whole : AreAsked old.device.function.control_interface (element_list old.device.function.entities) old.device new.device =
    subst (λ (xs : List Element). AreAsked old.device.function.control_interface xs old.device new.device) (take_all at (element_list old.device.function.entities) long) so.asked in
    record {
      view = (λ j. record { elements = elements j });
      of = subst (λ (f : FunctionFields). IsViewOf f.entities now) (sym so.before.function) so.of;
      reading = record {
        never_falls = so.never_falls;
        asked = (element_list old.device.function.entities, whole);
        all = λ yes. whole;
        as_before = so.before;
        told = so.told;
      };
    }

-- what holds where a result is an error
pub at_err : {T E : Type 0} (Q : E → Type 0) (P : Type 0) (r : Result T E) → IsErrAnd r Q → P → OnErr r P
at_err Q P (Ok x) fails p = absurd fails
at_err Q P (Err e) fails p = p

pub none_of_err : {T E : Type 0} (Q : E → Type 0) (r : Result T E) → IsErrAnd r Q → is_ok r ≡ false
none_of_err Q (Ok x) fails = absurd fails
none_of_err Q (Err e) fails = refl
