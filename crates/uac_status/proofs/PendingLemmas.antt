-- The keys whose messages wait.
use Rattle.std.proofs.Common.{◌≡◌, ◌∙◌, refl, ap, sym, subst, ◌||◌, Bool, true, false, if◌then◌else◌, List, [], ◌∷◌, ◌++◌, map, Option, Some, is_some, IfSome}
use Rattle.std.specs.List.{AllByRecursion, find}
use Rattle.uac_store.specs.declared.keys.Key.{Key}
use Rattle.uac_store.specs.Keyed.{same_key}
use Rattle.uac_store.proofs.KeyedLemmas.{one_key, key_itself}
use Rattle.uac_mixer.specs.declared.element.Element.{Element}
use Rattle.uac_mixer.proofs.MixerElementsListLemmas.{joined, weaker}
use Rattle.uac_status.specs.Knobs.{KnobOutcome, knob_stalls, knob_rests, knob_changes, is_pending, pending_turned, with_pending}
use Rattle.uac_status.specs.PanelLaws.{IsKeyShown, WaitOnce}

any_last : (k : Key) (pending : List Key) (l : Key) → is_pending (pending ++ l ∷ []) k ≡ false → (is_pending pending k ≡ false) × (same_key l k ≡ false)
any_last k [] l h = by (same_key l k) h where
  by : (b : Bool) → (b || false) ≡ false → (false ≡ false) × (b ≡ false)
  by true e = absurd (cc)
  by false e = (refl, refl)
any_last k (m ∷ pending) l h = by (same_key m k) h (λ e. any_last k pending l e) where
  by : (b : Bool) → (b || is_pending (pending ++ l ∷ []) k) ≡ false
      → (is_pending (pending ++ l ∷ []) k ≡ false → (is_pending pending k ≡ false) × (same_key l k ≡ false))
      → ((b || is_pending pending k) ≡ false) × (same_key l k ≡ false)
  by true e rest = absurd (cc)
  by false e rest = rest e

-- a key that doesn't wait after another does is another, and didn't wait
pub still_other : (k l : Key) (pending : List Key) → is_pending (with_pending l pending) k ≡ false → (is_pending pending k ≡ false) × (same_key l k ≡ false)
unfolding with_pending
still_other k l pending h = by (is_pending pending l) refl h where
  by : (b : Bool) → is_pending pending l ≡ b → is_pending (if b then pending else pending ++ l ∷ []) k ≡ false → (is_pending pending k ≡ false) × (same_key l k ≡ false)
  by false e other = any_last k pending l other
  by true e other = (other, apart (same_key l k) refl) where
    apart : (b : Bool) → same_key l k ≡ b → same_key l k ≡ false
    apart false is = is
    apart true is = absurd (let same : l ≡ k = one_key l k is in let no : false ≡ true = sym other ∙ ap (is_pending pending) (sym same) ∙ e in cc)

-- a key that isn't the first, and doesn't wait after it, doesn't wait
pub first_of : (k : Key) (later : List Key) (l : Key) → same_key k l ≡ false → is_pending later l ≡ false → is_pending (k ∷ later) l ≡ false
first_of k later l apart other = by (same_key k l) (is_pending later l) apart other where
  by : (a b : Bool) → a ≡ false → b ≡ false → (a || b) ≡ false
  by false false c d = refl
  by true b c d = c
  by false true c d = d

-- what is found in a list is one of it
pub found_in : {X : Type 0} (P : X → Type 0) (test : X → Bool) (xs : List X) → AllByRecursion P xs → IfSome (find test xs) (λ x. P x × (test x ≡ true))
found_in P test [] each = tt
found_in P test (x ∷ xs) each = by (test x) refl (found_in P test xs each.1) where
  by : (b : Bool) → test x ≡ b → IfSome (find test xs) (λ y. P y × (test y ≡ true)) → IfSome (if b then Some x else find test xs) (λ y. P y × (test y ≡ true))
  by true is rest = (each.0, is)
  by false is rest = rest

-- ---- keys that are shown

first_shown : (k : Key) (b : Bool) (x : Element) (o : Option Element) → is_some o ≡ true → is_some (if b then Some x else o) ≡ true
first_shown k true x o is = refl
first_shown k false x o is = is

pub each_shown : (xs : List Element) → AllByRecursion (λ x. IsKeyShown xs x.key) xs
each_shown [] = tt
each_shown (x ∷ xs) = (
  (let self : same_key x.key x.key ≡ true = key_itself x.key in ap (λ (b : Bool). is_some (if b then Some x else find (λ (y : Element). same_key y.key x.key) xs)) self),
  weaker (λ y. IsKeyShown xs y.key) (λ y. IsKeyShown (x ∷ xs) y.key) xs (λ y is. first_shown y.key (same_key x.key y.key) x (find (λ (z : Element). same_key z.key y.key) xs) is) (each_shown xs),
)

pub shown_after : (f : Element → Element) (xs : List Element) (k : Key) → ((x : Element) → (f x).key ≡ x.key) → IsKeyShown xs k → IsKeyShown (map f xs) k
shown_after f [] k same is = is
shown_after f (x ∷ xs) k same is = by (same_key x.key k) (same_key (f x).key k) (ap (λ (l : Key). same_key l k) (same x)) is (λ e. shown_after f xs k same e) where
  by : (a b : Bool) → b ≡ a → is_some (if a then Some x else find (λ (y : Element). same_key y.key k) xs) ≡ true
      → (IsKeyShown xs k → IsKeyShown (map f xs) k)
      → is_some (if b then Some (f x) else find (λ (y : Element). same_key y.key k) (map f xs)) ≡ true
  by true true e is rest = refl
  by false false e is rest = rest is
  by true false e is rest = absurd (cc)
  by false true e is rest = absurd (cc)

pub all_shown_after : (f : Element → Element) (xs : List Element) (ks : List Key) → ((x : Element) → (f x).key ≡ x.key) → AllByRecursion (IsKeyShown xs) ks
    → AllByRecursion (IsKeyShown (map f xs)) ks
all_shown_after f xs ks same all = weaker (IsKeyShown xs) (IsKeyShown (map f xs)) ks (λ k is. shown_after f xs k same is) all

pub shown_with : (xs : List Element) (k : Key) (ks : List Key) → AllByRecursion (IsKeyShown xs) ks → IsKeyShown xs k → AllByRecursion (IsKeyShown xs) (with_pending k ks)
unfolding with_pending
shown_with xs k ks all is = by (is_pending ks k) where
  by : (b : Bool) → AllByRecursion (IsKeyShown xs) (if b then ks else ks ++ k ∷ [])
  by true = all
  by false = joined (IsKeyShown xs) ks (k ∷ []) all (is, tt)

pub shown_turned : (o : KnobOutcome) (xs : List Element) (k : Key) (ks : List Key) → AllByRecursion (IsKeyShown xs) ks → IsKeyShown xs k → AllByRecursion (IsKeyShown xs) (pending_turned o k ks)
shown_turned (knob_stalls rule) xs k ks all is = all
shown_turned knob_rests xs k ks all is = all
shown_turned knob_changes xs k ks all is = shown_with xs k ks all is

-- a key that waits already waits once
pub waits_once : (o : KnobOutcome) (k : Key) (pending : List Key) → is_pending pending k ≡ true → pending ≡ pending_turned o k pending
unfolding with_pending
waits_once (knob_stalls rule) k pending waits = refl
waits_once knob_rests k pending waits = refl
waits_once knob_changes k pending waits = sym (ap (λ (b : Bool). if b then pending else pending ++ k ∷ []) waits)

-- one that didn't waits last, where the control changed
pub waits_last : (o : KnobOutcome) (k : Key) (pending : List Key) → is_pending pending k ≡ false → o ≡ knob_changes → pending ++ k ∷ [] ≡ pending_turned o k pending
unfolding with_pending
waits_last o k pending none changes =
    sym (ap (λ (b : Bool). if b then pending else pending ++ k ∷ []) none) ∙ ap (λ (p : KnobOutcome). pending_turned p k pending) (sym changes)

-- ---- keys that wait once

same_apart : (k l : Key) → same_key k l ≡ false → same_key l k ≡ false
same_apart k l apart = by (same_key l k) refl where
  by : (b : Bool) → same_key l k ≡ b → same_key l k ≡ false
  by false is = is
  by true is =
      absurd (let same : l ≡ k = one_key l k is in let no : false ≡ true = sym apart ∙ (ap (same_key k) same ∙ key_itself k) in cc)

still_apart : (later : List Key) (l k : Key) → is_pending later l ≡ false → same_key k l ≡ false → is_pending (later ++ k ∷ []) l ≡ false
still_apart [] l k none apart = by (same_key k l) apart where
  by : (b : Bool) → b ≡ false → (b || false) ≡ false
  by false e = refl
  by true e = absurd (cc)
still_apart (m ∷ later) l k none apart = by (same_key m l) none (λ e. still_apart later l k e apart) where
  by : (b : Bool) → (b || is_pending later l) ≡ false → (is_pending later l ≡ false → is_pending (later ++ k ∷ []) l ≡ false)
      → (b || is_pending (later ++ k ∷ []) l) ≡ false
  by true e rest = absurd (cc)
  by false e rest = rest e

once_last : (pending : List Key) (k : Key) → WaitOnce pending → is_pending pending k ≡ false → WaitOnce (pending ++ k ∷ [])
once_last [] k once new = (refl, tt)
once_last (l ∷ later) k once new = by (same_key l k) refl new (λ e. once_last later k once.1 e) where
  by : (b : Bool) → same_key l k ≡ b → (b || is_pending later k) ≡ false → (is_pending later k ≡ false → WaitOnce (later ++ k ∷ []))
      → WaitOnce (l ∷ (later ++ k ∷ []))
  by true is e rest = absurd (cc)
  by false is e rest = (still_apart later l k once.0 (same_apart l k is), rest e)

once_with : (k : Key) (pending : List Key) → WaitOnce pending → WaitOnce (with_pending k pending)
unfolding with_pending
once_with k pending once = by (is_pending pending k) refl where
  by : (b : Bool) → is_pending pending k ≡ b → WaitOnce (if b then pending else pending ++ k ∷ [])
  by true is = once
  by false is = once_last pending k once is

pub once_turned : (o : KnobOutcome) (k : Key) (pending : List Key) → WaitOnce pending → WaitOnce (pending_turned o k pending)
once_turned (knob_stalls rule) k pending once = once
once_turned knob_rests k pending once = once
once_turned knob_changes k pending once = once_with k pending once

pub later_once : (pending : List Key) (k : Key) (later : List Key) → pending ≡ k ∷ later → WaitOnce pending → WaitOnce later
later_once pending k later is once = (subst WaitOnce is once).1
