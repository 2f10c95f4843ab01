-- The stream that a request asks for.
use Rattle.std.proofs.Common.{◌≡◌, ◌∙◌, refl, ap, ℕ, ◌==◌, Bool, true, false, cond, if◌then◌else◌, List, [], ◌∷◌, Option, Some, None}
use Rattle.std.specs.List.{find, list_any}
use Rattle.std.specs.Option.{option_and_then}
use Rattle.uac_clock.specs.Nominal.{nominal_of}
use Rattle.uac_entities.specs.declared.stream.Setting.{Setting}
use Rattle.uac_entities.specs.declared.stream.StreamInterface.{StreamInterface}
use Rattle.uac_topology.specs.Function.{FunctionFields}
use Rattle.uac_alt.specs.AltStreams.{stream_at, stream_of}

pub number_is : (b : Bool) (n m : ℕ) → Some n ≡ (if b then Some m else None) → n ≡ m
number_is true n m e = cc
number_is false n m e = absurd (cc)

none_is : (b : Bool) (m : ℕ) → None ≡ (if b then Some m else None) → b ≡ false
none_is true m e = absurd (cc)
none_is false m e = refl

-- what none is, isn't found
none_found : {X : Type 0} (p : X → Bool) (xs : List X) → list_any p xs ≡ false → find p xs ≡ None
none_found p [] none = refl
none_found p (x ∷ xs) none = by (p x) refl none (none_found p xs)
  where
    by : (b : Bool) → p x ≡ b → list_any p (x ∷ xs) ≡ false → (list_any p xs ≡ false → find p xs ≡ None) → find p (x ∷ xs) ≡ None
    by true same e others = absurd (let f : list_any p (x ∷ xs) ≡ true = rw same refl in cc)
    by false same e others =
        let rest : list_any p xs ≡ false = rw same at e in
        ap (λ (b : Bool). cond b (Some x) (find p xs)) same ∙ others rest

-- a setting that isn't there runs no stream
pub unset : (function : FunctionFields) (rate : ℕ) (s : StreamInterface) (setting : ℕ) → find (λ t. t.number == s.number) function.streams ≡ Some s
    → None ≡ (if list_any (λ t. t.number == setting) s.settings then Some setting else None) → stream_of function rate s.number setting ≡ None
unfolding stream_of
unset function rate s setting there missing = by (setting == 0)
  where
    none : find (λ t. t.number == setting) s.settings ≡ None
    none = none_found (λ (t : Setting). t.number == setting) s.settings (none_is (list_any (λ t. t.number == setting) s.settings) setting missing)

    streams : (o : Option StreamInterface) → o ≡ Some s
        → option_and_then (λ s. option_and_then (λ t. option_and_then (stream_at function s t) (nominal_of rate)) (find (λ t. t.number == setting) s.settings)) o ≡ None
    streams o found =
        ap (option_and_then (λ s. option_and_then (λ t. option_and_then (stream_at function s t) (nominal_of rate)) (find (λ t. t.number == setting) s.settings))) found
        ∙ ap (option_and_then (λ t. option_and_then (stream_at function s t) (nominal_of rate))) none

    by : (b : Bool)
        → (if b then None
        else option_and_then (λ s. option_and_then (λ t. option_and_then (stream_at function s t) (nominal_of rate)) (find (λ t. t.number == setting) s.settings))
        (find (λ t. t.number == s.number) function.streams))
        ≡ None
    by true = refl
    by false = streams (find (λ t. t.number == s.number) function.streams) there
