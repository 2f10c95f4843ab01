-- The configuration's bytes: those after a device descriptor.
use Rattle.std.proofs.Common.{◌≡◌, ◌∙◌, ap, refl, arith, ℕ, ◌-◌, Bool, true, false, List, length, take, drop, min, if◌then◌else◌}
use Rattle.std.proofs.lemmas.List.{take_rest, drop_min}
use Rattle.uac_topology.specs.Configuration.{begins_with_device, configuration_of}

-- so many bytes are left out, or all of them
left_out : (bytes items : List ℕ) (n at : ℕ) → at ≡ min (length bytes) n → items ≡ take (length bytes - at) (drop at bytes) → items ≡ drop n bytes
left_out bytes items n at at-is items-is =
    let on : at ≡ min n (length bytes) = omega (arith, at-is) in
    items-is ∙ take_rest bytes at ∙ ap (λ (k : ℕ). drop k bytes) on ∙ drop_min n bytes

-- a device descriptor's bytes are left out, where one stands in front
pub configured : (bytes items : List ℕ) (b : Bool) (front at : ℕ) → b ≡ begins_with_device bytes → front ≡ (if b then 18 else 0) → at ≡ min (length bytes) front
    → items ≡ take (length bytes - at) (drop at bytes) → items ≡ configuration_of bytes
unfolding configuration_of
configured bytes items b front at is front-is at-is items-is =
    left_out bytes items (if b then 18 else 0) at (at-is ∙ ap (min (length bytes)) front-is) items-is ∙ by_case b ∙ ap (λ (c : Bool). if c then drop 18 bytes else bytes) is
  where
    by_case : (c : Bool) → drop (if c then 18 else 0) bytes ≡ (if c then drop 18 bytes else bytes)
    by_case true = refl
    by_case false = refl
