-- The settings that interfaces are in after one was changed.
use Rattle.std.proofs.Common.{◌≡◌, ◌≢◌, ◌∙◌, ℕ, ◌==◌, ◌+◌, ◌<◌, ◌++◌, length, take, drop, set, get_or, if◌then◌else◌, false, refl, ap, List, [], ◌∷◌, map, Some, IsSome, eq-eqb, ne_eqb, inl, inr, arith}
use Rattle.std.proofs.lemmas.Bool.{cases_Bool, cases_eq}
use Rattle.std.proofs.lemmas.List.{get_or_default}
use Rattle.std.proofs.lemmas.List.Edits.{map_over_more}
use Rattle.uac_alt.specs.AltSettings.{interface_setting_after, setting_of, with_setting}
use Rattle.uac_alt.specs.declared.settings.InterfaceSetting.{InterfaceSetting}

-- that interface's is the new one
of_itself : (settings : List InterfaceSetting) (interface setting : ℕ) → IsSome (setting_of settings interface) → setting_of (map (interface_setting_after interface setting) settings) interface ≡ Some setting
unfolding setting_of
of_itself [] interface setting there = cc
of_itself (s ∷ settings) interface setting there = elim (cases_Bool (s.interface == interface)) [
  | inl same ↦ rw (same, same) refl
  | inr other ↦ (let rest : IsSome (setting_of settings interface) = rw other at there in rw (other, other) (of_itself settings interface setting rest))
]

-- another's stays
of_another : (settings : List InterfaceSetting) (interface setting n : ℕ) → n ≢ interface → setting_of (map (interface_setting_after interface setting) settings) n ≡ setting_of settings n
unfolding setting_of
of_another [] interface setting n other = refl
of_another (s ∷ settings) interface setting n other = elim (cases_Bool (s.interface == interface)) [
  | inl same ↦ (let apart : (s.interface == n) ≡ false = grind arith in rw (same, apart) (of_another settings interface setting n other))
  | inr not_it ↦ elim (cases_Bool (s.interface == n)) [
    | inl named ↦ rw (not_it, named) refl
    | inr unnamed ↦ rw (not_it, unnamed) (of_another settings interface setting n other)
  ]
]

-- the setting of each interface after one was changed
pub setting_of_changed : (settings : List InterfaceSetting) (interface setting n : ℕ) → IsSome (setting_of settings interface) → setting_of (with_setting settings interface setting) n ≡ (if n == interface then Some setting else setting_of settings n)
unfolding with_setting
setting_of_changed settings interface setting n there = elim (cases_eq n interface) [
  | inl same ↦ rw (eq-eqb n interface same, same) (of_itself settings interface setting there)
  | inr other ↦ rw (ne_eqb n interface other) (of_another settings interface setting n other)
]

-- the same, where the settings after it are given
pub setting_after : (settings new : List InterfaceSetting) (interface setting : ℕ) → IsSome (setting_of settings interface) → new ≡ with_setting settings interface setting → (n : ℕ) → setting_of new n ≡ (if n == interface then Some setting else setting_of settings n)
setting_after settings new interface setting there is n = ap (λ xs. setting_of xs n) is ∙ setting_of_changed settings interface setting n there

-- a list changed up to an index, and then there
pub changed_more : {X : Type 0} (f : X → X) (xs ys : List X) (at : ℕ) (y d : X) → at < length xs → length ys ≡ length xs → ys ≡ map f (take at xs) ++ drop at xs → y ≡ f (get_or ys at d) → set ys at y ≡ map f (take (at + 1) xs) ++ drop (at + 1) xs
changed_more f xs ys at y d below same upto turned =
    let within : at < length ys = omega arith in
    ap (set ys at) turned ∙ map_over_more f xs ys at (get_or ys at d) below upto (get_or_default ys at d (get_or ys at d) within)
