-- The bits of an interface's settings, whose numbers are below 16.
use Rattle.std.proofs.Common.{◌≡◌, ◌∙◌, sym, ap, subst, ℕ, ◌+◌, ◌*◌, ◌^◌, ◌<◌, ◌≤◌, ◌==◌, List, map, length, sum, take, get_or, Some, arith}
use Rattle.std.specs.List.{range_with_len}
use Rattle.std.proofs.Math.Pow.{pow_mono}
use Rattle.std.proofs.lemmas.List.{get_or-map}
use Rattle.std.proofs.lemmas.List.FromFn.{get_or-range_with_len}
use Rattle.std.proofs.lemmas.List.Sums.{sum-map, sum_by_more}
use Rattle.std.proofs.lemmas.Nat.{pow-add}
use Rattle.uac_entities.specs.declared.stream.Setting.{Setting}
use Rattle.uac_entities.specs.declared.stream.StreamInterface.{StreamInterface}
use Rattle.uac_topology.specs.Function.{FunctionFields, interface_in}
use Rattle.uac_topology.specs.Topology.{IsSoundFunction}
use Rattle.uac_topology.proofs.FunctionKeptNumberLemmas.{are_numbered}
use Rattle.uac_alt.proofs.AltStreamsLemmas.{all_found}

module _ (function : FunctionFields) (s : StreamInterface) (sound : IsSoundFunction function) (found : interface_in function s.number ≡ Some s) where
  few_settings : length s.settings ≤ 16
  few_settings = all_found (λ t. length t.settings ≤ 16) (λ t. t.number == s.number) function.streams s (are_numbered function sound).few found

  in_place : (i : ℕ) (d : Setting) → i < length s.settings → (get_or s.settings i d).number ≡ i
  in_place i d within =
      let from_0 : 0 + i ≡ i = omega arith in
      sym (get_or-map (λ (t : Setting). t.number) s.settings i d 0 within)
      ∙ ap (λ ns. get_or ns i 0)
      (all_found (λ t. map (λ u. u.number) t.settings ≡ range_with_len 0 (length t.settings)) (λ t. t.number == s.number) function.streams s
      (are_numbered function sound).settings found)
      ∙ get_or-range_with_len 0 (length s.settings) i 0 within ∙ from_0

  -- a setting's number is its place
  pub number_at : (items : List Setting) (i : ℕ) (d : Setting) → items ≡ s.settings → i < length items → (get_or items i d).number ≡ i
  number_at items i d same within =
      ap (λ (ts : List Setting). (get_or ts i d).number) same ∙ in_place i d (subst (λ (ts : List Setting). i < length ts) same within)

  pub place_below : (items : List Setting) (i : ℕ) → items ≡ s.settings → i < length items → i < 16
  place_below items i same within =
      let here : i < length s.settings = subst (λ (ts : List Setting). i < length ts) same within in
      omega (arith, here, few_settings)

-- a sum with the next bit
pub next_sum : (bit_of : Setting → ℕ) (items settings : List Setting) (i : ℕ) (d : Setting) (bits bit : ℕ) → items ≡ settings → i < length items
    → bits ≡ sum (map bit_of (take i settings)) → bit ≡ bit_of (get_or items i d) → bits + bit ≡ sum (map bit_of (take (i + 1) settings))
next_sum bit_of items settings i d bits bit same within now is =
    let here : i < length settings = subst (λ (ts : List Setting). i < length ts) same within in
    (λ j. now j + is j)
    ∙ ap (λ (ts : List Setting). sum (map bit_of (take i settings)) + bit_of (get_or ts i d)) same
    ∙ ap (λ (n : ℕ). n + bit_of (get_or settings i d)) (sum-map bit_of (take i settings))
    ∙ sym (sum_by_more bit_of settings i d here)
    ∙ sym (sum-map bit_of (take (i + 1) settings))

-- with its bit a sum of the bits before it is below the next power of two
pub next_below : (bits bit n : ℕ) → bits < 2 ^ n → bit ≤ 2 ^ n → bits + bit < 2 ^ (n + 1)
next_below bits bit n few small = (let power : 2 ^ (n + 1) ≡ 2 ^ n * 2 = pow-add 2 n 1 in omega (arith, power))

pub next_fits : (bits bit n : ℕ) → n < 16 → bits < 2 ^ n → bit ≤ 2 ^ n → bits + bit < 65536
next_fits bits bit n low few small =
    let below : bits + bit < 2 ^ (n + 1) = next_below bits bit n few small in
    let up : n + 1 ≤ 16 = omega (arith, low) in
    let most : 2 ^ (n + 1) ≤ 2 ^ 16 = pow_mono up in
    omega (arith, below, most)
