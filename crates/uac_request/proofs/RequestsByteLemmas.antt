-- Values that come back from their bytes.
use Rattle.std.proofs.Common.{◌≡◌, ◌∙◌, sym, ap, [], ℕ, ◌-◌, ◌*◌, ◌/◌, ◌%◌, ◌^◌, ◌==◌, ◌<◌, ◌≤◌, nat_lt, nat_le, Bool, true, false, ℤ, pos, negsuc, ◌⊎◌, inl, inr, length, unwrap_or, refl, is_some, arith}
use Rattle.std.proofs.lemmas.Bool.{and_parts, cases_Bool}
use Rattle.std.proofs.lemmas.List.{append-nil}
use Rattle.byteorder.specs.Endian.{little_bytes, little_number}
use Rattle.byteorder.specs.Numbers.{length-bytes_low_first, little_number-reads_back}
use Rattle.uac_clock.specs.Nominal.{is_listed}
use Rattle.uac_entities.specs.declared.entity.EntityKind.{EntityKind}
use Rattle.uac_entities.specs.declared.entity.EntityKind.TheVariants as kind
use Rattle.uac_gain.specs.Gain.{gain_of}
use Rattle.uac_store.specs.ControlTable.{is_frequency, is_one_to, is_pin, is_switch, selectors_of, takes_by}
use Rattle.uac_store.proofs.ControlTableLemmas.{at_each}
use Rattle.uac_request.specs.Requests.{complement, entity_width, is_signed, IsWithin, value_bytes, value_from}

-- ---- numbers

-- the widths that controls with a value have
abbrev pub IsWidth : ℕ → Type 0
IsWidth w = (w ≡ 1) ⊎ (w ≡ 2) ⊎ (w ≡ 4)

-- a number comes back from its bytes
number_back : (w n : ℕ) → n < 256 ^ w → little_number w (little_bytes w n) ≡ n
number_back w n few = ap (little_number w) (sym (append-nil (little_bytes w n))) ∙ little_number-reads_back w n [] few

pub length_value : (w : ℕ) (v : ℤ) → length (value_bytes w v) ≡ w
unfolding value_bytes
length_value w v = length-bytes_low_first 0 w (complement w v)

-- ---- values, by the numbers that there are in their bytes

is_below : (n p : ℕ) → p % 2 ≡ 0 → 2 * n < p → nat_le (p / 2) n ≡ false
is_below n p even half = grind arith

is_above : (n p : ℕ) → 2 * n < p → nat_le (p / 2) (p - 1 - n) ≡ true
is_above n p half = grind arith

turned_twice : (n p : ℕ) → 2 * n < p → p - 1 - (p - 1 - n) ≡ n
turned_twice n p half = omega arith

even_power : (w : ℕ) → IsWidth w → 256 ^ w % 2 ≡ 0
even_power w (inl one) = rw one refl
even_power w (inr (inl two)) = rw two refl
even_power w (inr (inr four)) = rw four refl

module _ (w : ℕ) (wide : IsWidth w) where
  plain_back : (v : ℤ) → IsWithin false w v → value_from false (value_bytes w v) ≡ v
  unfolding value_from value_bytes
  plain_back (pos n) within = rw (length-bytes_low_first 0 w n) (ap pos (number_back w n within))
  plain_back (negsuc n) within = absurd within

  signed_back : (v : ℤ) → IsWithin true w v → value_from true (value_bytes w v) ≡ v
  unfolding value_from value_bytes
  signed_back (pos n) within =
      let few : n < 256 ^ w = omega (arith, within) in
      rw (length-bytes_low_first 0 w n, number_back w n few, is_below n (256 ^ w) (even_power w wide) within) refl
  signed_back (negsuc n) within =
      let few : 256 ^ w - 1 - n < 256 ^ w = omega (arith, within) in
      rw (length-bytes_low_first 0 w (256 ^ w - 1 - n), number_back w (256 ^ w - 1 - n) few, is_above n (256 ^ w) within) (ap negsuc (turned_twice n (256 ^ w) within))

  pub value_back : (signed : Bool) (v : ℤ) → IsWithin signed w v → value_from signed (value_bytes w v) ≡ v
  value_back true v within = signed_back v within
  value_back false v within = plain_back v within

-- ---- the values that controls take

frequency_within : (attributes : ℕ) (v : ℤ) → is_frequency attributes v ≡ true → IsWithin false 4 v
frequency_within attributes (negsuc n) taken = cc
frequency_within attributes (pos n) taken = elim (cases_Bool (nat_lt (attributes % 4) 2)) [
  | inl fixed ↦ (let is : (n == 48000) ≡ true = rw fixed at taken in let few : n ≤ 192000 = grind arith in omega arith)
  | inr listed ↦ (let is : is_listed n ≡ true = rw listed at taken in let few : n ≤ 192000 = grind arith in omega arith)
]

choice_within : (most w : ℕ) (v : ℤ) → most < 256 ^ w → is_one_to most v ≡ true → IsWithin false w v
choice_within most w (negsuc n) few taken = cc
choice_within most w (pos n) few taken = (let below : n ≤ most = grind arith in omega arith)

pin_within : (pins : ℕ) (v : ℤ) → is_pin pins v ≡ true → IsWithin false 1 v
pin_within pins v taken = choice_within 255 1 v (omega arith) (and_parts (is_one_to 255 v) (is_one_to pins v) taken).0

switch_within : (v : ℤ) → is_switch v ≡ true → IsWithin false 1 v
switch_within (negsuc n) taken = cc
switch_within (pos n) taken = grind arith

above_within : (n : ℕ) → is_some (gain_of (pos n)) ≡ true → n ≤ 3072
above_within n taken = grind arith

below_within : (n : ℕ) → is_some (gain_of (negsuc n)) ≡ true → n ≤ 32767
below_within n taken = grind arith

volume_within : (v : ℤ) → is_some (gain_of v) ≡ true → IsWithin true 2 v
volume_within (pos n) taken = (let few : n ≤ 3072 = above_within n taken in omega arith)
volume_within (negsuc n) taken = (let few : n ≤ 32767 = below_within n taken in omega arith)

-- the first control of a kind, and the second where it keeps a value
first_within : (k : EntityKind) (pins attributes : ℕ) (v : ℤ) → takes_by k pins attributes 1 v ≡ true → IsWithin (is_signed k 1) (unwrap_or (entity_width k 1) 0) v
first_within kind.ClockSource pins attributes v taken = frequency_within attributes v taken
first_within kind.ClockSelector pins attributes v taken = pin_within pins v taken
first_within kind.ClockMultiplier pins attributes v taken = choice_within 8 2 v (omega arith) taken
first_within kind.InputTerminal pins attributes v taken = cc
first_within kind.OutputTerminal pins attributes v taken = cc
first_within kind.Mixer pins attributes v taken = volume_within v taken
first_within kind.Selector pins attributes v taken = pin_within pins v taken
first_within kind.Feature pins attributes v taken = switch_within v taken
first_within kind.Effect pins attributes v taken = switch_within v taken

second_within : (k : EntityKind) (pins attributes : ℕ) (v : ℤ) → nat_le 2 (selectors_of k) ≡ true → takes_by k pins attributes 2 v ≡ true → IsWithin (is_signed k 2) (unwrap_or (entity_width k 2) 0) v
second_within kind.ClockSource pins attributes v low taken = cc
second_within kind.ClockSelector pins attributes v low taken = cc
second_within kind.ClockMultiplier pins attributes v low taken = choice_within 8 2 v (omega arith) taken
second_within kind.InputTerminal pins attributes v low taken = cc
second_within kind.OutputTerminal pins attributes v low taken = cc
second_within kind.Mixer pins attributes v low taken = cc
second_within kind.Selector pins attributes v low taken = cc
second_within kind.Feature pins attributes v low taken = volume_within v taken
second_within kind.Effect pins attributes v low taken = cc

first_width : (k : EntityKind) → nat_le 1 (selectors_of k) ≡ true → IsWidth (unwrap_or (entity_width k 1) 0)
first_width kind.ClockSource low = inr (inr refl)
first_width kind.ClockSelector low = inl refl
first_width kind.ClockMultiplier low = inr (inl refl)
first_width kind.InputTerminal low = cc
first_width kind.OutputTerminal low = cc
first_width kind.Mixer low = inr (inl refl)
first_width kind.Selector low = inl refl
first_width kind.Feature low = inl refl
first_width kind.Effect low = inl refl

second_width : (k : EntityKind) → nat_le 2 (selectors_of k) ≡ true → IsWidth (unwrap_or (entity_width k 2) 0)
second_width kind.ClockSource low = cc
second_width kind.ClockSelector low = cc
second_width kind.ClockMultiplier low = inr (inl refl)
second_width kind.InputTerminal low = cc
second_width kind.OutputTerminal low = cc
second_width kind.Mixer low = cc
second_width kind.Selector low = cc
second_width kind.Feature low = inr (inl refl)
second_width kind.Effect low = cc

pub taken_within : (k : EntityKind) (pins attributes selector : ℕ) (v : ℤ) → nat_lt 0 selector ≡ true → nat_le selector (selectors_of k) ≡ true → takes_by k pins attributes selector v ≡ true → IsWithin (is_signed k selector) (unwrap_or (entity_width k selector) 0) v
taken_within k pins attributes selector v some low =
    at_each k (λ s. takes_by k pins attributes s v ≡ true → IsWithin (is_signed k s) (unwrap_or (entity_width k s) 0) v) selector some low
    (λ there taken. first_within k pins attributes v taken) (λ there taken. second_within k pins attributes v there taken)

pub width_of_kept : (k : EntityKind) (selector : ℕ) → nat_lt 0 selector ≡ true → nat_le selector (selectors_of k) ≡ true → IsWidth (unwrap_or (entity_width k selector) 0)
width_of_kept k selector some low = at_each k (λ s. IsWidth (unwrap_or (entity_width k s) 0)) selector some low (first_width k) (second_width k)
