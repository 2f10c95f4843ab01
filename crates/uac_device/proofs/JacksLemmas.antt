-- Input jacks and the frames that their tones give, tick by tick.
use Rattle.std.proofs.Common.{◌≡◌, ◌∙◌, sym, refl, ap, subst, arith, ℕ, zero, suc, ◌+◌, ◌^◌, ◌<◌, ◌&&◌, ◌==◌, Bool, true, false, if◌then◌else◌, ℤ, List, [], ◌∷◌, Option, Some, None, length, get_or, take, inl, inr}
use Rattle.std.specs.List.{All, fold}
use Rattle.std.specs.Option.{option_map, option_map_or}
use Rattle.std.proofs.lemmas.Bool.{cases_eq, eq-eqb, ne_eqb}
use Rattle.std.proofs.lemmas.List.{take_more}
use Rattle.std.proofs.lemmas.List.Sums.{fold-append}
use Rattle.uac_graph.specs.TickRows.{RowsById, frames_at, slot_lengths}
use Rattle.uac_graph.specs.Wiring.{frame_on}
use Rattle.uac_pcm.specs.Tones.{tone_frame}
use Rattle.uac_pcm.specs.declared.tones.Tone.{Tone}
use Rattle.uac_units.specs.Hearing.{at_most_u64}
use Rattle.uac_device.specs.declared.jacks.Jack.{Jack}
use Rattle.uac_device.specs.Jacks.{after_one, jack_after, next_frame, tone_with, tones_of}
use Rattle.uac_device.proofs.HeldRowsLemmas.{counted_at}

-- ---- a jack

pub one_domain : (domain : ℕ) (j : Jack) → (after_one domain j).domain ≡ j.domain
one_domain domain j = by (j.domain == domain)
  where
    by : (b : Bool) → (if b then record j { place = at_most_u64 (j.place + 1) } else j).domain ≡ j.domain
    by true = refl
    by false = refl

pub one_terminal : (domain : ℕ) (j : Jack) → (after_one domain j).terminal ≡ j.terminal
one_terminal domain j = by (j.domain == domain)
  where
    by : (b : Bool) → (if b then record j { place = at_most_u64 (j.place + 1) } else j).terminal ≡ j.terminal
    by true = refl
    by false = refl

pub domain_after : (domain t : ℕ) (j : Jack) → (jack_after domain t j).domain ≡ j.domain
unfolding jack_after
domain_after domain zero j = refl
domain_after domain (suc t) j = one_domain domain (jack_after domain t j) ∙ domain_after domain t j

pub terminal_after : (domain t : ℕ) (j : Jack) → (jack_after domain t j).terminal ≡ j.terminal
unfolding jack_after
terminal_after domain zero j = refl
terminal_after domain (suc t) j = one_terminal domain (jack_after domain t j) ∙ terminal_after domain t j

-- a jack of the domain gives the frames of its tone from its place on
pub place_after : (domain t : ℕ) (j : Jack) → j.domain ≡ domain → j.place < 2 ^ 64 → jack_after domain t j ≡ record j { place = at_most_u64 (j.place + t) }
unfolding jack_after
place_after domain zero j own few =
    let e : j.place ≡ at_most_u64 (j.place + 0) = omega (arith, few) in
    ap (λ (n : ℕ). record j { place = n }) e
place_after domain (suc t) j own few =
    let e : at_most_u64 (at_most_u64 (j.place + t) + 1) ≡ at_most_u64 (j.place + suc t) = omega (arith, few) in
    ap (after_one domain) (place_after domain t j own few) ∙ rw (eq-eqb j.domain domain own) (ap (λ (n : ℕ). record j { place = n }) e)

pub next_after : (domain t : ℕ) (j : Jack) → j.domain ≡ domain → j.place < 2 ^ 64
    → next_frame (jack_after domain t j) ≡ tone_frame j.channels j.tone (at_most_u64 (j.place + t))
unfolding next_frame
next_after domain t j own few = ap next_frame (place_after domain t j own few)

-- ---- what jacks give to the rows of their terminals

-- a wire of so many channels gets as many samples
toned : (channels place : ℕ) (tone : Tone) (o : Option (List ℤ)) → option_map length o ≡ Some channels
    → option_map (λ samples. tone_frame (length samples) tone place) o ≡ Some (tone_frame channels tone place)
toned channels place tone None counted = absurd (cc)
toned channels place tone (Some samples) counted = ap (option_map (λ (n : ℕ). tone_frame n tone place)) counted

-- a jack of the domain
pub jack_gives : (domain t place id : ℕ) (j : Jack) (there here new : Option (List ℤ)) → j.domain ≡ domain → place ≡ j.place → place < 2 ^ 64
    → option_map length there ≡ Some j.channels
    → new ≡ (if j.terminal == id then option_map (λ samples. tone_frame (length samples) j.tone (at_most_u64 (place + t))) there else here)
    → new ≡ (if j.domain == domain && id == j.terminal then Some (next_frame (jack_after domain t j)) else here)
jack_gives domain t place id j there here new own placed few counted set =
    set
    ∙ elim (cases_eq j.terminal id) [
      | inl same ↦
          ap
          (λ (b : Bool). if b then option_map (λ samples. tone_frame (length samples) j.tone (at_most_u64 (place + t))) there else here)
          (eq-eqb j.terminal id same)
          ∙ toned j.channels (at_most_u64 (place + t)) j.tone there counted
          ∙ ap (λ (n : ℕ). Some (tone_frame j.channels j.tone (at_most_u64 (n + t)))) placed
          ∙ ap Some (sym (next_after domain t j own (subst (λ (n : ℕ). n < 2 ^ 64) placed few)))
          ∙ sym (
          ap (λ (b : Bool). if b && id == j.terminal then Some (next_frame (jack_after domain t j)) else here) (eq-eqb j.domain domain own)
          ∙ ap (λ (b : Bool). if b then Some (next_frame (jack_after domain t j)) else here) (eq-eqb id j.terminal (sym same)))
      | inr other ↦
          ap
          (λ (b : Bool). if b then option_map (λ samples. tone_frame (length samples) j.tone (at_most_u64 (place + t))) there else here)
          (ne_eqb j.terminal id other)
          ∙ sym (
          ap (λ (b : Bool). if b && id == j.terminal then Some (next_frame (jack_after domain t j)) else here) (eq-eqb j.domain domain own)
          ∙ ap (λ (b : Bool). if b then Some (next_frame (jack_after domain t j)) else here) (ne_eqb id j.terminal (λ e. other (sym e))))
    ]

-- the wires of the jacks keep their channels
pub wired_at : (old new : RowsById) (jacks : List Jack) (i : ℕ) (d : Jack)
    → All (λ (j : Jack). option_map length (frame_on (frames_at 0 old) j.terminal) ≡ Some j.channels) jacks → i < length jacks
    → slot_lengths new.slots ≡ slot_lengths old.slots
    → option_map length (frame_on (frames_at 0 new) (get_or jacks i d).terminal) ≡ Some (get_or jacks i d).channels
wired_at old new jacks i d wired below same = counted_at 0 0 old new (get_or jacks i d).terminal same ∙ wired i d below

-- one jack more
tones_more : (domain id : ℕ) (jacks : List Jack) (i : ℕ) (d : Jack) → i < length jacks
    → tones_of domain (take (i + 1) jacks) id ≡ tone_with domain id (tones_of domain (take i jacks) id) (get_or jacks i d)
tones_more domain id jacks i d below =
    ap (fold (tone_with domain id) None) (take_more jacks i d below)
    ∙ fold-append (tone_with domain id) None (take i jacks) (get_or jacks i d ∷ [])

pub given_more : (domain t id : ℕ) (jacks : List Jack) (i : ℕ) (d : Jack) (before old new : Option (List ℤ)) → i < length jacks
    → new ≡ (if (get_or jacks i d).domain == domain && id == (get_or jacks i d).terminal then Some (next_frame (jack_after domain t (get_or jacks i d))) else old)
    → old ≡ option_map_or (λ frames. Some (frames t)) (tones_of domain (take i jacks) id) before
    → new ≡ option_map_or (λ frames. Some (frames t)) (tones_of domain (take (i + 1) jacks) id) before
given_more domain t id jacks i d before old new below set so_far =
    set
    ∙ by ((get_or jacks i d).domain == domain && id == (get_or jacks i d).terminal)
    ∙ ap (λ (tone : Option (ℕ → List ℤ)). option_map_or (λ frames. Some (frames t)) tone before) (sym (tones_more domain id jacks i d below))
  where
    by : (b : Bool) → (if b then Some (next_frame (jack_after domain t (get_or jacks i d))) else old)
        ≡ option_map_or {T = ℕ → List ℤ} {U = Option (List ℤ)} (λ frames. Some (frames t))
        (if b then Some (λ u. next_frame (jack_after domain u (get_or jacks i d))) else tones_of domain (take i jacks) id) before
    by true = refl
    by false = so_far
