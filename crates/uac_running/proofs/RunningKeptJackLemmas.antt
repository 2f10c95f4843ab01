-- The input jacks, one after the other.
use Rattle.std.proofs.Common.{◌≡◌, ◌∙◌, sym, ap, subst, refl, ℕ, zero, suc, ◌+◌, ◌<◌, ◌≤◌, ◌==◌, Bool, true, if◌then◌else◌, ℤ, pos, List, [], ◌∷◌, length, map, replicate, take, get_or, inl, inr, eq-eqb}
use Rattle.std.specs.List.{All, fold, filter, range_with_len}
use Rattle.std.proofs.lemmas.Bool.{cases_Bool}
use Rattle.std.proofs.lemmas.List.Elements.{filter_more}
use Rattle.std.proofs.lemmas.List.Sums.{fold-append}
use Rattle.uac_pcm.specs.Tones.{tone_sample, tone_frame}
use Rattle.uac_pcm.specs.declared.tones.Tone.{Tone}
use Rattle.uac_pcm.specs.declared.tones.Tone.TheVariants as tones
use Rattle.uac_device.specs.DeviceKept.{DeviceFields, DeviceStands}
use Rattle.uac_device.specs.DeviceWorld.{DeviceWorld, is_input_jack, set_jack}
use Rattle.uac_topology.specs.Function.{FunctionFields}
use Rattle.uac_graph.specs.Meaning.{entity}
use Rattle.uac_device.specs.declared.jacks.Jack.{Jack}
use Rattle.uac_device.specs.Jacks.{after_one, next_frame}
use Rattle.uac_running.specs.Events.{after_jacks, after_jack, jacks_after_frame}
use Rattle.uac_running.specs.RunningWorld.{jack_with_tone}
use Rattle.uac_device.proofs.DeviceKeptLemmas.{all_changed}
use Rattle.uac_device.proofs.ListChangeLemmas.{IsTurnedBelow, untouched}
use Rattle.uac_running.specs.RunningKept.{HasItsJacks, RunningFields}

-- one jack more
pub given_more : (clock : ℕ) (jacks : List Jack) (i : ℕ) (d : Jack) (w : DeviceWorld) → i < length jacks
    → after_jacks clock (take (i + 1) jacks) w ≡ after_jack clock (get_or jacks i d) (after_jacks clock (take i jacks) w)
given_more clock jacks i d w below =
    let step : DeviceWorld → Jack → DeviceWorld = λ v j. set_jack j.terminal (next_frame j) v in
    let p : Jack → Bool = λ j. j.domain == clock in
    ap (fold step w) (filter_more p jacks i d below)
    ∙ fold-append step w (filter p (take i jacks)) (if p (get_or jacks i d) then get_or jacks i d ∷ [] else [])
    ∙ elim (cases_Bool (p (get_or jacks i d))) [ inl same ↦ rw same refl | inr other ↦ rw other refl ]

-- whatever says nothing of tone and place stays
pub kept_after : (P : ℕ → ℕ → Type 0) (clock : ℕ) (j : Jack) → P j.terminal j.channels → P (after_one clock j).terminal (after_one clock j).channels
kept_after P clock j holds = elim (cases_Bool (j.domain == clock)) [ inl same ↦ rw same holds | inr other ↦ rw other holds ]

kept_toned : (P : ℕ → ℕ → Type 0) (terminal : ℕ) (tone : Tone) (j : Jack) → P j.terminal j.channels → P (jack_with_tone terminal tone j).terminal (jack_with_tone terminal tone j).channels
kept_toned P terminal tone j holds = elim (cases_Bool (j.terminal == terminal)) [ inl same ↦ rw same holds | inr other ↦ rw other holds ]

-- the input jacks stay what they are, whatever their tones and places are
pub kept_jacks : (f : Jack → Jack) (p q : RunningFields) → ((P : ℕ → ℕ → Type 0) (j : Jack) → P j.terminal j.channels → P (f j).terminal (f j).channels)
    → q.device.function ≡ p.device.function → q.jacks ≡ map f p.jacks → HasItsJacks p → HasItsJacks q
kept_jacks f p q keeps function is h =
    let kind : ℕ → ℕ → Type 0 = λ t c. is_input_jack (entity q.device.function.entities t) ≡ true in
    let channels : ℕ → ℕ → Type 0 = λ t c. (entity q.device.function.entities t).cluster.channels ≡ c in
    let most : ℕ → ℕ → Type 0 = λ t c. c ≤ 32 in
    record {
      kinds = subst (All (λ (j : Jack). kind j.terminal j.channels)) (sym is) (all_changed (λ j. kind j.terminal j.channels) (λ j. kind j.terminal j.channels) f (λ j. keeps kind j) p.jacks
          (subst (λ (fn : FunctionFields). All (λ (j : Jack). is_input_jack (entity fn.entities j.terminal) ≡ true) p.jacks) (sym function) h.kinds));
      channels = subst (All (λ (j : Jack). channels j.terminal j.channels)) (sym is) (all_changed (λ j. channels j.terminal j.channels) (λ j. channels j.terminal j.channels) f (λ j. keeps channels j) p.jacks
          (subst (λ (fn : FunctionFields). All (λ (j : Jack). (entity fn.entities j.terminal).cluster.channels ≡ j.channels) p.jacks) (sym function) h.channels));
      most = subst (All (λ (j : Jack). most j.terminal j.channels)) (sym is) (all_changed (λ j. most j.terminal j.channels) (λ j. most j.terminal j.channels) f (λ j. keeps most j) p.jacks h.most);
    }

pub jacks_gone_on : (clock : ℕ) (p q : RunningFields) → q.device.function ≡ p.device.function → q.jacks ≡ jacks_after_frame clock p.jacks → HasItsJacks p → HasItsJacks q
jacks_gone_on clock p q = kept_jacks (after_one clock) p q (λ P j holds. kept_after P clock j holds)

pub jacks_toned : (terminal : ℕ) (tone : Tone) (p q : RunningFields) → q.device.function ≡ p.device.function → q.jacks ≡ map (jack_with_tone terminal tone) p.jacks → HasItsJacks p → HasItsJacks q
jacks_toned terminal tone p q = kept_jacks (jack_with_tone terminal tone) p q (λ P j holds. kept_toned P terminal tone j holds)

-- the next jack gives its frame
pub gives_next : (clock : ℕ) (old now : List Jack) (i : ℕ) (d : Jack) (w : DeviceWorld) (new : DeviceFields) → i < length old → IsTurnedBelow (after_one clock) now old i
    → DeviceStands new (after_jack clock (get_or now i d) (after_jacks clock (take i old) w)) → DeviceStands new (after_jacks clock (take (i + 1) old) w)
gives_next clock old now i d w new below changed stands =
    subst (DeviceStands new) (ap (λ (j : Jack). after_jack clock j (after_jacks clock (take i old) w)) (untouched (after_one clock) now old i d changed) ∙ sym (given_more clock old i d w below)) stands

pub jacks_kept : (p q : RunningFields) → q.device.function ≡ p.device.function → q.jacks ≡ p.jacks → HasItsJacks p → HasItsJacks q
jacks_kept p q function is h = record {
  kinds = subst (λ (js : List Jack). All (λ (j : Jack). is_input_jack (entity q.device.function.entities j.terminal) ≡ true) js) (sym is)
      (subst (λ (fn : FunctionFields). All (λ (j : Jack). is_input_jack (entity fn.entities j.terminal) ≡ true) p.jacks) (sym function) h.kinds);
  channels = subst (λ (js : List Jack). All (λ (j : Jack). (entity q.device.function.entities j.terminal).cluster.channels ≡ j.channels) js) (sym is)
      (subst (λ (fn : FunctionFields). All (λ (j : Jack). (entity fn.entities j.terminal).cluster.channels ≡ j.channels) p.jacks) (sym function) h.channels);
  most = subst (λ (js : List Jack). All (λ (j : Jack). j.channels ≤ 32) js) (sym is) h.most;
}

-- a silent jack gives zeros
pub silent_frame : (j : Jack) → j.tone ≡ tones.Silent → next_frame j ≡ replicate j.channels (pos 0)
unfolding next_frame
silent_frame j silent = ap (λ (t : Tone). map (tone_sample t j.place) (range_with_len 0 j.channels)) silent ∙ zeros 0 j.channels
  where
    zeros : (from n : ℕ) → map (tone_sample tones.Silent j.place) (range_with_len from n) ≡ replicate n (pos 0)
    zeros from zero = refl
    zeros from (suc n) = ap (λ (zs : List ℤ). pos 0 ∷ zs) (zeros (from + 1) n)

-- a jack of the domain that sounds its tone's frame gives it
pub tone_given : (clock channels : ℕ) (j : Jack) (w : DeviceWorld) (new : DeviceFields) → j.domain ≡ clock → channels ≡ j.channels
    → DeviceStands new (set_jack j.terminal (tone_frame channels j.tone j.place) w) → DeviceStands new (after_jack clock j w)
unfolding next_frame
tone_given clock channels j w new here same stands =
    subst (DeviceStands new) (ap (λ (b : Bool). if b then set_jack j.terminal (next_frame j) w else w) (sym (eq-eqb j.domain clock here)))
    (subst (λ (n : ℕ). DeviceStands new (set_jack j.terminal (tone_frame n j.tone j.place) w)) same stands)
