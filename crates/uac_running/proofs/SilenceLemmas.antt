-- Jacks of a domain that are silent: what they gave last they give again.
use Rattle.std.proofs.Common.{◌≡◌, ◌∙◌, sym, ap, subst, refl, ℕ, ◌==◌, ◌&&◌, ◌||◌, not, Bool, true, false, if◌then◌else◌, ℤ, List, [], ◌∷◌, get_or, Some, inl, inr, eq-eqb}
use Rattle.std.specs.List.{All}
use Rattle.std.proofs.lemmas.Bool.{and_parts, cases_Bool, eqb-true, or_parts, true≢false}
use Rattle.std.proofs.lemmas.List.Elements.{All-cons, All-head, All-nil, All-tail}
use Rattle.uac_pcm.specs.declared.tones.Tone.{Tone}
use Rattle.uac_pcm.specs.declared.tones.Tone.TheVariants as tones
use Rattle.uac_topology_rules.specs.Clusters.{is_input}
use Rattle.uac_topology.specs.Function.{FunctionFields}
use Rattle.uac_graph.specs.Meaning.{entity}
use Rattle.uac_graph.specs.Wiring.{silence}
use Rattle.uac_units.specs.Hearing.{Reading}
use Rattle.uac_device.specs.InterfaceStreams.{NoneRuns}
use Rattle.uac_device.specs.DeviceKept as device
use Rattle.uac_device.specs.DeviceWorld.{DeviceWorld, entity_in, input_of, is_input_jack, is_jack, is_streamed, set_jack, streamed_frame, after_tick}
use Rattle.uac_device.specs.Stillness.{IsStill}
use Rattle.uac_device.proofs.DeviceKeptLemmas.{all_changed}
use Rattle.uac_device.specs.declared.jacks.Jack.{Jack}
use Rattle.uac_running.specs.RunningWorld.{RunningWorld}
use Rattle.uac_running.specs.Events.{after_one, after_all_jacks, after_jacks, after_jack, jacks_after_frame, next_frame, tick}
use Rattle.uac_running.specs.Silence.{AreAtRest, GaveSilence, one_is_audible, is_audible}
use Rattle.uac_running.specs.RunningKept.{HasItsJacks, RunningFields, RunningStands}
use Rattle.uac_running.proofs.RunningKeptJackLemmas.{silent_frame}
use Rattle.uac_running.proofs.EventsLemmas.{after_jacks-kept}
use Rattle.uac_running.proofs.StillnessLemmas.{stills_after}

silent_tone : (t : Tone) → is_audible t ≡ false → t ≡ tones.Silent
silent_tone tones.Silent quiet = refl
silent_tone (tones.Ramp start step) quiet = absurd (true≢false quiet)
silent_tone (tones.Noise seed) quiet = absurd (true≢false quiet)

-- a jack of the domain that doesn't sound gives silence
silent_of : (clock : ℕ) (j : Jack) → (j.domain == clock && is_audible j.tone) ≡ false → j.domain ≡ clock → next_frame j ≡ silence j.channels
silent_of clock j quiet here = silent_frame j (silent_tone j.tone (ap (λ (b : Bool). b && is_audible j.tone) (sym (eq-eqb j.domain clock here)) ∙ quiet))

given_cons : (clock : ℕ) (j : Jack) (js : List Jack) (w : DeviceWorld) → after_jacks clock (j ∷ js) w ≡ after_jacks clock js (after_jack clock j w)
given_cons clock j js w = elim (cases_Bool (j.domain == clock)) [ inl same ↦ rw same refl | inr other ↦ rw other refl ]

-- ---- giving again what was given

-- a terminal that is given what it gave leaves all frames
same_set : (t : ℕ) (frame : List ℤ) (w : DeviceWorld) (id : ℕ) → w.given t ≡ frame → (set_jack t frame w).given id ≡ w.given id
unfolding set_jack
same_set t frame w id again =
    elim (cases_Bool (id == t)) [
      | inl there ↦ rw there (sym again ∙ ap (λ (k : ℕ). w.given k) (sym (eqb-true id t there)))
      | inr away ↦ rw away refl
    ]

set_again : (t : ℕ) (frame : List ℤ) (d : device.DeviceFields) (w : DeviceWorld) → w.given t ≡ frame → device.DeviceStands d w → device.DeviceStands d (set_jack t frame w)
unfolding set_jack
set_again t frame d w again stands = record {
  function = stands.function;
  controls = stands.controls;
  settings = stands.settings;
  clocks = stands.clocks;
  streams = stands.streams;
  unlinked = λ id input bus none. same_set t frame w id again ∙ stands.unlinked id input bus none;
  inputs = λ id input. stands.inputs id input ∙ ap (λ (f : List ℤ). Some f) (sym (same_set t frame w id again));
  outputs = stands.outputs;
}

same_given : (clock : ℕ) (j : Jack) (w : DeviceWorld) (id : ℕ) → (j.domain ≡ clock → w.given j.terminal ≡ next_frame j) → (after_jack clock j w).given id ≡ w.given id
same_given clock j w id again =
    elim (cases_Bool (j.domain == clock)) [
      | inl same ↦ rw same (same_set j.terminal (next_frame j) w id (again (eqb-true j.domain clock same)))
      | inr other ↦ rw other refl
    ]

same_stands : (clock : ℕ) (j : Jack) (d : device.DeviceFields) (w : DeviceWorld) → (j.domain ≡ clock → w.given j.terminal ≡ next_frame j) → device.DeviceStands d w
    → device.DeviceStands d (after_jack clock j w)
same_stands clock j d w again stands =
    elim (cases_Bool (j.domain == clock)) [
      | inl same ↦ rw same (set_again j.terminal (next_frame j) d w (again (eqb-true j.domain clock same)) stands)
      | inr other ↦ rw other stands
    ]

-- where the jacks of a domain rest, the device stands as it is for the world in which they gave
pub given_again : (clock : ℕ) (jacks : List Jack) (d : device.DeviceFields) (w : DeviceWorld) → one_is_audible clock jacks ≡ false → All (GaveSilence clock w) jacks → device.DeviceStands d w
    → device.DeviceStands d (after_jacks clock jacks w)
given_again clock [] d w quiet gave stands = stands
given_again clock (j ∷ js) d w quiet gave stands =
    let quiets = or_parts (j.domain == clock && is_audible j.tone) (one_is_audible clock js) quiet in
    let again : j.domain ≡ clock → w.given j.terminal ≡ next_frame j = λ here. All-head (GaveSilence clock w) j js gave here ∙ sym (silent_of clock j quiets.0 here) in
    subst (device.DeviceStands d) (sym (given_cons clock j js w))
    (given_again clock js d (after_jack clock j w) quiets.1
    (λ k x below here. same_given clock j w (get_or js k x).terminal again ∙ All-tail (GaveSilence clock w) j js gave k x below here)
    (same_stands clock j d w again stands))

-- ---- after a tick

abbrev rest_of : FunctionFields → ℕ → List ℤ
rest_of f id = silence (entity f.entities id).cluster.channels

abbrev Fits : FunctionFields → Jack → Type 0
Fits f j = (entity f.entities j.terminal).cluster.channels ≡ j.channels

gives_now : (clock : ℕ) (j : Jack) (w : DeviceWorld) → j.domain ≡ clock → (after_jack clock j w).given j.terminal ≡ next_frame j
unfolding set_jack
gives_now clock j w here =
    let set : after_jack clock j w ≡ set_jack j.terminal (next_frame j) w =
    ap (λ (b : Bool). if b then set_jack j.terminal (next_frame j) w else w) (eq-eqb j.domain clock here) in
    ap (λ (v : DeviceWorld). v.given j.terminal) set ∙ ap (λ (b : Bool). if b then next_frame j else w.given j.terminal) (eq-eqb j.terminal j.terminal refl)

one_stays : (f : FunctionFields) (clock id : ℕ) (j : Jack) (w : DeviceWorld) → (j.domain == clock && is_audible j.tone) ≡ false → Fits f j → w.given id ≡ rest_of f id
    → (after_jack clock j w).given id ≡ rest_of f id
unfolding set_jack
one_stays f clock id j w quiet fits is =
    elim (cases_Bool (j.domain == clock)) [
      | inl same ↦
          rw same
          (elim (cases_Bool (id == j.terminal)) [
            | inl there ↦
                rw there
                (silent_of clock j quiet (eqb-true j.domain clock same) ∙ ap silence (sym fits) ∙ ap (rest_of f) (sym (eqb-true id j.terminal there)))
            | inr away ↦ rw away is
          ])
      | inr other ↦ rw other is
    ]

stays : (f : FunctionFields) (clock id : ℕ) (jacks : List Jack) (w : DeviceWorld) → one_is_audible clock jacks ≡ false → All (Fits f) jacks → w.given id ≡ rest_of f id
    → (after_jacks clock jacks w).given id ≡ rest_of f id
stays f clock id [] w quiet fits is = is
stays f clock id (j ∷ js) w quiet fits is =
    let quiets = or_parts (j.domain == clock && is_audible j.tone) (one_is_audible clock js) quiet in
    ap (λ (v : DeviceWorld). v.given id) (given_cons clock j js w)
    ∙ stays f clock id js (after_jack clock j w) quiets.1 (All-tail (Fits f) j js fits) (one_stays f clock id j w quiets.0 (All-head (Fits f) j js fits) is)

-- of a silent domain each jack has given silence
abbrev HasGiven : FunctionFields → ℕ → DeviceWorld → Jack → Type 0
HasGiven f clock w j = j.domain ≡ clock → w.given j.terminal ≡ rest_of f j.terminal

all_gave : (f : FunctionFields) (clock : ℕ) (jacks : List Jack) (w : DeviceWorld) → one_is_audible clock jacks ≡ false → All (Fits f) jacks
    → All (HasGiven f clock (after_jacks clock jacks w)) jacks
all_gave f clock [] w quiet fits = All-nil (HasGiven f clock w)
all_gave f clock (j ∷ js) w quiet fits =
    let quiets = or_parts (j.domain == clock && is_audible j.tone) (one_is_audible clock js) quiet in
    let v = after_jack clock j w in
    subst (λ (u : DeviceWorld). All (HasGiven f clock u) (j ∷ js)) (sym (given_cons clock j js w))
    (All-cons (HasGiven f clock (after_jacks clock js v)) j js
    (λ here. stays f clock j.terminal js v quiets.1 (All-tail (Fits f) j js fits)
    (gives_now clock j w here ∙ silent_of clock j quiets.0 here ∙ ap silence (sym (All-head (Fits f) j js fits))))
    (all_gave f clock js v quiets.1 (All-tail (Fits f) j js fits)))

-- a tick leaves what a jack gave
jack_stays : (clock : ℕ) (w : DeviceWorld) (id : ℕ) → is_input_jack (entity_in w id) ≡ true → input_of clock w id ≡ w.given id
unfolding input_of
jack_stays clock w id jack =
    let e = entity_in w id in
    let parts = and_parts (is_input e.kind) (is_jack e) jack in
    let aside : is_streamed clock e ≡ false =
    ap (λ (b : Bool). b && (not (is_jack e) && e.clock == clock)) parts.0 ∙ ap (λ (b : Bool). not b && e.clock == clock) parts.1 in
    ap (λ (b : Bool). if b then streamed_frame w id else w.given id) aside

clock_on : (clock : ℕ) (j : Jack) → (after_one clock j).domain ≡ j.domain
clock_on clock j = elim (cases_Bool (j.domain == clock)) [ inl same ↦ rw same refl | inr other ↦ rw other refl ]

tone_on : (clock : ℕ) (j : Jack) → (after_one clock j).tone ≡ j.tone
tone_on clock j = elim (cases_Bool (j.domain == clock)) [ inl same ↦ rw same refl | inr other ↦ rw other refl ]

quiet_on : (clock : ℕ) (jacks : List Jack) → one_is_audible clock (jacks_after_frame clock jacks) ≡ one_is_audible clock jacks
quiet_on clock [] = refl
quiet_on clock (j ∷ js) =
    let here : ((after_one clock j).domain == clock && is_audible (after_one clock j).tone) ≡ (j.domain == clock && is_audible j.tone) =
    ap (λ (n : ℕ). n == clock && is_audible (after_one clock j).tone) (clock_on clock j) ∙ ap (λ (t : Tone). j.domain == clock && is_audible t) (tone_on clock j) in
    ap (λ (b : Bool). b || one_is_audible clock (jacks_after_frame clock js)) here ∙ ap (λ (b : Bool). (j.domain == clock && is_audible j.tone) || b) (quiet_on clock js)

gone_so : (P : ℕ → ℕ → ℕ → Type 0) (clock : ℕ) (j : Jack) → P j.domain j.terminal j.channels
    → P (after_one clock j).domain (after_one clock j).terminal (after_one clock j).channels
gone_so P clock j holds = elim (cases_Bool (j.domain == clock)) [ inl same ↦ rw same holds | inr other ↦ rw other holds ]

pub rests_after : (clock : ℕ) (meters : List Reading) (r : RunningWorld) (p : RunningFields) → RunningStands p meters r → HasItsJacks p → one_is_audible clock r.jacks ≡ false
    → AreAtRest clock (tick clock r).world.jacks (tick clock r).world.device
unfolding tick after_tick after_all_jacks set_jack
rests_after clock meters r p stands jacks quiet =
    let f = r.device.function in
    let w = after_jacks clock r.jacks r.device in
    let same : p.device.function ≡ f = stands.streaming.device.function in
    let of : w.function ≡ f = after_jacks-kept (λ v. v.function) (λ t frame v. refl) clock r.jacks r.device in
    let fits : All (Fits f) r.jacks = subst (λ (js : List Jack). All (Fits f) js) stands.jacks (subst (λ (g : FunctionFields). All (Fits g) p.jacks) same jacks.channels) in
    let kinds : All (λ (j : Jack). is_input_jack (entity w.function.entities j.terminal) ≡ true) r.jacks =
    subst (λ (js : List Jack). All (λ (j : Jack). is_input_jack (entity w.function.entities j.terminal) ≡ true) js) stands.jacks
    (subst (λ (g : FunctionFields). All (λ (j : Jack). is_input_jack (entity g.entities j.terminal) ≡ true) p.jacks) (same ∙ sym of) jacks.kinds) in
    let after : DeviceWorld = after_tick clock w in
    let gave : All (GaveSilence clock after) r.jacks =
    λ k x below here.
    jack_stays clock w (get_or r.jacks k x).terminal (kinds k x below) ∙ all_gave f clock r.jacks r.device quiet fits k x below here
    ∙ ap silence (fits k x below) in
    record {
      silent = quiet_on clock r.jacks ∙ quiet;
      gave = all_changed (GaveSilence clock after) (GaveSilence clock after) (after_one clock)
          (λ j holds. gone_so (λ c t n. c ≡ clock → after.given t ≡ silence n) clock j holds) r.jacks gave;
    }

-- ---- the ticks of a microframe

-- a running device between two ticks: where a domain is silent none of its jacks sounds, and where its jacks rest they gave silence last;
-- where it is still no interface runs a stream, and where its streams rest the terminals of the bus gave silence last
pub record RestsSo (silent still jacks device_streams : Bool) (clock : ℕ) (p : RunningFields) (meters : List Reading) (r : RunningWorld) : Type 0 where
  pub now : RunningStands p meters r
  pub quiet : silent ≡ true → one_is_audible clock r.jacks ≡ false
  pub none : still ≡ true → NoneRuns r.device.outs r.device.ins
  pub rests : jacks ≡ true → AreAtRest clock r.jacks r.device
  pub stills : device_streams ≡ true → IsStill clock r.device

not_so : (b : Bool) → not b ≡ true → b ≡ false
not_so true e = absurd (true≢false (sym e))
not_so false e = refl

pub begun_to_tick : (sounding running : Bool) (clock : ℕ) (p : RunningFields) (jacks : List Jack) (meters : List Reading) (r : RunningWorld) → RunningStands p meters r
    → sounding ≡ one_is_audible clock jacks → jacks ≡ p.jacks → (running ≡ false → NoneRuns r.device.outs r.device.ins)
    → RestsSo (not sounding) (not running) false false clock p meters r
begun_to_tick sounding running clock p jacks meters r stands heard own none = record {
  now = stands;
  quiet = λ e. ap (one_is_audible clock) (sym (own ∙ stands.jacks)) ∙ sym heard ∙ not_so sounding e;
  none = λ e. none (not_so running e);
  rests = λ e. absurd (true≢false (sym e));
  stills = λ e. absurd (true≢false (sym e));
}

pub after_one_tick : (silent still jacks device_streams : Bool) (clock : ℕ) (p q : RunningFields) (shown showing : List Reading) (r : RunningWorld) → RestsSo silent still jacks device_streams clock p shown r
    → RunningStands q showing (tick clock r).world
    → (one_is_audible clock r.jacks ≡ false → AreAtRest clock (tick clock r).world.jacks (tick clock r).world.device)
    → RestsSo silent still silent still clock q showing (tick clock r).world
after_one_tick silent still jacks device_streams clock p q shown showing r s stands rests = record {
  now = stands;
  quiet = λ e. (rests (s.quiet e)).silent;
  none = λ e. (stills_after clock r (s.none e)).none;
  rests = λ e. rests (s.quiet e);
  stills = λ e. stills_after clock r (s.none e);
}
