-- Microframes keep a run sound, and so does what is asked of it between them.
use Rattle.std.proofs.Common.{◌≡◌, ◌∙◌, sym, refl, ap, subst, ℕ, ◌==◌, ◌||◌, Bool, true, false, if◌then◌else◌, cond, ℤ, List, [], ◌∷◌, length, get_or, map, Option, Some, None, is_some}
use Rattle.std.specs.List.{All, find, list_any}
use Rattle.std.specs.Option.{option_map}
use Rattle.std.proofs.lemmas.Bool.{eqb-true}
use Rattle.std.proofs.lemmas.List.Elements.{All-cons, All-head, All-map, All-nil, All-tail}
use Rattle.uac_pcm.specs.declared.tones.Tone.{Tone}
use Rattle.uac_rate.specs.Steadiness.{is_slight}
use Rattle.uac_topology.specs.Function.{FunctionFields, interface_in}
use Rattle.uac_topology.specs.Topology.{IsSoundFunction}
use Rattle.uac_store.specs.StoreControls.{IsStoreOf}
use Rattle.uac_store.specs.declared.keys.Key.{Key}
use Rattle.uac_alt.specs.AltSettings.{setting_of}
use Rattle.uac_alt.specs.declared.settings.InterfaceSetting.{InterfaceSetting}
use Rattle.uac_request.specs.Requests.{AreSettingsOf}
use Rattle.uac_flow.specs.FlowStreams.{OutStream}
use Rattle.uac_host.specs.HostWorld.{HostWorld, Track}
use Rattle.uac_graph.specs.Meaning.{entity}
use Rattle.uac_host.specs.HostCalls.{track_after_frames, channels_at, size_of, with_report, with_samples}
use Rattle.uac_host.specs.HostCalls as calls
use Rattle.uac_host.specs.HostCalls.{after_host_packet as host_sends}
use Rattle.uac_host.proofs.HostKeptLemmas.{even_after}
use Rattle.uac_device.specs.DeviceWorld.{Domain, after_advance, after_deviation, after_receiving, set_jack, after_end, steps_with_next, after_tick}
use Rattle.uac_device.specs.DeviceWorld.{after_sending_in_packet as device_sends}
use Rattle.uac_streaming.specs.StreamingWorld.{StreamingWorld, goes_out, packet_fetched, packet_sent_out, feedback_made}
use Rattle.uac_running.specs.RunningWorld.{RunningWorld, with_detail, with_deviation, with_samples_on, with_jack_tone, with_track}
use Rattle.uac_running.specs.RunningTransfers.{with_break}
use Rattle.uac_running.specs.Events.{microframe}
use Rattle.uac_levels.specs.BandTransfers.{CallsKeepSound, IsInSetting, IsSoundRun, MicroframesKeepSound}
use Rattle.uac_levels.proofs.TellingTurnLemmas.{stepped}
use Rattle.uac_levels.proofs.RunningWorldKeptLemmas.{IsKeptByEach, microframe_keeps}
use Rattle.uac_levels.proofs.ProjectionKeptLemmas.{microframes_keep_the_rest}
use Rattle.uac_levels.proofs.RunningWorldRestLemmas.{microframe_none}
use Rattle.uac_levels.proofs.BeginningsLemmas.{found_off, off, off_slight, samples_whole, track_whole}

abbrev deviations_of : List Domain → List ℤ
deviations_of ds = map (λ d. d.deviation) ds

-- what a microframe leaves of it
record Keeps (r : RunningWorld) (w : StreamingWorld) : Type 0 where
  settings : w.device.settings ≡ r.device.settings
  deviations : deviations_of w.device.domains ≡ deviations_of r.device.domains
  whole : (k : ℕ) → All (λ frame. length frame ≡ channels_at r.host.function k) (w.host.tracks k).waiting

-- ---- the steps of a microframe

stepped_deviations : (more : Domain → List ℕ) (c : ℕ) (ds : List Domain) → deviations_of (map (stepped more c) ds) ≡ deviations_of ds
stepped_deviations more c [] = refl
stepped_deviations more c (d ∷ ds) = by (d.id == c) (stepped_deviations more c ds)
  where
    by : (b : Bool) → deviations_of (map (stepped more c) ds) ≡ deviations_of ds
        → (let d' : Domain = if b then record d { steps = more d } else d in d'.deviation ∷ deviations_of (map (stepped more c) ds))
        ≡ d.deviation ∷ deviations_of ds
    by true rest = ap (λ (ms : List ℤ). d.deviation ∷ ms) rest
    by false rest = ap (λ (ms : List ℤ). d.deviation ∷ ms) rest

sent_whole : (r : RunningWorld) (n k : ℕ) (w : HostWorld)
    → ((k : ℕ) → All (λ frame. length frame ≡ channels_at r.host.function k) (w.tracks k).waiting)
    → All (λ frame. length frame ≡ channels_at r.host.function k)
    (if k == n then track_after_frames (size_of w n) (w.tracks n) else w.tracks k).waiting
sent_whole r n k w whole = by (k == n) refl
  where
    by : (b : Bool) → (k == n) ≡ b
        → All (λ frame. length frame ≡ channels_at r.host.function k) (if b then track_after_frames (size_of w n) (w.tracks n) else w.tracks k).waiting
    by true same =
        even_after (channels_at r.host.function k) (size_of w n) (w.tracks n)
        (subst (λ (m : ℕ). All (λ frame. length frame ≡ channels_at r.host.function k) (w.tracks m).waiting) (eqb-true k n same) (whole k))
    by false other = whole k

keeps_each : (r : RunningWorld) → IsKeptByEach (Keeps r)
unfolding packet_sent_out after_receiving host_sends packet_fetched device_sends after_end feedback_made with_report set_jack after_tick after_advance
keeps_each r = record {
  sends = λ lost n w keeps.
      record { settings = keeps.settings; deviations = keeps.deviations; whole = λ k. sent_whole r n k w.host keeps.whole };
  fetches = λ lost n w keeps. record { settings = keeps.settings; deviations = keeps.deviations; whole = keeps.whole };
  ends = λ n w keeps. record { settings = keeps.settings; deviations = keeps.deviations; whole = keeps.whole };
  reports = λ lost value n w keeps.
      record { settings = keeps.settings; deviations = keeps.deviations; whole = hosted w lost value n keeps };
  jacks = λ terminal frame w keeps. record { settings = keeps.settings; deviations = keeps.deviations; whole = keeps.whole };
  ticks = λ c met w keeps. record { settings = keeps.settings; deviations = keeps.deviations; whole = keeps.whole };
  goes_on = λ c w keeps. record {
    settings = keeps.settings;
    deviations = stepped_deviations (steps_with_next w.device) c w.device.domains ∙ keeps.deviations;
    whole = keeps.whole;
  };
}
  where
    hosted : (w : StreamingWorld) (lost : Bool) (value n : ℕ) → Keeps r w → (k : ℕ)
        → All (λ frame. length frame ≡ channels_at r.host.function k) ((if lost then w.host else with_report n value w.host).tracks k).waiting
    hosted w true value n keeps = keeps.whole
    hosted w false value n keeps = keeps.whole

-- ---- a microframe

unmapped : (test : ℤ → Bool) (ds : List Domain) → All (λ m. test m ≡ true) (deviations_of ds) → All (λ d. test d.deviation ≡ true) ds
unmapped test [] all = All-nil (λ d. test d.deviation ≡ true)
unmapped test (d ∷ ds) all =
    All-cons (λ e. test e.deviation ≡ true) d ds (All-head (λ m. test m ≡ true) d.deviation (deviations_of ds) all)
    (unmapped test ds (All-tail (λ m. test m ≡ true) d.deviation (deviations_of ds) all))

-- whether a clock is a domain's, by their clocks
pub known_clock : (c : ℕ) (ds : List Domain) → is_some (find (λ d. d.id == c) ds) ≡ list_any (λ n. n == c) (map (λ d. d.id) ds)
known_clock c [] = refl
known_clock c (d ∷ ds) = by (d.id == c) (known_clock c ds)
  where
    by : (b : Bool) → is_some (find (λ d. d.id == c) ds) ≡ list_any (λ n. n == c) (map (λ d. d.id) ds)
        → is_some (cond b (Some d) (find (λ d. d.id == c) ds)) ≡ (b || list_any (λ n. n == c) (map (λ d. d.id) ds))
    by true rest = refl
    by false rest = rest

pub microframes_keep_sound : MicroframesKeepSound
microframes_keep_sound marks r sound =
    let stays = microframes_keep_the_rest marks r in
    let after : RunningWorld = (microframe marks r).world in
    let keeps = microframe_keeps (Keeps r) (keeps_each r) marks r (record { settings = refl; deviations = refl; whole = sound.whole }) in
    record {
      sound = subst IsSoundFunction (sym stays.function) sound.sound;
      store = subst (λ (f : FunctionFields). IsStoreOf f.entities after.device.controls) (sym stays.function)
          (subst (λ (cs : List (Key × ℤ)). IsStoreOf r.device.function.entities cs) (sym stays.controls) sound.store);
      settings = subst (λ (f : FunctionFields). AreSettingsOf f after.device.settings) (sym stays.function)
          (subst (λ (ss : List InterfaceSetting). AreSettingsOf r.device.function ss) (sym keeps.settings) sound.settings);
      running = λ k o there. runs k o there (r.device.outs k) refl keeps.settings;
      whole = λ k. subst (λ (f : FunctionFields). All (λ frame. length frame ≡ channels_at f k) (after.host.tracks k).waiting) (sym stays.host) (keeps.whole k);
      slight = unmapped is_slight after.device.domains
          (subst (All (λ m. is_slight m ≡ true)) (sym keeps.deviations)
          (All-map (λ m. is_slight m ≡ true) (λ (d : Domain). d.deviation) r.device.domains sound.slight));
      clocked = λ k clock goes on.
          known_clock clock after.device.domains
          ∙ ap (list_any (λ (n : ℕ). n == clock)) stays.domains ∙ sym (known_clock clock r.device.domains)
          ∙ sound.clocked k clock (subst (λ (f : FunctionFields). goes_out f k ≡ true) stays.function goes)
          (subst (λ (f : FunctionFields). option_map (λ s. (entity f.entities s.terminal).clock) (interface_in f k) ≡ Some clock) stays.function on);
    }
  where
    runs : (k : ℕ) (o : OutStream) → (microframe marks r).world.device.outs k ≡ Some o → (was : Option OutStream) → r.device.outs k ≡ was
        → (microframe marks r).world.device.settings ≡ r.device.settings → IsInSetting (microframe marks r).world k
    runs k o there None none same = absurd (let nowhere = microframe_none k marks r none in cc)
    runs k o there (Some out) was same =
        let set = sound.running k out was in
        (set.0, ap (λ (ss : List InterfaceSetting). setting_of ss k) same ∙ set.1, set.2)

-- ---- between microframes

-- a run is sound by its device and its host
pub carried : (r other : RunningWorld) → IsSoundRun r → IsSoundRun (record other { device = r.device; host = r.host })
carried r other sound = record {
  sound = sound.sound;
  store = sound.store;
  settings = sound.settings;
  running = sound.running;
  whole = sound.whole;
  slight = sound.slight;
  clocked = sound.clocked;
}

rehosted : (r : RunningWorld) (tracks : ℕ → Track)
    → ((k : ℕ) → All (λ frame. length frame ≡ channels_at r.host.function k) (tracks k).waiting)
    → IsSoundRun r → IsSoundRun (record r { host = record r.host { tracks = tracks } })
rehosted r tracks whole sound = record {
  sound = sound.sound;
  store = sound.store;
  settings = sound.settings;
  running = sound.running;
  whole = whole;
  slight = sound.slight;
  clocked = sound.clocked;
}

samples_keep : (interface : ℕ) (samples : List ℤ) (r : RunningWorld) → IsSoundRun r → IsSoundRun (with_samples_on interface samples r)
unfolding with_samples_on with_samples
samples_keep interface samples r sound =
    rehosted r (with_samples interface samples r.host).tracks (λ k. samples_whole interface samples r.host k (sound.whole k)) sound

track_keeps : (interface : ℕ) (tone : Tone) (r : RunningWorld) → IsSoundRun r → IsSoundRun (with_track interface tone r)
unfolding with_track calls.with_track_tone
track_keeps interface tone r sound =
    rehosted r (calls.with_track_tone interface tone r.host).tracks (λ k. track_whole interface tone r.host k (sound.whole k)) sound

all_off : (clock : ℕ) (ppm : ℤ) (ds : List Domain) → is_slight ppm ≡ true → All (λ d. is_slight d.deviation ≡ true) ds
    → All (λ d. is_slight d.deviation ≡ true) (map (off clock ppm) ds)
all_off clock ppm ds slight all =
    All-map (λ d. is_slight d.deviation ≡ true) (off clock ppm) ds (λ k d below. each (get_or ds k d) (all k d below))
  where
    each : (d : Domain) → is_slight d.deviation ≡ true → is_slight (off clock ppm d).deviation ≡ true
    each d before = off_slight clock ppm d slight before

mapped_some : (f : Domain → Domain) (o : Option Domain) → is_some (option_map f o) ≡ is_some o
mapped_some f None = refl
mapped_some f (Some d) = refl

deviation_keeps : (clock : ℕ) (ppm : ℤ) (r : RunningWorld) → is_slight ppm ≡ true → IsSoundRun r
    → IsSoundRun (with_deviation clock ppm r)
unfolding with_deviation after_deviation
deviation_keeps clock ppm r slight sound = record {
  sound = sound.sound;
  store = sound.store;
  settings = sound.settings;
  running = sound.running;
  whole = sound.whole;
  slight = all_off clock ppm r.device.domains slight sound.slight;
  clocked = λ k c goes on.
      ap is_some (found_off clock ppm c r.device.domains)
      ∙ mapped_some (off clock ppm) (find (λ (d : Domain). d.id == c) r.device.domains) ∙ sound.clocked k c goes on;
}

pub calls_keep_sound : CallsKeepSound
unfolding with_jack_tone with_detail with_break
calls_keep_sound r sound = record {
  tone = λ terminal tone. carried r (with_jack_tone terminal tone r) sound;
  detail = λ level. carried r (with_detail level r) sound;
  breaks = λ after. carried r (with_break after r) sound;
  samples = λ interface samples. samples_keep interface samples r sound;
  track = λ interface tone. track_keeps interface tone r sound;
  deviation = λ clock ppm slight. deviation_keeps clock ppm r slight sound;
}
