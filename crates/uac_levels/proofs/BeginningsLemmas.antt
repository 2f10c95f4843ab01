-- A run starts in its bands, and what is asked of it between microframes keeps it there.
use Rattle.std.proofs.Common.{arith, ◌≡◌, ◌∙◌, sym, refl, ap, subst, ℕ, zero, suc, ◌+◌, ◌-◌, ◌*◌, ◌/◌, ◌≤◌, ◌==◌, Bool, true, false, if◌then◌else◌, cond, ℤ, List, [], ◌∷◌, ◌++◌, length, drop, map, Option, Some, None}
use Rattle.std.specs.List.{All, find}
use Rattle.std.specs.Option.{option_and_then, option_map}
use Rattle.std.specs.Simd.{first_chunks}
use Rattle.std.proofs.Math.Nat.{div-mul-le_self, suc-mul}
use Rattle.std.proofs.lemmas.Bool.{eqb-true}
use Rattle.std.proofs.lemmas.List.{length-drop, length-take-le}
use Rattle.std.proofs.lemmas.List.Elements.{All-append}
use Rattle.uac_clock.specs.Nominal.{nominal_of}
use Rattle.uac_pcm.specs.declared.tones.Tone.{Tone}
use Rattle.uac_rate.specs.Steadiness.{is_slight}
use Rattle.uac_topology.proofs.TopologySizeLemmas.{small}
use Rattle.uac_store.specs.Rates.{rate_of}
use Rattle.uac_flow.specs.FlowStreams.{OutStream}
use Rattle.uac_host.specs.HostWorld.{HostWorld, Pace, Track, fresh_host}
use Rattle.uac_host.specs.HostCalls.{channels_at, in_frames, with_samples}
use Rattle.uac_host.specs.HostCalls as calls
use Rattle.uac_device.specs.DeviceWorld.{Domain, after_deviation, fresh}
use Rattle.uac_streaming.specs.StreamingWorld.{stream_index}
use Rattle.uac_running.specs.RunningWorld.{RunningWorld, at_start, with_detail, with_deviation, with_samples_on, with_jack_tone, with_track}
use Rattle.uac_running.specs.RunningTransfers.{with_break}
use Rattle.uac_levels.specs.Life.{Life, domain_id_on, domain_on, life_of}
use Rattle.uac_levels.specs.Beginnings.{CallsKeepBands, RunsStartInBand}
use Rattle.uac_levels.specs.BandRun.{RunInBand, StreamInBand}
use Rattle.uac_levels.proofs.ProjectionLemmas.{deviations_keep_order, starts_are_ordered}

pub runs_start_in_band : RunsStartInBand
unfolding at_start fresh fresh_host
runs_start_in_band descriptor function meters sound = record {
  ordered = starts_are_ordered function sound;
  hosts = refl;
  few = (small function sound).1;
  streams = λ k o there. absurd (let none : None ≡ Some o = there in cc);
}

-- ---- what is nothing to it

-- a run is in its bands by its device, its host, and what was given
pub carry : (r other : RunningWorld) → RunInBand r → RunInBand (record other { device = r.device; host = r.host; history = r.history })
unfolding life_of
carry r other band = record {
  ordered = band.ordered;
  hosts = band.hosts;
  few = band.few;
  streams = λ k o there.
      (let stream = band.streams k o there in
      let s = stream.3 in (
        stream.0,
        stream.1,
        stream.2,
        record {
          runs = record { out = s.runs.out; life = s.runs.life; domain = s.runs.domain };
          fed = record { same = s.fed.same; streams = s.fed.streams; format = s.fed.format; whole = s.fed.whole };
          band = s.band;
          rate = s.rate;
          slight = s.slight;
        },
      ));
}

-- another host of the same function, with the same paces, and tracks with whole frames
rehosted : (r : RunningWorld) (tracks : ℕ → Track)
    → ((k : ℕ) → All (λ frame. length frame ≡ channels_at r.host.function k) (r.host.tracks k).waiting
    → All (λ frame. length frame ≡ channels_at r.host.function k) (tracks k).waiting)
    → RunInBand r → RunInBand (record r { host = record r.host { tracks = tracks } })
unfolding life_of
rehosted r tracks even band = record {
  ordered = band.ordered;
  hosts = band.hosts;
  few = band.few;
  streams = λ k o there.
      (let stream = band.streams k o there in
      let s = stream.3 in (
        stream.0,
        stream.1,
        stream.2,
        record {
          runs = record { out = s.runs.out; life = s.runs.life; domain = s.runs.domain };
          fed = record { same = s.fed.same; streams = s.fed.streams; format = s.fed.format; whole = even k s.fed.whole };
          band = s.band;
          rate = s.rate;
          slight = s.slight;
        },
      ));
}

-- samples in frames of so many
even_chunks : (channels n : ℕ) (samples : List ℤ) → n * channels ≤ length samples
    → All (λ frame. length frame ≡ channels) (first_chunks channels n samples)
even_chunks channels zero samples long k d below = absurd (omega arith)
even_chunks channels (suc n) samples long zero d below =
    let step : suc n * channels ≡ n * channels + channels = suc-mul n channels in
    length-take-le channels samples (omega arith)
even_chunks channels (suc n) samples long (suc k) d below =
    let step : suc n * channels ≡ n * channels + channels = suc-mul n channels in
    let rest : length (drop channels samples) ≡ length samples - channels = length-drop channels samples in
    even_chunks channels n (drop channels samples) (omega arith) k d (omega arith)

-- frames that wait for a stream are whole after samples, and after another tone
pub samples_whole : (interface : ℕ) (samples : List ℤ) (w : HostWorld) (k : ℕ)
    → All (λ frame. length frame ≡ channels_at w.function k) (w.tracks k).waiting
    → All (λ frame. length frame ≡ channels_at w.function k) ((with_samples interface samples w).tracks k).waiting
unfolding with_samples
samples_whole interface samples w k whole = by (k == interface) refl
  where
    channels : ℕ
    channels = channels_at w.function interface

    frames : List (List ℤ)
    frames = in_frames channels samples

    by : (b : Bool) → (k == interface) ≡ b
        → All (λ frame. length frame ≡ channels_at w.function k)
        (if b then record (w.tracks interface) { waiting = (w.tracks interface).waiting ++ frames } else w.tracks k).waiting
    by true same =
        let number : k ≡ interface = eqb-true k interface same in
        subst (λ (n : ℕ). All (λ frame. length frame ≡ channels_at w.function n) ((w.tracks interface).waiting ++ frames)) (sym number)
        (All-append (λ frame. length frame ≡ channels) (w.tracks interface).waiting frames
        (subst (λ (n : ℕ). All (λ frame. length frame ≡ channels_at w.function n) (w.tracks n).waiting) number whole)
        (even_chunks channels (length samples / channels) samples (div-mul-le_self (length samples) channels)))
    by false other = whole

pub track_whole : (interface : ℕ) (tone : Tone) (w : HostWorld) (k : ℕ)
    → All (λ frame. length frame ≡ channels_at w.function k) (w.tracks k).waiting
    → All (λ frame. length frame ≡ channels_at w.function k) ((calls.with_track_tone interface tone w).tracks k).waiting
unfolding calls.with_track_tone
track_whole interface tone w k whole = by (k == interface) refl
  where
    by : (b : Bool) → (k == interface) ≡ b
        → All (λ frame. length frame ≡ channels_at w.function k)
        (if b then record (w.tracks interface) { tone = tone; place = 0 } else w.tracks k).waiting
    by true same =
        let number : k ≡ interface = eqb-true k interface same in
        subst (λ (n : ℕ). All (λ frame. length frame ≡ channels_at w.function k) (w.tracks n).waiting) number whole
    by false other = whole

samples_keep : (interface : ℕ) (samples : List ℤ) (r : RunningWorld) → RunInBand r → RunInBand (with_samples_on interface samples r)
unfolding with_samples_on with_samples
samples_keep interface samples r = rehosted r (with_samples interface samples r.host).tracks (samples_whole interface samples r.host)

track_keeps : (interface : ℕ) (tone : Tone) (r : RunningWorld) → RunInBand r → RunInBand (with_track interface tone r)
unfolding with_track calls.with_track_tone
track_keeps interface tone r = rehosted r (calls.with_track_tone interface tone r.host).tracks (track_whole interface tone r.host)

-- ---- deviations

module _ (clock : ℕ) (ppm : ℤ) where
  abbrev pub off : Domain → Domain
  off d = if d.id == clock then record d { deviation = ppm } else d

  pub off_clock : (d : Domain) → (off d).id ≡ d.id
  off_clock d = by (d.id == clock)
    where
      by : (b : Bool) → (if b then record d { deviation = ppm } else d).id ≡ d.id
      by true = refl
      by false = refl

  off_steps : (d : Domain) → (off d).steps ≡ d.steps
  off_steps d = by (d.id == clock)
    where
      by : (b : Bool) → (if b then record d { deviation = ppm } else d).steps ≡ d.steps
      by true = refl
      by false = refl

  pub off_slight : (d : Domain) → is_slight ppm ≡ true → is_slight d.deviation ≡ true → is_slight (off d).deviation ≡ true
  off_slight d slight before = by (d.id == clock)
    where
      by : (b : Bool) → is_slight (if b then record d { deviation = ppm } else d).deviation ≡ true
      by true = slight
      by false = before

  pub found_off : (c : ℕ) (ds : List Domain) → find (λ d. d.id == c) (map off ds) ≡ option_map off (find (λ d. d.id == c) ds)
  found_off c [] = refl
  found_off c (x ∷ xs) =
      ap (λ (n : ℕ). cond (n == c) (Some (off x)) (find (λ d. d.id == c) (map off xs))) (off_clock x)
      ∙ by (x.id == c) (found_off c xs)
    where
      by : (b : Bool) → find (λ d. d.id == c) (map off xs) ≡ option_map off (find (λ d. d.id == c) xs)
          → cond b (Some (off x)) (find (λ d. d.id == c) (map off xs)) ≡ option_map off (cond b (Some x) (find (λ d. d.id == c) xs))
      by true rest = refl
      by false rest = rest

  module _ (r : RunningWorld) (k : ℕ) where
    abbrev after : RunningWorld
    after = with_deviation clock ppm r

    domain_off : domain_on after k ≡ option_map off (domain_on r k)
    unfolding with_deviation after_deviation
    domain_off = by (domain_id_on r k)
      where
        by : (o : Option ℕ)
            → option_and_then (λ c. find (λ d. d.id == c) (map off r.device.domains)) o
            ≡ option_map off (option_and_then (λ c. find (λ d. d.id == c) r.device.domains) o)
        by None = refl
        by (Some c) = found_off c r.device.domains

    abbrev with_domain : OutStream → Pace → Option Domain → Option Life
    with_domain out pace o =
        option_and_then (λ d. option_map (λ index. record { out = out; pace = pace; steps = d.steps; reports = r.history.feedback index }) (stream_index r.device.function k)) o

    pub life_off : life_of after k ≡ life_of r k
    unfolding life_of with_deviation after_deviation
    life_off = by (r.device.outs k) (r.host.paces k)
      where
        off_nothing : (out : OutStream) (pace : Pace) (o : Option Domain) → with_domain out pace (option_map off o) ≡ with_domain out pace o
        off_nothing out pace None = refl
        off_nothing out pace (Some d) =
            ap (λ (steps : List ℕ). option_map (λ index. record { out = out; pace = pace; steps = steps; reports = r.history.feedback index }) (stream_index r.device.function k)) (off_steps d)

        by : (o : Option OutStream) (q : Option Pace)
            → option_and_then (λ out. option_and_then (λ pace. with_domain out pace (domain_on (with_deviation clock ppm r) k)) q) o
            ≡ option_and_then (λ out. option_and_then (λ pace. with_domain out pace (domain_on r k)) q) o
        by None q = refl
        by (Some out) None = refl
        by (Some out) (Some pace) = ap (with_domain out pace) domain_off ∙ off_nothing out pace (domain_on r k)

    stream_off : (l : Life) (d : Domain) → is_slight ppm ≡ true → StreamInBand r k l d → StreamInBand after k l (off d)
    unfolding with_deviation after_deviation
    stream_off l d slight s = record {
      runs = record { out = s.runs.out; life = life_off ∙ s.runs.life; domain = domain_off ∙ ap (option_map off) s.runs.domain };
      fed = record { same = s.fed.same; streams = s.fed.streams; format = s.fed.format; whole = s.fed.whole };
      band = s.band;
      rate = ap (λ (n : ℕ). option_and_then nominal_of (rate_of r.device.function.entities r.device.controls n)) (off_clock d) ∙ s.rate;
      slight = off_slight d slight s.slight;
    }

  deviation_keeps : (r : RunningWorld) → is_slight ppm ≡ true → RunInBand r → RunInBand (with_deviation clock ppm r)
  unfolding with_deviation after_deviation
  deviation_keeps r slight band = record {
    ordered = deviations_keep_order clock ppm r.device band.ordered;
    hosts = band.hosts;
    few = band.few;
    streams = λ k o there.
        (let stream = band.streams k o there in
        (stream.0, off stream.1, stream.2, stream_off r k stream.0 stream.1 slight stream.3));
  }

pub calls_keep_bands : CallsKeepBands
unfolding with_jack_tone with_detail with_break
calls_keep_bands r band = record {
  tone = λ terminal tone. carry r (with_jack_tone terminal tone r) band;
  detail = λ level. carry r (with_detail level r) band;
  breaks = λ after. carry r (with_break after r) band;
  samples = λ interface samples. samples_keep interface samples r band;
  track = λ interface tone. track_keeps interface tone r band;
  deviation = λ clock ppm slight. deviation_keeps clock ppm r slight band;
}
