-- A run starts so that packets bring what was sent, cut; and so control transfers leave it, and what else is asked of it between microframes.
use Rattle.std.proofs.Common.{◌≡◌, ◌∙◌, refl, sym, ap, subst, ℕ, zero, suc, ◌/◌, ◌==◌, Bool, true, false, if◌then◌else◌, ℤ, List, ◌++◌, length, take, drop, Option, None, Some, w32, FitsSigned}
use Rattle.std.specs.List.{All}
use Rattle.std.specs.Option.{option_and_then, option_map}
use Rattle.std.specs.Simd.{first_chunks}
use Rattle.std.proofs.lemmas.Bool.{eqb-true}
use Rattle.std.proofs.lemmas.List.Elements.{All-append, All-cons, All-drop, All-nil, All-take}
use Rattle.uac_pcm.specs.Packets.{IsFrame}
use Rattle.uac_pcm.specs.declared.tones.Tone.{Tone}
use Rattle.uac_units.specs.Hearing.{Reading}
use Rattle.uac_topology.specs.Function.{FunctionFields}
use Rattle.uac_topology.specs.Topology.{IsSoundFunction}
use Rattle.uac_alt.specs.AltStreams.{StreamFields}
use Rattle.uac_request.specs.declared.setup.Setup.{Setup}
use Rattle.uac_graph.specs.Meaning.{entity}
use Rattle.uac_flow.specs.FlowStreams.{InStream, OutStream, started_in, started_out}
use Rattle.uac_host.specs.HostWorld.{HostWorld, Pace, Track, fresh_host}
use Rattle.uac_host.specs.HostCalls.{IsStreamOf, at_interface, channels_at, fresh_pace, in_frames, with_samples, with_stream}
use Rattle.uac_host.specs.HostCalls as calls
use Rattle.uac_device.specs.InterfaceStreams.{in_from, out_from, streams_replaced_at}
use Rattle.uac_device.specs.DeviceWorld.{DeviceWorld, after_restart, fresh}
use Rattle.uac_running.specs.RunningWorld.{RunningWorld, at_start, with_samples_on, with_track}
use Rattle.uac_running.specs.RunningTransfers.{after_transfer}
use Rattle.uac_levels.proofs.AltStreamsLemmas.{asked_of}
use Rattle.uac_levels.proofs.BandTransfersRequestLemmas.{asked_device, begun, transferred_so}
use Rattle.uac_levels.proofs.BeginningsLemmas.{samples_whole}
use Rattle.uac_promises.proofs.CutGraphLemmas.{Fit, IsFrame-silence}
use Rattle.uac_promises.proofs.CutPacketsLemmas.{AreSampled, HostIsSampled, InIsSampled, OutIsSampled, RunsOn}
use Rattle.uac_promises.proofs.CutMicroframeLemmas.{RunIsSampled}

-- ---- the start

pub starts_sampled : (descriptor : List ℕ) (function : FunctionFields) (meters : List Reading) → IsSoundFunction function
    → RunIsSampled (at_start descriptor function meters)
unfolding at_start fresh fresh_host
starts_sampled descriptor function meters sound = record {
  host = record {
    sound = sound;
    streams = λ k p there. absurd (let none : None ≡ Some p = there in cc);
    tracks = λ k. All-nil (IsFrame (channels_at function k));
  };
  function = refl;
  device = record {
    outs = λ k o there. absurd (let none : None ≡ Some o = there in cc);
    ins = λ k i there. absurd (let none : None ≡ Some i = there in cc);
    given = λ id. (IsFrame-silence (entity function.entities id).cluster.channels).1;
    played = λ id. IsFrame-silence (entity function.entities id).cluster.channels;
  };
}

-- ---- tracks

retracked : (h : HostWorld) (w : DeviceWorld) (tracks : ℕ → Track) → ((k : ℕ) → All (IsFrame (channels_at h.function k)) (tracks k).waiting) → AreSampled h w
    → AreSampled (record h { tracks = tracks }) w
retracked h w tracks are is = record {
  host = record { sound = is.host.sound; streams = is.host.streams; tracks = are };
  function = is.function;
  device = record { outs = is.device.outs; ins = is.device.ins; given = is.device.given; played = is.device.played };
}

-- frames with so many channels, whose samples have 32 bits
both_of : (channels : ℕ) (frames : List (List ℤ)) → All (λ frame. length frame ≡ channels) frames → All Fit frames → All (IsFrame channels) frames
both_of channels frames long fits k d inside = (long k d inside, fits k d inside)

chunks_fit : (channels n : ℕ) (samples : List ℤ) → Fit samples → All Fit (first_chunks channels n samples)
chunks_fit channels zero samples fits = All-nil Fit
chunks_fit channels (suc n) samples fits =
    All-cons Fit (take channels samples) (first_chunks channels n (drop channels samples)) (All-take (FitsSigned w32) channels samples fits)
    (chunks_fit channels n (drop channels samples) (All-drop (FitsSigned w32) channels samples fits))

pub samples_sampled : (interface : ℕ) (samples : List ℤ) (r : RunningWorld) → Fit samples → RunIsSampled r → RunIsSampled (with_samples_on interface samples r)
unfolding with_samples_on with_samples
samples_sampled interface samples r fits is = retracked r.host r.device (with_samples interface samples r.host).tracks waits is
  where
    w : HostWorld
    w = r.host

    fit_at : (k : ℕ) (b : Bool)
        → All Fit (if b then record (w.tracks interface) { waiting = (w.tracks interface).waiting ++ in_frames (channels_at w.function interface) samples } else w.tracks k).waiting
    fit_at k true =
        All-append Fit (w.tracks interface).waiting (in_frames (channels_at w.function interface) samples)
        (λ j d inside. (is.host.tracks interface j d inside).1)
        (chunks_fit (channels_at w.function interface) (length samples / channels_at w.function interface) samples fits)
    fit_at k false = λ j d inside. (is.host.tracks k j d inside).1

    waits : (k : ℕ) → All (IsFrame (channels_at w.function k)) ((with_samples interface samples w).tracks k).waiting
    waits k =
        both_of (channels_at w.function k) ((with_samples interface samples w).tracks k).waiting
        (samples_whole interface samples w k (λ j d inside. (is.host.tracks k j d inside).0)) (fit_at k (k == interface))

pub track_sampled : (interface : ℕ) (tone : Tone) (r : RunningWorld) → RunIsSampled r → RunIsSampled (with_track interface tone r)
unfolding with_track calls.with_track_tone
track_sampled interface tone r is = retracked r.host r.device (calls.with_track_tone interface tone r.host).tracks waits is
  where
    w : HostWorld
    w = r.host

    by : (k : ℕ) (b : Bool) → (k == interface) ≡ b
        → All (IsFrame (channels_at w.function k)) (if b then record (w.tracks interface) { tone = tone; place = 0 } else w.tracks k).waiting
    by k true same =
        subst (λ (n : ℕ). All (IsFrame (channels_at w.function k)) (w.tracks n).waiting) (eqb-true k interface same) (is.host.tracks k)
    by k false other = is.host.tracks k

    waits : (k : ℕ) → All (IsFrame (channels_at w.function k)) ((calls.with_track_tone interface tone w).tracks k).waiting
    waits k = by k (k == interface) refl

-- ---- a control transfer

module _ (p : Setup) (bytes : List ℕ) (r : RunningWorld) (is : RunIsSampled r) where
  -- a stream that begins is one of the interface's
  begins_of : (s : StreamFields) → begun p bytes r ≡ Some s → IsStreamOf r.host.function p.index s
  begins_of s there =
      let asked = asked_of r.device.function r.device.controls p.index p.value s there in
      let of : IsStreamOf r.device.function p.index s = record { rate = asked.rate; setting = p.value; is = asked.of } in
      subst (λ (f : FunctionFields). IsStreamOf f p.index s) (sym is.function) of

  abbrev paces_then : ℕ → Option Pace
  paces_then = at_interface p.index (option_map fresh_pace (begun p bytes r)) r.host.paces

  -- the stream of the interface is that which begins
  runs_here : (k : ℕ) (s : StreamFields) → (k == p.index) ≡ true → begun p bytes r ≡ Some s → RunsOn paces_then k s
  runs_here k s here there = record {
    pace = fresh_pace s;
    there = ap (λ (b : Bool). if b then option_map fresh_pace (begun p bytes r) else r.host.paces k) here ∙ ap (option_map fresh_pace) there;
    same = refl;
  }

  runs_elsewhere : (k : ℕ) (s : StreamFields) → (k == p.index) ≡ false → RunsOn r.host.paces k s → RunsOn paces_then k s
  runs_elsewhere k s other runs = record {
    pace = runs.pace;
    there = ap (λ (b : Bool). if b then option_map fresh_pace (begun p bytes r) else r.host.paces k) other ∙ runs.there;
    same = runs.same;
  }

  restart_host : HostIsSampled (with_stream p.index (begun p bytes r) r.host)
  unfolding with_stream
  restart_host = record { sound = is.host.sound; streams = λ k q there. by k q (k == p.index) refl there; tracks = is.host.tracks }
    where
      first : (q : Pace) (b : Option StreamFields) → begun p bytes r ≡ b → option_map fresh_pace b ≡ Some q → IsStreamOf r.host.function p.index q.stream
      first q None none there = absurd (cc)
      first q (Some s) some there =
          let same : fresh_pace s ≡ q = cc in
          subst (λ (x : Pace). IsStreamOf r.host.function p.index x.stream) same (begins_of s some)

      by : (k : ℕ) (q : Pace) (b : Bool) → (k == p.index) ≡ b → (if b then option_map fresh_pace (begun p bytes r) else r.host.paces k) ≡ Some q
          → IsStreamOf r.host.function k q.stream
      by k q true here there =
          subst (λ (n : ℕ). IsStreamOf r.host.function n q.stream) (sym (eqb-true k p.index here)) (first q (begun p bytes r) refl there)
      by k q false other there = is.host.streams k q there

  restart_outs : (k : ℕ) (o : OutStream) → streams_replaced_at p.index (option_and_then out_from (begun p bytes r)) r.device.outs k ≡ Some o
      → OutIsSampled paces_then k o
  restart_outs k o there = by (k == p.index) refl there
    where
      way : (s : StreamFields) (b : Bool) → (if b then Some (started_out s) else None) ≡ Some o → started_out s ≡ o
      way s true e = cc
      way s false e = absurd (cc)

      first : (k == p.index) ≡ true → (b : Option StreamFields) → begun p bytes r ≡ b → option_and_then out_from b ≡ Some o → OutIsSampled paces_then k o
      first here None none e = absurd (cc)
      first here (Some s) some e =
          subst (OutIsSampled paces_then k) (way s s.out e) (record { runs = runs_here k s here some; fits = All-nil Fit })

      by : (b : Bool) → (k == p.index) ≡ b → (if b then option_and_then out_from (begun p bytes r) else r.device.outs k) ≡ Some o → OutIsSampled paces_then k o
      by true here e = first here (begun p bytes r) refl e
      by false other e =
          let was = is.device.outs k o e in
          record { runs = runs_elsewhere k o.stream other was.runs; fits = was.fits }

  restart_ins : (k : ℕ) (i : InStream) → streams_replaced_at p.index (option_and_then in_from (begun p bytes r)) r.device.ins k ≡ Some i
      → InIsSampled paces_then k i
  restart_ins k i there = by (k == p.index) refl there
    where
      way : (s : StreamFields) (b : Bool) → (if b then None else Some (started_in s)) ≡ Some i → started_in s ≡ i
      way s true e = absurd (cc)
      way s false e = cc

      first : (k == p.index) ≡ true → (b : Option StreamFields) → begun p bytes r ≡ b → option_and_then in_from b ≡ Some i → InIsSampled paces_then k i
      first here None none e = absurd (cc)
      first here (Some s) some e =
          subst (InIsSampled paces_then k) (way s s.out e) (record { runs = runs_here k s here some; frames = All-nil (IsFrame s.channels) })

      by : (b : Bool) → (k == p.index) ≡ b → (if b then option_and_then in_from (begun p bytes r) else r.device.ins k) ≡ Some i → InIsSampled paces_then k i
      by true here e = first here (begun p bytes r) refl e
      by false other e =
          let was = is.device.ins k i e in
          record { runs = runs_elsewhere k i.stream other was.runs; frames = was.frames }

  restarts : AreSampled (with_stream p.index (begun p bytes r) r.host) (after_restart p.index (begun p bytes r) (asked_device p bytes r))
  unfolding with_stream after_restart
  restarts = record {
    host = restart_host;
    function = is.function;
    device = record { outs = restart_outs; ins = restart_ins; given = is.device.given; played = is.device.played };
  }

  alone : AreSampled r.host (asked_device p bytes r)
  alone = record {
    host = is.host;
    function = is.function;
    device = record { outs = is.device.outs; ins = is.device.ins; given = is.device.given; played = is.device.played };
  }

  pub transfers_sampled : RunIsSampled (after_transfer p bytes r)
  transfers_sampled = transferred_so p bytes r RunIsSampled (λ set. restarts) (λ other. alone) is
