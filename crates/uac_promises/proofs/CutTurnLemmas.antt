-- Each turn of a microframe leaves it so that packets bring what was sent, cut.
use Rattle.std.proofs.Common.{◌≡◌, refl, sym, subst, ℕ, ◌==◌, Bool, true, false, if◌then◌else◌, ℤ, List, [], Option, None, Some, unwrap_or}
use Rattle.std.specs.List.{All, find}
use Rattle.std.specs.Option.{option_and_then, option_map, option_map_or}
use Rattle.std.proofs.lemmas.Bool.{and_parts, eqb-true}
use Rattle.std.proofs.lemmas.List.Elements.{All-drop}
use Rattle.uac_pcm.specs.Packets.{IsFrame}
use Rattle.uac_entities.specs.declared.stream.StreamInterface.{StreamInterface}
use Rattle.uac_topology_rules.specs.Rules.{is_output}
use Rattle.uac_topology.specs.Function.{FunctionFields}
use Rattle.uac_graph.specs.GraphControls.{controls_in}
use Rattle.uac_graph.specs.Meaning.{entity, meaning}
use Rattle.uac_graph.specs.Needs.{is_end}
use Rattle.uac_graph.specs.Wiring.{silence}
use Rattle.uac_flow.specs.FlowStreams.{InStream, OutStream, after_packet, after_putting, after_sending_in, after_taking, after_ticks, next_taken, in_after_end, out_after_end}
use Rattle.uac_host.specs.HostWorld.{HostWorld, Pace}
use Rattle.uac_host.specs.HostCalls.{IsStreamOf, after_host_packet, at_interface, channels_at, pace_after_packet, pace_after_report, size_of, track_after_frames, with_report}
use Rattle.uac_device.specs.DeviceWorld.{DeviceWorld, after_advance, after_receiving, after_sending_in_packet, after_end, after_tick, entity_in, input_of, is_on, is_streamed, next_ticks, played_to, set_jack, streamed_frame}
use Rattle.uac_device.specs.Linked.{FitsInterface}
use Rattle.uac_device.proofs.AltStreamsLemmas.{stream_fits}
use Rattle.uac_streaming.specs.StreamingWorld.{StreamingWorld, packet_fetched, packet_sent_out, packet_to, feedback_made}
use Rattle.uac_promises.proofs.CutGraphLemmas.{Fit, IsFrame-silence, meaning_channels, meaning_fits}
use Rattle.uac_promises.proofs.CutPacketsLemmas.{AreSampled, DeviceIsSampled, HostIsSampled, InIsSampled, OutIsSampled, runs_format, runs_of}
use Rattle.uac_promises.proofs.CutEventLemmas.{changed_keeps, device_goes_on, next_fits, no_input, out_with_packet, pace_goes_on, pace_of, putting_keeps, sending_keeps, in_after_end_keeps, out_after_end_keeps, taking_keeps, where_keeps}

abbrev pub Sampled : StreamingWorld → Type 0
Sampled w = AreSampled w.host w.device

-- ---- packets

sent_track : (n : ℕ) (h : HostWorld) → HostIsSampled h → (k : ℕ)
    → All (IsFrame (channels_at h.function k)) (at_interface n (track_after_frames (size_of h n) (h.tracks n)) h.tracks k).waiting
unfolding track_after_frames
sent_track n h is k = by (k == n) refl
  where
    by : (b : Bool) → (k == n) ≡ b
        → All (IsFrame (channels_at h.function k)) (if b then track_after_frames (size_of h n) (h.tracks n) else h.tracks k).waiting
    by true same =
        All-drop (IsFrame (channels_at h.function k)) (size_of h n) (h.tracks n).waiting
        (subst (λ (m : ℕ). All (IsFrame (channels_at h.function k)) (h.tracks m).waiting) (eqb-true k n same) (is.tracks k))
    by false other = is.tracks k

pub sends_keeps : (lost : Bool) (n : ℕ) (w : StreamingWorld) → Sampled w → Sampled (packet_sent_out lost n w)
unfolding packet_sent_out after_receiving after_host_packet
sends_keeps lost n w is =
    let packet : Option (List ℕ) = packet_to lost n w in
    let paces : ℕ → Option Pace = at_interface n (option_map pace_after_packet (w.host.paces n)) w.host.paces in
    let received : DeviceIsSampled w.host.paces (after_receiving n packet w.device) = record {
      outs = changed_keeps (OutIsSampled w.host.paces) w.device.outs is.device.outs n (after_packet packet)
          (λ k o q. out_with_packet packet w.host.paces k o (runs_format w.host is.host k o.stream q.runs) q);
      ins = is.device.ins;
      given = is.device.given;
      played = is.device.played;
    } in
    record {
      host = record {
        sound = is.host.sound;
        streams = pace_of n pace_after_packet (λ p. refl) w.host.paces (IsStreamOf w.host.function) is.host.streams;
        tracks = sent_track n w.host is.host;
      };
      function = is.function;
      device = device_goes_on w.host.paces paces (pace_goes_on n pace_after_packet (λ p. refl) w.host.paces) (after_receiving n packet w.device) received;
    }

pub fetches_keeps : (lost : Bool) (n : ℕ) (w : StreamingWorld) → Sampled w → Sampled (packet_fetched lost n w)
unfolding packet_fetched after_sending_in_packet
fetches_keeps lost n w is = record {
  host = is.host;
  function = is.function;
  device = record {
    outs = is.device.outs;
    ins = changed_keeps (InIsSampled w.host.paces) w.device.ins is.device.ins n after_sending_in (sending_keeps w.host.paces);
    given = is.device.given;
    played = is.device.played;
  };
}

-- ---- ends and reports

pub ends_keeps : (n : ℕ) (w : StreamingWorld) → Sampled w → Sampled (record w { device = after_end n w.device })
unfolding after_end
ends_keeps n w is = record {
  host = is.host;
  function = is.function;
  device = record {
    outs = changed_keeps (OutIsSampled w.host.paces) w.device.outs is.device.outs n out_after_end (out_after_end_keeps w.host.paces);
    ins = changed_keeps (InIsSampled w.host.paces) w.device.ins is.device.ins n in_after_end (in_after_end_keeps w.host.paces);
    given = is.device.given;
    played = is.device.played;
  };
}

with_report_keeps : (n value : ℕ) (h : HostWorld) (w : DeviceWorld) → AreSampled h w → AreSampled (with_report n value h) w
unfolding with_report
with_report_keeps n value h w is =
    let paces : ℕ → Option Pace = at_interface n (option_map (pace_after_report value) (h.paces n)) h.paces in
    record {
      host = record {
        sound = is.host.sound;
        streams = pace_of n (pace_after_report value) (λ p. refl) h.paces (IsStreamOf h.function) is.host.streams;
        tracks = is.host.tracks;
      };
      function = is.function;
      device = device_goes_on h.paces paces (pace_goes_on n (pace_after_report value) (λ p. refl) h.paces) w is.device;
    }

pub feedback_made_keeps : (lost : Bool) (value n : ℕ) (w : StreamingWorld) → Sampled w → Sampled (feedback_made lost value n w)
unfolding feedback_made
feedback_made_keeps true value n w is = is
feedback_made_keeps false value n w is = with_report_keeps n value w.host w.device is

-- ---- ticks

pub jacks_keeps : (terminal : ℕ) (frame : List ℤ) → Fit frame → (h : HostWorld) (w : DeviceWorld) → AreSampled h w → AreSampled h (set_jack terminal frame w)
unfolding set_jack
jacks_keeps terminal frame fits h w is = record {
  host = is.host;
  function = is.function;
  device = record { outs = is.device.outs; ins = is.device.ins; given = λ id. by id (id == terminal); played = is.device.played };
}
  where
    by : (id : ℕ) (b : Bool) → Fit (if b then frame else w.given id)
    by id true = fits
    by id false = is.device.given id

module _ (c : ℕ) (h : HostWorld) (w : DeviceWorld) (is : AreSampled h w) where
  streamed_fits : (id : ℕ) → Fit (streamed_frame w id)
  unfolding streamed_frame
  streamed_fits id = by (find (λ (s : StreamInterface). s.terminal == id) w.function.streams)
    where
      channels : ℕ
      channels = (entity_in w id).cluster.channels

      inner : (k : ℕ) (o : Option OutStream) → w.outs k ≡ o → Fit (unwrap_or (option_and_then next_taken o) (silence channels))
      inner k None there = (IsFrame-silence channels).1
      inner k (Some o) there = next_fits h.paces k o (is.device.outs k o there) channels

      by : (f : Option StreamInterface) → Fit (unwrap_or (option_and_then next_taken (option_and_then (λ s. w.outs s.number) f)) (silence channels))
      by None = (IsFrame-silence channels).1
      by (Some s) = inner s.number (w.outs s.number) refl

  input_fits : (id : ℕ) → Fit (input_of c w id)
  unfolding input_of
  input_fits id = by (is_streamed c (entity_in w id))
    where
      by : (b : Bool) → Fit (if b then streamed_frame w id else w.given id)
      by true = streamed_fits id
      by false = is.device.given id

  -- what the terminals play
  abbrev played_then : ℕ → List ℤ
  played_then id = if is_end c (entity_in w id) then meaning w.function.entities (controls_in w.controls) (input_of c w) id else w.played id

  plays : (id : ℕ) → IsFrame (entity w.function.entities id).cluster.channels (played_then id)
  plays id = by (is_end c (entity_in w id)) refl
    where
      by : (b : Bool) → is_end c (entity_in w id) ≡ b
          → IsFrame (entity w.function.entities id).cluster.channels
          (if b then meaning w.function.entities (controls_in w.controls) (input_of c w) id else w.played id)
      by true ends =
          let output = (and_parts (is_output (entity_in w id).kind) ((entity_in w id).clock == c) ends).0 in (
            meaning_channels w.function.entities (controls_in w.controls) (input_of c w) id (no_input (entity_in w id).kind output),
            meaning_fits w.function.entities (controls_in w.controls) (input_of c w) input_fits id,
          )
      by false others = is.device.played id

  -- what a stream from the device is given
  framed : (k : ℕ) (i : InStream) → InIsSampled h.paces k i → IsFrame i.stream.channels (played_to w played_then k)
  framed k i sampled =
      let of = runs_of h is.host k i.stream sampled.runs in
      let fits : FitsInterface w.function k i.stream =
      subst (λ (f : FunctionFields). FitsInterface f k i.stream) is.function (stream_fits h.function is.host.sound of.rate k of.setting i.stream of.is) in
      let si = fits.streaming_interface in
      subst (λ (o : Option StreamInterface). IsFrame i.stream.channels (option_map_or (λ s. played_then s.terminal) o [])) (sym fits.there)
      (subst (λ (n : ℕ). IsFrame n (played_then si.terminal)) (sym fits.channels) (plays si.terminal))

  pub ticks_keeps : AreSampled h (after_tick c w)
  unfolding after_tick
  ticks_keeps = record {
    host = is.host;
    function = is.function;
    device = record {
      outs = where_keeps (OutIsSampled h.paces) w.outs is.device.outs (is_on w c) (λ k. after_taking) (taking_keeps h.paces);
      ins = where_keeps (InIsSampled h.paces) w.ins is.device.ins (is_on w c) (λ k. after_putting (played_to w played_then k))
          (λ k i q. putting_keeps h.paces k (played_to w played_then k) i (framed k i q) q);
      given = input_fits;
      played = plays;
    };
  }

  pub advance_keeps : AreSampled h (after_advance c w)
  unfolding after_advance
  advance_keeps = record {
    host = is.host;
    function = is.function;
    device = record {
      outs = where_keeps (OutIsSampled h.paces) w.outs is.device.outs (is_on w c) (λ k. after_ticks (next_ticks c w))
          (λ k o q. record { runs = q.runs; fits = q.fits });
      ins = is.device.ins;
      given = is.device.given;
      played = is.device.played;
    };
  }
