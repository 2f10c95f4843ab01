-- For which worlds a host stands after a call.
use Rattle.std.proofs.Common.{◌≡◌, ◌≢◌, ℕ, zero, suc, ◌+◌, ◌-◌, ◌≤◌, ◌*◌, ◌/◌, ◌%◌, ◌==◌, Bool, true, false, if◌then◌else◌, ℤ, List, [], ◌∷◌, ◌++◌, length, take, drop, set, get_or, map, position, Option, Some, None, Result, Ok, Err, IfSome, OnOk, refl, sym, ap, subst, ◌∙◌, arith, inl, inr, eq-eqb, ne_eqb}
use Rattle.std.specs.List.{All, find}
use Rattle.std.specs.Option.{option_map, option_map_or}
use Rattle.std.specs.Simd.{first_chunks}
use Rattle.std.proofs.lemmas.Bool.{cases_eq}
use Rattle.std.proofs.Math.Nat.{div-add-mod, div-mul-le_self, mul_comm, suc-mul}
use Rattle.std.proofs.lemmas.Grind.{flat_map-append}
use Rattle.std.proofs.lemmas.List.{length-drop, length-take-le, take-append-drop}
use Rattle.std.proofs.lemmas.List.Elements.{All-append}
use Rattle.uac_pcm.specs.Packets.{bytes_of_frames, frames_of_bytes}
use Rattle.uac_pcm.specs.declared.tones.Tone.{Tone}
use Rattle.uac_entities.specs.declared.stream.StreamInterface.{StreamInterface}
use Rattle.uac_topology.specs.Function.{FunctionFields, interface_in}
use Rattle.uac_topology.specs.FunctionKept.{AreInRange}
use Rattle.uac_topology.specs.Topology.{IsSoundFunction}
use Rattle.uac_alt.specs.AltStreams.{StreamFields, stream_fields, stream_of}
use Rattle.uac_alt.specs.declared.values.Stream.{Stream}
use Rattle.uac_host.specs.declared.host_streams.HostStream.{HostStream}
use Rattle.uac_host.specs.HostWorld.{HostWorld, Pace, Track, fresh_host}
use Rattle.uac_host.specs.HostFields.{IsRunnable, PaceFields, TrackFields}
use Rattle.uac_host.specs.HostCalls.{AreWhole, IsStreamOf, track_after_frames, after_host_packet, at_interface, channels_at, heard_in, in_frames, next_frames, next_size, packet_of, pace_after_report, pace_after_packet, size_of, fresh_pace, with_report, with_samples, with_stream, with_track_tone}
use Rattle.uac_host.specs.HostKept.{IsKeptStream, HostStands, kept_stream, kept_pace, kept_report, kept_track, stream_on, resting_stream}
use Rattle.uac_host.proofs.HostCallsLemmas.{after_frames_none}
use Rattle.uac_host.proofs.HostCallsStreamLemmas.{carried_by, channels_of, runnable}
use Rattle.uac_host.proofs.HostKeptLemmas.{even_after, flat, host_stream_found, host_stream_missing, host_stream_written, eq_of, remainder_kept, size_kept}

-- what a map has where it was changed, and elsewhere
pub here : {A : Type 0} (interface : ℕ) (x : A) (before : ℕ → A) → at_interface interface x before interface ≡ x
here interface x before = ap (λ (b : Bool). if b then x else before interface) (eq-eqb interface interface refl)

pub elsewhere : {A : Type 0} (interface : ℕ) (x : A) (before : ℕ → A) (k : ℕ) → k ≢ interface → at_interface interface x before k ≡ before k
elsewhere interface x before k other = ap (λ (b : Bool). if b then x else before k) (ne_eqb k interface other)

-- one interface has changed
pub record Turned (interface : ℕ) (w after : HostWorld) : Type 0 where
  pub function : after.function ≡ w.function
  pub paces : (k : ℕ) → k ≢ interface → after.paces k ≡ w.paces k
  pub tracks : (k : ℕ) → k ≢ interface → after.tracks k ≡ w.tracks k
  pub whole : All (λ frame. length frame ≡ channels_at w.function interface) (after.tracks interface).waiting
  pub streams : (p : Pace) → after.paces interface ≡ Some p → IsStreamOf w.function interface p.stream

-- what a host stream is by its parts
pub host_stream_is : (l : HostStream) (interface : ℕ) (pace : Option PaceFields) (track : TrackFields) → l.interface ≡ interface → l.pace ≡ pace → l.track ≡ track
    → l ≡ record { interface = interface; pace = pace; track = track }
host_stream_is l interface pace track a b c =
    ap (λ (n : ℕ). let m : HostStream = record { interface = n; pace = l.pace; track = l.track } in m) a
    ∙ ap (λ (p : Option PaceFields). let m : HostStream = record { interface = interface; pace = p; track = l.track } in m) b
    ∙ ap (λ (t : TrackFields). let m : HostStream = record { interface = interface; pace = pace; track = t } in m) c

pub host_stream_to : (l : HostStream) (w : HostWorld) (interface : ℕ) → l.interface ≡ interface → l.pace ≡ option_map kept_pace (w.paces interface)
    → l.track ≡ kept_track (w.tracks interface) → l ≡ kept_stream w interface
host_stream_to l w interface a b c = host_stream_is l interface (option_map kept_pace (w.paces interface)) (kept_track (w.tracks interface)) a b c

-- the index of an interface's host stream
abbrev pub host_stream_index : ℕ → List HostStream → Option ℕ
host_stream_index interface host_streams = position (λ (l : HostStream). l.interface == interface) host_streams

some_same : {A : Type 0} (x y : A) → Some x ≡ Some y → x ≡ y
some_same x y e = cc

mapped_some : {A B : Type 0} (x y z : B) (o : Option A) → Some x ≡ option_map (λ s. y) o → Some z ≡ option_map (λ s. z) o
mapped_some x y z None e = cc
mapped_some x y z (Some s) e = refl

mapped_is : {A B : Type 0} (x y : B) (o : Option A) → Some x ≡ option_map (λ s. y) o → x ≡ y
mapped_is x y None e = cc
mapped_is x y (Some s) e = some_same x y e

-- the host stream at the index of an interface
pub host_stream_kept : (host : List HostStream) (w : HostWorld) (interface index : ℕ) (d : HostStream) → HostStands host w → position (λ l. l.interface == interface) host ≡ Some index
    → get_or host index d ≡ kept_stream w interface
host_stream_kept host w interface index d stands is =
    mapped_is (get_or host index d) (kept_stream w interface) (interface_in w.function interface)
    (sym (host_stream_found host interface index d is).0 ∙ stands.host_streams interface)

pub is_kept : (host : List HostStream) (w : HostWorld) (interface index : ℕ) (d l : HostStream) → HostStands host w → position (λ l. l.interface == interface) host ≡ Some index
    → l ≡ get_or host index d → IsKeptStream w l × (l.interface ≡ interface)
is_kept host w interface index d l stands is read =
    let host_stream : l ≡ kept_stream w interface = read ∙ host_stream_kept host w interface index d stands is in
    let own : l.interface ≡ interface = ap (λ (m : HostStream). m.interface) host_stream in (
      record {
        host_stream = subst (λ (n : ℕ). l ≡ kept_stream w n) (sym own) host_stream;
        whole = subst (λ (n : ℕ). All (λ frame. length frame ≡ channels_at w.function n) (w.tracks n).waiting) (sym own) (stands.whole interface);
        streams = subst (λ (n : ℕ). (p : Pace) → w.paces n ≡ Some p → IsStreamOf w.function n p.stream) (sym own) (stands.streams interface);
      },
      own,
    )

-- other interfaces stay
others : (host new : List HostStream) (w after : HostWorld) (interface : ℕ) → HostStands host w → Turned interface w after
    → ((k : ℕ) → k ≢ interface → stream_on new k ≡ stream_on host k)
    → stream_on new interface ≡ option_map (λ s. kept_stream after interface) (interface_in w.function interface)
    → HostStands new after
others host new w after interface stands turned stay own = record { host_streams = host_streams; whole = whole; streams = streams } where
  same_host_stream : (k : ℕ) → k ≢ interface → kept_stream after k ≡ kept_stream w k
  same_host_stream k other =
      host_stream_is (kept_stream after k) k (option_map kept_pace (w.paces k)) (kept_track (w.tracks k)) refl (ap (option_map kept_pace) (turned.paces k other)) (ap kept_track (turned.tracks k other))

  host_streams : (k : ℕ) → stream_on new k ≡ option_map (λ s. kept_stream after k) (interface_in after.function k)
  host_streams k = elim (cases_eq k interface) [
    | inl same ↦
        ap (stream_on new) same ∙ own
        ∙ ap (λ (n : ℕ). option_map (λ s. kept_stream after n) (interface_in w.function n)) (sym same)
        ∙ ap (λ (f : FunctionFields). option_map (λ s. kept_stream after k) (interface_in f k)) (sym turned.function)
    | inr other ↦
        stay k other ∙ stands.host_streams k
        ∙ ap (λ (l : HostStream). option_map (λ s. l) (interface_in w.function k)) (sym (same_host_stream k other))
        ∙ ap (λ (f : FunctionFields). option_map (λ s. kept_stream after k) (interface_in f k)) (sym turned.function)
  ]

  whole : (k : ℕ) → All (λ frame. length frame ≡ channels_at after.function k) (after.tracks k).waiting
  whole k = subst (λ (f : FunctionFields). All (λ frame. length frame ≡ channels_at f k) (after.tracks k).waiting) (sym turned.function)
      (elim (cases_eq k interface) [
        | inl same ↦ subst (λ (n : ℕ). All (λ frame. length frame ≡ channels_at w.function n) (after.tracks n).waiting) (sym same) turned.whole
        | inr other ↦ subst (λ (t : Track). All (λ frame. length frame ≡ channels_at w.function k) t.waiting) (sym (turned.tracks k other)) (stands.whole k)
      ])

  streams : (k : ℕ) (p : Pace) → after.paces k ≡ Some p → IsStreamOf after.function k p.stream
  streams k p runs = subst (λ (f : FunctionFields). IsStreamOf f k p.stream) (sym turned.function)
      (elim (cases_eq k interface) [
        | inl same ↦ subst (λ (n : ℕ). IsStreamOf w.function n p.stream) (sym same) (turned.streams p (ap after.paces (sym same) ∙ runs))
        | inr other ↦ stands.streams k p (sym (turned.paces k other) ∙ runs)
      ])

-- the interface's host stream was written
pub stands_written : (host : List HostStream) (w after : HostWorld) (interface index : ℕ) (l d : HostStream) → HostStands host w → Turned interface w after
    → position (λ l. l.interface == interface) host ≡ Some index → l.interface ≡ interface → l.pace ≡ option_map kept_pace (after.paces interface)
    → l.track ≡ kept_track (after.tracks interface) → HostStands (set host index l) after
stands_written host w after interface index l d stands turned is own pace track =
    others host (set host index l) w after interface stands turned stay mine where
      host_stream : l ≡ kept_stream after interface
      host_stream = host_stream_is l interface (option_map kept_pace (after.paces interface)) (kept_track (after.tracks interface)) own pace track

      stay : (k : ℕ) → k ≢ interface → stream_on (set host index l) k ≡ stream_on host k
      stay k other = host_stream_written host interface index l d is own k ∙ ap (λ (b : Bool). if b then Some l else stream_on host k) (ne_eqb k interface other)

      mine : stream_on (set host index l) interface ≡ option_map (λ s. kept_stream after interface) (interface_in w.function interface)
      mine =
          host_stream_written host interface index l d is own interface
          ∙ ap (λ (b : Bool). if b then Some l else stream_on host interface) (eq-eqb interface interface refl)
          ∙ ap (λ (m : HostStream). Some m) host_stream
          ∙ mapped_some (get_or host index d) (kept_stream w interface) (kept_stream after interface) (interface_in w.function interface)
          (sym (host_stream_found host interface index d is).0 ∙ stands.host_streams interface)

nowhere : {A B : Type 0} (x y : B) (o : Option A) → None ≡ option_map (λ s. x) o → None ≡ option_map (λ s. y) o
nowhere x y None e = refl
nowhere x y (Some s) e = cc

-- the interface has no host stream
pub stands_missing : (host : List HostStream) (w after : HostWorld) (interface : ℕ) → HostStands host w → Turned interface w after
    → position (λ l. l.interface == interface) host ≡ None → HostStands host after
stands_missing host w after interface stands turned is =
    let none : stream_on host interface ≡ None = host_stream_missing host interface is in
    others host host w after interface stands turned (λ k other. refl)
    (none ∙ nowhere (kept_stream w interface) (kept_stream after interface) (interface_in w.function interface) (sym none ∙ stands.host_streams interface))

-- ---- the calls, each at its interface

mapped : {A B : Type 0} (f : A → B) (o : Option A) (y : B) → option_map f o ≡ Some y → (x : A) × (o ≡ Some x) × (f x ≡ y)
mapped f None y e = absurd cc
mapped f (Some x) y e = (x, refl, some_same (f x) y e)

pub report_turns : (host : List HostStream) (w : HostWorld) (interface value : ℕ) → HostStands host w → Turned interface w (with_report interface value w)
unfolding with_report
report_turns host w interface value stands = record {
  function = refl;
  paces = λ k other. elsewhere interface (option_map (pace_after_report value) (w.paces interface)) w.paces k other;
  tracks = λ k other. refl;
  whole = stands.whole interface;
  streams = λ p runs.
      (let found = mapped (pace_after_report value) (w.paces interface) p (sym (here interface (option_map (pace_after_report value) (w.paces interface)) w.paces) ∙ runs) in
      subst (λ (s : StreamFields). IsStreamOf w.function interface s) (ap (λ (q : Pace). q.stream) found.2) (stands.streams interface found.0 found.1));
}

pub tone_turns : (host : List HostStream) (w : HostWorld) (interface : ℕ) (tone : Tone) → HostStands host w → Turned interface w (with_track_tone interface tone w)
unfolding with_track_tone
tone_turns host w interface tone stands =
    let t : Track = record (w.tracks interface) { tone = tone; place = 0 } in
    record {
      function = refl;
      paces = λ k other. refl;
      tracks = λ k other. elsewhere interface t w.tracks k other;
      whole = subst (λ (t : Track). All (λ frame. length frame ≡ channels_at w.function interface) t.waiting) (sym (here interface t w.tracks)) (stands.whole interface);
      streams = stands.streams interface;
    }

pub stream_turns : (host : List HostStream) (w : HostWorld) (interface : ℕ) (stream : Option StreamFields) → HostStands host w
    → ((s : StreamFields) → stream ≡ Some s → IsStreamOf w.function interface s) → Turned interface w (with_stream interface stream w)
unfolding with_stream
stream_turns host w interface stream stands of = record {
  function = refl;
  paces = λ k other. elsewhere interface (option_map fresh_pace stream) w.paces k other;
  tracks = λ k other. refl;
  whole = stands.whole interface;
  streams = λ p runs.
      (let found = mapped fresh_pace stream p (sym (here interface (option_map fresh_pace stream) w.paces) ∙ runs) in
      subst (λ (s : StreamFields). IsStreamOf w.function interface s) (ap (λ (q : Pace). q.stream) found.2) (of found.0 found.1));
}

-- samples in frames of so many
even_chunks : (channels n : ℕ) (samples : List ℤ) → n * channels ≤ length samples → All (λ frame. length frame ≡ channels) (first_chunks channels n samples)
even_chunks channels zero samples long k d below = absurd (omega arith)
even_chunks channels (suc n) samples long zero d below =
    let step : suc n * channels ≡ n * channels + channels = suc-mul n channels in
    length-take-le channels samples (omega arith)
even_chunks channels (suc n) samples long (suc k) d below =
    let step : suc n * channels ≡ n * channels + channels = suc-mul n channels in
    let rest : length (drop channels samples) ≡ length samples - channels = length-drop channels samples in
    even_chunks channels n (drop channels samples) (omega arith) k d (omega arith)

joined_chunks : (channels n : ℕ) (samples : List ℤ) → length samples ≡ n * channels → flat (first_chunks channels n samples) ≡ samples
joined_chunks channels zero [] long = refl
joined_chunks channels zero (s ∷ samples) long = absurd (omega arith)
joined_chunks channels (suc n) samples long =
    let step : suc n * channels ≡ n * channels + channels = suc-mul n channels in
    let rest : length (drop channels samples) ≡ length samples - channels = length-drop channels samples in
    ap (λ (xs : List ℤ). take channels samples ++ xs) (joined_chunks channels n (drop channels samples) (omega arith)) ∙ take-append-drop channels samples

whole_chunks : (channels : ℕ) (samples : List ℤ) → length samples % channels ≡ 0 → length samples ≡ length samples / channels * channels
whole_chunks channels samples whole =
    let parts : channels * (length samples / channels) + length samples % channels ≡ length samples = div-add-mod (length samples) channels in
    let turned : channels * (length samples / channels) ≡ length samples / channels * channels = mul_comm channels (length samples / channels) in
    from_parts (length samples) (length samples / channels * channels) (length samples % channels) (channels * (length samples / channels)) parts whole turned where
      from_parts : (n q r m : ℕ) → m + r ≡ n → r ≡ 0 → m ≡ q → n ≡ q
      from_parts n q r m parts whole turned = omega arith

pub samples_turn : (host : List HostStream) (w : HostWorld) (interface : ℕ) (samples : List ℤ) → HostStands host w → Turned interface w (with_samples interface samples w)
unfolding with_samples
samples_turn host w interface samples stands =
    let channels : ℕ = channels_at w.function interface in
    let t : Track = record (w.tracks interface) { waiting = (w.tracks interface).waiting ++ in_frames channels samples } in
    let even = even_chunks channels (length samples / channels) samples (div-mul-le_self (length samples) channels) in
    record {
      function = refl;
      paces = λ k other. refl;
      tracks = λ k other. elsewhere interface t w.tracks k other;
      whole = subst (λ (t : Track). All (λ frame. length frame ≡ channels_at w.function interface) t.waiting) (sym (here interface t w.tracks))
          (All-append (λ frame. length frame ≡ channels) (w.tracks interface).waiting (in_frames channels samples) (stands.whole interface) even);
      streams = stands.streams interface;
    }

pub samples_kept : (w : HostWorld) (interface : ℕ) (samples : List ℤ) → AreWhole w.function interface samples
    → kept_track ((with_samples interface samples w).tracks interface) ≡ record (kept_track (w.tracks interface)) { samples = (kept_track (w.tracks interface)).samples ++ samples }
unfolding with_samples
samples_kept w interface samples whole =
    let channels : ℕ = channels_at w.function interface in
    let t : Track = w.tracks interface in
    let frames : List (List ℤ) = in_frames channels samples in
    let joined : flat frames ≡ samples = joined_chunks channels (length samples / channels) samples (whole_chunks channels samples whole) in
    let more : Track = record t { waiting = t.waiting ++ frames } in
    ap kept_track (here interface more w.tracks)
    ∙ ap (λ (xs : List ℤ). let k : TrackFields = record { samples = xs; tone = t.tone; place = t.place % 4294967296 } in k)
    (flat_map-append (λ frame. frame) t.waiting frames ∙ ap (λ (xs : List ℤ). flat t.waiting ++ xs) joined)

pub packet_turns : (host : List HostStream) (w : HostWorld) (interface : ℕ) → HostStands host w → Turned interface w (after_host_packet interface w)
unfolding after_host_packet
packet_turns host w interface stands = record {
  function = refl;
  paces = λ k other. elsewhere interface (option_map pace_after_packet (w.paces interface)) w.paces k other;
  tracks = λ k other. elsewhere interface (track_after_frames (size_of w interface) (w.tracks interface)) w.tracks k other;
  whole = subst (λ (t : Track). All (λ frame. length frame ≡ channels_at w.function interface) t.waiting) (sym (here interface (track_after_frames (size_of w interface) (w.tracks interface)) w.tracks))
      (even_after (channels_at w.function interface) (size_of w interface) (w.tracks interface) (stands.whole interface));
  streams = λ p runs.
      (let found = mapped pace_after_packet (w.paces interface) p (sym (here interface (option_map pace_after_packet (w.paces interface)) w.paces) ∙ runs) in
      subst (λ (s : StreamFields). IsStreamOf w.function interface s) (ap (λ (q : Pace). q.stream) found.2) (stands.streams interface found.0 found.1));
}

-- ---- what a host stream does

unmapped : {A B : Type 0} (f : A → B) (o : Option A) → option_map f o ≡ None → o ≡ None
unmapped f None e = refl
unmapped f (Some x) e = cc

-- the stream that a host stream runs
pub runs_in : (w : HostWorld) (l : HostStream) (fields : PaceFields) → IsKeptStream w l → l.pace ≡ Some fields → (p : Pace) × (w.paces l.interface ≡ Some p) × (kept_pace p ≡ fields)
runs_in w l fields kept runs = mapped kept_pace (w.paces l.interface) fields (sym (ap (λ (m : HostStream). m.pace) kept.host_stream) ∙ runs)

pub rests_in : (w : HostWorld) (l : HostStream) → IsKeptStream w l → l.pace ≡ None → w.paces l.interface ≡ None
rests_in w l kept rests = unmapped kept_pace (w.paces l.interface) (sym (ap (λ (m : HostStream). m.pace) kept.host_stream) ∙ rests)

-- where no stream runs, no packet is formed
pub unsent : (w : HostWorld) (interface : ℕ) → w.paces interface ≡ None
    → (0 ≡ size_of w interface) × ([] ≡ packet_of w interface) × (kept_stream w interface ≡ kept_stream (after_host_packet interface w) interface)
unfolding size_of packet_of after_host_packet
unsent w interface none =
    let size : 0 ≡ option_map_or next_size (w.paces interface) 0 = sym (ap (λ (o : Option Pace). option_map_or next_size o 0) none) in
    let track : w.tracks interface ≡ track_after_frames (option_map_or next_size (w.paces interface) 0) (w.tracks interface) =
    sym (after_frames_none (w.tracks interface)) ∙ ap (λ (n : ℕ). track_after_frames n (w.tracks interface)) size in
    let pace : w.paces interface ≡ option_map pace_after_packet (w.paces interface) = none ∙ sym (ap (option_map pace_after_packet) none) in (
      size,
      sym (ap (λ (o : Option Pace). option_map_or (λ p. bytes_of_frames p.stream.subslot p.stream.bits (next_frames p.stream.channels (next_size p) (w.tracks interface))) o []) none),
      host_stream_to (kept_stream w interface) (after_host_packet interface w) interface refl (ap (option_map kept_pace) (pace ∙ sym (here interface (option_map pace_after_packet (w.paces interface)) w.paces)))
          (ap kept_track (track ∙ sym (here interface (track_after_frames (option_map_or next_size (w.paces interface) 0) (w.tracks interface)) w.tracks))),
    )

pub host_stream_sends : (w : HostWorld) (l : HostStream) (fields next : PaceFields) (channels subslot bits frames : ℕ) (track : TrackFields) (bytes : List ℕ)
    → IsKeptStream w l → l.pace ≡ Some fields
    → frames ≡ (fields.remainder + fields.stream.service * fields.value) / 65536
    → next ≡ record fields { remainder = (fields.remainder + fields.stream.service * fields.value) % 65536 }
    → channels ≡ next.stream.channels → subslot ≡ next.stream.subslot → bits ≡ next.stream.bits
    → ((t : Track) → All (λ frame. length frame ≡ channels) t.waiting → l.track ≡ kept_track t
    → (bytes ≡ bytes_of_frames subslot bits (next_frames channels frames t)) × (track ≡ kept_track (track_after_frames frames t)))
    → (frames ≡ size_of w l.interface) × (bytes ≡ packet_of w l.interface)
    × (record { interface = l.interface; pace = Some next; track = track } ≡ kept_stream (after_host_packet l.interface w) l.interface)
unfolding size_of packet_of after_host_packet
host_stream_sends w l fields next channels subslot bits frames track bytes kept runs framed nexted as_channels as_subslot as_bits filled =
    let i : ℕ = l.interface in
    let t : Track = w.tracks i in
    let found = runs_in w l fields kept runs in
    let p : Pace = found.0 in
    let size : frames ≡ next_size p =
    framed ∙ ap (λ (f : PaceFields). (f.remainder + f.stream.service * f.value) / 65536) (sym found.2) ∙ size_kept p in
    let stream : next.stream ≡ p.stream = ap (λ (f : PaceFields). f.stream) nexted ∙ ap (λ (f : PaceFields). f.stream) (sym found.2) in
    let same_channels : channels ≡ p.stream.channels = as_channels ∙ ap (λ (s : StreamFields). s.channels) stream in
    let same_subslot : subslot ≡ p.stream.subslot = as_subslot ∙ ap (λ (s : StreamFields). s.subslot) stream in
    let same_bits : bits ≡ p.stream.bits = as_bits ∙ ap (λ (s : StreamFields). s.bits) stream in
    let linked : channels ≡ channels_at w.function i = same_channels ∙ channels_of w.function i p.stream (kept.streams p found.1) in
    let even : All (λ frame. length frame ≡ channels) t.waiting =
    subst (λ (n : ℕ). All (λ frame. length frame ≡ n) t.waiting) (sym linked) kept.whole in
    let both = filled t even (ap (λ (m : HostStream). m.track) kept.host_stream) in
    let whole_size : option_map_or next_size (w.paces i) 0 ≡ next_size p = ap (λ (o : Option Pace). option_map_or next_size o 0) found.1 in
    let packet : bytes ≡ bytes_of_frames p.stream.subslot p.stream.bits (next_frames p.stream.channels (next_size p) t) =
    both.0
    ∙ ap (λ (n : ℕ). bytes_of_frames subslot bits (next_frames n frames t)) same_channels
    ∙ ap (λ (n : ℕ). bytes_of_frames subslot bits (next_frames p.stream.channels n t)) size
    ∙ ap (λ (n : ℕ). bytes_of_frames n bits (next_frames p.stream.channels (next_size p) t)) same_subslot
    ∙ ap (λ (n : ℕ). bytes_of_frames p.stream.subslot n (next_frames p.stream.channels (next_size p) t)) same_bits in
    let kept_next : next ≡ kept_pace (pace_after_packet p) =
    nexted
    ∙ ap (λ (f : PaceFields). let k : PaceFields = record { stream = f.stream; remainder = (f.remainder + f.stream.service * f.value) % 65536; value = f.value } in k) (sym found.2)
    ∙ ap (λ (n : ℕ). let k : PaceFields = record { stream = p.stream; remainder = n; value = p.value } in k) (remainder_kept p) in (
      size ∙ sym whole_size,
      packet
          ∙ sym (ap (λ (o : Option Pace). option_map_or (λ q. bytes_of_frames q.stream.subslot q.stream.bits (next_frames q.stream.channels (next_size q) t)) o []) found.1),
      host_stream_to (record { interface = i; pace = Some next; track = track }) (after_host_packet i w) i refl
          (ap (λ (f : PaceFields). Some f) kept_next ∙ sym (ap (option_map kept_pace) (here i (option_map pace_after_packet (w.paces i)) w.paces ∙ ap (option_map pace_after_packet) found.1)))
          (both.1 ∙ ap (λ (n : ℕ). kept_track (track_after_frames n t)) (size ∙ sym whole_size)
          ∙ sym (ap kept_track (here i (track_after_frames (option_map_or next_size (w.paces i) 0) t) w.tracks))),
    )

-- what is heard where a stream runs, and where none does
pub heard_running : (w : HostWorld) (l : HostStream) (fields : PaceFields) (channels subslot bits : ℕ) (bytes : List ℕ) → IsKeptStream w l → l.pace ≡ Some fields
    → channels ≡ fields.stream.channels → subslot ≡ fields.stream.subslot → bits ≡ fields.stream.bits
    → heard_in w l.interface bytes ≡ frames_of_bytes channels subslot bits bytes
unfolding heard_in
heard_running w l fields channels subslot bits bytes kept runs as_channels as_subslot as_bits =
    let found = runs_in w l fields kept runs in
    ap (λ (o : Option Pace). option_map_or (λ p. frames_of_bytes p.stream.channels p.stream.subslot p.stream.bits bytes) o []) found.1
    ∙ ap (λ (f : PaceFields). frames_of_bytes f.stream.channels f.stream.subslot f.stream.bits bytes) found.2
    ∙ ap (λ (n : ℕ). frames_of_bytes n fields.stream.subslot fields.stream.bits bytes) (sym as_channels)
    ∙ ap (λ (n : ℕ). frames_of_bytes channels n fields.stream.bits bytes) (sym as_subslot)
    ∙ ap (λ (n : ℕ). frames_of_bytes channels subslot n bytes) (sym as_bits)

pub heard_nothing : (w : HostWorld) (interface : ℕ) (bytes : List ℕ) → w.paces interface ≡ None → heard_in w interface bytes ≡ []
unfolding heard_in
heard_nothing w interface bytes none = ap (λ (o : Option Pace). option_map_or (λ p. frames_of_bytes p.stream.channels p.stream.subslot p.stream.bits bytes) o []) none

some_none : {A B : Type 0} (x : A) → Some x ≡ None → B
some_none x e = absurd cc

-- an interface without a host stream runs no stream
pub no_stream : (inside now : List HostStream) (w : HostWorld) (interface : ℕ) → inside ≡ now → HostStands now w → None ≡ host_stream_index interface inside → w.paces interface ≡ None
no_stream inside now w interface same stands is = by (w.paces interface) refl where
  by : (o : Option Pace) → w.paces interface ≡ o → o ≡ None
  by None e = refl
  by (Some p) e =
      let carried = carried_by w.function interface p.stream (stands.streams interface p e) in
      let there : stream_on now interface ≡ Some (kept_stream w interface) =
      stands.host_streams interface ∙ ap (λ (o : Option StreamInterface). option_map (λ s. kept_stream w interface) o) carried.1 in
      let none : stream_on now interface ≡ None = host_stream_missing now interface (sym (is ∙ ap (host_stream_index interface) same)) in
      some_none (kept_stream w interface) (sym there ∙ none)

-- ---- the start

picked : (b : Bool) (x y : HostStream) (s : StreamInterface) (o : Option HostStream) (r : Option StreamInterface) → (b ≡ true → x ≡ y) → o ≡ option_map (λ t. y) r
    → (if b then Some x else o) ≡ option_map (λ t. y) (if b then Some s else r)
picked true x y s o r same rest = ap (λ (l : HostStream). Some l) (same refl)
picked false x y s o r same rest = rest

resting_found : (streams : List StreamInterface) (k : ℕ) → stream_on (map (λ s. resting_stream s.number) streams) k ≡ option_map (λ s. resting_stream k) (find (λ s. s.number == k) streams)
resting_found [] k = refl
resting_found (s ∷ streams) k =
    picked (s.number == k) (resting_stream s.number) (resting_stream k) s (stream_on (map (λ s. resting_stream s.number) streams) k) (find (λ s. s.number == k) streams)
    (λ same. ap resting_stream (eq_of s.number k same)) (resting_found streams k)

pub stands_fresh : (function : FunctionFields) (host : List HostStream) → host ≡ map (λ s. resting_stream s.number) function.streams → HostStands host (fresh_host function)
unfolding fresh_host
stands_fresh function host is = record {
  host_streams = λ k. ap (λ (ls : List HostStream). stream_on ls k) is ∙ resting_found function.streams k;
  whole = λ k i d below. absurd (omega arith);
  streams = λ k p runs. absurd (none_some p runs);
} where
  none_some : (p : Pace) → None ≡ Some p → ⊥
  none_some p e = cc

-- ---- a host stream that was read, and written back

pub kept_at : (now inside : List HostStream) (w : HostWorld) (interface index : ℕ) (old : HostStream) → inside ≡ now → HostStands now w
    → Some index ≡ host_stream_index interface inside → old ≡ get_or inside index old → IsKeptStream w old × (old.interface ≡ interface)
kept_at now inside w interface index old same stands is read =
    is_kept inside w interface index old old (subst (λ (ls : List HostStream). HostStands ls w) (sym same) stands) (sym is) read

pub put_back : (now inside : List HostStream) (w after : HostWorld) (interface index : ℕ) (old new : HostStream) → inside ≡ now → HostStands now w → Turned interface w after
    → Some index ≡ host_stream_index interface inside → new ≡ kept_stream after interface → HostStands (set inside index new) after
put_back now inside w after interface index old new same stands turned is kept =
    stands_written inside w after interface index new old (subst (λ (ls : List HostStream). HostStands ls w) (sym same) stands) turned (sym is)
    (ap (λ (l : HostStream). l.interface) kept) (ap (λ (l : HostStream). l.pace) kept) (ap (λ (l : HostStream). l.track) kept)

pub left_alone : (now inside : List HostStream) (w after : HostWorld) (interface : ℕ) → inside ≡ now → HostStands now w → Turned interface w after
    → None ≡ host_stream_index interface inside → HostStands now after
left_alone now inside w after interface same stands turned is =
    stands_missing now w after interface stands turned (sym (is ∙ ap (host_stream_index interface) same))

-- the host stream of an interface by the world
own_host_stream : (w : HostWorld) (interface : ℕ) (l : HostStream) → IsKeptStream w l → l.interface ≡ interface → l ≡ kept_stream w interface
own_host_stream w interface l kept own = subst (λ (n : ℕ). l ≡ kept_stream w n) own kept.host_stream

held_alike : (value : ℕ) (o : Option Pace) → option_map (kept_report value) (option_map kept_pace o) ≡ option_map kept_pace (option_map (pace_after_report value) o)
held_alike value None = refl
held_alike value (Some p) = refl

pub report_kept : (w : HostWorld) (interface value : ℕ) (old new : HostStream) → IsKeptStream w old → old.interface ≡ interface
    → new ≡ record old { pace = option_map (kept_report value) old.pace } → new ≡ kept_stream (with_report interface value w) interface
unfolding with_report
report_kept w interface value old new kept own is =
    let host_stream = own_host_stream w interface old kept own in
    host_stream_to new (with_report interface value w) interface
    (ap (λ (l : HostStream). l.interface) is ∙ own)
    (ap (λ (l : HostStream). l.pace) is
    ∙ ap (λ (l : HostStream). option_map (kept_report value) l.pace) host_stream
    ∙ held_alike value (w.paces interface)
    ∙ sym (ap (option_map kept_pace) (here interface (option_map (pace_after_report value) (w.paces interface)) w.paces)))
    (ap (λ (l : HostStream). l.track) is ∙ ap (λ (l : HostStream). l.track) host_stream)

pub host_stream_with_tone : (w : HostWorld) (interface : ℕ) (tone : Tone) (old : HostStream) (track : TrackFields) → IsKeptStream w old → old.interface ≡ interface
    → track ≡ record old.track { tone = tone; place = 0 }
    → record { interface = old.interface; pace = old.pace; track = track } ≡ kept_stream (with_track_tone interface tone w) interface
unfolding with_track_tone
host_stream_with_tone w interface tone old track kept own is =
    let host_stream = own_host_stream w interface old kept own in
    let t : Track = record (w.tracks interface) { tone = tone; place = 0 } in
    host_stream_to (record { interface = old.interface; pace = old.pace; track = track }) (with_track_tone interface tone w) interface own (ap (λ (l : HostStream). l.pace) host_stream)
    (is
    ∙ ap (λ (l : HostStream). let k : TrackFields = record l.track { tone = tone; place = 0 } in k) host_stream
    ∙ sym (ap kept_track (here interface t w.tracks)))

pub host_stream_with_samples : (w : HostWorld) (interface : ℕ) (samples : List ℤ) (old : HostStream) (track : TrackFields) → AreWhole w.function interface samples
    → IsKeptStream w old → old.interface ≡ interface → track ≡ record old.track { samples = old.track.samples ++ samples }
    → record { interface = old.interface; pace = old.pace; track = track } ≡ kept_stream (with_samples interface samples w) interface
unfolding with_samples
host_stream_with_samples w interface samples old track whole kept own is =
    let host_stream = own_host_stream w interface old kept own in
    host_stream_to (record { interface = old.interface; pace = old.pace; track = track }) (with_samples interface samples w) interface own (ap (λ (l : HostStream). l.pace) host_stream)
    (is
    ∙ ap (λ (l : HostStream). let k : TrackFields = record l.track { samples = l.track.samples ++ samples } in k) host_stream
    ∙ sym (samples_kept w interface samples whole))

started_alike : (o : Option Stream) → option_map (λ s. kept_pace (fresh_pace (stream_fields s))) o ≡ option_map kept_pace (option_map fresh_pace (option_map stream_fields o))
started_alike None = refl
started_alike (Some s) = refl

pub host_stream_with_stream : (w : HostWorld) (interface : ℕ) (stream : Option Stream) (old new : HostStream) → IsKeptStream w old → old.interface ≡ interface
    → new ≡ record old { pace = option_map (λ s. kept_pace (fresh_pace (stream_fields s))) stream } → new ≡ kept_stream (with_stream interface (option_map stream_fields stream) w) interface
unfolding with_stream
host_stream_with_stream w interface stream old new kept own is =
    let host_stream = own_host_stream w interface old kept own in
    host_stream_to new (with_stream interface (option_map stream_fields stream) w) interface
    (ap (λ (l : HostStream). l.interface) is ∙ own)
    (ap (λ (l : HostStream). l.pace) is ∙ started_alike stream ∙ sym (ap (option_map kept_pace) (here interface (option_map fresh_pace (option_map stream_fields stream)) w.paces)))
    (ap (λ (l : HostStream). l.track) is ∙ ap (λ (l : HostStream). l.track) host_stream)

pub given_of : (function : FunctionFields) (interface : ℕ) (stream : Option Stream) → IfSome stream (λ s. IsStreamOf function interface (stream_fields s))
    → (s : StreamFields) → option_map stream_fields stream ≡ Some s → IsStreamOf function interface s
given_of function interface None given s e = absurd cc
given_of function interface (Some x) given s e = subst (IsStreamOf function interface) (some_same (stream_fields x) s e) given

pub each_runnable : ((function : FunctionFields) → IsSoundFunction function → AreInRange function.streams) → (interface : ℕ) (stream : Option Stream)
    → IfSome stream (λ s. (function : FunctionFields) × IsSoundFunction function × IsStreamOf function interface (stream_fields s)) → IfSome stream (λ s. IsRunnable (stream_fields s))
each_runnable ranged interface None given = given
each_runnable ranged interface (Some s) given = runnable given.0 interface (stream_fields s) (ranged given.0 given.1) given.2

pub append_stands : {T E : Type 0} (r : Result T E) (now inside : List HostStream) (w : HostWorld) (interface index : ℕ) (samples : List ℤ) (old : HostStream) (track : TrackFields)
    → inside ≡ now → HostStands now w → AreWhole w.function interface samples → Some index ≡ host_stream_index interface inside → old ≡ get_or inside index old
    → OnOk r (track ≡ record old.track { samples = old.track.samples ++ samples })
    → OnOk r (HostStands (set inside index (record { interface = old.interface; pace = old.pace; track = track })) (with_samples interface samples w))
append_stands (Err e) now inside w interface index samples old track same stands whole is read appended = appended
append_stands (Ok x) now inside w interface index samples old track same stands whole is read appended =
    let own = kept_at now inside w interface index old same stands is read in
    let new : HostStream = record { interface = old.interface; pace = old.pace; track = track } in
    put_back now inside w (with_samples interface samples w) interface index old new same stands (samples_turn now w interface samples stands) is
    (host_stream_with_samples w interface samples old track whole own.0 own.1 appended)

-- what `stream` answers for a sound function can be started
pub stream_given : (function : FunctionFields) (rate interface setting : ℕ) (stream : Option Stream) → IsSoundFunction function
    → option_map stream_fields stream ≡ stream_of function rate interface setting
    → IfSome stream (λ s. (function : FunctionFields) × IsSoundFunction function × IsStreamOf function interface (stream_fields s))
stream_given function rate interface setting None sound is = tt
stream_given function rate interface setting (Some s) sound is = (function, sound, record { rate = rate; setting = setting; is = sym is })
