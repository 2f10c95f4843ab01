-- One stream to the device in a world, and what the turns of all interfaces make of it.
use Rattle.std.proofs.Common.{◌≡◌, ◌∙◌, sym, refl, ap, subst, ℕ, ℤ, ◌==◌, ◌&&◌, Bool, true, false, if◌then◌else◌, List, [], ◌∷◌, Option, Some, None, inl, inr}
use Rattle.std.specs.List.{find, position}
use Rattle.std.specs.Option.{option_and_then, option_map, option_map_or}
use Rattle.std.proofs.lemmas.Bool.{cases_Bool, eqb-false, eqb-true, true≢false}
use Rattle.std.proofs.lemmas.List.Quantifiers.{position-Some}
use Rattle.uac_pcm.specs.Packets.{bytes_of_frames}
use Rattle.uac_entities.specs.declared.stream.StreamInterface.{StreamInterface}
use Rattle.uac_topology.specs.Function.{FunctionFields, interface_in}
use Rattle.uac_store.specs.declared.keys.Key.{Key}
use Rattle.uac_rate.specs.Steadiness.{SteadyHistory}
use Rattle.uac_rate.specs.Steadiness as steadiness
use Rattle.uac_graph.specs.Meaning.{entity}
use Rattle.uac_flow.specs.FlowStreams.{OutStream, after_packet, feedback_of, is_due, out_after_end}
use Rattle.uac_host.specs.HostWorld.{Pace, Track}
use Rattle.uac_host.specs.HostCalls.{track_after_frames, next_frames, next_size, packet_of, pace_after_report, pace_after_packet, size_of, with_report}
use Rattle.uac_host.specs.HostCalls.{after_host_packet as host_sends}
use Rattle.uac_device.specs.InterfaceStreams.{either_due}
use Rattle.uac_device.specs.DeviceWorld.{Domain, feedback_in, is_due_in, after_receiving, after_end}
use Rattle.uac_device.specs.DeviceWorld.{after_sending_in_packet as device_sends}
use Rattle.uac_script.specs.Phrase.{PhraseMark}
use Rattle.uac_streaming.specs.Telling.{without_event}
use Rattle.uac_streaming.specs.StreamingWorld.{StreamingWorld, fetched_lines, given_at, goes_out, in_packet_turn, is_in_due, is_out_due, loses_in, loses_out, loses_feedback, out_turn, packet_fetched, packet_sent_out, stream_index, feedback_lines, feedback_made, feedback_turn, sent_out_lines, end_turn}
use Rattle.uac_levels.specs.Life.{Life, with_end, with_feedback, with_packet}
use Rattle.uac_levels.proofs.TellingTurnLemmas.{own_number}

-- ---- what stays so within a microframe

-- where the stream is: of this function, under these controls; its interface, its clock, and its index among the interfaces; and its domain
-- but for its steps
pub record Place : Type 0 where
  pub function : FunctionFields
  pub controls : List (Key × ℤ)
  pub interface : ℕ
  pub clock : ℕ
  pub index : ℕ
  pub domain : Domain

pub record IsPlace (p : Place) : Type 0 where
  pub out : goes_out p.function p.interface ≡ true
  pub on_clock : option_map (λ s. (entity p.function.entities s.terminal).clock) (interface_in p.function p.interface) ≡ Some p.clock
  pub placed : stream_index p.function p.interface ≡ Some p.index

-- the stream has this life in a world, and the host this track for it
pub record Shows (p : Place) (w : StreamingWorld) (l : Life) (t : Track) : Type 0 where
  pub function : w.device.function ≡ p.function
  pub controls : w.device.controls ≡ p.controls
  pub out : w.device.outs p.interface ≡ Some l.out
  pub pace : w.host.paces p.interface ≡ Some l.pace
  pub track : w.host.tracks p.interface ≡ t
  pub domain : find (λ d. d.id == p.clock) w.device.domains ≡ Some (record p.domain { steps = l.steps })
  pub reports : w.history.feedback p.index ≡ l.reports

pub if_true : {A : Type 0} (b : Bool) (x y : A) → b ≡ true → (if b then x else y) ≡ x
if_true true x y e = refl
if_true false x y e = absurd (true≢false (sym e))

pub if_false : {A : Type 0} (b : Bool) (x y : A) → b ≡ false → (if b then x else y) ≡ y
if_false true x y e = absurd (true≢false e)
if_false false x y e = refl

-- ---- packets to the device

-- the bytes of the packet that a pace and a track give
abbrev pub packet_at : Pace → Track → List ℕ
packet_at q t = bytes_of_frames q.stream.subslot q.stream.bits (next_frames q.stream.channels (next_size q) t)

-- the track after a packet where that is due
abbrev pub track_after : Life → Track → Track
track_after l t = if is_due l.out.stream l.out.microframes then track_after_frames (next_size l.pace) t else t

pub packet_shown : (p : Place) (w : StreamingWorld) (l : Life) (t : Track) → Shows p w l t → packet_of w.host p.interface ≡ packet_at l.pace t
unfolding packet_of
packet_shown p w l t s =
    ap (λ (o : Option Pace). option_map_or (λ q. packet_at q (w.host.tracks p.interface)) o []) s.pace ∙ ap (packet_at l.pace) s.track

module _ (p : Place) (detail : ℕ) (marks : List PhraseMark) where
  pub out_other : (n : ℕ) (w : StreamingWorld) (l : Life) (t : Track) → (p.interface == n) ≡ false → Shows p w l t
      → Shows p (out_turn detail marks n w).world l t
  unfolding out_turn packet_sent_out after_receiving host_sends
  out_other n w l t other s = by (is_out_due w n)
    where
      by : (b : Bool)
          → Shows p (if b then record { lines = sent_out_lines detail (loses_out marks n) n w; world = packet_sent_out (loses_out marks n) n w }
          else without_event w).world l t
      by true = record {
        function = s.function;
        controls = s.controls;
        out = if_false (p.interface == n) _ (w.device.outs p.interface) other ∙ s.out;
        pace = if_false (p.interface == n) _ (w.host.paces p.interface) other ∙ s.pace;
        track = if_false (p.interface == n) _ (w.host.tracks p.interface) other ∙ s.track;
        domain = s.domain;
        reports = s.reports;
      }
      by false = s

  pub out_here : IsPlace p → (w : StreamingWorld) (l : Life) (t : Track) → Shows p w l t
      → Shows p (out_turn detail marks p.interface w).world
      (with_packet (if loses_out marks p.interface then None else Some (packet_at l.pace t)) l) (track_after l t)
  unfolding out_turn packet_sent_out after_receiving host_sends is_due_in size_of
  out_here is w l t s =
      subst (λ (b : Bool). Shows p (if b then record { lines = sent_out_lines detail (loses_out marks p.interface) p.interface w; world = packet_sent_out (loses_out marks p.interface) p.interface w } else without_event w).world (with_packet packet l) (track_after l t))
      (sym due) (by (is_due l.out.stream l.out.microframes))
    where
      packet : Option (List ℕ)
      packet = if loses_out marks p.interface then None else Some (packet_at l.pace t)

      due : is_out_due w p.interface ≡ is_due l.out.stream l.out.microframes
      due =
          ap (λ (f : FunctionFields). goes_out f p.interface && either_due (w.device.outs p.interface) (w.device.ins p.interface)) s.function
          ∙ ap (λ (b : Bool). b && either_due (w.device.outs p.interface) (w.device.ins p.interface)) is.out
          ∙ ap (λ (o : Option OutStream). either_due o (w.device.ins p.interface)) s.out

      by : (b : Bool)
          → Shows p (if b then record { lines = sent_out_lines detail (loses_out marks p.interface) p.interface w; world = packet_sent_out (loses_out marks p.interface) p.interface w } else without_event w).world
          (if b then record l { out = after_packet packet l.out; pace = pace_after_packet l.pace } else l)
          (if b then track_after_frames (next_size l.pace) t else t)
      by true = record {
        function = s.function;
        controls = s.controls;
        out =
            if_true (p.interface == p.interface) _ (w.device.outs p.interface) (own_number p.interface)
            ∙ ap (option_map (after_packet (if loses_out marks p.interface then None else Some (packet_of w.host p.interface)))) s.out
            ∙ ap (λ (bytes : List ℕ). Some (after_packet (if loses_out marks p.interface then None else Some bytes) l.out)) (packet_shown p w l t s);
        pace = if_true (p.interface == p.interface) _ (w.host.paces p.interface) (own_number p.interface) ∙ ap (option_map pace_after_packet) s.pace;
        track =
            if_true (p.interface == p.interface) _ (w.host.tracks p.interface) (own_number p.interface)
            ∙ ap (λ (o : Option Pace). track_after_frames (option_map_or next_size o 0) (w.host.tracks p.interface)) s.pace
            ∙ ap (track_after_frames (next_size l.pace)) s.track;
        domain = s.domain;
        reports = s.reports;
      }
      by false = s

  -- ---- packets from it

  pub in_any : (n : ℕ) (w : StreamingWorld) (l : Life) (t : Track) → Shows p w l t → Shows p (in_packet_turn detail marks n w).world l t
  unfolding in_packet_turn packet_fetched device_sends
  in_any n w l t s = by (is_in_due w n)
    where
      by : (b : Bool)
          → Shows p (if b then record { lines = fetched_lines detail (loses_in marks n) n w; world = packet_fetched (loses_in marks n) n w }
          else without_event w).world l t
      by true = record {
        function = s.function;
        controls = s.controls;
        out = s.out;
        pace = s.pace;
        track = s.track;
        domain = s.domain;
        reports = s.reports;
      }
      by false = s

  -- ---- the ends

  pub ended_other : (n : ℕ) (w : StreamingWorld) (l : Life) (t : Track) → (p.interface == n) ≡ false → Shows p w l t
      → Shows p (end_turn detail n w).world l t
  unfolding end_turn after_end
  ended_other n w l t other s = record {
    function = s.function;
    controls = s.controls;
    out = if_false (p.interface == n) _ (w.device.outs p.interface) other ∙ s.out;
    pace = s.pace;
    track = s.track;
    domain = s.domain;
    reports = s.reports;
  }

  pub ended_here : (w : StreamingWorld) (l : Life) (t : Track) → Shows p w l t → Shows p (end_turn detail p.interface w).world (with_end l) t
  unfolding end_turn after_end
  ended_here w l t s = record {
    function = s.function;
    controls = s.controls;
    out = if_true (p.interface == p.interface) _ (w.device.outs p.interface) (own_number p.interface) ∙ ap (option_map out_after_end) s.out;
    pace = s.pace;
    track = s.track;
    domain = s.domain;
    reports = s.reports;
  }

-- ---- the reports

-- an interface has an index of its own
indices_apart : (k n i : ℕ) (ss : List StreamInterface) → position (λ s. s.number == k) ss ≡ Some i → position (λ s. s.number == n) ss ≡ Some i → k ≡ n
indices_apart k n i [] first second = absurd (cc)
indices_apart k n i (s ∷ ss) first second =
    sym (eqb-true _ k (position-Some (λ s. s.number == k) (s ∷ ss) i s first).1) ∙ eqb-true _ n (position-Some (λ s. s.number == n) (s ∷ ss) i s second).1

pub place_other : (k n i j : ℕ) (ss : List StreamInterface) → (k == n) ≡ false → position (λ s. s.number == k) ss ≡ Some i
    → position (λ s. s.number == n) ss ≡ Some j → (i == j) ≡ false
place_other k n i j ss other first second = elim (cases_Bool (i == j)) [
  | inl same ↦
      absurd (eqb-false k n other (indices_apart k n i ss first (second ∙ ap (λ (m : ℕ). Some m) (sym (eqb-true i j same)))))
  | inr differ ↦ differ
]

module _ (p : Place) (is : IsPlace p) (detail : ℕ) (marks : List PhraseMark) where
  given_other : (lost : Bool) (n : ℕ) (given : SteadyHistory) → (p.interface == n) ≡ false
      → (given_at (stream_index p.function n) (λ index. steadiness.with_report_given index lost) given).feedback p.index ≡ given.feedback p.index
  given_other lost n given other = by (stream_index p.function n) refl
    where
      by : (o : Option ℕ) → stream_index p.function n ≡ o → (given_at o (λ index. steadiness.with_report_given index lost) given).feedback p.index ≡ given.feedback p.index
      by None e = refl
      by (Some j) e = if_false (p.index == j) _ (given.feedback p.index) (place_other p.interface n p.index j p.function.streams other is.placed e)

  pub report_other : (n : ℕ) (w : StreamingWorld) (l : Life) (t : Track) → (p.interface == n) ≡ false → Shows p w l t
      → Shows p (feedback_turn detail marks n w).world l t
  unfolding feedback_turn feedback_made with_report
  report_other n w l t other s = by (feedback_in w.device n)
    where
      paced : (lost : Bool) (value : ℕ) → (if lost then w.host else with_report n value w.host).paces p.interface ≡ Some l.pace
      paced true value = s.pace
      paced false value = if_false (p.interface == n) _ (w.host.paces p.interface) other ∙ s.pace

      tracked : (lost : Bool) (value : ℕ) → (if lost then w.host else with_report n value w.host).tracks p.interface ≡ t
      tracked true value = s.track
      tracked false value = s.track

      by : (o : Option ℕ)
          → Shows p (option_map_or (λ value. record { lines = feedback_lines detail (loses_feedback marks n) value n; world = feedback_made (loses_feedback marks n) value n w })
          o (without_event w)).world l t
      by None = s
      by (Some value) = record {
        function = s.function;
        controls = s.controls;
        out = s.out;
        pace = paced (loses_feedback marks n) value;
        track = tracked (loses_feedback marks n) value;
        domain = s.domain;
        reports =
            ap (λ (f : FunctionFields). (given_at (stream_index f n) (λ index. steadiness.with_report_given index (loses_feedback marks n)) w.history).feedback p.index) s.function
            ∙ given_other (loses_feedback marks n) n w.history other ∙ s.reports;
      }

  pub report_here : (w : StreamingWorld) (l : Life) (t : Track) → Shows p w l t
      → Shows p (feedback_turn detail marks p.interface w).world (with_feedback (loses_feedback marks p.interface) l) t
  unfolding feedback_turn feedback_made with_report feedback_in
  report_here w l t s =
      subst (λ (o : Option ℕ). Shows p (option_map_or (λ value. record { lines = feedback_lines detail lost value p.interface; world = feedback_made lost value p.interface w }) o (without_event w)).world (with_feedback lost l) t)
      (sym due) (by (feedback_of l.out))
    where
      lost : Bool
      lost = loses_feedback marks p.interface

      due : feedback_in w.device p.interface ≡ feedback_of l.out
      due = ap (λ (o : Option OutStream). option_and_then feedback_of o) s.out

      paced : (lost : Bool) (value : ℕ)
          → (if lost then w.host else with_report p.interface value w.host).paces p.interface ≡ Some (if lost then l.pace else pace_after_report value l.pace)
      paced true value = s.pace
      paced false value = if_true (p.interface == p.interface) _ (w.host.paces p.interface) (own_number p.interface) ∙ ap (option_map (pace_after_report value)) s.pace

      tracked : (lost : Bool) (value : ℕ) → (if lost then w.host else with_report p.interface value w.host).tracks p.interface ≡ t
      tracked true value = s.track
      tracked false value = s.track

      by : (o : Option ℕ)
          → Shows p (option_map_or (λ value. record { lines = feedback_lines detail lost value p.interface; world = feedback_made lost value p.interface w }) o (without_event w)).world
          (option_map_or (λ value. record l { pace = if lost then l.pace else pace_after_report value l.pace; reports = steadiness.one_more lost l.reports }) o l) t
      by None = s
      by (Some value) = record {
        function = s.function;
        controls = s.controls;
        out = s.out;
        pace = paced lost value;
        track = tracked lost value;
        domain = s.domain;
        reports =
            ap (λ (f : FunctionFields). (given_at (stream_index f p.interface) (λ index. steadiness.with_report_given index lost) w.history).feedback p.index) s.function
            ∙ ap (λ (o : Option ℕ). (given_at o (λ index. steadiness.with_report_given index lost) w.history).feedback p.index) is.placed
            ∙ if_true (p.index == p.index) _ (w.history.feedback p.index) (own_number p.index)
            ∙ ap (steadiness.one_more lost) s.reports;
      }
