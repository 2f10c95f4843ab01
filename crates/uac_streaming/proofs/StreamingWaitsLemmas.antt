-- What the packets, the ends and the reports of a microframe make of streams before ticks that wait, they make of them behind these.
use Rattle.std.proofs.Common.{◌≡◌, ◌∙◌, sym, refl, ap, subst, arith, ℕ, zero, suc, ◌+◌, ◌<◌, ◌≤◌, ◌==◌, ◌&&◌, ◌||◌, not, nat_eq, Bool, true, false, cond, if◌then◌else◌, List, [], ◌∷◌, ◌++◌, filter, length, replicate, Option, Some, None, is_some}
use Rattle.std.specs.Prelude.{IfSome}
use Rattle.std.specs.List.{AllByRecursion, IsDistinct, list_all, range_with_len}
use Rattle.std.specs.Option.{option_map_or}
use Rattle.std.proofs.Math.Path.{fun_ext}
use Rattle.std.proofs.lemmas.Bool.{and_parts, eq-eqb, leb-true, ne_eqb, true≢false}
use Rattle.std.proofs.lemmas.Map.Keys.{IsDistinct-head, IsDistinct-tail}
use Rattle.uac_topology.specs.Function.{FunctionFields, interface_in}
use Rattle.uac_ring.specs.declared.arrival.Arrival.{Arrival}
use Rattle.uac_ring.specs.declared.arrival.Arrival.TheVariants as arrivals
use Rattle.uac_ring.specs.declared.counts.StreamCounts.{StreamCounts}
use Rattle.uac_flow.specs.FlowStreams.{OutStream, arrival_of, takes_all}
use Rattle.uac_flow.proofs.FlowWaitsLemmas.{packet_arrives}
use Rattle.uac_device.specs.DeviceWorld.{DeviceWorld, after_end, after_receiving, after_sending_in_packet, arrival_in, feedback_in, is_due_in}
use Rattle.uac_device.specs.DeviceTicks.{Tones}
use Rattle.uac_device.specs.DeviceWaits.{AreSteady, HaveSent, TakesAll, frames_later_in, frames_waiting, settled, takes_in, with_sent}
use Rattle.uac_device.proofs.DeviceWaitsLemmas.{arrival_settled, due_settled, end_settled, end_steady, receiving_settled, receiving_steady, same_number, sending_settled}
use Rattle.uac_device.proofs.DeviceWaitsTicksLemmas.{end_have_sent, function_settled, receiving_have_sent, sending_have_sent}
use Rattle.uac_host.specs.HostCalls.{after_host_packet, packet_of, size_of}
use Rattle.uac_script.specs.Phrase.{PhraseMark}
use Rattle.uac_transcript.specs.Transcript.{Said}
use Rattle.uac_streaming.specs.Telling.{Telling, without_event, in_turn, telling_after}
use Rattle.uac_streaming.specs.StreamingWorld.{StreamingWorld, after_arrival, all_ends, all_feedback, comes_in, counted_at, end_turn, feedback_lines, feedback_made, feedback_turn, fetched_lines, goes_out, in_packet_turn, in_packets, inward_turn, is_in_due, is_out_due, loses_feedback, numbers, numbers_in, numbers_out, out_lines, out_packets, out_turn, over_lines, packet_fetched, packet_sent_out, sent_out_lines}
use Rattle.uac_streaming.specs.StreamingWaits.{LosesNoPacket, after_reports_of, fits, one_sent_after, sent_after, sent_on, streams_settled, with_device}
use Rattle.uac_streaming.proofs.AmongLemmas.{kept_distinct}
use Rattle.uac_streaming.proofs.StreamingWorldLemmas.{in_packets_are}

-- what each of these leaves so is so after the last
each_keeps : (P : StreamingWorld → Type 0) (event : ℕ → StreamingWorld → Telling StreamingWorld)
    → ((k : ℕ) (w : StreamingWorld) → P w → P (event k w).world) → (ns : List ℕ) (w : StreamingWorld) → P w → P (in_turn event ns w).world
unfolding in_turn
each_keeps P event keeps [] w is = is
each_keeps P event keeps (k ∷ ks) w is = each_keeps P event keeps ks (event k w).world (keeps k w is)

-- where each says nothing, nothing is said
each_silent : (event : ℕ → StreamingWorld → Telling StreamingWorld) → ((k : ℕ) (w : StreamingWorld) → (event k w).lines ≡ [])
    → (ns : List ℕ) (w : StreamingWorld) → (in_turn event ns w).lines ≡ []
unfolding in_turn
each_silent event silent [] w = refl
each_silent event silent (k ∷ ks) w =
    ap (λ (ls : List Said). ls ++ (in_turn event ks (event k w).world).lines) (silent k w) ∙ each_silent event silent ks (event k w).world

-- ---- the ends

end_silent : (k : ℕ) (w : StreamingWorld) → (end_turn 0 k w).lines ≡ []
unfolding end_turn
end_silent k w = refl

ends_turn : (domain : ℕ) (tones : Tones) (n : ℕ) (sent : ℕ → ℕ) (ns : List ℕ) (w : StreamingWorld) → AreSteady domain n w.device
    → in_turn (end_turn 0) ns (streams_settled domain tones n sent w)
    ≡ without_event (streams_settled domain tones n sent (in_turn (end_turn 0) ns w).world)
unfolding in_turn end_turn
ends_turn domain tones n sent [] w steady = refl
ends_turn domain tones n sent (k ∷ ks) w steady =
    ap (λ (v : DeviceWorld). telling_after [] (in_turn (end_turn 0) ks (with_device v w))) (end_settled domain tones n sent w.device k steady)
    ∙ ap (telling_after []) (ends_turn domain tones n sent ks (end_turn 0 k w).world (end_steady domain n w.device k steady))

pub ends_wait : (domain : ℕ) (tones : Tones) (n : ℕ) (sent : ℕ → ℕ) (w : StreamingWorld) → AreSteady domain n w.device
    → all_ends 0 (streams_settled domain tones n sent w) ≡ without_event (streams_settled domain tones n sent (all_ends 0 w).world)
unfolding all_ends
ends_wait domain tones n sent w steady =
    ap (λ (f : FunctionFields). in_turn (end_turn 0) (numbers f) (streams_settled domain tones n sent w)) (function_settled domain tones n sent w.device)
    ∙ ends_turn domain tones n sent (numbers w.device.function) w steady

pub ends_silent : (w : StreamingWorld) → (all_ends 0 w).lines ≡ []
unfolding all_ends
ends_silent w = each_silent (end_turn 0) end_silent (numbers w.device.function) w

pub ends_steady : (domain n : ℕ) (w : StreamingWorld) → AreSteady domain n w.device → AreSteady domain n (all_ends 0 w).world.device
unfolding all_ends end_turn
ends_steady domain n w steady =
    each_keeps (λ (v : StreamingWorld). AreSteady domain n v.device) (end_turn 0) (λ k v. end_steady domain n v.device k) (numbers w.device.function) w steady

pub ends_have_sent : (n : ℕ) (sent : ℕ → ℕ) (w : StreamingWorld) → HaveSent n sent w.device → HaveSent n sent (all_ends 0 w).world.device
unfolding all_ends end_turn
ends_have_sent n sent w have =
    each_keeps (λ (v : StreamingWorld). HaveSent n sent v.device) (end_turn 0) (λ k v. end_have_sent n sent v.device k) (numbers w.device.function) w have

pub ends_keep : {X : Type 0} (f : DeviceWorld → X) → ((interface : ℕ) (v : DeviceWorld) → f (after_end interface v) ≡ f v) → (w : StreamingWorld)
    → f (all_ends 0 w).world.device ≡ f w.device
unfolding all_ends end_turn
ends_keep f keeps w =
    each_keeps (λ (v : StreamingWorld). f v.device ≡ f w.device) (end_turn 0) (λ k v same. keeps k v.device ∙ same) (numbers w.device.function) w refl

-- ---- the reports

none_counted : (k : ℕ) (met : ℕ → StreamCounts) → counted_at k (λ c. c) met ≡ met
none_counted k met = fun_ext (λ j. by (j == k) (met j))
  where
    by : (b : Bool) (c : StreamCounts) → (if b then c else c) ≡ c
    by true c = refl
    by false c = refl

module _ (marks : List PhraseMark) where
  -- what is told of a report, where there is one
  abbrev report_told : ℕ → StreamingWorld → Option ℕ → Telling StreamingWorld
  report_told k w o =
      let lost = loses_feedback marks k in
      option_map_or (λ value. record { lines = feedback_lines 0 lost value k; world = feedback_made lost value k w }) o (without_event w)

  report_silent : (k : ℕ) (w : StreamingWorld) → (feedback_turn 0 marks k w).lines ≡ []
  unfolding feedback_turn
  report_silent k w = by (feedback_in w.device k)
    where
      by : (o : Option ℕ) → (report_told k w o).lines ≡ []
      by None = refl
      by (Some value) = refl

  report_device : (k : ℕ) (w : StreamingWorld) → (feedback_turn 0 marks k w).world.device ≡ w.device
  unfolding feedback_turn feedback_made
  report_device k w = by (feedback_in w.device k)
    where
      by : (o : Option ℕ) → (report_told k w o).world.device ≡ w.device
      by None = refl
      by (Some value) = refl

  feedback_silent : (w : StreamingWorld) → (all_feedback 0 marks w).lines ≡ []
  unfolding all_feedback
  feedback_silent w = each_silent (feedback_turn 0 marks) report_silent (numbers w.device.function) w

  feedback_device : (w : StreamingWorld) → (all_feedback 0 marks w).world.device ≡ w.device
  unfolding all_feedback
  feedback_device w =
      each_keeps (λ (v : StreamingWorld). v.device ≡ w.device) (feedback_turn 0 marks) (λ k v same. report_device k v ∙ same) (numbers w.device.function) w refl

  pub reports_wait : (domain : ℕ) (tones : Tones) (n : ℕ) (sent : ℕ → ℕ) (w : StreamingWorld)
      → all_feedback 0 marks (streams_settled domain tones n sent w)
      ≡ without_event (streams_settled domain tones n sent (after_reports_of marks (settled domain tones n sent w.device) w))
  unfolding after_reports_of
  reports_wait domain tones n sent w =
      let d : DeviceWorld = settled domain tones n sent w.device in
      let told : Telling StreamingWorld = all_feedback 0 marks (with_device d w) in
      ap {B = Telling StreamingWorld} (λ (ls : List Said). record { lines = ls; world = told.world }) (feedback_silent (with_device d w))
      ∙ ap {B = Telling StreamingWorld} (λ (v : DeviceWorld). record { lines = []; world = with_device v told.world }) (feedback_device (with_device d w))

  pub reports_device : (d : DeviceWorld) (w : StreamingWorld) → (after_reports_of marks d w).device ≡ w.device
  unfolding after_reports_of
  reports_device d w = refl

-- ---- where no packet is lost, the packets are those of a microframe without losses

module _ (marks : List PhraseMark) (detail : ℕ) (none : LosesNoPacket marks) where
  out_turn_lossless : out_turn detail marks ≡ out_turn detail []
  unfolding out_turn
  out_turn_lossless = fun_ext (λ k. fun_ext (λ w.
      ap {B = Telling StreamingWorld} (λ (lost : Bool).
      if is_out_due w k then record { lines = sent_out_lines detail lost k w; world = packet_sent_out lost k w } else without_event w) (none.outs k)))

  pub outs_lossless : out_packets detail marks ≡ out_packets detail []
  unfolding out_packets
  outs_lossless = fun_ext (λ w. ap (λ (event : ℕ → StreamingWorld → Telling StreamingWorld). in_turn event (numbers w.device.function) w) out_turn_lossless)

  in_turn_lossless : in_packet_turn detail marks ≡ in_packet_turn detail []
  unfolding in_packet_turn
  in_turn_lossless = fun_ext (λ k. fun_ext (λ w.
      ap {B = Telling StreamingWorld} (λ (lost : Bool).
      if is_in_due w k then record { lines = fetched_lines detail lost k w; world = packet_fetched lost k w } else without_event w) (none.ins k)))

  pub ins_lossless : in_packets detail marks ≡ in_packets detail []
  unfolding in_packets
  ins_lossless = fun_ext (λ w. ap (λ (event : ℕ → StreamingWorld → Telling StreamingWorld). in_turn event (numbers w.device.function) w) in_turn_lossless)

-- ---- packets to the device

abbrev packet_at : StreamingWorld → ℕ → Option (List ℕ)
packet_at w k = Some (packet_of w.host k)

-- what is told of an interface's packet that isn't lost
abbrev out_told : ℕ → StreamingWorld → Telling StreamingWorld
out_told k w = record { lines = sent_out_lines 0 false k w; world = packet_sent_out false k w }

-- that of a packet that arrives so at a device, after which the device is another
abbrev told_of : ℕ → Arrival → DeviceWorld → StreamingWorld → Telling StreamingWorld
told_of k arrival device w =
    record {
      lines = out_lines 0 k (size_of w.host k) arrival;
      world = record w { device = device; host = after_host_packet k w.host; met = counted_at k (after_arrival arrival) w.met };
    }

-- its ring takes all of it
abbrev HasRoomAt : StreamingWorld → ℕ → Type 0
HasRoomAt w k = IfSome (w.device.outs k) (TakesAll (packet_of w.host k))

room_taken : (packet : List ℕ) (out : Option OutStream) → option_map_or (λ o. takes_all o packet) out true ≡ true → IfSome out (TakesAll packet)
room_taken packet None takes = tt
room_taken packet (Some o) takes = leb-true _ _ takes

none_over : (k : ℕ) (packet : List ℕ) (out : Option OutStream) → IfSome out (TakesAll packet)
    → over_lines k (option_map_or (arrival_of (Some packet)) out arrivals.Lost) ≡ []
none_over k packet None room = refl
none_over k packet (Some o) room = ap (over_lines k) (packet_arrives packet o room)

told_silent : (k : ℕ) (w : StreamingWorld) → HasRoomAt w k → sent_out_lines 0 false k w ≡ []
unfolding arrival_in
told_silent k w room = none_over k (packet_of w.host k) (w.device.outs k) room

told_waits : (domain : ℕ) (tones : Tones) (n : ℕ) (sent : ℕ → ℕ) (k : ℕ) (w : StreamingWorld) → AreSteady domain n w.device → HasRoomAt w k
    → out_told k (streams_settled domain tones n sent w) ≡ without_event (streams_settled domain tones n sent (packet_sent_out false k w))
unfolding packet_sent_out
told_waits domain tones n sent k w steady room =
    ap (λ (a : Arrival). told_of k a (after_receiving k (packet_at w k) (settled domain tones n sent w.device)) w)
    (arrival_settled domain tones n sent w.device k (packet_of w.host k) steady room)
    ∙ ap (λ (d : DeviceWorld). told_of k (arrival_in w.device k (packet_at w k)) d w)
    (receiving_settled domain tones n sent w.device k (packet_of w.host k) steady room)
    ∙ ap {B = Telling StreamingWorld}
    (λ (ls : List Said). record { lines = ls; world = streams_settled domain tones n sent (packet_sent_out false k w) })
    (told_silent k w room)

-- the packet of an interface that carries a stream to the device fits
abbrev FitsOut : StreamingWorld → ℕ → Type 0
FitsOut w k = goes_out w.device.function k ≡ true → fits w k ≡ true

due_room : (k : ℕ) (w : StreamingWorld) → FitsOut w k → is_out_due w k ≡ true → HasRoomAt w k
due_room k w fit is =
    let both = and_parts (goes_out w.device.function k) (is_due_in w.device k) is in
    room_taken (packet_of w.host k) (w.device.outs k)
    (sym (ap (λ (b : Bool). not b || takes_in w.device k (packet_of w.host k)) both.1) ∙ fit both.0)

out_due_settled : (domain : ℕ) (tones : Tones) (n : ℕ) (sent : ℕ → ℕ) (k : ℕ) (w : StreamingWorld)
    → is_out_due (streams_settled domain tones n sent w) k ≡ is_out_due w k
out_due_settled domain tones n sent k w =
    ap (λ (f : FunctionFields). goes_out f k && is_due_in (settled domain tones n sent w.device) k) (function_settled domain tones n sent w.device)
    ∙ ap (λ (b : Bool). goes_out w.device.function k && b) (due_settled domain tones n sent w.device k)

out_waits : (domain : ℕ) (tones : Tones) (n : ℕ) (sent : ℕ → ℕ) (k : ℕ) (w : StreamingWorld) → AreSteady domain n w.device → FitsOut w k
    → out_turn 0 [] k (streams_settled domain tones n sent w) ≡ without_event (streams_settled domain tones n sent (out_turn 0 [] k w).world)
unfolding out_turn
out_waits domain tones n sent k w steady fit =
    ap
    (λ (b : Bool). if b then out_told k (streams_settled domain tones n sent w) else without_event (streams_settled domain tones n sent w))
    (out_due_settled domain tones n sent k w)
    ∙ by (is_out_due w k) (due_room k w fit)
  where
    by : (b : Bool) → (b ≡ true → HasRoomAt w k)
        → (if b then out_told k (streams_settled domain tones n sent w) else without_event (streams_settled domain tones n sent w))
        ≡ without_event (streams_settled domain tones n sent (if b then out_told k w else without_event w).world)
    by true room = told_waits domain tones n sent k w steady (room refl)
    by false room = refl

-- what is so of the world and of what is told where an interface's packet is sent, and where none is, is so of its turn
out_by : (P : Telling StreamingWorld → Type 0) (k : ℕ) (w : StreamingWorld) → (is_out_due w k ≡ true → P (out_told k w)) → P (without_event w)
    → P (out_turn 0 [] k w)
unfolding out_turn
out_by P k w goes rests = by (is_out_due w k) goes
  where
    by : (b : Bool) → (b ≡ true → P (out_told k w)) → P (if b then out_told k w else without_event w)
    by true goes = goes refl
    by false goes = rests

out_silent : (k : ℕ) (w : StreamingWorld) → FitsOut w k → (out_turn 0 [] k w).lines ≡ []
out_silent k w fit =
    out_by (λ (told : Telling StreamingWorld). told.lines ≡ []) k w (λ due. told_silent k w (due_room k w fit due)) refl

out_steady : (domain n k : ℕ) (w : StreamingWorld) → FitsOut w k → AreSteady domain n w.device → AreSteady domain n (out_turn 0 [] k w).world.device
unfolding packet_sent_out
out_steady domain n k w fit steady =
    out_by (λ (told : Telling StreamingWorld). AreSteady domain n told.world.device) k w
    (λ due. receiving_steady domain n w.device k (packet_of w.host k) steady (due_room k w fit due)) steady

out_have_sent : (n : ℕ) (sent : ℕ → ℕ) (k : ℕ) (w : StreamingWorld) → HaveSent n sent w.device → HaveSent n sent (out_turn 0 [] k w).world.device
unfolding packet_sent_out
out_have_sent n sent k w have =
    out_by (λ (told : Telling StreamingWorld). HaveSent n sent told.world.device) k w
    (λ due. receiving_have_sent n sent w.device k (packet_of w.host k) have) have

-- what is so of one interface is so still where the packet of another was sent
module _ (F : StreamingWorld → ℕ → Type 0)
    (elsewhere : (m k : ℕ) (w : StreamingWorld) → (k == m) ≡ false → F w k → F (packet_sent_out false m w) k) where
  others_still : (m : ℕ) (ks : List ℕ) (w : StreamingWorld) → AllByRecursion (λ k. nat_eq m k ≡ false) ks → AllByRecursion (λ k. F w k) ks
      → AllByRecursion (λ k. F (packet_sent_out false m w) k) ks
  others_still m [] w apart all = tt
  others_still m (k ∷ ks) w apart all =
      (elsewhere m k w (ne_eqb k m (λ same. true≢false (sym (eq-eqb m k (sym same)) ∙ apart.0))) all.0, others_still m ks w apart.1 all.1)

  turn_still : (m : ℕ) (ks : List ℕ) (w : StreamingWorld) → AllByRecursion (λ k. nat_eq m k ≡ false) ks → AllByRecursion (λ k. F w k) ks
      → AllByRecursion (λ k. F (out_turn 0 [] m w).world k) ks
  turn_still m ks w apart all =
      out_by (λ (told : Telling StreamingWorld). AllByRecursion (λ k. F told.world k) ks) m w (λ due. others_still m ks w apart all) all

  -- and so what each packet leaves is so after the last
  outs_by : (P : StreamingWorld → Type 0) → ((k : ℕ) (w : StreamingWorld) → F w k → P w → P (out_turn 0 [] k w).world) → (ns : List ℕ) (w : StreamingWorld)
      → IsDistinct nat_eq ns → AllByRecursion (λ k. F w k) ns → P w → P (in_turn (out_turn 0 []) ns w).world
  unfolding in_turn
  outs_by P keeps [] w once all is = is
  outs_by P keeps (k ∷ ks) w once all is =
      outs_by P keeps ks (out_turn 0 [] k w).world (IsDistinct-tail nat_eq k ks once) (turn_still k ks w (IsDistinct-head nat_eq k ks once) all.1)
      (keeps k w all.0 is)

-- at another interface it fits as before
fits_elsewhere : (m k : ℕ) (w : StreamingWorld) → (k == m) ≡ false → fits (packet_sent_out false m w) k ≡ fits w k
unfolding packet_sent_out after_receiving after_host_packet packet_of is_due_in
fits_elsewhere m k w other = rw other refl

fits_still : (m k : ℕ) (w : StreamingWorld) → (k == m) ≡ false → FitsOut w k → FitsOut (packet_sent_out false m w) k
unfolding packet_sent_out after_receiving
fits_still m k w other fit out = fits_elsewhere m k w other ∙ fit out

outs_turn : (domain : ℕ) (tones : Tones) (n : ℕ) (sent : ℕ → ℕ) (ns : List ℕ) (w : StreamingWorld) → IsDistinct nat_eq ns
    → AllByRecursion (λ k. FitsOut w k) ns → AreSteady domain n w.device
    → in_turn (out_turn 0 []) ns (streams_settled domain tones n sent w)
    ≡ without_event (streams_settled domain tones n sent (in_turn (out_turn 0 []) ns w).world)
unfolding in_turn
outs_turn domain tones n sent [] w once all steady = refl
outs_turn domain tones n sent (k ∷ ks) w once all steady =
    ap (λ (told : Telling StreamingWorld). telling_after told.lines (in_turn (out_turn 0 []) ks told.world)) (out_waits domain tones n sent k w steady all.0)
    ∙ ap (telling_after [])
    (outs_turn domain tones n sent ks (out_turn 0 [] k w).world (IsDistinct-tail nat_eq k ks once)
    (turn_still FitsOut fits_still k ks w (IsDistinct-head nat_eq k ks once) all.1) (out_steady domain n k w all.0 steady))

outs_said : (ns : List ℕ) (w : StreamingWorld) → IsDistinct nat_eq ns → AllByRecursion (λ k. FitsOut w k) ns → (in_turn (out_turn 0 []) ns w).lines ≡ []
unfolding in_turn
outs_said [] w once all = refl
outs_said (k ∷ ks) w once all =
    ap (λ (ls : List Said). ls ++ (in_turn (out_turn 0 []) ks (out_turn 0 [] k w).world).lines) (out_silent k w all.0)
    ∙ outs_said ks (out_turn 0 [] k w).world (IsDistinct-tail nat_eq k ks once)
    (turn_still FitsOut fits_still k ks w (IsDistinct-head nat_eq k ks once) all.1)

-- numbers in a row differ, and so do those of interfaces
apart_before : (m from n : ℕ) → m < from → AllByRecursion (λ k. nat_eq m k ≡ false) (range_with_len from n)
apart_before m from zero less = tt
apart_before m from (suc n) less = (ne_eqb m from (λ same. absurd (omega (arith, same, less))), apart_before m (from + 1) n (omega (arith, less)))

row_differs : (from n : ℕ) → IsDistinct nat_eq (range_with_len from n)
unfolding IsDistinct
row_differs from zero = tt
row_differs from (suc n) = (apart_before from (from + 1) n (omega arith), row_differs (from + 1) n)

numbers_once : (function : FunctionFields) → IsDistinct nat_eq (numbers function)
unfolding numbers
numbers_once function = kept_distinct (λ n. is_some (interface_in function n)) (range_with_len 0 256) (row_differs 0 256)

-- what all do that pass a test, each does that passes it
each_of_kept : (test passes : ℕ → Bool) (ns : List ℕ) → list_all passes (filter test ns) ≡ true → AllByRecursion (λ k. test k ≡ true → passes k ≡ true) ns
each_of_kept test passes [] all = tt
each_of_kept test passes (k ∷ ks) all = by (test k) refl all (each_of_kept test passes ks)
  where
    by : (b : Bool) → test k ≡ b → list_all passes (cond b (k ∷ filter test ks) (filter test ks)) ≡ true
        → (list_all passes (filter test ks) ≡ true → AllByRecursion (λ j. test j ≡ true → passes j ≡ true) ks)
        → (test k ≡ true → passes k ≡ true) × AllByRecursion (λ j. test j ≡ true → passes j ≡ true) ks
    by true is all rest = let both = and_parts (passes k) (list_all passes (filter test ks)) all in (λ here. both.0, rest both.1)
    by false is all rest = (λ here. absurd (true≢false (sym here ∙ is)), rest all)

all_fit : (w : StreamingWorld) → list_all (fits w) (numbers_out w.device.function) ≡ true → AllByRecursion (λ k. FitsOut w k) (numbers w.device.function)
all_fit w fit = each_of_kept (goes_out w.device.function) (fits w) (numbers w.device.function) fit

pub outs_wait : (domain : ℕ) (tones : Tones) (n : ℕ) (sent : ℕ → ℕ) (w : StreamingWorld) → AreSteady domain n w.device
    → list_all (fits w) (numbers_out w.device.function) ≡ true
    → out_packets 0 [] (streams_settled domain tones n sent w) ≡ without_event (streams_settled domain tones n sent (out_packets 0 [] w).world)
unfolding out_packets
outs_wait domain tones n sent w steady fit =
    ap (λ (f : FunctionFields). in_turn (out_turn 0 []) (numbers f) (streams_settled domain tones n sent w)) (function_settled domain tones n sent w.device)
    ∙ outs_turn domain tones n sent (numbers w.device.function) w (numbers_once w.device.function) (all_fit w fit) steady

pub outs_silent : (domain n : ℕ) (w : StreamingWorld) → AreSteady domain n w.device → list_all (fits w) (numbers_out w.device.function) ≡ true
    → (out_packets 0 [] w).lines ≡ []
unfolding out_packets
outs_silent domain n w steady fit = outs_said (numbers w.device.function) w (numbers_once w.device.function) (all_fit w fit)

pub outs_steady : (domain n : ℕ) (w : StreamingWorld) → AreSteady domain n w.device → list_all (fits w) (numbers_out w.device.function) ≡ true
    → AreSteady domain n (out_packets 0 [] w).world.device
unfolding out_packets
outs_steady domain n w steady fit =
    outs_by FitsOut fits_still (λ (v : StreamingWorld). AreSteady domain n v.device) (λ k v. out_steady domain n k v) (numbers w.device.function) w
    (numbers_once w.device.function) (all_fit w fit) steady

pub outs_have_sent : (domain n : ℕ) (sent : ℕ → ℕ) (w : StreamingWorld) → AreSteady domain n w.device
    → list_all (fits w) (numbers_out w.device.function) ≡ true → HaveSent n sent w.device → HaveSent n sent (out_packets 0 [] w).world.device
unfolding out_packets
outs_have_sent domain n sent w steady fit have =
    each_keeps (λ (v : StreamingWorld). HaveSent n sent v.device) (out_turn 0 []) (λ k v. out_have_sent n sent k v) (numbers w.device.function) w have

pub outs_keep : {X : Type 0} (f : DeviceWorld → X)
    → ((interface : ℕ) (packet : Option (List ℕ)) (v : DeviceWorld) → f (after_receiving interface packet v) ≡ f v) → (w : StreamingWorld)
    → f (out_packets 0 [] w).world.device ≡ f w.device
unfolding out_packets packet_sent_out
outs_keep f keeps w =
    each_keeps (λ (v : StreamingWorld). f v.device ≡ f w.device) (out_turn 0 [])
    (λ k v same.
    out_by (λ (told : Telling StreamingWorld). f told.world.device ≡ f w.device) k v (λ due. keeps k (packet_at v k) v.device ∙ same) same)
    (numbers w.device.function) w refl

-- ---- packets from the device

-- what is told of an interface's packet from the device that isn't lost
abbrev in_told : ℕ → StreamingWorld → Telling StreamingWorld
in_told k w = record { lines = fetched_lines 0 false k w; world = packet_fetched false k w }

in_told_waits : (domain : ℕ) (tones : Tones) (n k : ℕ) (sent : ℕ → ℕ) (w : StreamingWorld) → AreSteady domain n w.device
    → in_told k (streams_settled domain tones n sent w)
    ≡ without_event (streams_settled domain tones n (with_sent k (frames_waiting n sent w.device k) sent) w)
unfolding packet_fetched
in_told_waits domain tones n k sent w steady =
    ap {B = Telling StreamingWorld} (λ (met : ℕ → StreamCounts). record {
      lines = [];
      world = record w { device = after_sending_in_packet k (settled domain tones n sent w.device); met = met };
    }) (none_counted k w.met)
    ∙ ap (λ (d : DeviceWorld). without_event (with_device d w)) (sending_settled domain tones n sent w.device k steady)

-- by interface, how many frames are sent after the packet of one, where that is due
abbrev sent_with : ℕ → ℕ → (ℕ → ℕ) → DeviceWorld → ℕ → ℕ
sent_with n k sent w = if is_due_in w k then with_sent k (frames_waiting n sent w k) sent else sent

-- and after those of all these
abbrev sent_with_all : ℕ → List ℕ → (ℕ → ℕ) → DeviceWorld → ℕ → ℕ
sent_with_all n [] sent w = sent
sent_with_all n (k ∷ ks) sent w = sent_with_all n ks (sent_with n k sent w) w

in_waits : (domain : ℕ) (tones : Tones) (n k : ℕ) (sent : ℕ → ℕ) (w : StreamingWorld) → AreSteady domain n w.device
    → inward_turn 0 [] k (streams_settled domain tones n sent w) ≡ without_event (streams_settled domain tones n (sent_with n k sent w.device) w)
unfolding inward_turn
in_waits domain tones n k sent w steady =
    ap
    (λ (b : Bool). if b then in_told k (streams_settled domain tones n sent w) else without_event (streams_settled domain tones n sent w))
    (due_settled domain tones n sent w.device k)
    ∙ by (is_due_in w.device k)
  where
    by : (b : Bool)
        → (if b then in_told k (streams_settled domain tones n sent w) else without_event (streams_settled domain tones n sent w))
        ≡ without_event (streams_settled domain tones n (if b then with_sent k (frames_waiting n sent w.device k) sent else sent) w)
    by true = in_told_waits domain tones n k sent w steady
    by false = refl

ins_turn : (domain : ℕ) (tones : Tones) (n : ℕ) (ns : List ℕ) (sent : ℕ → ℕ) (w : StreamingWorld) → AreSteady domain n w.device
    → in_turn (inward_turn 0 []) ns (streams_settled domain tones n sent w)
    ≡ without_event (streams_settled domain tones n (sent_with_all n ns sent w.device) w)
unfolding in_turn
ins_turn domain tones n [] sent w steady = refl
ins_turn domain tones n (k ∷ ks) sent w steady =
    ap (λ (told : Telling StreamingWorld). telling_after told.lines (in_turn (inward_turn 0 []) ks told.world)) (in_waits domain tones n k sent w steady)
    ∙ ap (telling_after []) (ins_turn domain tones n ks (sent_with n k sent w.device) w steady)

-- at another interface as many are sent as before
other_sent : (n k j : ℕ) (sent : ℕ → ℕ) (w : DeviceWorld) → (j == k) ≡ false → sent_with n k sent w j ≡ sent j
other_sent n k j sent w other = by (is_due_in w k)
  where
    by : (due : Bool) → (if due then with_sent k (frames_waiting n sent w k) sent else sent) j ≡ sent j
    by true = ap (λ (here : Bool). if here then sent j + frames_waiting n sent w k else sent j) other
    by false = refl

others_sent : (n j : ℕ) (ns : List ℕ) (sent : ℕ → ℕ) (w : DeviceWorld) → AllByRecursion (λ k. nat_eq j k ≡ false) ns → sent_with_all n ns sent w j ≡ sent j
others_sent n j [] sent w apart = refl
others_sent n j (k ∷ ks) sent w apart = others_sent n j ks (sent_with n k sent w) w apart.1 ∙ other_sent n k j sent w apart.0

-- and at its own those of the packet more
own_sent : (n k m : ℕ) (sent : ℕ → ℕ) (w : DeviceWorld) → sent k ≡ m → sent_with n k sent w k ≡ one_sent_after k n m w
own_sent n k m sent w is = by (is_due_in w k)
  where
    by : (due : Bool) → (if due then with_sent k (frames_waiting n sent w k) sent else sent) k ≡ (if due then m + frames_later_in w k n m else m)
    by true =
        ap (λ (here : Bool). if here then sent k + frames_waiting n sent w k else sent k) (eq-eqb k k refl)
        ∙ ap (λ (x : ℕ). x + frames_later_in w k n x) is
    by false = is

-- so after the packets of all these interfaces, the numbers by interface are those of the list
all_sent : (n j : ℕ) (ns ms : List ℕ) (sent : ℕ → ℕ) (w : DeviceWorld) → IsDistinct nat_eq ns → length ns ≤ length ms → sent j ≡ sent_on ns ms j
    → sent_with_all n ns sent w j ≡ sent_on ns (sent_after ns n ms w) j
unfolding sent_on sent_after
all_sent n j [] ms sent w once long is = is
all_sent n j (k ∷ ks) [] sent w once long is = absurd (omega (arith, long))
all_sent n j (k ∷ ks) (m ∷ ms) sent w once long is =
    by (j == k) refl is (all_sent n j ks ms (sent_with n k sent w) w (IsDistinct-tail nat_eq k ks once) (omega (arith, long)))
  where
    by : (here : Bool) → (j == k) ≡ here → sent j ≡ (if here then m else sent_on ks ms j)
        → (sent_with n k sent w j ≡ sent_on ks ms j → sent_with_all n ks (sent_with n k sent w) w j ≡ sent_on ks (sent_after ks n ms w) j)
        → sent_with_all n ks (sent_with n k sent w) w j ≡ (if here then one_sent_after k n m w else sent_on ks (sent_after ks n ms w) j)
    by true here own others =
        let same : j ≡ k = same_number j k here in
        subst (λ (i : ℕ). sent_with_all n ks (sent_with n k sent w) w i ≡ one_sent_after k n m w) (sym same)
        (others_sent n k ks (sent_with n k sent w) w (IsDistinct-head nat_eq k ks once) ∙ own_sent n k m sent w (ap sent (sym same) ∙ own))
    by false other rest others = others (other_sent n k j sent w other ∙ rest)

pub ins_once : (function : FunctionFields) → IsDistinct nat_eq (numbers_in function)
ins_once function = kept_distinct (comes_in function) (numbers function) (numbers_once function)

sent_of_ins : (n : ℕ) (sent : List ℕ) (w : DeviceWorld) → length (numbers_in w.function) ≤ length sent
    → sent_with_all n (numbers_in w.function) (sent_on (numbers_in w.function) sent) w
    ≡ sent_on (numbers_in w.function) (sent_after (numbers_in w.function) n sent w)
sent_of_ins n sent w long =
    fun_ext (λ j. all_sent n j (numbers_in w.function) sent (sent_on (numbers_in w.function) sent) w (ins_once w.function) long refl)

pub ins_wait : (domain : ℕ) (tones : Tones) (n : ℕ) (sent : List ℕ) (w : StreamingWorld) → AreSteady domain n w.device
    → length (numbers_in w.device.function) ≤ length sent
    → in_packets 0 [] (streams_settled domain tones n (sent_on (numbers_in w.device.function) sent) w)
    ≡ without_event
    (streams_settled domain tones n (sent_on (numbers_in w.device.function) (sent_after (numbers_in w.device.function) n sent w.device)) w)
ins_wait domain tones n sent w steady long =
    let ns : List ℕ = numbers_in w.device.function in
    sym (in_packets_are 0 [] (streams_settled domain tones n (sent_on ns sent) w) ns
    (sym (ap numbers_in (function_settled domain tones n (sent_on ns sent) w.device))))
    ∙ ins_turn domain tones n ns (sent_on ns sent) w steady
    ∙ ap (λ (by_interface : ℕ → ℕ). without_event (streams_settled domain tones n by_interface w)) (sent_of_ins n sent w.device long)

with_have_sent : (n k : ℕ) (sent : ℕ → ℕ) (w : DeviceWorld) → HaveSent n sent w → HaveSent n (sent_with n k sent w) w
with_have_sent n k sent w have = by (is_due_in w k)
  where
    by : (due : Bool) → HaveSent n (if due then with_sent k (frames_waiting n sent w k) sent else sent) w
    by true = sending_have_sent n sent w k have
    by false = have

all_have_sent : (n : ℕ) (ns : List ℕ) (sent : ℕ → ℕ) (w : DeviceWorld) → HaveSent n sent w → HaveSent n (sent_with_all n ns sent w) w
all_have_sent n [] sent w have = have
all_have_sent n (k ∷ ks) sent w have = all_have_sent n ks (sent_with n k sent w) w (with_have_sent n k sent w have)

pub ins_have_sent : (n : ℕ) (sent : List ℕ) (w : DeviceWorld) → length (numbers_in w.function) ≤ length sent
    → HaveSent n (sent_on (numbers_in w.function) sent) w
    → HaveSent n (sent_on (numbers_in w.function) (sent_after (numbers_in w.function) n sent w)) w
ins_have_sent n sent w long have =
    subst (λ (by_interface : ℕ → ℕ). HaveSent n by_interface w) (sent_of_ins n sent w long)
    (all_have_sent n (numbers_in w.function) (sent_on (numbers_in w.function) sent) w have)

-- ---- the numbers of a list

-- of no interface was any frame sent
abbrev pub none_of : ℕ → ℕ
none_of k = 0

none_sent_at : (ns : List ℕ) (m k : ℕ) → sent_on ns (replicate m 0) k ≡ none_of k
unfolding sent_on
none_sent_at [] m k = refl
none_sent_at (n ∷ ns) zero k = refl
none_sent_at (n ∷ ns) (suc m) k = by (k == n) (none_sent_at ns m k)
  where
    by : (here : Bool) → sent_on ns (replicate m 0) k ≡ 0 → (if here then 0 else sent_on ns (replicate m 0) k) ≡ 0
    by true rest = refl
    by false rest = rest

pub none_sent_on : (ns : List ℕ) (m : ℕ) → sent_on ns (replicate m 0) ≡ none_of
none_sent_on ns m = fun_ext (λ k. none_sent_at ns m k)

pub sent_length : (ns : List ℕ) (n : ℕ) (sent : List ℕ) (w : DeviceWorld) → length ns ≤ length sent → length (sent_after ns n sent w) ≡ length sent
unfolding sent_after
sent_length [] n sent w long = refl
sent_length (k ∷ ks) n [] w long = refl
sent_length (k ∷ ks) n (m ∷ ms) w long = ap suc (sent_length ks n ms w (omega (arith, long)))
