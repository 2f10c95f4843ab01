-- No line of a microframe tells of a ring that was full: by the packets to the device, and by the ticks of all domains.
use Rattle.std.proofs.Common.{arith, ◌≡◌, ◌≢◌, ◌∙◌, sym, refl, ap, subst, ℕ, zero, suc, ◌+◌, ◌≤◌, ◌<◌, ◌==◌, ◌&&◌, nat_eq, Bool, true, false, if◌then◌else◌, List, [], ◌∷◌, Option, Some, None, inl, inr}
use Rattle.std.specs.List.{All, AllByRecursion, IsDistinct}
use Rattle.std.specs.Option.{option_map_or}
use Rattle.std.proofs.Math.Bool.{and-false}
use Rattle.std.proofs.lemmas.Bool.{eqb-false, true≢false}
use Rattle.std.proofs.lemmas.List.Elements.{All-append, All-cons, All-nil}
use Rattle.std.proofs.lemmas.Map.Keys.{IsDistinct-head, IsDistinct-tail}
use Rattle.uac_clock.specs.Ticks.{ticks_in}
use Rattle.uac_topology.specs.Function.{FunctionFields}
use Rattle.uac_flow.specs.FlowStreams.{InStream, OutStream, arrival_of, is_due, is_full}
use Rattle.uac_ring.specs.declared.arrival.Arrival.{Arrival}
use Rattle.uac_ring.specs.declared.arrival.Arrival.TheVariants as arrivals
use Rattle.uac_host.specs.HostWorld.{Track}
use Rattle.uac_device.specs.InterfaceStreams.{either_due}
use Rattle.uac_device.specs.DeviceWorld.{DeviceWorld, Domain, after_advance, arrival_in, is_due_in, is_on, next_ticks, after_receiving}
use Rattle.uac_script.specs.Phrase.{PhraseMark}
use Rattle.uac_transcript.specs.Transcript.{Said, says_over, says_under}
use Rattle.uac_streaming.specs.Telling.{without_event}
use Rattle.uac_streaming.specs.StreamingWorld.{StreamingWorld, all_ends, finds_empty, finds_full, goes_out, is_out_due, loses_out, numbers, out_packets, out_turn, over_lines, packet_sent_out, packet_to, sent_out_lines}
use Rattle.uac_running.specs.RunningWorld.{RunningWorld, streaming_of}
use Rattle.uac_running.specs.Events.{after_all_jacks, domain_microframe, domain_microframes, tick, tick_times}
use Rattle.uac_levels.specs.Life.{Life}
use Rattle.uac_levels.specs.BandRun.{RunInBand, StreamInBand}
use Rattle.uac_streaming.proofs.AmongLemmas.{Among, among_cases, apart_from}
use Rattle.uac_levels.proofs.TellingTurnLemmas.{numbers_differ, other_number}
use Rattle.uac_levels.proofs.LifeTurnLemmas.{IsPlace, Place, Shows, if_false, out_other, packet_at, packet_shown}
use Rattle.uac_levels.proofs.ProjectionLifeLemmas.{opened, place_in}
use Rattle.uac_levels.proofs.BandsLemmas.{never_over_full}
use Rattle.uac_levels.proofs.BandRunLemmas.{steadily}
use Rattle.uac_levels.proofs.RunningWorldLineLemmas.{IsQuiet, domains_say, each_says, ends_say, numbered, out_turn_says, tick_says, ticks_say, turns_once_say}
use Rattle.uac_levels.proofs.RecordingRestLemmas.{SendsNoneNow, advanced_sends_none, domain_sends_none, given_sends_none, tick_sends_none}
use Rattle.uac_levels.proofs.RecordingStreamLemmas.{IsSpot, Rings, Spot, advanced_other, advanced_own, domain_elsewhere, domain_own, given_rings, has_room_left, on_clock_only, so_many, steps_on, tick_other, tick_own}

module _ (k : ℕ) where
  -- it isn't said that the ring of this interface was full
  abbrev pub NotOver : Said → Type 0
  NotOver said = said ≢ says_over k

  pub quiet : IsQuiet NotOver
  quiet = record {
    microframe = λ number same. cc;
    out = λ interface frames arrival same. cc;
    in_ = λ interface frames lost same. cc;
    frame = λ interface samples same. cc;
    played = λ terminal samples same. cc;
    feedback = λ interface value lost same. cc;
  }

  -- ---- packets to the device

  -- of another interface's packet
  other_overs : (n : ℕ) (arrival : Arrival) → (k == n) ≡ false → All NotOver (over_lines n arrival)
  other_overs n arrivals.Taken other = All-nil NotOver
  other_overs n arrivals.Lost other = All-nil NotOver
  other_overs n arrivals.Over other =
      All-cons NotOver (says_over n) [] (λ same. eqb-false k n other (let number : n ≡ k = cc in sym number)) (All-nil NotOver)

  -- and of its own, which has room
  own_overs : (arrival : Arrival) → (arrival ≡ arrivals.Over → ⊥) → All NotOver (over_lines k arrival)
  own_overs arrivals.Taken room = All-nil NotOver
  own_overs arrivals.Lost room = All-nil NotOver
  own_overs arrivals.Over room = absurd (room refl)

  other_packets : (detail : ℕ) (marks : List PhraseMark) (n : ℕ) (w : StreamingWorld) → (k == n) ≡ false
      → All NotOver (out_turn detail marks n w).lines
  other_packets detail marks n w other =
      out_turn_says NotOver quiet detail marks n w
      (λ due. other_overs n (arrival_in w.device n (packet_to (loses_out marks n) n w)) other)

  -- ---- where it runs no stream to the device

  no_arrival : (w : DeviceWorld) (packet : Option (List ℕ)) → w.outs k ≡ None → arrival_in w k packet ≡ arrivals.Over → ⊥
  unfolding arrival_in
  no_arrival w packet none over =
      let lost : arrivals.Lost ≡ arrivals.Over = sym (ap (λ (o : Option OutStream). option_map_or (arrival_of packet) o arrivals.Lost) none) ∙ over in cc

  out_none : (detail : ℕ) (marks : List PhraseMark) (n : ℕ) (w : StreamingWorld) → (k == n) ≡ false → w.device.outs k ≡ None
      → (out_turn detail marks n w).world.device.outs k ≡ None
  unfolding out_turn packet_sent_out after_receiving
  out_none detail marks n w other none = by (is_out_due w n)
    where
      by : (b : Bool)
          → (if b then record { lines = sent_out_lines detail (loses_out marks n) n w; world = packet_sent_out (loses_out marks n) n w }
          else without_event w).world.device.outs k ≡ None
      by true = if_false (k == n) _ (w.device.outs k) other ∙ none
      by false = none

  outs_none : (detail : ℕ) (marks : List PhraseMark) (w : StreamingWorld) → w.device.outs k ≡ None → All NotOver (out_packets detail marks w).lines
  unfolding out_packets
  outs_none detail marks w none =
      turns_once_say NotOver (out_turn detail marks) k (λ n v other. other_packets detail marks n v other) (λ v. v.device.outs k ≡ None)
      (λ n v other rests. out_none detail marks n v other rests)
      (λ v rests. out_turn_says NotOver quiet detail marks k v
      (λ due. own_overs (arrival_in v.device k (packet_to (loses_out marks k) k v))
      (no_arrival v.device (packet_to (loses_out marks k) k v) rests)))
      (numbers w.device.function) w (numbers_differ w.device.function) none

  -- ---- ticks

  -- where it isn't its ring
  tick_not : (c : ℕ) (r : RunningWorld) → finds_full c (after_all_jacks c r) k ≡ false → All NotOver (tick c r).lines
  tick_not c r fails =
      tick_says NotOver quiet c r (each_says NotOver says_under (finds_empty c (after_all_jacks c r)) (λ n passes same. cc))
      (each_says NotOver says_over (finds_full c (after_all_jacks c r)) (λ n passes same.
      (let number : n ≡ k = cc in true≢false (sym passes ∙ ap (finds_full c (after_all_jacks c r)) number ∙ fails))))

  -- and its levels are no such lines
  pub ends_not : (detail : ℕ) (w : StreamingWorld) → All NotOver (all_ends detail w).lines
  ends_not = ends_say NotOver quiet (λ interface level target same. cc)

  -- ---- where it runs no stream from the device

  none_tick : (c : ℕ) (r : RunningWorld) → SendsNoneNow k r → All NotOver (tick c r).lines
  none_tick c r none =
      let w : DeviceWorld = after_all_jacks c r in
      tick_not c r
      (ap (λ (i : Option InStream). is_on w c k && option_map_or is_full i false) (given_sends_none k c r none) ∙ and-false (is_on w c k))

  none_domain : (c : ℕ) (r : RunningWorld) → SendsNoneNow k r → All NotOver (domain_microframe c r).lines
  unfolding domain_microframe
  none_domain c r none =
      ticks_say NotOver quiet (SendsNoneNow k) c (none_tick c) (tick_sends_none k c) (next_ticks c r.device)
      (record r { device = after_advance c r.device }) (advanced_sends_none k c r none)

  pub none_domains : (clocks : List ℕ) (r : RunningWorld) → SendsNoneNow k r → All NotOver (domain_microframes clocks r).lines
  none_domains clocks r none = domains_say NotOver quiet (SendsNoneNow k) none_domain (domain_sends_none k) clocks r none

-- ---- where it runs one to it

module _ (p : Place) (is : IsPlace p) (detail : ℕ) (marks : List PhraseMark) (l : Life) (t : Track) where
  abbrev packet : Option (List ℕ)
  packet = if loses_out marks p.interface then None else Some (packet_at l.pace t)

  due_here : (w : StreamingWorld) → Shows p w l t → is_out_due w p.interface ≡ is_due l.out.stream l.out.microframes
  unfolding is_due_in
  due_here w s =
      ap (λ (f : FunctionFields). goes_out f p.interface && either_due (w.device.outs p.interface) (w.device.ins p.interface)) s.function
      ∙ ap (λ (b : Bool). b && either_due (w.device.outs p.interface) (w.device.ins p.interface)) is.out
      ∙ ap (λ (o : Option OutStream). either_due o (w.device.ins p.interface)) s.out

  arrives : (w : StreamingWorld) → Shows p w l t
      → arrival_in w.device p.interface (packet_to (loses_out marks p.interface) p.interface w) ≡ arrival_of packet l.out
  unfolding arrival_in
  arrives w s =
      ap (λ (o : Option OutStream). option_map_or (arrival_of (packet_to (loses_out marks p.interface) p.interface w)) o arrivals.Lost) s.out
      ∙ ap (λ (bytes : List ℕ). arrival_of (if loses_out marks p.interface then None else Some bytes) l.out) (packet_shown p w l t s)

  outs_room : (is_due l.out.stream l.out.microframes ≡ true → arrival_of packet l.out ≡ arrivals.Over → ⊥) → (w : StreamingWorld) → Shows p w l t
      → All (NotOver p.interface) (out_packets detail marks w).lines
  unfolding out_packets
  outs_room room w s =
      turns_once_say (NotOver p.interface) (out_turn detail marks) p.interface (λ n v other. other_packets p.interface detail marks n v other)
      (λ v. Shows p v l t) (λ n v other there. out_other p detail marks n v l t other there)
      (λ v there. out_turn_says (NotOver p.interface) (quiet p.interface) detail marks p.interface v
      (λ due. own_overs p.interface (arrival_in v.device p.interface (packet_to (loses_out marks p.interface) p.interface v))
      (λ over. room (sym (due_here v there) ∙ due) (sym (arrives v there) ∙ over))))
      (numbers w.device.function) w (numbers_differ w.device.function) s

stream_room : (marks : List PhraseMark) (r : RunningWorld) (k : ℕ) (l : Life) (d : Domain) → StreamInBand r k l d
    → All (NotOver k) (out_packets r.detail marks (streaming_of (numbered r))).lines
stream_room marks r k l d stream = opened r k l d stream.runs (λ clock index steps is s.
    (let p : Place = place_in r k d clock index in
    let t : Track = r.host.tracks k in
    outs_room p is r.detail marks l t
    (λ due over. never_over_full l (packet_to (loses_out marks k) k (streaming_of r)) _ stream.band (steadily marks r k l d stream) due
    (ap (λ (bytes : List ℕ). arrival_of (if loses_out marks k then None else Some bytes) l.out) (packet_shown p (streaming_of r) l t s) ∙ over))
    (streaming_of (numbered r)) s))

-- no packet to the device is without room
pub outs_have_room : (marks : List PhraseMark) (r : RunningWorld) → RunInBand r → (k : ℕ)
    → All (NotOver k) (out_packets r.detail marks (streaming_of (numbered r))).lines
outs_have_room marks r band k = by (r.device.outs k) refl
  where
    by : (o : Option OutStream) → r.device.outs k ≡ o → All (NotOver k) (out_packets r.detail marks (streaming_of (numbered r))).lines
    by None none = outs_none k r.detail marks (streaming_of (numbered r)) none
    by (Some o) there =
        let stream = band.streams k o there in
        stream_room marks r k stream.0 stream.1 stream.3

-- ---- where it runs one from it

module _ (p : Spot) (spot : IsSpot p) (after : ℕ) where
  abbrev Not : Said → Type 0
  Not = NotOver p.interface

  other_tick : (few : ℕ) (steps : List ℕ) (c : ℕ) (r : RunningWorld) → (p.clock == c) ≡ false → Rings p after few steps r.device
      → All Not (tick c r).lines
  other_tick few steps c r other s =
      let w : DeviceWorld = after_all_jacks c r in
      let there = given_rings p spot after few steps c r s in
      tick_not p.interface c r
      (ap (λ (b : Bool). b && option_map_or is_full (w.ins p.interface) false) (on_clock_only p spot w c there.function ∙ other))

  own_tick : (few : ℕ) (steps : List ℕ) (r : RunningWorld) → few < 2048 → Rings p after few steps r.device → All Not (tick p.clock r).lines
  own_tick few steps r room s =
      let w : DeviceWorld = after_all_jacks p.clock r in
      let there = given_rings p spot after few steps p.clock r s in
      tick_not p.interface p.clock r
      (ap (λ (i : Option InStream). is_on w p.clock p.interface && option_map_or is_full i false) there.in_
      ∙ ap (λ (b : Bool). is_on w p.clock p.interface && b) (has_room_left p.stream after few there.ring room there.is)
      ∙ and-false (is_on w p.clock p.interface))

  own_ticks : (few : ℕ) (steps : List ℕ) (count : ℕ) (r : RunningWorld) → few + count ≤ 2048 → Rings p after few steps r.device
      → All Not (tick_times count p.clock r).lines
  unfolding tick_times
  own_ticks few steps zero r room s = All-nil Not
  own_ticks few steps (suc count) r room s =
      All-append Not (tick p.clock r).lines (tick_times count p.clock (tick p.clock r).world).lines
      (own_tick few steps r (one few count room) s)
      (own_ticks (suc few) steps count (tick p.clock r).world (rest few count room) (tick_own p spot after few steps r s))
    where
      one : (a b : ℕ) → a + suc b ≤ 2048 → a < 2048
      one a b h = omega arith

      rest : (a b : ℕ) → a + suc b ≤ 2048 → suc a + b ≤ 2048
      rest a b h = omega arith

  other_domain : (few : ℕ) (steps : List ℕ) (c : ℕ) (r : RunningWorld) → (p.clock == c) ≡ false → Rings p after few steps r.device
      → All Not (domain_microframe c r).lines
  unfolding domain_microframe
  other_domain few steps c r other s =
      ticks_say Not (quiet p.interface) (λ v. Rings p after few steps v.device) c (λ v there. other_tick few steps c v other there)
      (λ v there. tick_other p spot after few steps c v other there) (next_ticks c r.device) (record r { device = after_advance c r.device })
      (advanced_other p spot after few steps c r.device other s)

  module _ (few : ℕ) (steps : List ℕ) (room : few + ticks_in (steps_on p steps) ≤ 2048) where
    own_domain : (r : RunningWorld) → Rings p after few steps r.device → All Not (domain_microframe p.clock r).lines
    unfolding domain_microframe
    own_domain r s =
        own_ticks few (steps_on p steps) (next_ticks p.clock r.device) (record r { device = after_advance p.clock r.device })
        (subst (λ (n : ℕ). few + n ≤ 2048) (sym (so_many p spot after few steps r.device s)) room) (advanced_own p spot after few steps r.device s)

    apart_domains : (least : ℕ) (all : List ℕ) (clocks : List ℕ) (r : RunningWorld) → AllByRecursion (λ c. nat_eq p.clock c ≡ false) clocks
        → Rings p after least all r.device → All Not (domain_microframes clocks r).lines
    unfolding domain_microframes
    apart_domains least all [] r apart s = All-nil Not
    apart_domains least all (c ∷ cs) r apart s =
        All-append Not (domain_microframe c r).lines (domain_microframes cs (domain_microframe c r).world).lines
        (other_domain least all c r apart.0 s)
        (apart_domains least all cs (domain_microframe c r).world apart.1 (domain_elsewhere p spot after least all c r apart.0 s))

    -- no tick finds the ring full
    pub ticks_have_room : (clocks : List ℕ) (r : RunningWorld) → IsDistinct nat_eq clocks → Among p.clock clocks → Rings p after few steps r.device
        → All Not (domain_microframes clocks r).lines
    unfolding domain_microframes
    ticks_have_room [] r once there s = All-nil Not
    ticks_have_room (c ∷ cs) r once there s = elim (among_cases p.clock c cs there) [
      | inl same ↦
          All-append Not (domain_microframe c r).lines (domain_microframes cs (domain_microframe c r).world).lines
          (subst (λ (m : ℕ). All Not (domain_microframe m r).lines) (sym same) (own_domain r s))
          (apart_domains (few + ticks_in (steps_on p steps)) (steps_on p steps) cs (domain_microframe c r).world
          (subst (λ (m : ℕ). AllByRecursion (λ y. nat_eq m y ≡ false) cs) same (IsDistinct-head nat_eq c cs once))
          (subst (λ (m : ℕ). Rings p after (few + ticks_in (steps_on p steps)) (steps_on p steps) (domain_microframe m r).world.device)
          (sym same) (domain_own p spot after few steps r s)))
      | inr later ↦
          (let other = other_number c p.clock (apart_from c p.clock cs (IsDistinct-head nat_eq c cs once) later) in
          All-append Not (domain_microframe c r).lines (domain_microframes cs (domain_microframe c r).world).lines
          (other_domain few steps c r other s)
          (ticks_have_room cs (domain_microframe c r).world (IsDistinct-tail nat_eq c cs once) later (domain_elsewhere p spot after few steps c r other s)))
    ]
