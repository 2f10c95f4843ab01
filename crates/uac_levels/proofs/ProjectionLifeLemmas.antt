-- What a microframe makes of one stream to the device.
use Rattle.std.proofs.Common.{◌≡◌, ◌∙◌, sym, refl, ap, subst, ℕ, ◌+◌, ◌<◌, ◌==◌, Bool, true, false, if◌then◌else◌, nat_eq, List, [], ◌∷◌, ◌++◌, Option, Some, None}
use Rattle.std.specs.List.{All, IsDistinct, find}
use Rattle.std.specs.Option.{option_and_then, option_map, option_map_or}
use Rattle.std.proofs.lemmas.Option.{option_and_then_some}
use Rattle.uac_units.specs.Hearing.{at_most_u64}
use Rattle.uac_rate.specs.Steadiness.{one_more}
use Rattle.uac_topology.specs.Function.{FunctionFields, interface_in}
use Rattle.uac_graph.specs.Meaning.{entity}
use Rattle.uac_flow.specs.FlowStreams.{OutStream, after_packet, feedback_of, is_due}
use Rattle.uac_host.specs.HostWorld.{Pace, Track}
use Rattle.uac_host.specs.HostCalls.{packet_of, pace_after_report, pace_after_packet}
use Rattle.uac_device.specs.DeviceWorld.{Domain, step_in}
use Rattle.uac_script.specs.Phrase.{PhraseMark}
use Rattle.uac_streaming.specs.StreamingWorld.{StreamingWorld, all_feedback, all_ends, goes_out, in_packet_turn, in_packets, loses_out, loses_feedback, numbers, out_packets, out_turn, packet_to, stream_index, goes_out, feedback_turn, end_turn}
use Rattle.uac_running.specs.RunningWorld.{RunningWorld, streaming_of, with_streaming}
use Rattle.uac_running.specs.Events.{domain_microframes, ends_and_feedback, microframe, packets_and_ticks}
use Rattle.uac_levels.specs.Life.{Life, domain_id_on, domain_on, life_after, life_of, with_end, with_feedback, with_packet, with_step}
use Rattle.uac_levels.specs.Projection.{IsOrdered, MicroframesAreLived, Runs, TracksGoOn, next_domain, next_life, next_track}
use Rattle.uac_streaming.proofs.AmongLemmas.{Among, known_among}
use Rattle.uac_levels.proofs.TellingTurnLemmas.{clock_among, numbers_differ, turns_keep, turns_once}
use Rattle.uac_levels.proofs.LifeTurnLemmas.{IsPlace, Place, Shows, in_any, out_here, out_other, packet_at, packet_shown, report_here, report_other, ended_here, ended_other, track_after}
use Rattle.uac_levels.proofs.LifeTickLemmas.{domains_show, step_at}

pub mapped : {A B : Type 0} (f : A → B) (o : Option A) (y : B) → option_map f o ≡ Some y → (x : A) × (o ≡ Some x) × (f x ≡ y)
mapped f None y e = absurd (cc)
mapped f (Some x) y e = (x, refl, cc)

-- ---- the parts of a microframe

module _ (p : Place) (is : IsPlace p) (small : All (λ s. s.number < 256) p.function.streams) (marks : List PhraseMark) where
  among : (w : StreamingWorld) (l : Life) (t : Track) → Shows p w l t → Among p.interface (numbers w.device.function)
  among w l t s =
      let found = mapped _ (interface_in p.function p.interface) p.clock is.on_clock in
      subst (λ (f : FunctionFields). Among p.interface (numbers f)) (sym s.function) (known_among p.function p.interface found.0 small found.1)

  abbrev pub packet : Life → Track → Option (List ℕ)
  packet l t = if loses_out marks p.interface then None else Some (packet_at l.pace t)

  pub packets_out : (detail : ℕ) (w : StreamingWorld) (l : Life) (t : Track) → Shows p w l t
      → Shows p (out_packets detail marks w).world (with_packet (packet l t) l) (track_after l t)
  unfolding out_packets
  packets_out detail w l t s =
      turns_once (out_turn detail marks) p.interface (λ v. Shows p v l t) (λ v. Shows p v (with_packet (packet l t) l) (track_after l t))
      (λ n v other. out_other p detail marks n v l t other) (λ n v other. out_other p detail marks n v (with_packet (packet l t) l) (track_after l t) other)
      (λ v. out_here p detail marks is v l t) (numbers w.device.function) w (numbers_differ w.device.function) (among w l t s) s

  pub packets_in : (detail : ℕ) (w : StreamingWorld) (l : Life) (t : Track) → Shows p w l t → Shows p (in_packets detail marks w).world l t
  unfolding in_packets
  packets_in detail w l t s =
      turns_keep (λ v. Shows p v l t) (in_packet_turn detail marks) (λ n v. in_any p detail marks n v l t) (numbers w.device.function) w s

  ends : (detail : ℕ) (w : StreamingWorld) (l : Life) (t : Track) → Shows p w l t → Shows p (all_ends detail w).world (with_end l) t
  unfolding all_ends
  ends detail w l t s =
      turns_once (end_turn detail) p.interface (λ v. Shows p v l t) (λ v. Shows p v (with_end l) t)
      (λ n v other. ended_other p detail marks n v l t other) (λ n v other. ended_other p detail marks n v (with_end l) t other)
      (λ v. ended_here p detail marks v l t) (numbers w.device.function) w (numbers_differ w.device.function) (among w l t s) s

  reports : (detail : ℕ) (w : StreamingWorld) (l : Life) (t : Track) → Shows p w l t
      → Shows p (all_feedback detail marks w).world (with_feedback (loses_feedback marks p.interface) l) t
  unfolding all_feedback
  reports detail w l t s =
      turns_once (feedback_turn detail marks) p.interface (λ v. Shows p v l t) (λ v. Shows p v (with_feedback (loses_feedback marks p.interface) l) t)
      (λ n v other. report_other p is detail marks n v l t other)
      (λ n v other. report_other p is detail marks n v (with_feedback (loses_feedback marks p.interface) l) t other)
      (λ v. report_here p is detail marks v l t) (numbers w.device.function) w (numbers_differ w.device.function) (among w l t s) s

  module _ (once : IsDistinct nat_eq p.function.domains) (clocked : Among p.clock p.function.domains) where
    ticks : (r : RunningWorld) (l : Life) (t : Track) → Shows p (streaming_of r) l t
        → Shows p (streaming_of (domain_microframes r.device.function.domains r).world) (with_step (step_at p) l) t
    ticks r l t s =
        domains_show p is r.device.function.domains r l t (subst (λ (f : FunctionFields). IsDistinct nat_eq f.domains) (sym s.function) once)
        (subst (λ (f : FunctionFields). Among p.clock f.domains) (sym s.function) clocked) s

    pub before_the_end : (r : RunningWorld) (l : Life) (t : Track) → Shows p (streaming_of r) l t
        → Shows p (streaming_of (packets_and_ticks marks r).world) (with_step (step_at p) (with_packet (packet l t) l)) (track_after l t)
    unfolding packets_and_ticks
    before_the_end r l t s =
        let pace_after_packet = with_streaming r (out_packets r.detail marks (streaming_of r)).world in
        let fetched = with_streaming pace_after_packet (in_packets r.detail marks (streaming_of pace_after_packet)).world in
        ticks fetched (with_packet (packet l t) l) (track_after l t)
        (packets_in r.detail (streaming_of pace_after_packet) (with_packet (packet l t) l) (track_after l t) (packets_out r.detail (streaming_of r) l t s))

    the_end : (r : RunningWorld) (l : Life) (t : Track) → Shows p (streaming_of r) l t
        → Shows p (streaming_of (ends_and_feedback marks r).world) (with_feedback (loses_feedback marks p.interface) (with_end l)) t
    unfolding ends_and_feedback
    the_end r l t s = reports r.detail (all_ends r.detail (streaming_of r)).world (with_end l) t (ends r.detail (streaming_of r) l t s)

    microframe_shown : (r : RunningWorld) (l : Life) (t : Track) → Shows p (streaming_of r) l t
        → Shows p (streaming_of (microframe marks r).world) (life_after (packet l t) (step_at p) (loses_feedback marks p.interface) l) (track_after l t)
    unfolding microframe life_after
    microframe_shown r l t s =
        let numbered : RunningWorld = record r { time = at_most_u64 (r.time + 1) } in
        the_end (packets_and_ticks marks numbered).world (with_step (step_at p) (with_packet (packet l t) l)) (track_after l t) (before_the_end numbered l t s)

-- ---- lives

-- the index of an interface that runs a stream to the device
abbrev pub place_in : RunningWorld → ℕ → Domain → ℕ → ℕ → Place
place_in r interface d clock index =
    record { function = r.device.function; controls = r.device.controls; interface = interface; clock = clock; index = index; domain = d }

pub opened : {R : Type 0} (r : RunningWorld) (interface : ℕ) (l : Life) (d : Domain) → Runs r interface l d
    → ((clock index : ℕ) → l.steps ≡ d.steps → IsPlace (place_in r interface d clock index)
    → Shows (place_in r interface d clock index) (streaming_of r) l (r.host.tracks interface) → R)
    → R
unfolding life_of
opened r interface l d runs goes_on =
    option_and_then_some _ (domain_id_on r interface) d runs.domain (λ clock on_clock found.
    option_and_then_some _ (r.device.outs interface) l runs.life (λ out outs after_out.
    option_and_then_some _ (r.host.paces interface) l after_out (λ pace paces after_pace.
    option_and_then_some _ (domain_on r interface) l after_pace (λ d' domain after_domain.
    (let placed = mapped _ (stream_index r.device.function interface) l after_domain in
    let one : d' ≡ d = let both : Some d' ≡ Some d = sym domain ∙ runs.domain in cc in
    let steps : d.steps ≡ l.steps = sym (ap (λ (e : Domain). e.steps) one) ∙ ap (λ (m : Life). m.steps) placed.2 in
    goes_on clock placed.0 (sym steps) (record { out = runs.out; on_clock = on_clock; placed = placed.1 }) (record {
      function = refl;
      controls = refl;
      out = outs ∙ ap (λ (m : Life). Some m.out) placed.2;
      pace = paces ∙ ap (λ (m : Life). Some m.pace) placed.2;
      track = refl;
      domain = found ∙ ap (λ (steps : List ℕ). Some (record d { steps = steps })) steps;
      reports = ap (λ (m : Life). m.reports) placed.2;
    }))))))

closed : (r : RunningWorld) (p : Place) (l : Life) (t : Track) → IsPlace p → Shows p (streaming_of r) l t
    → Runs r p.interface l (record p.domain { steps = l.steps })
unfolding life_of
closed r p l t is s = record {
  out = ap (λ (f : FunctionFields). goes_out f p.interface) s.function ∙ is.out;
  life =
      ap (option_and_then (λ out. option_and_then (λ pace. option_and_then (λ d. option_map (life out pace d) in_turn) at_domain) (r.host.paces p.interface))) s.out
      ∙ ap (option_and_then (λ pace. option_and_then (λ d. option_map (life l.out pace d) in_turn) at_domain)) s.pace
      ∙ ap (option_and_then (λ d. option_map (life l.out l.pace d) in_turn)) domain
      ∙ ap (option_map (life l.out l.pace (record p.domain { steps = l.steps }))) placed
      ∙ ap (λ (reports : List (List Bool)). Some (record l { reports = reports })) s.reports;
  domain = domain;
}
  where
    life : OutStream → Pace → Domain → ℕ → Life
    life out pace d index = record { out = out; pace = pace; steps = d.steps; reports = r.history.feedback index }

    in_turn : Option ℕ
    in_turn = stream_index r.device.function p.interface

    at_domain : Option Domain
    at_domain = domain_on r p.interface

    domain : domain_on r p.interface ≡ Some (record p.domain { steps = l.steps })
    domain =
        ap (λ (f : FunctionFields). option_and_then (λ clock. find (λ d. d.id == clock) r.device.domains) (option_map (λ s. (entity f.entities s.terminal).clock) (interface_in f p.interface))) s.function
        ∙ ap (λ (o : Option ℕ). option_and_then (λ clock. find (λ d. d.id == clock) r.device.domains) o) is.on_clock
        ∙ s.domain

    placed : stream_index r.device.function p.interface ≡ Some p.index
    placed = ap (λ (f : FunctionFields). stream_index f p.interface) s.function ∙ is.placed

-- the steps of its clock
steps_after : (packet : Option (List ℕ)) (step : ℕ) (lost : Bool) (l : Life) → (life_after packet step lost l).steps ≡ l.steps ++ step ∷ []
unfolding life_after
steps_after packet step lost l =
    by_feedback (with_end (with_step step (with_packet packet l))) (feedback_of (with_end (with_step step (with_packet packet l))).out)
    ∙ ap (λ (steps : List ℕ). steps ++ step ∷ []) (by_packet (is_due l.out.stream l.out.microframes))
  where
    by_feedback : (m : Life) (o : Option ℕ)
        → (option_map_or (λ value. record m { pace = if lost then m.pace else pace_after_report value m.pace; reports = one_more lost m.reports }) o m).steps ≡ m.steps
    by_feedback m None = refl
    by_feedback m (Some value) = refl

    by_packet : (b : Bool) → (if b then record l { out = after_packet packet l.out; pace = pace_after_packet l.pace } else l).steps ≡ l.steps
    by_packet true = refl
    by_packet false = refl

pub step_is : (r : RunningWorld) (interface : ℕ) (d : Domain) (clock index : ℕ) → step_at (place_in r interface d clock index) ≡ step_in r.device d
unfolding step_in
step_is r interface d clock index = refl

-- what a microframe makes of a stream, and of its track
lived_and_tracked : (marks : List PhraseMark) (r : RunningWorld) (interface : ℕ) (l : Life) (d : Domain) → IsOrdered r.device → Runs r interface l d
    → Runs (microframe marks r).world interface (next_life marks r interface l d) (next_domain r d)
    × ((microframe marks r).world.host.tracks interface ≡ next_track l (r.host.tracks interface))
lived_and_tracked marks r interface l d ordered runs = opened r interface l d runs (λ clock index steps is s.
    (let p : Place = place_in r interface d clock index in
    let t : Track = r.host.tracks interface in
    let clocked : Among clock r.device.function.domains = subst (Among clock) ordered.domains (clock_among clock r.device.domains (record d { steps = l.steps }) s.domain) in
    let after = microframe_shown p is ordered.numbers marks ordered.apart clocked r l t s in
    let packet : packet_at l.pace t ≡ packet_of r.host interface = sym (packet_shown p (streaming_of r) l t s) in
    let same : life_after (if loses_out marks interface then None else Some (packet_at l.pace t)) (step_at p) (loses_feedback marks interface) l ≡ next_life marks r interface l d =
    ap (λ (bytes : List ℕ). life_after (if loses_out marks interface then None else Some bytes) (step_at p) (loses_feedback marks interface) l) packet
    ∙ ap (λ (n : ℕ). life_after (packet_to (loses_out marks interface) interface (streaming_of r)) n (loses_feedback marks interface) l) (step_is r interface d clock index) in
    let lived : Runs (microframe marks r).world interface (next_life marks r interface l d) (record d { steps = (next_life marks r interface l d).steps }) =
    subst (λ (m : Life). Runs (microframe marks r).world interface m (record d { steps = m.steps })) same
    (closed (microframe marks r).world p (life_after (if loses_out marks interface then None else Some (packet_at l.pace t)) (step_at p) (loses_feedback marks interface) l) (next_track l t) is after) in
    let stepped : (next_life marks r interface l d).steps ≡ d.steps ++ step_in r.device d ∷ [] =
    steps_after (packet_to (loses_out marks interface) interface (streaming_of r)) (step_in r.device d) (loses_feedback marks interface) l
    ∙ ap (λ (ns : List ℕ). ns ++ step_in r.device d ∷ []) steps in
    (subst (λ (ns : List ℕ). Runs (microframe marks r).world interface (next_life marks r interface l d) (record d { steps = ns })) stepped lived, after.track)))

pub microframes_are_lived : MicroframesAreLived
microframes_are_lived marks r interface l d ordered runs = (lived_and_tracked marks r interface l d ordered runs).0

pub tracks_go_on : TracksGoOn
tracks_go_on marks r interface l d ordered runs = (lived_and_tracked marks r interface l d ordered runs).1
