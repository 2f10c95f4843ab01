-- A steady microframe tells levels near their targets alone; what a level that is told may be to its target is a parameter.
use Rattle.std.proofs.Common.{◌≡◌, ◌∙◌, sym, refl, ap, subst, ℕ, ◌+◌, ◌%◌, ◌==◌, ◌&&◌, nat_le, Bool, true, false, if◌then◌else◌, List, [], ◌∷◌, Option, Some, None}
use Rattle.std.specs.Prelude.{⊤}
use Rattle.std.specs.List.{All}
use Rattle.std.specs.Option.{option_and_then, option_map_or}
use Rattle.std.proofs.lemmas.Bool.{and_parts, eqb-false}
use Rattle.std.proofs.lemmas.List.Elements.{All-cons, All-nil}
use Rattle.uac_rate.specs.Levels.{Within}
use Rattle.uac_rate.specs.Steadiness.{one_more}
use Rattle.uac_alt.specs.AltStreams.{StreamFields}
use Rattle.uac_flow.specs.FlowStreams.{OutStream, feedback_of, is_due, out_level, out_after_end}
use Rattle.uac_host.specs.HostCalls.{pace_after_report}
use Rattle.uac_host.specs.HostWorld.{Track}
use Rattle.uac_device.specs.InterfaceStreams.{either_due, level_in}
use Rattle.uac_device.specs.DeviceWorld.{DeviceWorld, Domain, after_advance, is_due_in, level_of, next_ticks, after_end, step_in, target_of}
use Rattle.uac_script.specs.Phrase.{PhraseMark}
use Rattle.uac_transcript.specs.Transcript.{Said, says_level, says_over, says_under}
use Rattle.uac_streaming.specs.StreamingWorld.{StreamingWorld, all_ends, finds_empty, finds_full, goes_out, loses_out, loses_feedback, numbers, out_packets, end_turn}
use Rattle.uac_running.specs.RunningWorld.{RunningWorld, streaming_of}
use Rattle.uac_running.specs.Events.{after_all_jacks, domain_microframe, domain_microframes, microframe, tick}
use Rattle.uac_levels.specs.Life.{Life, life_after, with_end, with_feedback, with_packet, with_step}
use Rattle.uac_levels.specs.Bands.{microframes_since_due}
use Rattle.uac_levels.specs.Projection.{next_life}
use Rattle.uac_levels.specs.BandRun.{RunInBand, SteadyMicroframesTellNear, StreamInBand}
use Rattle.uac_streaming.proofs.AmongLemmas.{Among}
use Rattle.uac_levels.proofs.TellingTurnLemmas.{clock_among, numbers_differ}
use Rattle.uac_levels.proofs.LifeTurnLemmas.{Place, Shows, packet_at, packet_shown, ended_here, ended_other, track_after}
use Rattle.uac_levels.proofs.LifeTickLemmas.{step_at}
use Rattle.uac_levels.proofs.ProjectionLifeLemmas.{before_the_end, opened, place_in, step_is}
use Rattle.uac_levels.proofs.ProjectionPacketLemmas.{ended_streams}
use Rattle.uac_levels.proofs.LifeSteadyLemmas.{is_zero}
use Rattle.uac_levels.proofs.BandsLemmas.{ends_near}
use Rattle.uac_levels.proofs.RunningWorldRestLemmas.{RestsNow, RunsNone, before_the_end_none, ended_none}
use Rattle.uac_levels.proofs.BandRunLemmas.{few_following, next_in_band}
use Rattle.uac_levels.proofs.RunningWorldLineLemmas.{IsQuiet, domains_say, each_says, fetched, maybe_one, microframe_says, numbered, outs_say, tick_says, ticked_on, ticks_say, turns_once_say}

module _ (Q : ℕ → ℕ → Type 0) (k : ℕ) where
  -- where it tells a level of this interface's primed stream, that is so to its target
  abbrev pub IsNear : Said → Type 0
  IsNear said = (level target : ℕ) → said ≡ says_level k level (Some target) → Q level target

  quiet : IsQuiet IsNear
  quiet = record {
    microframe = λ number level target same. absurd (cc);
    out = λ interface frames arrival level target same. absurd (cc);
    in_ = λ interface frames lost level target same. absurd (cc);
    frame = λ interface samples level target same. absurd (cc);
    played = λ terminal samples level target same. absurd (cc);
    feedback = λ interface value lost level target same. absurd (cc);
  }

  -- ---- packets and ticks tell no level

  outs_near : (detail : ℕ) (marks : List PhraseMark) (w : StreamingWorld) → All IsNear (out_packets detail marks w).lines
  outs_near = outs_say IsNear quiet (λ interface level target same. absurd (cc))

  tick_near : (c : ℕ) (r : RunningWorld) → All IsNear (tick c r).lines
  tick_near c r =
      tick_says IsNear quiet c r
      (each_says IsNear says_under (finds_empty c (after_all_jacks c r)) (λ n passes level target same. absurd (cc)))
      (each_says IsNear says_over (finds_full c (after_all_jacks c r)) (λ n passes level target same. absurd (cc)))

  domain_near : (c : ℕ) (r : RunningWorld) → ⊤ → All IsNear (domain_microframe c r).lines
  unfolding domain_microframe
  domain_near c r all =
      ticks_say IsNear quiet (λ v. ⊤) c (λ v any. tick_near c v) (λ v any. tt) (next_ticks c r.device) (record r { device = after_advance c r.device }) tt

  ticks_near : (clocks : List ℕ) (r : RunningWorld) → All IsNear (domain_microframes clocks r).lines
  ticks_near clocks r = domains_say IsNear quiet (λ v. ⊤) domain_near (λ c v any. tt) clocks r tt

  -- ---- the ends

  abbrev level_line : ℕ → DeviceWorld → Said
  level_line n w = says_level n (level_of (after_end n w) n) (target_of (after_end n w) n)

  abbrev is_told : ℕ → ℕ → DeviceWorld → Bool
  is_told detail n w = nat_le 2 detail && (goes_out w.function n && is_due_in w n)

  end_other : (detail n : ℕ) (w : StreamingWorld) → (k == n) ≡ false → All IsNear (end_turn detail n w).lines
  unfolding end_turn
  end_other detail n w other =
      maybe_one IsNear quiet (is_told detail n w.device) (level_line n w.device)
      (λ level target same. absurd (let number : k ≡ n = cc in eqb-false k n other number))

  -- of an interface that runs no stream there is no target
  end_none : (detail : ℕ) (w : StreamingWorld) → RunsNone k w → All IsNear (end_turn detail k w).lines
  unfolding end_turn target_of
  end_none detail w none =
      maybe_one IsNear quiet (is_told detail k w.device) (level_line k w.device)
      (λ level target same. absurd (let nowhere = gone (ended_none k detail k w none) in
      let there : target_of (after_end k w.device) k ≡ Some target = cc in
      let both : None ≡ Some target = sym nowhere ∙ there in cc))
    where
      gone : RunsNone k (end_turn detail k w).world → target_of (after_end k w.device) k ≡ None
      gone nothing = ap (option_and_then (λ o. o.target)) nothing

  ends_near_none : (detail : ℕ) (w : StreamingWorld) → RunsNone k w → All IsNear (all_ends detail w).lines
  unfolding all_ends
  ends_near_none detail w none =
      turns_once_say IsNear (end_turn detail) k (end_other detail) (RunsNone k) (λ n v other nothing. ended_none k detail n v nothing)
      (end_none detail) (numbers w.device.function) w (numbers_differ w.device.function) none

  pub none_near : (marks : List PhraseMark) (r : RunningWorld) → RestsNow k r → All IsNear (microframe marks r).lines
  none_near marks r none =
      microframe_says IsNear quiet marks r (outs_near r.detail marks (streaming_of (numbered r)))
      (ticks_near (fetched marks r).device.function.domains (fetched marks r))
      (ends_near_none (ticked_on marks r).detail (streaming_of (ticked_on marks r)) (before_the_end_none k marks (numbered r) none))

-- ---- where it runs one

-- where it is due now, its level after the end is near its target
abbrev IsNearThen : (ℕ → ℕ → Type 0) → OutStream → Type 0
IsNearThen Q x =
    is_due x.stream x.microframes ≡ true → (target : ℕ) → (out_after_end x).target ≡ Some target → Q (out_level (out_after_end x)) target

module _ (Q : ℕ → ℕ → Type 0) (p : Place) (detail : ℕ) where
  end_here : (w : StreamingWorld) (l : Life) (t : Track) → Shows p w l t → IsNearThen Q l.out
      → All (IsNear Q p.interface) (end_turn detail p.interface w).lines
  unfolding end_turn is_due_in level_of target_of
  end_here w l t s near = by (is_told Q p.interface detail p.interface w.device) refl (following (ended_here p detail [] w l t s).out)
    where
      following : (end_turn detail p.interface w).world.device.outs p.interface ≡ Some (out_after_end l.out)
          → (level_of (after_end p.interface w.device) p.interface ≡ out_level (out_after_end l.out))
          × (target_of (after_end p.interface w.device) p.interface ≡ (out_after_end l.out).target)
      following out = (
        ap (λ (o : Option OutStream). level_in o ((after_end p.interface w.device).ins p.interface)) out,
        ap (λ (o : Option OutStream). option_and_then (λ x. x.target) o) out,
      )

      by : (b : Bool) → is_told Q p.interface detail p.interface w.device ≡ b
          → (level_of (after_end p.interface w.device) p.interface ≡ out_level (out_after_end l.out))
          × (target_of (after_end p.interface w.device) p.interface ≡ (out_after_end l.out).target)
          → All (IsNear Q p.interface) (if b then level_line Q p.interface p.interface w.device ∷ [] else [])
      by false told after = All-nil (IsNear Q p.interface)
      by true told after =
          All-cons (IsNear Q p.interface) (level_line Q p.interface p.interface w.device) [] (λ level target same.
          (let detailed = and_parts (nat_le 2 detail) _ told in
          let out = and_parts (goes_out w.device.function p.interface) _ detailed.1 in
          let due : is_due l.out.stream l.out.microframes ≡ true =
          sym (ap (λ (o : Option OutStream). either_due o (w.device.ins p.interface)) s.out) ∙ out.1 in
          let level_is : level_of (after_end p.interface w.device) p.interface ≡ level = cc in
          let target_is : target_of (after_end p.interface w.device) p.interface ≡ Some target = cc in
          subst (λ (n : ℕ). Q n target) (sym after.0 ∙ level_is) (near due target (sym after.1 ∙ target_is))))
          (All-nil (IsNear Q p.interface))

  ends_near_here : (w : StreamingWorld) (l : Life) (t : Track) → Shows p w l t → IsNearThen Q l.out
      → All (IsNear Q p.interface) (all_ends detail w).lines
  unfolding all_ends
  ends_near_here w l t s near =
      turns_once_say (IsNear Q p.interface) (end_turn detail) p.interface (end_other Q p.interface detail) (λ v. Shows p v l t)
      (λ n v other there. ended_other p detail [] n v l t other there) (λ v there. end_here v l t there near) (numbers w.device.function) w
      (numbers_differ w.device.function) s

-- ---- the life after the microframe

pub feedback_out : (lost : Bool) (m : Life) → (with_feedback lost m).out ≡ m.out
feedback_out lost m = by (feedback_of m.out)
  where
    by : (o : Option ℕ)
        → (option_map_or (λ value. record m { pace = if lost then m.pace else pace_after_report value m.pace; reports = one_more lost m.reports }) o m).out ≡ m.out
    by None = refl
    by (Some value) = refl

ended_count : (x : OutStream) → (out_after_end x).microframes ≡ x.microframes + 1
unfolding out_after_end
ended_count x = refl

-- so is the level of a primed stream where a service interval has ended
abbrev pub EndsSo : (ℕ → ℕ → Type 0) → Life → Type 0
EndsSo Q l = (target : ℕ) → microframes_since_due l.out ≡ 0 → l.out.target ≡ Some target → Q (out_level l.out) target

near_then : (Q : ℕ → ℕ → Type 0) (packet : Option (List ℕ)) (step : ℕ) (lost : Bool) (l : Life) → EndsSo Q (life_after packet step lost l)
    → IsNearThen Q (with_step step (with_packet packet l)).out
unfolding life_after
near_then Q packet step lost l so due target is =
    let x : OutStream = (with_step step (with_packet packet l)).out in
    let out : (life_after packet step lost l).out ≡ out_after_end x = feedback_out lost (with_end (with_step step (with_packet packet l))) in
    let ends : microframes_since_due (life_after packet step lost l).out ≡ 0 =
    ap (λ (o : OutStream). o.microframes % o.stream.service) out
    ∙ ap (λ (n : ℕ). n % (out_after_end x).stream.service) (ended_count x)
    ∙ ap (λ (of : StreamFields). (x.microframes + 1) % of.service) (ended_streams x)
    ∙ is_zero ((x.microframes + 1) % x.stream.service) due in
    subst (λ (o : OutStream). Q (out_level o) target) out (so target ends (ap (λ (o : OutStream). o.target) out ∙ is))

pub some_near : (Q : ℕ → ℕ → Type 0) (marks : List PhraseMark) (r : RunningWorld) (k : ℕ) (l : Life) (d : Domain) → RunInBand r → StreamInBand r k l d
    → EndsSo Q (next_life marks r k l d) → All (IsNear Q k) (microframe marks r).lines
some_near Q marks r k l d band stream so = opened r k l d stream.runs (λ clock index steps is s.
    (let p : Place = place_in r k d clock index in
    let t : Track = r.host.tracks k in
    let packet : Option (List ℕ) = if loses_out marks k then None else Some (packet_at l.pace t) in
    let clocked : Among clock r.device.function.domains = subst (Among clock) band.ordered.domains (clock_among clock r.device.domains (record d { steps = l.steps }) s.domain) in
    let ticked = before_the_end p is band.ordered.numbers marks band.ordered.apart clocked (numbered r) l t s in
    let next : EndsSo Q (life_after packet (step_at p) (loses_feedback marks k) l) =
    subst (λ (n : ℕ). EndsSo Q (life_after packet n (loses_feedback marks k) l)) (sym (step_is r k d clock index))
    (subst (λ (b : List ℕ). EndsSo Q (life_after (if loses_out marks k then None else Some b) (step_in r.device d) (loses_feedback marks k) l))
    (packet_shown p (streaming_of r) l t s) so) in
    microframe_says (IsNear Q k) (quiet Q k) marks r (outs_near Q k r.detail marks (streaming_of (numbered r)))
    (ticks_near Q k (fetched marks r).device.function.domains (fetched marks r))
    (ends_near_here Q p (ticked_on marks r).detail (streaming_of (ticked_on marks r)) (with_step (step_at p) (with_packet packet l)) (track_after l t) ticked
    (near_then Q packet (step_at p) (loses_feedback marks k) l next))))

pub tell_near : SteadyMicroframesTellNear
tell_near marks r band steady j said below k level target = by (r.device.outs k) refl j said below level target
  where
    by : (o : Option OutStream) → r.device.outs k ≡ o → All (IsNear (Within 130) k) (microframe marks r).lines
    by None none = none_near (Within 130) k marks r none
    by (Some o) there =
        let stream = band.streams k o there in
        let l : Life = stream.0 in
        let d : Domain = stream.1 in
        let next = next_in_band marks r k l d stream.3 (few_following marks r band steady k l d stream.3.runs) in
        some_near (Within 130) marks r k l d band stream.3 (λ target ends is. ends_near (next_life marks r k l d) target next is ends)
