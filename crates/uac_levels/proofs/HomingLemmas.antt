-- A steady run keeps the trails of its streams, and tells levels close to their targets.
use Rattle.std.proofs.Common.{◌≡◌, ◌∙◌, sym, refl, ap, subst, ℕ, ◌≤◌, ◌&&◌, Bool, true, false, List, Option, Some, None}
use Rattle.std.specs.List.{All}
use Rattle.std.specs.Option.{option_and_then, option_map_or}
use Rattle.uac_rate.specs.Steadiness.{latest_run}
use Rattle.uac_rate.specs.Steadiness as steadiness
use Rattle.uac_flow.specs.FlowStreams.{OutStream, is_due, out_level}
use Rattle.uac_host.specs.HostCalls.{with_samples}
use Rattle.uac_host.specs.HostCalls as calls
use Rattle.uac_device.specs.InterfaceStreams.{either_due}
use Rattle.uac_device.specs.DeviceWorld.{Domain, fresh, is_due_in, step_in, target_of}
use Rattle.uac_script.specs.Phrase.{PhraseMark}
use Rattle.uac_streaming.specs.StreamingWorld.{StreamingWorld, loses_out, loses_feedback, packet_to}
use Rattle.uac_running.specs.RunningWorld.{RunningWorld, at_start, streaming_of, with_detail, with_samples_on, with_jack_tone, with_track}
use Rattle.uac_running.specs.Events.{microframe}
use Rattle.uac_running.specs.RunningTransfers.{with_break}
use Rattle.uac_levels.specs.Life.{Life, life_of}
use Rattle.uac_levels.specs.Bands.{IsSteadyMicroframe}
use Rattle.uac_levels.specs.Projection.{next_life}
use Rattle.uac_levels.specs.BandRun.{RunInBand, StreamInBand}
use Rattle.uac_levels.proofs.ProjectionLifeLemmas.{microframes_are_lived}
use Rattle.uac_levels.proofs.RunningWorldRestLemmas.{microframe_none}
use Rattle.uac_levels.proofs.BandsLemmas.{is_lost}
use Rattle.uac_levels.proofs.BandRunLemmas.{few_following, lived, next_in_band, steadily}
use Rattle.uac_levels.proofs.BandRunLevelLemmas.{IsNear, none_near, some_near}
use Rattle.uac_levels.proofs.BeginningsLemmas.{life_off}
use Rattle.uac_levels.specs.Past.{Pasts, no_past, past_following, pasts_after}
use Rattle.uac_levels.specs.Homing.{CallsStayTrailed, HasTrail, HaveTrails, IsClose, IsCloseLevel, MicroframesStayTrailed, RunsStartTrailed}
use Rattle.uac_levels.proofs.HomingTrailLemmas.{IsHome, trail_begins, trail_goes, trail_home}

-- ---- the start

pub runs_start_trailed : RunsStartTrailed
unfolding at_start fresh
runs_start_trailed descriptor function meters pasts k l target life is =
    absurd (let there = (lived (at_start descriptor function meters) k l life).out in let none : None ≡ Some l.out = there in cc)

-- ---- a microframe

lost_is : (b : Bool) (k : ℕ) (w : StreamingWorld) → is_lost (packet_to b k w) ≡ b
lost_is true k w = refl
lost_is false k w = refl

module _ (marks : List PhraseMark) (r : RunningWorld) (pasts : Pasts) (band : RunInBand r)
    (steady : steadiness.is_steady (microframe marks r).world.history ≡ true) (trails : HaveTrails r pasts) where
  abbrev after : RunningWorld
  after = (microframe marks r).world

  abbrev pasts_then : Pasts
  pasts_then = pasts_after marks r pasts

  -- how close a level is that is told of an interface's primed stream
  abbrev Close : ℕ → ℕ → ℕ → Type 0
  Close k level target = (o : OutStream) × (after.device.outs k ≡ Some o) × IsCloseLevel after pasts_then k level target o

  -- ---- one stream

  module _ (k : ℕ) (l : Life) (d : Domain) (s : StreamInBand r k l d) where
    abbrev next : Life
    next = next_life marks r k l d

    abbrev packet : Option (List ℕ)
    packet = packet_to (loses_out marks k) k (streaming_of r)

    few : latest_run next.reports ≤ 3
    few = few_following marks r band steady k l d s.runs

    out : r.device.outs k ≡ Some l.out
    out = (lived r k l s.runs.life).out

    next_lives : life_of after k ≡ Some next
    next_lives = (microframes_are_lived marks r k l d band.ordered s.runs).life

    past_is : pasts_then k ≡ past_following (is_due l.out.stream l.out.microframes) (is_lost packet) (loses_feedback marks k) l.out.target next (pasts k)
    unfolding pasts_after is_due_in target_of
    past_is =
        ap (λ (o : Option Life). option_map_or (λ x. past_following (is_due_in r.device k) (loses_out marks k) (loses_feedback marks k) (target_of r.device k) x (pasts k)) o no_past)
        next_lives
        ∙ ap (λ (o : Option OutStream). past_following (either_due o (r.device.ins k)) (loses_out marks k) (loses_feedback marks k) (option_and_then (λ o. o.target) o) next (pasts k)) out
        ∙ ap (λ (b : Bool). past_following (is_due l.out.stream l.out.microframes) b (loses_feedback marks k) l.out.target next (pasts k))
        (sym (lost_is (loses_out marks k) k (streaming_of r)))

    next_trail : (target : ℕ) → next.out.target ≡ Some target → HasTrail next target (pasts_then k)
    next_trail target is = subst (HasTrail next target) (sym past_is) (by l.out.target refl)
      where
        given : IsSteadyMicroframe packet (step_in r.device d) l
        given = steadily marks r k l d s

        by : (o : Option ℕ) → l.out.target ≡ o
            → HasTrail next target (past_following (is_due l.out.stream l.out.microframes) (is_lost packet) (loses_feedback marks k) o next (pasts k))
        by None was = trail_begins l packet (step_in r.device d) s.band given (loses_feedback marks k) few was target is
        by (Some t) was =
            trail_goes l packet (step_in r.device d) s.band given (loses_feedback marks k) few t was (pasts k) (trails k l t s.runs.life was) target is

    -- a level at the end of its interval is close to its target
    next_close : (level target : ℕ) → IsHome next (pasts_then k) level target → Close k level target
    next_close level target home =
        (next.out, (lived after k next next_lives).out, record { settled = home.settled; tight = home.tight })

    tells_close : All (IsNear (Close k) k) (microframe marks r).lines
    tells_close =
        some_near (Close k) marks r k l d band s
        (λ target ends is. next_close (out_level next.out) target
        (trail_home next target (pasts_then k) (next_in_band marks r k l d s few) (next_trail target is) ends))

  -- ---- all

  stays : HaveTrails after pasts_then
  stays k m target life is = by (r.device.outs k) refl
    where
      by : (o : Option OutStream) → r.device.outs k ≡ o → HasTrail m target (pasts_then k)
      by None none =
          absurd (let nowhere = microframe_none k marks r none in let there = (lived after k m life).out in
          let both : None ≡ Some m.out = sym nowhere ∙ there in cc)
      by (Some o) there =
          let stream = band.streams k o there in
          let l : Life = stream.0 in
          let d : Domain = stream.1 in
          let same : next_life marks r k l d ≡ m = (let both : Some (next_life marks r k l d) ≡ Some m = sym (next_lives k l d stream.3) ∙ life in cc) in
          subst (λ (x : Life). HasTrail x target (pasts_then k)) same
          (next_trail k l d stream.3 target (ap (λ (x : Life). x.out.target) same ∙ is))

  close : All (IsClose after pasts_then) (microframe marks r).lines
  close j said below k level target same = by (r.device.outs k) refl j said below level target same
    where
      by : (was : Option OutStream) → r.device.outs k ≡ was → All (IsNear (Close k) k) (microframe marks r).lines
      by None none = none_near (Close k) k marks r none
      by (Some o) was =
          let stream = band.streams k o was in
          tells_close k stream.0 stream.1 stream.3

pub microframes_stay_trailed : MicroframesStayTrailed
microframes_stay_trailed marks r pasts band steady trails = record {
  stays = stays marks r pasts band steady trails;
  close = close marks r pasts band steady trails;
}

-- ---- what else is asked of a run

pub calls_stay_trailed : CallsStayTrailed
unfolding life_of with_jack_tone with_detail with_break with_samples_on with_samples with_track calls.with_track_tone
calls_stay_trailed r pasts trails = record {
  tone = λ terminal tone k l target life is. trails k l target life is;
  detail = λ level k l target life is. trails k l target life is;
  breaks = λ after k l target life is. trails k l target life is;
  samples = λ interface samples k l target life is. trails k l target life is;
  track = λ interface tone k l target life is. trails k l target life is;
  deviation = λ clock ppm k l target life is. trails k l target (sym (life_off clock ppm r k) ∙ life) is;
}
