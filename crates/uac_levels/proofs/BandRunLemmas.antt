-- A steady microframe keeps the streams of a run in their bands.
use Rattle.std.proofs.Common.{arith, ◌≡◌, ◌∙◌, sym, refl, ap, subst, ℕ, ◌<◌, ◌≤◌, ◌==◌, ◌||◌, not, nat_lt, Bool, true, false, if◌then◌else◌, ℤ, List, [], ◌∷◌, length, Option, Some, None}
use Rattle.std.specs.List.{find, list_all}
use Rattle.std.specs.Option.{option_and_then, option_map_or}
use Rattle.std.proofs.lemmas.Bool.{and_parts, true≢false}
use Rattle.std.proofs.lemmas.List.Quantifiers.{position-Some}
use Rattle.std.proofs.lemmas.Option.{option_and_then_some}
use Rattle.uac_clock.specs.Nominal.{nominal_of, step_of}
use Rattle.uac_clock.specs.declared.values.Nominal.{Nominal}
use Rattle.uac_rate.specs.Steadiness.{SteadyHistory, eight_streams, has_four_lost, is_slight, latest_run, run}
use Rattle.uac_rate.specs.Steadiness as steadiness
use Rattle.uac_rate.proofs.LevelsLemmas.{slight_step}
use Rattle.uac_entities.specs.declared.stream.StreamInterface.{StreamInterface}
use Rattle.uac_topology.specs.Function.{FunctionFields}
use Rattle.uac_store.specs.declared.keys.Key.{Key}
use Rattle.uac_store.specs.Rates.{rate_of}
use Rattle.uac_alt.specs.AltStreams.{StreamFields}
use Rattle.uac_flow.specs.FlowStreams.{OutStream, frames_of}
use Rattle.uac_host.specs.HostCalls.{next_size, packet_of}
use Rattle.uac_device.specs.DeviceWorld.{Domain, step_in}
use Rattle.uac_script.specs.Phrase.{PhraseMark}
use Rattle.uac_streaming.specs.StreamingWorld.{loses_out, loses_feedback, packet_to, stream_index}
use Rattle.uac_running.specs.RunningWorld.{RunningWorld, streaming_of}
use Rattle.uac_running.specs.Events.{microframe}
use Rattle.uac_levels.specs.Life.{Life, domain_on, life_of}
use Rattle.uac_levels.specs.Bands.{InBand, IsSlightStep, IsSteadyMicroframe}
use Rattle.uac_levels.specs.Projection.{IsOrdered, Runs, next_domain, next_life}
use Rattle.uac_levels.specs.BandRun.{RunInBand, SteadyMicroframesKeepBands, StreamInBand}
use Rattle.uac_streaming.proofs.AmongLemmas.{among_range}
use Rattle.uac_levels.proofs.TellingTurnLemmas.{all_among}
use Rattle.uac_levels.proofs.ProjectionLifeLemmas.{mapped, microframes_are_lived}
use Rattle.uac_levels.proofs.ProjectionKeptLemmas.{microframes_keep_order, microframes_keep_the_rest}
use Rattle.uac_levels.proofs.ProjectionPacketLemmas.{microframes_keep_fed, out_stream_after, packets_have_their_frames}
use Rattle.uac_levels.proofs.BandsLemmas.{stays_in_band}
use Rattle.uac_levels.proofs.RunningWorldRestLemmas.{microframe_none}

-- ---- reports

not_over : (n : ℕ) (b : Bool) → (nat_lt 3 n || b) ≡ false → n ≤ 3
not_over n b h = grind arith

not_lost : (b : Bool) → not b ≡ true → b ≡ false
not_lost true h = absurd (true≢false (sym h))
not_lost false h = refl

few_lost : (reports : List Bool) → has_four_lost reports ≡ false → run reports ≤ 3
few_lost [] h = omega arith
few_lost (lost ∷ older) h = not_over (run (lost ∷ older)) (has_four_lost older) h

latest_few : (lists : List (List Bool)) → list_all (λ reports. not (has_four_lost reports)) lists ≡ true → latest_run lists ≤ 3
latest_few [] h = omega arith
latest_few (latest ∷ earlier) h = few_lost latest (not_lost (has_four_lost latest) (and_parts (not (has_four_lost latest)) _ h).0)

steady_few : (given : SteadyHistory) (index : ℕ) → index < 8 → steadiness.is_steady given ≡ true → latest_run (given.feedback index) ≤ 3
steady_few given index below steady =
    let both = and_parts (list_all is_slight given.deviations) _ steady in
    latest_few (given.feedback index)
    (all_among (λ stream. list_all (λ reports. not (has_four_lost reports)) (given.feedback stream)) index eight_streams
    (among_range index 0 8 (omega arith) (omega arith)) both.1)

-- ---- a life in a run

pub record IsLived (r : RunningWorld) (interface : ℕ) (l : Life) : Type 0 where
  pub out : r.device.outs interface ≡ Some l.out
  pub index : ℕ
  pub placed : stream_index r.device.function interface ≡ Some index
  pub reports : r.history.feedback index ≡ l.reports

pub lived : (r : RunningWorld) (interface : ℕ) (l : Life) → life_of r interface ≡ Some l → IsLived r interface l
unfolding life_of
lived r interface l life =
    option_and_then_some _ (r.device.outs interface) l life (λ out outs after_out.
    option_and_then_some _ (r.host.paces interface) l after_out (λ pace paces after_pace.
    option_and_then_some _ (domain_on r interface) l after_pace (λ d domain after_domain.
    (let placed = mapped _ (stream_index r.device.function interface) l after_domain in
    record {
      out = outs ∙ ap (λ (m : Life). Some m.out) placed.2;
      index = placed.0;
      placed = placed.1;
      reports = ap (λ (m : Life). m.reports) placed.2;
    }))))

placed_below : (function : FunctionFields) (interface index : ℕ) (s : StreamInterface) → stream_index function interface ≡ Some index
    → length function.streams ≤ 8 → index < 8
placed_below function interface index s is few =
    let there = position-Some (λ s. s.number == interface) function.streams index s is in
    omega (arith, there.0)

life_few : (r : RunningWorld) (interface : ℕ) (l : Life) (s : StreamInterface) → life_of r interface ≡ Some l
    → length r.device.function.streams ≤ 8 → steadiness.is_steady r.history ≡ true → latest_run l.reports ≤ 3
life_few r interface l s life few steady =
    let there = lived r interface l life in
    subst (λ (lists : List (List Bool)). latest_run lists ≤ 3) there.reports
    (steady_few r.history there.index (placed_below r.device.function interface there.index s there.placed few) steady)

-- ---- one stream

module _ (marks : List PhraseMark) (r : RunningWorld) (k : ℕ) (l : Life) (d : Domain) (s : StreamInBand r k l d) where
  abbrev packet : Option (List ℕ)
  packet = packet_to (loses_out marks k) k (streaming_of r)

  step_slight : IsSlightStep l.out.stream.nominal (step_in r.device d)
  unfolding step_in
  step_slight =
      subst (λ (o : Option Nominal). IsSlightStep l.out.stream.nominal (option_map_or (λ values. step_of values d.deviation) o 0)) (sym s.rate)
      (slight_step l.out.stream.nominal d.deviation s.band.nominal s.slight)

  pub steadily : IsSteadyMicroframe packet (step_in r.device d) l
  steadily = record { slight = step_slight; frames = λ bytes is due. by (loses_out marks k) bytes is }
    where
      by : (b : Bool) (bytes : List ℕ) → (if b then None else Some (packet_of r.host k)) ≡ Some bytes
          → length (frames_of l.out.stream bytes) ≡ next_size l.pace
      by true bytes is = absurd (cc)
      by false bytes is =
          let same : packet_of r.host k ≡ bytes = cc in
          subst (λ (bs : List ℕ). length (frames_of l.out.stream bs) ≡ next_size l.pace) same (packets_have_their_frames r k l s.runs.life s.fed)

  pub next_in_band : latest_run (next_life marks r k l d).reports ≤ 3 → InBand (next_life marks r k l d)
  next_in_band few = stays_in_band l packet (step_in r.device d) (loses_feedback marks k) s.band steadily few

  next_stream : IsOrdered r.device → latest_run (next_life marks r k l d).reports ≤ 3
      → StreamInBand (microframe marks r).world k (next_life marks r k l d) (next_domain r d)
  next_stream ordered few =
      let stays = microframes_keep_the_rest marks r in
      let after : RunningWorld = (microframe marks r).world in
      let same = out_stream_after packet (step_in r.device d) (loses_feedback marks k) l in
      record {
        runs = microframes_are_lived marks r k l d ordered s.runs;
        fed = microframes_keep_fed marks r k l d ordered s.runs s.fed;
        band = next_in_band few;
        rate =
            ap (λ (f : FunctionFields). option_and_then nominal_of (rate_of f.entities after.device.controls d.id)) stays.function
            ∙ ap (λ (cs : List (Key × ℤ)). option_and_then nominal_of (rate_of r.device.function.entities cs d.id)) stays.controls
            ∙ s.rate ∙ ap (λ (of : StreamFields). Some of.nominal) (sym same);
        slight = s.slight;
      }

-- the interface of a stream that runs
interface_of : (r : RunningWorld) (k : ℕ) (l : Life) (d : Domain) → Runs r k l d → StreamInterface
interface_of r k l d runs = by (find (λ s. s.number == k) r.device.function.streams) runs.out
  where
    by : (o : Option StreamInterface) → option_map_or (λ s. s.out) o false ≡ true → StreamInterface
    by None is = absurd (true≢false (sym is))
    by (Some s) is = s

-- ---- all

pub few_following : (marks : List PhraseMark) (r : RunningWorld) → RunInBand r → steadiness.is_steady (microframe marks r).world.history ≡ true
    → (k : ℕ) (l : Life) (d : Domain) → Runs r k l d → latest_run (next_life marks r k l d).reports ≤ 3
few_following marks r band steady k l d runs =
    let stays = microframes_keep_the_rest marks r in
    let after : RunningWorld = (microframe marks r).world in
    life_few after k (next_life marks r k l d) (interface_of r k l d runs) (microframes_are_lived marks r k l d band.ordered runs).life
    (subst (λ (f : FunctionFields). length f.streams ≤ 8) (sym stays.function) band.few) steady

pub keep_bands : SteadyMicroframesKeepBands
keep_bands marks r band steady =
    let stays = microframes_keep_the_rest marks r in
    record {
      ordered = microframes_keep_order marks r band.ordered;
      hosts = stays.host ∙ band.hosts ∙ sym stays.function;
      few = subst (λ (f : FunctionFields). length f.streams ≤ 8) (sym stays.function) band.few;
      streams = λ k o there. by k o there (r.device.outs k) refl;
    }
  where
    after : RunningWorld
    after = (microframe marks r).world

    by : (k : ℕ) (o : OutStream) → after.device.outs k ≡ Some o → (was : Option OutStream) → r.device.outs k ≡ was
        → (l : Life) × (d : Domain) × (l.out ≡ o) × StreamInBand after k l d
    by k o there None none = absurd (let nowhere = microframe_none k marks r none in cc)
    by k o there (Some out) was =
        let stream = band.streams k out was in
        let l : Life = stream.0 in
        let d : Domain = stream.1 in
        let few = few_following marks r band steady k l d stream.3.runs in
        let next = next_stream marks r k l d stream.3 band.ordered few in
        let here : Some (next_life marks r k l d).out ≡ Some o =
        sym (lived after k (next_life marks r k l d) next.runs.life).out ∙ there in
        let same : (next_life marks r k l d).out ≡ o = cc in
        (next_life marks r k l d, next_domain r d, same, next)
