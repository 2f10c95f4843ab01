-- What the lines of a report tell of a good run; and that no other line is one of a report.
use Rattle.std.proofs.Common.{arith, ◌≡◌, ◌∙◌, sym, refl, ap, subst, ℕ, ◌+◌, ◌*◌, ◌≤◌, Bool, true, false, List, [], ◌∷◌, ◌++◌, map, Option, Some, None, unwrap_or}
use Rattle.std.specs.Prelude.{⊤}
use Rattle.std.specs.List.{All}
use Rattle.std.proofs.lemmas.Bool.{true≢false}
use Rattle.std.proofs.lemmas.List.Elements.{All-append, All-cons, All-map, All-nil}
use Rattle.std.proofs.lemmas.Option.{option_and_then_some}
use Rattle.uac_entities.specs.declared.stream.StreamInterface.{StreamInterface}
use Rattle.uac_alt.specs.AltSettings.{setting_of}
use Rattle.uac_rate.specs.Levels.{Within}
use Rattle.uac_rate.proofs.LevelsLemmas.{robust_near}
use Rattle.uac_ring.specs.declared.counts.StreamCounts.{StreamCounts}
use Rattle.uac_flow.specs.FlowStreams.{InStream, OutStream, out_level}
use Rattle.uac_device.specs.InterfaceStreams.{level_in}
use Rattle.uac_device.specs.DeviceWorld.{Domain, after_advance, level_of, next_ticks, target_of}
use Rattle.uac_script.specs.Phrase.{PhraseMark}
use Rattle.uac_transcript.specs.Transcript.{Said, says_in_stream, says_meter, says_out_stream, says_over, says_time, says_renders, says_steady, says_under}
use Rattle.uac_streaming.specs.StreamingWorld.{finds_empty, finds_full}
use Rattle.uac_running.specs.ReportLines.{domain_line, says_stream, stream_line}
use Rattle.uac_running.specs.RunningWorld.{RunningWorld, streaming_of}
use Rattle.uac_running.specs.RunningWorld as world
use Rattle.uac_running.specs.RunningLines.{report_lines}
use Rattle.uac_running.specs.Events.{after_all_jacks, domain_microframe, microframe, tick}
use Rattle.uac_rows.specs.BusWorld.{BusWorld, describing, running}
use Rattle.uac_levels.specs.Life.{Life}
use Rattle.uac_levels.specs.Bands.{InBand, IsAt}
use Rattle.uac_levels.proofs.BandsLemmas.{ends_near, holds_between}
use Rattle.uac_levels.proofs.RunningWorldLineLemmas.{IsQuiet, domains_say, each_says, ends_say, fetched, microframe_says, numbered, outs_say, tick_says, ticked_on, ticks_say}
use Rattle.uac_levels.proofs.RecordingLemmas.{one_way, rings_hold_an_interval}
use Rattle.uac_levels.specs.Past.{Pasts}
use Rattle.uac_levels.proofs.HomingTrailLemmas.{trail_home}
use Rattle.uac_promises.specs.ReportPromises.{HasMetNone, HaveMetNone, IsReportedLevel, IsTrueIn, IsTrueReport}
use Rattle.uac_promises.proofs.PromisesRunLemmas.{IsGoodRun}

-- ---- lines that are none of a report

abbrev is_report : Said → Bool
is_report (says_out_stream interface setting level target met) = true
is_report (says_in_stream interface setting level over lost) = true
is_report said = false

abbrev pub IsOther : Said → Type 0
IsOther said = is_report said ≡ false

no_report : (said other : Said) → IsOther said → is_report other ≡ true → said ≡ other → ⊥
no_report said other plain is same = true≢false (sym is ∙ sym (ap is_report same) ∙ plain)

pub other_true : (w : BusWorld) (pasts : Pasts) (said : Said) → IsOther said → IsTrueIn w pasts said
other_true (describing bytes meters) pasts said other = tt
other_true (running r) pasts said other = record {
  out_counts = λ interface setting level target met same. absurd (no_report said _ other refl same);
  in_counts = λ interface setting level over lost same. absurd (no_report said _ other refl same);
  primed = λ interface setting level target met same. absurd (no_report said _ other refl same);
  recording = λ interface setting level over lost i same there. absurd (no_report said _ other refl same);
}

-- ---- a microframe tells none

quiet : IsQuiet IsOther
quiet = record {
  microframe = λ number. refl;
  out = λ interface frames arrival. refl;
  in_ = λ interface frames lost. refl;
  frame = λ interface samples. refl;
  played = λ terminal samples. refl;
  feedback = λ interface value lost. refl;
}

tick_other : (c : ℕ) (r : RunningWorld) → All IsOther (tick c r).lines
tick_other c r =
    tick_says IsOther quiet c r (each_says IsOther says_under (finds_empty c (after_all_jacks c r)) (λ n passes. refl))
    (each_says IsOther says_over (finds_full c (after_all_jacks c r)) (λ n passes. refl))

domain_other : (c : ℕ) (r : RunningWorld) → ⊤ → All IsOther (domain_microframe c r).lines
unfolding domain_microframe
domain_other c r any =
    ticks_say IsOther quiet (λ v. ⊤) c (λ v all. tick_other c v) (λ v all. tt) (next_ticks c r.device) (record r { device = after_advance c r.device }) tt

pub microframe_other : (marks : List PhraseMark) (r : RunningWorld) → All IsOther (microframe marks r).lines
microframe_other marks r =
    microframe_says IsOther quiet marks r (outs_say IsOther quiet (λ interface. refl) r.detail marks (streaming_of (numbered r)))
    (domains_say IsOther quiet (λ v. ⊤) domain_other (λ c v any. tt) (fetched marks r).device.function.domains (fetched marks r) tt)
    (ends_say IsOther quiet (λ interface level target. refl) (ticked_on marks r).detail (streaming_of (ticked_on marks r)))

-- ---- the report of a good run

module _ (r : RunningWorld) (pasts : Pasts) (good : IsGoodRun r pasts) (none : HaveMetNone r) where
  abbrev IsSo : Said → Type 0
  IsSo = IsTrueReport r pasts

  plainly : (said : Said) → IsOther said → IsSo said
  plainly said other = other_true (running r) pasts said other

  -- the level of a primed stream, before its domain's ticks since its last interval ended
  before : (l : Life) (target : ℕ) → InBand l → l.out.target ≡ Some target → Within 130 (out_level l.out + l.out.ticks) target
  before l target band is =
      let following = subst (λ (o : Option ℕ). IsAt o l) is band.at in
      let p = following.0 in
      let b = following.1 in
      let near = robust_near l.out.stream.nominal 65 l.out.stream.service l.out.stream.period p band.intervals.reports b.robust in
      (omega (arith, near.0, b.level, b.target_is), omega (arith, near.1, b.level, b.target_is))

  -- what is told of a primed stream
  level_told : (k : ℕ) (o : OutStream) (target : ℕ) → r.device.outs k ≡ Some o → o.target ≡ Some target
      → IsReportedLevel r pasts k (out_level o) target o
  level_told k o target there is =
      let stream = good.band.streams k o there in
      let l : Life = stream.0 in
      let same : l.out ≡ o = stream.2 in
      let band = stream.3.band in
      let primed : l.out.target ≡ Some target = ap (λ (x : OutStream). x.target) same ∙ is in
      subst (λ (x : OutStream). IsReportedLevel r pasts k (out_level x) target x) same (record {
        near = λ ended. ends_near l target band primed ended;
        close = λ ended.
            (let home = trail_home l target (pasts k) band (good.trails k l target stream.3.runs.life primed) ended in
            record { settled = home.settled; tight = home.tight });
        before_ticks = before l target band primed;
        held = holds_between l target band primed;
      })

  abbrev Told : ℕ → ℕ → ℕ → Type 0
  Told k level target = (o : OutStream) × (r.device.outs k ≡ Some o) × IsReportedLevel r pasts k level target o

  primed_told : (k target : ℕ) → target_of r.device k ≡ Some target → Told k (level_of r.device k) target
  unfolding target_of level_of
  primed_told k target is = option_and_then_some (λ (o : OutStream). o.target) (r.device.outs k) target is (λ o there primed. (
    o,
    there,
    subst (λ (level : ℕ). IsReportedLevel r pasts k level target o)
        (sym (ap (λ (x : Option OutStream). level_in x (r.device.ins k)) there)) (level_told k o target there primed),
  ))

  abbrev Few : ℕ → ℕ → Type 0
  Few k level = (i : InStream) → r.device.ins k ≡ Some i → level ≤ i.stream.service * i.stream.nominal.hi

  recording_told : (k : ℕ) → Few k (level_of r.device k)
  unfolding level_of
  recording_told k i there =
      subst (λ (level : ℕ). level ≤ i.stream.service * i.stream.nominal.hi)
      (sym (ap (λ (x : Option OutStream). level_in x (r.device.ins k)) (no_out (r.device.outs k) refl)
      ∙ ap (λ (x : Option InStream). level_in None x) there))
      (rings_hold_an_interval r k i good.recorded there)
    where
      no_out : (o : Option OutStream) → r.device.outs k ≡ o → r.device.outs k ≡ None
      no_out None is = is
      no_out (Some o) is =
          absurd (one_way r.device.function k (good.recorded k i there).1.comes (good.band.streams k o is).3.runs.out)

  says_true : (out : Bool) (number setting level : ℕ) (target : Option ℕ) (met : StreamCounts) → HasMetNone met
      → ((t : ℕ) → target ≡ Some t → Told number level t) → Few number level → IsSo (says_stream out number setting level target met)
  says_true true number setting level target met none told few = record {
    out_counts = λ interface setting' level' target' met' same. (let counts : met ≡ met' = cc in subst HasMetNone counts none);
    in_counts = λ interface setting' level' over' lost' same. absurd (cc);
    primed = λ interface setting' level' target' met' same.
        (let at : number ≡ interface = cc in
        let frames : level ≡ level' = cc in
        let aim : target ≡ Some target' = cc in
        subst (λ (k : ℕ). Told k level' target') at (subst (λ (n : ℕ). Told number n target') frames (told target' aim)));
    recording = λ interface setting' level' over' lost' i same there. absurd (cc);
  }
  says_true false number setting level target met none told few = record {
    out_counts = λ interface setting' level' target' met' same. absurd (cc);
    in_counts = λ interface setting' level' over' lost' same. (let counts : met.over ≡ over' = cc in subst (λ (n : ℕ). n ≡ 0) counts none.never_full);
    primed = λ interface setting' level' target' met' same. absurd (cc);
    recording = λ interface setting' level' over' lost' i same there.
        (let at : number ≡ interface = cc in
        let frames : level ≡ level' = cc in
        subst (λ (n : ℕ). n ≤ i.stream.service * i.stream.nominal.hi) frames
        (few i (ap r.device.ins at ∙ there)));
  }

  stream_true : (s : StreamInterface) → IsSo (stream_line r.device r.met s)
  unfolding stream_line
  stream_true s = says_true s.out s.number (unwrap_or (setting_of r.device.settings s.number) 0) (level_of r.device s.number) (target_of r.device s.number) (r.met s.number)
      (none s.number) (primed_told s.number) (recording_told s.number)

  mapped_true : {A : Type 0} → (f : A → Said) → ((x : A) → IsSo (f x)) → (xs : List A) → All IsSo (map f xs)
  mapped_true f each xs = All-map IsSo f xs (λ k d h. each _)

  domain_true : (d : Domain) → IsSo (domain_line r.device d)
  unfolding domain_line
  domain_true d = plainly (domain_line r.device d) refl

  pub report_true : All IsSo (report_lines r)
  unfolding report_lines
  report_true =
      let last : List Said = says_renders r.renders ∷ [] in
      let meters : List Said = map says_meter r.meters in
      let streams : List Said = map (stream_line r.device r.met) r.device.function.streams in
      let domains : List Said = map (domain_line r.device) r.device.domains in
      let ended : All IsSo last = All-cons IsSo (says_renders r.renders) [] (plainly (says_renders r.renders) refl) (All-nil IsSo) in
      let heard : All IsSo (meters ++ last) =
      All-append IsSo meters last (mapped_true says_meter (λ reading. plainly (says_meter reading) refl) r.meters) ended in
      let streamed : All IsSo (streams ++ (meters ++ last)) =
      All-append IsSo streams (meters ++ last) (mapped_true (stream_line r.device r.met) stream_true r.device.function.streams) heard in
      let clocked : All IsSo (domains ++ (streams ++ (meters ++ last))) =
      All-append IsSo domains (streams ++ (meters ++ last)) (mapped_true (domain_line r.device) domain_true r.device.domains) streamed in
      let steady : Said = says_steady (world.is_steady r) in
      All-cons IsSo (says_time r.time) (steady ∷ domains ++ (streams ++ (meters ++ last))) (plainly (says_time r.time) refl)
      (All-cons IsSo steady (domains ++ (streams ++ (meters ++ last))) (plainly steady refl) clocked)
