use Rattle.std.proofs.Common.{◌≡◌, ◌∙◌, ◌+◌, ◌-◌, ◌<◌, ℕ, arith, nat_le, true, refl, ap, sym, subst, List, []}
use Rattle.std.specs.Io.KnownBytes.{Appends}
use Rattle.uac_edges.specs.Writing.{AppendsFront, Writes}
use Rattle.uac_edges.proofs.WritingLemmas.{Writes-handed_on}
use Rattle.uac_transcript.specs.Printing.{text_of}
use Rattle.uac_transcript.specs.Transcript.{Said}
use Rattle.uac_running.specs.EventTicks.{device_after, shown_from}
use Rattle.uac_running.specs.ReportLines.{Gathers, Shows}
use Rattle.uac_running.specs.RunningKept.{RunningFields}
use Rattle.uac_running.proofs.EventRowsLemmas.{front_shown, is_told, none_shown, shown_more, shows_tick}
use Rattle.uac_running.proofs.GatheringLemmas.{gathered_printed, none_gathered}
use Rattle.uac_running.proofs.TellingLemmas.{Appends-nothing}
use Rattle.uac_running.proofs.running.Running.show_rows.Goals as goal

pub gather_jacks-requires : goal.gather_jacks-requires
gather_jacks-requires g c = omega (arith, c.loop-tick-test.true, c.requires)

pub loop-tick-init : goal.loop-tick-init
unfolding shown_from
loop-tick-init g c =
    let old = g.K.Sink.written c.args.sink.now in
    let none : 0 ≡ c.args.from - c.args.from = omega arith in
    record {
      gathered = λ done r within detail function hold.
          subst (λ (k : ℕ). Gathers old old c.new-text.result (shown_from c.args.domain c.args.from k r)) none
          (subst (λ (text : List ℕ). Gathers old old text []) (sym c.new-text.ensures) (none_gathered old));
      least = omega arith;
      faultless = refl;
    }

pub returns-then-self-eq0-clause-printed : goal.returns-then-self-eq0-clause-printed
returns-then-self-eq0-clause-printed g c = λ done r within detail function hold.
    let old = g.K.Sink.written c.args.sink.now in
    let own : c.self.inside.detail ≡ r.detail = ap (λ (p : RunningFields). p.detail) c.self.view_is ∙ detail in
    subst (λ (lines : List Said). Appends old old (text_of lines)) (sym (none_shown c.args.domain c.args.from c.args.count r (sym own ∙ c.if-self-eq0.true)))
    (Appends-nothing old)

pub loop-tick-preserved : goal.loop-tick-preserved
loop-tick-preserved g c = record {
  gathered = λ done r within detail function hold.
      let tick = c.loop-tick.tick in
      let from = c.args.from in
      let domain = c.args.domain in
      let told : nat_le 1 r.detail ≡ true =
      is_told c.self.inside.detail r.detail c.if-self-eq0.false (ap (λ (p : RunningFields). p.detail) c.self.view_is ∙ detail) in
      let old = g.K.Sink.written c.args.sink.now in
      let new = g.K.Sink.written c.gather_jacks.new.sink in
      let below : tick < done = omega (arith, c.loop-tick-test.true, within) in
      let next : tick + 1 ≡ from + (tick - from) + 1 = omega (arith, c.loop-tick.invariant.least) in
      let passed : (tick - from) + 1 ≡ (tick + 1) - from = omega (arith, c.loop-tick.invariant.least) in
      subst (λ (k : ℕ). Gathers old new c.gather_jacks.new.text (shown_from domain from k r)) passed
      (subst (Gathers old new c.gather_jacks.new.text) (sym (shown_more domain from (tick - from) (tick + 1) r told next))
      (c.in_ok-gather_jacks.ensures.gathered old (shown_from domain from (tick - from) r) (device_after domain (tick + 1) r)
      (subst (λ (p : RunningFields). Shows tick domain p.device (device_after domain (tick + 1) r)) (sym c.self.view_is)
      (shows_tick domain done tick r c.args.self.now.device function hold below))
      (c.loop-tick.invariant.gathered done r within detail function hold)));
  least = omega (arith, c.loop-tick.invariant.least);
  faultless = c.in_ok-gather_jacks.ensures.cause.faultless ∙ c.loop-tick.invariant.faultless;
}

pub returns-in_err-gather_jacks-clause-printed : goal.returns-in_err-gather_jacks-clause-printed
returns-in_err-gather_jacks-clause-printed g c = λ done r within detail function hold.
    let tick = c.loop-tick.tick in
    let from = c.args.from in
    let domain = c.args.domain in
    let told : nat_le 1 r.detail ≡ true =
    is_told c.self.inside.detail r.detail c.if-self-eq0.false (ap (λ (p : RunningFields). p.detail) c.self.view_is ∙ detail) in
    let old = g.K.Sink.written c.args.sink.now in
    let new = g.K.Sink.written c.gather_jacks.new.sink in
    let below : tick < done = omega (arith, c.loop-tick-test.true, within) in
    let next : tick + 1 ≡ from + (tick - from) + 1 = omega (arith, c.loop-tick.invariant.least) in
    let rest : c.args.count ≡ (from + c.args.count - (tick + 1)) + ((tick - from) + 1) = omega (arith, c.loop-tick-test.true, c.loop-tick.invariant.least) in
    Writes-handed_on _ old new c.from_residual.result _ c.from_residual.ensures.1
    (front_shown domain from ((tick - from) + 1) (from + c.args.count - (tick + 1)) c.args.count r old new rest
    (subst (λ (lines : List Said). AppendsFront old new (text_of lines)) (sym (shown_more domain from (tick - from) (tick + 1) r told next))
    (c.in_err-gather_jacks.ensures.gathered old (shown_from domain from (tick - from) r) (device_after domain (tick + 1) r)
    (subst (λ (p : RunningFields). Shows tick domain p.device (device_after domain (tick + 1) r)) (sym c.self.view_is)
    (shows_tick domain done tick r c.args.self.now.device function hold below))
    (c.loop-tick.invariant.gathered done r within detail function hold))))

pub returns-clause-printed : goal.returns-clause-printed
returns-clause-printed g c = λ done r within detail function hold.
    let old = g.K.Sink.written c.args.sink.now in
    let mid = g.K.Sink.written c.loop-tick.sink in
    let new = g.K.Sink.written c.give_all.new.sink in
    let all : c.loop-tick.tick - c.args.from ≡ c.args.count = omega (arith, c.loop-tick-test.false, c.loop-tick.invariant.least) in
    gathered_printed old mid new c.give_all.result c.loop-tick.text (shown_from c.args.domain c.args.from c.args.count r)
    (subst (Writes mid new c.give_all.result) c.as_bytes.ensures.text c.give_all.ensures.written)
    (subst (λ (k : ℕ). Gathers old mid c.loop-tick.text (shown_from c.args.domain c.args.from k r)) all
    (c.loop-tick.invariant.gathered done r within detail function hold))
