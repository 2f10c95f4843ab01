use Rattle.std.proofs.Common.{refl, ◌∙◌}
use Rattle.uac_device.specs.DeviceWorld.{resting_domain}
use Rattle.uac_transcript.proofs.PrintingLemmas.{front_of_lines, one_line_more}
use Rattle.uac_running.specs.ReportLines.{domain_line}
use Rattle.uac_running.proofs.ReportLinesLemmas.{below_domains, count_at}
use Rattle.uac_edges.proofs.WritingLemmas.{Writes-handed_on}
use Rattle.uac_running.proofs.report.write_domains.Goals as goal

pub returns-in_err-write_domain-clause-printed : goal.returns-in_err-write_domain-clause-printed
returns-in_err-write_domain-clause-printed g c = λ w stands same.
    let i = c.loop-count.count-index in
    let below = below_domains w c.args.counts.now i same c.loop-count-test.true in
    Writes-handed_on _ (g.K.Sink.written c.args.sink.now) (g.K.Sink.written c.write_domain.new.sink) c.from_residual.result _ c.from_residual.ensures.1 (
    front_of_lines _ _ _ (domain_line w) w.domains i (resting_domain 0) _ below
    (count_at c.args.device.now w c.args.counts.now i (resting_domain 0) (record { domain = 0; ticks = 0 }) _ c.domain_rate.result stands same below refl c.domain_rate.ensures)
    (c.loop-count.invariant.written w stands same) c.in_err-write_domain.ensures.written
    )

pub loop-count-preserved : goal.loop-count-preserved
loop-count-preserved g c = record {
  written = λ w stands same.
      let i = c.loop-count.count-index in
      let below = below_domains w c.args.counts.now i same c.loop-count-test.true in
      one_line_more _ _ _ (domain_line w) w.domains i (resting_domain 0) _ below
      (count_at c.args.device.now w c.args.counts.now i (resting_domain 0) (record { domain = 0; ticks = 0 }) _ c.domain_rate.result stands same below refl c.domain_rate.ensures)
      (c.loop-count.invariant.written w stands same) c.in_ok-write_domain.ensures.written;
  faultless = c.in_ok-write_domain.ensures.cause.faultless ∙ c.loop-count.invariant.faultless;
}
