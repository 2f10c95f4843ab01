use Rattle.std.proofs.Common.{◌≡◌, ◌∙◌, ap, arith, map, subst, sym, List}
use Rattle.std.specs.Io.KnownBytes.{Appends}
use Rattle.uac_running.proofs.TellingLemmas.{Appends-nothing}
use Rattle.uac_script.specs.Line.{phrase_mark}
use Rattle.uac_transcript.specs.Printing.{text_of}
use Rattle.uac_transcript.specs.Transcript.{Said}
use Rattle.uac_units.specs.MeterReadings.{readings}
use Rattle.uac_running.specs.Quiet.{IsQuiet}
use Rattle.uac_running.specs.RunningKept.{RunningFields}
use Rattle.uac_running.proofs.QuietLemmas.{quiet_lines}
use Rattle.uac_running.proofs.running.Running.microframes.Goals as goal

pub returns-then-self-ge1-clause-tells : goal.returns-then-self-ge1-clause-tells
returns-then-self-ge1-clause-tells g c r stands =
    let shown = readings (λ v x. (goal.Meter-dyn g (v, x)).reading_of x) c.args.meters.now in
    c.idle_microframes.ensures.tells (map phrase_mark c.args.marks.now) r stands (c.in-Some.ensures shown r stands.now)

pub returns-in-Some-clause-tells : goal.returns-in-Some-clause-tells
returns-in-Some-clause-tells g c r stands =
    let shown = readings (λ v x. (goal.Meter-dyn g (v, x)).reading_of x) c.args.meters.now in
    let marks = map phrase_mark c.args.marks.now in
    let old = g.K.Sink.written c.args.sink.now in
    let detail : c.self.inside.detail ≡ r.detail = ap (λ (p : RunningFields). p.detail) c.self.view_is ∙ stands.now.detail in
    let quiet : IsQuiet c.in-Some.domain r = record { detail = omega (arith, detail, c.if-self-ge1.false); idle = c.in-Some.ensures shown r stands.now } in (
      subst (λ (lines : List Said). Appends old old (text_of lines)) (sym (quiet_lines marks c.args.count c.in-Some.domain r quiet)) (Appends-nothing old),
      c.quiet_microframes.ensures marks r stands quiet,
    )

pub returns-in-Some-lone_domain-clause-tells : goal.returns-in-Some-lone_domain-clause-tells
returns-in-Some-lone_domain-clause-tells g c r stands =
    let shown = readings (λ v x. (goal.Meter-dyn g (v, x)).reading_of x) c.args.meters.now in
    c.ahead_microframes.ensures.tells r stands (c.in-Some-lone_domain.ensures.lone shown r stands.now)
