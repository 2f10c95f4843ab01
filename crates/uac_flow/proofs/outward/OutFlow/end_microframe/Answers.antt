-- The count rises in each microframe; what else happens is as the microframe is due.
use Rattle.std.proofs.Common.{◌≡◌, ◌∙◌, true, false, sym}
use Rattle.uac_flow.specs.FlowStreams.{is_due}
use Rattle.uac_flow.proofs.FlowStreamsLemmas.{keeps_due, keeps_later, keeps_not_due, later}
use Rattle.uac_flow.proofs.outward.OutFlow.end_microframe.Goals as goal

pub returns-then-is_due-clause-stands : goal.returns-then-is_due-clause-stands
returns-then-is_due-clause-stands c = λ o keeps fits.
    let due : is_due o.stream o.microframes ≡ true = sym (c.is_due-is_due.ensures c.args.ring.now o keeps) ∙ c.if-is_due.true in
    let now = keeps_later c.args.ring.now c.args.self.now o c.next_count-self.result keeps (c.next_count-self.ensures.next o.microframes keeps.microframes) in
    keeps_due c.end_interval.new.ring c.end_interval.new.self o due (c.end_interval.ensures.stands (later o) now (fits due))

pub returns-else-is_due-clause-stands : goal.returns-else-is_due-clause-stands
returns-else-is_due-clause-stands c = λ o keeps fits.
    let due : is_due o.stream o.microframes ≡ false = sym (c.is_due-is_due.ensures c.args.ring.now o keeps) ∙ c.if-is_due.false in
    keeps_not_due c.args.ring.now (record c.args.self.now { microframes = c.next_count-self.result }) o due
    (keeps_later c.args.ring.now c.args.self.now o c.next_count-self.result keeps (c.next_count-self.ensures.next o.microframes keeps.microframes))
