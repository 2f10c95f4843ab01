use Rattle.uac_status.proofs.DeskDescriptorLemmas.{fed_well, fed_ill}
use Rattle.uac_status.proofs.describing.feed.Goals as goal

pub returns-in-Ok-clause-does : goal.returns-in-Ok-clause-does
returns-in-Ok-clause-does c = λ none written.
    fed_well c.args.reader.now.taken c.args.bytes.now c.feed.new.self written c.in-Ok.ensures.answer
    (c.in-Ok.ensures.takes none c.in-Ok.ensures.answer) (c.in-Ok.ensures.shown none)

pub returns-in-Err-clause-does : goal.returns-in-Err-clause-does
returns-in-Err-clause-does c = λ none written.
    fed_ill c.args.reader.now.taken c.args.bytes.now c.in-Err.stop c.feed.new.self.stop c.line_fault.result c.from.result written c.in-Err.ensures.answer
    (c.in-Err.ensures.shown none) c.from.ensures c.line_fault.ensures
