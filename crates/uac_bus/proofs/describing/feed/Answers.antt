use Rattle.uac_bus.proofs.BusWorldDescriptorLemmas.{fed_well, fed_ill, final_handed_on, unwritten_handed_on}
use Rattle.uac_bus.proofs.describing.feed.Goals as goal

pub returns-clause-does : goal.returns-clause-does
returns-clause-does c = λ none shown written.
    fed_well c.args.reader.now.taken c.args.bytes.now c.feed.new.self shown written c.in_ok-feed.ensures.answer
    (c.in_ok-feed.ensures.takes none c.in_ok-feed.ensures.answer) (c.in_ok-feed.ensures.shown none)

pub returns-in_err-feed-clause-does : goal.returns-in_err-feed-clause-does
returns-in_err-feed-clause-does c = λ none shown written.
    fed_ill c.args.reader.now.taken c.args.bytes.now _ c.feed.new.self.stop shown written _ c.from_residual.result c.in_err-feed.ensures.answer
    (c.in_err-feed.ensures.shown none) c.from_residual.ensures.1

pub returns-in_err-feed-clause-fault : goal.returns-in_err-feed-clause-fault
returns-in_err-feed-clause-fault c = final_handed_on _ c.from_residual.result c.from_residual.ensures.1

pub returns-in_err-feed-clause-unwritten : goal.returns-in_err-feed-clause-unwritten
returns-in_err-feed-clause-unwritten c = unwritten_handed_on _ c.from_residual.result c.from_residual.ensures.1
