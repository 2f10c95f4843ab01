use Rattle.uac_status.proofs.describing.describe_table.Goals as goal

pub returns-in-Bytes-clause-does : goal.returns-in-Bytes-clause-does
returns-in-Bytes-clause-does c = λ none written. rw c.in-Bytes.is (c.feed.ensures.does none written)
