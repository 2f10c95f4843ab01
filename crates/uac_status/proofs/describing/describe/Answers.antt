use Rattle.uac_status.proofs.describing.describe.Goals as goal

pub returns-in-Table-clause-does : goal.returns-in-Table-clause-does
returns-in-Table-clause-does c = λ none written. rw c.in-Table.is (c.describe_table.ensures.does none written)
