use Rattle.std.proofs.Common.{◌∙◌}
use Rattle.uac_ends.proofs.ClosingLemmas.{closes_memory}
use Rattle.uac_listing.proofs.AnsweredLemmas.{refuses_fault, refuses_memory}
use Rattle.uac_listing.proofs.describing.refuse.Goals as goal

pub returns-in-Fault : goal.returns-in-Fault
returns-in-Fault g c = refuses_fault _ _ _ _ _ _ _ _ c.in-Fault.is (c.as_bytes.ensures.text ∙ c.refusal_line.ensures) c.close.ensures

pub returns-in-NoMemory : goal.returns-in-NoMemory
returns-in-NoMemory g c = refuses_memory _ _ _ _ _ _ c.in-NoMemory.is (closes_memory _ _ _ _ _ c.close-in-NoMemory.ensures)
