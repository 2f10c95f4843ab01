use Rattle.std.proofs.Common.{◌∙◌}
use Rattle.uac_ends.proofs.ClosingLemmas.{closes_memory}
use Rattle.uac_listing.proofs.AnsweredLemmas.{refuses_function, refuses_function_memory}
use Rattle.uac_listing.proofs.describing.refuse_function.Goals as goal

pub returns-in-Fault : goal.returns-in-Fault
returns-in-Fault g c = refuses_function _ _ _ _ _ _ _ _ c.in-Fault.is (c.as_bytes.ensures.text ∙ c.unsound_line.ensures) c.close.ensures

pub returns-in-NoMemory : goal.returns-in-NoMemory
returns-in-NoMemory g c = refuses_function_memory _ _ _ _ _ _ c.in-NoMemory.is (closes_memory _ _ _ _ _ c.close-in-NoMemory.ensures)
