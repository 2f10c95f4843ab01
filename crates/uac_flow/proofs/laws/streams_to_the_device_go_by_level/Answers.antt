use Rattle.std.proofs.Common.{◌∙◌, sym, ap, add-one, ℕ}
use Rattle.uac_flow.specs.FlowTicks.{out_after_ticks}
use Rattle.uac_flow.proofs.FlowTicksLemmas.{out_none, out_more, out_next, out_dry}
use Rattle.uac_flow.proofs.laws.streams_to_the_device_go_by_level.Goals as goal

pub returns-clause-none : goal.returns-clause-none
returns-clause-none c = out_none

pub returns-clause-more : goal.returns-clause-more
returns-clause-more c = λ t o. ap (λ (n : ℕ). out_after_ticks n o) (add-one t) ∙ sym (out_more t o)

pub returns-clause-next : goal.returns-clause-next
returns-clause-next c = out_next

pub returns-clause-dry : goal.returns-clause-dry
returns-clause-dry c = out_dry
