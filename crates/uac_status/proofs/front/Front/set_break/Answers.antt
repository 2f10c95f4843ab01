use Rattle.std.proofs.Common.{sym, subst}
use Rattle.uac_status.specs.FrontKept.{FrontFields, FrontStands}
use Rattle.uac_status.specs.contracts.front.Front.{the_view}
use Rattle.uac_status.proofs.FrontLinkLemmas.{break_stands}
use Rattle.uac_status.proofs.front.Front.set_break.Goals as goal

pub returns : goal.returns
returns c w stands =
    break_stands (the_view c.self.inside) w c.args.after _ (subst (λ (p : FrontFields). FrontStands p w) (sym c.self.view_is) stands) c.break_at.ensures
