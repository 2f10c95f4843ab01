use Rattle.std.proofs.Common.{◌∙◌, sym, subst, List}
use Rattle.uac_edges.specs.Writing.{Writes}
use Rattle.uac_status.specs.Panels.{PanelWorld, all_followed}
use Rattle.uac_status.specs.PanelLines.{PanelLine, panel_text, says_none}
use Rattle.uac_status.specs.FrontKept.{FrontStands}
use Rattle.uac_status.proofs.FrontFollowLemmas.{none_followed, none_told}
use Rattle.uac_status.proofs.FrontLinkLemmas.{at_ok}
use Rattle.uac_status.proofs.PanelTextLemmas.{one_written}
use Rattle.uac_status.proofs.front.Front.follow_all.Goals as goal

pub returns-in-None-clause-tells : goal.returns-in-None-clause-tells
returns-in-None-clause-tells g c = λ w s.
    let none = sym c.first_message.ensures ∙ c.in-None.is in (
      subst (λ (lines : List PanelLine). Writes (g.K.Sink.written c.args.sink.now) (g.K.Sink.written c.write_no_message.new.sink) c.write_no_message.result (panel_text lines))
          (sym (none_told _ w c.args.self.now s none))
          (one_written _ _ c.write_no_message.result says_none c.write_no_message.ensures.written),
      at_ok (FrontStands c.args.self.now (all_followed w.pending w)) c.write_no_message.result
          (subst (λ (v : PanelWorld). FrontStands c.args.self.now v) (sym (none_followed _ w c.args.self.now s none)) s),
    )
