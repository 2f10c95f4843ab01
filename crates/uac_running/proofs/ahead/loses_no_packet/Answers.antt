use Rattle.std.proofs.Common.{◌∙◌, sym, rules, tests}
use Rattle.std.proofs.lemmas.Iterator.{YieldsList-from_slice}
use Rattle.std.proofs.lemmas.Iterator.Search.{all_from_yields_List}
use Rattle.uac_script.specs.Losses.{marks_feedback}
use Rattle.uac_script.specs.declared.line.Mark.{Mark}
use Rattle.uac_running.proofs.LossesLemmas.{reports_alone}
use Rattle.uac_running.proofs.ahead.loses_no_packet.Goals as goal

pub returns : goal.returns
returns c is =
    reports_alone c.args.marks.now
    (sym (all_from_yields_List (λ (m : Mark). marks_feedback m.kind) _ _ _ c.all.ensures.ran (YieldsList-from_slice c.args.marks.now cc) (λ x b q k. search (rules, tests))) ∙ is)
