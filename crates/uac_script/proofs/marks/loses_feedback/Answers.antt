use Rattle.std.proofs.Common.{◌==◌, ◌&&◌, ◌∙◌, rules, tests}
use Rattle.std.proofs.lemmas.Iterator.{YieldsList-from_slice}
use Rattle.std.proofs.lemmas.Iterator.Search.{any_from_yields_List}
use Rattle.uac_script.specs.Line.{phrase_mark}
use Rattle.uac_script.specs.Phrase.{PhraseMark}
use Rattle.uac_script.specs.declared.line.Mark.{Mark}
use Rattle.uac_script.specs.Losses as spec
use Rattle.uac_script.proofs.LossesLemmas.{any_of_map}
use Rattle.uac_script.proofs.marks.loses_feedback.Goals as goal

pub returns : goal.returns
returns c =
    any_from_yields_List (λ (m : Mark). spec.marks_feedback m.kind && m.interface == c.args.interface) _ _ _ c.any.ensures.ran
    (YieldsList-from_slice c.args.marks.now cc) (λ x b q k. search (rules, tests))
    ∙ any_of_map (λ (l : PhraseMark). spec.marks_feedback l.kind && spec.is_at l.interface c.args.interface) phrase_mark c.args.marks.now
