use Rattle.std.proofs.Common.{◌∙◌, sym, rules, tests}
use Rattle.std.proofs.lemmas.Iterator.{YieldsList-from_slice}
use Rattle.std.proofs.lemmas.Iterator.Search.{all_from_yields_List}
use Rattle.std.proofs.lemmas.List.Folds.{list_all-map}
use Rattle.uac_script.specs.Line.{phrase_mark}
use Rattle.uac_script.specs.declared.line.Mark.{Mark}
use Rattle.uac_implicit.specs.PairLines as spec
use Rattle.uac_implicit.proofs.marks.are_of_pair.Goals as goal

pub returns : goal.returns
returns c =
    all_from_yields_List (λ (m : Mark). spec.is_of_pair (phrase_mark m)) _ _ _ c.all.ensures.ran (YieldsList-from_slice c.args.marks.now cc) (λ x b q k. search (rules, tests))
    ∙ sym (list_all-map spec.is_of_pair phrase_mark c.args.marks.now)
