use Rattle.std.proofs.Common.{◌∙◌, ap, rules, tests}
use Rattle.std.specs.List.{list_all}
use Rattle.std.proofs.lemmas.Iterator.{YieldsList-from_slice}
use Rattle.std.proofs.lemmas.Iterator.Search.{all_from_yields_List}
use Rattle.uac_streaming.specs.StreamingKept.{StreamingFields}
use Rattle.uac_streaming.specs.StreamingWaits as spec
use Rattle.uac_streaming.proofs.streaming.Streaming.all_fit.Goals as goal

pub returns : goal.returns
returns c w stands =
    all_from_yields_List (spec.fits w) _ _ _ c.all.ensures.ran (YieldsList-from_slice c.self.inside.outs.items cc) (λ x b q k. search (rules, tests))
    ∙ ap (list_all (spec.fits w)) (ap (λ (p : StreamingFields). p.outs) c.self.view_is ∙ stands.outs)
