use Rattle.std.proofs.Common.{List, ap, map, subst, sym, ◌∙◌, ◌≢◌}
use Rattle.std.specs.Prelude.{string_bytes}
use Rattle.uac_ends.specs.declared.status.Status.{Status}
use Rattle.uac_ends.specs.declared.status.Status.TheVariants as statuses
use Rattle.uac_c.proofs.TellingLemmas.{answers}
use Rattle.uac_c.proofs.telling.answer_to.Goals as goal

pub returns-clause-answered : goal.returns-clause-answered
returns-clause-answered c =
    answers _ _ _ _ _ _ _ _ _ _ _ _ _ (ap (λ ws. map (λ word. string_bytes word) ws) c.deref.ensures.value ∙ c.in_ok-words.ensures)
    (c.new-source.ensures ∙ c.in_ok-from_slice.ensures.copied) c.new-sink.ensures.empty c.new-sink.ensures.faultless
    c.in_ok-status.ensures.same c.in_ok-status.ensures.written c.in_ok-status.ensures.found c.in_ok-ended.ensures.run c.into_bytes.ensures
