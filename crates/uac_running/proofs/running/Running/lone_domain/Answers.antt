use Rattle.std.proofs.Common.{◌∙◌, ap, arith, sym, subst}
use Rattle.std.proofs.lemmas.Bool.{leb-true}
use Rattle.uac_topology.specs.Function.{FunctionFields}
use Rattle.uac_running.specs.RunningWorld.{streaming_of}
use Rattle.uac_running.specs.RunningKept.{RunningFields, RunningStands}
use Rattle.uac_running.proofs.AheadStandsLemmas.{only_one}
use Rattle.uac_running.proofs.running.Running.lone_domain.Goals as goal

pub returns-in-len1-clause-lone : goal.returns-in-len1-clause-lone
returns-in-len1-clause-lone c = λ meters r stands.
    let own = subst (λ (p : RunningFields). RunningStands p meters r) (sym c.self.view_is) stands in
    record {
      detail = omega (arith, own.detail, c.if-self-ge1.false);
      only =
          sym (c.domains.ensures ∙ ap (λ (f : FunctionFields). f.domains) (c.function.ensures ∙ own.streaming.device.function))
          ∙ only_one c.domains.result.now c.in-len1.len_at_least c.in-len1.len_below;
      few = leb-true _ _ (sym (c.has_few_ins.ensures c.self.inside.device (streaming_of r) own.streaming) ∙ c.if-not-has_few_ins.false);
    }

pub returns-in-len1-clause-packets : goal.returns-in-len1-clause-packets
returns-in-len1-clause-packets c = c.loses_no_packet.ensures c.if-not-loses_no_packet.false
