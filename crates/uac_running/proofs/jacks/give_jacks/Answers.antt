use Rattle.std.proofs.Common.{◌≡◌, ◌∙◌, sym, subst, true, arith}
use Rattle.std.specs.List.{All}
use Rattle.uac_topology.specs.Function.{FunctionFields}
use Rattle.uac_graph.specs.Meaning.{entity}
use Rattle.uac_device.specs.DeviceWorld.{is_input_jack}
use Rattle.uac_device.specs.declared.jacks.Jack.{Jack}
use Rattle.uac_running.specs.Events.{after_one}
use Rattle.uac_device.proofs.ListChangeLemmas.{turned_all, turned_more, untouched_holds}
use Rattle.uac_running.proofs.RunningKeptJackLemmas.{gives_next}
use Rattle.uac_running.proofs.jacks.give_jacks.Goals as goal

pub give_jack-requires-clause-kind : goal.give_jack-requires-clause-kind
give_jack-requires-clause-kind c =
    untouched_holds (λ (j : Jack). is_input_jack (entity c.loop-jack.device.function.entities j.terminal) ≡ true) (after_one c.args.domain) c.loop-jack.jacks c.args.jacks.now
    c.loop-jack.jack-index _
    (subst (λ (f : FunctionFields). All (λ (j : Jack). is_input_jack (entity f.entities j.terminal) ≡ true) c.args.jacks.now) (sym c.loop-jack.invariant.function) c.requires.kinds)
    (omega arith) c.loop-jack.invariant.changed

pub give_jack-requires-clause-channels : goal.give_jack-requires-clause-channels
give_jack-requires-clause-channels c =
    untouched_holds (λ (j : Jack). (entity c.loop-jack.device.function.entities j.terminal).cluster.channels ≡ j.channels) (after_one c.args.domain) c.loop-jack.jacks
    c.args.jacks.now c.loop-jack.jack-index _
    (subst (λ (f : FunctionFields). All (λ (j : Jack). (entity f.entities j.terminal).cluster.channels ≡ j.channels) c.args.jacks.now) (sym c.loop-jack.invariant.function)
    c.requires.channels)
    (omega arith) c.loop-jack.invariant.changed

pub loop-jack-preserved : goal.loop-jack-preserved
loop-jack-preserved c = record {
  changed =
      turned_more (after_one c.args.domain) c.loop-jack.jacks c.args.jacks.now c.loop-jack.jack-index c.give_jack.new.jack _
      (omega (arith, c.loop-jack.invariant.changed.same)) c.loop-jack.invariant.changed c.give_jack.ensures.jack;
  stands = λ w stands.
      gives_next c.args.domain c.args.jacks.now c.loop-jack.jacks c.loop-jack.jack-index _ w c.give_jack.new.device c.loop-jack-test.true c.loop-jack.invariant.changed
      (c.give_jack.ensures.stands _ (c.loop-jack.invariant.stands w stands));
  function = c.give_jack.ensures.function ∙ c.loop-jack.invariant.function;
}

pub returns-clause-jacks : goal.returns-clause-jacks
returns-clause-jacks c =
    turned_all (after_one c.args.domain) c.loop-jack.jacks c.args.jacks.now c.loop-jack.jack-index (omega (arith, c.loop-jack.invariant.changed.same)) c.loop-jack.invariant.changed
