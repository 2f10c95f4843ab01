use Rattle.std.proofs.Common.{sym, subst, refl}
use Rattle.uac_running.specs.RunningWorld.{jack_with_tone, with_jack_tone}
use Rattle.uac_running.specs.RunningKept.{RunningFields, RunningStands}
use Rattle.uac_device.proofs.ListChangeLemmas.{turned_back}
use Rattle.uac_running.proofs.RunningKeptLemmas.{domains_kept}
use Rattle.uac_running.proofs.RunningKeptJackLemmas.{jacks_toned}
use Rattle.uac_running.proofs.EventsLemmas.{toned_on}
use Rattle.uac_running.specs.contracts.running.Running.{the_view}
use Rattle.uac_running.proofs.running.Running.set_tone.Goals as goal

pub invariant_of-self : goal.invariant_of-self
invariant_of-self c =
    let jacks = turned_back (jack_with_tone c.args.terminal c.args.tone) c.self.inside.jacks.len c.self.inside.jacks.items c.deref_mut.result.now c.set_tone.new.jacks
    c.set_tone.ensures c.deref_mut.ensures.value c.deref_mut.ensures.len in (
      jacks_toned c.args.terminal c.args.tone (the_view c.self.inside) _ refl jacks c.self.invariant.0,
      domains_kept (the_view c.self.inside) _ refl refl c.self.invariant.1,
      c.self.invariant.2,
    )

pub returns-clause-stands : goal.returns-clause-stands
unfolding with_jack_tone
returns-clause-stands c meters r stands =
    let jacks = turned_back (jack_with_tone c.args.terminal c.args.tone) c.self.inside.jacks.len c.self.inside.jacks.items c.deref_mut.result.now c.set_tone.new.jacks
    c.set_tone.ensures c.deref_mut.ensures.value c.deref_mut.ensures.len in
    record {
      now = toned_on meters r (the_view c.self.inside) _ (subst (λ (p : RunningFields). RunningStands p meters r) (sym c.self.view_is) stands.now) c.args.terminal c.args.tone _ jacks refl;
      room = stands.room;
    }
