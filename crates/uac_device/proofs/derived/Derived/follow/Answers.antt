use Rattle.std.proofs.Common.{◌∙◌, ◌/◌, sym, subst, arith, List, ℤ}
use Rattle.std.specs.List.{All}
use Rattle.uac_store.specs.declared.keys.Key.{Key}
use Rattle.uac_entities.specs.declared.entity.Entity.{Entity}
use Rattle.uac_graph.specs.GraphControls.{controls_in}
use Rattle.uac_graph.specs.Jobs.{AreJobs}
use Rattle.uac_device.specs.Following.{IsDerived, IsDomainRate, renewed_rate}
use Rattle.uac_device.proofs.FollowingLemmas.{renewed_paces, same_paces}
use Rattle.uac_device.proofs.ListChangeLemmas.{turned_back}
use Rattle.uac_device.proofs.derived.Derived.follow.Goals as goal

pub returns-then-not-sets_control : goal.returns-then-not-sets_control
returns-then-not-sets_control c before is left =
    subst (λ (controls : List (Key × ℤ)). IsDerived c.args.function.now controls c.args.self.now)
    (sym (left.same (sym c.sets_control.ensures ∙ c.if-not-sets_control.true))) is

pub returns-then-names_clock : goal.returns-then-names_clock
returns-then-names_clock c before is left =
    let entities = c.args.function.now.entities in
    let controls = c.args.store.now in
    record {
      asked =
          subst (λ (graph : List Entity). AreJobs graph (controls_in controls) c.renew.new.jobs) c.requires.graph
          (c.renew.ensures (controls_in before) (subst (λ (graph : List Entity). AreJobs graph (controls_in before) c.args.self.now.jobs) (sym c.requires.graph) is.asked) left.others);
      paced =
          subst (All (IsDomainRate entities controls))
          (sym (turned_back (renewed_rate entities controls) c.args.self.now.rates.len c.args.self.now.rates.items c.deref_mut.result.now c.renew-then-names_clock.new.rates c.renew-then-names_clock.ensures
          c.deref_mut.ensures.value (omega arith)))
          (renewed_paces entities controls c.args.self.now.rates.items);
      heard = is.heard;
    }

pub returns-else-names_clock : goal.returns-else-names_clock
returns-else-names_clock c before is left =
    let controls = c.args.store.now in
    record {
      asked =
          subst (λ (graph : List Entity). AreJobs graph (controls_in controls) c.renew.new.jobs) c.requires.graph
          (c.renew.ensures (controls_in before) (subst (λ (graph : List Entity). AreJobs graph (controls_in before) c.args.self.now.jobs) (sym c.requires.graph) is.asked) left.others);
      paced =
          same_paces c.args.function.now.entities before controls (c.args.setup.now.index / 256) c.args.self.now.rates.items left.others (sym c.names_clock.ensures ∙ c.if-names_clock.false) is.paced;
      heard = is.heard;
    }
