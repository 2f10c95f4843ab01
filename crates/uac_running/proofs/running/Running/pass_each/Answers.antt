use Rattle.std.proofs.Common.{◌≡◌, ◌∙◌, ◌+◌, ◌<◌, ap, arith, length, refl, subst, sym, ℕ, List}
use Rattle.std.specs.List.{sum}
use Rattle.std.proofs.lemmas.List.{take_all}
use Rattle.uac_units.specs.Hearing.{at_most_u64}
use Rattle.uac_running.specs.RunningKept.{RunningFields, RunningStands}
use Rattle.uac_running.specs.Quiet.{gone_by, ticks_of_each}
use Rattle.uac_running.proofs.EventsLemmas.{passed}
use Rattle.uac_running.proofs.IdleLemmas.{gone_after, gone_none, none_each, sum_kept, sum_more, ticks_more}
use Rattle.uac_running.proofs.running.Running.pass_each.Goals as goal

pub loop-index-init : goal.loop-index-init
loop-index-init c = record {
  stands = λ meters r stands. gone_none c.args.domain c.args.self.now meters r stands;
  first = λ meters r stands. none_each c.args.domain c.args.ticks.now r;
  all = refl;
  few = omega arith;
  function = refl;
  detail = refl;
}

pub loop-index-preserved : goal.loop-index-preserved
loop-index-preserved c =
    let domain = c.args.domain in
    let at = c.loop-index.index in
    let below : at < length c.loop-index.ticks = omega arith in
    record {
      stands = λ meters r stands.
          let later = gone_by domain at r in
          gone_after domain at c.advance-more.new.self meters r
          (c.advance-more.ensures.stands meters (record later { time = at_most_u64 (later.time + 1) })
          (passed meters later c.loop-index.self c.pass.new.self (c.loop-index.invariant.stands meters r stands) c.pass.ensures));
      first = λ meters r stands.
          let later = gone_by domain at r in
          ticks_more domain at c.advance-more.result c.loop-index.ticks _ r (c.loop-index.invariant.first meters r stands) below
          (c.advance-more.ensures.ticks meters (record later { time = at_most_u64 (later.time + 1) })
          (passed meters later c.loop-index.self c.pass.new.self (c.loop-index.invariant.stands meters r stands) c.pass.ensures))
          refl;
      all = sum_more at c.advance-more.result c.loop-index.waiting c.loop-index.ticks _ c.loop-index.invariant.all below refl;
      few = omega (arith, c.loop-index.invariant.few, c.advance-more.ensures.few);
      function = c.advance-more.ensures.function ∙ ap (λ (p : RunningFields). p.device.function) c.pass.ensures ∙ c.loop-index.invariant.function;
      detail = c.advance-more.ensures.detail ∙ ap (λ (p : RunningFields). p.detail) c.pass.ensures ∙ c.loop-index.invariant.detail;
    }

pub returns-clause-stands : goal.returns-clause-stands
returns-clause-stands c meters r stands =
    let whole : c.loop-index.index ≡ length c.args.ticks.now = omega (arith, c.loop-index-test.false) in
    subst (λ (n : ℕ). RunningStands c.loop-index.self meters (gone_by c.args.domain n r)) whole (c.loop-index.invariant.stands meters r stands)

pub returns-clause-ticks : goal.returns-clause-ticks
returns-clause-ticks c meters r stands =
    let whole : c.loop-index.index ≡ length c.args.ticks.now = omega (arith, c.loop-index-test.false) in
    sym (take_all c.loop-index.index c.loop-index.ticks (omega (arith, whole)))
    ∙ c.loop-index.invariant.first meters r stands
    ∙ ap (λ (n : ℕ). ticks_of_each c.args.domain n r) whole

pub returns-clause-sum : goal.returns-clause-sum
returns-clause-sum c =
    let whole : c.loop-index.index ≡ length c.args.ticks.now = omega (arith, c.loop-index-test.false) in
    c.loop-index.invariant.all ∙ ap (λ (ts : List ℕ). sum ts) (take_all c.loop-index.index c.loop-index.ticks (omega (arith, whole)))

pub returns-clause-kept : goal.returns-clause-kept
returns-clause-kept c meters r stands =
    let whole : c.loop-index.index ≡ length c.args.ticks.now = omega (arith, c.loop-index-test.false) in
    c.loop-index.invariant.all
    ∙ ap (λ (ts : List ℕ). sum ts) (c.loop-index.invariant.first meters r stands)
    ∙ ap (λ (n : ℕ). sum (ticks_of_each c.args.domain n r)) whole
    ∙ sum_kept (length c.args.ticks.now) c.args.domain c.args.self.now meters r stands
