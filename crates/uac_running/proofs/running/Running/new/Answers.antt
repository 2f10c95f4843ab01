use Rattle.std.proofs.Common.{refl}
use Rattle.uac_running.proofs.RunningKeptStartLemmas.{domains_start, jacks_start, stands_start}
use Rattle.uac_running.proofs.running.Running.new.Goals as goal

pub invariant_of-result : goal.invariant_of-result
invariant_of-result c =
    let here = c.in-Ok.ensures.stands in
    let jacks = c.in_ok-beside.ensures.jacks in
    let counts = c.in_ok-beside.ensures.counts in (
      jacks_start c.args.function c.functions_are_sound.ensures _ here jacks counts,
      domains_start c.args.function c.functions_are_sound.ensures _ here jacks counts,
      c.in-Ok.ensures.of_function,
    )

pub returns-in-Ok-clause-stands : goal.returns-in-Ok-clause-stands
returns-in-Ok-clause-stands c =
    let here = c.in-Ok.ensures.stands in
    λ descriptor meters.
    stands_start c.args.function c.functions_are_sound.ensures _ here c.in_ok-beside.ensures.jacks c.in_ok-beside.ensures.counts (c.in_ok-beside.ensures.streaming _ here)
    c.in-Ok.ensures.view refl refl refl refl descriptor meters
