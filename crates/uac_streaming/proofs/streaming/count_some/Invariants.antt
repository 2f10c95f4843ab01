use Rattle.std.proofs.Common.{◌≡◌, ◌++◌, take, drop}
use Rattle.uac_streaming.proofs.StreamingWorldFoundLemmas.{found_in}
use Rattle.uac_streaming.proofs.streaming.count_some.Given as goal

abbrev pub invariant-loop-counts : goal.invariant-loop-counts
invariant-loop-counts l =
    take l.counts-index l.met ++ found_in l.empty l.full (drop l.counts-index l.met) ≡ found_in l.initial.empty l.initial.full l.initial.met
