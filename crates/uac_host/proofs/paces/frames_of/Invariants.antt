use Rattle.std.proofs.Common.{◌≡◌, ◌+◌, ◌*◌, ◌/◌, ◌%◌}
use Rattle.uac_host.proofs.paces.frames_of.Given as goal

abbrev pub invariant-loop : goal.invariant-loop
invariant-loop l = record {
  frames : l.frames ≡ (l.initial.pacer + l.counter * l.value) / 65536;
  kept : l.pacer ≡ (l.initial.pacer + l.counter * l.value) % 65536;
}
