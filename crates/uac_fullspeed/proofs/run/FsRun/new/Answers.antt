-- A stream at its start stands for the world at its start.
use Rattle.std.proofs.Common.{arith, refl, pos, negsuc}
use Rattle.std.proofs.lemmas.Int.{ints}
use Rattle.uac_fullspeed.specs.FullSpeedKept.{FsRunFields}
use Rattle.uac_fullspeed.proofs.BandsLemmas.{leaves_room}
use Rattle.uac_fullspeed.proofs.RunLemmas.{starts}
use Rattle.uac_fullspeed.proofs.run.FsRun.new.Goals as goal

pub invariant_of-result : goal.invariant_of-result
invariant_of-result c =
    let room = leaves_room c.args.nominal c.requires in
    record { of_a_rate = c.requires; fits = omega (arith, room.band.above, room.most); low = omega (arith, ints); high = omega (arith, ints); counted = omega arith }

pub returns : goal.returns
returns c = λ hertz h.
    let run : FsRunFields = record {
      nominal = c.args.nominal;
      stream = c.in_ok-stream.stream;
      clock = c.new-2.result;
      pace = c.new-3.result;
      value = c.args.nominal.f;
      deviation = pos 0;
      steady = c.new-4.result;
      detail = 0;
      time = 0;
      since = 0;
    } in
    starts run c.args.nominal hertz h refl refl refl refl refl refl c.new-3.ensures.stands c.new-2.ensures c.in_ok-stream.ensures c.new-4.ensures.stands
