-- The stream is that of a setting of the function's interface.
use Rattle.uac_host.proofs.HostKeptCallLemmas.{stream_given}
use Rattle.uac_tests.proofs.host.start.Goals as goal

pub set_stream-requires : goal.set_stream-requires
set_stream-requires c =
    stream_given c.args.function.now c.args.rate c.args.interface c.args.setting c.stream-stream.result c.functions_are_sound.ensures c.stream-stream.ensures.value
