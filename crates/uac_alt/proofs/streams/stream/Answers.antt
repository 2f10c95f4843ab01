-- The stream is that of what was found.
use Rattle.std.proofs.Common.{refl}
use Rattle.uac_alt.proofs.AltStreamsFoundLemmas.{format_found, range_found, stream_of_found}
use Rattle.uac_alt.proofs.streams.stream.Goals as goal

pub stream_at-requires-clause-format : goal.stream_at-requires-clause-format
stream_at-requires-clause-format c =
    format_found c.args.function.now c.args.interface c.args.setting c.functions_are_sound.ensures
    refl c.in_ok-streaming.ensures c.as_slice.ensures c.in_ok-chosen.ensures

pub stream_at-requires-clause-range : goal.stream_at-requires-clause-range
stream_at-requires-clause-range c =
    range_found c.args.function.now c.args.interface c.args.setting c.functions_are_sound.ensures
    refl c.in_ok-streaming.ensures c.as_slice.ensures c.in_ok-chosen.ensures

pub returns-clause-value : goal.returns-clause-value
returns-clause-value c =
    stream_of_found c.args.function.now c.args.rate c.args.interface c.args.setting
    c.if-setting-eq0.false refl c.in_ok-streaming.ensures c.as_slice.ensures c.in_ok-chosen.ensures c.in_ok-nominal.ensures c.stream_at.ensures.value
