use Rattle.std.proofs.Common.{◌≡◌, map, take, length}
use Rattle.std.specs.List.{range_with_len}
use Rattle.uac_pcm.specs.Tones.{tone_sample}
use Rattle.uac_pcm.proofs.tones.Tone.write_each.Given as goal

abbrev pub invariant-loop-channel : goal.invariant-loop-channel
invariant-loop-channel l = record {
  sounds : take l.channel l.samples ≡ map (tone_sample l.tone l.place) (range_with_len 0 l.channel);
  len : length l.samples ≡ length l.initial.samples;
}
