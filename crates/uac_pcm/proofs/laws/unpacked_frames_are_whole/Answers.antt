use Rattle.uac_pcm.proofs.PacketsLemmas.{length-frames_of_bytes, slice_get-frames_of_bytes, frames_of_bytes-even}
use Rattle.uac_pcm.proofs.laws.unpacked_frames_are_whole.Goals as goal

pub returns : goal.returns
returns c = record { frames = length-frames_of_bytes; numbered = slice_get-frames_of_bytes; channels = frames_of_bytes-even }
