use Rattle.std.proofs.lemmas.Grind.{flat_map-append}
use Rattle.uac_pcm.specs.Frames.{bytes_of_frame}
use Rattle.uac_pcm.proofs.PacketsLemmas.{frames_of_bytes-bytes_of_frames, whole_frames-bytes_of_frames, length-bytes_of_frames, frame_of_packed}
use Rattle.uac_pcm.proofs.laws.frames_are_read_back.Goals as goal

pub returns : goal.returns
returns c = record {
  read = frames_of_bytes-bytes_of_frames;
  whole = whole_frames-bytes_of_frames;
  bytes = length-bytes_of_frames;
  numbered = frame_of_packed;
  rows = λ size resolution. flat_map-append (bytes_of_frame size resolution);
}
