use Rattle.std.proofs.Common.{ℕ, ◌++◌, ap, ◌∙◌, sym}
use Rattle.uac_pcm.specs.Frames.{bytes_of_frame, frame_of_bytes}
use Rattle.uac_pcm.proofs.FramesLemmas.{frame_of_bytes-bytes_of_frame, length-bytes_of_frame}
use Rattle.uac_pcm.proofs.laws.frame_is_read_back.Goals as goal

pub returns : goal.returns
returns c = record {
  read = λ count size resolution samples rest format as_many fits.
      ap (λ (n : ℕ). frame_of_bytes n size resolution (bytes_of_frame size resolution samples ++ rest)) (sym as_many)
      ∙ frame_of_bytes-bytes_of_frame size resolution samples rest format.3 format.4 format.5 fits;
  bytes = length-bytes_of_frame;
}
