use Rattle.std.proofs.Common.{◌≡◌, ◌+◌, ◌*◌, ◌≤◌, ◌++◌, length, take}
use Rattle.uac_transcript.specs.Transcript.{samples_text}
use Rattle.uac_transcript.proofs.frames.push_samples.Given as goal

abbrev pub invariant-loop-sample : goal.invariant-loop-sample
invariant-loop-sample g l = record {
  text : l.text ≡ l.fn.text ++ samples_text (take l.sample-index l.samples);
  len : length l.text ≤ length l.fn.text + 22 * l.sample-index;
}
