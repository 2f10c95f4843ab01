-- What is said of a ring that a tick found empty, or full (profile).
use Rattle.std.specs.Prelude.{ℕ}
use Rattle.uac_transcript.specs.Transcript.{Said, says_over, says_under}
use Rattle.uac_streaming.specs.declared.printing.FoundRing.{FoundRing}
use Rattle.uac_streaming.specs.declared.printing.FoundRing.TheVariants as rings

abbrev pub says_found : FoundRing → ℕ → Said
says_found rings.Empty = says_under
says_found rings.Full = says_over
