-- Streams of a device whose ticks wait while counts run ahead: what of a microframe's packets and reports is known before the ticks are
-- done. Profile.
use Rattle.std.specs.Prelude.{◌≡◌, ℕ, ◌+◌, ◌==◌, ◌||◌, not, Bool, false, if◌then◌else◌, List, [], ◌∷◌}
use Rattle.uac_device.specs.DeviceWorld.{DeviceWorld, is_due_in}
use Rattle.uac_device.specs.DeviceTicks.{Tones}
use Rattle.uac_device.specs.DeviceWaits.{frames_later_in, settled, takes_in}
use Rattle.uac_host.specs.HostCalls.{packet_of}
use Rattle.uac_script.specs.Phrase.{PhraseMark}
use Rattle.uac_streaming.specs.StreamingWorld.{StreamingWorld, all_feedback, feedback_turn, loses_in, loses_out}

-- with another device
abbrev pub with_device : DeviceWorld → StreamingWorld → StreamingWorld
with_device device w = record w { device = device }

-- the streams when so many ticks that waited are done, and so many frames were sent
abbrev pub streams_settled : ℕ → Tones → ℕ → (ℕ → ℕ) → StreamingWorld → StreamingWorld
streams_settled domain tones n sent w = with_device (settled domain tones n sent w.device) w

-- an interface's packet to the device fits its ring, where it is due
abbrev pub fits : StreamingWorld → ℕ → Bool
fits w interface = not (is_due_in w.device interface) || takes_in w.device interface (packet_of w.host interface)

-- by interface, how many of its frames were sent: of each of these interfaces the number at its place in a list
unfoldable pub sent_on : List ℕ → List ℕ → ℕ → ℕ
sent_on [] sent k = 0
sent_on (n ∷ ns) [] k = 0
sent_on (n ∷ ns) (m ∷ sent) k = if k == n then m else sent_on ns sent k

-- so many are sent of an interface when it had its packet from the device, where that is due, while so many ticks wait
abbrev pub one_sent_after : ℕ → ℕ → ℕ → DeviceWorld → ℕ
one_sent_after n ticks m w = if is_due_in w n then m + frames_later_in w n ticks m else m

-- and of each of these interfaces
unfoldable pub sent_after : List ℕ → ℕ → List ℕ → DeviceWorld → List ℕ
sent_after [] ticks sent w = sent
sent_after (n ∷ ns) ticks [] w = []
sent_after (n ∷ ns) ticks (m ∷ sent) w = one_sent_after n ticks m w ∷ sent_after ns ticks sent w

-- no packet is lost where these marks tell what is, but perhaps feedback reports are
pub record LosesNoPacket (marks : List PhraseMark) : Type 0 where
  pub outs : (interface : ℕ) → loses_out marks interface ≡ false
  pub ins : (interface : ℕ) → loses_in marks interface ≡ false

-- the report that a device gives on an interface, to streams beside another, with these losses
abbrev pub after_report_of : List PhraseMark → DeviceWorld → ℕ → StreamingWorld → StreamingWorld
after_report_of marks device interface w = with_device w.device (feedback_turn 0 marks interface (with_device device w)).world

-- the reports that a device gives, to streams beside another, with these losses
unfoldable pub after_reports_of : List PhraseMark → DeviceWorld → StreamingWorld → StreamingWorld
after_reports_of marks device w = with_device w.device (all_feedback 0 marks (with_device device w)).world
