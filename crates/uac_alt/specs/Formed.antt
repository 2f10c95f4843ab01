-- What every setting of a sound function has, where its channels are those of its terminal: the numbers of a format (Audio Data Formats
-- 2.0, 2.3.1.6).
use Rattle.std.specs.Prelude.{◌≡◌, Some}
use Rattle.uac_descriptor.specs.declared.streaming.General.{General}
use Rattle.uac_descriptor.specs.declared.streaming.TypeOne.{TypeOne}
use Rattle.uac_entities.specs.declared.stream.Setting.{Setting}
use Rattle.uac_entities.specs.declared.stream.StreamInterface.{StreamInterface}
use Rattle.uac_pcm.specs.Frames.{IsFormat}
use Rattle.uac_topology.specs.Function.{FunctionFields}
use Rattle.uac_alt.specs.AltStreams.{linked_channels}

abbrev pub HasFormat : FunctionFields → StreamInterface → Setting → Type 0
HasFormat function s setting =
    (g : General) (f : TypeOne) → setting.general ≡ Some g → setting.format ≡ Some f → g.channels ≡ linked_channels function s
    → IsFormat g.channels f.subslot f.bits
