-- Which associations and interfaces are those of an audio function of this version: Audio Class 2.0, 4.6, 4.7.1 and 4.9.1,
-- by the class codes of A.1 and A.3 to A.6.
use Rattle.std.specs.Prelude.{Bool, ◌&&◌, ◌==◌}
use Rattle.uac_descriptor.specs.Standard.{AUDIO, AUDIOCONTROL, AUDIOSTREAMING, IP_VERSION_02_00}
use Rattle.uac_descriptor.specs.declared.standard.Association as association
use Rattle.uac_descriptor.specs.declared.standard.Interface as interface

-- the association of an audio function of this version
unfoldable pub is_audio_association : association.Association → Bool
is_audio_association a = a.class == AUDIO && a.protocol == IP_VERSION_02_00

-- the control interface of an audio function of this version
unfoldable pub is_control_interface : interface.Interface → Bool
is_control_interface i = i.class == AUDIO && i.subclass == AUDIOCONTROL && i.protocol == IP_VERSION_02_00

-- a streaming interface of one
unfoldable pub is_streaming_interface : interface.Interface → Bool
is_streaming_interface i = i.class == AUDIO && i.subclass == AUDIOSTREAMING && i.protocol == IP_VERSION_02_00
