-- What a line of the script names: jacks, domains, streams, and the packets and reports of these (profile).
use Rattle.std.specs.Prelude.{ℕ, ◌%◌, ◌==◌, ◌&&◌, not, Bool, false, ℤ, pos, negsuc}
use Rattle.std.specs.List.{list_any}
use Rattle.std.specs.Option.{option_map_or}
use Rattle.uac_entities.specs.EntityInterfaces.{channels_of}
use Rattle.uac_entities.specs.declared.stream.StreamInterface.{StreamInterface}
use Rattle.uac_topology.specs.Function.{FunctionFields, interface_in}
use Rattle.uac_script.specs.declared.line.MarkKind.{MarkKind}
use Rattle.uac_script.specs.declared.line.MarkKind.TheVariants.{Out, In, Feedback}
use Rattle.uac_script.specs.Phrase.{PhraseMark}
use Rattle.uac_running.specs.RunningWorld.{RunningWorld}

-- the number, which a range keeps from being negative
abbrev pub natural_of_int : ℤ → ℕ
natural_of_int (pos n) = n
natural_of_int (negsuc n) = 0

-- there is an input jack with this id
abbrev pub has_jack : RunningWorld → ℕ → Bool
has_jack r terminal = list_any (λ j. j.terminal == terminal) r.jacks

-- there is a domain with this id
abbrev pub has_domain : RunningWorld → ℕ → Bool
has_domain r domain = list_any (λ d. d == domain) r.device.function.domains

-- the interface carries a stream to the device, or one from it, and links to a terminal
abbrev pub carries_out : StreamInterface → Bool
carries_out s = s.out && not (s.terminal == 0)

abbrev pub carries_in : StreamInterface → Bool
carries_in s = not s.out && not (s.terminal == 0)

-- the interface with this number is such an interface
abbrev pub has_out : FunctionFields → ℕ → Bool
has_out function number = option_map_or carries_out (interface_in function number) false

abbrev pub has_in : FunctionFields → ℕ → Bool
has_in function number = option_map_or carries_in (interface_in function number) false

-- it has such packets or reports: to the device and feedback where it carries a stream to the device
abbrev pub has_marked : FunctionFields → MarkKind → ℕ → Bool
has_marked function Out number = has_out function number
has_marked function In number = has_in function number
has_marked function Feedback number = has_out function number

-- a mark names an interface that has such packets or reports
abbrev pub names_stream : FunctionFields → PhraseMark → Bool
names_stream function mark = has_marked function mark.kind (natural_of_int mark.interface)

-- the interface with this number carries a stream to the device, and so many samples are whole frames of its terminal's channels
unfoldable pub are_frames : FunctionFields → ℕ → ℕ → Bool
are_frames function number count =
    option_map_or (λ s. carries_out s && count % channels_of function.entities s.terminal == 0) (interface_in function number) false
