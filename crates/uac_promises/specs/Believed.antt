-- What the host knows of a control is the device's value, after every list of lines of a script (Audio Class 2.0, 5.2; profile).
use Rattle.std.specs.Prelude.{ℕ, List, map}
use Rattle.uac_units.specs.Hearing.{Reading}
use Rattle.uac_script.specs.LineParsing.{answer}
use Rattle.uac_mixer.specs.Agreement.{IsAgreed}
use Rattle.uac_rows.specs.BusWorld.{BusWorld, describing, running, start}
use Rattle.uac_rows.specs.After.{after}

-- what the host knows of a control is the device's value: each element of its view has the value of the device's control, or none where
-- that is unknown. Before the descriptor's end there is no device yet, and nothing is known.
abbrev pub IsSoIn : BusWorld → Type 0
IsSoIn (describing bytes meters) = Unit {0}
IsSoIn (running r) = IsAgreed r.device.controls r.view

-- so it is in the world that lines leave, for every list of their texts, also where one of them is refused
abbrev pub KnownValuesAreSo : Type 0
KnownValuesAreSo = (texts : List (List ℕ)) (shown : List Reading) → IsSoIn (after (map answer texts) (start shown)).world
