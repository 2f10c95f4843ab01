-- Every setting in force is valid, after every list of lines of a script (Audio Class 2.0, 5.2.6; USB 2.0, 9.4.10; profile).
use Rattle.std.specs.Prelude.{ℕ, List, map}
use Rattle.uac_units.specs.Hearing.{Reading}
use Rattle.uac_request.specs.Requests.{AreValidSettings, request_state}
use Rattle.uac_script.specs.LineParsing.{answer}
use Rattle.uac_rows.specs.BusWorld.{BusWorld, describing, running, start}
use Rattle.uac_rows.specs.After.{after}

-- each interface is in setting 0, or in one that is valid under the controls held. Before the descriptor's end there is no device yet.
abbrev pub AreValidIn : BusWorld → Type 0
AreValidIn (describing bytes meters) = Unit {0}
AreValidIn (running r) = AreValidSettings r.device.function (request_state r.device.controls r.device.settings)

-- so it is in the world that lines leave, for every list of their texts, also where one of them is refused
abbrev pub SettingsStayValid : Type 0
SettingsStayValid = (texts : List (List ℕ)) (shown : List Reading) → AreValidIn (after (map answer texts) (start shown)).world
