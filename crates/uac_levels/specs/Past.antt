-- How long ago a stream to the device was primed, how long ago it lost a packet, and from where it drifts (profile; feedback is that of
-- USB 2.0, 5.12.4.2).
use Rattle.std.specs.Prelude.{ℕ, ◌+◌, ◌%◌, ◌&&◌, not, Bool, if◌then◌else◌, List, sum, Option, Some, None, is_some}
use Rattle.std.specs.Option.{option_map_or}
use Rattle.uac_rate.specs.Levels.{Anchor, anchor_after_interval}
use Rattle.uac_flow.specs.FlowStreams.{feedback_of, out_level}
use Rattle.uac_device.specs.DeviceWorld.{is_due_in, target_of}
use Rattle.uac_script.specs.Phrase.{PhraseMark}
use Rattle.uac_streaming.specs.StreamingWorld.{loses_out, loses_feedback}
use Rattle.uac_running.specs.RunningWorld.{RunningWorld}
use Rattle.uac_running.specs.Events.{microframe}
use Rattle.uac_levels.specs.Life.{Life, life_of}

-- the microframes since the one in which a stream was primed; since then, or since the one in which it last lost a packet, if that was
-- later; and how it stood at its last delivered report, or where it was primed if that was later, with the microframes from there to the
-- end of its last service interval
pub record Past : Type 0 where
  pub primed : ℕ
  pub quiet : ℕ
  pub anchor : Anchor

-- how a stream stands at the end of a microframe: its level, and the remainders of the host's pace and of its clock
abbrev pub standing : Life → Anchor
standing l = record { level = out_level l.out; host = sum l.pace.used % 65536; clock = sum l.steps % 65536; age = 0 }

-- of a stream that is primed just now
abbrev pub past_from : Anchor → Past
past_from anchor = record { primed = 0; quiet = 0; anchor = anchor }

-- where there is none
abbrev pub no_past : Past
no_past = past_from (record { level = 0; host = 0; clock = 0; age = 0 })

-- the anchor after a service interval that leaves a stream so: a report that came is one; else the anchor is older by the interval
abbrev pub anchor_at_end : Bool → Life → Anchor → Anchor
anchor_at_end report_lost l anchor =
    if is_some (feedback_of l.out) && not report_lost then standing l else anchor_after_interval l.out.stream.service anchor

abbrev pub anchor_then : Bool → Bool → Life → Anchor → Anchor
anchor_then due report_lost l anchor = if due then anchor_at_end report_lost l anchor else anchor

-- one microframe more, in which a packet was lost or wasn't
abbrev pub one_later : Bool → Anchor → Past → Past
one_later lost anchor past = record { primed = past.primed + 1; quiet = if lost then 0 else past.quiet + 1; anchor = anchor }

-- the past of a stream after a microframe that leaves it so, by whether it was due, lost its packet, and lost its report if one was due:
-- of a stream that was primed before the microframe; for any other it begins
abbrev pub past_following : Bool → Bool → Bool → Option ℕ → Life → Past → Past
past_following due packet_lost report_lost None l past = past_from (standing l)
past_following due packet_lost report_lost (Some target) l past =
    one_later (due && packet_lost) (anchor_then due report_lost l past.anchor) past

-- by interface
abbrev pub Pasts : Type 0
Pasts = ℕ → Past

abbrev pub no_pasts : Pasts
no_pasts interface = no_past

-- after a microframe with these losses
unfoldable pub pasts_after : List PhraseMark → RunningWorld → Pasts → Pasts
pasts_after marks r pasts interface =
    option_map_or
    (λ l. past_following (is_due_in r.device interface) (loses_out marks interface) (loses_feedback marks interface) (target_of r.device interface) l (pasts interface))
    (life_of (microframe marks r).world interface) no_past
