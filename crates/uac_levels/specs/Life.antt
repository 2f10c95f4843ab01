-- One stream to the device, with what the host and its clock have to do with it, and what a microframe makes of these; all that other
-- streams and domains do is nothing to it (profile).
use Rattle.std.specs.Prelude.{ℕ, zero, suc, ◌==◌, Bool, if◌then◌else◌, List, [], ◌∷◌, ◌++◌, Option}
use Rattle.std.specs.List.{find}
use Rattle.std.specs.Option.{option_and_then, option_map, option_map_or}
use Rattle.uac_clock.specs.Ticks.{ticks_in}
use Rattle.uac_rate.specs.Steadiness.{one_more}
use Rattle.uac_flow.specs.FlowStreams.{OutStream, after_packet, after_taking, after_ticks, feedback_of, is_due, out_after_end}
use Rattle.uac_host.specs.HostWorld.{Pace}
use Rattle.uac_topology.specs.Function.{interface_in}
use Rattle.uac_host.specs.HostCalls.{pace_after_report, pace_after_packet}
use Rattle.uac_device.specs.DeviceWorld.{Domain, entity_in}
use Rattle.uac_streaming.specs.StreamingWorld.{stream_index}
use Rattle.uac_running.specs.RunningWorld.{RunningWorld}

-- a stream to the device, as the device and the host run it; the steps of its domain's clock since the start; and of each of its starts,
-- the latest first, its feedback reports, the latest first: whether each was lost
pub record Life : Type 0 where
  pub out : OutStream
  pub pace : Pace
  pub steps : List ℕ
  pub reports : List (List Bool)

-- the clock of the terminal to which an interface links; none where there is no such interface
abbrev pub domain_id_on : RunningWorld → ℕ → Option ℕ
domain_id_on r interface = option_map (λ s. (entity_in r.device s.terminal).clock) (interface_in r.device.function interface)

-- the domain of an interface's stream
abbrev pub domain_on : RunningWorld → ℕ → Option Domain
domain_on r interface = option_and_then (λ clock. find (λ d. d.id == clock) r.device.domains) (domain_id_on r interface)

-- the life of the stream to the device that an interface runs; none where it runs none
unfoldable pub life_of : RunningWorld → ℕ → Option Life
life_of r interface =
    option_and_then (λ out.
    option_and_then (λ pace.
    option_and_then (λ d.
    option_map (λ index. record { out = out; pace = pace; steps = d.steps; reports = r.history.feedback index })
    (stream_index r.device.function interface))
    (domain_on r interface))
    (r.host.paces interface))
    (r.device.outs interface)

-- so many ticks
unfoldable pub ticks_taken : ℕ → OutStream → OutStream
ticks_taken zero o = o
ticks_taken (suc n) o = ticks_taken n (after_taking o)

-- where it is due, a packet comes, or is lost
abbrev pub with_packet : Option (List ℕ) → Life → Life
with_packet packet l =
    if is_due l.out.stream l.out.microframes then record l { out = after_packet packet l.out; pace = pace_after_packet l.pace } else l

-- a stream's domain ticks as often as its clock gives by one step more
abbrev pub with_step : ℕ → Life → Life
with_step step l =
    let steps = l.steps ++ step ∷ [] in
    record l { out = ticks_taken (ticks_in steps) (after_ticks (ticks_in steps) l.out); steps = steps }

-- the microframe ends for it
abbrev pub with_end : Life → Life
with_end l = record l { out = out_after_end l.out }

-- where a report is due, it comes to the host, or is lost
abbrev pub with_feedback : Bool → Life → Life
with_feedback lost l =
    option_map_or (λ value. record l { pace = if lost then l.pace else pace_after_report value l.pace; reports = one_more lost l.reports })
    (feedback_of l.out) l

-- a microframe: its packet if it is due, none where that is lost; a step of its clock; its end; and its report if one is due
unfoldable pub life_after : Option (List ℕ) → ℕ → Bool → Life → Life
life_after packet step report_lost l = with_feedback report_lost (with_end (with_step step (with_packet packet l)))
