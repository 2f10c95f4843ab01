-- The alternate settings that can run (profile), and the stream that one runs (USB 2.0, 9.6.6; Audio Class 2.0, 4.9, 4.10; Audio Data
-- Formats 2.0, 2.3.1).
use Rattle.std.specs.Prelude.{ℕ, ◌+◌, ◌-◌, ◌*◌, ◌/◌, ◌%◌, ◌^◌, ◌==◌, ◌&&◌, ◌||◌, not, nat_le, Bool, true, false, if◌then◌else◌, Option}
use Rattle.std.specs.Prelude.{Some, None, is_some}
use Rattle.std.specs.List.{find}
use Rattle.std.specs.Option.{option_and_then}
use Rattle.uac_clock.specs.Nominal.{nominal_of}
use Rattle.uac_clock.specs.declared.values.Nominal.{Nominal}
use Rattle.uac_descriptor.specs.Endpoints.{synchronization_type, usage_type, packet_size, additional_transactions}
use Rattle.uac_descriptor.specs.declared.standard.Endpoint.{Endpoint}
use Rattle.uac_descriptor.specs.declared.streaming.General.{General}
use Rattle.uac_descriptor.specs.declared.streaming.TypeOne.{TypeOne}
use Rattle.uac_entities.specs.EntityInterfaces.{channels_of}
use Rattle.uac_entities.specs.declared.stream.Setting.{Setting}
use Rattle.uac_entities.specs.declared.stream.StreamInterface.{StreamInterface}
use Rattle.uac_topology.specs.Function.{FunctionFields, interface_in}
use Rattle.uac_alt.specs.declared.values.Stream.{Stream}

-- what a setting that can run says: its format, the nominal values of its rate, whether it goes to the device, the frames that its
-- endpoint's packet holds at most, the microframes between two feedback reports, none of which a stream from the device has, and the
-- service interval, which is the microframes from one packet to the next
pub record StreamFields : Type 0 where
  pub channels : ℕ
  pub subslot : ℕ
  pub bits : ℕ
  pub nominal : Nominal
  pub out : Bool
  pub most : ℕ
  pub period : ℕ
  pub service : ℕ

-- a stream as the numbers that it holds
abbrev pub stream_fields : Stream → StreamFields
stream_fields s =
    record {
      channels = s.format.channels;
      subslot = s.format.subslot;
      bits = s.format.bits;
      nominal = s.nominal;
      out = s.out;
      most = s.most;
      period = s.period;
      service = s.service;
    }

-- the bytes that an endpoint carries in a microframe in which it is served
abbrev pub packet_room : Endpoint → ℕ
packet_room e = packet_size e.max_packet * (1 + additional_transactions e.max_packet)

-- the microframes from one packet of an endpoint to the next
abbrev pub period_of : Endpoint → ℕ
period_of e = 2 ^ (e.interval - 1)

-- Type I PCM: format type 1, and the lowest bit of the formats
abbrev pub is_pcm : General → Bool
is_pcm g = g.format_type == 1 && g.formats % 2 == 1

-- the channels of the terminal to which an interface links
unfoldable pub linked_channels : FunctionFields → StreamInterface → ℕ
linked_channels function s = channels_of function.entities s.terminal

-- a first endpoint that is asynchronous, has a packet at least every 8 microframes, and carries data, or from the device also data that is
-- feedback; in a sound function its interval is at least 1 (`settings_are_in_range` of uac_topology), so it is 1, 2, 4 or 8 microframes
abbrev pub can_carry_data : Bool → Endpoint → Bool
can_carry_data out e =
    synchronization_type e.attributes == 1
    && (nat_le e.interval 4 && (usage_type e.attributes == 0 || (not out && usage_type e.attributes == 2)))

-- a second endpoint for feedback: a report of four bytes, as often as the first endpoint has a packet or less often, at most every 8
-- microframes
abbrev pub can_carry_feedback : Endpoint → Endpoint → Bool
can_carry_feedback first e = nat_le first.interval e.interval && (nat_le e.interval 4 && nat_le 4 (packet_size e.max_packet))

-- a stream to the device has feedback, and one from it has none
abbrev pub has_its_feedback : Bool → Endpoint → Option Endpoint → Bool
has_its_feedback true first (Some e) = can_carry_feedback first e
has_its_feedback true first None = false
has_its_feedback false first second = not (is_some second)

-- the most frames of a packet at this rate, those of a whole service interval, fit the endpoint
abbrev pub fits : Nominal → General → TypeOne → Endpoint → Bool
fits nominal g f first = nat_le (period_of first * nominal.hi * (g.channels * f.subslot)) (packet_room first)

-- all that is asked of a setting with these parts; in a sound function its numbers are those of a format (`laws::streams_have_formats`)
unfoldable pub can_run : FunctionFields → StreamInterface → Setting → Nominal → General → TypeOne → Endpoint → Bool
can_run function s setting nominal g f first =
    is_pcm g && (g.channels == linked_channels function s
    && (can_carry_data s.out first && (has_its_feedback s.out first setting.second && fits nominal g f first)))

-- the microframes between reports by the second endpoint; 0 where there are none
abbrev pub report_period : Bool → Option Endpoint → ℕ
report_period true (Some e) = period_of e
report_period _ _ = 0

-- the stream of a setting with these parts
abbrev pub stream_with : StreamInterface → Setting → Nominal → General → TypeOne → Endpoint → StreamFields
stream_with s setting nominal g f first =
    record {
      channels = g.channels;
      subslot = f.subslot;
      bits = f.bits;
      nominal = nominal;
      out = s.out;
      most = packet_room first / (g.channels * f.subslot);
      period = report_period s.out setting.second;
      service = period_of first;
    }

-- the stream of a setting of an interface at these nominal values, where it has all its parts and can run
unfoldable pub stream_at : FunctionFields → StreamInterface → Setting → Nominal → Option StreamFields
stream_at function s setting nominal =
    option_and_then (λ g. option_and_then (λ f. option_and_then (λ first.
    if can_run function s setting nominal g f first then Some (stream_with s setting nominal g f first) else None)
    setting.first) setting.format) setting.general

-- the stream of the interface with this number in its setting with that number, at a rate in Hz; none where there is no such interface or
-- setting, in setting 0, where the rate is none of the twelve, and where the setting can't run
unfoldable pub stream_of : FunctionFields → ℕ → ℕ → ℕ → Option StreamFields
stream_of function rate interface number =
    if number == 0 then None
    else option_and_then (λ s. option_and_then (λ setting. option_and_then (stream_at function s setting) (nominal_of rate))
    (find (λ t. t.number == number) s.settings)) (interface_in function interface)
