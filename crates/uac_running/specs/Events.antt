-- Ticks and microframes of a running device, with the lines that they say (profile). A count stands still at the greatest number of
-- 64 bits.
use Rattle.std.specs.Prelude.{ℕ, zero, suc, ◌+◌, ◌==◌, nat_le, if◌then◌else◌, List, [], ◌∷◌, ◌++◌, map, filter}
use Rattle.std.specs.List.{fold}
use Rattle.uac_device.specs.DeviceWorld.{DeviceWorld, after_advance, next_ticks, renders_of, set_jack, after_tick, heard_of, after_frames}
use Rattle.uac_units.specs.Hearing.{at_most_u64}
use Rattle.uac_script.specs.Phrase.{PhraseMark}
use Rattle.uac_transcript.specs.Transcript.{Said, says_microframe}
use Rattle.uac_device.specs.declared.jacks.Jack.{Jack}
pub use Rattle.uac_device.specs.Jacks.{after_one, next_frame}
use Rattle.uac_streaming.specs.Telling.{Telling, telling_after, without_event}
use Rattle.uac_streaming.specs.StreamingWorld.{StreamingWorld, all_feedback, all_ends, found_counts, found_lines, in_packets}
use Rattle.uac_streaming.specs.StreamingWorld.{out_packets}
use Rattle.uac_running.specs.RunningWorld.{RunningWorld, streaming_of, with_streaming}
use Rattle.uac_running.specs.ReportLines.{played_lines}

-- a jack gives its tone's next frame, where it is of the domain
abbrev pub after_jack : ℕ → Jack → DeviceWorld → DeviceWorld
after_jack domain j w = if j.domain == domain then set_jack j.terminal (next_frame j) w else w

-- the jacks of a domain give their tones' next frames
abbrev pub after_jacks : ℕ → List Jack → DeviceWorld → DeviceWorld
after_jacks domain jacks w = fold (λ v j. set_jack j.terminal (next_frame j) v) w (filter (λ j. j.domain == domain) jacks)

-- the jacks of a domain are given their tones' next frames
unfoldable pub after_all_jacks : ℕ → RunningWorld → DeviceWorld
after_all_jacks domain r = after_jacks domain r.jacks r.device

-- of the jacks of a domain one more frame was given
abbrev pub jacks_after_frame : ℕ → List Jack → List Jack
jacks_after_frame domain jacks = map (after_one domain) jacks

-- one tick of a domain: its jacks give their tones' frames, the graph is evaluated, each unit that the domain needs being rendered
-- once, the meters hear the output jacks; what rings were found empty and full is said, and from detail 1 on what the jacks played
unfoldable pub tick : ℕ → RunningWorld → Telling RunningWorld
tick domain r =
    let before = after_all_jacks domain r in
    let device = after_tick domain before in
    record {
      lines = found_lines domain before ++ (if nat_le 1 r.detail then played_lines domain device else []);
      world = record r {
        device = device;
        jacks = jacks_after_frame domain r.jacks;
        met = found_counts domain before r.met;
        meters = after_frames (heard_of domain device) r.meters;
        renders = at_most_u64 (r.renders + renders_of domain before);
      };
    }

-- so many ticks of a domain
unfoldable pub tick_times : ℕ → ℕ → RunningWorld → Telling RunningWorld
tick_times zero domain r = without_event r
tick_times (suc n) domain r = telling_after (tick domain r).lines (tick_times n domain (tick domain r).world)

-- a domain's part of a microframe: its clock goes on, and it ticks as often as that gives
unfoldable pub domain_microframe : ℕ → RunningWorld → Telling RunningWorld
domain_microframe domain r = tick_times (next_ticks domain r.device) domain (record r { device = after_advance domain r.device })

-- a microframe of several domains, one after the other
unfoldable pub domain_microframes : List ℕ → RunningWorld → Telling RunningWorld
domain_microframes [] r = without_event r
domain_microframes (domain ∷ domains) r = telling_after (domain_microframe domain r).lines
    (domain_microframes domains (domain_microframe domain r).world)

-- from detail 2 on the number of a microframe is said
abbrev pub number_said : ℕ → ℕ → List Said
number_said detail time = if nat_le 2 detail then says_microframe time ∷ [] else []

-- what happens to the streams, in the running world
abbrev pub of_streams : (StreamingWorld → Telling StreamingWorld) → RunningWorld → Telling RunningWorld
of_streams event r =
    let told = event (streaming_of r) in
    record { lines = told.lines; world = with_streaming r told.world }

-- something, and then something else
abbrev pub followed_by : (RunningWorld → Telling RunningWorld) → (RunningWorld → Telling RunningWorld) → RunningWorld → Telling RunningWorld
followed_by first next r = telling_after (first r).lines (next (first r).world)

-- the domains' part of a microframe
abbrev pub all_domains : RunningWorld → Telling RunningWorld
all_domains r = domain_microframes r.device.function.domains r

-- a microframe after its number, in which these packets and feedback reports are lost: the packets to the device, and those from it; the
-- ticks of each domain, in order; the end of the microframe for each stream; and the feedback reports
unfoldable pub packets_and_ticks : List PhraseMark → RunningWorld → Telling RunningWorld
packets_and_ticks marks r =
    followed_by (of_streams (out_packets r.detail marks)) (followed_by (of_streams (in_packets r.detail marks)) all_domains) r

unfoldable pub ends_and_feedback : List PhraseMark → RunningWorld → Telling RunningWorld
ends_and_feedback marks r = followed_by (of_streams (all_ends r.detail)) (of_streams (all_feedback r.detail marks)) r

-- one microframe: from detail 2 on its number is said first
unfoldable pub microframe : List PhraseMark → RunningWorld → Telling RunningWorld
microframe marks r =
    let time = at_most_u64 (r.time + 1) in
    telling_after (number_said r.detail time)
    (followed_by (packets_and_ticks marks) (ends_and_feedback marks) (record r { time = time }))

-- so many microframes, with these losses in each
unfoldable pub microframes : List PhraseMark → ℕ → RunningWorld → Telling RunningWorld
microframes marks zero r = without_event r
microframes marks (suc n) r = telling_after (microframe marks r).lines (microframes marks n (microframe marks r).world)
