-- Where no interface runs a stream nothing is sent, nothing is said, and nothing changes.
use Rattle.std.proofs.Common.{◌≡◌, ◌∙◌, ap, refl, ℕ, ◌&&◌, nat_le, Bool, false, if◌then◌else◌, List, [], ◌∷◌, ◌++◌, Option, None}
use Rattle.std.proofs.Math.Bool.{and-false}
use Rattle.std.specs.Option.{option_and_then, option_map_or}
use Rattle.uac_flow.specs.FlowStreams.{InStream, OutStream, feedback_of}
use Rattle.uac_device.specs.InterfaceStreams.{NoneRuns, either_due}
use Rattle.uac_device.specs.DeviceKept as devices
use Rattle.uac_device.specs.DeviceWorld.{DeviceWorld, feedback_in, is_due_in, level_of, after_end, target_of}
use Rattle.uac_device.proofs.DeviceKeptStreamLemmas.{none_ended, quiet_ended}
use Rattle.uac_script.specs.Phrase.{PhraseMark}
use Rattle.uac_transcript.specs.Transcript.{Said, says_level}
use Rattle.uac_streaming.specs.Telling.{Telling, without_event, in_turn, telling_after}
use Rattle.uac_streaming.specs.StreamingWorld.{StreamingWorld, all_feedback, all_ends, comes_in, fetched_lines, goes_out, in_packet_turn, in_packets, is_in_due, is_out_due, loses_in, loses_out, loses_feedback, numbers, out_packets, out_turn, packet_fetched, packet_sent_out, feedback_lines, feedback_made, feedback_turn, sent_out_lines, end_lines, end_turn}
use Rattle.uac_streaming.specs.StreamingKept.{StreamingFields, StreamingStands}

-- none of its interfaces runs a stream
abbrev pub IsQuiet : StreamingWorld → Type 0
IsQuiet w = NoneRuns w.device.outs w.device.ins

none_due : (w : DeviceWorld) (interface : ℕ) → NoneRuns w.outs w.ins → is_due_in w interface ≡ false
unfolding is_due_in
none_due w interface none =
    ap (λ (o : Option OutStream). either_due o (w.ins interface)) (none interface).0 ∙ ap (λ (i : Option InStream). either_due None i) (none interface).1

turn_rests : (event : ℕ → StreamingWorld → Telling StreamingWorld) (ns : List ℕ) (w : StreamingWorld) → ((n : ℕ) → event n w ≡ without_event w) → in_turn event ns w ≡ without_event w
unfolding in_turn
turn_rests event [] w still = refl
turn_rests event (n ∷ ns) w still =
    ap (λ (t : Telling StreamingWorld). telling_after t.lines (in_turn event ns t.world)) (still n) ∙ turn_rests event ns w still

out_rests : (detail : ℕ) (marks : List PhraseMark) (w : StreamingWorld) → IsQuiet w → (n : ℕ) → out_turn detail marks n w ≡ without_event w
unfolding out_turn
out_rests detail marks w none n =
    let lost : Bool = loses_out marks n in
    let runs : Telling StreamingWorld = record { lines = sent_out_lines detail lost n w; world = packet_sent_out lost n w } in
    let idle : is_out_due w n ≡ false = ap (λ (b : Bool). goes_out w.device.function n && b) (none_due w.device n none) ∙ and-false (goes_out w.device.function n) in
    ap (λ (b : Bool). if b then runs else without_event w) idle

in_rests : (detail : ℕ) (marks : List PhraseMark) (w : StreamingWorld) → IsQuiet w → (n : ℕ) → in_packet_turn detail marks n w ≡ without_event w
unfolding in_packet_turn
in_rests detail marks w none n =
    let lost : Bool = loses_in marks n in
    let runs : Telling StreamingWorld = record { lines = fetched_lines detail lost n w; world = packet_fetched lost n w } in
    let idle : is_in_due w n ≡ false = ap (λ (b : Bool). comes_in w.device.function n && b) (none_due w.device n none) ∙ and-false (comes_in w.device.function n) in
    ap (λ (b : Bool). if b then runs else without_event w) idle

feedback_rests : (detail : ℕ) (marks : List PhraseMark) (w : StreamingWorld) → IsQuiet w → (n : ℕ) → feedback_turn detail marks n w ≡ without_event w
unfolding feedback_turn feedback_in
feedback_rests detail marks w none n =
    let lost : Bool = loses_feedback marks n in
    let made : ℕ → Telling StreamingWorld = λ value. record { lines = feedback_lines detail lost value n; world = feedback_made lost value n w } in
    ap (λ (o : Option OutStream). option_map_or made (option_and_then feedback_of o) (without_event w)) (none n).0

pub quiet_out : (detail : ℕ) (marks : List PhraseMark) (w : StreamingWorld) → IsQuiet w → out_packets detail marks w ≡ without_event w
unfolding out_packets
quiet_out detail marks w none = turn_rests (out_turn detail marks) (numbers w.device.function) w (out_rests detail marks w none)

pub quiet_in : (detail : ℕ) (marks : List PhraseMark) (w : StreamingWorld) → IsQuiet w → in_packets detail marks w ≡ without_event w
unfolding in_packets
quiet_in detail marks w none = turn_rests (in_packet_turn detail marks) (numbers w.device.function) w (in_rests detail marks w none)

pub quiet_feedback : (detail : ℕ) (marks : List PhraseMark) (w : StreamingWorld) → IsQuiet w → all_feedback detail marks w ≡ without_event w
unfolding all_feedback
quiet_feedback detail marks w none = turn_rests (feedback_turn detail marks) (numbers w.device.function) w (feedback_rests detail marks w none)

-- ---- the ends of microframes

-- nothing is said, and what is kept stands for the world after them, in which no interface runs a stream either
pub record Quietly (p : StreamingFields) (d : devices.DeviceFields) (told : Telling StreamingWorld) : Type 0 where
  pub lines : told.lines ≡ []
  pub stands : StreamingStands p d told.world
  pub quiet : IsQuiet told.world

no_level : (detail interface : ℕ) (w : DeviceWorld) → NoneRuns w.outs w.ins → end_lines detail interface w ≡ []
no_level detail interface w none =
    let says : List Said = says_level interface (level_of (after_end interface w) interface) (target_of (after_end interface w) interface) ∷ [] in
    let due : (goes_out w.function interface && is_due_in w interface) ≡ false =
    ap (λ (b : Bool). goes_out w.function interface && b) (none_due w interface none) ∙ and-false (goes_out w.function interface) in
    ap (λ (b : Bool). if nat_le 2 detail && b then says else []) due ∙ ap (λ (b : Bool). if b then says else []) (and-false (nat_le 2 detail))

one_stands : (interface : ℕ) (p : StreamingFields) (d : devices.DeviceFields) (w : StreamingWorld) → IsQuiet w → StreamingStands p d w
    → StreamingStands p d (record w { device = after_end interface w.device })
unfolding after_end
one_stands interface p d w none stands = record {
  device = quiet_ended d w.device interface none stands.device;
  host = stands.host;
  same = stands.same;
  order = stands.order;
  outs = stands.outs;
  ins = stands.ins;
  met = stands.met;
  steady = stands.steady;
}

one_ended : (detail interface : ℕ) (p : StreamingFields) (d : devices.DeviceFields) (w : StreamingWorld) → IsQuiet w → StreamingStands p d w
    → Quietly p d (end_turn detail interface w)
unfolding end_turn
one_ended detail interface p d w none stands = record {
  lines = no_level detail interface w.device none;
  stands = one_stands interface p d w none stands;
  quiet = none_ended w.device interface none;
}

turns_ended : (detail : ℕ) (ns : List ℕ) (p : StreamingFields) (d : devices.DeviceFields) (w : StreamingWorld) → IsQuiet w → StreamingStands p d w
    → Quietly p d (in_turn (end_turn detail) ns w)
unfolding in_turn
turns_ended detail [] p d w none stands = record { lines = refl; stands = stands; quiet = none }
turns_ended detail (n ∷ ns) p d w none stands =
    let first = one_ended detail n p d w none stands in
    let rest = turns_ended detail ns p d (end_turn detail n w).world first.quiet first.stands in
    record {
      lines = ap (λ (ls : List Said). ls ++ (in_turn (end_turn detail) ns (end_turn detail n w).world).lines) first.lines ∙ rest.lines;
      stands = rest.stands;
      quiet = rest.quiet;
    }

pub quiet_ends : (detail : ℕ) (p : StreamingFields) (d : devices.DeviceFields) (w : StreamingWorld) → IsQuiet w → StreamingStands p d w → Quietly p d (all_ends detail w)
unfolding all_ends
quiet_ends detail p d w none stands = turns_ended detail (numbers w.device.function) p d w none stands
