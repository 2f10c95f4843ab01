-- The events of a microframe at one interface, from what their parts are seen to do.
use Rattle.std.proofs.Common.{◌≡◌, ◌∙◌, sym, ap, subst, refl, arith, ℕ, ◌+◌, ◌<◌, ◌≤◌, ◌==◌, ◌&&◌, not, nat_le, Bool, true, false, if◌then◌else◌, ℤ, List, [], ◌∷◌, length, map, filter, get_or, Option, Some, None, is_some, Result, Ok, Err, OnOk, inl, inr}
use Rattle.std.specs.List.{range_with_len}
use Rattle.std.specs.List.Sorted.{IsStrictlyIncreasing}
use Rattle.std.proofs.lemmas.Bool.{cases_Bool, le-leb}
use Rattle.std.proofs.lemmas.List.FromFn.{get_or-range_with_len, length-range_with_len}
use Rattle.std.proofs.lemmas.List.Kept.{AllPairs-from_increasing, IsStrictlyIncreasing-filter}
use Rattle.std.specs.Option.{option_map_or}
use Rattle.std.specs.Io.KnownBytes.{Appends}
use Rattle.uac_edges.specs.Writing.{AppendsFront}
use Rattle.uac_topology.specs.Function.{FunctionFields, interface_in}
use Rattle.uac_ring.specs.declared.arrival.Arrival.{Arrival}
use Rattle.uac_device.specs.DeviceKept as devices
use Rattle.uac_device.specs.DeviceWorld.{DeviceWorld, ZerosFitIn, arrival_in, feedback_in, frames_in, is_due_in, packet_in, after_receiving, after_sending_in_packet, after_end}
use Rattle.uac_host.specs.HostKept as hosts
use Rattle.uac_host.specs.HostWorld.{HostWorld}
use Rattle.uac_host.specs.HostCalls.{heard_in, size_of}
use Rattle.uac_script.specs.Phrase.{PhraseMark}
use Rattle.uac_transcript.specs.Transcript.{Said, says_feedback, says_frame, says_in}
use Rattle.uac_transcript.specs.Printing.{Prints, text_of}
use Rattle.uac_transcript.proofs.PrintingLemmas.{Prints-after}
use Rattle.uac_streaming.specs.Telling.{Telling, without_event, in_turn, telling_after}
use Rattle.uac_streaming.specs.StreamingWorld.{StreamingWorld, all_feedback, all_ends, comes_in, fetched_lines, goes_out, in_lines, in_packet_turn, in_packets, inward_turn, is_in_due, is_out_due, loses_in, loses_out, loses_feedback, numbers, numbers_in, numbers_out, out_lines, out_packets, out_turn, outward_turn, packet_fetched, packet_sent_out, packet_to, feedback_lines, feedback_made, feedback_turn, sent_out_lines, end_lines, end_turn}
use Rattle.uac_streaming.specs.StreamingKept.{StreamingFields, StreamingStands, StreamingTells}
use Rattle.uac_streaming.proofs.TellingLemmas.{Appends-nothing}

-- what holds in any case holds at Ok
pub at_ok : {T E : Type 0} (P : Type 0) (r : Result T E) → P → OnOk r P
at_ok P (Ok x) p = p
at_ok P (Err e) p = tt

-- nothing happened, and nothing was printed
pub rests : (told : Telling StreamingWorld) (p : StreamingFields) (d : devices.DeviceFields) (old : Option (List ℕ)) (w : StreamingWorld) → without_event w ≡ told → StreamingStands p d w
    → Appends old old (text_of told.lines) × StreamingStands p d told.world
rests told p d old w is stands =
    subst (λ (t : Telling StreamingWorld). Appends old old (text_of t.lines) × StreamingStands p d t.world) is (Appends-nothing old, stands)

-- ---- packets to the device

module _ (detail interface : ℕ) (marks : List PhraseMark) (w : StreamingWorld) (due : Bool) (is : due ≡ is_due_in w.device interface) where
  pub out_rests : due ≡ false → without_event w ≡ outward_turn detail marks interface w
  unfolding outward_turn
  out_rests idle =
      let lost : Bool = loses_out marks interface in
      let runs : Telling StreamingWorld = record { lines = sent_out_lines detail lost interface w; world = packet_sent_out lost interface w } in
      ap (λ (b : Bool). if b then runs else without_event w) (sym idle ∙ is)

  pub out_told : {T E : Type 0} (q : StreamingFields) (e : devices.DeviceFields) (old new : Option (List ℕ)) (r : Result T E) (frames : ℕ) (arrival : Arrival) (lost : Bool)
      → due ≡ true → lost ≡ loses_out marks interface → frames ≡ size_of w.host interface → arrival ≡ arrival_in w.device interface (packet_to lost interface w)
      → StreamingStands q e (packet_sent_out lost interface w) → Prints old new r (out_lines detail interface frames arrival) → StreamingTells (outward_turn detail marks interface w) q e old new r
  unfolding outward_turn
  out_told q e old new r frames arrival lost ran own frames_are arrives stands prints =
      let loses : Bool = loses_out marks interface in
      let runs : Telling StreamingWorld = record { lines = sent_out_lines detail loses interface w; world = packet_sent_out loses interface w } in
      let happens : runs ≡ outward_turn detail marks interface w = ap (λ (b : Bool). if b then runs else without_event w) (sym ran ∙ is) in
      let lines : out_lines detail interface frames arrival ≡ sent_out_lines detail loses interface w =
      ap (λ (n : ℕ). out_lines detail interface n arrival) frames_are
      ∙ ap (out_lines detail interface (size_of w.host interface)) (arrives ∙ ap (λ (b : Bool). arrival_in w.device interface (packet_to b interface w)) own) in
      subst (λ (told : Telling StreamingWorld). StreamingTells told q e old new r) happens (
        subst (λ (ls : List Said). Prints old new r ls) lines prints,
        at_ok (StreamingStands q e (packet_sent_out loses interface w)) r (subst (λ (b : Bool). StreamingStands q e (packet_sent_out b interface w)) own stands),
      )

-- ---- packets from the device

-- how a packet came, and then its frames
pub fetched_told : {T E : Type 0} (old mid new : Option (List ℕ)) (r : Result T E) (detail interface frames : ℕ) (lost : Bool) (heard : List (List ℤ)) → 1 ≤ detail → lost ≡ false
    → Appends old mid (text_of (if nat_le 2 detail then says_in interface frames lost ∷ [] else [])) → Prints mid new r (map (says_frame interface) heard)
    → Prints old new r (in_lines detail lost interface frames heard)
fetched_told old mid new r detail interface frames lost heard some came before after =
    let both : true ≡ (nat_le 1 detail && not lost) = ap (λ (b : Bool). b && true) (sym (le-leb 1 detail some)) ∙ ap (λ (b : Bool). nat_le 1 detail && not b) (sym came) in
    let frames_said : map (says_frame interface) heard ≡ (if nat_le 1 detail && not lost then map (says_frame interface) heard else []) =
    ap (λ (b : Bool). if b then map (says_frame interface) heard else []) both in
    Prints-after old mid new r (if nat_le 2 detail then says_in interface frames lost ∷ [] else []) (if nat_le 1 detail && not lost then map (says_frame interface) heard else [])
    before (subst (λ (ls : List Said). Prints mid new r ls) frames_said after)

-- the host is as it was
host_still : (lost : Bool) (interface : ℕ) (w : StreamingWorld) → (packet_fetched lost interface w).host ≡ w.host
unfolding packet_fetched
host_still lost interface w = refl

module _ (detail interface : ℕ) (marks : List PhraseMark) (w : StreamingWorld) (due : Bool) (is : due ≡ is_due_in w.device interface) where
  pub in_rests : due ≡ false → without_event w ≡ inward_turn detail marks interface w
  unfolding inward_turn
  in_rests idle =
      let lost : Bool = loses_in marks interface in
      let runs : Telling StreamingWorld = record { lines = fetched_lines detail lost interface w; world = packet_fetched lost interface w } in
      ap (λ (b : Bool). if b then runs else without_event w) (sym idle ∙ is)

  pub in_told : {T E : Type 0} (q : StreamingFields) (e : devices.DeviceFields) (old new : Option (List ℕ)) (r : Result T E) (frames : ℕ) (lost : Bool)
      → due ≡ true → lost ≡ loses_in marks interface → frames ≡ frames_in w.device interface → q.fetched_packet ≡ packet_in w.device interface
      → StreamingStands q e (packet_fetched lost interface w)
      → ((h : HostWorld) → hosts.HostStands q.host h → Prints old new r (in_lines detail lost interface frames (heard_in h interface q.fetched_packet)))
      → StreamingTells (inward_turn detail marks interface w) q e old new r
  unfolding inward_turn
  in_told q e old new r frames lost ran own frames_are packet stands prints =
      let loses : Bool = loses_in marks interface in
      let runs : Telling StreamingWorld = record { lines = fetched_lines detail loses interface w; world = packet_fetched loses interface w } in
      let happens : runs ≡ inward_turn detail marks interface w = ap (λ (b : Bool). if b then runs else without_event w) (sym ran ∙ is) in
      let lines : in_lines detail lost interface frames (heard_in w.host interface q.fetched_packet) ≡ fetched_lines detail loses interface w =
      ap (λ (b : Bool). in_lines detail b interface frames (heard_in w.host interface q.fetched_packet)) own
      ∙ ap (λ (n : ℕ). in_lines detail loses interface n (heard_in w.host interface q.fetched_packet)) frames_are
      ∙ ap (λ (bytes : List ℕ). in_lines detail loses interface (frames_in w.device interface) (heard_in w.host interface bytes)) packet in
      let of_host = subst (hosts.HostStands q.host) (host_still lost interface w) stands.host in
      subst (λ (told : Telling StreamingWorld). StreamingTells told q e old new r) happens (
        subst (λ (ls : List Said). Prints old new r ls) lines (prints w.host of_host),
        at_ok (StreamingStands q e (packet_fetched loses interface w)) r (subst (λ (b : Bool). StreamingStands q e (packet_fetched b interface w)) own stands),
      )

-- ---- reports

module _ (detail interface : ℕ) (marks : List PhraseMark) (w : StreamingWorld) (report : Option ℕ) (is : report ≡ feedback_in w.device interface) where
  pub feedback_rests : report ≡ None → without_event w ≡ feedback_turn detail marks interface w
  unfolding feedback_turn
  feedback_rests none =
      let lost : Bool = loses_feedback marks interface in
      let made : ℕ → Telling StreamingWorld = λ value. record { lines = feedback_lines detail lost value interface; world = feedback_made lost value interface w } in
      ap (λ (o : Option ℕ). option_map_or made o (without_event w)) (sym none ∙ is)

  pub feedback_told : {T E : Type 0} (q : StreamingFields) (e : devices.DeviceFields) (old new : Option (List ℕ)) (r : Result T E) (value : ℕ) (lost : Bool)
      → report ≡ Some value → lost ≡ loses_feedback marks interface → StreamingStands q e (feedback_made lost value interface w)
      → Prints old new r (if nat_le 2 detail then says_feedback interface value lost ∷ [] else []) → StreamingTells (feedback_turn detail marks interface w) q e old new r
  unfolding feedback_turn
  feedback_told q e old new r value lost some own stands prints =
      let loses : Bool = loses_feedback marks interface in
      let made : ℕ → Telling StreamingWorld = λ v. record { lines = feedback_lines detail loses v interface; world = feedback_made loses v interface w } in
      let happens : made value ≡ feedback_turn detail marks interface w = ap (λ (o : Option ℕ). option_map_or made o (without_event w)) (sym some ∙ is) in
      subst (λ (told : Telling StreamingWorld). StreamingTells told q e old new r) happens (
        subst (λ (b : Bool). Prints old new r (feedback_lines detail b value interface)) own prints,
        at_ok (StreamingStands q e (feedback_made loses value interface w)) r (subst (λ (b : Bool). StreamingStands q e (feedback_made b value interface w)) own stands),
      )

-- ---- the ends of microframes

-- the device alone changes
ended_stands : (p : StreamingFields) (d e : devices.DeviceFields) (w : StreamingWorld) (detail interface : ℕ) → StreamingStands p d w → devices.DeviceStands e (after_end interface w.device)
    → StreamingStands p e (end_turn detail interface w).world
unfolding end_turn after_end
ended_stands p d e w detail interface stands after = record {
  device = after;
  host = stands.host;
  same = stands.same;
  order = stands.order;
  outs = stands.outs;
  ins = stands.ins;
  met = stands.met;
  steady = stands.steady;
}

-- what is due at another interface stays as it was
zeros_elsewhere : (w : DeviceWorld) (interface other : ℕ) → (other == interface) ≡ false → ZerosFitIn w other → ZerosFitIn (after_end interface w) other
unfolding ZerosFitIn after_end
zeros_elsewhere w interface other differs fits = rw differs fits

-- of those that come, each has room for the zeros that are due
abbrev pub ZerosFitFrom : List ℕ → ℕ → DeviceWorld → Type 0
ZerosFitFrom order i w = (k : ℕ) → i ≤ k → k < length order → ZerosFitIn w (get_or order k 0)

-- the same, and what is kept stands
abbrev pub StandsBefore : StreamingFields → devices.DeviceFields → List ℕ → ℕ → StreamingWorld → Type 0
StandsBefore p d order i w = StreamingStands p d w × ZerosFitFrom order i w.device

range_rises : (a n : ℕ) → IsStrictlyIncreasing (range_with_len a n)
range_rises a n = λ k below.
    let many = length-range_with_len a n in
    let here = get_or-range_with_len a n k 0 (omega (arith, below, many)) in
    let next = get_or-range_with_len a n (k + 1) 0 (omega (arith, below, many)) in
    omega (arith, here, next)

-- each number stands once
numbers_differ : (function : FunctionFields) (i k : ℕ) → i < k → k < length (numbers function) → get_or (numbers function) i 0 < get_or (numbers function) k 0
unfolding numbers
numbers_differ function i k before below =
    let test : ℕ → Bool = λ n. is_some (interface_in function n) in
    AllPairs-from_increasing (filter test (range_with_len 0 256)) (IsStrictlyIncreasing-filter test (range_with_len 0 256) (range_rises 0 256)) i k 0 before below

above_differs : (m n : ℕ) → m < n → (n == m) ≡ false
above_differs m n less = grind arith

-- the microframe ended at one, and what comes still fits
pub ended_one : (p : StreamingFields) (d e : devices.DeviceFields) (w : StreamingWorld) (detail interface i : ℕ) → interface ≡ get_or p.order i 0
    → StandsBefore p d p.order i w → devices.DeviceStands e (after_end interface w.device) → StandsBefore p e p.order (i + 1) (end_turn detail interface w).world
unfolding end_turn
ended_one p d e w detail interface i is before after =
    let order = before.0.order in (
      ended_stands p d e w detail interface before.0 after,
      λ k above below.
          let there : k < length (numbers w.device.function) = subst (λ (ns : List ℕ). k < length ns) order below in
          let less : get_or p.order i 0 < get_or p.order k 0 =
          subst (λ (ns : List ℕ). get_or ns i 0 < get_or ns k 0) (sym order) (numbers_differ w.device.function i k (omega (arith, above)) there) in
          let differs = above_differs interface (get_or p.order k 0) (subst (λ (n : ℕ). n < get_or p.order k 0) (sym is) less) in
          zeros_elsewhere w.device interface (get_or p.order k 0) differs (before.1 k (omega (arith, above)) below),
    )

module _ (p : StreamingFields) (d e : devices.DeviceFields) (detail interface i : ℕ) (mid new : Option (List ℕ)) (is : interface ≡ get_or p.order i 0) (below : i < length p.order) where
  -- it ended at the next one
  pub ended_next : ((v : DeviceWorld) → devices.DeviceStands d v → ZerosFitIn v interface → Appends mid new (text_of (end_lines detail interface v)) × devices.DeviceStands e (after_end interface v))
      → (w : StreamingWorld) → StandsBefore p d p.order i w
      → Appends mid new (text_of (end_turn detail interface w).lines) × StandsBefore p e p.order (i + 1) (end_turn detail interface w).world
  unfolding end_turn
  ended_next tells w before =
      let fits = subst (ZerosFitIn w.device) (sym is) (before.1 i (omega arith) below) in
      let t = tells w.device before.0.device fits in
      (t.0, ended_one p d e w detail interface i is before t.1)

  -- or its line fails
  pub ended_failed : ((v : DeviceWorld) → devices.DeviceStands d v → ZerosFitIn v interface → AppendsFront mid new (text_of (end_lines detail interface v)) × devices.DeviceStands e (after_end interface v))
      → (w : StreamingWorld) → StandsBefore p d p.order i w → AppendsFront mid new (text_of (end_turn detail interface w).lines)
  unfolding end_turn
  ended_failed tells w before =
      let fits = subst (ZerosFitIn w.device) (sym is) (before.1 i (omega arith) below) in
      (tells w.device before.0.device fits).0

-- ---- of all interfaces, by number

-- where those that a test leaves out rest, and the others do as they do, these alone are told
in_turn_chosen : {W : Type 0} (Kept : W → Type 0) (own event : ℕ → W → Telling W) (test : ℕ → Bool)
    → ((n : ℕ) (w : W) → Kept w → test n ≡ true → own n w ≡ event n w) → ((n : ℕ) (w : W) → Kept w → test n ≡ false → without_event w ≡ event n w)
    → ((n : ℕ) (w : W) → Kept w → Kept (event n w).world) → (ns : List ℕ) (w : W) → Kept w → in_turn own (filter test ns) w ≡ in_turn event ns w
unfolding in_turn
in_turn_chosen Kept own event test does rests keeps [] w kept = refl
in_turn_chosen {W = W} Kept own event test does rests keeps (n ∷ ns) w kept =
    elim (cases_Bool (test n)) [
      | inl chosen ↦
          rw chosen
          (ap (λ (told : Telling W). telling_after told.lines (in_turn own (filter test ns) told.world)) (does n w kept chosen)
          ∙ ap (telling_after (event n w).lines) (in_turn_chosen Kept own event test does rests keeps ns (event n w).world (keeps n w kept)))
      | inr left ↦
          rw left
          (in_turn_chosen Kept own event test does rests keeps ns w kept
          ∙ ap (λ (told : Telling W). telling_after told.lines (in_turn event ns told.world)) (rests n w kept left))
    ]

-- the function of the world is this
abbrev IsOf : FunctionFields → StreamingWorld → Type 0
IsOf function w = w.device.function ≡ function

module _ (function : FunctionFields) (detail : ℕ) (marks : List PhraseMark) (interface : ℕ) (w : StreamingWorld) (of : IsOf function w) where
  outward_does : goes_out function interface ≡ true → outward_turn detail marks interface w ≡ out_turn detail marks interface w
  unfolding outward_turn out_turn
  outward_does goes =
      let lost : Bool = loses_out marks interface in
      let runs : Telling StreamingWorld = record { lines = sent_out_lines detail lost interface w; world = packet_sent_out lost interface w } in
      ap (λ (b : Bool). if (b && is_due_in w.device interface) then runs else without_event w) (sym (ap (λ (f : FunctionFields). goes_out f interface) of ∙ goes))

  outward_rests : goes_out function interface ≡ false → without_event w ≡ out_turn detail marks interface w
  unfolding out_turn
  outward_rests stays =
      let lost : Bool = loses_out marks interface in
      let runs : Telling StreamingWorld = record { lines = sent_out_lines detail lost interface w; world = packet_sent_out lost interface w } in
      ap (λ (b : Bool). if (b && is_due_in w.device interface) then runs else without_event w) (sym (ap (λ (f : FunctionFields). goes_out f interface) of ∙ stays))

  outward_keeps : IsOf function (out_turn detail marks interface w).world
  unfolding out_turn packet_sent_out after_receiving
  outward_keeps = elim (cases_Bool (is_out_due w interface)) [ inl due ↦ rw due of | inr not_due ↦ rw not_due of ]

  inward_does : comes_in function interface ≡ true → inward_turn detail marks interface w ≡ in_packet_turn detail marks interface w
  unfolding inward_turn in_packet_turn
  inward_does comes =
      let lost : Bool = loses_in marks interface in
      let runs : Telling StreamingWorld = record { lines = fetched_lines detail lost interface w; world = packet_fetched lost interface w } in
      ap (λ (b : Bool). if (b && is_due_in w.device interface) then runs else without_event w) (sym (ap (λ (f : FunctionFields). comes_in f interface) of ∙ comes))

  inward_rests : comes_in function interface ≡ false → without_event w ≡ in_packet_turn detail marks interface w
  unfolding in_packet_turn
  inward_rests stays =
      let lost : Bool = loses_in marks interface in
      let runs : Telling StreamingWorld = record { lines = fetched_lines detail lost interface w; world = packet_fetched lost interface w } in
      ap (λ (b : Bool). if (b && is_due_in w.device interface) then runs else without_event w) (sym (ap (λ (f : FunctionFields). comes_in f interface) of ∙ stays))

  inward_keeps : IsOf function (in_packet_turn detail marks interface w).world
  unfolding in_packet_turn packet_fetched after_sending_in_packet
  inward_keeps = elim (cases_Bool (is_in_due w interface)) [ inl due ↦ rw due of | inr not_due ↦ rw not_due of ]

pub out_packets_are : (detail : ℕ) (marks : List PhraseMark) (w : StreamingWorld) (outs : List ℕ) → outs ≡ numbers_out w.device.function
    → in_turn (outward_turn detail marks) outs w ≡ out_packets detail marks w
unfolding out_packets
out_packets_are detail marks w outs is =
    let function = w.device.function in
    ap (λ (ns : List ℕ). in_turn (outward_turn detail marks) ns w) is
    ∙ in_turn_chosen (IsOf function) (outward_turn detail marks) (out_turn detail marks) (goes_out function) (outward_does function detail marks)
    (outward_rests function detail marks) (outward_keeps function detail marks) (numbers function) w refl

pub in_packets_are : (detail : ℕ) (marks : List PhraseMark) (w : StreamingWorld) (ins : List ℕ) → ins ≡ numbers_in w.device.function
    → in_turn (inward_turn detail marks) ins w ≡ in_packets detail marks w
unfolding in_packets
in_packets_are detail marks w ins is =
    let function = w.device.function in
    ap (λ (ns : List ℕ). in_turn (inward_turn detail marks) ns w) is
    ∙ in_turn_chosen (IsOf function) (inward_turn detail marks) (in_packet_turn detail marks) (comes_in function) (inward_does function detail marks)
    (inward_rests function detail marks) (inward_keeps function detail marks) (numbers function) w refl

pub all_ends_are : (detail : ℕ) (w : StreamingWorld) (order : List ℕ) → order ≡ numbers w.device.function → in_turn (end_turn detail) order w ≡ all_ends detail w
unfolding all_ends
all_ends_are detail w order is = ap (λ (ns : List ℕ). in_turn (end_turn detail) ns w) is

pub all_feedback_are : (detail : ℕ) (marks : List PhraseMark) (w : StreamingWorld) (order : List ℕ) → order ≡ numbers w.device.function
    → in_turn (feedback_turn detail marks) order w ≡ all_feedback detail marks w
unfolding all_feedback
all_feedback_are detail marks w order is = ap (λ (ns : List ℕ). in_turn (feedback_turn detail marks) ns w) is
