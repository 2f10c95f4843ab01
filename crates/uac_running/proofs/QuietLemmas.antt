-- Microframes of a device of one domain that runs no stream: their ticks may wait, and at detail 0 they say nothing.
use Rattle.std.proofs.Common.{◌≡◌, ◌∙◌, sym, ap, arith, subst, refl, ℕ, zero, suc, ◌+◌, ◌≤◌, ◌==◌, ◌&&◌, nat_le, Bool, true, false, if◌then◌else◌, List, [], ◌∷◌, ◌++◌, map, filter, Option, None, inl, inr}
use Rattle.std.proofs.Math.Bool.{and-false}
use Rattle.std.proofs.Math.Path.{fun_ext}
use Rattle.std.specs.Option.{option_map, option_map_or}
use Rattle.std.proofs.lemmas.Bool.{cases_Bool}
use Rattle.std.proofs.lemmas.List.{append-nil}
use Rattle.uac_topology.specs.Function.{FunctionFields}
use Rattle.uac_entities.specs.declared.stream.StreamInterface.{StreamInterface}
use Rattle.uac_units.specs.Hearing.{Reading, at_most_u64}
use Rattle.uac_script.specs.Phrase.{PhraseMark}
use Rattle.uac_flow.specs.FlowStreams.{InStream, OutStream, after_ticks, in_after_end, is_dry, is_full, out_after_end}
use Rattle.uac_device.specs.InterfaceStreams.{NoneRuns, changed_where, either_due, streams_changed_at}
use Rattle.uac_device.specs.DeviceWorld.{DeviceWorld, Domain, after_advance, after_end, after_frames, after_tick, heard_of, input_of, is_due_in, is_on, level_of, next_ticks, renders_of, set_jack, step_in, steps_with_next, streamed_frame, target_of}
use Rattle.uac_device.specs.DeviceSums.{after_advances, ticks_over}
use Rattle.uac_device.specs.declared.jacks.Jack.{Jack}
use Rattle.uac_ring.specs.declared.counts.StreamCounts.{StreamCounts}
use Rattle.uac_transcript.specs.Transcript.{Said, says_level, says_over, says_under}
use Rattle.uac_streaming.specs.Telling.{Telling, in_turn, telling_after, without_event}
use Rattle.uac_streaming.specs.StreamingWorld as streams
use Rattle.uac_streaming.specs.StreamingWorld.{StreamingWorld, all_ends, all_feedback, end_lines, end_turn, found_counts, found_lines, goes_out, in_packets, numbers, one_over, one_under, out_packets}
use Rattle.uac_streaming.proofs.StreamingWorldQuietLemmas.{quiet_feedback, quiet_in, quiet_out}
use Rattle.uac_running.specs.RunningWorld.{RunningWorld, streaming_of}
use Rattle.uac_running.specs.ReportLines.{played_lines}
use Rattle.uac_running.specs.Events.{after_all_jacks, after_jacks, all_domains, domain_microframe, domain_microframes, ends_and_feedback, jacks_after_frame, microframe, microframes, next_frame, number_said, of_streams, packets_and_ticks, tick, tick_times}
use Rattle.uac_running.specs.EventTicks.{met_after, running_after}
use Rattle.uac_running.specs.Quiet.{IsIdle, IsQuiet, Waits, gone_on}
use Rattle.uac_running.specs.RunningKept.{RunningFields, RunningStands}
use Rattle.uac_streaming.specs.Room.{HaveRoom}
use Rattle.uac_streaming.proofs.RoomDeviceLemmas.{HaveSmallNumbers}
use Rattle.uac_running.proofs.RoomLemmas.{one_microframe}
use Rattle.uac_running.specs.Silence.{packets}
use Rattle.uac_running.proofs.EventsLemmas.{after_jacks-kept, numbered}
use Rattle.uac_running.proofs.EventTicksLemmas.{ticks_by_parts}
use Rattle.uac_running.proofs.StillnessLemmas.{none_given, stills_after}
use Rattle.uac_running.proofs.SilencePacketLemmas.{packets_first, still_streams}

-- ---- a clock goes on beside the ticks

-- a device with other clocks
abbrev pub clocked : List Domain → DeviceWorld → DeviceWorld
clocked ds w = record w { domains = ds }

-- the clocks of which that of a domain went on
abbrev pub stepped : ℕ → DeviceWorld → List Domain
stepped domain w = map {A = Domain} (λ d. if d.id == domain then record d { steps = steps_with_next w d } else d) w.domains

none_where : {S : Type 0} (test : ℕ → Bool) (change : ℕ → S → S) (streams : ℕ → Option S) → ((k : ℕ) → streams k ≡ None) → changed_where test change streams ≡ streams
none_where test change streams none = fun_ext (λ k. (ap (option_map (λ s. if test k then change k s else s)) (none k) ∙ sym (none k)))

advance_clocks : (domain : ℕ) (w : DeviceWorld) → NoneRuns w.outs w.ins → after_advance domain w ≡ clocked (stepped domain w) w
unfolding after_advance
advance_clocks domain w none =
    ap (λ (outs : ℕ → Option OutStream). record w { domains = stepped domain w; outs = outs })
    (none_where (is_on w domain) (λ interface. after_ticks (next_ticks domain w)) w.outs (λ k. (none k).0))

jacks_clocked : (domain : ℕ) (ds : List Domain) (jacks : List Jack) (w : DeviceWorld) → after_jacks domain jacks (clocked ds w) ≡ clocked ds (after_jacks domain jacks w)
unfolding set_jack
jacks_clocked domain ds [] w = refl
jacks_clocked domain ds (j ∷ js) w =
    elim (cases_Bool (j.domain == domain)) [
      | inl same ↦ rw same (jacks_clocked domain ds js (set_jack j.terminal (next_frame j) w))
      | inr other ↦ rw other (jacks_clocked domain ds js w)
    ]

-- a running device at another time, with other clocks
abbrev pub with_clocks : ℕ → List Domain → RunningWorld → RunningWorld
with_clocks time ds r = record r { time = time; device = clocked ds r.device }

tick_clocked : (domain time : ℕ) (ds : List Domain) (r : RunningWorld) → (tick domain (with_clocks time ds r)).world ≡ with_clocks time ds (tick domain r).world
unfolding tick after_all_jacks after_tick input_of streamed_frame found_counts heard_of renders_of
tick_clocked domain time ds r =
    ap
    (λ (w : DeviceWorld). record r {
      time = time;
      device = after_tick domain w;
      jacks = jacks_after_frame domain r.jacks;
      met = found_counts domain w r.met;
      meters = after_frames (heard_of domain (after_tick domain w)) r.meters;
      renders = at_most_u64 (r.renders + renders_of domain w);
    })
    (jacks_clocked domain ds r.jacks r.device)

-- the world after so many ticks
abbrev pub ticked : ℕ → ℕ → RunningWorld → RunningWorld
ticked n domain r = (tick_times n domain r).world

pub ticked_clocked : (n domain time : ℕ) (ds : List Domain) (r : RunningWorld) → ticked n domain (with_clocks time ds r) ≡ with_clocks time ds (ticked n domain r)
unfolding tick_times
ticked_clocked zero domain time ds r = refl
ticked_clocked (suc n) domain time ds r =
    ap (ticked n domain) (tick_clocked domain time ds r) ∙ ticked_clocked n domain time ds (tick domain r).world

-- so many ticks and then so many more
pub ticks_join : (n t domain : ℕ) (r : RunningWorld) → ticked t domain (ticked n domain r) ≡ ticked (n + t) domain r
unfolding tick_times
ticks_join zero t domain r =
    let same : t ≡ 0 + t = omega arith in
    ap (λ (k : ℕ). ticked k domain r) same
ticks_join (suc n) t domain r =
    let same : suc (n + t) ≡ suc n + t = omega arith in
    ticks_join n t domain (tick domain r).world ∙ ap (λ (k : ℕ). ticked k domain r) same

-- what a tick keeps, so many keep
pub ticked_kept : {X : Type 0} (f : RunningWorld → X) (domain : ℕ) → ((r : RunningWorld) → f (tick domain r).world ≡ f r) → (n : ℕ) (r : RunningWorld) → f (ticked n domain r) ≡ f r
unfolding tick_times
ticked_kept f domain keeps zero r = refl
ticked_kept f domain keeps (suc n) r = ticked_kept f domain keeps n (tick domain r).world ∙ keeps r

pub time_kept : (domain : ℕ) (r : RunningWorld) → (tick domain r).world.time ≡ r.time
unfolding tick
time_kept domain r = refl

function_kept : (domain : ℕ) (r : RunningWorld) → (tick domain r).world.device.function ≡ r.device.function
unfolding tick after_tick after_all_jacks set_jack
function_kept domain r = after_jacks-kept (λ w. w.function) (λ t frame w. refl) domain r.jacks r.device

clocks_kept : (domain : ℕ) (r : RunningWorld) → stepped domain (tick domain r).world.device ≡ stepped domain r.device
unfolding tick after_tick after_all_jacks set_jack step_in
clocks_kept domain r = after_jacks-kept (stepped domain) (λ t frame w. refl) domain r.jacks r.device

pub next_kept : (domain : ℕ) (r : RunningWorld) → next_ticks domain (tick domain r).world.device ≡ next_ticks domain r.device
unfolding tick after_tick after_all_jacks set_jack step_in next_ticks
next_kept domain r = after_jacks-kept (next_ticks domain) (λ t frame w. refl) domain r.jacks r.device

pub detail_kept : (domain : ℕ) (r : RunningWorld) → (tick domain r).world.detail ≡ r.detail
unfolding tick
detail_kept domain r = refl

-- ---- where no stream runs a tick finds nothing, and at detail 0 it says nothing

idle_tick : (domain : ℕ) (r : RunningWorld) → IsIdle domain r → IsIdle domain (tick domain r).world
unfolding tick
idle_tick domain r q = record {
  none = (stills_after domain r q.none).none;
  only = ap (λ (f : FunctionFields). f.domains) (function_kept domain r) ∙ q.only;
}

pub idle_ticked : (n domain : ℕ) (r : RunningWorld) → IsIdle domain r → IsIdle domain (ticked n domain r)
unfolding tick_times
idle_ticked zero domain r q = q
idle_ticked (suc n) domain r q = idle_ticked n domain (tick domain r).world (idle_tick domain r q)

quiet_tick : (domain : ℕ) (r : RunningWorld) → IsQuiet domain r → IsQuiet domain (tick domain r).world
quiet_tick domain r q = record { detail = detail_kept domain r ∙ q.detail; idle = idle_tick domain r q.idle }

none_empty : (domain : ℕ) (w : DeviceWorld) (k : ℕ) → NoneRuns w.outs w.ins → streams.finds_empty domain w k ≡ false
none_empty domain w k none =
    ap (λ (o : Option OutStream). is_on w domain k && option_map_or is_dry o false) (none k).0 ∙ and-false (is_on w domain k)

none_full : (domain : ℕ) (w : DeviceWorld) (k : ℕ) → NoneRuns w.outs w.ins → streams.finds_full domain w k ≡ false
none_full domain w k none =
    ap (λ (i : Option InStream). is_on w domain k && option_map_or is_full i false) (none k).1 ∙ and-false (is_on w domain k)

none_counted : (domain : ℕ) (w : DeviceWorld) (met : ℕ → StreamCounts) → NoneRuns w.outs w.ins → found_counts domain w met ≡ met
unfolding found_counts
none_counted domain w met none =
    fun_ext
    (λ k.
    (ap
    (λ (b : Bool).
    let c = if b then one_under (met k) else met k in
    if streams.finds_full domain w k then one_over c else c)
    (none_empty domain w k none)
    ∙ ap (λ (b : Bool). if b then one_over (met k) else met k) (none_full domain w k none)))

none_of : {A : Type 0} (test : A → Bool) (xs : List A) → ((x : A) → test x ≡ false) → filter test xs ≡ []
none_of test [] none = refl
none_of test (x ∷ xs) none = rw (none x) (none_of test xs none)

pub none_found : (domain : ℕ) (w : DeviceWorld) → NoneRuns w.outs w.ins → found_lines domain w ≡ []
unfolding found_lines
none_found domain w none =
    let full : StreamInterface → Bool = λ s. streams.finds_full domain w s.number in
    ap (λ (ss : List StreamInterface). map (λ s. says_under s.number) ss ++ map (λ s. says_over s.number) (filter full w.function.streams))
    (none_of (λ (s : StreamInterface). streams.finds_empty domain w s.number) w.function.streams (λ s. none_empty domain w s.number none))
    ∙ ap (λ (ss : List StreamInterface). map (λ s. says_over s.number) ss) (none_of full w.function.streams (λ s. none_full domain w s.number none))

tick_silent : (domain : ℕ) (r : RunningWorld) → IsQuiet domain r → (tick domain r).lines ≡ []
unfolding tick
tick_silent domain r q =
    let played : List Said = played_lines domain (after_tick domain (after_all_jacks domain r)) in
    ap (λ (ls : List Said). ls ++ (if nat_le 1 r.detail then played else [])) (none_found domain (after_all_jacks domain r) (none_given domain r q.idle.none))
    ∙ ap (λ (n : ℕ). if nat_le 1 n then played else []) q.detail

ticks_silent : (n domain : ℕ) (r : RunningWorld) → IsQuiet domain r → (tick_times n domain r).lines ≡ []
unfolding tick_times
ticks_silent zero domain r q = refl
ticks_silent (suc n) domain r q =
    ap (λ (ls : List Said). ls ++ (tick_times n domain (tick domain r).world).lines) (tick_silent domain r q)
    ∙ ticks_silent n domain (tick domain r).world (quiet_tick domain r q)

tick_meets : (domain : ℕ) (r : RunningWorld) → IsIdle domain r → (tick domain r).world.met ≡ r.met
unfolding tick
tick_meets domain r q = none_counted domain (after_all_jacks domain r) r.met (none_given domain r q.none)

ticks_meet : (n domain : ℕ) (r : RunningWorld) → IsIdle domain r → (ticked n domain r).met ≡ r.met
unfolding tick_times
ticks_meet zero domain r q = refl
ticks_meet (suc n) domain r q = ticks_meet n domain (tick domain r).world (idle_tick domain r q) ∙ tick_meets domain r q

pub world_ticked : (n domain : ℕ) (r : RunningWorld) → running_after domain n r ≡ ticked n domain r
world_ticked n domain r = sym (ap (λ (told : Telling RunningWorld). told.world) (ticks_by_parts n domain r))

pub met_waits : (n domain : ℕ) (r : RunningWorld) → IsIdle domain r → met_after domain n r ≡ r.met
unfolding running_after
met_waits n domain r q = ap (λ (v : RunningWorld). v.met) (world_ticked n domain r) ∙ ticks_meet n domain r q

-- ---- a microframe

-- a domain's clock went on
abbrev advanced : ℕ → RunningWorld → RunningWorld
advanced domain r = record r { device = after_advance domain r.device }

idle_numbered : (domain : ℕ) (r : RunningWorld) → IsIdle domain r → IsIdle domain (numbered r)
idle_numbered domain r q = record { none = q.none; only = q.only }

idle_advanced : (domain : ℕ) (r : RunningWorld) → IsIdle domain r → IsIdle domain (advanced domain r)
idle_advanced domain r q =
    subst (λ (w : DeviceWorld). IsIdle domain (record r { device = w })) (sym (advance_clocks domain r.device q.none))
    (record { none = q.none; only = q.only })

pub idle_gone_on : (domain : ℕ) (r : RunningWorld) → IsIdle domain r → IsIdle domain (gone_on domain r)
idle_gone_on domain r q = idle_advanced domain (numbered r) (idle_numbered domain r q)

pub gone_clocked : (domain : ℕ) (r : RunningWorld) → IsIdle domain r → gone_on domain r ≡ with_clocks (at_most_u64 (r.time + 1)) (stepped domain r.device) r
gone_clocked domain r q =
    ap (λ (w : DeviceWorld). record r { time = at_most_u64 (r.time + 1); device = w }) (advance_clocks domain r.device q.none)

-- a microframe more before the ticks that wait, or after them
pub gone_waits : (n domain : ℕ) (r : RunningWorld) → IsIdle domain r → gone_on domain (ticked n domain r) ≡ ticked n domain (gone_on domain r)
gone_waits n domain r q =
    gone_clocked domain (ticked n domain r) (idle_ticked n domain r q)
    ∙ ap (λ (time : ℕ). with_clocks (at_most_u64 (time + 1)) (stepped domain (ticked n domain r).device) (ticked n domain r))
    (ticked_kept (λ (v : RunningWorld). v.time) domain (time_kept domain) n r)
    ∙ ap (λ (ds : List Domain). with_clocks (at_most_u64 (r.time + 1)) ds (ticked n domain r))
    (ticked_kept (λ (v : RunningWorld). stepped domain v.device) domain (clocks_kept domain) n r)
    ∙ sym (ticked_clocked n domain (at_most_u64 (r.time + 1)) (stepped domain r.device) r)
    ∙ ap (ticked n domain) (sym (gone_clocked domain r q))

silent_packets : (marks : List PhraseMark) (r : RunningWorld) → NoneRuns r.device.outs r.device.ins → packets marks r ≡ without_event r
silent_packets marks r none =
    ap (λ (t : Telling RunningWorld). telling_after t.lines (of_streams (in_packets r.detail marks) t.world))
    (still_streams (out_packets r.detail marks) r (quiet_out r.detail marks (streaming_of r) none))
    ∙ still_streams (in_packets r.detail marks) r (quiet_in r.detail marks (streaming_of r) none)

one_domain : (domain : ℕ) (r : RunningWorld) → IsIdle domain r → all_domains r ≡ tick_times (next_ticks domain r.device) domain (advanced domain r)
unfolding domain_microframes domain_microframe
one_domain domain r q =
    let told : Telling RunningWorld = tick_times (next_ticks domain r.device) domain (advanced domain r) in
    ap (λ (ds : List ℕ). domain_microframes ds r) q.only ∙ ap (λ (ls : List Said). record { lines = ls; world = told.world }) (append-nil told.lines)

idle_ticks : (marks : List PhraseMark) (domain : ℕ) (r : RunningWorld) → IsIdle domain r
    → packets_and_ticks marks r ≡ tick_times (next_ticks domain r.device) domain (advanced domain r)
idle_ticks marks domain r q =
    sym (packets_first marks r)
    ∙ ap (λ (t : Telling RunningWorld). telling_after t.lines (all_domains t.world)) (silent_packets marks r q.none)
    ∙ one_domain domain r q

none_at : {S : Type 0} (interface : ℕ) (change : S → S) (streams : ℕ → Option S) → ((k : ℕ) → streams k ≡ None) → streams_changed_at interface change streams ≡ streams
none_at interface change streams none = fun_ext (λ k. by k (k == interface))
  where
    by : (k : ℕ) (b : Bool) → (if b then option_map change (streams k) else streams k) ≡ streams k
    by k true = ap (option_map change) (none k) ∙ sym (none k)
    by k false = refl

none_ends : (interface : ℕ) (w : DeviceWorld) → NoneRuns w.outs w.ins → after_end interface w ≡ w
unfolding after_end
none_ends interface w none =
    ap (λ (outs : ℕ → Option OutStream). record w { outs = outs; ins = streams_changed_at interface in_after_end w.ins })
    (none_at interface out_after_end w.outs (λ k. (none k).0))
    ∙ ap (λ (ins : ℕ → Option InStream). record w { ins = ins }) (none_at interface in_after_end w.ins (λ k. (none k).1))

none_due : (interface : ℕ) (w : DeviceWorld) → NoneRuns w.outs w.ins → is_due_in w interface ≡ false
unfolding is_due_in
none_due interface w none =
    ap (λ (o : Option OutStream). either_due o (w.ins interface)) (none interface).0 ∙ ap (λ (i : Option InStream). either_due None i) (none interface).1

no_level : (detail interface : ℕ) (w : DeviceWorld) → NoneRuns w.outs w.ins → end_lines detail interface w ≡ []
no_level detail interface w none =
    let says : List Said = says_level interface (level_of (after_end interface w) interface) (target_of (after_end interface w) interface) ∷ [] in
    ap (λ (b : Bool). if nat_le 2 detail && (goes_out w.function interface && b) then says else []) (none_due interface w none)
    ∙ ap (λ (b : Bool). if nat_le 2 detail && b then says else []) (and-false (goes_out w.function interface))
    ∙ ap (λ (b : Bool). if b then says else []) (and-false (nat_le 2 detail))

one_ends : (detail interface : ℕ) (w : StreamingWorld) → NoneRuns w.device.outs w.device.ins → end_turn detail interface w ≡ without_event w
unfolding end_turn
one_ends detail interface w none =
    ap (λ (ls : List Said). record { lines = ls; world = record w { device = after_end interface w.device } }) (no_level detail interface w.device none)
    ∙ ap (λ (v : DeviceWorld). without_event (record w { device = v })) (none_ends interface w.device none)

turns_end : (detail : ℕ) (ns : List ℕ) (w : StreamingWorld) → NoneRuns w.device.outs w.device.ins → in_turn (end_turn detail) ns w ≡ without_event w
unfolding in_turn
turns_end detail [] w none = refl
turns_end detail (n ∷ ns) w none =
    ap (λ (t : Telling StreamingWorld). telling_after t.lines (in_turn (end_turn detail) ns t.world)) (one_ends detail n w none) ∙ turns_end detail ns w none

streams_end : (detail : ℕ) (w : StreamingWorld) → NoneRuns w.device.outs w.device.ins → all_ends detail w ≡ without_event w
unfolding all_ends
streams_end detail w none = turns_end detail (numbers w.device.function) w none

silent_ends : (marks : List PhraseMark) (domain : ℕ) (r : RunningWorld) → IsIdle domain r → ends_and_feedback marks r ≡ without_event r
unfolding ends_and_feedback
silent_ends marks domain r q =
    ap (λ (t : Telling RunningWorld). telling_after t.lines (of_streams (all_feedback t.world.detail marks) t.world))
    (still_streams (all_ends r.detail) r (streams_end r.detail (streaming_of r) q.none))
    ∙ still_streams (all_feedback r.detail marks) r (quiet_feedback r.detail marks (streaming_of r) q.none)

-- a microframe is its number and its ticks, after one microframe more
pub idle_microframe : (marks : List PhraseMark) (domain : ℕ) (r : RunningWorld) → IsIdle domain r
    → microframe marks r
    ≡ telling_after (number_said r.detail (at_most_u64 (r.time + 1))) (tick_times (next_ticks domain r.device) domain (gone_on domain r))
unfolding microframe next_ticks step_in
idle_microframe marks domain r q =
    let said : List Said = number_said r.detail (at_most_u64 (r.time + 1)) in
    let told : Telling RunningWorld = tick_times (next_ticks domain r.device) domain (gone_on domain r) in
    ap (λ (t : Telling RunningWorld). telling_after said (telling_after t.lines (ends_and_feedback marks t.world)))
    (idle_ticks marks domain (numbered r) (idle_numbered domain r q))
    ∙ ap (λ (t : Telling RunningWorld). telling_after said (telling_after told.lines t))
    (silent_ends marks domain told.world (idle_ticked (next_ticks domain r.device) domain (gone_on domain r) (idle_gone_on domain r q)))
    ∙ ap (λ (ls : List Said). record { lines = said ++ ls; world = told.world }) (append-nil told.lines)

-- one microframe more is its ticks more that wait
pub more_wait : (marks : List PhraseMark) (waiting domain : ℕ) (r : RunningWorld) → IsIdle domain r
    → (microframe marks (ticked waiting domain r)).world ≡ ticked (waiting + next_ticks domain r.device) domain (gone_on domain r)
more_wait marks waiting domain r q =
    ap (λ (t : Telling RunningWorld). t.world) (idle_microframe marks domain (ticked waiting domain r) (idle_ticked waiting domain r q))
    ∙ ap (λ (n : ℕ). ticked n domain (gone_on domain (ticked waiting domain r)))
    (ticked_kept (λ (v : RunningWorld). next_ticks domain v.device) domain (next_kept domain) waiting r)
    ∙ ap (ticked (next_ticks domain r.device) domain) (gone_waits waiting domain r q)
    ∙ ticks_join waiting (next_ticks domain r.device) domain (gone_on domain r)

-- of several microframes, the last
last_microframe : (marks : List PhraseMark) (n : ℕ) (r : RunningWorld) → (microframes marks (suc n) r).world ≡ (microframe marks (microframes marks n r).world).world
unfolding microframes
last_microframe marks zero r = refl
last_microframe marks (suc n) r = last_microframe marks n (microframe marks r).world

-- ---- several microframes, whose ticks are still to come

unfoldable gone_times : ℕ → ℕ → RunningWorld → RunningWorld
gone_times zero domain r = r
gone_times (suc n) domain r = gone_on domain (gone_times n domain r)

idle_gone : (n domain : ℕ) (r : RunningWorld) → IsIdle domain r → IsIdle domain (gone_times n domain r)
unfolding gone_times
idle_gone zero domain r q = q
idle_gone (suc n) domain r q = idle_gone_on domain (gone_times n domain r) (idle_gone n domain r q)

device_gone : (n domain : ℕ) (r : RunningWorld) → (gone_times n domain r).device ≡ after_advances domain n r.device
unfolding gone_times after_advances
device_gone zero domain r = refl
device_gone (suc n) domain r = ap (after_advance domain) (device_gone n domain r)

-- they are counted at once, and the clock goes on by all of them
gone_over : (n domain : ℕ) (r : RunningWorld)
    → gone_times (suc n) domain r ≡ record r { time = at_most_u64 (r.time + suc n); device = after_advances domain (suc n) r.device }
unfolding gone_times after_advances
gone_over zero domain r = refl
gone_over (suc n) domain r =
    let same : at_most_u64 (at_most_u64 (r.time + suc n) + 1) ≡ at_most_u64 (r.time + suc (suc n)) = omega arith in
    ap (gone_on domain) (gone_over n domain r)
    ∙ ap (λ (time : ℕ). record r { time = time; device = after_advances domain (suc (suc n)) r.device }) same

-- so many microframes are their ticks, after so many microframes more
microframes_wait : (marks : List PhraseMark) (n domain : ℕ) (r : RunningWorld) → IsIdle domain r
    → (microframes marks n r).world ≡ ticked (ticks_over domain n r.device) domain (gone_times n domain r)
unfolding microframes ticks_over gone_times tick_times
microframes_wait marks zero domain r q = refl
microframes_wait marks (suc n) domain r q =
    last_microframe marks n r
    ∙ ap (λ (w : RunningWorld). (microframe marks w).world) (microframes_wait marks n domain r q)
    ∙ more_wait marks (ticks_over domain n r.device) domain (gone_times n domain r) (idle_gone n domain r q)
    ∙ ap (λ (w : DeviceWorld). ticked (ticks_over domain n r.device + next_ticks domain w) domain (gone_on domain (gone_times n domain r)))
    (device_gone n domain r)

pub idle_later : (marks : List PhraseMark) (n domain : ℕ) (r : RunningWorld) → IsIdle domain r → IsIdle domain (microframes marks n r).world
idle_later marks n domain r q =
    subst (IsIdle domain) (sym (microframes_wait marks n domain r q))
    (idle_ticked (ticks_over domain n r.device) domain (gone_times n domain r) (idle_gone n domain r q))

gone_detail : (n domain : ℕ) (r : RunningWorld) → (gone_times n domain r).detail ≡ r.detail
unfolding gone_times
gone_detail zero domain r = refl
gone_detail (suc n) domain r = gone_detail n domain r

pub quiet_later : (marks : List PhraseMark) (n domain : ℕ) (r : RunningWorld) → IsQuiet domain r → IsQuiet domain (microframes marks n r).world
quiet_later marks n domain r q = record {
  detail =
      ap (λ (v : RunningWorld). v.detail) (microframes_wait marks n domain r q.idle)
      ∙ ticked_kept (λ (v : RunningWorld). v.detail) domain (detail_kept domain) (ticks_over domain n r.device) (gone_times n domain r)
      ∙ gone_detail n domain r
      ∙ q.detail;
  idle = idle_later marks n domain r q.idle;
}

-- so many microframes and then so many more
pub microframes_join : (marks : List PhraseMark) (n k : ℕ) (r : RunningWorld)
    → (microframes marks k (microframes marks n r).world).world ≡ (microframes marks (n + k) r).world
unfolding microframes
microframes_join marks zero k r =
    let same : k ≡ 0 + k = omega arith in
    ap (λ (j : ℕ). (microframes marks j r).world) same
microframes_join marks (suc n) k r =
    let same : suc (n + k) ≡ suc n + k = omega arith in
    microframes_join marks n k (microframe marks r).world ∙ ap (λ (j : ℕ). (microframes marks j r).world) same

-- ---- ticks that wait

-- what waited is done
pub waited : (domain waiting : ℕ) (p q : RunningFields) (shown showing : List Reading) (r : RunningWorld) (waits : Waits domain waiting p shown r)
    → RunningStands q showing (running_after domain waiting waits.before) → RunningStands q showing r
waited domain waiting p q shown showing r waits stands =
    subst (RunningStands q showing) (world_ticked waiting domain waits.before ∙ sym waits.done) stands

-- the ticks of so many microframes wait
pub waits_over : (marks : List PhraseMark) (domain n ticks : ℕ) (p : RunningFields) (shown : List Reading) (r : RunningWorld) → 1 ≤ n → IsIdle domain r
    → ticks ≡ ticks_over domain n r.device → RunningStands p shown (record r { time = at_most_u64 (r.time + n); device = after_advances domain n r.device })
    → Waits domain ticks p shown (microframes marks n r).world
waits_over marks domain zero ticks p shown r some idle same stands = absurd (let none : 1 ≤ 0 = some in omega (arith, none))
waits_over marks domain (suc n) ticks p shown r some idle same stands = record {
  before = gone_times (suc n) domain r;
  stands = subst (RunningStands p shown) (sym (gone_over n domain r)) stands;
  idle = idle_gone (suc n) domain r idle;
  done =
      microframes_wait marks (suc n) domain r idle
      ∙ ap (λ (k : ℕ). ticked k domain (gone_times (suc n) domain r)) (sym same);
}

-- ---- what several microframes leave

-- the world after a microframe
abbrev next_world : ℕ → RunningWorld → RunningWorld
next_world domain r = ticked (next_ticks domain r.device) domain (gone_on domain r)

idle_next : (domain : ℕ) (r : RunningWorld) → IsIdle domain r → IsIdle domain (next_world domain r)
idle_next domain r q = idle_ticked (next_ticks domain r.device) domain (gone_on domain r) (idle_gone_on domain r q)

quiet_next : (domain : ℕ) (r : RunningWorld) → IsQuiet domain r → IsQuiet domain (next_world domain r)
quiet_next domain r q = record {
  detail =
      ticked_kept (λ (v : RunningWorld). v.detail) domain (detail_kept domain) (next_ticks domain r.device) (gone_on domain r) ∙ q.detail;
  idle = idle_next domain r q.idle;
}

quiet_microframe : (marks : List PhraseMark) (domain : ℕ) (r : RunningWorld) → IsQuiet domain r → microframe marks r ≡ without_event (next_world domain r)
quiet_microframe marks domain r q =
    let time : ℕ = at_most_u64 (r.time + 1) in
    let told : Telling RunningWorld = tick_times (next_ticks domain r.device) domain (gone_on domain r) in
    idle_microframe marks domain r q.idle
    ∙ ap (λ (n : ℕ). telling_after (number_said n time) told) q.detail
    ∙ ap (λ (ls : List Said). record { lines = ls; world = told.world })
    (ticks_silent (next_ticks domain r.device) domain (gone_on domain r) (record { detail = q.detail; idle = idle_gone_on domain r q.idle }))

pub quiet_lines : (marks : List PhraseMark) (n domain : ℕ) (r : RunningWorld) → IsQuiet domain r → (microframes marks n r).lines ≡ []
unfolding microframes
quiet_lines marks zero domain r q = refl
quiet_lines marks (suc n) domain r q =
    ap (λ (t : Telling RunningWorld). t.lines ++ (microframes marks n t.world).lines) (quiet_microframe marks domain r q)
    ∙ quiet_lines marks n domain (next_world domain r) (quiet_next domain r q)

next_function : (domain : ℕ) (r : RunningWorld) → (next_world domain r).device.function ≡ r.device.function
unfolding after_advance
next_function domain r =
    ticked_kept (λ (v : RunningWorld). v.device.function) domain (function_kept domain) (next_ticks domain r.device) (gone_on domain r)

pub idle_room : (marks : List PhraseMark) (n domain : ℕ) (r : RunningWorld) → HaveSmallNumbers r.device.function → IsIdle domain r → HaveRoom r.device
    → HaveRoom (microframes marks n r).world.device
unfolding microframes
idle_room marks zero domain r small q room = room
idle_room marks (suc n) domain r small q room =
    subst (λ (t : Telling RunningWorld). HaveRoom (microframes marks n t.world).world.device) (sym (idle_microframe marks domain r q))
    (idle_room marks n domain (next_world domain r) (subst HaveSmallNumbers (sym (next_function domain r)) small) (idle_next domain r q)
    (subst (λ (t : Telling RunningWorld). HaveRoom t.world.device) (idle_microframe marks domain r q) (one_microframe marks r small room)))
