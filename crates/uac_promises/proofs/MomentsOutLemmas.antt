-- At every moment of a steady microframe the ring of a primed stream to the device holds enough.
use Rattle.std.proofs.Common.{arith, ◌≡◌, ◌∙◌, sym, refl, ap, subst, ℕ, zero, suc, ◌≤◌, ◌==◌, ◌&&◌, nat_eq, Bool, true, false, if◌then◌else◌, List, [], ◌∷◌, ◌++◌, length, Option, Some, None}
use Rattle.std.specs.List.{All, IsDistinct}
use Rattle.std.specs.Option.{option_map, option_map_or}
use Rattle.std.proofs.lemmas.List.Elements.{All-append, All-cons, All-nil}
use Rattle.uac_clock.specs.Ticks.{ticks_in}
use Rattle.uac_rate.specs.Levels.{IsSafeLevel}
use Rattle.uac_rate.specs.Steadiness.{is_steady}
use Rattle.uac_topology.specs.Function.{FunctionFields}
use Rattle.uac_flow.specs.FlowStreams.{OutStream, after_packet, after_taking, after_ticks, is_due, out_level, zeros_due}
use Rattle.uac_host.specs.HostWorld.{Track}
use Rattle.uac_host.specs.HostCalls.{packet_of, size_of}
use Rattle.uac_device.specs.InterfaceStreams.{either_due}
use Rattle.uac_device.specs.DeviceWorld.{DeviceWorld, Domain, after_advance, at_in, at_out, frames_in, is_due_in, next_ticks, step_in, after_receiving}
use Rattle.uac_device.specs.DeviceWorld.{after_sending_in_packet as device_sends}
use Rattle.uac_script.specs.Phrase.{PhraseMark}
use Rattle.uac_streaming.specs.Telling.{without_event}
use Rattle.uac_streaming.specs.StreamingWorld.{StreamingWorld, fetched_lines, goes_out, in_packet_turn, in_packets, is_in_due, is_out_due, loses_in, loses_out, loses_feedback, numbers, out_packets, out_turn, packet_fetched, packet_sent_out, packet_to, sent_out_lines, end_turn}
use Rattle.uac_running.specs.RunningWorld.{RunningWorld, streaming_of}
use Rattle.uac_running.specs.Events.{domain_microframe, domain_microframes, microframe, tick}
use Rattle.uac_levels.specs.Life.{Life, ticks_taken, with_end, with_packet, with_step}
use Rattle.uac_levels.specs.Bands.{IsSteadyMicroframe}
use Rattle.uac_levels.specs.Projection.{next_life}
use Rattle.uac_levels.specs.BandRun.{RunInBand, StreamInBand}
use Rattle.uac_streaming.proofs.AmongLemmas.{Among}
use Rattle.uac_levels.proofs.TellingTurnLemmas.{clock_among, none_at, numbers_differ, own_number, turns_keep}
use Rattle.uac_levels.proofs.LifeTurnLemmas.{IsPlace, Place, Shows, if_false, if_true, in_any, out_here, out_other, packet_at, packet_shown, ended_here, ended_other, track_after}
use Rattle.uac_levels.proofs.LifeTickLemmas.{advanced_elsewhere, advanced_own, domain_elsewhere, domain_own, domains_show, so_many, step_at, tick_other, tick_own}
use Rattle.uac_levels.proofs.ProjectionLifeLemmas.{microframes_are_lived, opened, packets_in, packets_out, place_in, step_is}
use Rattle.uac_levels.proofs.RunningWorldLineLemmas.{fetched, numbered}
use Rattle.uac_levels.proofs.RunningWorldRestLemmas.{RestsNow, advanced_none, domain_none, microframe_none, ended_none, tick_none}
use Rattle.uac_levels.proofs.BandRunLemmas.{few_following, lived, steadily}
use Rattle.uac_promises.specs.Moments.{after_domains, after_in, after_out, domain_moments, end_moments, end_part, frame_by_frame, in_moments, in_part, moments, out_moments, out_part, tick_moments, tick_part, while_received, while_sent_in, while_ended}
use Rattle.uac_promises.proofs.MomentsLemmas.{along_keeps, along_once, each_frame, ticks_held}
use Rattle.uac_promises.proofs.MomentsRingLemmas.{IsSafe, safe_end, safe_next, safe_now, safe_packet, safe_ending, safe_ticked, safe_ticks, safe_while}

-- the ring of an interface's primed stream to the device holds enough
abbrev pub HeldOut : ℕ → DeviceWorld → Type 0
HeldOut k w = (o : OutStream) (target : ℕ) → w.outs k ≡ Some o → o.target ≡ Some target → IsSafeLevel o.stream.service (out_level o)

none_held : (k : ℕ) (w : DeviceWorld) → w.outs k ≡ None → HeldOut k w
none_held k w none o target there is = absurd (let both : None ≡ Some o = sym none ∙ there in cc)

some_held : (k : ℕ) (w : DeviceWorld) (o : OutStream) → w.outs k ≡ Some o → IsSafe o → HeldOut k w
some_held k w o there safe x target found is =
    let same : o ≡ x = (let both : Some o ≡ Some x = sym there ∙ found in cc) in
    subst (λ (y : OutStream). IsSafeLevel y.stream.service (out_level y)) same (safe target (ap (λ (y : OutStream). y.target) same ∙ is))

-- the moments of one microframe, by its parts
by_parts : (k : ℕ) (marks : List PhraseMark) (r : RunningWorld) → All (HeldOut k) (out_part marks (numbered r))
    → All (HeldOut k) (in_part marks (after_out marks (numbered r))) → All (HeldOut k) (tick_part (fetched marks r))
    → All (HeldOut k) (end_part (after_domains (fetched marks r))) → HeldOut k (microframe marks r).world.device
    → All (HeldOut k) (moments marks r)
unfolding moments
by_parts k marks r outs ins ticks ends last =
    let outs_are : List DeviceWorld = out_part marks (numbered r) in
    let ins_are : List DeviceWorld = in_part marks (after_out marks (numbered r)) in
    let ticks_are : List DeviceWorld = tick_part (fetched marks r) in
    let ends_are : List DeviceWorld = end_part (after_domains (fetched marks r)) in
    let last_is : List DeviceWorld = (microframe marks r).world.device ∷ [] in
    All-append (HeldOut k) outs_are (ins_are ++ (ticks_are ++ (ends_are ++ last_is))) outs
    (All-append (HeldOut k) ins_are (ticks_are ++ (ends_are ++ last_is)) ins
    (All-append (HeldOut k) ticks_are (ends_are ++ last_is) ticks
    (All-append (HeldOut k) ends_are last_is ends (All-cons (HeldOut k) (microframe marks r).world.device [] last (All-nil (HeldOut k))))))

-- ---- where it runs none

module _ (k : ℕ) (marks : List PhraseMark) where
  abbrev RunsNone : StreamingWorld → Type 0
  RunsNone w = w.device.outs k ≡ None

  out_none : (detail n : ℕ) (w : StreamingWorld) → RunsNone w → RunsNone (out_turn detail marks n w).world
  unfolding out_turn packet_sent_out after_receiving
  out_none detail n w none = by (is_out_due w n)
    where
      by : (b : Bool)
          → (if b then record { lines = sent_out_lines detail (loses_out marks n) n w; world = packet_sent_out (loses_out marks n) n w }
          else without_event w).world.device.outs k ≡ None
      by true = none_at n k (after_packet (packet_to (loses_out marks n) n w)) w.device.outs none
      by false = none

  in_none : (detail n : ℕ) (w : StreamingWorld) → RunsNone w → RunsNone (in_packet_turn detail marks n w).world
  unfolding in_packet_turn packet_fetched device_sends
  in_none detail n w none = by (is_in_due w n)
    where
      by : (b : Bool)
          → (if b then record { lines = fetched_lines detail (loses_in marks n) n w; world = packet_fetched (loses_in marks n) n w }
          else without_event w).world.device.outs k ≡ None
      by true = none
      by false = none

  out_moments_none : (n : ℕ) (w : StreamingWorld) → RunsNone w → All (HeldOut k) (out_moments marks n w)
  unfolding out_moments
  out_moments_none n w none = by (is_out_due w n)
    where
      so_far : ℕ → DeviceWorld
      so_far came = at_out n (while_received (packet_to (loses_out marks n) n w) came) w.device

      by : (b : Bool) → All (HeldOut k) (if b then frame_by_frame (size_of w.host n) so_far else [])
      by true =
          each_frame (HeldOut k) so_far (size_of w.host n)
          (λ came. none_held k (so_far came) (none_at n k (while_received (packet_to (loses_out marks n) n w) came) w.device.outs none))
      by false = All-nil (HeldOut k)

  in_moments_none : (n : ℕ) (w : StreamingWorld) → RunsNone w → All (HeldOut k) (in_moments n w)
  unfolding in_moments
  in_moments_none n w none = by (is_in_due w n)
    where
      so_far : ℕ → DeviceWorld
      so_far gone = at_in n (while_sent_in gone) w.device

      by : (b : Bool) → All (HeldOut k) (if b then frame_by_frame (frames_in w.device n) so_far else [])
      by true = each_frame (HeldOut k) so_far (frames_in w.device n) (λ gone. none_held k (so_far gone) none)
      by false = All-nil (HeldOut k)

  end_moments_none : (n : ℕ) (w : StreamingWorld) → RunsNone w → All (HeldOut k) (end_moments n w)
  unfolding end_moments
  end_moments_none n w none =
      each_frame (HeldOut k) (λ zeros. at_out n (while_ended zeros) w.device) (option_map_or (λ o. length (zeros_due o)) (w.device.outs n) 0)
      (λ zeros. none_held k (at_out n (while_ended zeros) w.device) (none_at n k (while_ended zeros) w.device.outs none))

  domain_moments_none : (c : ℕ) (r : RunningWorld) → RestsNow k r → All (HeldOut k) (domain_moments c r)
  unfolding domain_moments
  domain_moments_none c r none =
      ticks_held (HeldOut k) (RestsNow k) c (tick_none k c) (λ v rests. none_held k v.device rests) (next_ticks c r.device)
      (record r { device = after_advance c r.device }) (advanced_none k c r none)

  sent_none : (r : RunningWorld) → RestsNow k r → RestsNow k (after_out marks r)
  unfolding out_packets
  sent_none r none = turns_keep RunsNone (out_turn r.detail marks) (out_none r.detail) (numbers r.device.function) (streaming_of r) none

  fetched_none : (r : RunningWorld) → RestsNow k r → RestsNow k (after_in marks r)
  unfolding in_packets
  fetched_none r none = turns_keep RunsNone (in_packet_turn r.detail marks) (in_none r.detail) (numbers r.device.function) (streaming_of r) none

  domains_none : (clocks : List ℕ) (r : RunningWorld) → RestsNow k r → RestsNow k (domain_microframes clocks r).world
  unfolding domain_microframes
  domains_none [] r none = none
  domains_none (c ∷ cs) r none = domains_none cs (domain_microframe c r).world (domain_none k c r none)

  ticked_none : (r : RunningWorld) → RestsNow k r → RestsNow k (after_domains r)
  ticked_none r none = domains_none r.device.function.domains r none

  moments_none : (r : RunningWorld) → RestsNow k r → All (HeldOut k) (moments marks r)
  moments_none r none =
      let v : RunningWorld = numbered r in
      let sent : RunningWorld = after_out marks v in
      let came : RunningWorld = fetched marks r in
      let ticked : RunningWorld = after_domains came in
      let sent_rests = sent_none v none in
      let came_rests = fetched_none sent sent_rests in
      by_parts k marks r
      (along_keeps (λ n w. (out_turn v.detail marks n w).world) (out_moments marks) (HeldOut k) RunsNone (out_none v.detail) out_moments_none (numbers v.device.function) (streaming_of v) none)
      (along_keeps (λ n w. (in_packet_turn sent.detail marks n w).world) in_moments (HeldOut k) RunsNone (in_none sent.detail) in_moments_none (numbers sent.device.function) (streaming_of sent) sent_rests)
      (along_keeps (λ c u. (domain_microframe c u).world) domain_moments (HeldOut k) (RestsNow k) (domain_none k) domain_moments_none came.device.function.domains came came_rests)
      (along_keeps (λ n w. (end_turn ticked.detail n w).world) end_moments (HeldOut k) RunsNone (ended_none k ticked.detail) end_moments_none (numbers ticked.device.function) (streaming_of ticked) (ticked_none came came_rests))
      (none_held k (microframe marks r).world.device (microframe_none k marks r none))

-- ---- where it runs one

module _ (p : Place) (is : IsPlace p) (marks : List PhraseMark) where
  abbrev Held : DeviceWorld → Type 0
  Held = HeldOut p.interface

  shown_held : (w : StreamingWorld) (l : Life) (t : Track) → Shows p w l t → IsSafe l.out → Held w.device
  shown_held w l t s safe = some_held p.interface w.device l.out s.out safe

  -- ---- packets to the device

  out_moments_other : (n : ℕ) (w : StreamingWorld) (l : Life) (t : Track) → IsSafe l.out → (p.interface == n) ≡ false → Shows p w l t
      → All Held (out_moments marks n w)
  unfolding out_moments
  out_moments_other n w l t safe other s = by (is_out_due w n)
    where
      so_far : ℕ → DeviceWorld
      so_far came = at_out n (while_received (packet_to (loses_out marks n) n w) came) w.device

      by : (b : Bool) → All Held (if b then frame_by_frame (size_of w.host n) so_far else [])
      by true =
          each_frame Held so_far (size_of w.host n)
          (λ came. some_held p.interface (so_far came) l.out (if_false (p.interface == n) _ (w.device.outs p.interface) other ∙ s.out) safe)
      by false = All-nil Held

  due_here : (w : StreamingWorld) (l : Life) (t : Track) → Shows p w l t → is_out_due w p.interface ≡ is_due l.out.stream l.out.microframes
  unfolding is_due_in
  due_here w l t s =
      ap (λ (f : FunctionFields). goes_out f p.interface && either_due (w.device.outs p.interface) (w.device.ins p.interface)) s.function
      ∙ ap (λ (b : Bool). b && either_due (w.device.outs p.interface) (w.device.ins p.interface)) is.out
      ∙ ap (λ (o : Option OutStream). either_due o (w.device.ins p.interface)) s.out

  abbrev packet_for : Life → Track → Option (List ℕ)
  packet_for l t = if loses_out marks p.interface then None else Some (packet_at l.pace t)

  out_moments_here : (w : StreamingWorld) (l : Life) (t : Track)
      → (is_due l.out.stream l.out.microframes ≡ true → (came : ℕ) → IsSafe (while_received (packet_for l t) came l.out)) → Shows p w l t
      → All Held (out_moments marks p.interface w)
  unfolding out_moments
  out_moments_here w l t safe s = by (is_out_due w p.interface) refl
    where
      so_far : ℕ → DeviceWorld
      so_far came = at_out p.interface (while_received (packet_to (loses_out marks p.interface) p.interface w) came) w.device

      there : (came : ℕ) → (so_far came).outs p.interface ≡ Some (while_received (packet_for l t) came l.out)
      there came =
          if_true (p.interface == p.interface) _ (w.device.outs p.interface) (own_number p.interface)
          ∙ ap (option_map (while_received (if loses_out marks p.interface then None else Some (packet_of w.host p.interface)) came)) s.out
          ∙ ap (λ (bytes : List ℕ). Some (while_received (if loses_out marks p.interface then None else Some bytes) came l.out)) (packet_shown p w l t s)

      by : (b : Bool) → is_out_due w p.interface ≡ b → All Held (if b then frame_by_frame (size_of w.host p.interface) so_far else [])
      by true due =
          each_frame Held so_far (size_of w.host p.interface)
          (λ came. some_held p.interface (so_far came) (while_received (packet_for l t) came l.out) (there came) (safe (sym (due_here w l t s) ∙ due) came))
      by false due = All-nil Held

  outs_held : (r : RunningWorld) (l : Life) (t : Track) → IsSafe l.out → IsSafe (with_packet (packet_for l t) l).out
      → (is_due l.out.stream l.out.microframes ≡ true → (came : ℕ) → IsSafe (while_received (packet_for l t) came l.out))
      → Shows p (streaming_of r) l t → All Held (out_part marks r)
  outs_held r l t safe safe_after safe_while s =
      along_once (λ n v. (out_turn r.detail marks n v).world) (out_moments marks) Held p.interface (λ v. Shows p v l t)
      (λ v. Shows p v (with_packet (packet_for l t) l) (track_after l t)) (λ n v other there. out_other p r.detail marks n v l t other there)
      (λ n v other there. out_other p r.detail marks n v (with_packet (packet_for l t) l) (track_after l t) other there)
      (λ v there. out_here p r.detail marks is v l t there) (λ n v other there. out_moments_other n v l t safe other there)
      (λ n v other there. out_moments_other n v (with_packet (packet_for l t) l) (track_after l t) safe_after other there)
      (λ v there. out_moments_here v l t safe_while there) (numbers r.device.function) (streaming_of r) (numbers_differ r.device.function) s

  -- ---- packets from it

  in_moments_any : (n : ℕ) (w : StreamingWorld) (l : Life) (t : Track) → IsSafe l.out → Shows p w l t → All Held (in_moments n w)
  unfolding in_moments
  in_moments_any n w l t safe s = by (is_in_due w n)
    where
      so_far : ℕ → DeviceWorld
      so_far gone = at_in n (while_sent_in gone) w.device

      by : (b : Bool) → All Held (if b then frame_by_frame (frames_in w.device n) so_far else [])
      by true = each_frame Held so_far (frames_in w.device n) (λ gone. some_held p.interface (so_far gone) l.out s.out safe)
      by false = All-nil Held

  ins_held : (r : RunningWorld) (l : Life) (t : Track) → IsSafe l.out → Shows p (streaming_of r) l t → All Held (in_part marks r)
  ins_held r l t safe s =
      along_keeps (λ n v. (in_packet_turn r.detail marks n v).world) in_moments Held (λ v. Shows p v l t)
      (λ n v there. in_any p r.detail marks n v l t there) (λ n v there. in_moments_any n v l t safe there) (numbers r.device.function) (streaming_of r) s

  -- ---- ticks

  own_ticks_held : (count : ℕ) (r : RunningWorld) (l : Life) (t : Track) → ((i : ℕ) → i ≤ count → IsSafe (ticks_taken i l.out))
      → Shows p (streaming_of r) l t → All Held (tick_moments count p.clock r)
  unfolding tick_moments ticks_taken
  own_ticks_held zero r l t safe s = All-cons Held r.device [] (shown_held (streaming_of r) l t s (safe 0 (omega arith))) (All-nil Held)
  own_ticks_held (suc count) r l t safe s =
      All-cons Held r.device (tick_moments count p.clock (tick p.clock r).world) (shown_held (streaming_of r) l t s (safe 0 (omega arith)))
      (own_ticks_held count (tick p.clock r).world (record l { out = after_taking l.out }) t (λ i less. safe (suc i) (omega arith)) (tick_own p is r l t s))

  domain_moments_other : (c : ℕ) (r : RunningWorld) (l : Life) (t : Track) → IsSafe l.out → (p.clock == c) ≡ false → Shows p (streaming_of r) l t
      → All Held (domain_moments c r)
  unfolding domain_moments
  domain_moments_other c r l t safe other s =
      ticks_held Held (λ v. Shows p (streaming_of v) l t) c (λ v there. tick_other p is c v l t other there)
      (λ v there. shown_held (streaming_of v) l t there safe) (next_ticks c r.device) (record r { device = after_advance c r.device })
      (advanced_elsewhere p is c r l t other s)

  -- what its ring is between the ticks of its domain
  abbrev SafeTicks : Life → Type 0
  SafeTicks l =
      (i : ℕ) → i ≤ ticks_in (l.steps ++ step_at p ∷ []) → IsSafe (ticks_taken i (after_ticks (ticks_in (l.steps ++ step_at p ∷ [])) l.out))

  domain_moments_own : (r : RunningWorld) (l : Life) (t : Track) → SafeTicks l → Shows p (streaming_of r) l t → All Held (domain_moments p.clock r)
  unfolding domain_moments
  domain_moments_own r l t safe s =
      own_ticks_held (next_ticks p.clock r.device) (record r { device = after_advance p.clock r.device })
      (record l { out = after_ticks (next_ticks p.clock r.device) l.out; steps = l.steps ++ step_at p ∷ [] }) t
      (subst (λ (n : ℕ). (i : ℕ) → i ≤ n → IsSafe (ticks_taken i (after_ticks n l.out))) (sym (so_many p r l t s)) safe) (advanced_own p is r l t s)

  all_ticks_held : (r : RunningWorld) (l : Life) (t : Track) → IsDistinct nat_eq r.device.function.domains → IsSafe l.out → SafeTicks l
      → Shows p (streaming_of r) l t → All Held (tick_part r)
  all_ticks_held r l t once safe safe_ticks s =
      along_once (λ c v. (domain_microframe c v).world) domain_moments Held p.clock (λ v. Shows p (streaming_of v) l t)
      (λ v. Shows p (streaming_of v) (with_step (step_at p) l) t) (λ c v other there. domain_elsewhere p is c v l t other there)
      (λ c v other there. domain_elsewhere p is c v (with_step (step_at p) l) t other there) (λ v there. domain_own p is v l t there)
      (λ c v other there. domain_moments_other c v l t safe other there)
      (λ c v other there. domain_moments_other c v (with_step (step_at p) l) t (safe_ticks (ticks_in (l.steps ++ step_at p ∷ [])) (omega arith)) other there)
      (λ v there. domain_moments_own v l t safe_ticks there) r.device.function.domains r once s

  -- ---- the end

  end_moments_other : (n : ℕ) (w : StreamingWorld) (l : Life) (t : Track) → IsSafe l.out → (p.interface == n) ≡ false → Shows p w l t
      → All Held (end_moments n w)
  unfolding end_moments
  end_moments_other n w l t safe other s =
      each_frame Held (λ zeros. at_out n (while_ended zeros) w.device) (option_map_or (λ o. length (zeros_due o)) (w.device.outs n) 0)
      (λ zeros. some_held p.interface (at_out n (while_ended zeros) w.device) l.out (if_false (p.interface == n) _ (w.device.outs p.interface) other ∙ s.out) safe)

  end_moments_here : (w : StreamingWorld) (l : Life) (t : Track) → ((zeros : ℕ) → IsSafe (while_ended zeros l.out)) → Shows p w l t
      → All Held (end_moments p.interface w)
  unfolding end_moments
  end_moments_here w l t safe s =
      each_frame Held (λ zeros. at_out p.interface (while_ended zeros) w.device)
      (option_map_or (λ o. length (zeros_due o)) (w.device.outs p.interface) 0)
      (λ zeros. some_held p.interface (at_out p.interface (while_ended zeros) w.device) (while_ended zeros l.out)
      (if_true (p.interface == p.interface) _ (w.device.outs p.interface) (own_number p.interface) ∙ ap (option_map (while_ended zeros)) s.out) (safe zeros))

  ends_held : (r : RunningWorld) (l : Life) (t : Track) → IsSafe l.out → IsSafe (with_end l).out → ((zeros : ℕ) → IsSafe (while_ended zeros l.out))
      → Shows p (streaming_of r) l t → All Held (end_part r)
  ends_held r l t safe safe_after safe_while s =
      along_once (λ n v. (end_turn r.detail n v).world) end_moments Held p.interface (λ v. Shows p v l t) (λ v. Shows p v (with_end l) t)
      (λ n v other there. ended_other p r.detail marks n v l t other there)
      (λ n v other there. ended_other p r.detail marks n v (with_end l) t other there) (λ v there. ended_here p r.detail marks v l t there)
      (λ n v other there. end_moments_other n v l t safe other there)
      (λ n v other there. end_moments_other n v (with_end l) t safe_after other there) (λ v there. end_moments_here v l t safe_while there)
      (numbers r.device.function) (streaming_of r) (numbers_differ r.device.function) s

-- ---- a steady microframe

module _ (marks : List PhraseMark) (r : RunningWorld) (band : RunInBand r) (steady : is_steady (microframe marks r).world.history ≡ true) where
  moments_some : (k : ℕ) (l : Life) (d : Domain) → StreamInBand r k l d → All (HeldOut k) (moments marks r)
  moments_some k l d stream = opened r k l d stream.runs (λ clock index steps is s.
      (let p : Place = place_in r k d clock index in
      let t : Track = r.host.tracks k in
      let v : RunningWorld = numbered r in
      let packet : Option (List ℕ) = packet_for p is marks l t in
      let came : RunningWorld = fetched marks r in
      let clocked : Among clock r.device.function.domains = subst (Among clock) band.ordered.domains (clock_among clock r.device.domains (record d { steps = l.steps }) s.domain) in
      let sent_shows = packets_out p is band.ordered.numbers marks r.detail (streaming_of v) l t s in
      let came_shows = packets_in p is band.ordered.numbers marks r.detail (out_packets r.detail marks (streaming_of v)).world (with_packet packet l) (track_after l t) sent_shows in
      let once : IsDistinct nat_eq came.device.function.domains = subst (λ (f : FunctionFields). IsDistinct nat_eq f.domains) (sym came_shows.function) band.ordered.apart in
      let ticked_shows =
      domains_show p is came.device.function.domains came (with_packet packet l) (track_after l t) once
      (subst (λ (f : FunctionFields). Among clock f.domains) (sym came_shows.function) clocked) came_shows in
      let given : IsSteadyMicroframe packet (step_at p) l =
      subst (λ (n : ℕ). IsSteadyMicroframe packet n l) (sym (step_is r k d clock index))
      (subst (λ (b : List ℕ). IsSteadyMicroframe (if loses_out marks k then None else Some b) (step_in r.device d) l) (packet_shown p (streaming_of r) l t s)
      (steadily marks r k l d stream)) in
      let few = few_following marks r band steady k l d stream.runs in
      let last : Life = next_life marks r k l d in
      let packet_is = packet_to (loses_out marks k) k (streaming_of r) in
      let lost : Bool = loses_feedback marks k in
      let given_is : IsSteadyMicroframe packet_is (step_in r.device d) l = steadily marks r k l d stream in
      let ended : IsSafe (with_end (with_step (step_at p) (with_packet packet l))).out =
      subst (λ (n : ℕ). IsSafe (with_end (with_step n (with_packet packet l))).out) (sym (step_is r k d clock index))
      (subst (λ (b : List ℕ). IsSafe (with_end (with_step (step_in r.device d) (with_packet (if loses_out marks k then None else Some b) l))).out)
      (packet_shown p (streaming_of r) l t s) (safe_end l packet_is (step_in r.device d) stream.band given_is lost few)) in
      let ending : (zeros : ℕ) → IsSafe (while_ended zeros (with_step (step_at p) (with_packet packet l)).out) =
      λ zeros. subst (λ (n : ℕ). IsSafe (while_ended zeros (with_step n (with_packet packet l)).out)) (sym (step_is r k d clock index))
      (subst (λ (b : List ℕ). IsSafe (while_ended zeros (with_step (step_in r.device d) (with_packet (if loses_out marks k then None else Some b) l)).out))
      (packet_shown p (streaming_of r) l t s) (safe_ending l packet_is (step_in r.device d) stream.band given_is lost few zeros)) in
      by_parts k marks r
      (outs_held p is marks v l t (safe_now l packet (step_at p) stream.band given) (safe_packet l packet (step_at p) stream.band given)
      (safe_while l packet (step_at p) stream.band given) s)
      (ins_held p is marks (after_out marks v) (with_packet packet l) (track_after l t) (safe_packet l packet (step_at p) stream.band given) sent_shows)
      (all_ticks_held p is marks came (with_packet packet l) (track_after l t) once (safe_packet l packet (step_at p) stream.band given)
      (safe_ticks l packet (step_at p) stream.band given) came_shows)
      (ends_held p is marks (after_domains came) (with_step (step_at p) (with_packet packet l)) (track_after l t)
      (safe_ticked l packet (step_at p) stream.band given) ended ending ticked_shows)
      (some_held k (microframe marks r).world.device last.out
      (lived (microframe marks r).world k last (microframes_are_lived marks r k l d band.ordered stream.runs).life).out
      (safe_next l packet_is (step_in r.device d) stream.band given_is lost few))))

  pub outs_hold : (k : ℕ) → All (HeldOut k) (moments marks r)
  outs_hold k = by (r.device.outs k) refl
    where
      by : (o : Option OutStream) → r.device.outs k ≡ o → All (HeldOut k) (moments marks r)
      by None none = moments_none k marks r none
      by (Some o) there =
          let stream = band.streams k o there in
          moments_some k stream.0 stream.1 stream.3
