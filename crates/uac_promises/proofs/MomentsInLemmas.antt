-- At every moment of a microframe the ring of a stream from the device holds at most what a service interval can bring.
use Rattle.std.proofs.Common.{arith, ◌≡◌, ◌∙◌, sym, refl, subst, ℕ, zero, suc, ◌+◌, ◌-◌, ◌*◌, ◌≤◌, ◌==◌, nat_eq, Bool, true, false, if◌then◌else◌, List, [], ◌∷◌, ◌++◌, length, Option, Some, None}
use Rattle.std.specs.List.{All, IsDistinct, find}
use Rattle.std.specs.Option.{option_map, option_map_or}
use Rattle.std.proofs.lemmas.List.Elements.{All-append, All-cons, All-nil}
use Rattle.uac_clock.specs.Ticks.{ticks_in}
use Rattle.uac_alt.specs.AltStreams.{StreamFields}
use Rattle.uac_flow.specs.FlowStreams.{InStream, after_sending_in, in_level, is_due, sent_in_frames, in_after_end, zeros_due}
use Rattle.uac_host.specs.HostCalls.{size_of}
use Rattle.uac_device.specs.InterfaceStreams.{streams_changed_at}
use Rattle.uac_device.specs.DeviceWorld.{DeviceWorld, Domain, after_advance, at_in, at_out, frames_in, next_ticks, after_receiving, after_end}
use Rattle.uac_device.specs.DeviceWorld.{after_sending_in_packet as device_sends}
use Rattle.uac_script.specs.Phrase.{PhraseMark}
use Rattle.uac_streaming.specs.Telling.{without_event}
use Rattle.uac_streaming.specs.StreamingWorld.{StreamingWorld, fetched_lines, in_packet_turn, is_in_due, is_out_due, loses_in, loses_out, numbers, out_packets, out_turn, packet_fetched, packet_sent_out, packet_to, sent_out_lines, end_turn}
use Rattle.uac_running.specs.RunningWorld.{RunningWorld, streaming_of}
use Rattle.uac_running.specs.Events.{domain_microframe, domain_microframes, microframe, packets_and_ticks, tick}
use Rattle.uac_levels.specs.Life.{domain_id_on}
use Rattle.uac_levels.specs.BandRun.{RunInBand}
use Rattle.uac_levels.specs.BandTransfers.{IsSoundRun}
use Rattle.uac_levels.proofs.TellingTurnLemmas.{turns_keep}
use Rattle.uac_levels.proofs.ProjectionLifeLemmas.{mapped}
use Rattle.uac_levels.proofs.RunningWorldLineLemmas.{fetched, numbered}
use Rattle.uac_levels.specs.Recording.{AreRecorded, IsRecorded}
use Rattle.uac_levels.proofs.RecordingRestLemmas.{SendsNoneNow, advanced_sends_none, before_ticks_sends_none, domain_sends_none, tick_sends_none}
use Rattle.uac_levels.proofs.RecordingStreamLemmas.{IsSpot, Rings, Spot, advanced_other, advanced_own, domain_elsewhere, domain_own, so_many, steps_on, tick_other, tick_own}
use Rattle.uac_levels.proofs.RecordingLemmas.{after_ticks, at_most, came, microframes_stay_recorded, most_after, once, opened_in, rings_hold_an_interval, some_ticks, spot, ticked, within_interval}
use Rattle.uac_levels.proofs.RecordingLemmas.{p as spot_of}
use Rattle.uac_promises.specs.Moments.{after_domains, after_out, domain_moments, end_moments, end_part, frame_by_frame, in_moments, in_part, moments, out_moments, out_part, tick_moments, tick_part, while_received, while_sent_in, while_ended}
use Rattle.uac_promises.proofs.MomentsLemmas.{along_keeps, along_once, each_frame, ticks_held}

-- the ring of an interface's stream from the device holds at most what a service interval can bring
abbrev pub HeldIn : ℕ → DeviceWorld → Type 0
HeldIn k w = (i : InStream) → w.ins k ≡ Some i → in_level i ≤ i.stream.service * i.stream.nominal.hi

-- the moments of one microframe, by its parts
by_parts : (k : ℕ) (marks : List PhraseMark) (r : RunningWorld) → All (HeldIn k) (out_part marks (numbered r))
    → All (HeldIn k) (in_part marks (after_out marks (numbered r))) → All (HeldIn k) (tick_part (fetched marks r))
    → All (HeldIn k) (end_part (after_domains (fetched marks r))) → HeldIn k (microframe marks r).world.device
    → All (HeldIn k) (moments marks r)
unfolding moments
by_parts k marks r outs ins ticks ends last =
    let outs_are : List DeviceWorld = out_part marks (numbered r) in
    let ins_are : List DeviceWorld = in_part marks (after_out marks (numbered r)) in
    let ticks_are : List DeviceWorld = tick_part (fetched marks r) in
    let ends_are : List DeviceWorld = end_part (after_domains (fetched marks r)) in
    let last_is : List DeviceWorld = (microframe marks r).world.device ∷ [] in
    All-append (HeldIn k) outs_are (ins_are ++ (ticks_are ++ (ends_are ++ last_is))) outs
    (All-append (HeldIn k) ins_are (ticks_are ++ (ends_are ++ last_is)) ins
    (All-append (HeldIn k) ticks_are (ends_are ++ last_is) ticks
    (All-append (HeldIn k) ends_are last_is ends (All-cons (HeldIn k) (microframe marks r).world.device [] last (All-nil (HeldIn k))))))

-- ---- packets, and the ends of microframes

-- what holds of a stream from the device while its frames go out, and at the end of a microframe; its ring holds few frames by it
record IsCarried (F : InStream → Type 0) : Type 0 where
  held : (i : InStream) → F i → in_level i ≤ i.stream.service * i.stream.nominal.hi
  sends : (i : InStream) → F i → F (after_sending_in i)
  partly : (gone : ℕ) (i : InStream) → F i → F (while_sent_in gone i)
  microframe_ends : (i : InStream) → F i → F (in_after_end i)

none_carried : IsCarried (λ i. ⊥)
none_carried = record {
  held = λ i none. absurd none;
  sends = λ i none. none;
  partly = λ gone i none. none;
  microframe_ends = λ i none. none;
}

-- this stream, with at most so many frames in its ring
abbrev IsFew : StreamFields → ℕ → InStream → Type 0
IsFew s most i = (i.stream ≡ s) × (in_level i ≤ most)

fewer : (made gone more most : ℕ) → made - gone ≤ most → made - (gone + more) ≤ most
fewer made gone more most low = omega arith

few_carried : (s : StreamFields) (most : ℕ) → most ≤ s.service * s.nominal.hi → IsCarried (IsFew s most)
unfolding after_sending_in while_sent_in in_after_end
few_carried s most within = record {
  held = λ i is.
      subst (λ (t : StreamFields). in_level i ≤ t.service * t.nominal.hi) (sym is.0)
      (at_most (in_level i) most (s.service * s.nominal.hi) is.1 within);
  sends = λ i is. (is.0, fewer (length i.made) i.gone (sent_in_frames i) most is.1);
  partly = λ gone i is. (is.0, fewer (length i.made) i.gone gone most is.1);
  microframe_ends = λ i is. (is.0, is.1);
}

module _ (k : ℕ) (F : InStream → Type 0) (carried : IsCarried F) where
  -- where it runs a stream from the device, that is so
  abbrev AreFew : (ℕ → Option InStream) → Type 0
  AreFew ins = (i : InStream) → ins k ≡ Some i → F i

  few_held : (w : DeviceWorld) → AreFew w.ins → HeldIn k w
  few_held w few i there = carried.held i (few i there)

  changed_few : (change : InStream → InStream) → ((i : InStream) → F i → F (change i)) → (n : ℕ) (ins : ℕ → Option InStream) → AreFew ins
      → AreFew (streams_changed_at n change ins)
  changed_few change keeps n ins few i there = by (k == n) there
    where
      by : (b : Bool) → (if b then option_map change (ins k) else ins k) ≡ Some i → F i
      by true changed = let found = mapped change (ins k) i changed in subst F found.2 (keeps found.0 (few found.0 found.1))
      by false same = few i same

  abbrev Few : StreamingWorld → Type 0
  Few w = AreFew w.device.ins

  module _ (detail : ℕ) (marks : List PhraseMark) where
    out_few : (n : ℕ) (w : StreamingWorld) → Few w → Few (out_turn detail marks n w).world
    unfolding out_turn packet_sent_out after_receiving
    out_few n w few = by (is_out_due w n)
      where
        by : (b : Bool)
            → AreFew (if b then record { lines = sent_out_lines detail (loses_out marks n) n w; world = packet_sent_out (loses_out marks n) n w }
            else without_event w).world.device.ins
        by true = few
        by false = few

    in_few : (n : ℕ) (w : StreamingWorld) → Few w → Few (in_packet_turn detail marks n w).world
    unfolding in_packet_turn packet_fetched device_sends
    in_few n w few = by (is_in_due w n)
      where
        by : (b : Bool)
            → AreFew (if b then record { lines = fetched_lines detail (loses_in marks n) n w; world = packet_fetched (loses_in marks n) n w }
            else without_event w).world.device.ins
        by true = changed_few after_sending_in carried.sends n w.device.ins few
        by false = few

    end_few : (n : ℕ) (w : StreamingWorld) → Few w → Few (end_turn detail n w).world
    unfolding end_turn after_end
    end_few n w few = changed_few in_after_end carried.microframe_ends n w.device.ins few

    out_moments_few : (n : ℕ) (w : StreamingWorld) → Few w → All (HeldIn k) (out_moments marks n w)
    unfolding out_moments
    out_moments_few n w few = by (is_out_due w n)
      where
        so_far : ℕ → DeviceWorld
        so_far came = at_out n (while_received (packet_to (loses_out marks n) n w) came) w.device

        by : (b : Bool) → All (HeldIn k) (if b then frame_by_frame (size_of w.host n) so_far else [])
        by true = each_frame (HeldIn k) so_far (size_of w.host n) (λ came. few_held (so_far came) few)
        by false = All-nil (HeldIn k)

    in_moments_few : (n : ℕ) (w : StreamingWorld) → Few w → All (HeldIn k) (in_moments n w)
    unfolding in_moments
    in_moments_few n w few = by (is_in_due w n)
      where
        so_far : ℕ → DeviceWorld
        so_far gone = at_in n (while_sent_in gone) w.device

        by : (b : Bool) → All (HeldIn k) (if b then frame_by_frame (frames_in w.device n) so_far else [])
        by true =
            each_frame (HeldIn k) so_far (frames_in w.device n)
            (λ gone. few_held (so_far gone) (changed_few (while_sent_in gone) (carried.partly gone) n w.device.ins few))
        by false = All-nil (HeldIn k)

    end_moments_few : (n : ℕ) (w : StreamingWorld) → Few w → All (HeldIn k) (end_moments n w)
    unfolding end_moments
    end_moments_few n w few =
        each_frame (HeldIn k) (λ zeros. at_out n (while_ended zeros) w.device) (option_map_or (λ o. length (zeros_due o)) (w.device.outs n) 0)
        (λ zeros. few_held (at_out n (while_ended zeros) w.device) few)

  outs_few : (marks : List PhraseMark) (r : RunningWorld) → AreFew r.device.ins → All (HeldIn k) (out_part marks r)
  outs_few marks r few =
      along_keeps (λ n w. (out_turn r.detail marks n w).world) (out_moments marks) (HeldIn k) Few (out_few r.detail marks)
      (out_moments_few r.detail marks) (numbers r.device.function) (streaming_of r) few

  ins_few : (marks : List PhraseMark) (r : RunningWorld) → AreFew r.device.ins → All (HeldIn k) (in_part marks r)
  ins_few marks r few =
      along_keeps (λ n w. (in_packet_turn r.detail marks n w).world) in_moments (HeldIn k) Few (in_few r.detail marks)
      (in_moments_few r.detail marks) (numbers r.device.function) (streaming_of r) few

  ends_few : (marks : List PhraseMark) (r : RunningWorld) → AreFew r.device.ins → All (HeldIn k) (end_part r)
  ends_few marks r few =
      along_keeps (λ n w. (end_turn r.detail n w).world) end_moments (HeldIn k) Few (end_few r.detail marks)
      (end_moments_few r.detail marks) (numbers r.device.function) (streaming_of r) few

  sent_few : (marks : List PhraseMark) (r : RunningWorld) → AreFew r.device.ins → AreFew (after_out marks r).device.ins
  unfolding out_packets
  sent_few marks r few = turns_keep Few (out_turn r.detail marks) (out_few r.detail marks) (numbers r.device.function) (streaming_of r) few

-- ---- ticks

-- where it runs none
none_held : (k : ℕ) (r : RunningWorld) → SendsNoneNow k r → HeldIn k r.device
none_held k r rests i there = absurd (let both : None ≡ Some i = sym rests ∙ there in cc)

domain_none : (k c : ℕ) (r : RunningWorld) → SendsNoneNow k r → All (HeldIn k) (domain_moments c r)
unfolding domain_moments
domain_none k c r none =
    ticks_held (HeldIn k) (SendsNoneNow k) c (tick_sends_none k c) (none_held k) (next_ticks c r.device)
    (record r { device = after_advance c r.device }) (advanced_sends_none k c r none)

ticks_none : (k : ℕ) (r : RunningWorld) → SendsNoneNow k r → All (HeldIn k) (tick_part r)
ticks_none k r none =
    along_keeps (λ c v. (domain_microframe c v).world) domain_moments (HeldIn k) (SendsNoneNow k) (domain_sends_none k) (domain_none k)
    r.device.function.domains r none

domains_send_none : (k : ℕ) (clocks : List ℕ) (r : RunningWorld) → SendsNoneNow k r → SendsNoneNow k (domain_microframes clocks r).world
unfolding domain_microframes
domains_send_none k [] r none = none
domains_send_none k (c ∷ cs) r none = domains_send_none k cs (domain_microframe c r).world (domain_sends_none k c r none)

-- where it runs one
module _ (spot_at : Spot) (is : IsSpot spot_at) (after : ℕ) where
  abbrev Held : DeviceWorld → Type 0
  Held = HeldIn spot_at.interface

  abbrev most : ℕ
  most = spot_at.stream.service * spot_at.stream.nominal.hi

  rings_held : (few : ℕ) (steps : List ℕ) (w : DeviceWorld) → few ≤ most → Rings spot_at after few steps w → Held w
  rings_held few steps w within s i there =
      let same : s.ring ≡ i = (let both : Some s.ring ≡ Some i = sym s.in_ ∙ there in cc) in
      subst (λ (j : InStream). in_level j ≤ j.stream.service * j.stream.nominal.hi) same
      (subst (λ (t : StreamFields). in_level s.ring ≤ t.service * t.nominal.hi) (sym s.is.stream) (at_most (in_level s.ring) few most s.is.level within))

  own_ticks_held : (few : ℕ) (steps : List ℕ) (count : ℕ) (r : RunningWorld) → few + count ≤ most → Rings spot_at after few steps r.device
      → All Held (tick_moments count spot_at.clock r)
  unfolding tick_moments
  own_ticks_held few steps zero r within s = All-cons Held r.device [] (rings_held few steps r.device (first few 0 most within) s) (All-nil Held)
    where
      first : (a b c : ℕ) → a + b ≤ c → a ≤ c
      first a b c h = omega arith
  own_ticks_held few steps (suc count) r within s =
      All-cons Held r.device (tick_moments count spot_at.clock (tick spot_at.clock r).world) (rings_held few steps r.device (first few (suc count) most within) s)
      (own_ticks_held (suc few) steps count (tick spot_at.clock r).world (next few count most within) (tick_own spot_at is after few steps r s))
    where
      first : (a b c : ℕ) → a + b ≤ c → a ≤ c
      first a b c h = omega arith

      next : (a b c : ℕ) → a + suc b ≤ c → suc a + b ≤ c
      next a b c h = omega arith

  domain_held_other : (few : ℕ) (steps : List ℕ) → few ≤ most → (c : ℕ) (r : RunningWorld) → (spot_at.clock == c) ≡ false
      → Rings spot_at after few steps r.device → All Held (domain_moments c r)
  unfolding domain_moments
  domain_held_other few steps within c r other s =
      ticks_held Held (λ v. Rings spot_at after few steps v.device) c (λ v there. tick_other spot_at is after few steps c v other there)
      (λ v there. rings_held few steps v.device within there) (next_ticks c r.device) (record r { device = after_advance c r.device })
      (advanced_other spot_at is after few steps c r.device other s)

  domain_held_own : (few : ℕ) (steps : List ℕ) → few + ticks_in (steps_on spot_at steps) ≤ most → (r : RunningWorld)
      → Rings spot_at after few steps r.device → All Held (domain_moments spot_at.clock r)
  unfolding domain_moments
  domain_held_own few steps within r s =
      own_ticks_held few (steps_on spot_at steps) (next_ticks spot_at.clock r.device) (record r { device = after_advance spot_at.clock r.device })
      (subst (λ (n : ℕ). few + n ≤ most) (sym (so_many spot_at is after few steps r.device s)) within)
      (advanced_own spot_at is after few steps r.device s)

  all_ticks_held : (few : ℕ) (steps : List ℕ) → few ≤ most → few + ticks_in (steps_on spot_at steps) ≤ most → (r : RunningWorld)
      → IsDistinct nat_eq r.device.function.domains → Rings spot_at after few steps r.device → All Held (tick_part r)
  all_ticks_held few steps within within_all r once s =
      along_once (λ c v. (domain_microframe c v).world) domain_moments Held spot_at.clock (λ v. Rings spot_at after few steps v.device)
      (λ v. Rings spot_at after (few + ticks_in (steps_on spot_at steps)) (steps_on spot_at steps) v.device)
      (λ c v other there. domain_elsewhere spot_at is after few steps c v other there)
      (λ c v other there. domain_elsewhere spot_at is after (few + ticks_in (steps_on spot_at steps)) (steps_on spot_at steps) c v other there)
      (λ v there. domain_own spot_at is after few steps v there) (λ c v other there. domain_held_other few steps within c v other there)
      (λ c v other there. domain_held_other (few + ticks_in (steps_on spot_at steps)) (steps_on spot_at steps) within_all c v other there)
      (λ v there. domain_held_own few steps within_all v there) r.device.function.domains r once s

-- ---- a microframe

module _ (marks : List PhraseMark) (r : RunningWorld) (band : RunInBand r) (sound : IsSoundRun r) (recorded : AreRecorded r) where
  last_held : (k : ℕ) → HeldIn k (microframe marks r).world.device
  last_held k i there =
      rings_hold_an_interval (microframe marks r).world k i (microframes_stay_recorded marks r band sound recorded).stays there

  held_none : (k : ℕ) → r.device.ins k ≡ None → All (HeldIn k) (moments marks r)
  held_none k none =
      let v : RunningWorld = numbered r in
      let nowhere : (w : DeviceWorld) → w.ins k ≡ None → AreFew k (λ i. ⊥) none_carried w.ins =
      λ w rests i there. (let both : None ≡ Some i = sym rests ∙ there in cc) in
      let came = before_ticks_sends_none k marks v none in
      by_parts k marks r (outs_few k (λ i. ⊥) none_carried marks v (nowhere v.device none))
      (ins_few k (λ i. ⊥) none_carried marks (after_out marks v) (sent_few k (λ i. ⊥) none_carried marks v (nowhere v.device none)))
      (ticks_none k (fetched marks r) came)
      (ends_few k (λ i. ⊥) none_carried marks (after_domains (fetched marks r))
      (nowhere (after_domains (fetched marks r)).device (domains_send_none k (fetched marks r).device.function.domains (fetched marks r) came)))
      (last_held k)

  module _ (k : ℕ) (i : InStream) (d : Domain) (clock : ℕ) (there : r.device.ins k ≡ Some i) (rec : IsRecorded r k i d)
      (on_clock : domain_id_on r k ≡ Some clock) (found : find (λ d. d.id == clock) r.device.domains ≡ Some d) where
    abbrev s : StreamFields
    s = i.stream

    abbrev at : Spot
    at = spot_of marks r band sound k i d clock there rec on_clock found

    abbrev before : ℕ
    before = most_after s.service s.nominal.hi i.microframes

    abbrev left : ℕ
    left = if is_due s i.microframes then 0 else before

    abbrev made : ℕ
    made = ticks_in (steps_on at d.steps)

    abbrev interval : ℕ
    interval = s.service * s.nominal.hi

    before_fits : before ≤ interval
    before_fits = within_interval s.service s.nominal.hi i.microframes rec.serves

    all_fit : left + made ≤ interval
    all_fit =
        at_most (left + made) (most_after s.service s.nominal.hi (i.microframes + 1)) interval
        (after_ticks s.service s.nominal.hi i.microframes made (is_due s i.microframes) rec.serves refl
        (some_ticks marks r band sound k i d clock there rec on_clock found))
        (within_interval s.service s.nominal.hi (i.microframes + 1) rec.serves)

    left_fits : left ≤ interval
    left_fits = first left made interval all_fit
      where
        first : (a b c : ℕ) → a + b ≤ c → a ≤ c
        first a b c h = omega arith

    ring_here : AreFew k (IsFew s before) (few_carried s before before_fits) r.device.ins
    ring_here j now =
        let same : i ≡ j = (let both : Some i ≡ Some j = sym there ∙ now in cc) in subst (IsFew s before) same (refl, rec.few)

    fetched_rings : Rings at i.microframes left d.steps (fetched marks r).device
    fetched_rings = came marks r band sound k i d clock there rec on_clock found

    ticked_rings : Rings at i.microframes (left + made) (steps_on at d.steps) (after_domains (fetched marks r)).device
    unfolding packets_and_ticks
    ticked_rings = ticked marks r band sound k i d clock there rec on_clock found

    ring_ticked : AreFew k (IsFew s (left + made)) (few_carried s (left + made) all_fit) (after_domains (fetched marks r)).device.ins
    ring_ticked j now =
        let rings = ticked_rings in
        let same : rings.ring ≡ j = (let both : Some rings.ring ≡ Some j = sym rings.in_ ∙ now in cc) in
        subst (IsFew s (left + made)) same (rings.is.stream, rings.is.level)

    held_some : All (HeldIn k) (moments marks r)
    held_some =
        let v : RunningWorld = numbered r in
        let few = few_carried s before before_fits in
        by_parts k marks r (outs_few k (IsFew s before) few marks v ring_here)
        (ins_few k (IsFew s before) few marks (after_out marks v) (sent_few k (IsFew s before) few marks v ring_here))
        (all_ticks_held at (spot marks r band sound k i d clock there rec on_clock found) i.microframes left d.steps left_fits all_fit (fetched marks r)
        (once marks r band sound k i d clock there rec on_clock found) fetched_rings)
        (ends_few k (IsFew s (left + made)) (few_carried s (left + made) all_fit) marks (after_domains (fetched marks r)) ring_ticked)
        (last_held k)

  pub ins_hold : (k : ℕ) → All (HeldIn k) (moments marks r)
  ins_hold k = by (r.device.ins k) refl
    where
      by : (o : Option InStream) → r.device.ins k ≡ o → All (HeldIn k) (moments marks r)
      by None none = held_none k none
      by (Some i) there =
          let rec = recorded k i there in
          opened_in r k rec.0 rec.1.domain (λ clock on_clock found. held_some k i rec.0 clock there rec.1 on_clock found)
