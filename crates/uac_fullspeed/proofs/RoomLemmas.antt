-- Between two bus frames the ring has room for the zeros of a lost packet.
use Rattle.std.proofs.Common.{arith, ◌≡◌, ◌∙◌, refl, sym, ap, subst, ℕ, zero, suc, ◌+◌, ◌-◌, ◌<◌, ◌≤◌, ◌⊎◌, inl, inr, Bool, true, false, nat_le, ℤ, pos, List, [], ◌∷◌, ◌++◌, length, drop, replicate, Option, Some, None, length-append, length-drop}
use Rattle.std.proofs.lemmas.Bool.{leb-true, leb-false}
use Rattle.std.proofs.lemmas.List.{length-replicate}
use Rattle.uac_ring.specs.declared.arrival.Arrival.{Arrival}
use Rattle.uac_ring.specs.declared.arrival.Arrival.TheVariants as arrivals
use Rattle.uac_bench.specs.BenchStreams.{StreamWorld, level_of, arrives_by, received_by, arrival_of, numbered, after_packet, ticked_by, after_tick, after_ticks, silent_frame, with_zeros, target_by, after_priming}
use Rattle.uac_bench.proofs.FramesLemmas.{length-numbered}
use Rattle.uac_fullspeed.specs.FullSpeedWorld.{at_ticks, ticked, replaced_by, after_frame}
use Rattle.uac_fullspeed.specs.FullSpeedKept.{FewByTarget, HasRoom}

-- ---- a packet

-- what a packet does to a stream, by the frames that come
pub record Received (s v : StreamWorld) (came : ℕ) : Type 0 where
  pub arrived : length v.arrived ≡ length s.arrived + came
  pub played : v.played ≡ s.played
  pub target : v.target ≡ s.target

-- one that comes has room, and one that is lost, or over, changes nothing
pub record Arrives (lost : Bool) (size : ℕ) (s v : StreamWorld) : Type 0 where
  pub came : ℕ
  pub received : Received s v came
  pub room : (came ≡ 0) ⊎ (level_of s + came ≤ 1024)
  pub none : lost ≡ true → came ≡ 0

pub arrives : (lost : Bool) (size : ℕ) (s : StreamWorld) → Arrives lost size s (after_packet 1024 lost size s)
unfolding after_packet
arrives true size s = record { came = 0; received = record { arrived = omega arith; played = refl; target = refl }; room = inl refl; none = λ e. refl }
arrives false size s = from (nat_le (level_of s + size) 1024) refl where
  from : (fits : Bool) → nat_le (level_of s + size) 1024 ≡ fits
      → Arrives false size s (record (received_by (arrives_by false fits) (numbered s.formed size) s) { formed = s.formed + size })
  from true e =
      let fits = leb-true (level_of s + size) 1024 e in
      let long = length-numbered s.formed size in
      record {
        came = size;
        received = record {
          arrived = length-append s.arrived (numbered s.formed size) ∙ ap (λ (n : ℕ). length s.arrived + n) long;
          played = refl;
          target = refl;
        };
        room = inr fits;
        none = λ h. cc;
      }
  from false e = record { came = 0; received = record { arrived = omega arith; played = refl; target = refl }; room = inl refl; none = λ h. cc }

-- ---- ticks

-- a priming stream stays as it is; a primed one gives up a frame at each tick, or has run empty
abbrev pub HowBy : Option ℕ → StreamWorld → StreamWorld → ℕ → Type 0
HowBy None s v count = (v.target ≡ None) × (level_of v ≡ level_of s)
HowBy (Some target) s v count =
    ((v.target ≡ Some target) × (level_of v + count ≡ level_of s)) ⊎ ((v.target ≡ None) × (level_of v ≡ 0))

pub record Ticked (s v : StreamWorld) (count : ℕ) : Type 0 where
  pub below : v.played ≤ length v.arrived
  pub how : HowBy s.target s v count

same_by : (o : Option ℕ) (s : StreamWorld) → s.target ≡ o → HowBy o s s 0
same_by None s is = (is, refl)
same_by (Some target) s is = inl (is, omega arith)

pub ticks_leave : (count : ℕ) (s : StreamWorld) → s.played ≤ length s.arrived → Ticked s (after_ticks count s) count
unfolding after_ticks after_tick
ticks_leave zero s below = record { below = below; how = same_by s.target s refl }
ticks_leave (suc count) s below =
    as_record (from s.target (drop s.played s.arrived) refl (length-drop s.played s.arrived) (λ v b. ticks_leave count v b)) where
      as_record : (b : (after_ticks count (ticked_by s.target (drop s.played s.arrived) s)).played ≤ length (after_ticks count (ticked_by s.target (drop s.played s.arrived) s)).arrived)
          × HowBy s.target s (after_ticks count (ticked_by s.target (drop s.played s.arrived) s)) (suc count)
          → Ticked s (after_ticks count (ticked_by s.target (drop s.played s.arrived) s)) (suc count)
      as_record h = record { below = h.0; how = h.1 }

      from : (target : Option ℕ) (waiting : List (List ℤ)) → s.target ≡ target → length waiting ≡ length s.arrived - s.played
          → ((v : StreamWorld) → v.played ≤ length v.arrived → Ticked v (after_ticks count v) count)
          → (b : (after_ticks count (ticked_by target waiting s)).played ≤ length (after_ticks count (ticked_by target waiting s)).arrived)
          × HowBy target s (after_ticks count (ticked_by target waiting s)) (suc count)
      from None waiting is long rest =
          let r = rest s below in (r.below, subst (λ (o : Option ℕ). HowBy o s (after_ticks count s) count) is r.how)
      from (Some target) [] is long rest =
          let r = rest (ticked_by (Some target) [] s) (omega arith) in (r.below, inr (r.how.0, r.how.1))
      from (Some target) (frame ∷ more) is long rest =
          let some : s.played + 1 ≤ length s.arrived = omega arith in
          let r = rest (record s { played = suc s.played }) (omega arith) in
          (r.below, one_more (subst (λ (o : Option ℕ). HowBy o (record s { played = suc s.played }) (after_ticks count (record s { played = suc s.played })) count) is r.how) some) where
            one_more : HowBy (Some target) (record s { played = suc s.played }) (after_ticks count (record s { played = suc s.played })) count → s.played + 1 ≤ length s.arrived
                → HowBy (Some target) s (after_ticks count (record s { played = suc s.played })) (suc count)
            one_more (inl h) some = (let more : level_of (after_ticks count (record s { played = suc s.played })) + suc count ≡ level_of s = omega (arith, h.1) in inl (h.0, more))
            one_more (inr h) some = inr h

-- ---- the end of a bus frame

primed_room : (o : Option ℕ) (level : ℕ) (enough : Bool) → nat_le 256 level ≡ enough → level ≤ 1024 → FewByTarget (target_by o enough level) level
primed_room (Some target) level enough e most = most
primed_room None level true e most = most
primed_room None level false e most = (let few = leb-false 256 level e in omega arith)

-- after the zeros the level is at most 1,024
pub record Ends (v : StreamWorld) : Type 0 where
  pub below : v.played ≤ length v.arrived
  pub most : level_of v ≤ 1024

ends_primed : (v : StreamWorld) → Ends v → HasRoom (after_priming v)
unfolding after_priming
ends_primed v e = record { played = e.below; few = primed_room v.target (level_of v) (nat_le 256 (level_of v)) refl e.most }

few_at : (o : Option ℕ) (level : ℕ) → FewByTarget o level → level ≤ 1024
few_at None level h = omega arith
few_at (Some target) level h = h

-- the level once the packet came, or was lost
sent_level : (lost : Bool) (size : ℕ) (s : StreamWorld) → HasRoom s
    → ((at_ticks lost size s).played ≤ length (at_ticks lost size s).arrived) × (level_of (at_ticks lost size s) ≤ 1024)
sent_level lost size s room =
    let a = arrives lost size s in
    let most = few_at s.target (level_of s) room.few in
    let below = room.played in
    (omega (arith, a.received.arrived, a.received.played), by a.room) where
      by : ((arrives lost size s).came ≡ 0) ⊎ (level_of s + (arrives lost size s).came ≤ 1024) → level_of (at_ticks lost size s) ≤ 1024
      by (inl h) = (let most = few_at s.target (level_of s) room.few in omega (arith, (arrives lost size s).received.arrived, (arrives lost size s).received.played))
      by (inr h) = (let below = room.played in omega (arith, (arrives lost size s).received.arrived, (arrives lost size s).received.played))

how_few : (o : Option ℕ) (s v : StreamWorld) (count : ℕ) → HowBy o s v count → level_of v ≤ level_of s
how_few None s v count h = omega (arith, h.1)
how_few (Some target) s v count (inl h) = omega (arith, h.1)
how_few (Some target) s v count (inr h) = omega (arith, h.1)

-- the ring has room for the zeros
pub zeros_fit : (lost : Bool) (size ticks : ℕ) (s : StreamWorld) → HasRoom s → level_of (ticked lost size ticks s) ≤ 1024
zeros_fit lost size ticks s room =
    let sent = sent_level lost size s room in
    let t = ticks_leave ticks (at_ticks lost size s) sent.0 in
    let few = how_few (at_ticks lost size s).target (at_ticks lost size s) (ticked lost size ticks s) ticks t.how in
    omega (arith, sent.1)

-- a lost packet leaves the level, but for the ticks, which the zeros replace
lost_level : (o : Option ℕ) (ticks : ℕ) (s u v : StreamWorld) → FewByTarget o (level_of s) → level_of u ≡ level_of s → HowBy o u v ticks → ticks ≤ 769 → level_of v + ticks ≤ 1024
lost_level None ticks s u v few same h short = omega (arith, h.1)
lost_level (Some target) ticks s u v few same (inl h) short = omega (arith, h.1)
lost_level (Some target) ticks s u v few same (inr h) short = omega (arith, h.1)

replaced_ends : (lost : Bool) (size ticks : ℕ) (s : StreamWorld) → HasRoom s → ticks ≤ 769 → Ends (replaced_by lost ticks (ticked lost size ticks s))
unfolding with_zeros
replaced_ends false size ticks s room short =
    let sent = sent_level false size s room in
    let t = ticks_leave ticks (at_ticks false size s) sent.0 in
    record { below = t.below; most = zeros_fit false size ticks s room }
replaced_ends true size ticks s room short =
    let sent = sent_level true size s room in
    let a = arrives true size s in
    let none : a.came ≡ 0 = a.none refl in
    let t = ticks_leave ticks (at_ticks true size s) sent.0 in
    let below = t.below in
    let grown : length ((ticked true size ticks s).arrived ++ replicate ticks silent_frame) ≡ length (ticked true size ticks s).arrived + ticks =
    length-append (ticked true size ticks s).arrived (replicate ticks silent_frame) ∙ ap (λ (n : ℕ). length (ticked true size ticks s).arrived + n) (length-replicate ticks silent_frame) in
    let same : level_of (at_ticks true size s) ≡ level_of s = omega (arith, a.received.arrived, a.received.played) in
    let few = lost_level s.target ticks s (at_ticks true size s) (ticked true size ticks s) room.few same
    (subst (λ (o : Option ℕ). HowBy o (at_ticks true size s) (ticked true size ticks s) ticks) a.received.target t.how) short in
    record { below = omega arith; most = omega arith }

pub after_frame_room : (lost : Bool) (size ticks : ℕ) (s : StreamWorld) → HasRoom s → ticks ≤ 769 → HasRoom (after_frame lost size ticks s)
unfolding after_frame
after_frame_room lost size ticks s room short = ends_primed (replaced_by lost ticks (ticked lost size ticks s)) (replaced_ends lost size ticks s room short)
