-- The moments of a microframe are all that it passes through.
use Rattle.std.proofs.Common.{arith, ◌≡◌, ◌∙◌, refl, sym, ap, subst, ℕ, zero, suc, ◌+◌, ◌≤◌, Bool, true, false, if◌then◌else◌, ℤ, List, [], ◌∷◌, ◌++◌, append_assoc, length, map, take, Some}
use Rattle.std.specs.List.{range_with_len}
use Rattle.std.proofs.Math.Numerals.{add-one}
use Rattle.std.proofs.Math.Seq.{take-length}
use Rattle.std.proofs.lemmas.List.{append-nil, length-append}
use Rattle.uac_flow.specs.FlowStreams.{OutStream, after_packet, after_sending_in, frames_of, is_due, takes_all, zeros_due}
use Rattle.uac_device.specs.DeviceWorld.{DeviceWorld}
use Rattle.uac_streaming.specs.StreamingWorld.{StreamingWorld}
use Rattle.uac_streaming.specs.Telling.{in_turn}
use Rattle.uac_running.specs.RunningWorld.{RunningWorld}
use Rattle.uac_running.specs.Events.{domain_microframe, domain_microframes, microframe, packets_and_ticks, tick, tick_times}
use Rattle.uac_promises.specs.Moments.{along, domain_moments, tick_moments, while_received, while_sent_in, while_ended}
use Rattle.uac_promises.specs.MomentLaws.{AllIsPut, AllIsTaken, DomainsAreSeen, FramesAreSeen, PartsMakeMicroframes, TicksAreSeen, TurnsAreSeen}

-- numbers from one more on are those from here on, each one more
shifted : {X : Type 0} (f g : ℕ → X) → ((n : ℕ) → f (n + 1) ≡ g n) → (first count : ℕ)
    → map f (range_with_len (first + 1) count) ≡ map g (range_with_len first count)
shifted f g same first zero = refl
shifted f g same first (suc count) = λ j. same first j ∷ shifted f g same (first + 1) count j

pub ticks_are_seen : TicksAreSeen
unfolding tick_moments tick_times
ticks_are_seen zero domain r = refl
ticks_are_seen (suc count) domain r =
    let next : RunningWorld = (tick domain r).world in
    let now : ℕ → DeviceWorld = λ ticks. (tick_times ticks domain r).world.device in
    let later : ℕ → DeviceWorld = λ ticks. (tick_times ticks domain next).world.device in
    let more : suc (count + 1) ≡ suc count + 1 = omega arith in
    ap (λ (rest : List DeviceWorld). r.device ∷ rest)
    (ticks_are_seen count domain next ∙ sym (shifted now later (λ n. ap now (add-one n)) 0 (count + 1)))
    ∙ ap (λ (n : ℕ). map now (range_with_len 0 n)) more

pub frames_are_seen : FramesAreSeen
frames_are_seen frames so_far =
    ap (λ (n : ℕ). map so_far (range_with_len 0 n)) (let more : suc frames ≡ frames + 1 = omega arith in more)

regrouped : {X : Type 0} (x a b c : List X) → x ++ (a ++ b ++ c) ≡ x ++ a ++ b ++ c
regrouped {X} x a b c = sym (append_assoc x (a ++ b) c) ∙ ap (λ (front : List X). front ++ c) (sym (append_assoc x a b))

pub turns_are_seen : TurnsAreSeen
unfolding along in_turn
turns_are_seen event seen [] n behind w = refl
turns_are_seen event seen (m ∷ before) n behind w =
    let next : StreamingWorld = (event m w).world in
    let left : StreamingWorld = (in_turn event before next).world in
    let each : ℕ → StreamingWorld → StreamingWorld = λ k v. (event k v).world in
    ap (λ (rest : List DeviceWorld). seen m w ++ rest) (turns_are_seen event seen before n behind next)
    ∙ regrouped (seen m w) (along each seen before next) (seen n left) (along each seen behind (event n left).world)

pub domains_are_seen : DomainsAreSeen
unfolding along domain_microframes
domains_are_seen [] domain behind r = refl
domains_are_seen (c ∷ before) domain behind r =
    let next : RunningWorld = (domain_microframe c r).world in
    let left : RunningWorld = (domain_microframes before next).world in
    let each : ℕ → RunningWorld → RunningWorld = λ k v. (domain_microframe k v).world in
    ap (λ (rest : List DeviceWorld). domain_moments c r ++ rest) (domains_are_seen before domain behind next)
    ∙ regrouped (domain_moments c r) (along each domain_moments before next) (domain_moments domain left)
    (along each domain_moments behind (domain_microframe domain left).world)

-- ---- frames that are put

taken_more : {X : Type 0} (n : ℕ) (xs : List X) → length (take (suc n) xs) ≤ length (take n xs) + 1
taken_more n [] = omega arith
taken_more zero (x ∷ xs) = omega arith
taken_more (suc n) (x ∷ xs) = let rest = taken_more n xs in omega (arith, rest)

put_more : {X : Type 0} (xs ys : List X) (n : ℕ) → length (xs ++ take (n + 1) ys) ≤ length (xs ++ take n ys) + 1
put_more xs ys n =
    let more : length (take (n + 1) ys) ≤ length (take n ys) + 1 =
    subst (λ (k : ℕ). length (take k ys) ≤ length (take n ys) + 1) (sym (add-one n)) (taken_more n ys) in
    omega (arith, length-append xs (take (n + 1) ys), length-append xs (take n ys), more)

module _ (o : OutStream) (packet : List ℕ) where
  abbrev came : Bool → ℕ → OutStream
  came takes count = if takes then record o { arrived = o.arrived ++ take count (frames_of o.stream packet) } else o

  none_came : (while_received (Some packet) 0 o).arrived ≡ o.arrived
  unfolding while_received
  none_came = by (takes_all o packet)
    where
      by : (b : Bool) → (came b 0).arrived ≡ o.arrived
      by true = append-nil o.arrived
      by false = refl

  one_more_came : (count : ℕ) → length (while_received (Some packet) (count + 1) o).arrived ≤ length (while_received (Some packet) count o).arrived + 1
  unfolding while_received
  one_more_came count = by (takes_all o packet)
    where
      by : (b : Bool) → length (came b (count + 1)).arrived ≤ length (came b count).arrived + 1
      by true = put_more o.arrived (frames_of o.stream packet) count
      by false = omega arith

module _ (o : OutStream) where
  abbrev zeroed : Bool → ℕ → OutStream
  zeroed due count = if due then record o { arrived = o.arrived ++ take count (zeros_due o) } else o

  no_zeros : (while_ended 0 o).arrived ≡ o.arrived
  unfolding while_ended
  no_zeros = by (is_due o.stream o.microframes)
    where
      by : (b : Bool) → (zeroed b 0).arrived ≡ o.arrived
      by true = append-nil o.arrived
      by false = refl

  one_more_zero : (count : ℕ) → length (while_ended (count + 1) o).arrived ≤ length (while_ended count o).arrived + 1
  unfolding while_ended
  one_more_zero count = by (is_due o.stream o.microframes)
    where
      by : (b : Bool) → length (zeroed b (count + 1)).arrived ≤ length (zeroed b count).arrived + 1
      by true = put_more o.arrived (zeros_due o) count
      by false = omega arith

came_whole : (o : OutStream) (packet : List ℕ) → (while_received (Some packet) (length (frames_of o.stream packet)) o).arrived ≡ (after_packet (Some packet) o).arrived
unfolding while_received after_packet
came_whole o packet = by (takes_all o packet)
  where
    by : (b : Bool)
        → (if b then record o { arrived = o.arrived ++ take (length (frames_of o.stream packet)) (frames_of o.stream packet) } else o).arrived
        ≡ (if b then o.arrived ++ frames_of o.stream packet else o.arrived)
    by true = ap (λ (frames : List (List ℤ)). o.arrived ++ frames) (take-length (frames_of o.stream packet))
    by false = refl

ended_whole : (o : OutStream) → is_due o.stream o.microframes ≡ true → (while_ended (length (zeros_due o)) o).arrived ≡ o.arrived ++ zeros_due o
unfolding while_ended
ended_whole o due =
    ap (λ (b : Bool). (if b then record o { arrived = o.arrived ++ take (length (zeros_due o)) (zeros_due o) } else o).arrived) due
    ∙ ap (λ (frames : List (List ℤ)). o.arrived ++ frames) (take-length (zeros_due o))

pub all_is_put : AllIsPut
all_is_put o packet = record {
  none_came = none_came o packet;
  one_more_came = one_more_came o packet;
  all_came = came_whole o packet;
  no_zeros = no_zeros o;
  one_more_zero = one_more_zero o;
  all_zeros = ended_whole o;
}

-- ---- frames that are taken

pub all_is_taken : AllIsTaken
unfolding while_sent_in after_sending_in
all_is_taken i = record {
  none_gone = ap (λ (n : ℕ). record i { gone = n }) (let none : i.gone + 0 ≡ i.gone = omega arith in none);
  one_more_gone = λ gone. (let more : i.gone + (gone + 1) ≡ (i.gone + gone) + 1 = omega arith in more);
  all_gone = refl;
}

pub parts_make_microframes : PartsMakeMicroframes
unfolding microframe packets_and_ticks
parts_make_microframes marks r = refl
