-- What is known of packets and reports while the device's ticks wait.
use Rattle.std.proofs.Common.{◌≡◌, ◌∙◌, sym, ap, subst, refl, arith, ℕ, zero, suc, ◌+◌, ◌<◌, ◌≤◌, ◌==◌, nat_eq, Bool, true, false, if◌then◌else◌, List, [], ◌∷◌, length, min, drop, take, get_or, set, Option, Some, None, drop-cons, add-one, eq-eqb}
use Rattle.std.specs.Prelude.{IfSome}
use Rattle.std.specs.List.{AllByRecursion, IsDistinct}
use Rattle.std.specs.Option.{option_map, option_map_or}
use Rattle.std.proofs.Math.Path.{fun_ext}
use Rattle.std.proofs.lemmas.Bool.{ne_eqb, true≢false}
use Rattle.std.proofs.lemmas.List.{drop_all}
use Rattle.std.proofs.lemmas.Map.Keys.{IsDistinct-head, IsDistinct-tail}
use Rattle.uac_topology.specs.Function.{FunctionFields}
use Rattle.uac_rate.specs.Steadiness.{with_report_given}
use Rattle.uac_flow.specs.FlowStreams.{InStream, in_level}
use Rattle.uac_flow.specs.FlowWaits.{sent_more}
use Rattle.uac_device.specs.DeviceKept as devices
use Rattle.uac_device.specs.DeviceWorld.{DeviceWorld, at_in, feedback_in}
use Rattle.uac_device.specs.DeviceWaits.{SentAreThere, after_sent}
use Rattle.uac_device.proofs.DeviceWaitsLemmas.{same_number}
use Rattle.uac_script.specs.Phrase.{PhraseMark}
use Rattle.uac_streaming.specs.Telling.{Telling, in_turn, without_event}
use Rattle.uac_streaming.specs.StreamingWorld.{StreamingWorld, all_feedback, feedback_lines, feedback_made, feedback_turn, given_at, loses_feedback, numbers, stream_index}
use Rattle.uac_streaming.specs.StreamingWaits.{after_report_of, after_reports_of, one_sent_after, sent_after, sent_on, with_device}

-- ---- the numbers that are sent after the packets of these interfaces

-- none had a packet yet
pub none_were_sent : (ticks : ℕ) (ms : List ℕ) (w : DeviceWorld) → ms ≡ sent_after [] ticks ms w
unfolding sent_after
none_were_sent ticks ms w = refl

-- the first ones had their packet, and now the next one has
next_sent : (i ticks : ℕ) (ns ms : List ℕ) (w : DeviceWorld) → i < length ns → i < length ms
    → set (sent_after (take i ns) ticks ms w) i (one_sent_after (get_or ns i 0) ticks (get_or (sent_after (take i ns) ticks ms w) i 0) w)
    ≡ sent_after (take (suc i) ns) ticks ms w
unfolding sent_after
next_sent i ticks [] ms w one many = absurd (omega (arith, one))
next_sent i ticks (n ∷ ns) [] w one many = absurd (omega (arith, many))
next_sent zero ticks (n ∷ ns) (m ∷ ms) w one many = refl
next_sent (suc i) ticks (n ∷ ns) (m ∷ ms) w one many =
    ap (λ (rest : List ℕ). one_sent_after n ticks m w ∷ rest) (next_sent i ticks ns ms w (omega (arith, one)) (omega (arith, many)))

-- as a turn of the loop has it: of an interface that was read, and at a number that was given
pub one_more_sent : (i ticks n more : ℕ) (ns ms so_far : List ℕ) (w : DeviceWorld) → i < length ns → i < length ms → n ≡ get_or ns i 0
    → so_far ≡ sent_after (take i ns) ticks ms w → more ≡ one_sent_after n ticks (get_or so_far i 0) w
    → set so_far i more ≡ sent_after (take (i + 1) ns) ticks ms w
one_more_sent i ticks n more ns ms so_far w one many which is makes =
    ap (set so_far i) (makes ∙ ap (λ (k : ℕ). one_sent_after k ticks (get_or so_far i 0) w) which)
    ∙ ap (λ (xs : List ℕ). set xs i (one_sent_after (get_or ns i 0) ticks (get_or xs i 0) w)) is
    ∙ next_sent i ticks ns ms w one many
    ∙ ap (λ (k : ℕ). sent_after (take k ns) ticks ms w) (sym (add-one i))

-- where there are no more, these are all
pub all_were_sent : (i ticks : ℕ) (ns ms : List ℕ) (w : DeviceWorld) → min (length ns) (length ms) ≤ i
    → sent_after (take i ns) ticks ms w ≡ sent_after ns ticks ms w
unfolding sent_after
all_were_sent zero ticks [] ms w past = refl
all_were_sent (suc i) ticks [] ms w past = refl
all_were_sent zero ticks (n ∷ ns) [] w past = refl
all_were_sent (suc i) ticks (n ∷ ns) [] w past = refl
all_were_sent zero ticks (n ∷ ns) (m ∷ ms) w past = absurd (omega (arith, past))
all_were_sent (suc i) ticks (n ∷ ns) (m ∷ ms) w past =
    ap (λ (rest : List ℕ). one_sent_after n ticks m w ∷ rest) (all_were_sent i ticks ns ms w (omega (arith, past)))

-- ---- frames that are gone

none_gone : (in_ : Option InStream) → option_map (sent_more 0) in_ ≡ in_
none_gone None = refl
none_gone (Some i) =
    let same : i.gone + 0 ≡ i.gone = omega arith in
    ap (λ (gone : ℕ). Some (record i { gone = gone })) same

-- where frames of an interface are gone of which none were before
gone_on : (sent before : ℕ) (here : Bool) (in_ : Option InStream) → (here ≡ true → before ≡ 0)
    → (if here then option_map (sent_more sent) (option_map (sent_more before) in_) else option_map (sent_more before) in_)
    ≡ option_map (sent_more (if here then sent else before)) in_
gone_on sent before true in_ none =
    ap (λ (m : ℕ). option_map (sent_more sent) (option_map (sent_more m) in_)) (none refl) ∙ ap (option_map (sent_more sent)) (none_gone in_)
gone_on sent before false in_ none = refl

-- none of these is a number that differs from all of them
other_at : (n i : ℕ) (ns : List ℕ) → AllByRecursion (λ k. nat_eq n k ≡ false) ns → i < length ns → (get_or ns i 0 == n) ≡ false
other_at n i [] apart below = absurd (omega (arith, below))
other_at n zero (k ∷ ks) apart below = ne_eqb k n (λ same. true≢false (sym (eq-eqb n k (sym same)) ∙ apart.0))
other_at n (suc i) (k ∷ ks) apart below = other_at n i ks apart.1 (omega (arith, below))

-- an interface's number is the one at its place
sent_there : (i : ℕ) (ns ms : List ℕ) → IsDistinct nat_eq ns → i < length ns → i < length ms → sent_on ns ms (get_or ns i 0) ≡ get_or ms i 0
unfolding sent_on
sent_there i [] ms once one many = absurd (omega (arith, one))
sent_there i (n ∷ ns) [] once one many = absurd (omega (arith, many))
sent_there zero (n ∷ ns) (m ∷ ms) once one many = ap (λ (here : Bool). if here then m else sent_on ns ms n) (eq-eqb n n refl)
sent_there (suc i) (n ∷ ns) (m ∷ ms) once one many =
    let k : ℕ = get_or ns i 0 in
    ap (λ (here : Bool). if here then m else sent_on ns ms k) (other_at n i ns (IsDistinct-head nat_eq n ns once) (omega (arith, one)))
    ∙ sent_there i ns ms (IsDistinct-tail nat_eq n ns once) (omega (arith, one)) (omega (arith, many))

-- and among those before it there is none for it
none_before : (i : ℕ) (ns ms : List ℕ) → IsDistinct nat_eq ns → i < length ns → sent_on (take i ns) ms (get_or ns i 0) ≡ 0
unfolding sent_on
none_before i [] ms once one = absurd (omega (arith, one))
none_before zero (n ∷ ns) ms once one = refl
none_before (suc i) (n ∷ ns) [] once one = refl
none_before (suc i) (n ∷ ns) (m ∷ ms) once one =
    let k : ℕ = get_or ns i 0 in
    ap (λ (here : Bool). if here then m else sent_on (take i ns) ms k) (other_at n i ns (IsDistinct-head nat_eq n ns once) (omega (arith, one)))
    ∙ none_before i ns ms (IsDistinct-tail nat_eq n ns once) (omega (arith, one))

-- those of one more
sent_to : (i k : ℕ) (ns ms : List ℕ) → IsDistinct nat_eq ns → i < length ns → i < length ms
    → (if k == get_or ns i 0 then get_or ms i 0 else sent_on (take i ns) ms k) ≡ sent_on (take (suc i) ns) ms k
unfolding sent_on
sent_to i k [] ms once one many = absurd (omega (arith, one))
sent_to i k (n ∷ ns) [] once one many = absurd (omega (arith, many))
sent_to zero k (n ∷ ns) (m ∷ ms) once one many = refl
sent_to (suc i) k (n ∷ ns) (m ∷ ms) once one many =
    by (k == n) refl (sent_to i k ns ms (IsDistinct-tail nat_eq n ns once) (omega (arith, one)) (omega (arith, many)))
  where
    by : (first : Bool) → (k == n) ≡ first
        → (if k == get_or ns i 0 then get_or ms i 0 else sent_on (take i ns) ms k) ≡ sent_on (take (suc i) ns) ms k
        → (if k == get_or ns i 0 then get_or ms i 0 else (if first then m else sent_on (take i ns) ms k)) ≡ (if first then m else sent_on (take (suc i) ns) ms k)
    by true is rest =
        let other : (n == get_or ns i 0) ≡ false =
        ne_eqb n (get_or ns i 0)
        (λ same. true≢false (sym (eq-eqb (get_or ns i 0) n (sym same)) ∙ other_at n i ns (IsDistinct-head nat_eq n ns once) (omega (arith, one)))) in
        ap (λ (here : Bool). if here then get_or ms i 0 else m) (ap (λ (j : ℕ). j == get_or ns i 0) (same_number k n is) ∙ other)
    by false is rest = rest

module _ (i : ℕ) (ns ms : List ℕ) (once : IsDistinct nat_eq ns) (one : i < length ns) (many : i < length ms) (w : DeviceWorld) where
  gone_to : at_in (get_or ns i 0) (sent_more (get_or ms i 0)) (after_sent (sent_on (take i ns) ms) w) ≡ after_sent (sent_on (take (suc i) ns) ms) w
  unfolding after_sent
  gone_to =
      ap (λ (ins : ℕ → Option InStream). record w { ins = ins })
      (fun_ext
      (λ k.
      gone_on (get_or ms i 0) (sent_on (take i ns) ms k) (k == get_or ns i 0) (w.ins k)
      (λ here. ap (sent_on (take i ns) ms) (same_number k (get_or ns i 0) here) ∙ none_before i ns ms once one)
      ∙ ap (λ (m : ℕ). option_map (sent_more m) (w.ins k)) (sent_to i k ns ms once one many)))

  still_there : SentAreThere (sent_on ns ms) w
      → IfSome ((after_sent (sent_on (take i ns) ms) w).ins (get_or ns i 0)) (λ s. get_or ms i 0 ≤ in_level s)
  unfolding after_sent
  still_there there =
      let n : ℕ = get_or ns i 0 in
      subst (λ (in_ : Option InStream). IfSome in_ (λ s. get_or ms i 0 ≤ in_level s))
      (sym (ap (λ (m : ℕ). option_map (sent_more m) (w.ins n)) (none_before i ns ms once one) ∙ none_gone (w.ins n)))
      (subst (λ (m : ℕ). IfSome (w.ins n) (λ s. m ≤ in_level s)) (sent_there i ns ms once one many) (there n))

  -- those of one interface more are gone
  pub one_dropped : (n m : ℕ) (before after : devices.DeviceFields) → n ≡ get_or ns i 0 → m ≡ get_or ms i 0 → SentAreThere (sent_on ns ms) w
      → devices.DeviceStands before (after_sent (sent_on (take i ns) ms) w)
      → ((v : DeviceWorld) → devices.DeviceStands before v → IfSome (v.ins n) (λ s. m ≤ in_level s) → devices.DeviceStands after (at_in n (sent_more m) v))
      → devices.DeviceStands after (after_sent (sent_on (take (i + 1) ns) ms) w)
  one_dropped n m before after which number there stands drops =
      let now : DeviceWorld = after_sent (sent_on (take i ns) ms) w in
      let enough : IfSome (now.ins n) (λ s. m ≤ in_level s) =
      subst (λ (x : ℕ). IfSome (now.ins n) (λ s. x ≤ in_level s)) (sym number)
      (subst (λ (k : ℕ). IfSome (now.ins k) (λ s. get_or ms i 0 ≤ in_level s)) (sym which) (still_there there)) in
      subst (devices.DeviceStands after)
      (ap (λ (k : ℕ). at_in k (sent_more m) now) which
      ∙ ap (λ (x : ℕ). at_in (get_or ns i 0) (sent_more x) now) number
      ∙ gone_to
      ∙ ap (λ (k : ℕ). after_sent (sent_on (take k ns) ms) w) (sym (add-one i))) (drops now stands enough)

-- where there are no more, these are all
sent_past : (i k : ℕ) (ns ms : List ℕ) → min (length ns) (length ms) ≤ i → sent_on (take i ns) ms k ≡ sent_on ns ms k
unfolding sent_on
sent_past zero k [] ms past = refl
sent_past (suc i) k [] ms past = refl
sent_past zero k (n ∷ ns) [] past = refl
sent_past (suc i) k (n ∷ ns) [] past = refl
sent_past zero k (n ∷ ns) (m ∷ ms) past = absurd (omega (arith, past))
sent_past (suc i) k (n ∷ ns) (m ∷ ms) past = ap (λ (rest : ℕ). if k == n then m else rest) (sent_past i k ns ms (omega (arith, past)))

pub all_dropped : (i : ℕ) (ns ms : List ℕ) (d : devices.DeviceFields) (w : DeviceWorld) → min (length ns) (length ms) ≤ i
    → devices.DeviceStands d (after_sent (sent_on (take i ns) ms) w) → devices.DeviceStands d (after_sent (sent_on ns ms) w)
all_dropped i ns ms d w past stands =
    subst (λ (sent : ℕ → ℕ). devices.DeviceStands d (after_sent sent w)) (fun_ext (λ k. sent_past i k ns ms past)) stands

-- where there is no interface, none are
none_sent : (ms : List ℕ) (w : DeviceWorld) → w ≡ after_sent (sent_on [] ms) w
unfolding after_sent sent_on
none_sent ms w = ap (λ (ins : ℕ → Option InStream). record w { ins = ins }) (fun_ext (λ k. sym (none_gone (w.ins k))))

pub none_dropped : (ms : List ℕ) (d : devices.DeviceFields) (w : DeviceWorld) → devices.DeviceStands d w
    → devices.DeviceStands d (after_sent (sent_on [] ms) w)
none_dropped ms d w stands = subst (devices.DeviceStands d) (none_sent ms w) stands

-- ---- reports

module _ (marks : List PhraseMark) (later : DeviceWorld) (interface : ℕ) (w : StreamingWorld) where
  abbrev turns : Option ℕ → Telling StreamingWorld
  turns o =
      option_map_or
      (λ value. record {
        lines = feedback_lines 0 (loses_feedback marks interface) value interface;
        world = feedback_made (loses_feedback marks interface) value interface (with_device later w);
      })
      o (without_event (with_device later w))

  -- where none is due, none comes
  pub none_reported : feedback_in later interface ≡ None → w ≡ after_report_of marks later interface w
  unfolding feedback_turn
  none_reported none = ap (λ (o : Option ℕ). with_device w.device (turns o).world) (sym none)

  -- and one that is comes to the host, or is lost
  pub one_reported : (value : ℕ) (lost : Bool) → later.function ≡ w.device.function → feedback_in later interface ≡ Some value
      → lost ≡ loses_feedback marks interface → feedback_made lost value interface w ≡ after_report_of marks later interface w
  unfolding feedback_turn feedback_made
  one_reported value lost same due is =
      let made : StreamingWorld = feedback_made lost value interface w in
      ap
      (λ (f : FunctionFields). record made { history = given_at (stream_index f interface) (λ index. with_report_given index lost) w.history })
      (sym same)
      ∙ ap (λ (b : Bool). with_device w.device (feedback_made b value interface (with_device later w))) is
      ∙ ap (λ (o : Option ℕ). with_device w.device (turns o).world) (sym due)

  -- the device stays as it was
  pub turn_keeps_device : (feedback_turn 0 marks interface (with_device later w)).world.device ≡ later
  unfolding feedback_turn feedback_made
  turn_keeps_device = by (feedback_in later interface)
    where
      by : (o : Option ℕ) → (turns o).world.device ≡ later
      by None = refl
      by (Some value) = refl

-- the reports of these, one after the other
unfoldable pub reports_of : List PhraseMark → DeviceWorld → List ℕ → StreamingWorld → StreamingWorld
reports_of marks later [] w = w
reports_of marks later (n ∷ ns) w = reports_of marks later ns (after_report_of marks later n w)

reports_in_turn : (marks : List PhraseMark) (later : DeviceWorld) (ns : List ℕ) (w : StreamingWorld)
    → reports_of marks later ns w ≡ with_device w.device (in_turn (feedback_turn 0 marks) ns (with_device later w)).world
unfolding reports_of in_turn
reports_in_turn marks later [] w = refl
reports_in_turn marks later (n ∷ ns) w =
    let reported : StreamingWorld = (feedback_turn 0 marks n (with_device later w)).world in
    reports_in_turn marks later ns (after_report_of marks later n w)
    ∙ ap (λ (d : DeviceWorld). with_device w.device (in_turn (feedback_turn 0 marks) ns (with_device d reported)).world)
    (sym (turn_keeps_device marks later n w))

-- those of all interfaces
pub all_reported : (marks : List PhraseMark) (later : DeviceWorld) (w : StreamingWorld) (order : List ℕ) → order ≡ numbers w.device.function
    → later.function ≡ w.device.function → reports_of marks later order w ≡ after_reports_of marks later w
unfolding after_reports_of all_feedback
all_reported marks later w order is same =
    reports_in_turn marks later order w
    ∙ ap (λ (ns : List ℕ). with_device w.device (in_turn (feedback_turn 0 marks) ns (with_device later w)).world) (is ∙ ap numbers (sym same))

reports_split : (marks : List PhraseMark) (later : DeviceWorld) (ns : List ℕ) (i : ℕ) (w : StreamingWorld) → i < length ns
    → reports_of marks later (drop i ns) w ≡ reports_of marks later (drop (i + 1) ns) (after_report_of marks later (get_or ns i 0) w)
unfolding reports_of
reports_split marks later ns i w below = ap (λ (ms : List ℕ). reports_of marks later ms w) (drop-cons ns i 0 below) ∙ rw add-one refl

-- the first ones came, and those that are left make of the streams as they are now what all make of them
pub record Reported (marks : List PhraseMark) (later : DeviceWorld) (ns : List ℕ) (i : ℕ) (w : StreamingWorld) (Holds : StreamingWorld → Type 0) : Type 0 where
  pub now : StreamingWorld
  pub stands : Holds now
  pub device : now.device ≡ w.device
  pub left : reports_of marks later (drop i ns) now ≡ reports_of marks later ns w

pub none_yet : (marks : List PhraseMark) (later : DeviceWorld) (ns : List ℕ) (w : StreamingWorld) (Holds : StreamingWorld → Type 0) → Holds w → Reported marks later ns 0 w Holds
none_yet marks later ns w Holds stands = record { now = w; stands = stands; device = refl; left = refl }

module _ (marks : List PhraseMark) (later : DeviceWorld) (ns : List ℕ) (i n : ℕ) (w : StreamingWorld) (Before After : StreamingWorld → Type 0) where
  pub report_more : i < length ns → n ≡ get_or ns i 0 → Reported marks later ns i w Before
      → ((v : StreamingWorld) → v.device ≡ w.device → Before v → After (after_report_of marks later n v)) → Reported marks later ns (i + 1) w After
  report_more below is r reports = record {
    now = after_report_of marks later n r.now;
    stands = reports r.now r.device r.stands;
    device = r.device;
    left = ap (λ (k : ℕ). reports_of marks later (drop (i + 1) ns) (after_report_of marks later k r.now)) is ∙ sym (reports_split marks later ns i r.now below) ∙ r.left;
  }

-- none is left
pub reports_done : (marks : List PhraseMark) (later : DeviceWorld) (ns : List ℕ) (i : ℕ) (w : StreamingWorld) (Holds : StreamingWorld → Type 0) → length ns ≤ i
    → Reported marks later ns i w Holds → Holds (reports_of marks later ns w)
unfolding reports_of
reports_done marks later ns i w Holds past r =
    subst Holds (ap (λ (ms : List ℕ). reports_of marks later ms r.now) (sym (drop_all i ns past)) ∙ r.left) r.stands
