-- As long as few microframes strayed, a pair is near its target at the end of each, and prints nothing else.
use Rattle.std.proofs.Common.{arith, ◌≡◌, ◌≢◌, ◌∙◌, refl, ap, sym, subst, ℕ, zero, suc, ◌+◌, ◌-◌, ◌*◌, ◌/◌, ◌<◌, ◌≤◌, Bool, true, false, nat_le, not, ◌&&◌, ℤ, pos, List, [], ◌∷◌, ◌++◌, length, map, sum, Option, Some, None, Result, Ok, Err}
use Rattle.std.specs.List.{All, AllByRecursion}
use Rattle.std.proofs.lemmas.List.Elements.{All-append, All-nil, All-cons, All-map, All-from_recursion, recursion_from_All}
use Rattle.uac_clock.specs.Nominal.{StaysBetweenWholes, nominal_of, values_of}
use Rattle.uac_rate.specs.Levels.{Within}
use Rattle.uac_script.specs.Phrase.{Phrase, nothing_line, bytes_line, go_line, control_line, get_line, set_line, show_line, break_line}
use Rattle.uac_script.specs.Phrase.{append_line, track_line, jack_line, deviate_line, microframes_line, detail_line, report_line}
use Rattle.uac_script.specs.Losses.{is_at}
use Rattle.uac_units.specs.Hearing.{at_most_u64}
use Rattle.uac_ring.specs.declared.arrival.Arrival.{Arrival}
use Rattle.uac_ring.specs.declared.arrival.Arrival.TheVariants as arrivals
use Rattle.uac_ring.specs.declared.counts.StreamCounts.{StreamCounts}
use Rattle.uac_transcript.specs.Transcript.{Said, says_microframe, says_out, says_over, says_in, says_frame, says_under, says_played, says_level, says_time, says_domain}
use Rattle.uac_bench.specs.BenchStreams.{StreamWorld, level_of, arrival_of, is_dry, played_in}
use Rattle.uac_implicit.specs.declared.marks.Losses.{Losses}
use Rattle.uac_bench.specs.BenchLines.{if_said, over_lines, arrival_lines}
use Rattle.uac_implicit.specs.Following.{PairWorld, pair_start, most_frames, size_next, ticks_next, sent_in, sent_out, at_ticks, tick, times, lines_times, ticks, microframe, microframes, out_lines, in_lines, tick_lines, ticks_lines, numbered_lines, level_lines, packet_lines, microframe_lines, microframes_lines}
use Rattle.uac_implicit.specs.PairLines.{PairSaid, printed, says_pair_out, says_pair_in, PairStep, PairAfter, pair_done, pair_refused, pair_unless, pair_silently, pair_microframes, pair_said_step, pair_and_then, pair_after, pair_report, losses_of, natural, is_of_pair}
use Rattle.uac_implicit.specs.FollowingBands.{moments_of, line_moments, said_moments, and_then_moments, moments_after, SaysSlight, FewStray, IsNearBy, IsNearPair, StaysNear, IsNearTold, IsKeptLine, IsPromisedPair}
use Rattle.uac_implicit.proofs.StreamMovesLemmas.{at_first, packet_fits, primed_tick, priming_tick}
use Rattle.uac_implicit.proofs.PairLemmas.{Good, start_good, set_good, good_near, HasEnough, good_enough, sent_moves, turn_good}

-- ---- every moment

-- so many microframes, and what follows them
run_near : (losses : Losses) (count : ℕ) (w : PairWorld) (rest : List PairWorld) → Good w → FewStray w
    → (Good (microframes losses count w) → FewStray (microframes losses count w) → StaysNear rest) → StaysNear (moments_of losses count w ++ rest)
unfolding moments_of times
run_near losses zero w rest good few go = go good few
run_near losses (suc count) w rest good few go = λ fewer.
    let next = turn_good losses w few good in
    (good_near (microframe losses w) next, run_near losses count (microframe losses w) rest next fewer go)

-- a line that may be refused
silent_near : (b : Bool) (next : PairWorld) (go : PairWorld → List PairWorld) → StaysNear (go next)
    → StaysNear (and_then_moments (pair_unless b 6 (pair_silently next)) [] go)
silent_near true next go near = near
silent_near false next go near = tt

ran_near : (b : Bool) (losses : Losses) (count : ℕ) (w : PairWorld) (go : PairWorld → List PairWorld) → Good w → FewStray w
    → ((v : PairWorld) → Good v → FewStray v → StaysNear (go v))
    → StaysNear (and_then_moments (pair_unless b 6 (pair_microframes losses count w)) (moments_of losses count w) go)
ran_near true losses count w go good few near = run_near losses count w (go (microframes losses count w)) good few (near (microframes losses count w))
ran_near false losses count w go good few near = tt

pub lines_near : (saids : List (Result Phrase ℕ)) (w : PairWorld) → Good w → FewStray w → AllByRecursion SaysSlight saids → StaysNear (moments_after saids w)
unfolding moments_after
lines_near [] w good few slight = tt
lines_near (Err rule ∷ saids) w good few slight = tt
lines_near (Ok nothing_line ∷ saids) w good few slight = lines_near saids w good few slight.1
lines_near (Ok (bytes_line bytes) ∷ saids) w good few slight = tt
lines_near (Ok go_line ∷ saids) w good few slight = tt
lines_near (Ok (control_line setup sent) ∷ saids) w good few slight = tt
lines_near (Ok (get_line name) ∷ saids) w good few slight = tt
lines_near (Ok (set_line name value) ∷ saids) w good few slight = tt
lines_near (Ok (show_line name) ∷ saids) w good few slight = tt
lines_near (Ok (break_line after) ∷ saids) w good few slight = tt
lines_near (Ok (append_line interface samples) ∷ saids) w good few slight = tt
lines_near (Ok (track_line interface tone) ∷ saids) w good few slight = tt
lines_near (Ok (jack_line terminal tone) ∷ saids) w good few slight = tt
lines_near (Ok (deviate_line domain ppm) ∷ saids) w good few slight =
    silent_near (is_at domain 1) (record w { deviation = ppm }) (moments_after saids)
    (lines_near saids (record w { deviation = ppm }) (set_good w ppm w.detail slight.0 good) few slight.1)
lines_near (Ok (microframes_line count marks) ∷ saids) w good few slight =
    ran_near _ (losses_of marks) (natural count) w (moments_after saids) good few (λ v g f. lines_near saids v g f slight.1)
lines_near (Ok (detail_line level) ∷ saids) w good few slight =
    lines_near saids (record w { detail = natural level }) (set_good w w.deviation (natural level) good.slight good) few slight.1
lines_near (Ok report_line ∷ saids) w good few slight = lines_near saids w good few slight.1

pub start_few : (rate : ℕ) → FewStray (pair_start rate)
unfolding pair_start
start_few rate = omega arith

all_near : (moments : List PairWorld) → StaysNear moments → AllByRecursion FewStray moments → AllByRecursion IsNearPair moments
all_near [] near few = tt
all_near (w ∷ more) near few = let n = near few.0 in (n.0, all_near more n.1 few.1)

-- ---- every line

abbrev Kept : Said → Type 0
Kept said = IsKeptLine (printed said)

quiet_microframe : (n : ℕ) → Kept (says_microframe n)
quiet_microframe n = record { no_under = λ i e. cc; no_over = λ i e. cc; near = λ i l t e. absurd (cc); reported = λ l t m e. absurd (cc) }

quiet_out : (i n : ℕ) (a : Arrival) → Kept (says_out i n a)
quiet_out i n a = record { no_under = λ i e. cc; no_over = λ i e. cc; near = λ i l t e. absurd (cc); reported = λ l t m e. absurd (cc) }

quiet_in : (i n : ℕ) (lost : Bool) → Kept (says_in i n lost)
quiet_in i n lost = record { no_under = λ i e. cc; no_over = λ i e. cc; near = λ i l t e. absurd (cc); reported = λ l t m e. absurd (cc) }

quiet_frame : (i : ℕ) (frame : List ℤ) → Kept (says_frame i frame)
quiet_frame i frame = record { no_under = λ i e. cc; no_over = λ i e. cc; near = λ i l t e. absurd (cc); reported = λ l t m e. absurd (cc) }

quiet_played : (i : ℕ) (frame : List ℤ) → Kept (says_played i frame)
quiet_played i frame = record { no_under = λ i e. cc; no_over = λ i e. cc; near = λ i l t e. absurd (cc); reported = λ l t m e. absurd (cc) }

quiet_time : (n : ℕ) → Kept (says_time n)
quiet_time n = record { no_under = λ i e. cc; no_over = λ i e. cc; near = λ i l t e. absurd (cc); reported = λ l t m e. absurd (cc) }

quiet_domain : (d : ℕ) (rate : Option ℕ) (n : ℕ) → Kept (says_domain d rate n)
quiet_domain d rate n = record { no_under = λ i e. cc; no_over = λ i e. cc; near = λ i l t e. absurd (cc); reported = λ l t m e. absurd (cc) }

quiet_pair_in : (n : ℕ) → IsKeptLine (says_pair_in n)
quiet_pair_in n = record { no_under = λ i e. cc; no_over = λ i e. cc; near = λ i l t e. absurd (cc); reported = λ l t m e. absurd (cc) }

-- a level that few strayed off
told_near : (o : Option ℕ) (w : PairWorld) → FewStray w → IsNearBy o w → IsNearTold (level_of w.out) o
told_near None w few near = near
told_near (Some target) w few near = (omega (arith, near), omega (arith, near))

same_told : (l l' : ℕ) (t t' : Option ℕ) → l ≡ l' → t ≡ t' → IsNearTold l t → IsNearTold l' t'
same_told l l' t t' a b near = subst (IsNearTold l') b (subst (λ (n : ℕ). IsNearTold n t) a near)

kept_level : (l : ℕ) (t : Option ℕ) → IsNearTold l t → Kept (says_level 1 l t)
kept_level l t near = record {
  no_under = λ i e. cc;
  no_over = λ i e. cc;
  near = λ i l' t' e. same_told l l' t t' (cc) (cc) near;
  reported = λ l' t' m e. absurd (cc);
}

kept_pair_out : (w : PairWorld) → FewStray w → IsNearPair w → IsKeptLine (says_pair_out (level_of w.out) w.out.target w.out.met)
kept_pair_out w few near = record {
  no_under = λ i e. cc;
  no_over = λ i e. cc;
  near = λ i l t e. absurd (cc);
  reported = λ l t m e. (
    same_told (level_of w.out) l w.out.target t (cc) (cc) (told_near w.out.target w few near.near),
    under m (cc),
    over m (cc),
  );
} where
  under : (m : StreamCounts) → w.out.met ≡ m → m.under ≡ 0
  under m e = ap (λ (x : StreamCounts). x.under) (sym e) ∙ near.under

  over : (m : StreamCounts) → w.out.met ≡ m → m.over ≡ 0
  over m e = ap (λ (x : StreamCounts). x.over) (sym e) ∙ near.over

one : (said : Said) → Kept said → All Kept (said ∷ [])
one said kept = All-cons Kept said [] kept (All-nil Kept)

if_kept : (b : Bool) (lines : List Said) → All Kept lines → All Kept (if_said b lines)
if_kept true lines all = all
if_kept false lines all = All-nil Kept

wet_kept : (b : Bool) → b ≡ false → All Kept (if_said b (says_under 1 ∷ []))
wet_kept true e = absurd (cc)
wet_kept false e = All-nil Kept

over_kept : (a : Arrival) → (a ≡ arrivals.Over → ⊥) → All Kept (over_lines a)
over_kept arrivals.Taken never = All-nil Kept
over_kept arrivals.Lost never = All-nil Kept
over_kept arrivals.Over never = absurd (never refl)

out_kept : (lost : Bool) (w : PairWorld) → level_of w.out + size_next w ≤ 2048 → All Kept (out_lines lost w)
unfolding out_lines
out_kept lost w fits =
    let arrived = arrival_of most_frames lost (size_next w) w.out in
    All-append Kept (if_said (nat_le 2 w.detail) (says_out 1 (size_next w) arrived ∷ [])) (over_lines arrived)
    (if_kept (nat_le 2 w.detail) (says_out 1 (size_next w) arrived ∷ []) (one (says_out 1 (size_next w) arrived) (quiet_out 1 (size_next w) arrived)))
    (over_kept arrived (packet_fits most_frames lost (size_next w) w.out fits))

in_kept : (lost : Bool) (w : PairWorld) → All Kept (in_lines lost w)
unfolding in_lines
in_kept lost w =
    All-append Kept (if_said (nat_le 2 w.detail) (says_in 2 (length w.waiting) lost ∷ [])) (if_said (nat_le 1 w.detail && not lost) (map (says_frame 2) w.waiting))
    (if_kept (nat_le 2 w.detail) (says_in 2 (length w.waiting) lost ∷ []) (one (says_in 2 (length w.waiting) lost) (quiet_in 2 (length w.waiting) lost)))
    (if_kept (nat_le 1 w.detail && not lost) (map (says_frame 2) w.waiting) (All-map Kept (says_frame 2) w.waiting (λ k d below. quiet_frame 2 _)))

tick_kept : (w : PairWorld) → is_dry w.out ≡ false → All Kept (tick_lines w)
unfolding tick_lines
tick_kept w wet =
    All-append Kept (if_said (is_dry w.out) (says_under 1 ∷ [])) (if_said (nat_le 1 w.detail) (says_played 1 (played_in w.out) ∷ []))
    (wet_kept (is_dry w.out) wet)
    (if_kept (nat_le 1 w.detail) (says_played 1 (played_in w.out) ∷ []) (one (says_played 1 (played_in w.out)) (quiet_played 1 (played_in w.out))))

primed_kept : (count : ℕ) (w : PairWorld) (target : ℕ) → w.out.target ≡ Some target → w.out.played + count ≤ length w.out.arrived
    → All Kept (ticks_lines count w)
unfolding lines_times tick
primed_kept zero w target is enough = All-nil Kept
primed_kept (suc count) w target is enough =
    let t = primed_tick w.out target is (omega arith) in
    let m = t.moved in
    All-append Kept (tick_lines w) (ticks_lines count (tick w)) (tick_kept w t.wet)
    (primed_kept count (tick w) target (m.target ∙ is) (omega (arith, m.arrived, m.played)))

priming_kept : (count : ℕ) (w : PairWorld) → w.out.target ≡ None → All Kept (ticks_lines count w)
unfolding lines_times tick
priming_kept zero w is = All-nil Kept
priming_kept (suc count) w is =
    let t = priming_tick w.out is in
    All-append Kept (tick_lines w) (ticks_lines count (tick w)) (tick_kept w t.wet) (priming_kept count (tick w) (t.moved.target ∙ is))

ticks_kept : (losses : Losses) (w : PairWorld) (o : Option ℕ) → w.out.target ≡ o → Good w → HasEnough w → All Kept (ticks_lines (ticks_next w) (at_ticks losses w))
ticks_kept losses w None is good has =
    let sent = sent_moves losses w has.fits in
    priming_kept (ticks_next w) (at_ticks losses w) (sent.target ∙ is)
ticks_kept losses w (Some target) is good has =
    let sent = sent_moves losses w has.fits in
    let holds = has.holds target is in
    let below = good.follows.below in
    primed_kept (ticks_next w) (at_ticks losses w) target (sent.target ∙ is) (omega (arith, sent.arrived, sent.played))

microframe_kept : (losses : Losses) (w : PairWorld) → Good w → FewStray w → FewStray (microframe losses w) → All Kept (microframe_lines losses w)
unfolding microframe_lines packet_lines
microframe_kept losses w good few fewer =
    let has = good_enough w good few in
    let next = microframe losses w in
    let near = good_near next (turn_good losses w few good) in
    let rest = ticks_lines (ticks_next w) (at_ticks losses w) ++ level_lines next in
    let packets = out_lines losses.loses_out w ++ in_lines losses.loses_in (sent_out losses.loses_out w) in
    All-append Kept (numbered_lines w) (packets ++ rest)
    (if_kept (nat_le 2 w.detail) (says_microframe (at_most_u64 (suc w.time)) ∷ []) (one (says_microframe (at_most_u64 (suc w.time))) (quiet_microframe (at_most_u64 (suc w.time)))))
    (All-append Kept packets rest
    (All-append Kept (out_lines losses.loses_out w) (in_lines losses.loses_in (sent_out losses.loses_out w)) (out_kept losses.loses_out w has.fits)
    (in_kept losses.loses_in (sent_out losses.loses_out w)))
    (All-append Kept (ticks_lines (ticks_next w) (at_ticks losses w)) (level_lines next) (ticks_kept losses w w.out.target refl good has)
    (if_kept (nat_le 2 next.detail) (says_level 1 (level_of next.out) next.out.target ∷ [])
    (one (says_level 1 (level_of next.out) next.out.target) (kept_level (level_of next.out) next.out.target (told_near next.out.target next fewer near.near))))))

-- so many microframes, and the pair after them
record RunKept (losses : Losses) (count : ℕ) (w : PairWorld) : Type 0 where
  pub lines : All Kept (microframes_lines losses count w)
  pub good : Good (microframes losses count w)
  pub few : FewStray (microframes losses count w)

run_kept : (losses : Losses) (count : ℕ) (w : PairWorld) (rest : List PairWorld) → Good w → FewStray w → AllByRecursion FewStray (moments_of losses count w ++ rest)
    → RunKept losses count w × AllByRecursion FewStray rest
unfolding moments_of times lines_times
run_kept losses zero w rest good few all = (record { lines = All-nil Kept; good = good; few = few }, all)
run_kept losses (suc count) w rest good few all =
    let next = run_kept losses count (microframe losses w) rest (turn_good losses w few good) all.0 all.1 in (
      record {
        lines = All-append Kept (microframe_lines losses w) (microframes_lines losses count (microframe losses w)) (microframe_kept losses w good few all.0) next.0.lines;
        good = next.0.good;
        few = next.0.few;
      },
      next.1,
    )

-- a line that may be refused
silent_kept : (b : Bool) (w next : PairWorld) (go : PairWorld → List PairWorld) (then : PairWorld → PairAfter)
    → (AllByRecursion FewStray (go next) → All IsKeptLine (then next).lines)
    → AllByRecursion FewStray (and_then_moments (pair_unless b 6 (pair_silently next)) [] go)
    → All IsKeptLine (pair_and_then (pair_unless b 6 (pair_silently next)) w then).lines
silent_kept true w next go then kept few = kept few
silent_kept false w next go then kept few = All-nil IsKeptLine

ran_kept : (b : Bool) (losses : Losses) (count : ℕ) (w : PairWorld) (go : PairWorld → List PairWorld) (then : PairWorld → PairAfter) → Good w → FewStray w
    → ((v : PairWorld) → Good v → FewStray v → AllByRecursion FewStray (go v) → All IsKeptLine (then v).lines)
    → AllByRecursion FewStray (and_then_moments (pair_unless b 6 (pair_microframes losses count w)) (moments_of losses count w) go)
    → All IsKeptLine (pair_and_then (pair_unless b 6 (pair_microframes losses count w)) w then).lines
ran_kept true losses count w go then good few kept all =
    let run = run_kept losses count w (go (microframes losses count w)) good few all in
    All-append IsKeptLine (map printed (microframes_lines losses count w)) (then (microframes losses count w)).lines
    (All-map IsKeptLine printed (microframes_lines losses count w) run.0.lines) (kept (microframes losses count w) run.0.good run.0.few run.1)
ran_kept false losses count w go then good few kept all = All-nil IsKeptLine

report_kept : (w : PairWorld) → Good w → FewStray w → All IsKeptLine (pair_report w)
unfolding pair_report
report_kept w good few =
    let time = says_time (at_most_u64 w.time) in
    let domain = says_domain 1 (Some w.rate) (at_most_u64 (sum w.steps / 65536)) in
    let out = says_pair_out (level_of w.out) w.out.target w.out.met in
    All-cons IsKeptLine (printed time) (printed domain ∷ out ∷ says_pair_in w.in_lost ∷ []) (quiet_time (at_most_u64 w.time))
    (All-cons IsKeptLine (printed domain) (out ∷ says_pair_in w.in_lost ∷ []) (quiet_domain 1 (Some w.rate) (at_most_u64 (sum w.steps / 65536)))
    (All-cons IsKeptLine out (says_pair_in w.in_lost ∷ []) (kept_pair_out w few (good_near w good))
    (All-cons IsKeptLine (says_pair_in w.in_lost) [] (quiet_pair_in w.in_lost) (All-nil IsKeptLine))))

lines_kept : (saids : List (Result Phrase ℕ)) (w : PairWorld) → Good w → FewStray w → AllByRecursion SaysSlight saids → AllByRecursion FewStray (moments_after saids w)
    → All IsKeptLine (pair_after saids w).lines
unfolding moments_after pair_after
lines_kept [] w good few slight all = All-nil IsKeptLine
lines_kept (Err rule ∷ saids) w good few slight all = All-nil IsKeptLine
lines_kept (Ok nothing_line ∷ saids) w good few slight all = lines_kept saids w good few slight.1 all
lines_kept (Ok (bytes_line bytes) ∷ saids) w good few slight all = All-nil IsKeptLine
lines_kept (Ok go_line ∷ saids) w good few slight all = All-nil IsKeptLine
lines_kept (Ok (control_line setup sent) ∷ saids) w good few slight all = All-nil IsKeptLine
lines_kept (Ok (get_line name) ∷ saids) w good few slight all = All-nil IsKeptLine
lines_kept (Ok (set_line name value) ∷ saids) w good few slight all = All-nil IsKeptLine
lines_kept (Ok (show_line name) ∷ saids) w good few slight all = All-nil IsKeptLine
lines_kept (Ok (break_line after) ∷ saids) w good few slight all = All-nil IsKeptLine
lines_kept (Ok (append_line interface samples) ∷ saids) w good few slight all = All-nil IsKeptLine
lines_kept (Ok (track_line interface tone) ∷ saids) w good few slight all = All-nil IsKeptLine
lines_kept (Ok (jack_line terminal tone) ∷ saids) w good few slight all = All-nil IsKeptLine
lines_kept (Ok (deviate_line domain ppm) ∷ saids) w good few slight all =
    silent_kept (is_at domain 1) w (record w { deviation = ppm }) (moments_after saids) (pair_after saids)
    (lines_kept saids (record w { deviation = ppm }) (set_good w ppm w.detail slight.0 good) few slight.1) all
lines_kept (Ok (microframes_line count marks) ∷ saids) w good few slight all =
    ran_kept _ (losses_of marks) (natural count) w (moments_after saids) (pair_after saids) good few (λ v g f. lines_kept saids v g f slight.1) all
lines_kept (Ok (detail_line level) ∷ saids) w good few slight all =
    lines_kept saids (record w { detail = natural level }) (set_good w w.deviation (natural level) good.slight good) few slight.1 all
lines_kept (Ok report_line ∷ saids) w good few slight all =
    All-append IsKeptLine (pair_report w) (pair_after saids w).lines (report_kept w good few) (lines_kept saids w good few slight.1 all)

-- ---- the laws

pub stays_near : (rate : ℕ) (saids : List (Result Phrase ℕ)) → nominal_of rate ≡ Some (values_of rate) → StaysBetweenWholes (values_of rate)
    → All SaysSlight saids → StaysNear (moments_after saids (pair_start rate))
stays_near rate saids listed room slight =
    lines_near saids (pair_start rate) (start_good rate listed room) (start_few rate) (recursion_from_All SaysSlight saids slight)

pub promised : (rate : ℕ) (saids : List (Result Phrase ℕ)) → nominal_of rate ≡ Some (values_of rate) → StaysBetweenWholes (values_of rate)
    → All SaysSlight saids → All FewStray (moments_after saids (pair_start rate)) → IsPromisedPair rate saids
promised rate saids listed room slight few =
    let moments = moments_after saids (pair_start rate) in
    let fewer = recursion_from_All FewStray moments few in
    record {
      near = All-from_recursion IsNearPair moments (all_near moments (stays_near rate saids listed room slight) fewer);
      kept = lines_kept saids (pair_start rate) (start_good rate listed room) (start_few rate) (recursion_from_All SaysSlight saids slight) fewer;
    }
