-- Microframes of a device of one domain that runs no stream, at any detail: what they say is what their ticks played, and these may come
-- after all of them.
use Rattle.std.proofs.Common.{◌≡◌, ◌∙◌, sym, ap, arith, subst, refl, ℕ, zero, suc, ◌+◌, ◌-◌, ◌<◌, ◌≤◌, nat_le, if◌then◌else◌, List, [], ◌∷◌, ◌++◌, length, take, drop, get_or, Option, Result, append_assoc}
use Rattle.std.specs.List.{sum}
use Rattle.std.proofs.Math.ListN.{set}
use Rattle.std.proofs.lemmas.Grind.{take-set_at}
use Rattle.std.proofs.lemmas.List.{append-nil, drop_all, drop_more}
use Rattle.std.proofs.lemmas.List.Sums.{sum_by-cons, sum_by_push}
use Rattle.uac_units.specs.Hearing.{Reading, at_most_u64}
use Rattle.uac_script.specs.Phrase.{PhraseMark}
use Rattle.uac_device.specs.InterfaceStreams.{NoneRuns}
use Rattle.uac_device.specs.DeviceWorld.{DeviceWorld, Domain, after_advance, next_ticks}
use Rattle.uac_device.specs.DeviceKept as device
use Rattle.uac_device.specs.DeviceSums.{after_advances, kept_ticks, ticks_over}
use Rattle.uac_device.specs.DeviceTicks.{after_tones}
use Rattle.uac_device.specs.Following.{nominal_at}
use Rattle.uac_device.proofs.DeviceSumsLemmas.{ticks_same}
use Rattle.uac_transcript.specs.Transcript.{Said}
use Rattle.std.specs.Io.KnownBytes.{Appends}
use Rattle.uac_edges.specs.Writing.{AppendsFront}
use Rattle.uac_transcript.specs.Printing.{Prints, text_of}
use Rattle.uac_transcript.proofs.PrintingLemmas.{Appends-lines, front_after, front_of_more}
use Rattle.uac_streaming.specs.Telling.{Telling, telling_after}
use Rattle.uac_running.specs.RunningWorld.{RunningWorld}
use Rattle.uac_running.specs.ReportLines.{played_lines}
use Rattle.uac_running.specs.Events.{microframe, microframes, number_said, tick_times}
use Rattle.uac_running.specs.EventTicks.{device_after, device_before, lines_after, lines_at, running_after, shown_from}
use Rattle.uac_running.specs.Quiet.{IsIdle, gone_by, gone_on, said_of_each, ticks_of_each}
use Rattle.uac_running.specs.RunningKept.{RunningFields, RunningStands, RunningTells}
use Rattle.uac_running.proofs.EventTicksLemmas.{ticks_by_parts}
use Rattle.uac_running.proofs.QuietLemmas.{clocked, detail_kept, gone_clocked, gone_waits, idle_gone_on, idle_microframe, idle_ticked, more_wait, next_kept, none_found, ticked, ticked_clocked, ticked_kept, ticks_join, time_kept, with_clocks, world_ticked}
use Rattle.uac_running.proofs.TellingLemmas.{Appends-nothing, at_ok, telling_after-telling_after}

-- ---- what ticks say that come after others

device_ticked : (n domain : ℕ) (r : RunningWorld) → device_after domain n r ≡ (ticked n domain r).device
unfolding running_after
device_ticked n domain r = ap (λ (v : RunningWorld). v.device) (world_ticked n domain r)

-- none of them finds a stream
no_stream : (n domain : ℕ) (r : RunningWorld) → IsIdle domain r → NoneRuns (device_before domain n r).outs (device_before domain n r).ins
unfolding after_tones
no_stream n domain r q = subst (λ (w : DeviceWorld). NoneRuns w.outs w.ins) (sym (device_ticked n domain r)) (idle_ticked n domain r q).none

device_later : (from t domain : ℕ) (r : RunningWorld) → device_after domain (suc t) (ticked from domain r) ≡ device_after domain (suc (from + t)) r
device_later from t domain r =
    let same : from + suc t ≡ suc (from + t) = omega arith in
    device_ticked (suc t) domain (ticked from domain r)
    ∙ ap (λ (v : RunningWorld). v.device) (ticks_join from (suc t) domain r)
    ∙ ap (λ (k : ℕ). (ticked k domain r).device) same
    ∙ sym (device_ticked (suc (from + t)) domain r)

lines_later : (t from domain : ℕ) (r : RunningWorld) → IsIdle domain r → lines_after domain t (ticked from domain r) ≡ shown_from domain from t r
unfolding lines_after lines_at shown_from
lines_later zero from domain r q = refl
lines_later (suc t) from domain r q =
    let after : RunningWorld = ticked from domain r in
    let shown : List Said = shown_from domain from t r in
    let played : ℕ → DeviceWorld → List Said = λ detail w. if nat_le 1 detail then played_lines domain w else [] in
    ap (λ (lines : List Said). lines ++ lines_at domain t after) (lines_later t from domain r q)
    ∙ ap (λ (found : List Said). shown ++ (found ++ played after.detail (device_after domain (suc t) after)))
    (none_found domain (device_before domain t after) (no_stream t domain after (idle_ticked from domain r q)))
    ∙ ap (λ (detail : ℕ). shown ++ played detail (device_after domain (suc t) after))
    (ticked_kept (λ (v : RunningWorld). v.detail) domain (detail_kept domain) from r)
    ∙ ap (λ (w : DeviceWorld). shown ++ played r.detail w) (device_later from t domain r)

ticks_shown : (t from domain : ℕ) (r : RunningWorld) → IsIdle domain r → (tick_times t domain (ticked from domain r)).lines ≡ shown_from domain from t r
ticks_shown t from domain r q =
    ap (λ (told : Telling RunningWorld). told.lines) (ticks_by_parts t domain (ticked from domain r)) ∙ lines_later t from domain r q

-- ---- they don't depend on the clocks, nor on the time

device_clocked : (n domain time : ℕ) (ds : List Domain) (r : RunningWorld) → device_after domain n (with_clocks time ds r) ≡ clocked ds (device_after domain n r)
device_clocked n domain time ds r =
    device_ticked n domain (with_clocks time ds r)
    ∙ ap (λ (v : RunningWorld). v.device) (ticked_clocked n domain time ds r)
    ∙ ap (clocked ds) (sym (device_ticked n domain r))

shown_clocked : (t from domain time : ℕ) (ds : List Domain) (r : RunningWorld) → shown_from domain from t (with_clocks time ds r) ≡ shown_from domain from t r
unfolding shown_from played_lines
shown_clocked zero from domain time ds r = refl
shown_clocked (suc t) from domain time ds r =
    ap
    (λ (lines : List Said). lines ++ (if nat_le 1 r.detail then played_lines domain (device_after domain (suc (from + t)) (with_clocks time ds r)) else []))
    (shown_clocked t from domain time ds r)
    ∙ ap (λ (w : DeviceWorld). shown_from domain from t r ++ (if nat_le 1 r.detail then played_lines domain w else []))
    (device_clocked (suc (from + t)) domain time ds r)

said_clocked : (ts : List ℕ) (now from domain time : ℕ) (ds : List Domain) (r : RunningWorld)
    → said_of_each domain ts now from (with_clocks time ds r) ≡ said_of_each domain ts now from r
unfolding said_of_each
said_clocked [] now from domain time ds r = refl
said_clocked (t ∷ ts) now from domain time ds r =
    let next : ℕ = at_most_u64 (now + 1) in
    ap (λ (shown : List Said). number_said r.detail next ++ shown ++ said_of_each domain ts next (from + t) (with_clocks time ds r))
    (shown_clocked t from domain time ds r)
    ∙ ap (λ (rest : List Said). number_said r.detail next ++ shown_from domain from t r ++ rest) (said_clocked ts next (from + t) domain time ds r)

gone_shown : (t from domain : ℕ) (r : RunningWorld) → IsIdle domain r → shown_from domain from t (gone_on domain r) ≡ shown_from domain from t r
gone_shown t from domain r q =
    ap (shown_from domain from t) (gone_clocked domain r q) ∙ shown_clocked t from domain _ _ r

gone_said : (ts : List ℕ) (now from domain : ℕ) (r : RunningWorld) → IsIdle domain r → said_of_each domain ts now from (gone_on domain r) ≡ said_of_each domain ts now from r
gone_said ts now from domain r q = ap (said_of_each domain ts now from) (gone_clocked domain r q) ∙ said_clocked ts now from domain _ _ r

by_said : (n : ℕ) (ts : List ℕ) (now from domain : ℕ) (r : RunningWorld) → IsIdle domain r
    → said_of_each domain ts now from (gone_by domain n r) ≡ said_of_each domain ts now from r
unfolding gone_by
by_said zero ts now from domain r q = refl
by_said (suc n) ts now from domain r q = by_said n ts now from domain (gone_on domain r) (idle_gone_on domain r q) ∙ gone_said ts now from domain r q

pub idle_gone_by : (n domain : ℕ) (r : RunningWorld) → IsIdle domain r → IsIdle domain (gone_by domain n r)
unfolding gone_by
idle_gone_by zero domain r q = q
idle_gone_by (suc n) domain r q = idle_gone_by n domain (gone_on domain r) (idle_gone_on domain r q)

-- ---- what microframes say whose ticks come after others

one_said : (marks : List PhraseMark) (from domain : ℕ) (r : RunningWorld) → IsIdle domain r
    → (microframe marks (ticked from domain r)).lines ≡ number_said r.detail (at_most_u64 (r.time + 1)) ++ shown_from domain from (next_ticks domain r.device) r
one_said marks from domain r q =
    let after : RunningWorld = ticked from domain r in
    let ticks : ℕ = next_ticks domain r.device in
    let said : List Said = number_said r.detail (at_most_u64 (r.time + 1)) in
    let played : ℕ → RunningWorld → List Said = λ n v. (tick_times n domain v).lines in
    ap (λ (told : Telling RunningWorld). told.lines) (idle_microframe marks domain after (idle_ticked from domain r q))
    ∙ ap (λ (detail : ℕ). number_said detail (at_most_u64 (after.time + 1)) ++ played (next_ticks domain after.device) (gone_on domain after))
    (ticked_kept (λ (v : RunningWorld). v.detail) domain (detail_kept domain) from r)
    ∙ ap (λ (time : ℕ). number_said r.detail (at_most_u64 (time + 1)) ++ played (next_ticks domain after.device) (gone_on domain after))
    (ticked_kept (λ (v : RunningWorld). v.time) domain (time_kept domain) from r)
    ∙ ap (λ (n : ℕ). said ++ played n (gone_on domain after)) (ticked_kept (λ (v : RunningWorld). next_ticks domain v.device) domain (next_kept domain) from r)
    ∙ ap (λ (v : RunningWorld). said ++ played ticks v) (gone_waits from domain r q)
    ∙ ap (λ (lines : List Said). said ++ lines)
    (ticks_shown ticks from domain (gone_on domain r) (idle_gone_on domain r q) ∙ gone_shown ticks from domain r q)

each_said : (marks : List PhraseMark) (n from domain : ℕ) (r : RunningWorld) → IsIdle domain r
    → (microframes marks n (ticked from domain r)).lines ≡ said_of_each domain (ticks_of_each domain n r) r.time from r
unfolding microframes ticks_of_each said_of_each
each_said marks zero from domain r q = refl
each_said marks (suc n) from domain r q =
    let after : RunningWorld = ticked from domain r in
    let ticks : ℕ = next_ticks domain r.device in
    let later : RunningWorld = gone_on domain r in
    let one : List Said = number_said r.detail later.time ++ shown_from domain from ticks r in
    ap (λ (lines : List Said). lines ++ (microframes marks n (microframe marks after).world).lines) (one_said marks from domain r q)
    ∙ ap (λ (v : RunningWorld). one ++ (microframes marks n v).lines) (more_wait marks from domain r q)
    ∙ ap (λ (lines : List Said). one ++ lines)
    (each_said marks n (from + ticks) domain later (idle_gone_on domain r q)
    ∙ gone_said (ticks_of_each domain n later) later.time (from + ticks) domain r q)

-- and the world after them
each_done : (marks : List PhraseMark) (n from domain : ℕ) (r : RunningWorld) → IsIdle domain r
    → (microframes marks n (ticked from domain r)).world ≡ ticked (from + sum (ticks_of_each domain n r)) domain (gone_by domain n r)
unfolding microframes ticks_of_each gone_by
each_done marks zero from domain r q =
    let same : from ≡ from + 0 = omega arith in
    ap (λ (k : ℕ). ticked k domain r) same
each_done marks (suc n) from domain r q =
    let ticks : ℕ = next_ticks domain r.device in
    let later : RunningWorld = gone_on domain r in
    let rest : List ℕ = ticks_of_each domain n later in
    let same : from + ticks + sum rest ≡ from + sum (ticks ∷ rest) = omega (arith, sum_by-cons (λ (t : ℕ). t) ticks rest) in
    ap (λ (v : RunningWorld). (microframes marks n v).world) (more_wait marks from domain r q)
    ∙ each_done marks n (from + ticks) domain later (idle_gone_on domain r q)
    ∙ ap (λ (k : ℕ). ticked k domain (gone_by domain n later)) same

-- so many microframes went on, their ticks were done, and what they say is printed
pub idle_told : {E : Type 0} (marks : List PhraseMark) (n domain waiting now : ℕ) (ts : List ℕ) (r : RunningWorld) (p : RunningFields) (shown : List Reading)
    (old new : Option (List ℕ)) (result : Result (Unit {0}) E) → IsIdle domain r → ts ≡ ticks_of_each domain n r → waiting ≡ sum ts → now ≡ r.time
    → Prints old new result (said_of_each domain ts now 0 (gone_by domain n r)) → RunningStands p shown (running_after domain waiting (gone_by domain n r))
    → RunningTells (microframes marks n r) p shown old new result
unfolding tick_times
idle_told marks n domain waiting now ts r p shown old new result q each all same printed stands =
    let gone : RunningWorld = gone_by domain n r in
    let lines : said_of_each domain ts now 0 gone ≡ (microframes marks n r).lines =
    by_said n ts now 0 domain r q
    ∙ ap (λ (time : ℕ). said_of_each domain ts time 0 r) same
    ∙ ap (λ (xs : List ℕ). said_of_each domain xs r.time 0 r) each
    ∙ sym (each_said marks n 0 domain r q) in
    let number : waiting ≡ 0 + sum (ticks_of_each domain n r) = (let e = ap sum each in omega (arith, e, all)) in
    let world : running_after domain waiting gone ≡ (microframes marks n r).world =
    world_ticked waiting domain gone ∙ ap (λ (k : ℕ). ticked k domain gone) number ∙ sym (each_done marks n 0 domain r q) in (
      subst (λ (ls : List Said). Prints old new result ls) lines printed,
      at_ok (RunningStands p shown (microframes marks n r).world) result (subst (RunningStands p shown) world stands),
    )

-- ---- microframe by microframe

-- one more at the end of those that were
gone_more : (n domain : ℕ) (r : RunningWorld) → gone_by domain (suc n) r ≡ gone_on domain (gone_by domain n r)
unfolding gone_by
gone_more zero domain r = refl
gone_more (suc n) domain r = gone_more n domain (gone_on domain r)

each_more : (n domain : ℕ) (r : RunningWorld) → ticks_of_each domain (suc n) r ≡ ticks_of_each domain n r ++ next_ticks domain (gone_by domain n r).device ∷ []
unfolding ticks_of_each gone_by
each_more zero domain r = refl
each_more (suc n) domain r = ap (λ (ts : List ℕ). next_ticks domain r.device ∷ ts) (each_more n domain (gone_on domain r))

device_gone : (n domain : ℕ) (r : RunningWorld) → (gone_by domain n r).device ≡ after_advances domain n r.device
unfolding gone_by after_advances
device_gone zero domain r = refl
device_gone (suc n) domain r = ap (λ (v : RunningWorld). v.device) (gone_more n domain r) ∙ ap (after_advance domain) (device_gone n domain r)

-- all of them are the ticks over so many microframes
sum_over : (n domain : ℕ) (r : RunningWorld) → sum (ticks_of_each domain n r) ≡ ticks_over domain n r.device
unfolding ticks_over ticks_of_each
sum_over zero domain r = refl
sum_over (suc n) domain r =
    let next : ℕ = next_ticks domain (gone_by domain n r).device in
    ap sum (each_more n domain r)
    ∙ sum_by_push (λ (t : ℕ). t) (ticks_of_each domain n r) next
    ∙ ap (λ (k : ℕ). k + next) (sum_over n domain r)
    ∙ ap (λ (w : DeviceWorld). ticks_over domain n r.device + next_ticks domain w) (device_gone n domain r)

pub sum_kept : (n domain : ℕ) (p : RunningFields) (shown : List Reading) (r : RunningWorld) → RunningStands p shown r
    → sum (ticks_of_each domain n r) ≡ kept_ticks p.device domain n
sum_kept n domain p shown r stands =
    sum_over n domain r
    ∙ sym (ticks_same p.device domain (nominal_at p.device.function.entities p.device.controls domain) n r.device refl stands.streaming.device)

-- with one more, of as many numbers the first are known
pub ticks_more : (domain n ticks : ℕ) (before after : List ℕ) (r : RunningWorld) → take n before ≡ ticks_of_each domain n r → n < length before
    → ticks ≡ next_ticks domain (gone_by domain n r).device → after ≡ set before n ticks → take (n + 1) after ≡ ticks_of_each domain (n + 1) r
ticks_more domain n ticks before after r first below next is =
    ap (take (n + 1)) is
    ∙ take-set_at before n (n + 1) ticks refl below
    ∙ ap (λ (ts : List ℕ). ts ++ ticks ∷ []) first
    ∙ ap (λ (t : ℕ). ticks_of_each domain n r ++ t ∷ []) next
    ∙ sym (each_more n domain r)
    ∙ ap (λ (k : ℕ). ticks_of_each domain k r) (let e : suc n ≡ n + 1 = omega arith in e)

pub sum_more : (n ticks waiting : ℕ) (before after : List ℕ) → waiting ≡ sum (take n before) → n < length before → after ≡ set before n ticks
    → waiting + ticks ≡ sum (take (n + 1) after)
sum_more n ticks waiting before after first below is =
    ap (λ (k : ℕ). k + ticks) first
    ∙ sym (sum_by_push (λ (t : ℕ). t) (take n before) ticks)
    ∙ ap sum (sym (take-set_at before n (n + 1) ticks refl below))
    ∙ ap (λ (ts : List ℕ). sum (take (n + 1) ts)) (sym is)

pub gone_after : (domain n : ℕ) (p : RunningFields) (shown : List Reading) (r : RunningWorld) → RunningStands p shown (gone_on domain (gone_by domain n r))
    → RunningStands p shown (gone_by domain (n + 1) r)
gone_after domain n p shown r stands =
    let next : suc n ≡ n + 1 = omega arith in
    subst (λ (k : ℕ). RunningStands p shown (gone_by domain k r)) next (subst (RunningStands p shown) (sym (gone_more n domain r)) stands)

pub gone_none : (domain : ℕ) (p : RunningFields) (shown : List Reading) (r : RunningWorld) → RunningStands p shown r → RunningStands p shown (gone_by domain 0 r)
unfolding gone_by
gone_none domain p shown r stands = stands

pub none_each : (domain : ℕ) (ts : List ℕ) (r : RunningWorld) → take 0 ts ≡ ticks_of_each domain 0 r
unfolding ticks_of_each
none_each domain ts r = refl

-- ---- what is printed of them

-- so much of some lines was printed, and these are left
pub record SaidSoFar (whole rest : List Said) (old new : Option (List ℕ)) : Type 0 where
  pub lines : List Said
  pub written : Appends old new (text_of lines)
  pub left : lines ++ rest ≡ whole

-- what the next one says comes first
said_next : (domain t time at : ℕ) (ts : List ℕ) (from : ℕ) (r : RunningWorld) → at < length ts → t ≡ get_or ts at 0
    → said_of_each domain (drop at ts) time from r
    ≡ number_said r.detail (at_most_u64 (time + 1)) ++ shown_from domain from t r
    ++ said_of_each domain (drop (at + 1) ts) (at_most_u64 (time + 1)) (from + t) r
unfolding said_of_each
said_next domain t time at ts from r below is =
    ap (λ (xs : List ℕ). said_of_each domain xs time from r) (drop_more ts at 0 below)
    ∙ ap (λ (k : ℕ). said_of_each domain (k ∷ drop (at + 1) ts) time from r) (sym is)

module _ (domain t time at from : ℕ) (ts : List ℕ) (r : RunningWorld) (old mid new : Option (List ℕ)) (below : at < length ts) (is : t ≡ get_or ts at 0) (whole : List Said)
    (so_far : SaidSoFar whole (said_of_each domain (drop at ts) time from r) old mid) where
  abbrev one : List Said
  one = number_said r.detail (at_most_u64 (time + 1)) ++ shown_from domain from t r

  abbrev others : List Said
  others = said_of_each domain (drop (at + 1) ts) (at_most_u64 (time + 1)) (from + t) r

  split : (so_far.lines ++ one) ++ others ≡ whole
  split =
      append_assoc so_far.lines one others
      ∙ ap (λ (lines : List Said). so_far.lines ++ lines) (sym (said_next domain t time at ts from r below is))
      ∙ so_far.left

  pub said_more : Appends mid new (text_of one) → SaidSoFar whole others old new
  said_more written = record {
    lines = so_far.lines ++ one;
    written = Appends-lines old mid new so_far.lines one so_far.written written;
    left = split;
  }

  pub said_stopped : AppendsFront mid new (text_of one) → AppendsFront old new (text_of whole)
  said_stopped front =
      subst (λ (lines : List Said). AppendsFront old new (text_of lines)) split
      (front_of_more old new (so_far.lines ++ one) others (front_after old mid new so_far.lines one so_far.written front))

pub said_begun : (whole : List Said) (old : Option (List ℕ)) → SaidSoFar whole whole old old
said_begun whole old = record { lines = []; written = Appends-nothing old; left = refl }

pub said_whole : (domain time at from : ℕ) (ts : List ℕ) (r : RunningWorld) (old new : Option (List ℕ)) (whole : List Said) → length ts ≤ at
    → SaidSoFar whole (said_of_each domain (drop at ts) time from r) old new → Appends old new (text_of whole)
unfolding said_of_each
said_whole domain time at from ts r old new whole past so_far =
    subst (λ (lines : List Said). Appends old new (text_of lines))
    (sym (append-nil so_far.lines)
    ∙ ap (λ (xs : List ℕ). so_far.lines ++ said_of_each domain xs time from r) (sym (drop_all at ts past))
    ∙ so_far.left)
    so_far.written

-- of their ticks so many are left
pub sum_left : (at from t all : ℕ) (ts : List ℕ) → from + sum (drop at ts) ≡ all → at < length ts → t ≡ get_or ts at 0
    → from + t + sum (drop (at + 1) ts) ≡ all
sum_left at from t all ts left below is =
    let next : sum (drop at ts) ≡ t + sum (drop (at + 1) ts) =
    ap sum (drop_more ts at 0 below) ∙ ap (λ (k : ℕ). sum (k ∷ drop (at + 1) ts)) (sym is) ∙ sum_by-cons (λ (k : ℕ). k) t (drop (at + 1) ts) in
    omega (arith, next, left)

-- ---- several at once, and then several more

abbrev pub StandsIdle : ℕ → RunningFields → List Reading → RunningWorld → Type 0
StandsIdle domain p shown r = RunningStands p shown r × IsIdle domain r

microframes_parts : (marks : List PhraseMark) (n k : ℕ) (r : RunningWorld)
    → microframes marks (n + k) r ≡ telling_after (microframes marks n r).lines (microframes marks k (microframes marks n r).world)
unfolding microframes
microframes_parts marks zero k r =
    let same : 0 + k ≡ k = omega arith in
    ap (λ (j : ℕ). microframes marks j r) same
microframes_parts marks (suc n) k r =
    let same : suc n + k ≡ suc (n + k) = omega arith in
    let next : RunningWorld = (microframe marks r).world in
    ap (λ (j : ℕ). microframes marks j r) same
    ∙ ap (telling_after (microframe marks r).lines) (microframes_parts marks n k next)
    ∙ telling_after-telling_after (microframe marks r).lines (microframes marks n next).lines (microframes marks k (microframes marks n next).world)

pub some_split : (marks : List PhraseMark) (count passed some : ℕ) (r : RunningWorld) → passed + some ≤ count
    → microframes marks (count - passed) r
    ≡ telling_after (microframes marks some r).lines (microframes marks (count - (passed + some)) (microframes marks some r).world)
some_split marks count passed some r within =
    let same : count - passed ≡ some + (count - (passed + some)) = omega (arith, within) in
    ap (λ (j : ℕ). microframes marks j r) same ∙ microframes_parts marks some (count - (passed + some)) r
