-- The lines that are seen are those that are printed.
use Rattle.std.proofs.Common.{◌≡◌, ◌∙◌, refl, sym, ap, subst, append_assoc, Result, ℕ, zero, suc, List, [], ◌∷◌, ◌++◌, map, Option, None, Some, Ok, Err}
use Rattle.std.proofs.lemmas.List.{append-nil, map-append}
use Rattle.uac_script.specs.Phrase.{PhraseMark, Phrase, microframes_line}
use Rattle.uac_units.specs.Hearing.{Reading}
use Rattle.uac_transcript.specs.Transcript.{Said}
use Rattle.uac_running.specs.RunningWorld.{RunningWorld}
use Rattle.uac_running.specs.RunningNames.{natural_of_int}
use Rattle.uac_running.specs.Events.{microframe, microframes}
use Rattle.uac_rows.specs.BusWorld.{Step, BusWorld, describing, done, refused, running, step, step_describing, step_running}
use Rattle.uac_rows.specs.After.{after, and_then}
use Rattle.uac_levels.specs.Past.{Pasts, pasts_after}
use Rattle.uac_promises.proofs.ScriptsEarlierLemmas.{gone_on, unless_is}
use Rattle.uac_promises.specs.Watches.{Microframes, Watch, and_then_watches, line_watches, microframes_of, microframe_watches, watches_after, watch_in}
use Rattle.uac_promises.specs.Promises.{LinesAreSeen}

abbrev pub said_in : Watch → Said
said_in watch = watch.said

-- ---- lists of lines

each_seen : (w : BusWorld) (pasts : Pasts) (lines : List Said) → map said_in (map (watch_in w pasts) lines) ≡ lines
each_seen w pasts [] = refl
each_seen w pasts (said ∷ lines) = ap (λ (rest : List Said). said ∷ rest) (each_seen w pasts lines)

both_seen : (front back : List Watch) (xs ys : List Said) → map said_in front ≡ xs → map said_in back ≡ ys
    → map said_in (front ++ back) ≡ xs ++ ys
both_seen front back xs ys e f = rw map-append (cc)

-- ---- one line

microframes_are_seen : (marks : List PhraseMark) (count : ℕ) (r : RunningWorld) (pasts : Pasts)
    → map said_in (microframe_watches marks count r pasts).lines ≡ (microframes marks count r).lines
unfolding microframe_watches microframes
microframes_are_seen marks zero r pasts = refl
microframes_are_seen marks (suc count) r pasts =
    let next : RunningWorld = (microframe marks r).world in
    let later : Pasts = pasts_after marks r pasts in
    both_seen (map (watch_in (running next) later) (microframe marks r).lines) (microframe_watches marks count next later).lines _ _
    (each_seen (running next) later (microframe marks r).lines) (microframes_are_seen marks count next later)

-- what is seen of a line that was done is what it printed
abbrev pub IsSeen : Option Microframes → BusWorld → Pasts → Step → Type 0
IsSeen m w pasts (done next lines) = map said_in (line_watches m w next lines pasts).lines ≡ lines
IsSeen m w pasts (refused fault) = Unit {0}

whole_line : (w : BusWorld) (pasts : Pasts) (s : Step) → IsSeen None w pasts s
unfolding line_watches
whole_line w pasts (done next lines) = each_seen next pasts lines
whole_line w pasts (refused fault) = tt

line_of_describing : (m : Option Microframes) (bytes : List ℕ) (meters : List Reading) (pasts : Pasts) (s : Step)
    → IsSeen m (describing bytes meters) pasts s
unfolding line_watches
line_of_describing None bytes meters pasts s = whole_line (describing bytes meters) pasts s
line_of_describing (Some m) bytes meters pasts (done next lines) = each_seen next pasts lines
line_of_describing (Some m) bytes meters pasts (refused fault) = tt

line_of_running : (phrase : Phrase) (r : RunningWorld) (pasts : Pasts)
    → IsSeen (microframes_of phrase) (running r) pasts (step_running r phrase)
unfolding line_watches
line_of_running (microframes_line count marks) r pasts =
    unless_is (IsSeen (microframes_of (microframes_line count marks)) (running r) pasts) (λ fault. tt) _ 6 (gone_on r count marks)
    (microframes_are_seen marks (natural_of_int count) r pasts)
line_of_running phrase r pasts = whole_line (running r) pasts (step_running r phrase)

pub line_is_seen : (phrase : Phrase) (w : BusWorld) (pasts : Pasts) → IsSeen (microframes_of phrase) w pasts (step phrase w)
unfolding step
line_is_seen phrase (describing bytes meters) pasts =
    line_of_describing (microframes_of phrase) bytes meters pasts (step_describing bytes meters phrase)
line_is_seen phrase (running r) pasts = line_of_running phrase r pasts

-- ---- lines in a row

pub lines_are_seen : LinesAreSeen
unfolding watches_after after
lines_are_seen [] w pasts = refl
lines_are_seen (Ok phrase ∷ saids) w pasts = by (step phrase w) (line_is_seen phrase w pasts) (lines_are_seen saids)
  where
    by : (s : Step) → IsSeen (microframes_of phrase) w pasts s
        → ((next : BusWorld) (later : Pasts) → map said_in (watches_after saids next later).lines ≡ (after saids next).lines)
        → map said_in (and_then_watches s (microframes_of phrase) w pasts (watches_after saids)).lines ≡ (and_then s w (after saids)).lines
    by (done next lines) first rest =
        let seen = line_watches (microframes_of phrase) w next lines pasts in
        both_seen seen.lines (watches_after saids next seen.pasts).lines lines (after saids next).lines first (rest next seen.pasts)
    by (refused fault) first rest = refl
lines_are_seen (Err rule ∷ saids) w pasts = refl

-- ---- one line more

pub watches_one_more : (saids : List (Result Phrase ℕ)) (phrase : Phrase) (w : BusWorld) (pasts : Pasts) (next : BusWorld) (lines : List Said)
    → (after saids w).refusal ≡ None → step phrase (after saids w).world ≡ done next lines
    → (watches_after (saids ++ Ok phrase ∷ []) w pasts).lines
    ≡ (watches_after saids w pasts).lines ++ (line_watches (microframes_of phrase) (after saids w).world next lines (watches_after saids w pasts).pasts).lines
unfolding watches_after after
watches_one_more [] phrase w pasts next lines whole does = by (step phrase w) does
  where
    by : (s : Step) → s ≡ done next lines
        → (and_then_watches s (microframes_of phrase) w pasts (watches_after [])).lines ≡ (line_watches (microframes_of phrase) w next lines pasts).lines
    by (done next' lines') is =
        append-nil (line_watches (microframes_of phrase) w next' lines' pasts).lines
        ∙ ap (λ (s : Step). lines_of s) is
      where
        lines_of : Step → List Watch
        lines_of (done n ls) = (line_watches (microframes_of phrase) w n ls pasts).lines
        lines_of (refused fault) = []
    by (refused fault) is = absurd (cc is)
watches_one_more (Ok first ∷ saids) phrase w pasts next lines whole does = by (step first w) whole does (watches_one_more saids phrase)
  where
    by : (s : Step) → (and_then s w (after saids)).refusal ≡ None → step phrase (and_then s w (after saids)).world ≡ done next lines
        → ((v : BusWorld) (later : Pasts) (n : BusWorld) (ls : List Said) → (after saids v).refusal ≡ None → step phrase (after saids v).world ≡ done n ls
        → (watches_after (saids ++ Ok phrase ∷ []) v later).lines
        ≡ (watches_after saids v later).lines ++ (line_watches (microframes_of phrase) (after saids v).world n ls (watches_after saids v later).pasts).lines)
        → (and_then_watches s (microframes_of first) w pasts (watches_after (saids ++ Ok phrase ∷ []))).lines
        ≡ (and_then_watches s (microframes_of first) w pasts (watches_after saids)).lines
        ++ (line_watches (microframes_of phrase) (and_then s w (after saids)).world next lines
        (and_then_watches s (microframes_of first) w pasts (watches_after saids)).pasts).lines
    by (done v printed) none is rest =
        let seen = line_watches (microframes_of first) w v printed pasts in
        ap (λ (ws : List Watch). seen.lines ++ ws) (rest v seen.pasts next lines none is)
        ∙ sym (append_assoc seen.lines (watches_after saids v seen.pasts).lines
        (line_watches (microframes_of phrase) (after saids v).world next lines (watches_after saids v seen.pasts).pasts).lines)
    by (refused fault) none is rest = absurd (cc none)
watches_one_more (Err rule ∷ saids) phrase w pasts next lines whole does = absurd (cc whole)

pub line_is_seen_so : (phrase : Phrase) (w : BusWorld) (pasts : Pasts) (next : BusWorld) (lines : List Said) → step phrase w ≡ done next lines
    → map said_in (line_watches (microframes_of phrase) w next lines pasts).lines ≡ lines
line_is_seen_so phrase w pasts next lines does = subst (IsSeen (microframes_of phrase) w pasts) does (line_is_seen phrase w pasts)
