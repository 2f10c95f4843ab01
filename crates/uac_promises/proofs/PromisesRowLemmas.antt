-- Lines in a row: each leaves the world good and keeps what is promised.
use Rattle.std.proofs.Common.{◌≡◌, ◌∙◌, ◌+◌, sym, ap, refl, subst, ℕ, true, List, [], ◌∷◌, ◌++◌, None, Result, Ok, Err, rules}
use Rattle.std.specs.List.{All, AllByRecursion}
use Rattle.std.proofs.lemmas.List.Elements.{All-append, All-from_recursion, All-nil, recursion_from_All}
use Rattle.uac_descriptor.specs.BlockParsing.{AreBytes}
use Rattle.uac_units.specs.Hearing.{Reading}
use Rattle.uac_script.specs.Phrase.{Phrase, bytes_line}
use Rattle.uac_transcript.specs.Transcript.{Said}
use Rattle.uac_rows.specs.BusWorld.{Step, BusWorld, describing, done, refused, running, start, step}
use Rattle.uac_rows.specs.After.{After, after, and_then, with_one_more}
use Rattle.uac_rows.proofs.AfterLemmas.{after_one_more}
use Rattle.uac_levels.specs.Past.{Pasts, no_pasts}
use Rattle.uac_promises.specs.Scripts.{IsInBand, is_steady_in}
use Rattle.uac_promises.proofs.ScriptsLemmas.{lines_look_back}
use Rattle.uac_promises.specs.Watches.{Watch, and_then_watches, line_watches, microframes_of, watches_after}
use Rattle.uac_promises.specs.Promises.{IsKeptPromise, IsOfBytes, IsRecordedIn, IsAsPromised, OneMoreLineIsKept, SteadyScriptsKeepPromises, watches_of_line}
use Rattle.uac_promises.proofs.WatchesLemmas.{line_is_seen_so, lines_are_seen, watches_one_more}
use Rattle.uac_promises.specs.ReportPromises.{IsTrueLine}
use Rattle.uac_promises.specs.StreamPromises.{HaveTrailsIn}
use Rattle.uac_promises.proofs.PromisesRunLemmas.{IsGoodIn, LawsOfSteps}
use Rattle.uac_promises.proofs.PromisesLineLemmas.{KeepsAll, running_keeps_all}
use Rattle.uac_promises.proofs.PromisesStartLemmas.{describing_keeps_all}
use Rattle.uac_promises.proofs.PromisesMoreLemmas.{lines_leave_more}

-- ---- lines in a row

-- a world that lines leave, and what was seen on the way
record LeavesAll (next : BusWorld) (seen : List Watch) : Type 0 where
  band : IsInBand next
  recorded : IsRecordedIn next
  kept : All IsKeptPromise seen

in_band : (w : BusWorld) (pasts : Pasts) → IsGoodIn w pasts → IsInBand w
in_band (describing bytes meters) pasts good = tt
in_band (running r) pasts good = good.band

have_trails : (w : BusWorld) (pasts : Pasts) → IsGoodIn w pasts → HaveTrailsIn w pasts
have_trails (describing bytes meters) pasts good = tt
have_trails (running r) pasts good = good.trails

in_rings : (w : BusWorld) (pasts : Pasts) → IsGoodIn w pasts → IsRecordedIn w
in_rings (describing bytes meters) pasts good = tt
in_rings (running r) pasts good = good.recorded

none_more : (w : BusWorld) (pasts : Pasts) → IsGoodIn w pasts → LeavesAll w []
none_more w pasts good = record { band = in_band w pasts good; recorded = in_rings w pasts good; kept = All-nil IsKeptPromise }

-- what these lines leave, from whatever good world
abbrev TheRest : List (Result Phrase ℕ) → Type 0
TheRest saids =
    (next : BusWorld) (later : Pasts) → IsGoodIn next later → is_steady_in (after saids next).world ≡ true
    → LeavesAll (after saids next).world (watches_after saids next later).lines

-- a line, and those after it
with_first : (saids : List (Result Phrase ℕ)) (w : BusWorld) (pasts : Pasts) → IsGoodIn w pasts
    → (phrase : Phrase) (s : Step) → KeepsAll (microframes_of phrase) w pasts s → TheRest saids
    → is_steady_in (and_then s w (after saids)).world ≡ true
    → LeavesAll (and_then s w (after saids)).world (and_then_watches s (microframes_of phrase) w pasts (watches_after saids)).lines
with_first saids w pasts good phrase (done next lines) keeps rest h =
    let seen = line_watches (microframes_of phrase) w next lines pasts in
    let leaves = keeps (lines_look_back saids next h) in
    let later = rest next seen.pasts leaves.good h in
    record {
      band = later.band;
      recorded = later.recorded;
      kept = All-append IsKeptPromise seen.lines (watches_after saids next seen.pasts).lines leaves.kept later.kept;
    }
with_first saids w pasts good phrase (refused fault) keeps rest h = none_more w pasts good

said_bytes : (phrase : Phrase) (more : List ℕ) → phrase ≡ bytes_line more → (let said : Result Phrase ℕ = Ok phrase in said) ≡ Ok (bytes_line more)
said_bytes phrase more same = ap (λ (p : Phrase). let said : Result Phrase ℕ = Ok p in said) same

module _ (laws : LawsOfSteps) where
  step_keeps_all : (phrase : Phrase) (w : BusWorld) (pasts : Pasts) → IsGoodIn w pasts
      → ((more : List ℕ) → phrase ≡ bytes_line more → AreBytes more) → KeepsAll (microframes_of phrase) w pasts (step phrase w)
  unfolding step
  step_keeps_all phrase (describing bytes meters) pasts good feed = describing_keeps_all laws bytes meters pasts phrase good feed
  step_keeps_all phrase (running r) pasts good feed = running_keeps_all laws r pasts good phrase

  lines_keep_all : (saids : List (Result Phrase ℕ)) → AllByRecursion IsOfBytes saids → TheRest saids
  unfolding after watches_after
  lines_keep_all [] each w pasts good steady = none_more w pasts good
  lines_keep_all (Ok phrase ∷ saids) each w pasts good steady =
      with_first saids w pasts good phrase (step phrase w)
      (step_keeps_all phrase w pasts good (λ more same. each.0 more (said_bytes phrase more same))) (lines_keep_all saids each.1) steady
  lines_keep_all (Err rule ∷ saids) each w pasts good steady = none_more w pasts good

  pub steady_scripts_keep_promises : SteadyScriptsKeepPromises
  steady_scripts_keep_promises saids shown each steady =
      let leaves = lines_keep_all saids each (start shown) no_pasts (λ i. no_bytes i) steady in
      let more = lines_leave_more laws saids each (start shown) no_pasts (λ i. no_bytes i) tt steady in
      record {
        streams_are_in_their_bands = leaves.band;
        recordings_fit_their_interval = leaves.recorded;
        promised_lines_are_those_printed = lines_are_seen saids (start shown) no_pasts;
        each_line_is_as_promised = leaves.kept;
        counts_are_zero = more.met;
        report_is_near = more.told;
        at_every_moment = more.held;
        streams_come_home = have_trails (after saids (start shown)).world (watches_after saids (start shown) no_pasts).pasts more.good;
      }
    where
      no_bytes : AreBytes []
      no_bytes i = search rules

-- ---- one line more

-- what holds of all of a list holds of its end
latter : (P : Watch → Type 0) (front back : List Watch) → All P (front ++ back) → All P back
latter P front back all = All-from_recursion P back (by front (recursion_from_All P (front ++ back) all))
  where
    by : (xs : List Watch) → AllByRecursion P (xs ++ back) → AllByRecursion P back
    by [] each = each
    by (x ∷ xs) each = by xs each.1

pub one_more_line_is_kept : SteadyScriptsKeepPromises → OneMoreLineIsKept
one_more_line_is_kept promises saids phrase shown next lines each whole does steady =
    let keeps = promises all shown each (subst (λ (a : After). is_steady_in a.world ≡ true) (sym becomes) steady) in
    let parts = watches_one_more saids phrase (start shown) no_pasts next lines whole does in
    record {
      promised_lines_are_those_printed = line_is_seen_so phrase so_far.world (watches_after saids (start shown) no_pasts).pasts next lines does;
      each_line_is_as_promised =
          latter IsKeptPromise (watches_after saids (start shown) no_pasts).lines (watches_of_line saids phrase shown next lines)
          (subst (All IsKeptPromise) parts keeps.each_line_is_as_promised);
      report_is_near =
          latter IsTrueLine (watches_after saids (start shown) no_pasts).lines (watches_of_line saids phrase shown next lines)
          (subst (All IsTrueLine) parts keeps.report_is_near);
      promised = keeps;
    }
  where
    all : List (Result Phrase ℕ)
    all = saids ++ Ok phrase ∷ []

    so_far : After
    so_far = after saids (start shown)

    one : After
    one = record so_far { lines = so_far.lines ++ lines; world = next; count = so_far.count + 1 }

    by : (a : After) → a.refusal ≡ None → step phrase a.world ≡ done next lines
        → with_one_more (Ok phrase) a ≡ record a { lines = a.lines ++ lines; world = next; count = a.count + 1 }
    by a none is = rw (none, is) refl

    becomes : after all (start shown) ≡ one
    becomes = after_one_more saids (Ok phrase) (start shown) ∙ by so_far whole does
