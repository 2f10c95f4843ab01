-- The first microframes of a line `m`: what they print begins what the whole line prints.
use Rattle.std.proofs.Common.{◌≡◌, ◌∙◌, sym, ap, refl, ℕ, zero, suc, ◌≤◌, ℤ, pos, Bool, true, false, List, [], ◌∷◌, ◌++◌, Option, None, Some, Result, Ok, append_assoc, arith}
use Rattle.std.specs.List.{AllByRecursion, list_all}
use Rattle.std.proofs.lemmas.List.{append-nil}
use Rattle.uac_units.specs.Hearing.{Reading}
use Rattle.uac_script.specs.Phrase.{PhraseMark, Phrase, bytes_line, microframes_line}
use Rattle.uac_transcript.specs.Transcript.{Said}
use Rattle.uac_fault.specs.declared.fault.BusFault.{BusFault}
use Rattle.uac_running.specs.RunningWorld.{RunningWorld}
use Rattle.uac_running.specs.RunningNames.{names_stream, natural_of_int}
use Rattle.uac_running.specs.Events.{microframe, microframes}
use Rattle.uac_rows.specs.BusWorld.{BusWorld, Step, describing, done, refused, running, start, step, step_telling, unless}
use Rattle.uac_rows.specs.After.{After, after, if_refused, said_step, step_added, with_one_more}
use Rattle.uac_rows.proofs.AfterLemmas.{after_one_more}
use Rattle.uac_promises.specs.Promises.{IsBegun, IsOfBytes, LinesBeginAsPromised, SteadyScriptsKeepPromises, with_first_of}

-- these lines begin those
abbrev Begins : List Said → List Said → Type 0
Begins front whole = (more : List Said) × (whole ≡ front ++ more)

-- the first microframes of some
begun : (marks : List PhraseMark) (n count : ℕ) (r : RunningWorld) → n ≤ count → Begins (microframes marks n r).lines (microframes marks count r).lines
unfolding microframes
begun marks zero count r less = ((microframes marks count r).lines, refl)
begun marks (suc n) zero r less = absurd (omega arith)
begun marks (suc n) (suc count) r less =
    let first = (microframe marks r).lines in
    let next = (microframe marks r).world in
    let rest = begun marks n count next (omega arith) in
    (rest.0, ap (λ (ls : List Said). first ++ ls) rest.1 ∙ sym (append_assoc first (microframes marks n next).lines rest.0))

-- ---- one line after others

-- what a step prints begins what the other prints, or both are refused alike
abbrev BeginsStep : Step → Step → Type 0
BeginsStep (done next lines) (done next' lines') = Begins lines lines'
BeginsStep (done next lines) (refused fault) = ⊥
BeginsStep (refused fault) (done next lines) = ⊥
BeginsStep (refused fault) (refused fault') = Unit {0}

unless_begins : (b : Bool) (s s' : Step) → BeginsStep s s' → BeginsStep (unless b 6 s) (unless b 6 s')
unless_begins true s s' begins = begins
unless_begins false s s' begins = tt

step_begins : (w : BusWorld) (n : ℕ) (count : ℤ) (marks : List PhraseMark) → n ≤ natural_of_int count
    → BeginsStep (step (microframes_line (pos n) marks) w) (step (microframes_line count marks) w)
unfolding step
step_begins (describing bytes meters) n count marks less = tt
step_begins (running r) n count marks less =
    unless_begins (list_all (names_stream r.device.function) marks) (step_telling (microframes marks n r)) (step_telling (microframes marks (natural_of_int count) r))
    (begun marks n (natural_of_int count) r less)

-- so do the lines after others
added_begins : (so_far : After) (s s' : Step) → BeginsStep s s' → Begins (step_added s so_far).lines (step_added s' so_far).lines
added_begins so_far (done next lines) (done next' lines') begins =
    (begins.0, ap (λ (ls : List Said). so_far.lines ++ ls) begins.1 ∙ sym (append_assoc so_far.lines lines begins.0))
added_begins so_far (done next lines) (refused fault) begins = absurd begins
added_begins so_far (refused fault) (done next lines) begins = absurd begins
added_begins so_far (refused fault) (refused fault') begins = ([], sym (append-nil so_far.lines))

more_begins : (so_far : After) (refusal : Option BusFault) (s s' : Step) → BeginsStep s s'
    → Begins (if_refused refusal so_far (step_added s so_far)).lines (if_refused refusal so_far (step_added s' so_far)).lines
more_begins so_far None s s' begins = added_begins so_far s s' begins
more_begins so_far (Some fault) s s' begins = ([], sym (append-nil so_far.lines))

all_begin : (saids : List (Result Phrase ℕ)) (count : ℤ) (marks : List PhraseMark) (n : ℕ) (w : BusWorld) → n ≤ natural_of_int count
    → Begins (after (with_first_of saids n marks) w).lines (after (saids ++ Ok (microframes_line count marks) ∷ []) w).lines
all_begin saids count marks n w less =
    let so_far = after saids w in
    let begins = more_begins so_far so_far.refusal (step (microframes_line (pos n) marks) so_far.world) (step (microframes_line count marks) so_far.world)
    (step_begins so_far.world n count marks less) in (
      begins.0,
      ap (λ (a : After). a.lines) (after_one_more saids (Ok (microframes_line count marks)) w) ∙ begins.1
          ∙ ap (λ (a : After). a.lines ++ begins.0) (sym (after_one_more saids (Ok (microframes_line (pos n) marks)) w)),
    )

-- ---- what is said is of bytes

no_bytes_line : (n : ℕ) (marks : List PhraseMark) → IsOfBytes (Ok (microframes_line (pos n) marks))
no_bytes_line n marks bytes is = absurd (cc is)

all_of_bytes : (saids : List (Result Phrase ℕ)) (said : Result Phrase ℕ) → AllByRecursion IsOfBytes saids → IsOfBytes said → AllByRecursion IsOfBytes (saids ++ said ∷ [])
all_of_bytes [] said each one = (one, tt)
all_of_bytes (first ∷ saids) said each one = (each.0, all_of_bytes saids said each.1 one)

pub lines_begin_as_promised : SteadyScriptsKeepPromises → LinesBeginAsPromised
lines_begin_as_promised promises saids count marks n shown each less =
    let begins = all_begin saids count marks n (start shown) less in
    record {
      more = begins.0;
      printed = begins.1;
      promised = promises (with_first_of saids n marks) shown (all_of_bytes saids (Ok (microframes_line (pos n) marks)) each (no_bytes_line n marks));
    }
