-- How far a run is, and what it comes to from there.
use Rattle.std.proofs.Common.{◌≡◌, ◌≢◌, ℕ, ◌+◌, ◌-◌, ◌≤◌, inl, inr, Bool, true, false, List, [], ◌∷◌, ◌++◌, length, Option, None, Some, Result, Ok, Err, refl, sym, ap, subst, ◌∙◌, arith, append_assoc, length-append}
use Rattle.std.proofs.lemmas.List.{append-nil}
use Rattle.std.proofs.lemmas.Grind.{flat_map-append}
use Rattle.std.specs.Io.KnownBytes.{Appends, Consumes, IsAtEnd, Keeps}
use Rattle.uac_edges.specs.Faults.{Rose}
use Rattle.uac_edges.specs.Memory.{raised_count}
use Rattle.uac_edges.specs.Writing.{AppendsFront}
use Rattle.uac_edges.proofs.KnownBytesLemmas.{Consumes-none, Consumes-Consumes}
use Rattle.uac_edges.proofs.WritingLemmas.{Appends-none, Appends-twice, AppendsFront-after, AppendsFront-longer}
use Rattle.uac_lines.specs.ScriptLines.{line, long, past, unended, head_of, most_of_input, Splitting, Splits, StopsAtLine, Goes}
use Rattle.uac_lines.specs.declared.lines.Next.{Next}
use Rattle.uac_lines.specs.declared.lines.Next.TheVariants as next
use Rattle.uac_lines.specs.declared.lines.LineStop.{LineStop}
use Rattle.uac_lines.specs.declared.lines.LineStop.TheVariants as stops
use Rattle.uac_lines.proofs.ScriptLinesLemmas.{head_line-more}
use Rattle.uac_ends.specs.declared.fault.LineFault.{LineFault}
use Rattle.uac_ends.specs.declared.fault.LineFault.TheVariants as faults
use Rattle.uac_ends.specs.declared.status.Status.{Status}
use Rattle.uac_ends.specs.declared.status.Status.TheVariants as statuses
use Rattle.uac_runner.specs.Machine.{Machine, Step, done, refused, text_of, after}
use Rattle.uac_ends.specs.Outcome.{End, at_end, read_failed, stopped, told, at_refusal, at_long_line, past_limit, at_failed_read, without_memory, no_memory}
use Rattle.uac_runner.specs.Transcript.{Ending, ends, with_lines_first, after_step, ending_at, last_by, goes, transcript, outcome_of}
use Rattle.uac_runner.specs.Done.{IsScriptLine, IsDone, IsWanted, EndsLine}
use Rattle.uac_ends.specs.Closing.{ShowsEnd, Closes}
use Rattle.uac_ends.specs.Outside.{outside}
use Rattle.uac_ends.proofs.ClosingLemmas.{closes_as, told_status}
use Rattle.uac_runner.specs.Run.{IsPrompt, IsRun, StopsAtRefusal}
use Rattle.uac_runner.specs.LineOutcomes.{IsSilent, Reaches, IsWriteCut, Prevents, stop_last}
use Rattle.uac_runner.proofs.CutLemmas.{HasDone, none_done, done_more, one_more_done, front_cut, rest_cut}
use Rattle.uac_runner.proofs.WholeLemmas.{told_wanted}
use Rattle.uac_runner.proofs.DoneLemmas.{transcript_is_lived, wanted_is_lived}
use Rattle.uac_runner.proofs.TranscriptLemmas.{line_size, goes_at, head_nothing, rest_is_done, rest_failed, waits_for_more, with_lines_first-twice}

-- the number of the next line doesn't stand still: no input has lines enough
one_more : (lines : Splitting) → lines.number + lines.spare ≤ most_of_input → raised_count lines.number ≡ lines.number + 1
one_more lines few = omega arith

kept_here : (a : Option (List ℕ)) → Keeps a a
kept_here None = tt
kept_here (Some xs) = refl

has_some : (bytes : List ℕ) → bytes ≢ [] → 1 ≤ length bytes
has_some [] some = absurd (some refl)
has_some (b ∷ rest) some = omega arith

-- the source isn't read again after a line that no newline ends
pub not_ended : (ended : Bool) (result : Result Next LineStop) {P Q : Type 0} → (ended ≡ true → (result ≡ Ok next.End) × P × Q) → result ≢ Ok next.End → ended ≡ false
not_ended true result over other = absurd (other (over refl).0)
not_ended false result over other = refl

-- why no more was taken shows since an earlier moment, too
ended_earlier : (end : End) (left : Option (List ℕ)) (first reads reads' : ℕ) → reads ≡ first → ShowsEnd end left reads reads' → ShowsEnd end left first reads'
ended_earlier end left first reads reads' still h = subst (λ (n : ℕ). ShowsEnd end left n reads') still h

-- a line was handed out, and there are fewer bytes for others
pub record Moves (old new : Splitting) : Type 0 where
  pub number : new.number ≡ old.number + 1
  pub smaller : new.spare + 1 ≤ old.spare
  pub going : new.stop ≡ None
  pub few : new.number + new.spare ≤ most_of_input

moves_on : (old new : Splitting) (bytes rest : List ℕ) (size : ℕ) (last : Bool) → old.number + old.spare ≤ most_of_input → 1 ≤ size → Goes old new bytes rest size last → Moves old new
moves_on old new bytes rest size last few some g =
    let number : new.number ≡ old.number + 1 = g.number ∙ one_more old few in
    let s = g.spare in
    record { number = number; smaller = omega arith; going = g.going; few = omega arith }

moves_line : (old new : Splitting) (left left' : Option (List ℕ)) (reads reads' : ℕ) → old.number + old.spare ≤ most_of_input → Splits old new left left' reads reads' (Ok next.Line) → Moves old new
moves_line old new left left' reads reads' few splits = elim splits.comes as (λ _. Moves old new) [
  | inl front ↦ moves_on old new front.0 front.1 (length front.0 + 1) false few (omega arith) front.3
  | inr rest ↦ moves_on old new (old.unread ++ splits.taken) [] (length (old.unread ++ splits.taken)) true few (has_some (old.unread ++ splits.taken) rest.0) rest.3
]

pub moves : (old new : Splitting) (left left' : Option (List ℕ)) (reads reads' : ℕ) (got : Next) → got ≡ next.Line → old.number + old.spare ≤ most_of_input → Splits old new left left' reads reads' (Ok got) → Moves old new
moves old new left left' reads reads' got is few splits = moves_line old new left left' reads reads' few (subst (λ (n : Next). Splits old new left left' reads reads' (Ok n)) is splits)

-- a read failed where that is told
pub stopped_read : (old new : Splitting) (left left' : Option (List ℕ)) (reads reads' : ℕ) (why : LineStop) → why ≡ stops.Failed → Splits old new left left' reads reads' (Err why) → Rose reads reads'
stopped_read old new left left' reads reads' why is splits = (subst (λ (y : LineStop). Splits old new left left' reads reads' (Err y)) is splits).comes.1

abbrev no_lines : Splitting
no_lines = record { text = []; number = 0; unread = []; spare = most_of_input; stop = None; ended = false }

module _ {W L : Type 0} (m : Machine W L) where
  -- What is to come, whatever bytes that may be: the lines printed so far, and then what the lines from here on make of the world. After a
  -- last line that no newline ends the script is finished.
  abbrev pub ToCome : W → List ℕ → List L → Splitting → Option (List ℕ) → W → Bool → Type 0
  ToCome w0 taken printed lines left w false =
      (more : List ℕ) (end : End) → transcript m w0 (taken ++ more) end ≡ with_lines_first printed (goes m lines.spare (lines.unread ++ more) end (lines.number + 1) w)
  ToCome w0 taken printed lines left w true = IsAtEnd left × (transcript m w0 taken at_end ≡ with_lines_first printed (ending_at m (lines.number + 1) w))

  -- how far a run is: the bytes that were taken, which are the lines done and those unread while another line may come, the lines that
  -- were printed, and a world of which this holds
  pub record IsFar (w0 : W) (left left' : Option (List ℕ)) (written written' : Option (List ℕ)) (Holds : W → Type 0) (lines : Splitting) : Type 0 where
    pub taken : List ℕ
    pub printed : List L
    pub world : W
    pub consumed : Consumes left left' taken
    pub prompt : StopsAtRefusal m w0 taken
    pub size : length taken + lines.spare ≡ most_of_input + length lines.unread
    pub going : lines.stop ≡ None
    pub few : lines.number + lines.spare ≤ most_of_input
    pub to_come : ToCome w0 taken printed lines left' world lines.ended
    pub appended : Appends written written' (text_of m printed)
    pub stands : Holds world
    pub cut : lines.ended ≡ false → HasDone m w0 taken printed lines.unread world

  -- ---- the start

  begins : (w0 : W) (left written : Option (List ℕ)) (Holds : W → Type 0) → Holds w0 → IsFar w0 left left written written Holds no_lines
  unfolding transcript
  begins w0 left written Holds stands = record {
    taken = [];
    printed = [];
    world = w0;
    consumed = Consumes-none left;
    prompt = record { front = []; piece = []; parts = refl; going = ap (λ (e : Ending W L). e.last) (goes_at m (unended []) most_of_input [] stopped 1 w0 (head_nothing most_of_input)); short = omega arith };
    size = refl;
    going = refl;
    few = omega arith;
    to_come = (λ more end. refl);
    appended = Appends-none written written (kept_here written);
    stands = stands;
    cut = (λ _. none_done m w0);
  }

  pub far_at_first : (w0 : W) (left written : Option (List ℕ)) (Holds : W → Type 0) (lines : Splitting) → Holds w0
      → lines ≡ record { text = []; number = 0; unread = []; spare = most_of_input; stop = None; ended = false }
      → IsFar w0 left left written written Holds lines
  far_at_first w0 left written Holds lines stands is =
      subst (λ (l : Splitting). IsFar w0 left left written written Holds l) (sym is) (begins w0 left written Holds stands)

  -- ---- taking

  -- More was taken for the next line. Before the last piece none stood whole after the lines that were done.
  stops_later : (w0 : W) (taken : List ℕ) (printed : List L) (unread : List ℕ) (spare number : ℕ) (w : W)
      → ((more : List ℕ) (end : End) → transcript m w0 (taken ++ more) end ≡ with_lines_first printed (goes m spare (unread ++ more) end number w))
      → StopsAtRefusal m w0 taken → (got : List ℕ) → StopsAtLine spare unread got → StopsAtRefusal m w0 (taken ++ got)
  stops_later w0 taken printed unread spare number w law before [] s = subst (StopsAtRefusal m w0) (sym (append-nil taken)) before
  stops_later w0 taken printed unread spare number w law before (b ∷ got) s = record {
    front = taken ++ s.front;
    piece = s.piece;
    parts = ap (λ (xs : List ℕ). taken ++ xs) s.parts ∙ sym (append_assoc taken s.front s.piece);
    going =
        ap (λ (e : Ending W L). e.last) (law s.front stopped
        ∙ ap (with_lines_first printed) (goes_at m (unended (unread ++ s.front)) spare (unread ++ s.front) stopped number w (s.open_yet (λ e. cc))
        ∙ waits_for_more m (unread ++ s.front) number w));
    short = s.short;
  }

  -- ---- a line

  -- a line was handed out: the bytes taken up to it, why no more may be, and how the script goes on where the line is done; the bytes are
  -- the lines done before it, the line itself, and what stands after it
  pub record HasLine (w0 : W) (printed : List L) (w : W) (left left' : Option (List ℕ)) (before : ℕ) (lines : Splitting) (reads reads' : ℕ) : Type 0 where
    pub few : lines.number + lines.spare ≤ most_of_input
    pub taken : List ℕ
    pub end : End
    pub go : W → Ending W L
    pub consumed : Consumes left left' taken
    pub ended : ShowsEnd end left' reads reads'
    pub prompt : StopsAtRefusal m w0 taken
    pub size : length taken + lines.spare ≡ most_of_input + length lines.unread
    pub going : lines.stop ≡ None
    pub law : transcript m w0 taken end ≡ with_lines_first printed (after_step (m.step lines.text w) lines.number w go)
    pub rest : List ℕ
    pub cut : HasDone m w0 taken printed (lines.text ++ rest) w
    pub fits : IsScriptLine lines.text
    pub whole : EndsLine rest
    pub newline : lines.ended ≡ false → rest ≡ 10 ∷ lines.unread
    pub on : (next : W) (more : List L) → m.step lines.text w ≡ done next more → ToCome w0 taken (printed ++ more) lines left' next lines.ended

  -- the law of what is to come, past the line that stands in front
  past_line : (w0 : W) (taken : List ℕ) (printed : List L) (got text rest unread : List ℕ) (spare number : ℕ) (w : W)
      → ((more : List ℕ) (end : End) → transcript m w0 (taken ++ more) end ≡ with_lines_first printed (goes m spare (unread ++ more) end (number + 1) w))
      → head_of spare (unread ++ got) ≡ line text rest → (more : List ℕ) (end : End)
      → transcript m w0 ((taken ++ got) ++ more) end
      ≡ with_lines_first printed (after_step (m.step text w) (number + 1) w (λ next. goes m (spare - (length text + 1)) (rest ++ more) end (number + 1 + 1) next))
  past_line w0 taken printed got text rest unread spare number w law head more end =
      ap (λ (xs : List ℕ). transcript m w0 xs end) (append_assoc taken got more)
      ∙ law (got ++ more) end
      ∙ ap (λ (xs : List ℕ). with_lines_first printed (goes m spare xs end (number + 1) w)) (sym (append_assoc unread got more))
      ∙ ap (with_lines_first printed) (goes_at m (line text (rest ++ more)) spare ((unread ++ got) ++ more) end (number + 1) w (head_line-more spare (unread ++ got) more text rest head))

  -- the same where the line was done
  past_done : (w0 : W) (taken : List ℕ) (printed : List L) (text : List ℕ) (number : ℕ) (w next : W) (more : List L) (end : End) (go : W → Ending W L)
      → transcript m w0 taken end ≡ with_lines_first printed (after_step (m.step text w) number w go) → m.step text w ≡ done next more
      → transcript m w0 taken end ≡ with_lines_first (printed ++ more) (go next)
  past_done w0 taken printed text number w next more end go law is =
      law ∙ ap (λ (s : Step W L). with_lines_first printed (after_step s number w go)) is ∙ with_lines_first-twice printed more (go next)

  -- a line with its newline
  has_front : (w0 : W) (taken : List ℕ) (printed : List L) (got text rest : List ℕ) (old new : Splitting) (w : W) (left left' : Option (List ℕ)) (reads reads' : ℕ)
      → ((more : List ℕ) (end : End) → transcript m w0 (taken ++ more) end ≡ with_lines_first printed (goes m old.spare (old.unread ++ more) end (old.number + 1) w))
      → length taken + old.spare ≡ most_of_input + length old.unread
      → Consumes left left' (taken ++ got) → StopsAtRefusal m w0 (taken ++ got) → HasDone m w0 taken printed old.unread w → length text + 1 + length rest ≡ length (old.unread ++ got)
      → head_of old.spare (old.unread ++ got) ≡ line text rest → Goes old new text rest (length text + 1) false → reads' ≡ reads → old.number + old.spare ≤ most_of_input
      → HasLine w0 printed w left left' old.number new reads reads'
  has_front w0 taken printed got text rest old new w left left' reads reads' law size consumed prompt isdone whole head g still few =
      let parts = front_cut old.spare (old.unread ++ got) text rest head in
      let later = past_line w0 taken printed got text rest old.unread old.spare old.number w law head in
      let spare-is : old.spare - (length text + 1) ≡ new.spare = let s = g.spare in omega arith in
      let number-is : old.number + 1 ≡ new.number = sym (g.number ∙ one_more old few) in
      let go : W → Ending W L = λ next. goes m (old.spare - (length text + 1)) (rest ++ []) stopped (old.number + 1 + 1) next in
      record {
        few = (let s = g.spare in omega arith);
        taken = taken ++ got;
        end = stopped;
        go = go;
        consumed = consumed;
        ended = still;
        prompt = prompt;
        size = (let s = g.spare in let u : length new.unread ≡ length rest = ap length g.unread in omega (arith, length-append taken got, length-append old.unread got));
        going = g.going;
        law =
            ap (λ (xs : List ℕ). transcript m w0 xs stopped) (sym (append-nil (taken ++ got)))
            ∙ later [] stopped
            ∙ ap (λ (t : List ℕ). with_lines_first printed (after_step (m.step t w) (old.number + 1) w go)) (sym g.text)
            ∙ ap (λ (n : ℕ). with_lines_first printed (after_step (m.step new.text w) n w go)) number-is;
        rest = 10 ∷ rest;
        cut = subst (λ (xs : List ℕ). HasDone m w0 (taken ++ got) printed xs w) (parts.1 ∙ ap (λ (t : List ℕ). t ++ 10 ∷ rest) (sym g.text)) (done_more m w0 taken printed old.unread w got isdone);
        fits = subst IsScriptLine (sym g.text) parts.0;
        whole = inr (rest, refl);
        newline = (λ _. ap (λ (xs : List ℕ). 10 ∷ xs) (sym g.unread));
        on = (λ next more is. subst (λ (b : Bool). ToCome w0 (taken ++ got) (printed ++ more) new left' next b) (sym g.ended)
            (λ after end. past_done w0 ((taken ++ got) ++ after) printed text (old.number + 1) w next more end
            (λ (n : W). goes m (old.spare - (length text + 1)) (rest ++ after) end (old.number + 1 + 1) n)
            (later after end) (ap (λ (t : List ℕ). m.step t w) (sym g.text) ∙ is)
            ∙ ap (λ (n : ℕ). with_lines_first (printed ++ more) (goes m n (rest ++ after) end (old.number + 1 + 1) next)) spare-is
            ∙ ap (λ (u : List ℕ). with_lines_first (printed ++ more) (goes m new.spare (u ++ after) end (old.number + 1 + 1) next)) (sym g.unread)
            ∙ ap (λ (n : ℕ). with_lines_first (printed ++ more) (goes m new.spare (new.unread ++ after) end (n + 1) next)) number-is));
      }

  -- a last line that no newline ends
  has_rest : (w0 : W) (taken : List ℕ) (printed : List L) (got : List ℕ) (old new : Splitting) (w : W) (left left' : Option (List ℕ)) (reads reads' : ℕ)
      → ((more : List ℕ) (end : End) → transcript m w0 (taken ++ more) end ≡ with_lines_first printed (goes m old.spare (old.unread ++ more) end (old.number + 1) w))
      → length taken + old.spare ≡ most_of_input + length old.unread
      → Consumes left left' (taken ++ got) → StopsAtRefusal m w0 (taken ++ got) → HasDone m w0 taken printed old.unread w → IsAtEnd left' → old.unread ++ got ≢ []
      → head_of old.spare (old.unread ++ got) ≡ unended (old.unread ++ got) → Goes old new (old.unread ++ got) [] (length (old.unread ++ got)) true → reads' ≡ reads → old.number + old.spare ≤ most_of_input
      → HasLine w0 printed w left left' old.number new reads reads'
  has_rest w0 taken printed got old new w left left' reads reads' law size consumed prompt isdone over some head g still few =
      let number-is : old.number + 1 ≡ new.number = sym (g.number ∙ one_more old few) in
      let go : W → Ending W L = λ next. ending_at m (old.number + 1 + 1) next in
      let at : transcript m w0 (taken ++ got) at_end ≡ with_lines_first printed (after_step (m.step (old.unread ++ got) w) (old.number + 1) w go) =
      law got at_end
      ∙ ap (with_lines_first printed) (goes_at m (unended (old.unread ++ got)) old.spare (old.unread ++ got) at_end (old.number + 1) w head ∙ rest_is_done m (old.unread ++ got) (old.number + 1) w some) in
      record {
        few = (let s = g.spare in let one = has_some (old.unread ++ got) some in omega arith);
        taken = taken ++ got;
        end = at_end;
        go = go;
        consumed = consumed;
        ended = (over, still);
        prompt = prompt;
        size = (let s = g.spare in let u : length new.unread ≡ length {A = ℕ} [] = ap length g.unread in omega (arith, length-append taken got, length-append old.unread got));
        going = g.going;
        law =
            at ∙ ap (λ (t : List ℕ). with_lines_first printed (after_step (m.step t w) (old.number + 1) w go)) (sym g.text)
            ∙ ap (λ (n : ℕ). with_lines_first printed (after_step (m.step new.text w) n w go)) number-is;
        rest = [];
        cut = subst (λ (xs : List ℕ). HasDone m w0 (taken ++ got) printed xs w) (sym (append-nil (old.unread ++ got)) ∙ ap (λ (t : List ℕ). t ++ []) (sym g.text)) (done_more m w0 taken printed old.unread w got isdone);
        fits = subst IsScriptLine (sym g.text) (rest_cut old.spare (old.unread ++ got) head);
        whole = inl refl;
        newline = (λ e. let last : true ≡ false = sym g.ended ∙ e in absurd (cc));
        on = (λ next more is. subst (λ (b : Bool). ToCome w0 (taken ++ got) (printed ++ more) new left' next b) (sym g.ended) (
          over,
          past_done w0 (taken ++ got) printed (old.unread ++ got) (old.number + 1) w next more at_end go at (ap (λ (t : List ℕ). m.step t w) (sym g.text) ∙ is)
              ∙ ap (λ (n : ℕ). with_lines_first (printed ++ more) (ending_at m (n + 1) next)) number-is,
        ));
      }

  module _ (w0 : W) (left mid left' : Option (List ℕ)) (written written' : Option (List ℕ)) (Holds : W → Type 0) (old new : Splitting) (reads reads' : ℕ)
      (far : IsFar w0 left mid written written' Holds old) where
    -- what is to come, where the source wasn't at its end
    goes_on : old.ended ≡ false → (more : List ℕ) (end : End)
        → transcript m w0 (far.taken ++ more) end ≡ with_lines_first far.printed (goes m old.spare (old.unread ++ more) end (old.number + 1) far.world)
    goes_on open_yet = subst (λ (b : Bool). ToCome w0 far.taken far.printed old mid far.world b) open_yet far.to_come

    -- where more was taken
    stops_on : old.ended ≡ false → (got : List ℕ) → StopsAtLine old.spare old.unread got → StopsAtRefusal m w0 (far.taken ++ got)
    stops_on open_yet got s = stops_later w0 far.taken far.printed old.unread old.spare (old.number + 1) far.world (goes_on open_yet) far.prompt got s

    line_of : old.ended ≡ false → Splits old new mid left' reads reads' (Ok next.Line) → reads' ≡ reads → HasLine w0 far.printed far.world left left' old.number new reads reads'
    line_of open_yet splits still =
        let consumed : Consumes left left' (far.taken ++ splits.taken) = Consumes-Consumes left mid left' far.taken splits.taken far.consumed splits.consumed in
        let prompt : StopsAtRefusal m w0 (far.taken ++ splits.taken) = stops_on open_yet splits.taken splits.prompt in
        elim splits.comes as (λ _. HasLine w0 far.printed far.world left left' old.number new reads reads') [
          | inl front ↦
              has_front w0 far.taken far.printed splits.taken front.0 front.1 old new far.world left left' reads reads' (goes_on open_yet) far.size consumed prompt (far.cut open_yet)
              (line_size old.spare (old.unread ++ splits.taken) front.0 front.1 front.2) front.2 front.3 still far.few
          | inr rest ↦
              has_rest w0 far.taken far.printed splits.taken old new far.world left left' reads reads' (goes_on open_yet) far.size consumed prompt (far.cut open_yet) rest.2 rest.0 rest.1 rest.3 still far.few
        ]

    -- the next line was handed out
    pub has_line : (got : Next) → got ≡ next.Line → old.ended ≡ false → Splits old new mid left' reads reads' (Ok got) → reads' ≡ reads
        → HasLine w0 far.printed far.world left left' old.number new reads reads'
    has_line got is open_yet splits still = line_of open_yet (subst (λ (n : Next). Splits old new mid left' reads reads' (Ok n)) is splits) still

  -- ---- a line that was done

  record WasDone (s : Step W L) (Holds : W → Type 0) (written written' : Option (List ℕ)) (writes writes' : ℕ) : Type 0 where
    pub next : W
    pub more : List L
    pub is : s ≡ done next more
    pub stands : Holds next
    pub appended : Appends written written' (text_of m more)
    pub still : writes' ≡ writes

  done_parts : (s : Step W L) (Holds : W → Type 0) (written written' : Option (List ℕ)) (writes writes' : ℕ) → Reaches m s Holds written written' writes writes' → WasDone s Holds written written' writes writes'
  done_parts (done next more) Holds written written' writes writes' d = record { next = next; more = more; is = refl; stands = d.0; appended = d.1; still = d.2 }
  done_parts (refused fault) Holds written written' writes writes' d = absurd d

  -- no write met a fault where a line was done
  pub done_still : (s : Step W L) (Holds : W → Type 0) (written written' : Option (List ℕ)) (writes writes' : ℕ) → Reaches m s Holds written written' writes writes' → writes' ≡ writes
  done_still s Holds written written' writes writes' d = (done_parts s Holds written written' writes writes' d).still

  -- lines, and then others
  Appends-lines : (old mid new : Option (List ℕ)) (first second : List L) → Appends old mid (text_of m first) → Appends mid new (text_of m second)
      → Appends old new (text_of m (first ++ second))
  Appends-lines old mid new first second a b =
      subst (Appends old new) (sym (flat_map-append m.spell first second)) (Appends-twice old mid new (text_of m first) (text_of m second) a b)

  pub far_on : (w0 : W) (left mid left' : Option (List ℕ)) (written written' written'' : Option (List ℕ)) (Holds Holds' : W → Type 0) (old new : Splitting) (reads reads' writes writes' : ℕ)
      → (far : IsFar w0 left mid written written' Holds old) → HasLine w0 far.printed far.world left left' old.number new reads reads'
      → (text : List ℕ) → text ≡ new.text → Reaches m (m.step text far.world) Holds' written' written'' writes writes'
      → IsFar w0 left left' written written'' Holds' new
  far_on w0 left mid left' written written' written'' Holds Holds' old new reads reads' writes writes' far has text text-is isdone =
      let d = done_parts (m.step new.text far.world) Holds' written' written'' writes writes'
      (subst (λ (t : List ℕ). Reaches m (m.step t far.world) Holds' written' written'' writes writes') text-is isdone) in
      record {
        taken = has.taken;
        printed = far.printed ++ d.more;
        world = d.next;
        consumed = has.consumed;
        prompt = has.prompt;
        size = has.size;
        going = has.going;
        few = has.few;
        to_come = has.on d.next d.more d.is;
        appended = Appends-lines written written' written'' far.printed d.more far.appended d.appended;
        stands = d.stands;
        cut = (λ open_yet. one_more_done m w0 has.taken far.printed new.text new.unread far.world d.next d.more
            (subst (λ (xs : List ℕ). HasDone m w0 has.taken far.printed (new.text ++ xs) far.world) (has.newline open_yet) has.cut) has.fits d.is);
      }

  -- ---- the end of a run

  -- the text of lines, and then what follows
  text_first : (printed : List L) (ending : Ending W L) → text_of m printed ++ (outcome_of m ending).text ≡ (outcome_of m (with_lines_first printed ending)).text
  text_first printed ending =
      sym (append_assoc (text_of m printed) (text_of m ending.lines) (told ending.last).text)
      ∙ ap (λ (t : List ℕ). t ++ (told ending.last).text) (sym (flat_map-append m.spell printed ending.lines))

  closes_after : (ending : Ending W L) (printed : List L) (old mid new : Option (List ℕ)) (before between after : ℕ) (status : Status) → Appends old mid (text_of m printed)
      → between ≡ before → Closes (outcome_of m ending) mid new between after status
      → Closes (outcome_of m (with_lines_first printed ending)) old new before after status
  closes_after ending printed old mid new before between after status front still (inl all) =
      inl (all.0, subst (Appends old new) (text_first printed ending) (Appends-twice old mid new (text_of m printed) (outcome_of m ending).text front all.1), all.2 ∙ still)
  closes_after ending printed old mid new before between after status front still (inr cut) =
      inr (
        cut.0,
        subst (λ (n : ℕ). Rose n after) still cut.1,
        subst (AppendsFront old new) (text_first printed ending) (AppendsFront-after old mid new (text_of m printed) (outcome_of m ending).text front cut.2),
      )

  -- memory may be wanted at the line after those that were done
  is_wanted : (w0 : W) (taken : List ℕ) (printed : List L) (text rest : List ℕ) (w : W) → HasDone m w0 taken printed (text ++ rest) w → IsScriptLine text → EndsLine rest → m.wants text w ≡ true
      → IsWanted m w0 taken (with_lines_first printed (ends without_memory w))
  is_wanted w0 taken printed text rest w isdone is_line whole takes = record {
    texts = isdone.texts;
    text = text;
    rest = rest;
    cut = isdone.cut;
    lines = isdone.lines;
    line = is_line;
    whole = whole;
    done = isdone.accepted;
    takes = subst (λ (v : W). m.wants text v ≡ true) isdone.reached takes;
    is =
        ap (λ (lines : List L). let e : Ending W L = record { lines = lines; last = without_memory; world = w } in e) (append-nil printed ∙ isdone.are)
        ∙ ap (λ (v : W). let e : Ending W L = record { lines = (after m.step isdone.texts w0).lines; last = without_memory; world = v } in e) isdone.reached;
  }

  module _ (free : (text : List ℕ) (v : W) → m.step text v ≢ refused faults.NoMemory) (w0 : W) (Shows : W → Type 0) (left left' : Option (List ℕ)) (reads reads' : ℕ) (written mid written' : Option (List ℕ)) (writes writes' writes'' : ℕ) (status : Status) where
    ends_run : (taken : List ℕ) (printed : List L) (end : End) (ending : Ending W L) → Consumes left left' taken → ShowsEnd end left' reads reads' → IsPrompt m w0 taken
        → transcript m w0 taken end ≡ with_lines_first printed ending → Appends written mid (text_of m printed) → writes' ≡ writes
        → Closes (outcome_of m ending) mid written' writes' writes'' status → (status ≢ statuses.WriteFault → Shows ending.world)
        → IsRun m w0 Shows (outside left reads written writes) (outside left' reads' written' writes'') status
    ends_run taken printed end ending consumed ended prompt law front still closed shows = record {
      taken = taken;
      end = end;
      ending = with_lines_first printed ending;
      consumed = consumed;
      ended = ended;
      prompt = prompt;
      meant = inl (sym law);
      lived = subst (IsDone m w0 taken) law (transcript_is_lived m w0 taken end);
      closed = closes_after ending printed written mid written' writes writes' writes'' status front still closed;
      wanted = told_wanted m free w0 taken end (with_lines_first printed ending) written written' writes writes'' status (inl (sym law)) (closes_after ending printed written mid written' writes writes' writes'' status front still closed);
      shows = shows;
    }

    -- memory was wanted at a line, after others that were done
    memory_run : (taken : List ℕ) (printed : List L) (text rest : List ℕ) (w : W) (end : End) → Consumes left left' taken → ShowsEnd end left' reads reads' → IsPrompt m w0 taken
        → HasDone m w0 taken printed (text ++ rest) w → IsScriptLine text → EndsLine rest → m.wants text w ≡ true
        → Appends written mid (text_of m printed) → writes' ≡ writes → Closes no_memory mid written' writes' writes'' status → Shows w
        → IsRun m w0 Shows (outside left reads written writes) (outside left' reads' written' writes'') status
    memory_run taken printed text rest w end consumed ended prompt isdone is_line whole takes front still closed shows = record {
      taken = taken;
      end = end;
      ending = with_lines_first printed (ends without_memory w);
      consumed = consumed;
      ended = ended;
      prompt = prompt;
      meant = inr (is_wanted w0 taken printed text rest w isdone is_line whole takes);
      lived = wanted_is_lived m w0 taken (with_lines_first printed (ends without_memory w)) (is_wanted w0 taken printed text rest w isdone is_line whole takes);
      closed = closes_after (ends without_memory w) printed written mid written' writes writes' writes'' status front still closed;
      wanted = (λ _. is_wanted w0 taken printed text rest w isdone is_line whole takes);
      shows = (λ _. shows);
    }

  -- ---- a line that wasn't done

  cut_parts : (s : Step W L) (written written' : Option (List ℕ)) (number : ℕ) (w : W) (go : W → Ending W L) → IsWriteCut m s written written'
      → AppendsFront written written' (outcome_of m (after_step s number w go)).text
  cut_parts (done next more) written written' number w go cut =
      subst (AppendsFront written written') (text_first more (go next)) (AppendsFront-longer written written' (text_of m more) (outcome_of m (go next)).text cut)
  cut_parts (refused fault) written written' number w go cut = absurd cut

  module _ (free : (text : List ℕ) (v : W) → m.step text v ≢ refused faults.NoMemory) (w0 : W) (Shows : W → Type 0) (left left' : Option (List ℕ)) (written mid mid' written' : Option (List ℕ)) (new : Splitting) (printed : List L) (w : W)
      (first reads reads' writes before after last counted : ℕ) (status : Status) (has : HasLine w0 printed w left left' counted new reads reads')
      (front : Appends written mid (text_of m printed)) (within : length new.unread ≤ new.spare + 1)
      (reads-early : reads ≡ first) (early : before ≡ writes) where
    ended : ShowsEnd has.end left' first reads'
    ended = ended_earlier has.end left' first reads reads' reads-early has.ended

    prompt : IsPrompt m w0 has.taken
    prompt = (let s = has.size in omega arith, has.prompt)

    refused_run : (fault : LineFault) → m.step new.text w ≡ refused fault → IsSilent (Shows w) mid mid' before after
        → Closes (told (at_refusal fault new.number)) mid' written' after last status → IsRun m w0 Shows (outside left first written writes) (outside left' reads' written' last) status
    refused_run fault is silent closed =
        ends_run free w0 Shows left left' first reads' written mid' written' writes after last status has.taken printed has.end (ends (at_refusal fault new.number) w)
        has.consumed ended prompt
        (has.law ∙ ap (λ (s : Step W L). with_lines_first printed (after_step s new.number w has.go)) is)
        (subst (λ (k : Option (List ℕ)). Appends written k (text_of m printed)) (sym silent.kept) front) (silent.faultless ∙ early) closed
        (λ _. silent.shown)

    -- the line failed, and its last line was printed
    failed_by : (fault : LineFault) → Prevents fault m (m.wants new.text w) (m.step new.text w) (Shows w) mid mid' before after
        → Closes (told (at_refusal fault new.number)) mid' written' after last status → (fault ≡ faults.WriteFault → (status ≡ statuses.WriteFault) × (written' ≡ mid') × (last ≡ after))
        → IsRun m w0 Shows (outside left first written writes) (outside left' reads' written' last) status
    failed_by (faults.Script rule) fails closed silence = refused_run (faults.Script rule) fails.0 fails.1 closed
    failed_by (faults.Grammar fault) fails closed silence = refused_run (faults.Grammar fault) fails.0 fails.1 closed
    failed_by (faults.Topology fault) fails closed silence = refused_run (faults.Topology fault) fails.0 fails.1 closed
    failed_by faults.NoMemory fails closed silence =
        memory_run free w0 Shows left left' first reads' written mid' written' writes after last status has.taken printed new.text has.rest w has.end has.consumed ended prompt
        has.cut has.fits has.whole fails.0 (subst (λ (k : Option (List ℕ)). Appends written k (text_of m printed)) (sym fails.1.kept) front) (fails.1.faultless ∙ early) closed
        fails.1.shown
    failed_by faults.WriteFault fails closed silence =
        let quietly = silence refl in
        let cut = cut_parts (m.step new.text w) mid mid' new.number w has.go fails.0 in
        ends_run free w0 Shows left left' first reads' written mid written' writes before last status has.taken printed has.end (after_step (m.step new.text w) new.number w has.go)
        has.consumed ended prompt has.law front early
        (inr (
          quietly.0,
          subst (λ (n : ℕ). Rose before n) (sym quietly.2) fails.1,
          subst (λ (k : Option (List ℕ)). AppendsFront mid k (outcome_of m (after_step (m.step new.text w) new.number w has.go)).text) (sym quietly.1) cut,
        ))
        (λ other. absurd (other quietly.0))

    pub failed_line : (fault : LineFault) (text : List ℕ) (number : ℕ) → text ≡ new.text → number ≡ new.number
        → Prevents fault m (m.wants text w) (m.step text w) (Shows w) mid mid' before after
        → Closes (told (at_refusal fault number)) mid' written' after last status → (fault ≡ faults.WriteFault → (status ≡ statuses.WriteFault) × (written' ≡ mid') × (last ≡ after))
        → IsRun m w0 Shows (outside left first written writes) (outside left' reads' written' last) status
    failed_line fault text number text-is number-is fails closed silence =
        failed_by fault (subst (λ (t : List ℕ). Prevents fault m (m.wants t w) (m.step t w) (Shows w) mid mid' before after) text-is fails)
        (subst (λ (n : ℕ). Closes (told (at_refusal fault n)) mid' written' after last status) number-is closed) silence

  -- ---- no next line

  module _ (free : (text : List ℕ) (v : W) → m.step text v ≢ refused faults.NoMemory) (w0 : W) (Holds Shows : W → Type 0) (left mid left' : Option (List ℕ)) (written written' written'' : Option (List ℕ)) (old new : Splitting)
      (first reads reads' writes before last : ℕ) (status : Status)
      (far : IsFar w0 left mid written written' Holds old) (within : length new.unread ≤ new.spare + 1) (early : reads ≡ first) (first-writes : before ≡ writes) (shown : Shows far.world) where
    -- what was taken for the line that stopped them
    stopped_prompt : old.ended ≡ false → (got : List ℕ) → StopsAtLine old.spare old.unread got → new.unread ≡ old.unread ++ got → new.spare ≡ old.spare
        → IsPrompt m w0 (far.taken ++ got)
    stopped_prompt open_yet got s unread spare = (
      let size = far.size in let u : length new.unread ≡ length (old.unread ++ got) = ap length unread in omega (arith, length-append far.taken got, length-append old.unread got),
      stops_on w0 left mid left' written written' Holds old new reads reads' far open_yet got s,
    )

    -- the lines stopped, and their last line was printed
    stopped_by : (why : LineStop) → old.ended ≡ false → Splits old new mid left' reads reads' (Err why) → (why ≢ stops.Failed → reads' ≡ reads)
        → Closes (told (stop_last why new.number)) written' written'' before last status → IsRun m w0 Shows (outside left first written writes) (outside left' reads' written'' last) status
    stopped_by stops.Long open_yet splits calm closed =
        let halt = splits.comes.1 in
        ends_run free w0 Shows left left' first reads' written written' written'' writes before last status (far.taken ++ splits.taken) far.printed stopped (ends (at_long_line new.number) far.world)
        (Consumes-Consumes left mid left' far.taken splits.taken far.consumed splits.consumed) (calm (λ e. cc) ∙ early)
        (stopped_prompt open_yet splits.taken splits.prompt halt.unread halt.spare)
        (goes_on w0 left mid left' written written' Holds old new reads reads' far open_yet splits.taken stopped
        ∙ ap (with_lines_first far.printed) (goes_at m long old.spare (old.unread ++ splits.taken) stopped (old.number + 1) far.world splits.comes.0
        ∙ ap (λ (n : ℕ). let e : Ending W L = ends (at_long_line n) far.world in e) (sym (halt.number ∙ one_more old far.few))))
        far.appended first-writes closed (λ _. shown)
    stopped_by stops.TooLong open_yet splits calm closed =
        let halt = splits.comes.1 in
        ends_run free w0 Shows left left' first reads' written written' written'' writes before last status (far.taken ++ splits.taken) far.printed stopped (ends past_limit far.world)
        (Consumes-Consumes left mid left' far.taken splits.taken far.consumed splits.consumed) (calm (λ e. cc) ∙ early)
        (stopped_prompt open_yet splits.taken splits.prompt halt.unread halt.spare)
        (goes_on w0 left mid left' written written' Holds old new reads reads' far open_yet splits.taken stopped
        ∙ ap (with_lines_first far.printed) (goes_at m past old.spare (old.unread ++ splits.taken) stopped (old.number + 1) far.world splits.comes.0))
        far.appended first-writes closed (λ _. shown)
    stopped_by stops.Failed open_yet splits calm closed =
        let halt = splits.comes.2 in
        ends_run free w0 Shows left left' first reads' written written' written'' writes before last status (far.taken ++ splits.taken) far.printed read_failed (ends at_failed_read far.world)
        (Consumes-Consumes left mid left' far.taken splits.taken far.consumed splits.consumed) (subst (λ (n : ℕ). Rose n reads') early splits.comes.1)
        (stopped_prompt open_yet splits.taken splits.prompt halt.unread halt.spare)
        (goes_on w0 left mid left' written written' Holds old new reads reads' far open_yet splits.taken read_failed
        ∙ ap (with_lines_first far.printed) (goes_at m (unended (old.unread ++ splits.taken)) old.spare (old.unread ++ splits.taken) read_failed (old.number + 1) far.world splits.comes.0
        ∙ rest_failed m (old.unread ++ splits.taken) (old.number + 1) far.world))
        far.appended first-writes closed (λ _. shown)

    pub stopped_run : (why : LineStop) (number : ℕ) → number ≡ new.number → old.ended ≡ false → Splits old new mid left' reads reads' (Err why)
        → (got : Result Next LineStop) → got ≡ Err why → (got ≢ Err stops.Failed → reads' ≡ reads) → Closes (told (stop_last why number)) written' written'' before last status
        → IsRun m w0 Shows (outside left first written writes) (outside left' reads' written'' last) status
    stopped_run why number number-is open_yet splits got got-is calm closed =
        stopped_by why open_yet splits (λ other. calm (λ e. other (cc (got-is, e)))) (subst (λ (n : ℕ). Closes (told (stop_last why n)) written' written'' before last status) number-is closed)

  -- no line is left
  module _ (free : (text : List ℕ) (v : W) → m.step text v ≢ refused faults.NoMemory) (w0 : W) (Holds Shows : W → Type 0) (left mid left' : Option (List ℕ)) (written written' written'' : Option (List ℕ)) (old new : Splitting)
      (first reads reads' writes before last : ℕ) (status : Status)
      (far : IsFar w0 left mid written written' Holds old) (still : reads' ≡ first) (first-writes : before ≡ writes) (shown : Shows far.world) where
    -- the source had ended before, or now
    record IsOver : Type 0 where
      pub taken : List ℕ
      pub consumed : Consumes left left' taken
      pub over : IsAtEnd left'
      pub same : new ≡ old
      pub law : transcript m w0 taken at_end ≡ with_lines_first far.printed (ending_at m (old.number + 1) far.world)
      pub prompt : IsPrompt m w0 taken

    is_over : (ended : Bool) → old.ended ≡ ended → (ended ≡ false → Splits old new mid left' reads reads' (Ok next.End))
        → (ended ≡ true → (new ≡ old) × (left' ≡ mid)) → length new.unread ≤ new.spare + 1 → IsOver
    is_over true is splits same within =
        let parts = subst (λ (b : Bool). ToCome w0 far.taken far.printed old mid far.world b) is far.to_come in
        let kept = same refl in
        let u : length new.unread ≡ length old.unread = ap (λ (l : Splitting). length l.unread) kept.0 in
        let n : new.spare ≡ old.spare = ap (λ (l : Splitting). l.spare) kept.0 in
        record {
          taken = far.taken;
          consumed = subst (λ (l : Option (List ℕ)). Consumes left l far.taken) (sym kept.1) far.consumed;
          over = subst IsAtEnd (sym kept.1) parts.0;
          same = kept.0;
          law = parts.1;
          prompt = (let s = far.size in omega arith, far.prompt);
        }
    is_over false is splits same within =
        let now = splits refl in
        let none : old.unread ++ now.taken ≡ [] = now.comes.0 in
        record {
          taken = far.taken ++ now.taken;
          consumed = Consumes-Consumes left mid left' far.taken now.taken far.consumed now.consumed;
          over = now.comes.1;
          same = now.comes.2;
          law =
              goes_on w0 left mid left' written written' Holds old new reads reads' far is now.taken at_end
              ∙ ap (λ (xs : List ℕ). with_lines_first far.printed (goes m old.spare xs at_end (old.number + 1) far.world)) none
              ∙ ap (with_lines_first far.printed) (goes_at m (unended []) old.spare [] at_end (old.number + 1) far.world (head_nothing old.spare));
          prompt = (
            let s = far.size in let u : length (old.unread ++ now.taken) ≡ length {A = ℕ} [] = ap length none in omega (arith, length-append far.taken now.taken, length-append old.unread now.taken),
            stops_on w0 left mid left' written written' Holds old new reads reads' far is now.taken now.prompt,
          );
        }

    pub finished_run : (got : Next) → got ≡ next.End → (old.ended ≡ false → Splits old new mid left' reads reads' (Ok got)) → (old.ended ≡ true → (new ≡ old) × (left' ≡ mid)) → length new.unread ≤ new.spare + 1
        → (number : ℕ) → number ≡ raised_count new.number → Closes (told (last_by (m.finish far.world) number)) written' written'' before last status
        → IsRun m w0 Shows (outside left first written writes) (outside left' reads' written'' last) status × IsAtEnd left'
    finished_run got got-is splits same within number is closed =
        let o = is_over old.ended refl (λ e. subst (λ (n : Next). Splits old new mid left' reads reads' (Ok n)) got-is (splits e)) same within in
        let number-is : number ≡ old.number + 1 = is ∙ ap (λ (l : Splitting). raised_count l.number) o.same ∙ one_more old far.few in (
          ends_run free w0 Shows left left' first reads' written written' written'' writes before last status o.taken far.printed at_end (ending_at m (old.number + 1) far.world)
              o.consumed (o.over, still) o.prompt o.law far.appended first-writes
              (subst (λ (n : ℕ). Closes (told (last_by (m.finish far.world) n)) written' written'' before last status) number-is closed)
              (λ _. shown),
          o.over,
        )

-- ---- the last line

-- the last line of a fault was printed
pub closes_fault : (fault is : LineFault) (number : ℕ) (old new : Option (List ℕ)) (before after : ℕ) (status : Status) → fault ≡ is
    → Closes (told (at_refusal is number)) old new before after status → Closes (told (at_refusal fault number)) old new before after status
closes_fault fault is number old new before after status same closed =
    subst (λ (f : LineFault). Closes (told (at_refusal f number)) old new before after status) (sym same) closed

-- its text is the one that was written
pub closes_last : (fault is : LineFault) (number : ℕ) (text : List ℕ) (old new : Option (List ℕ)) (before after : ℕ) (status : Status) → fault ≡ is
    → text ≡ (told (at_refusal is number)).text
    → Closes (record { text = text; status = (told (at_refusal is number)).status }) old new before after status → Closes (told (at_refusal fault number)) old new before after status
closes_last fault is number text old new before after status same spelt closed =
    closes_fault fault is number old new before after status same (closes_as (told (at_refusal is number)) text old new before after status spelt closed)

-- the last line where there is no next one was printed
pub closes_stop : (why is : LineStop) (number : ℕ) (old new : Option (List ℕ)) (before after : ℕ) (status : Status) → why ≡ is
    → Closes (told (stop_last is number)) old new before after status → Closes (told (stop_last why number)) old new before after status
closes_stop why is number old new before after status same closed =
    subst (λ (s : LineStop). Closes (told (stop_last s number)) old new before after status) (sym same) closed

-- ---- where no fault is told none was met

-- a line that failed, but for a write, met none
pub left_faultless : {W L : Type 0} (m : Machine W L) (fault : LineFault) (memory : Bool) (s : Step W L) (Shown : Type 0) (written written' : Option (List ℕ)) (writes writes' : ℕ)
    → Prevents fault m memory s Shown written written' writes writes' → fault ≢ faults.WriteFault → writes' ≡ writes
left_faultless m (faults.Script rule) memory s Shown written written' writes writes' p other = p.1.faultless
left_faultless m (faults.Grammar fault) memory s Shown written written' writes writes' p other = p.1.faultless
left_faultless m (faults.Topology fault) memory s Shown written written' writes writes' p other = p.1.faultless
left_faultless m faults.NoMemory memory s Shown written written' writes writes' p other = p.1.faultless
left_faultless m faults.WriteFault memory s Shown written written' writes writes' p other = absurd (other refl)

-- the lines didn't stop at a failed read where none is told
pub stop_untold : (why : LineStop) (number : ℕ) (w w' : Option (List ℕ)) (f f' : ℕ) (status : Status) → Closes (told (stop_last why number)) w w' f f' status → status ≢ statuses.ReadFault
    → status ≢ statuses.WriteFault → why ≢ stops.Failed
stop_untold why number w w' f f' status closed unread unwritten same =
    told_status (told at_failed_read) w w' f f' status (subst (λ (s : LineStop). Closes (told (stop_last s number)) w w' f f' status) same closed) unread unwritten
