-- From the lines that were taken to what all lines come to.
use Rattle.std.proofs.Common.{◌≡◌, ◌≢◌, ℕ, zero, suc, ◌+◌, ◌-◌, ◌<◌, ◌⊎◌, inl, inr, List, [], ◌∷◌, ◌++◌, length, Option, None, Some, refl, sym, ap, subst, ◌∙◌, arith}
use Rattle.std.proofs.lemmas.List.{append-nil}
use Rattle.std.specs.Io.KnownBytes.{Consumes, IsAtEnd}
use Rattle.uac_lines.specs.ScriptLines.{Head, line, long, past, unended, head_of, most_of_input}
use Rattle.uac_lines.proofs.ScriptLinesLemmas.{head_line-more, head_long-more, head_past-more}
use Rattle.uac_ends.specs.declared.fault.LineFault.{LineFault}
use Rattle.uac_ends.specs.declared.fault.LineFault.TheVariants as faults
use Rattle.uac_ends.specs.declared.status.Status.{Status}
use Rattle.uac_ends.specs.declared.status.Status.TheVariants as statuses
use Rattle.uac_runner.specs.Machine.{Machine, Step, done, refused}
use Rattle.uac_ends.specs.Outcome.{End, at_end, read_failed, stopped, Outcome, told, refused_with}
use Rattle.uac_runner.specs.Transcript.{Ending, after_step, with_lines_first, goes, goes_within, by_head, rest_done, ending_at, last_by, transcript, outcome_of}
use Rattle.uac_ends.specs.Closing.{Closes, ComesTo, HasNoFault, HasWriteCause, ShowsEnd}
use Rattle.uac_ends.specs.Outside.{Outside}
use Rattle.uac_ends.proofs.ClosingLemmas.{closed_whole}
use Rattle.uac_runner.specs.Done.{IsWanted}
use Rattle.uac_runner.specs.Run.{IsRun, IsComplete}
use Rattle.uac_runner.proofs.TranscriptLemmas.{goes_at, line_size, waits_for_more}

-- ---- a script that stopped

-- how it ended is told as a failed write
abbrev pub status_of : {W L : Type 0} → Ending W L → Status
status_of ending = (told ending.last).status

-- its bytes come to no refusal yet, or every longer input comes to the same
abbrev IsTold : {W L : Type 0} → Ending W L → (List ℕ → End → Ending W L) → Type 0
IsTold short longer = (status_of short ≡ statuses.WriteFault) ⊎ ((more : List ℕ) (end : End) → longer more end ≡ short)

told_after : {W L : Type 0} (lines : List L) (short : Ending W L) (longer : List ℕ → End → Ending W L) → IsTold short longer → IsTold (with_lines_first lines short) (λ more end. with_lines_first lines (longer more end))
told_after lines short longer (inl waits) = inl waits
told_after lines short longer (inr same) = inr (λ more end. ap (with_lines_first lines) (same more end))

told_step : {W L : Type 0} (s : Step W L) (number : ℕ) (w : W) (go : W → Ending W L) (longer : List ℕ → End → W → Ending W L)
    → ((next : W) → IsTold (go next) (λ more end. longer more end next)) → IsTold (after_step s number w go) (λ more end. after_step s number w (longer more end))
told_step (done next lines) number w go longer told = told_after lines (go next) (λ more end. longer more end next) (told next)
told_step (refused fault) number w go longer told = inr (λ more end. refl)

told_same : {W L : Type 0} (short short' : Ending W L) (longer longer' : List ℕ → End → Ending W L) → short' ≡ short → ((more : List ℕ) (end : End) → longer' more end ≡ longer more end)
    → IsTold short longer → IsTold short' longer'
told_same {W} {L} short short' longer longer' same each (inl waits) = inl (ap (λ (e : Ending W L). status_of e) same ∙ waits)
told_same short short' longer longer' same each (inr stays) = inr (λ more end. each more end ∙ stays more end ∙ sym same)

-- what was taken is a front of all the bytes, and all of them where none is left
record IsFront (bytes taken : List ℕ) (left : Option (List ℕ)) : Type 0 where
  pub rest : List ℕ
  pub parts : bytes ≡ taken ++ rest
  pub whole : IsAtEnd left → taken ≡ bytes

front_of : (left left' : Option (List ℕ)) (bytes taken : List ℕ) → left ≡ Some bytes → Consumes left left' taken → IsFront bytes taken left'
front_of None left' bytes taken is consumed = absurd (cc)
front_of (Some all) None bytes taken is consumed = absurd consumed
front_of (Some all) (Some rest) bytes taken is consumed =
    let same : all ≡ bytes = cc in
    record {
      rest = rest;
      parts = sym same ∙ consumed;
      whole = (λ none. sym (append-nil taken) ∙ ap (λ (zs : List ℕ). taken ++ zs) (sym none) ∙ sym consumed ∙ same);
    }

module _ {W L : Type 0} (m : Machine W L) where
  -- by what stands first, where that is told of what stands after a line
  told_by : (h : Head) (spare : ℕ) (bytes : List ℕ) (number : ℕ) (w : W) → head_of spare bytes ≡ h
      → ((text rest : List ℕ) → h ≡ line text rest → (next : W)
      → IsTold (goes m (spare - (length text + 1)) rest stopped (number + 1) next) (λ more end. goes m (spare - (length text + 1)) (rest ++ more) end (number + 1) next))
      → IsTold (goes m spare bytes stopped number w) (λ more end. goes m spare (bytes ++ more) end number w)
  told_by (line text rest) spare bytes number w is on =
      let go : W → Ending W L = λ next. goes m (spare - (length text + 1)) rest stopped (number + 1) next in
      let longer : List ℕ → End → W → Ending W L = λ more end next. goes m (spare - (length text + 1)) (rest ++ more) end (number + 1) next in
      told_same (after_step (m.step text w) number w go) (goes m spare bytes stopped number w)
      (λ more end. after_step (m.step text w) number w (longer more end)) (λ more end. goes m spare (bytes ++ more) end number w)
      (goes_at m (line text rest) spare bytes stopped number w is)
      (λ more end. goes_at m (line text (rest ++ more)) spare (bytes ++ more) end number w (head_line-more spare bytes more text rest is))
      (told_step (m.step text w) number w go longer (on text rest refl))
  told_by long spare bytes number w is on =
      inr (λ more end. goes_at m long spare (bytes ++ more) end number w (head_long-more spare bytes more is) ∙ sym (goes_at m long spare bytes stopped number w is))
  told_by past spare bytes number w is on =
      inr (λ more end. goes_at m past spare (bytes ++ more) end number w (head_past-more spare bytes more is) ∙ sym (goes_at m past spare bytes stopped number w is))
  told_by (unended text) spare bytes number w is on =
      inl (ap (λ (e : Ending W L). status_of e) (goes_at m (unended text) spare bytes stopped number w is ∙ waits_for_more m text number w))

  goes_told : (n spare : ℕ) (bytes : List ℕ) (number : ℕ) (w : W) → length bytes < n
      → IsTold (goes m spare bytes stopped number w) (λ more end. goes m spare (bytes ++ more) end number w)
  goes_told zero spare bytes number w few = absurd (omega arith)
  goes_told (suc n) spare bytes number w few =
      told_by (head_of spare bytes) spare bytes number w refl
      (λ text rest is next. let size = line_size spare bytes text rest is in goes_told n (spare - (length text + 1)) rest (number + 1) next (omega arith))

  transcript_told : (w : W) (taken : List ℕ) → IsTold (transcript m w taken stopped) (λ more end. transcript m w (taken ++ more) end)
  unfolding transcript
  transcript_told w taken = goes_told (suc (length taken)) most_of_input taken 1 w (omega arith)

  -- a script that stopped elsewhere than at a failed write comes to what every longer one comes to
  pub transcript_stays : (w : W) (taken more : List ℕ) (end : End) → status_of (transcript m w taken stopped) ≢ statuses.WriteFault
      → transcript m w (taken ++ more) end ≡ transcript m w taken stopped
  transcript_stays w taken more end other = elim (transcript_told w taken) [
    | inl waits ↦ absurd (other waits)
    | inr same ↦ same more end
  ]

  -- ---- a script that came to its end

  -- what the lines that were taken come to is what all lines come to, where no read and no write failed
  pub done_once : (w : W) (bytes taken : List ℕ) (left left' : Option (List ℕ)) (reads reads' : ℕ) (end : End)
      → left ≡ Some bytes → Consumes left left' taken → HasNoFault reads reads' → ShowsEnd end left' reads reads'
      → status_of (transcript m w taken end) ≢ statuses.WriteFault → transcript m w bytes at_end ≡ transcript m w taken end
  done_once w bytes taken left left' reads reads' at_end is consumed rests ended other =
      let front = front_of left left' bytes taken is consumed in ap (λ (bs : List ℕ). transcript m w bs at_end) (sym (front.whole ended.0))
  done_once w bytes taken left left' reads reads' read_failed is consumed rests ended other = absurd (rests ended)
  done_once w bytes taken left left' reads reads' stopped is consumed rests ended other =
      let front = front_of left left' bytes taken is consumed in
      ap (λ (bs : List ℕ). transcript m w bs at_end) front.parts ∙ transcript_stays w taken front.rest at_end other

  -- ---- memory

  module _ (free : (text : List ℕ) (w : W) → m.step text w ≢ refused faults.NoMemory) where
    free_refusal : (text : List ℕ) (w : W) (fault : LineFault) (number : ℕ) → m.step text w ≡ refused fault → (refused_with fault number).status ≢ statuses.NoMemory
    free_refusal text w (faults.Script rule) number is e = cc
    free_refusal text w (faults.Grammar fault) number is e = cc
    free_refusal text w (faults.Topology fault) number is e = cc
    free_refusal text w faults.WriteFault number is e = cc
    free_refusal text w faults.NoMemory number is e = free text w is

    free_step : (s : Step W L) (text : List ℕ) (number : ℕ) (w : W) (go : W → Ending W L) → m.step text w ≡ s → ((next : W) → status_of (go next) ≢ statuses.NoMemory)
        → status_of (after_step s number w go) ≢ statuses.NoMemory
    free_step (done next lines) text number w go is on = on next
    free_step (refused fault) text number w go is on = free_refusal text w fault number is

    free_end : (o : Option ℕ) (number : ℕ) → (told (last_by o number)).status ≢ statuses.NoMemory
    free_end None number e = cc
    free_end (Some rule) number e = cc

    free_rest : (rest : List ℕ) (end : End) (number : ℕ) (w : W) → status_of (rest_done m rest end number w) ≢ statuses.NoMemory
    free_rest [] at_end number w = free_end (m.finish w) number
    free_rest (b ∷ rest) at_end number w = free_step (m.step (b ∷ rest) w) (b ∷ rest) number w (λ next. ending_at m (number + 1) next) refl (λ next. free_end (m.finish next) (number + 1))
    free_rest [] read_failed number w = λ e. cc
    free_rest (b ∷ rest) read_failed number w = λ e. cc
    free_rest [] stopped number w = λ e. cc
    free_rest (b ∷ rest) stopped number w = λ e. cc

    free_head : (h : Head) (end : End) (number : ℕ) (w : W) (go : List ℕ → List ℕ → W → Ending W L) → ((text rest : List ℕ) (next : W) → status_of (go text rest next) ≢ statuses.NoMemory)
        → status_of (by_head m h end number w go) ≢ statuses.NoMemory
    free_head (line text rest) end number w go on = free_step (m.step text w) text number w (go text rest) refl (on text rest)
    free_head long end number w go on = λ e. cc
    free_head past end number w go on = λ e. cc
    free_head (unended text) end number w go on = free_rest text end number w

    free_within : (n spare : ℕ) (bytes : List ℕ) (end : End) (number : ℕ) (w : W) → status_of (goes_within m n spare bytes end number w) ≢ statuses.NoMemory
    unfolding goes_within
    free_within zero spare bytes end number w = λ e. cc
    free_within (suc n) spare bytes end number w =
        free_head (head_of spare bytes) end number w (λ text rest next. goes_within m n (spare - (length text + 1)) rest end (number + 1) next)
        (λ text rest next. free_within n (spare - (length text + 1)) rest end (number + 1) next)

    free_transcript : (w : W) (taken : List ℕ) (end : End) → status_of (transcript m w taken end) ≢ statuses.NoMemory
    unfolding transcript goes
    free_transcript w taken end = free_within (length taken + 1) most_of_input taken end 1 w

    closed_status : (o : Outcome) (w w' : Option (List ℕ)) (f f' : ℕ) (status : Status) → Closes o w w' f f' status → status ≡ statuses.NoMemory → o.status ≡ statuses.NoMemory
    closed_status o w w' f f' status (inl all) e = sym all.0 ∙ e
    closed_status o w w' f f' status (inr cut) e = cc (sym cut.0 ∙ e)

    -- `no memory` is told only where it was wanted
    pub told_wanted : (w : W) (taken : List ℕ) (end : End) (ending : Ending W L) (written written' : Option (List ℕ)) (writes writes' : ℕ) (status : Status)
        → (ending ≡ transcript m w taken end) ⊎ IsWanted m w taken ending → Closes (outcome_of m ending) written written' writes writes' status
        → status ≡ statuses.NoMemory → IsWanted m w taken ending
    told_wanted w taken end ending written written' writes writes' status (inl meant) closed e =
        absurd (free_transcript w taken end (ap (λ (x : Ending W L). status_of x) (sym meant) ∙ closed_status (outcome_of m ending) written written' writes writes' status closed e))
    told_wanted w taken end ending written written' writes writes' status (inr wanted) closed e = wanted

  -- what is shown, in other words
  pub run_shows : (w : W) (P Q : W → Type 0) (before after : Outside) (status : Status) → IsRun m w P before after status → ((v : W) → P v → Q v) → IsRun m w Q before after status
  run_shows w P Q before after status run same = record {
    taken = run.taken;
    end = run.end;
    ending = run.ending;
    consumed = run.consumed;
    ended = run.ended;
    prompt = run.prompt;
    meant = run.meant;
    lived = run.lived;
    closed = run.closed;
    wanted = run.wanted;
    shows = (λ other. same run.ending.world (run.shows other));
  }

  -- a run is complete
  pub run_complete : (w : W) (Shows : W → Type 0) (before after : Outside) (status : Status) → IsRun m w Shows before after status → HasWriteCause before after status
      → IsComplete m w before after status
  run_complete w Shows before after status run cause bytes is none =
      let closed = closed_whole (outcome_of m run.ending) before.written after.written before.writes after.writes status none.wrote run.closed in
      elim run.meant as (λ _. ComesTo (outcome_of m (transcript m w bytes at_end)) before after status ⊎ (status ≡ statuses.NoMemory)) [
        | inl meant ↦
            let same = done_once w bytes run.taken before.left after.left before.reads after.reads run.end is run.consumed none.read run.ended
            (λ fault. none.wrote (cause (closed.0 ∙ ap (λ (e : Ending W L). status_of e) meant ∙ fault))) in
            let all : run.ending ≡ transcript m w bytes at_end = meant ∙ sym same in
            inl (subst (λ (e : Ending W L). ComesTo (outcome_of m e) before after status) all closed)
        | inr wanted ↦ inr (closed.0 ∙ ap (λ (e : Ending W L). status_of e) wanted.is)
      ]
