-- A script's bytes are done as its lines are, one after the other; and machines that do the same have the same transcripts.
use Rattle.std.proofs.Common.{◌≡◌, ◌≢◌, ◌∙◌, sym, ap, refl, arith, ℕ, zero, suc, ◌+◌, ◌-◌, ◌<◌, ◌≤◌, ◌==◌, List, [], ◌∷◌, ◌++◌, length, map, take, drop, get_or, append_assoc, length-append, Option, None, Some}
use Rattle.std.specs.List.{All, AllByRecursion}
use Rattle.std.proofs.Math.Seq.{take-append_seam, drop-append-add}
use Rattle.std.proofs.lemmas.Bool.{ne_eqb}
use Rattle.std.proofs.lemmas.List.{length-take}
use Rattle.std.proofs.lemmas.List.Sums.{position_or_len_is}
use Rattle.uac_edges.specs.TextLines.{with_newlines}
use Rattle.uac_lines.specs.ScriptLines.{Head, line, long, past, unended, head_of, most_of_input}
use Rattle.uac_lines.specs.Looking.{line_end}
use Rattle.uac_lines.proofs.ScriptLinesLemmas.{head_line, line_end_in}
use Rattle.uac_ends.specs.declared.fault.LineFault.{LineFault}
use Rattle.uac_runner.specs.Machine.{Machine, Step, done, refused, After, after, and_then, one_done}
use Rattle.uac_ends.specs.Outcome.{End, at_end, read_failed, stopped, at_refusal}
use Rattle.uac_runner.specs.Done.{IsScriptLine, go_unless_refused, come_to}
use Rattle.uac_runner.specs.Transcript.{Ending, after_step, with_lines_first, ends, goes, goes_within, by_head, rest_done, ending_at, last_by, transcript}
use Rattle.uac_runner.proofs.TranscriptLemmas.{with_lines_first-twice, goes_at, after_step_same}

-- ---- a line stands first

get_front : (text rest : List ℕ) (k d : ℕ) → k < length text → get_or (text ++ rest) k d ≡ get_or text k d
get_front [] rest k d below = absurd (omega arith)
get_front (b ∷ text) rest zero d below = refl
get_front (b ∷ text) rest (suc k) d below = get_front text rest k d (omega arith)

get_seam : (text rest : List ℕ) (b d : ℕ) → get_or (text ++ b ∷ rest) (length text) d ≡ b
get_seam [] rest b d = refl
get_seam (c ∷ text) rest b d = get_seam text rest b d

-- the first newline is the line's own
end_of_line : (text rest : List ℕ) → All (λ b. b ≢ 10) text → line_end (text ++ 10 ∷ rest) ≡ length text
end_of_line text rest whole =
    position_or_len_is (λ b. b == 10) (text ++ 10 ∷ rest) (length text) 0 (omega (arith, length-append text (10 ∷ rest)))
    (λ k below. ne_eqb (get_or (text ++ 10 ∷ rest) k 0) 10 (λ e. whole k 0 below (sym (get_front text (10 ∷ rest) k 0 below) ∙ e)))
    (λ below. ap (λ (b : ℕ). b == 10) (get_seam text rest 10 0))

line_first : (spare : ℕ) (text rest : List ℕ) → IsScriptLine text → length text + 1 ≤ spare → head_of spare (text ++ 10 ∷ rest) ≡ line text rest
line_first spare text rest is fits =
    let bytes : List ℕ = text ++ 10 ∷ rest in
    let long : length bytes ≡ length text + suc (length rest) = length-append text (10 ∷ rest) in
    let within = line_end_in spare bytes in
    let found = end_of_line text rest is.whole in
    let size : length text ≡ line_end (take spare bytes) = omega (arith, within, found) in
    let front : take (length text) bytes ≡ text = take-append_seam text (10 ∷ rest) in
    let back : drop (length text + 1) bytes ≡ rest = drop-append-add text (10 ∷ rest) 1 in
    head_line spare bytes (length text) size is.short (omega (arith, long, length-take spare bytes))
    ∙ ap (λ (t : List ℕ). line t (drop (length text + 1) bytes)) front ∙ ap (line text) back

-- ---- lines in order

-- what follows matters only where it is reached
go_unless_refused_same : {W L : Type 0} (o : Option LineFault) (number : ℕ) (w : W) (go go' : W → Ending W L) → ((v : W) → go v ≡ go' v) → go_unless_refused o number w go ≡ go_unless_refused o number w go'
go_unless_refused_same None number w go go' same = same w
go_unless_refused_same (Some fault) number w go go' same = refl

-- a line, and then others
come_to-step : {W L : Type 0} (s : Step W L) (w : W) (number : ℕ) (others : W → After W L) (go : W → Ending W L) (on : W → Ending W L)
    → ((next : W) → on next ≡ come_to (others next) (number + 1) go) → after_step s number w on ≡ come_to (and_then s w others) number go
come_to-step (done next lines) w number others go on same =
    let rest = others next in
    let count : number + 1 + rest.count ≡ number + (rest.count + 1) = omega arith in
    ap (with_lines_first lines) (same next)
    ∙ with_lines_first-twice lines rest.lines (go_unless_refused rest.refusal (number + 1 + rest.count) rest.world go)
    ∙ ap (λ (n : ℕ). with_lines_first (lines ++ rest.lines) (go_unless_refused rest.refusal n rest.world go)) count
come_to-step {W} {L} (refused fault) w number others go on same =
    let here : number ≡ number + 0 = omega arith in
    ap (λ (n : ℕ). let e : Ending W L = ends (at_refusal fault n) w in e) here

come_to-same : {W L : Type 0} (a : After W L) (number : ℕ) (go go' : W → Ending W L) → ((v : W) → go v ≡ go' v) → come_to a number go ≡ come_to a number go'
come_to-same a number go go' same = ap (with_lines_first a.lines) (go_unless_refused_same a.refusal (number + a.count) a.world go go' same)

module _ {W L : Type 0} (m : Machine W L) where
  goes_lines : (texts : List (List ℕ)) (spare : ℕ) (rest : List ℕ) (end : End) (number : ℕ) (w : W) → AllByRecursion IsScriptLine texts → length (with_newlines texts) ≤ spare
      → goes m spare (with_newlines texts ++ rest) end number w
      ≡ come_to (after m.step texts w) number (λ v. goes m (spare - length (with_newlines texts)) rest end (length texts + number) v)
  unfolding after
  goes_lines [] spare rest end number w are fits =
      let all : spare ≡ spare - 0 = omega arith in
      let first : number ≡ 0 + number = omega arith in
      ap (λ (n : ℕ). goes m n rest end number w) all ∙ ap (λ (n : ℕ). goes m (spare - 0) rest end n w) first
  goes_lines (text ∷ texts) spare rest end number w are fits =
      let later : List ℕ = with_newlines texts ++ rest in
      let parts : with_newlines (text ∷ texts) ++ rest ≡ text ++ 10 ∷ later =
      append_assoc (text ++ 10 ∷ []) (with_newlines texts) rest ∙ append_assoc text (10 ∷ []) later in
      let size : length (with_newlines (text ∷ texts)) ≡ length text + 1 + length (with_newlines texts) =
      length-append (text ++ 10 ∷ []) (with_newlines texts) ∙ ap (λ (n : ℕ). n + length (with_newlines texts)) (length-append text (10 ∷ [])) in
      let left : spare - (length text + 1) - length (with_newlines texts) ≡ spare - length (with_newlines (text ∷ texts)) = omega (arith, size) in
      let last : length texts + (number + 1) ≡ length (text ∷ texts) + number = omega arith in
      let go : W → Ending W L = λ v. goes m (spare - length (with_newlines (text ∷ texts))) rest end (length (text ∷ texts) + number) v in
      let on : W → Ending W L = λ next. goes m (spare - (length text + 1)) later end (number + 1) next in
      ap (λ (bytes : List ℕ). goes m spare bytes end number w) parts
      ∙ goes_at m (line text later) spare (text ++ 10 ∷ later) end number w (line_first spare text later are.0 (omega (arith, size)))
      ∙ come_to-step (m.step text w) w number (after m.step texts) go on
      (λ next.
      goes_lines texts (spare - (length text + 1)) rest end (number + 1) next are.1 (omega (arith, size))
      ∙ come_to-same (after m.step texts next) (number + 1)
      (λ v. goes m (spare - (length text + 1) - length (with_newlines texts)) rest end (length texts + (number + 1)) v) go
      (λ v. ap (λ (n : ℕ). goes m n rest end (length texts + (number + 1)) v) left
      ∙ ap (λ (n : ℕ). goes m (spare - length (with_newlines (text ∷ texts))) rest end n v) last))

  pub script_lines : (w : W) (texts : List (List ℕ)) (rest : List ℕ) (end : End) → AllByRecursion IsScriptLine texts → length (with_newlines texts) ≤ most_of_input
      → transcript m w (with_newlines texts ++ rest) end
      ≡ come_to (after m.step texts w) 1 (λ v. goes m (most_of_input - length (with_newlines texts)) rest end (length texts + 1) v)
  unfolding transcript
  script_lines w texts rest end are fits = goes_lines texts most_of_input rest end 1 w are fits

-- ---- machines that do the same

module _ {W L : Type 0} (m m' : Machine W L) (same : (text : List ℕ) (w : W) → m.step text w ≡ m'.step text w) (same_end : (w : W) → m.finish w ≡ m'.finish w) where
  ending_same : (number : ℕ) (w : W) → ending_at m number w ≡ ending_at m' number w
  ending_same number w = ap (λ (o : Option ℕ). let e : Ending W L = ends (last_by o number) w in e) (same_end w)

  rest_same : (rest : List ℕ) (end : End) (number : ℕ) (w : W) → rest_done m rest end number w ≡ rest_done m' rest end number w
  rest_same [] at_end number w = ending_same number w
  rest_same (b ∷ rest) at_end number w =
      ap (λ (s : Step W L). after_step s number w (λ next. ending_at m (number + 1) next)) (same (b ∷ rest) w)
      ∙ after_step_same (m'.step (b ∷ rest) w) number w (λ next. ending_at m (number + 1) next) (λ next. ending_at m' (number + 1) next) (λ next. ending_same (number + 1) next)
  rest_same [] read_failed number w = refl
  rest_same (b ∷ rest) read_failed number w = refl
  rest_same [] stopped number w = refl
  rest_same (b ∷ rest) stopped number w = refl

  head_same : (h : Head) (end : End) (number : ℕ) (w : W) (go go' : List ℕ → List ℕ → W → Ending W L)
      → ((text rest : List ℕ) (next : W) → go text rest next ≡ go' text rest next) → by_head m h end number w go ≡ by_head m' h end number w go'
  head_same (line text rest) end number w go go' on =
      ap (λ (s : Step W L). after_step s number w (go text rest)) (same text w)
      ∙ after_step_same (m'.step text w) number w (go text rest) (go' text rest) (on text rest)
  head_same long end number w go go' on = refl
  head_same past end number w go go' on = refl
  head_same (unended text) end number w go go' on = rest_same text end number w

  within_same : (n spare : ℕ) (bytes : List ℕ) (end : End) (number : ℕ) (w : W) → goes_within m n spare bytes end number w ≡ goes_within m' n spare bytes end number w
  unfolding goes_within
  within_same zero spare bytes end number w = refl
  within_same (suc n) spare bytes end number w =
      head_same (head_of spare bytes) end number w
      (λ text rest next. goes_within m n (spare - (length text + 1)) rest end (number + 1) next)
      (λ text rest next. goes_within m' n (spare - (length text + 1)) rest end (number + 1) next)
      (λ text rest next. within_same n (spare - (length text + 1)) rest end (number + 1) next)

  pub transcript_same : (w : W) (taken : List ℕ) (end : End) → transcript m w taken end ≡ transcript m' w taken end
  unfolding transcript goes
  transcript_same w taken end = within_same (length taken + 1) most_of_input taken end 1 w

-- lines by what they say
pub and_then_same : {W L : Type 0} (s : Step W L) (w : W) (go go' : W → After W L) → ((v : W) → go v ≡ go' v) → and_then s w go ≡ and_then s w go'
and_then_same (done next lines) w go go' same = ap (one_done lines) (same next)
and_then_same (refused fault) w go go' same = refl

pub after_said : {T S W L : Type 0} (says : T → S) (step : S → W → Step W L) (texts : List T) (w : W) → after (λ text v. step (says text) v) texts w ≡ after step (map says texts) w
unfolding after
after_said says step [] w = refl
after_said says step (text ∷ texts) w =
    and_then_same (step (says text) w) w (after (λ t v. step (says t) v) texts) (after step (map says texts)) (λ v. after_said says step texts v)
