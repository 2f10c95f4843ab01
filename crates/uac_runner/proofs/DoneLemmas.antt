-- A transcript is lived: the lines that were done, and how it ended after them.
use Rattle.std.proofs.Common.{◌≡◌, ◌∙◌, sym, refl, ap, subst, ℕ, zero, suc, ◌+◌, ◌-◌, inl, inr, List, [], ◌∷◌, ◌++◌, length, append_assoc}
use Rattle.uac_edges.specs.TextLines.{with_newlines}
use Rattle.uac_lines.specs.ScriptLines.{Head, line, long, past, unended, head_of, most_of_input}
use Rattle.uac_lines.proofs.ScriptLinesLemmas.{head_unended-all}
use Rattle.uac_runner.specs.Machine.{Machine, After, Step, done, refused, after, and_then}
use Rattle.uac_ends.specs.Outcome.{End, Last, at_end, read_failed, stopped, at_refusal, at_long_line, past_limit, at_failed_read, no_more_lines}
use Rattle.uac_runner.specs.Transcript.{Ending, after_step, with_lines_first, ends, ending_at, by_head, goes, goes_within, rest_done, transcript, last_by}
use Rattle.uac_runner.specs.Done.{AreFirst, IsScriptLine, IsDone, IsWanted}
use Rattle.uac_runner.proofs.CutLemmas.{front_cut, rest_cut}

-- ---- one line in front

first_one : (text : List ℕ) (texts : List (List ℕ)) (rest : List ℕ) → AreFirst texts rest → AreFirst (text ∷ texts) (text ++ 10 ∷ rest)
first_one text texts rest (inl (more, is)) =
    inl (more, ap (λ (r : List ℕ). text ++ 10 ∷ r) is ∙ sym (joined (with_newlines texts ++ more)))
  where
    joined : (r : List ℕ) → with_newlines (text ∷ texts) ++ more ≡ text ++ 10 ∷ (with_newlines texts ++ more)
    joined r = append_assoc (text ++ 10 ∷ []) (with_newlines texts) more ∙ append_assoc text (10 ∷ []) (with_newlines texts ++ more)
first_one text texts rest (inr (front, last, are, is)) =
    inr (text ∷ front, last, ap (λ (ts : List (List ℕ)). text ∷ ts) are, ap (λ (r : List ℕ). text ++ 10 ∷ r) is ∙ sym joined)
  where
    joined : with_newlines (text ∷ front) ++ last ≡ text ++ 10 ∷ (with_newlines front ++ last)
    joined = append_assoc (text ++ 10 ∷ []) (with_newlines front) last ∙ append_assoc text (10 ∷ []) (with_newlines front ++ last)

module _ {W L : Type 0} (m : Machine W L) where
  -- no line was done
  none_lived : (w : W) (bytes : List ℕ) (last : Last) → IsDone m w bytes (ends last w)
  unfolding after
  none_lived w bytes last =
      record { texts = []; lines = tt; first = inl (bytes, refl); done = refl; printed = refl; world = refl }

  -- what lines come to whose first one is done
  after_first : (text : List ℕ) (texts : List (List ℕ)) (w next : W) (lines : List L) → m.step text w ≡ done next lines
      → after m.step (text ∷ texts) w ≡ and_then (done next lines) w (after m.step texts)
  unfolding after
  after_first text texts w next lines is = ap (λ (s : Step W L). and_then s w (after m.step texts)) is

  one_first : (text rest : List ℕ) (w next : W) (lines : List L) (ending : Ending W L) → IsScriptLine text
      → m.step text w ≡ done next lines → IsDone m next rest ending
      → IsDone m w (text ++ 10 ∷ rest) (with_lines_first lines ending)
  one_first text rest w next lines ending is_line step lived =
      let all : after m.step (text ∷ lived.texts) w ≡ and_then (done next lines) w (after m.step lived.texts) =
      after_first text lived.texts w next lines step in
      record {
        texts = text ∷ lived.texts;
        lines = (is_line, lived.lines);
        first = first_one text lived.texts rest lived.first;
        done = ap (λ (a : After W L). a.refusal) all ∙ lived.done;
        printed = ap (λ (ls : List L). lines ++ ls) lived.printed ∙ sym (ap (λ (a : After W L). a.lines) all);
        world = lived.world ∙ sym (ap (λ (a : After W L). a.world) all);
      }

  -- the last line, which no newline ends
  last_done : (text : List ℕ) (number : ℕ) (w next : W) (lines : List L) → IsScriptLine text → m.step text w ≡ done next lines
      → IsDone m w text (with_lines_first lines (ending_at m number next))
  unfolding after
  last_done text number w next lines is_line step =
      let all : after m.step (text ∷ []) w ≡ and_then (done next lines) w (after m.step []) = after_first text [] w next lines step in
      record {
        texts = text ∷ [];
        lines = (is_line, tt);
        first = inr ([], text, refl, refl);
        done = ap (λ (a : After W L). a.refusal) all;
        printed = sym (ap (λ (a : After W L). a.lines) all);
        world = sym (ap (λ (a : After W L). a.world) all);
      }

  last_lived : (s : Step W L) (text : List ℕ) (number : ℕ) (w : W) → IsScriptLine text → m.step text w ≡ s
      → IsDone m w text (after_step s number w (λ next. ending_at m (number + 1) next))
  last_lived (done next lines) text number w is_line step = last_done text (number + 1) w next lines is_line step
  last_lived (refused fault) text number w is_line step = none_lived w text (at_refusal fault number)

  rest_lived : (rest : List ℕ) (end : End) (number : ℕ) (w : W) → IsScriptLine rest → IsDone m w rest (rest_done m rest end number w)
  rest_lived [] at_end number w is_line = none_lived w [] (last_by (m.finish w) number)
  rest_lived (b ∷ rest) at_end number w is_line = last_lived (m.step (b ∷ rest) w) (b ∷ rest) number w is_line refl
  rest_lived [] read_failed number w is_line = none_lived w [] at_failed_read
  rest_lived (b ∷ rest) read_failed number w is_line = none_lived w (b ∷ rest) at_failed_read
  rest_lived [] stopped number w is_line = none_lived w [] no_more_lines
  rest_lived (b ∷ rest) stopped number w is_line = none_lived w (b ∷ rest) no_more_lines

  -- ---- all lines

  step_lived : (s : Step W L) (text rest : List ℕ) (number : ℕ) (w : W) (go : W → Ending W L) → IsScriptLine text → m.step text w ≡ s
      → ((next : W) → IsDone m next rest (go next)) → IsDone m w (text ++ 10 ∷ rest) (after_step s number w go)
  step_lived (done next lines) text rest number w go is_line step lived = one_first text rest w next lines (go next) is_line step (lived next)
  step_lived (refused fault) text rest number w go is_line step lived = none_lived w (text ++ 10 ∷ rest) (at_refusal fault number)

  goes_lived : (n spare : ℕ) (bytes : List ℕ) (end : End) (number : ℕ) (w : W) → IsDone m w bytes (goes_within m n spare bytes end number w)
  unfolding goes_within
  goes_lived zero spare bytes end number w = none_lived w bytes no_more_lines
  goes_lived (suc n) spare bytes end number w =
      by (λ text rest next. goes_lived n (spare - (length text + 1)) rest end (number + 1) next) (head_of spare bytes) refl
    where
      by : ((text rest : List ℕ) (next : W)
          → IsDone m next rest (goes_within m n (spare - (length text + 1)) rest end (number + 1) next))
          → (h : Head) → head_of spare bytes ≡ h
          → IsDone m w bytes (by_head m h end number w (λ text rest next. goes_within m n (spare - (length text + 1)) rest end (number + 1) next))
      by later (line text rest) is =
          let cut = front_cut spare bytes text rest is in
          subst (λ (b : List ℕ).
          IsDone m w b (after_step (m.step text w) number w
          (λ next. goes_within m n (spare - (length text + 1)) rest end (number + 1) next))) (sym cut.1)
          (step_lived (m.step text w) text rest number w (λ next. goes_within m n (spare - (length text + 1)) rest end (number + 1) next) cut.0 refl (later text rest))
      by later long is = none_lived w bytes (at_long_line number)
      by later past is = none_lived w bytes past_limit
      by later (unended text) is =
          let same : text ≡ bytes = (head_unended-all spare bytes text is).0 in
          subst (λ (t : List ℕ). IsDone m w bytes (rest_done m t end number w)) (sym same)
          (rest_lived bytes end number w (rest_cut spare bytes (is ∙ ap unended same)))

  pub transcript_is_lived : (w : W) (taken : List ℕ) (end : End) → IsDone m w taken (transcript m w taken end)
  unfolding transcript goes
  transcript_is_lived w taken end = goes_lived (length taken + 1) most_of_input taken end 1 w

  -- where memory was wanted at a line, those in front of it were done
  pub wanted_is_lived : (w : W) (taken : List ℕ) (ending : Ending W L) → IsWanted m w taken ending → IsDone m w taken ending
  wanted_is_lived w taken ending is = record {
    texts = is.texts;
    lines = is.lines;
    first = inl (is.text ++ is.rest, is.cut);
    done = is.done;
    printed = ap (λ (e : Ending W L). e.lines) is.is;
    world = ap (λ (e : Ending W L). e.world) is.is;
  }
