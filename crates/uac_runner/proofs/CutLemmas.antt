-- The bytes that were taken as the lines done so far, each with its newline, and what stands after them.
use Rattle.std.proofs.Common.{◌≡◌, ◌≢◌, ℕ, ◌+◌, ◌<◌, ◌≤◌, ◌==◌, List, [], ◌∷◌, ◌++◌, length, take, drop, get_or, Option, None, Some, refl, sym, ap, subst, ◌∙◌, arith, append_assoc}
use Rattle.std.specs.List.{All, AllByRecursion}
use Rattle.std.proofs.lemmas.Bool.{eqb-true, eqb-false}
use Rattle.std.proofs.lemmas.List.{append-nil, length-take, take_all, get_or-take}
use Rattle.std.proofs.lemmas.List.Sums.{split_at_first, passes_at_first, fails_before_first}
use Rattle.std.proofs.ByRecursion.{All-push}
use Rattle.uac_edges.specs.TextLines.{with_newlines}
use Rattle.uac_lines.specs.ScriptLines.{line, unended, head_of}
use Rattle.uac_lines.specs.Looking.{line_end}
use Rattle.uac_lines.proofs.ScriptLinesLemmas.{Cases, is_long, is_line, is_past, is_unended, cases_of, line_end_in}
use Rattle.uac_ends.specs.declared.fault.LineFault.{LineFault}
use Rattle.uac_runner.specs.Machine.{Machine, Step, done, refused, After, after, if_refused, and_then, one_done, no_line_done, step_added, with_one_more}
use Rattle.uac_runner.specs.Done.{IsScriptLine}

-- ---- a line that was cut out of bytes

-- before the first newline there is none
no_newline : (n : ℕ) (bytes : List ℕ) → n ≤ line_end bytes → All (λ b. b ≢ 10) (take n bytes)
no_newline n bytes within k d below =
    let before : k < n = omega (arith, length-take n bytes) in
    let inside : k < line_end bytes = omega arith in
    λ is. eqb-false (get_or bytes k d) 10 (fails_before_first (λ b. b == 10) bytes k d inside) (sym (get_or-take n bytes k d before) ∙ is)

-- bytes with a newline are what stands before it, it, and what stands after it
around_newline : (bytes : List ℕ) → line_end bytes < length bytes → bytes ≡ take (line_end bytes) bytes ++ 10 ∷ drop (line_end bytes + 1) bytes
around_newline bytes some =
    split_at_first (λ b. b == 10) bytes 0 some
    ∙ ap (λ (b : ℕ). take (line_end bytes) bytes ++ b ∷ drop (line_end bytes + 1) bytes)
    (eqb-true (get_or bytes (line_end bytes) 0) 10 (passes_at_first (λ b. b == 10) bytes 0 some))

-- a line in front of bytes, its newline, and the rest are all of them
pub front_cut : (spare : ℕ) (bytes text rest : List ℕ) → head_of spare bytes ≡ line text rest → IsScriptLine text × (bytes ≡ text ++ 10 ∷ rest)
front_cut spare bytes text rest h = go (cases_of spare bytes)
  where
    go : Cases spare bytes → IsScriptLine text × (bytes ≡ text ++ 10 ∷ rest)
    go (is_long many e) = absurd (cc)
    go (is_past few none more e) = absurd (cc)
    go (is_unended few none within e) = absurd (cc)
    go (is_line few some e) =
        let size = line_end (take spare bytes) in
        let same : line text rest ≡ line (take size bytes) (drop (size + 1) bytes) = sym h ∙ e in
        let text-is : text ≡ take size bytes = cc in
        let rest-is : rest ≡ drop (size + 1) bytes = cc in
        let size-is : line_end bytes ≡ size = omega (arith, line_end_in spare bytes, length-take spare bytes) in
        let there : line_end bytes < length bytes = omega (arith, length-take spare bytes) in
        let parts : bytes ≡ take size bytes ++ 10 ∷ drop (size + 1) bytes = subst (λ (n : ℕ). bytes ≡ take n bytes ++ 10 ∷ drop (n + 1) bytes) size-is (around_newline bytes there) in
        let own : IsScriptLine (take size bytes) = record {
          short = (let all : length (take size bytes) ≤ size = omega (arith, length-take size bytes) in omega arith);
          whole = no_newline size bytes (omega arith);
        } in (
          subst IsScriptLine (sym text-is) own,
          parts ∙ ap (λ (t : List ℕ). t ++ 10 ∷ drop (size + 1) bytes) (sym text-is) ∙ ap (λ (r : List ℕ). text ++ 10 ∷ r) (sym rest-is),
        )

-- bytes that no newline ends are a line
pub rest_cut : (spare : ℕ) (bytes : List ℕ) → head_of spare bytes ≡ unended bytes → IsScriptLine bytes
rest_cut spare bytes h = go (cases_of spare bytes)
  where
    go : Cases spare bytes → IsScriptLine bytes
    go (is_long many e) = absurd (cc)
    go (is_past few none more e) = absurd (cc)
    go (is_line few some e) = absurd (cc)
    go (is_unended few none within e) =
        let size : length bytes ≤ line_end bytes = omega (arith, line_end_in spare bytes, length-take spare bytes) in
        let all : take (length bytes) bytes ≡ bytes = take_all (length bytes) bytes (omega arith) in
        record {
          short = (omega (arith, length-take spare bytes));
          whole = subst (λ (t : List ℕ). All (λ b. b ≢ 10) t) all (no_newline (length bytes) bytes size);
        }

-- ---- one line more

module _ {T W L : Type 0} (step : T → W → Step W L) where
  -- a line of no others
  first_line : (s : Step W L) (w : W) → and_then s w no_line_done ≡ step_added s (no_line_done w)
  first_line (done next lines) w = ap (λ (ls : List L). let a : After W L = record { lines = ls; world = next; count = 1; refusal = None } in a) (append-nil lines)
  first_line (refused fault) w = refl

  -- one more after a line and others is one more after the others
  after_done : (said : T) (lines : List L) (rest : After W L) → one_done lines (with_one_more step said rest) ≡ with_one_more step said (one_done lines rest)
  after_done said lines rest = by_refusal rest.lines rest.world rest.count rest.refusal
    where
      after_step : (s : Step W L) (ls : List L) (w : W) (n : ℕ) (r : Option LineFault)
          → one_done lines (step_added s (record { lines = ls; world = w; count = n; refusal = r })) ≡ step_added s (one_done lines (record { lines = ls; world = w; count = n; refusal = r }))
      after_step (done next more) ls w n r =
          ap (λ (xs : List L). let a : After W L = record { lines = xs; world = next; count = n + 1 + 1; refusal = r } in a) (sym (append_assoc lines ls more))
      after_step (refused fault) ls w n r = refl

      by_refusal : (ls : List L) (w : W) (n : ℕ) (r : Option LineFault)
          → one_done lines (with_one_more step said (record { lines = ls; world = w; count = n; refusal = r })) ≡ with_one_more step said (one_done lines (record { lines = ls; world = w; count = n; refusal = r }))
      by_refusal ls w n None = after_step (step said w) ls w n None
      by_refusal ls w n (Some fault) = refl

  and_then_more : (said : T) (s : Step W L) (w : W) (go go' : W → After W L) → ((next : W) → go next ≡ with_one_more step said (go' next))
      → and_then s w go ≡ with_one_more step said (and_then s w go')
  and_then_more said (done next lines) w go go' same = ap (one_done lines) (same next) ∙ after_done said lines (go' next)
  and_then_more said (refused fault) w go go' same = refl

  pub after_one_more : (saids : List T) (said : T) (w : W) → after step (saids ++ said ∷ []) w ≡ with_one_more step said (after step saids w)
  unfolding after
  after_one_more [] said w = first_line (step said w) w
  after_one_more (first ∷ saids) said w =
      and_then_more said (step first w) w (after step (saids ++ said ∷ [])) (after step saids) (λ next. after_one_more saids said next)

-- one line more, with its newline
with_one : (texts : List (List ℕ)) (told rest : List ℕ) → with_newlines (texts ++ told ∷ []) ++ rest ≡ with_newlines texts ++ (told ++ 10 ∷ rest)
with_one [] told rest = ap (λ (xs : List ℕ). xs ++ rest) (append-nil (told ++ 10 ∷ [])) ∙ append_assoc told (10 ∷ []) rest
with_one (text ∷ texts) told rest =
    append_assoc (text ++ 10 ∷ []) (with_newlines (texts ++ told ∷ [])) rest
    ∙ ap (λ (xs : List ℕ). (text ++ 10 ∷ []) ++ xs) (with_one texts told rest)
    ∙ sym (append_assoc (text ++ 10 ∷ []) (with_newlines texts) (told ++ 10 ∷ rest))

-- ---- the lines that were done

-- The lines done so far, each with its newline, are the bytes but for what stands after them; what was printed and the world are what they
-- come to, and none was refused.
pub record HasDone {W L : Type 0} (m : Machine W L) (w0 : W) (taken : List ℕ) (printed : List L) (unread : List ℕ) (w : W) : Type 0 where
  pub texts : List (List ℕ)
  pub lines : AllByRecursion IsScriptLine texts
  pub cut : taken ≡ with_newlines texts ++ unread
  pub are : printed ≡ (after m.step texts w0).lines
  pub reached : w ≡ (after m.step texts w0).world
  pub accepted : (after m.step texts w0).refusal ≡ None

module _ {W L : Type 0} (m : Machine W L) where
  pub none_done : (w0 : W) → HasDone m w0 [] [] [] w0
  unfolding after
  none_done w0 = record { texts = []; lines = tt; cut = refl; are = refl; reached = refl; accepted = refl }

  -- more bytes stand after them
  pub done_more : (w0 : W) (taken : List ℕ) (printed : List L) (unread : List ℕ) (w : W) (got : List ℕ) → HasDone m w0 taken printed unread w
      → HasDone m w0 (taken ++ got) printed (unread ++ got) w
  done_more w0 taken printed unread w got d = record {
    texts = d.texts;
    lines = d.lines;
    cut = ap (λ (xs : List ℕ). xs ++ got) d.cut ∙ append_assoc (with_newlines d.texts) unread got;
    are = d.are;
    reached = d.reached;
    accepted = d.accepted;
  }

  -- one line more that is done, after lines that were
  done_following : (said : List ℕ) (a : After W L) (next : W) (more : List L) → a.refusal ≡ None → m.step said a.world ≡ done next more → with_one_more m.step said a ≡ step_added (done next more) a
  done_following said a next more none is =
      ap (λ (o : Option LineFault). if_refused o a (step_added (m.step said a.world) a)) none ∙ ap (λ (s : Step W L). step_added s a) is

  pub one_more_done : (w0 : W) (taken : List ℕ) (printed : List L) (told rest : List ℕ) (w next : W) (more : List L) → HasDone m w0 taken printed (told ++ 10 ∷ rest) w → IsScriptLine told
      → m.step told w ≡ done next more → HasDone m w0 taken (printed ++ more) rest next
  one_more_done w0 taken printed told rest w next more d is_told is =
      let a : After W L = after m.step d.texts w0 in
      let now : After W L = after m.step (d.texts ++ told ∷ []) w0 in
      let same : now ≡ step_added (done next more) a =
      after_one_more m.step d.texts told w0
      ∙ done_following told a next more d.accepted (ap (m.step told) (sym d.reached) ∙ is) in
      record {
        texts = d.texts ++ told ∷ [];
        lines = All-push IsScriptLine d.texts told d.lines is_told;
        cut = d.cut ∙ sym (with_one d.texts told rest);
        are = ap (λ (lines : List L). lines ++ more) d.are ∙ sym (ap (λ (x : After W L). x.lines) same);
        reached = sym (ap (λ (x : After W L). x.world) same);
        accepted = ap (λ (x : After W L). x.refusal) same ∙ d.accepted;
      }
