-- Lines one after the other: one more at the end.
use Rattle.std.proofs.Common.{◌≡◌, ◌∙◌, sym, ap, refl, ℕ, ◌+◌, List, [], ◌∷◌, ◌++◌, Option, None, Some, Result, append_assoc}
use Rattle.std.proofs.lemmas.List.{append-nil}
use Rattle.uac_script.specs.Phrase.{Phrase}
use Rattle.uac_transcript.specs.Transcript.{Said}
use Rattle.uac_fault.specs.declared.fault.BusFault.{BusFault}
use Rattle.uac_rows.specs.BusWorld.{BusWorld, Step, done, refused}
use Rattle.uac_rows.specs.After.{After, after, and_then, one_done, said_step, step_added, no_line_done, with_one_more}

-- a line of no others
first_line : (s : Step) (w : BusWorld) → and_then s w no_line_done ≡ step_added s (no_line_done w)
first_line (done next lines) w = ap (λ (ls : List Said). let a : After = record { lines = ls; world = next; count = 1; refusal = None } in a) (append-nil lines)
first_line (refused fault) w = refl

-- one more after a line and others is one more after the others
after_done : (said : Result Phrase ℕ) (lines : List Said) (rest : After) → one_done lines (with_one_more said rest) ≡ with_one_more said (one_done lines rest)
after_done said lines rest = by_refusal rest.lines rest.world rest.count rest.refusal
  where
    after_step : (s : Step) (ls : List Said) (w : BusWorld) (n : ℕ) (r : Option BusFault)
        → one_done lines (step_added s (record { lines = ls; world = w; count = n; refusal = r })) ≡ step_added s (one_done lines (record { lines = ls; world = w; count = n; refusal = r }))
    after_step (done next more) ls w n r =
        ap (λ (xs : List Said). let a : After = record { lines = xs; world = next; count = n + 1 + 1; refusal = r } in a) (sym (append_assoc lines ls more))
    after_step (refused fault) ls w n r = refl

    by_refusal : (ls : List Said) (w : BusWorld) (n : ℕ) (r : Option BusFault)
        → one_done lines (with_one_more said (record { lines = ls; world = w; count = n; refusal = r })) ≡ with_one_more said (one_done lines (record { lines = ls; world = w; count = n; refusal = r }))
    by_refusal ls w n None = after_step (said_step said w) ls w n None
    by_refusal ls w n (Some fault) = refl

and_then_more : (said : Result Phrase ℕ) (s : Step) (w : BusWorld) (go go' : BusWorld → After) → ((next : BusWorld) → go next ≡ with_one_more said (go' next))
    → and_then s w go ≡ with_one_more said (and_then s w go')
and_then_more said (done next lines) w go go' same = ap (one_done lines) (same next) ∙ after_done said lines (go' next)
and_then_more said (refused fault) w go go' same = refl

pub after_one_more : (saids : List (Result Phrase ℕ)) (said : Result Phrase ℕ) (w : BusWorld) → after (saids ++ said ∷ []) w ≡ with_one_more said (after saids w)
unfolding after
after_one_more [] said w = first_line (said_step said w) w
after_one_more (first ∷ saids) said w =
    and_then_more said (said_step first w) w (after (saids ++ said ∷ [])) (after saids) (λ next. after_one_more saids said next)
