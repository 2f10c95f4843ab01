-- A report more is steady where the reports before were and it isn't the fourth in succession that was lost.
use Rattle.std.proofs.Common.{arith, ◌≡◌, ◌↔◌, ℕ, suc, zero, ◌+◌, ◌<◌, ◌==◌, ◌&&◌, ◌||◌, not, nat_lt, min, if◌then◌else◌, Bool, true, false, List, [], ◌∷◌, ◌++◌, length, get_or, slice_set, length-set, refl, ap, sym, ◌∙◌, rules}
use Rattle.std.proofs.lemmas.Bool.{eqb-true, eqb-false, eq-eqb, false≢true}
use Rattle.std.proofs.lemmas.Grind.{common_steps, get_or-set_at}
use Rattle.std.proofs.lemmas.List.{get_or-set_other}
use Rattle.std.specs.List.{list_all, list_any}
use Rattle.uac_rate.specs.Steadiness.{SteadyHistory, SteadyFields, SteadyStands, one_more, with_report_given, is_slight, run, has_four_lost, loses_few_reports, eight_streams, is_steady, latest_run, HasFourInARow}

here : (p ok a n : Bool) → ((p && ok) && (a && (if n then ok else true))) ≡ ((p && a) && ok)
here false ok a n = refl
here true true true true = refl
here true true true false = refl
here true true false n = refl
here true false true n = refl
here true false false n = refl

elsewhere : (p a t : Bool) → (p && (a && t)) ≡ ((p && a) && t)
elsewhere false a t = refl
elsewhere true a t = refl

-- two tests that differ at one number alone
all_with : (P Q : ℕ → Bool) (stream : ℕ) (ok : Bool) (streams : List ℕ) → Q stream ≡ (P stream && ok)
    → ((k : ℕ) → (k == stream) ≡ false → Q k ≡ P k)
    → list_all Q streams ≡ (list_all P streams && (if list_any (λ k. k == stream) streams then ok else true))
all_with P Q stream ok [] at others = refl
all_with P Q stream ok (x ∷ xs) at others = from (x == stream) refl (all_with P Q stream ok xs at others) where
  from : (b : Bool) → (x == stream) ≡ b → list_all Q xs ≡ (list_all P xs && (if list_any (λ k. k == stream) xs then ok else true))
      → (Q x && list_all Q xs) ≡ ((P x && list_all P xs) && (if (b || list_any (λ k. k == stream) xs) then ok else true))
  from true same rest =
      let x_is : x ≡ stream = eqb-true x stream same in
      let now : Q x ≡ (P x && ok) = ap Q x_is ∙ at ∙ ap (λ k. P k && ok) (sym x_is) in
      ap (λ b. b && list_all Q xs) now ∙ ap (λ b. (P x && ok) && b) rest ∙ here (P x) ok (list_all P xs) (list_any (λ k. k == stream) xs)
  from false other rest =
      ap (λ b. b && list_all Q xs) (others x other) ∙ ap (λ b. P x && b) rest
      ∙ elsewhere (P x) (list_all P xs) (if list_any (λ k. k == stream) xs then ok else true)

is_below_eight : (stream : ℕ) → stream < 8 → list_any (λ k. k == stream) eight_streams ≡ true
is_below_eight zero h = refl
is_below_eight (suc zero) h = refl
is_below_eight (suc (suc zero)) h = refl
is_below_eight (suc (suc (suc zero))) h = refl
is_below_eight (suc (suc (suc (suc zero)))) h = refl
is_below_eight (suc (suc (suc (suc (suc zero))))) h = refl
is_below_eight (suc (suc (suc (suc (suc (suc zero)))))) h = refl
is_below_eight (suc (suc (suc (suc (suc (suc (suc zero))))))) h = refl
is_below_eight (suc (suc (suc (suc (suc (suc (suc (suc n)))))))) h = absurd (omega arith)

keeps : List (List Bool) → Bool
keeps lists = list_all (λ reports. not (has_four_lost reports)) lists

with_true : (b : Bool) → b ≡ (b && true)
with_true false = refl
with_true true = refl

is_fourth : (r : ℕ) (older rest : Bool) → (not (nat_lt 3 r || older) && rest) ≡ ((not older && rest) && nat_lt r 4)
is_fourth zero older rest = with_true (not older && rest)
is_fourth (suc zero) older rest = with_true (not older && rest)
is_fourth (suc (suc zero)) older rest = with_true (not older && rest)
is_fourth (suc (suc (suc zero))) older rest = with_true (not older && rest)
is_fourth (suc (suc (suc (suc n)))) older rest = search rules

keeps_one_more : (lost : Bool) (lists : List (List Bool))
    → keeps (one_more lost lists) ≡ (keeps lists && nat_lt (latest_run (one_more lost lists)) 4)
unfolding keeps
keeps_one_more true [] = refl
keeps_one_more false [] = refl
keeps_one_more lost (latest ∷ earlier) = is_fourth (run (lost ∷ latest)) (has_four_lost latest) (keeps earlier)

and_last : (a b c : Bool) → (a && (b && c)) ≡ ((a && b) && c)
and_last false b c = refl
and_last true b c = refl

steady_after : (given : SteadyHistory) (stream : ℕ) (lost : Bool) → stream < 8
    → is_steady (with_report_given stream lost given) ≡ (is_steady given && nat_lt (latest_run (one_more lost (given.feedback stream))) 4)
unfolding keeps
steady_after given stream lost below =
    let now = one_more lost (given.feedback stream) in
    let others : (k : ℕ) → (k == stream) ≡ false
    → keeps ((with_report_given stream lost given).feedback k) ≡ keeps (given.feedback k) =
    λ k other. ap (λ b. keeps (if b then one_more lost (given.feedback k) else given.feedback k)) other in
    let here_is : keeps ((with_report_given stream lost given).feedback stream) ≡ (keeps (given.feedback stream) && nat_lt (latest_run now) 4) =
    ap (λ b. keeps (if b then one_more lost (given.feedback stream) else given.feedback stream)) (eq-eqb stream stream refl)
    ∙ keeps_one_more lost (given.feedback stream) in
    let all = all_with (λ k. keeps (given.feedback k)) (λ k. keeps ((with_report_given stream lost given).feedback k)) stream
    (nat_lt (latest_run now) 4) eight_streams here_is others in
    let found : (if list_any (λ k. k == stream) eight_streams then nat_lt (latest_run now) 4 else true) ≡ nat_lt (latest_run now) 4 =
    ap (λ b. if b then nat_lt (latest_run now) 4 else true) (is_below_eight stream below) in
    ap (λ b. list_all is_slight given.deviations && b) (all ∙ ap (λ b. loses_few_reports given.feedback eight_streams && b) found)
    ∙ and_last (list_all is_slight given.deviations) (loses_few_reports given.feedback eight_streams) (nat_lt (latest_run now) 4)

held_at_four : (r : ℕ) → nat_lt (min r 4) 4 ≡ nat_lt r 4
held_at_four zero = refl
held_at_four (suc zero) = refl
held_at_four (suc (suc zero)) = refl
held_at_four (suc (suc (suc zero))) = refl
held_at_four (suc (suc (suc (suc n)))) = grind (arith, common_steps)

pub report_stands : (kept : SteadyFields) (given : SteadyHistory) (stream : ℕ) (lost : Bool) (kept_run : ℕ) (holds : Bool) → stream < 8 → SteadyStands kept given
    → kept_run ≡ min (latest_run (one_more lost (given.feedback stream))) 4
    → holds ≡ (kept.holds && nat_lt kept_run 4)
    → SteadyStands (record { holds = holds; runs = slice_set kept.runs stream kept_run }) (with_report_given stream lost given)
report_stands kept given stream lost kept_run holds below stood run_is holds_is =
    let r = latest_run (one_more lost (given.feedback stream)) in
    let short : nat_lt kept_run 4 ≡ nat_lt r 4 = ap (λ (n : ℕ). nat_lt n 4) run_is ∙ held_at_four r in
    record {
      holds = holds_is ∙ ap (λ b. b && nat_lt kept_run 4) stood.holds ∙ ap (λ b. is_steady given && b) short
          ∙ sym (steady_after given stream lost below);
      eight = simp length-set stood.eight;
      runs = λ k h. run_of k h (k == stream) refl;
    } where
      run_of : (k : ℕ) → k < 8 → (b : Bool) → (k == stream) ≡ b
          → get_or (slice_set kept.runs stream kept_run) k 0 ≡ min (latest_run (if b then one_more lost (given.feedback k) else given.feedback k)) 4
      run_of k h true same =
          let k_is : k ≡ stream = eqb-true k stream same in
          let within : stream < length kept.runs = omega (arith, stood.eight) in
          get_or-set_at kept.runs stream k kept_run 0 k_is within ∙ run_is
          ∙ ap (λ (n : ℕ). min (latest_run (one_more lost (given.feedback n))) 4) (sym k_is)
      run_of k h false other =
          get_or-set_other kept.runs stream k kept_run 0 (eqb-false k stream other)
          ∙ stood.runs k h

lost_one : (lists : List (List Bool)) → latest_run (one_more true lists) ≡ suc (latest_run lists)
lost_one [] = refl
lost_one (latest ∷ earlier) = refl

came_one : (lists : List (List Bool)) → latest_run (one_more false lists) ≡ 0
came_one [] = refl
came_one (latest ∷ earlier) = refl

pub after_lost : (lists : List (List Bool)) (lost : Bool) (kept grown run_now : ℕ) → lost ≡ true → kept ≡ min (latest_run lists) 4
    → grown ≡ min (kept + 1) 255 → run_now ≡ min grown 4 → run_now ≡ min (latest_run (one_more lost lists)) 4
after_lost lists lost kept grown run_now is_lost kept_is grown_is run_is =
    let r = latest_run lists in
    let now : run_now ≡ min (suc (latest_run lists)) 4 = omega arith in
    now ∙ ap (λ (n : ℕ). min n 4) (sym (lost_one lists)) ∙ ap (λ b. min (latest_run (one_more b lists)) 4) (sym is_lost)

pub after_one : (lists : List (List Bool)) (lost : Bool) (run_now : ℕ) → lost ≡ false → run_now ≡ 0
    → run_now ≡ min (latest_run (one_more lost lists)) 4
after_one lists lost run_now is_not run_is =
    run_is ∙ ap (λ (n : ℕ). min n 4) (sym (came_one lists)) ∙ ap (λ b. min (latest_run (one_more b lists)) 4) (sym is_not)

in_a_row_first : (lost : Bool) (older : List Bool) → nat_lt 3 (run (lost ∷ older)) ≡ true → HasFourInARow (lost ∷ older)
in_a_row_first false older h = absurd (false≢true h)
in_a_row_first true [] h = absurd (false≢true h)
in_a_row_first true (false ∷ older) h = absurd (false≢true h)
in_a_row_first true (true ∷ []) h = absurd (false≢true h)
in_a_row_first true (true ∷ false ∷ older) h = absurd (false≢true h)
in_a_row_first true (true ∷ true ∷ []) h = absurd (false≢true h)
in_a_row_first true (true ∷ true ∷ false ∷ older) h = absurd (false≢true h)
in_a_row_first true (true ∷ true ∷ true ∷ older) h = record { newer = []; older = older; are = refl }

in_a_row : (reports : List Bool) → has_four_lost reports ≡ true → HasFourInARow reports
in_a_row [] h = absurd (false≢true h)
in_a_row (lost ∷ older) h = from (nat_lt 3 (run (lost ∷ older))) refl h (in_a_row older) where
  from : (b : Bool) → nat_lt 3 (run (lost ∷ older)) ≡ b → (b || has_four_lost older) ≡ true
      → (has_four_lost older ≡ true → HasFourInARow older) → HasFourInARow (lost ∷ older)
  from true first h others = in_a_row_first lost older first
  from false other h others = let rest = others h in
      record { newer = lost ∷ rest.newer; older = rest.older; are = ap (λ (xs : List Bool). lost ∷ xs) rest.are }

or_true : (b : Bool) → (b || true) ≡ true
or_true false = refl
or_true true = refl

four_here : (r : ℕ) → nat_lt 3 (suc (suc (suc (suc r)))) ≡ true
four_here r = search rules

lost_in_a_row : (newer older : List Bool) → has_four_lost (newer ++ true ∷ true ∷ true ∷ true ∷ older) ≡ true
lost_in_a_row [] older = ap (λ b. b || has_four_lost (true ∷ true ∷ true ∷ older)) (four_here (run older))
lost_in_a_row (lost ∷ newer) older =
    let reports = newer ++ true ∷ true ∷ true ∷ true ∷ older in
    ap (λ b. nat_lt 3 (run (lost ∷ reports)) || b) (lost_in_a_row newer older) ∙ or_true (nat_lt 3 (run (lost ∷ reports)))

pub four_in_a_row : (reports : List Bool) → (has_four_lost reports ≡ true) ↔ HasFourInARow reports
four_in_a_row reports = (in_a_row reports, λ h. ap has_four_lost h.are ∙ lost_in_a_row h.newer h.older)
