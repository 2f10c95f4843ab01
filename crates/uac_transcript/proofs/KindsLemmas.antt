-- Which kind of line a spelling is of, by its first bytes; and its numbers, by the others.
use Rattle.std.proofs.Common.{◌≡◌, ◌≢◌, ◌∙◌, refl, sym, ap, subst, arith, ℕ, List, [], ◌∷◌, ◌++◌, get_or, drop, append_assoc, codes, decimal, Option, None, Some}
use Rattle.std.specs.List.{All}
use Rattle.std.proofs.lemmas.Fmt.{decimal_injective}
use Rattle.std.proofs.lemmas.List.{append_cancel_right}
use Rattle.std.proofs.lemmas.List.Elements.{All-head}
use Rattle.uac_transcript.specs.Spellings.{IsCountOrNone, IsInRange, SaysLevel, SaysOver, SaysUnder}
use Rattle.uac_transcript.specs.Transcript.{Said, spelling_of, number_or_dash}
use Rattle.uac_transcript.specs.Transcript.{gave, was_done, transfer_was_stalled, broke, element_has_value, is_unknown, was_set, element_was_stalled, was_broken}
use Rattle.uac_transcript.specs.Transcript.{says_ready, says_microframe, says_out, says_in, says_frame, says_played, says_under, says_over, says_level, says_feedback, says_answer, says_view}
use Rattle.uac_transcript.specs.Transcript.{says_time, says_steady, says_domain, says_out_stream, says_in_stream, says_meter, says_renders, says_misread, says_refused, says_unsound}
use Rattle.uac_transcript.specs.Transcript.{says_no_memory, says_read_fault, says_too_long}
use Rattle.uac_transcript.proofs.SpellingsLemmas.{decimal-without, same_before}

-- ---- by two bytes

under_by_bytes : (said : Said) → get_or (spelling_of said) 0 0 ≡ 117 → get_or (spelling_of said) 1 0 ≡ 110 → SaysUnder said
unfolding spelling_of
under_by_bytes (says_ready a b d) e f = absurd (omega arith)
under_by_bytes (says_microframe a) e f = absurd (omega arith)
under_by_bytes (says_out a b d) e f = absurd (omega arith)
under_by_bytes (says_in a b d) e f = absurd (omega arith)
under_by_bytes (says_frame a b) e f = absurd (omega arith)
under_by_bytes (says_played a b) e f = absurd (omega arith)
under_by_bytes (says_under a) e f = (a, refl)
under_by_bytes (says_over a) e f = absurd (omega arith)
under_by_bytes (says_level a b d) e f = absurd (omega arith)
under_by_bytes (says_feedback a b d) e f = absurd (omega arith)
under_by_bytes (says_answer (gave b)) e f = absurd (omega arith)
under_by_bytes (says_answer was_done) e f = absurd (omega arith)
under_by_bytes (says_answer (transfer_was_stalled rule)) e f = absurd (omega arith)
under_by_bytes (says_answer broke) e f = absurd (omega arith)
under_by_bytes (says_view (element_has_value n v)) e f = absurd (omega arith)
under_by_bytes (says_view (is_unknown n)) e f = absurd (omega arith)
under_by_bytes (says_view was_set) e f = absurd (omega arith)
under_by_bytes (says_view (element_was_stalled rule)) e f = absurd (omega arith)
under_by_bytes (says_view was_broken) e f = absurd (omega arith)
under_by_bytes (says_time a) e f = absurd (omega arith)
under_by_bytes (says_steady a) e f = absurd (omega arith)
under_by_bytes (says_domain a b d) e f = absurd (omega arith)
under_by_bytes (says_out_stream a b d t m) e f = absurd (omega arith)
under_by_bytes (says_in_stream a b d o l) e f = absurd (omega arith)
under_by_bytes (says_meter a) e f = absurd (omega arith)
under_by_bytes (says_renders a) e f = absurd (omega arith)
under_by_bytes (says_misread a b) e f = absurd (omega arith)
under_by_bytes (says_refused a b) e f = absurd (omega arith)
under_by_bytes (says_unsound a b d) e f = absurd (omega arith)
under_by_bytes says_no_memory e f = absurd (omega arith)
under_by_bytes says_read_fault e f = absurd (omega arith)
under_by_bytes says_too_long e f = absurd (omega arith)

over_by_bytes : (said : Said) → get_or (spelling_of said) 0 0 ≡ 111 → get_or (spelling_of said) 1 0 ≡ 118 → SaysOver said
unfolding spelling_of
over_by_bytes (says_ready a b d) e f = absurd (omega arith)
over_by_bytes (says_microframe a) e f = absurd (omega arith)
over_by_bytes (says_out a b d) e f = absurd (omega arith)
over_by_bytes (says_in a b d) e f = absurd (omega arith)
over_by_bytes (says_frame a b) e f = absurd (omega arith)
over_by_bytes (says_played a b) e f = absurd (omega arith)
over_by_bytes (says_under a) e f = absurd (omega arith)
over_by_bytes (says_over a) e f = (a, refl)
over_by_bytes (says_level a b d) e f = absurd (omega arith)
over_by_bytes (says_feedback a b d) e f = absurd (omega arith)
over_by_bytes (says_answer (gave b)) e f = absurd (omega arith)
over_by_bytes (says_answer was_done) e f = absurd (omega arith)
over_by_bytes (says_answer (transfer_was_stalled rule)) e f = absurd (omega arith)
over_by_bytes (says_answer broke) e f = absurd (omega arith)
over_by_bytes (says_view (element_has_value n v)) e f = absurd (omega arith)
over_by_bytes (says_view (is_unknown n)) e f = absurd (omega arith)
over_by_bytes (says_view was_set) e f = absurd (omega arith)
over_by_bytes (says_view (element_was_stalled rule)) e f = absurd (omega arith)
over_by_bytes (says_view was_broken) e f = absurd (omega arith)
over_by_bytes (says_time a) e f = absurd (omega arith)
over_by_bytes (says_steady a) e f = absurd (omega arith)
over_by_bytes (says_domain a b d) e f = absurd (omega arith)
over_by_bytes (says_out_stream a b d t m) e f = absurd (omega arith)
over_by_bytes (says_in_stream a b d o l) e f = absurd (omega arith)
over_by_bytes (says_meter a) e f = absurd (omega arith)
over_by_bytes (says_renders a) e f = absurd (omega arith)
over_by_bytes (says_misread a b) e f = absurd (omega arith)
over_by_bytes (says_refused a b) e f = absurd (omega arith)
over_by_bytes (says_unsound a b d) e f = absurd (omega arith)
over_by_bytes says_no_memory e f = absurd (omega arith)
over_by_bytes says_read_fault e f = absurd (omega arith)
over_by_bytes says_too_long e f = absurd (omega arith)

level_by_bytes : (said : Said) → get_or (spelling_of said) 0 0 ≡ 108 → get_or (spelling_of said) 1 0 ≡ 32 → SaysLevel said
unfolding spelling_of
level_by_bytes (says_ready a b d) e f = absurd (omega arith)
level_by_bytes (says_microframe a) e f = absurd (omega arith)
level_by_bytes (says_out a b d) e f = absurd (omega arith)
level_by_bytes (says_in a b d) e f = absurd (omega arith)
level_by_bytes (says_frame a b) e f = absurd (omega arith)
level_by_bytes (says_played a b) e f = absurd (omega arith)
level_by_bytes (says_under a) e f = absurd (omega arith)
level_by_bytes (says_over a) e f = absurd (omega arith)
level_by_bytes (says_level a b d) e f = (a, b, d, refl)
level_by_bytes (says_feedback a b d) e f = absurd (omega arith)
level_by_bytes (says_answer (gave b)) e f = absurd (omega arith)
level_by_bytes (says_answer was_done) e f = absurd (omega arith)
level_by_bytes (says_answer (transfer_was_stalled rule)) e f = absurd (omega arith)
level_by_bytes (says_answer broke) e f = absurd (omega arith)
level_by_bytes (says_view (element_has_value n v)) e f = absurd (omega arith)
level_by_bytes (says_view (is_unknown n)) e f = absurd (omega arith)
level_by_bytes (says_view was_set) e f = absurd (omega arith)
level_by_bytes (says_view (element_was_stalled rule)) e f = absurd (omega arith)
level_by_bytes (says_view was_broken) e f = absurd (omega arith)
level_by_bytes (says_time a) e f = absurd (omega arith)
level_by_bytes (says_steady a) e f = absurd (omega arith)
level_by_bytes (says_domain a b d) e f = absurd (omega arith)
level_by_bytes (says_out_stream a b d t m) e f = absurd (omega arith)
level_by_bytes (says_in_stream a b d o l) e f = absurd (omega arith)
level_by_bytes (says_meter a) e f = absurd (omega arith)
level_by_bytes (says_renders a) e f = absurd (omega arith)
level_by_bytes (says_misread a b) e f = absurd (omega arith)
level_by_bytes (says_refused a b) e f = absurd (omega arith)
level_by_bytes (says_unsound a b d) e f = absurd (omega arith)
level_by_bytes says_no_memory e f = absurd (omega arith)
level_by_bytes says_read_fault e f = absurd (omega arith)
level_by_bytes says_too_long e f = absurd (omega arith)

pub under_by_beginning : (said : Said) (rest : List ℕ) → spelling_of said ≡ codes "under " ++ rest → SaysUnder said
under_by_beginning said rest e = under_by_bytes said (ap (λ (xs : List ℕ). get_or xs 0 0) e) (ap (λ (xs : List ℕ). get_or xs 1 0) e)

pub over_by_beginning : (said : Said) (rest : List ℕ) → spelling_of said ≡ codes "over " ++ rest → SaysOver said
over_by_beginning said rest e = over_by_bytes said (ap (λ (xs : List ℕ). get_or xs 0 0) e) (ap (λ (xs : List ℕ). get_or xs 1 0) e)

pub level_by_beginning : (said : Said) (rest : List ℕ) → spelling_of said ≡ codes "l " ++ rest → SaysLevel said
level_by_beginning said rest e = level_by_bytes said (ap (λ (xs : List ℕ). get_or xs 0 0) e) (ap (λ (xs : List ℕ). get_or xs 1 0) e)

-- ---- its numbers

under_numbers : (m n : ℕ) → IsInRange (says_under m) → IsInRange (says_under n) → spelling_of (says_under m) ≡ spelling_of (says_under n) → m ≡ n
unfolding spelling_of IsInRange
under_numbers m n p q e = decimal_injective m n p q (append_cancel_right (decimal m) (decimal n) (codes "\n") (ap (drop 6) e))

over_numbers : (m n : ℕ) → IsInRange (says_over m) → IsInRange (says_over n) → spelling_of (says_over m) ≡ spelling_of (says_over n) → m ≡ n
unfolding spelling_of IsInRange
over_numbers m n p q e = decimal_injective m n p q (append_cancel_right (decimal m) (decimal n) (codes "\n") (ap (drop 5) e))

-- a dash is no number
target_numbers : (s t : Option ℕ) → IsCountOrNone s → IsCountOrNone t → number_or_dash s ≡ number_or_dash t → s ≡ t
target_numbers None None p q e = refl
target_numbers None (Some n) p q e = absurd (All-head (λ b. b ≢ 45) 45 [] (subst (All (λ b. b ≢ 45)) (sym e) (decimal-without 45 n (omega arith))) refl)
target_numbers (Some m) None p q e = absurd (All-head (λ b. b ≢ 45) 45 [] (subst (All (λ b. b ≢ 45)) e (decimal-without 45 m (omega arith))) refl)
target_numbers (Some m) (Some n) p q e = ap Some (decimal_injective m n p q e)

-- three words, each but the last before a space
three_words : (a b c : List ℕ) → ((((a ++ codes " ") ++ b) ++ codes " ") ++ c) ++ codes "\n" ≡ a ++ 32 ∷ (b ++ 32 ∷ (c ++ 10 ∷ []))
three_words a b c = simp append_assoc

level_numbers : (i j l k : ℕ) (s t : Option ℕ) → IsInRange (says_level i l s) → IsInRange (says_level j k t)
    → spelling_of (says_level i l s) ≡ spelling_of (says_level j k t) → (i ≡ j) × (l ≡ k) × (s ≡ t)
unfolding spelling_of IsInRange
level_numbers i j l k s t p q e =
    let words : decimal i ++ 32 ∷ (decimal l ++ 32 ∷ (number_or_dash s ++ 10 ∷ [])) ≡ decimal j ++ 32 ∷ (decimal k ++ 32 ∷ (number_or_dash t ++ 10 ∷ [])) =
    sym (three_words (decimal i) (decimal l) (number_or_dash s)) ∙ (ap (drop 2) e ∙ three_words (decimal j) (decimal k) (number_or_dash t)) in
    let first = same_before 32 (decimal i) (decimal j) (decimal l ++ 32 ∷ (number_or_dash s ++ 10 ∷ [])) (decimal k ++ 32 ∷ (number_or_dash t ++ 10 ∷ []))
    (decimal-without 32 i (omega arith)) (decimal-without 32 j (omega arith)) words in
    let second = same_before 32 (decimal l) (decimal k) (number_or_dash s ++ 10 ∷ []) (number_or_dash t ++ 10 ∷ [])
    (decimal-without 32 l (omega arith)) (decimal-without 32 k (omega arith)) first.1 in (
      decimal_injective i j p.0 q.0 first.0,
      decimal_injective l k p.1 q.1 second.0,
      target_numbers s t p.2 q.2 (append_cancel_right (number_or_dash s) (number_or_dash t) (10 ∷ []) second.1),
    )

-- ---- no other line has its spelling

pub under_told : (said : Said) (interface : ℕ) → IsInRange said → IsInRange (says_under interface) → spelling_of said ≡ spelling_of (says_under interface) → said ≡ says_under interface
unfolding spelling_of
under_told said interface p q e =
    let is = under_by_beginning said (decimal interface ++ codes "\n") e in
    is.1 ∙ ap says_under (under_numbers is.0 interface (subst IsInRange is.1 p) q (ap spelling_of (sym is.1) ∙ e))

pub over_told : (said : Said) (interface : ℕ) → IsInRange said → IsInRange (says_over interface) → spelling_of said ≡ spelling_of (says_over interface) → said ≡ says_over interface
unfolding spelling_of
over_told said interface p q e =
    let is = over_by_beginning said (decimal interface ++ codes "\n") e in
    is.1 ∙ ap says_over (over_numbers is.0 interface (subst IsInRange is.1 p) q (ap spelling_of (sym is.1) ∙ e))

pub level_told : (said : Said) (interface level : ℕ) (target : Option ℕ) → IsInRange said → IsInRange (says_level interface level target)
    → spelling_of said ≡ spelling_of (says_level interface level target) → said ≡ says_level interface level target
unfolding spelling_of
level_told said interface level target p q e =
    let is = level_by_beginning said (decimal interface ++ codes " " ++ decimal level ++ codes " " ++ number_or_dash target ++ codes "\n") e in
    let same = level_numbers is.0 interface is.1 level is.2 target (subst IsInRange is.3 p) q (ap spelling_of (sym is.3) ∙ e) in
    let first : is.0 ≡ interface = same.0 in
    let second : is.1 ≡ level = same.1 in
    let third : is.2 ≡ target = same.2 in
    let kind : said ≡ says_level is.0 is.1 is.2 = is.3 in
    cc

-- ---- in a text

-- what stands on a line that begins so was printed
pub under_read : (said : Said) (rest : List ℕ) → (codes "under " ++ rest) ++ codes "\n" ≡ spelling_of said → (interface : ℕ) × (rest ≡ decimal interface) × (said ≡ says_under interface)
unfolding spelling_of
under_read said rest e =
    let is = under_by_beginning said (rest ++ codes "\n") (sym e) in
    (is.0, append_cancel_right rest (decimal is.0) (codes "\n") (ap (drop 6) (e ∙ ap spelling_of is.1)), is.1)

pub over_read : (said : Said) (rest : List ℕ) → (codes "over " ++ rest) ++ codes "\n" ≡ spelling_of said → (interface : ℕ) × (rest ≡ decimal interface) × (said ≡ says_over interface)
unfolding spelling_of
over_read said rest e =
    let is = over_by_beginning said (rest ++ codes "\n") (sym e) in
    (is.0, append_cancel_right rest (decimal is.0) (codes "\n") (ap (drop 5) (e ∙ ap spelling_of is.1)), is.1)

pub level_read : (said : Said) (rest : List ℕ) → (codes "l " ++ rest) ++ codes "\n" ≡ spelling_of said
    → (interface : ℕ) × (level : ℕ) × (target : Option ℕ)
    × (rest ≡ decimal interface ++ codes " " ++ decimal level ++ codes " " ++ number_or_dash target) × (said ≡ says_level interface level target)
unfolding spelling_of
level_read said rest e =
    let is = level_by_beginning said (rest ++ codes "\n") (sym e) in
    let text : List ℕ = decimal is.0 ++ codes " " ++ decimal is.1 ++ codes " " ++ number_or_dash is.2 in
    (is.0, is.1, is.2, append_cancel_right rest text (codes "\n") (ap (drop 2) (e ∙ ap spelling_of is.3)), is.3)

-- what was printed stands there
pub under_spelt : (interface : ℕ) → spelling_of (says_under interface) ≡ (codes "under " ++ decimal interface) ++ codes "\n"
unfolding spelling_of
under_spelt interface = refl

pub over_spelt : (interface : ℕ) → spelling_of (says_over interface) ≡ (codes "over " ++ decimal interface) ++ codes "\n"
unfolding spelling_of
over_spelt interface = refl

pub level_spelt : (interface level : ℕ) (target : Option ℕ) → spelling_of (says_level interface level target)
    ≡ (codes "l " ++ (decimal interface ++ codes " " ++ decimal level ++ codes " " ++ number_or_dash target)) ++ codes "\n"
unfolding spelling_of
level_spelt interface level target = refl
