-- The lines that the code prints are those of the world.
use Rattle.std.proofs.Common.{◌≡◌, ◌∙◌, refl, ap, sym, subst, ℕ, ◌+◌, ◌/◌, nat_le, not, ◌&&◌, Bool, true, false, ℤ, List, [], ◌∷◌, ◌++◌, length, map, sum, Option, Some, None, Result, Ok, Err, OnOk, codes, decimal}
use Rattle.std.proofs.lemmas.List.{append-nil}
use Rattle.uac_units.specs.Hearing.{at_most_u64}
use Rattle.uac_ring.specs.declared.arrival.Arrival.{Arrival}
use Rattle.uac_ring.specs.declared.counts.StreamCounts.{StreamCounts}
use Rattle.uac_transcript.specs.Transcript.{Said, spelling_of, says_in, says_frame, says_under, says_played, says_time, says_domain}
use Rattle.uac_bench.specs.BenchStreams.{StreamWorld, level_of, arrival_of, played_in, is_dry}
use Rattle.uac_bench.specs.BenchLines.{if_said, arrival_lines}
use Rattle.uac_implicit.specs.Following.{PairWorld, most_frames, size_next, out_lines, in_lines, tick_lines}
use Rattle.uac_implicit.specs.PairLines.{PairSaid, printed, says_pair_out, says_pair_in, pair_spelling, pair_text, pair_report}

pub always : {T E : Type 0} (r : Result T E) (P : Type 0) → P → OnOk r P
always (Ok x) P p = p
always (Err e) P p = tt

pub out_told : (detail size : ℕ) (arrived : Arrival) (lost : Bool) (w : PairWorld) → detail ≡ w.detail → size ≡ size_next w
    → arrived ≡ arrival_of most_frames lost size w.out → arrival_lines detail size arrived ≡ out_lines lost w
unfolding out_lines
out_told detail size arrived lost w d n a =
    ap (λ (k : ℕ). arrival_lines k size arrived) d ∙ ap (arrival_lines w.detail size) a
    ∙ ap (λ (k : ℕ). arrival_lines w.detail k (arrival_of most_frames lost k w.out)) n

pub in_told : (detail : ℕ) (lost : Bool) (waiting : List (List ℤ)) (w : PairWorld) → detail ≡ w.detail → waiting ≡ w.waiting
    → if_said (nat_le 2 detail) (says_in 2 (length waiting) lost ∷ []) ++ if_said (nat_le 1 detail && not lost) (map (says_frame 2) waiting)
    ≡ in_lines lost w
unfolding in_lines
in_told detail lost waiting w d e =
    ap (λ (k : ℕ). if_said (nat_le 2 k) (says_in 2 (length waiting) lost ∷ []) ++ if_said (nat_le 1 k && not lost) (map (says_frame 2) waiting)) d
    ∙ ap (λ (xs : List (List ℤ)). if_said (nat_le 2 w.detail) (says_in 2 (length xs) lost ∷ []) ++ if_said (nat_le 1 w.detail && not lost) (map (says_frame 2) xs)) e

pub tick_told : (detail : ℕ) (under : Bool) (frame : List ℤ) (w : PairWorld) → detail ≡ w.detail → under ≡ is_dry w.out → frame ≡ played_in w.out
    → if_said under (says_under 1 ∷ []) ++ if_said (nat_le 1 detail) (says_played 1 frame ∷ []) ≡ tick_lines w
unfolding tick_lines
tick_told detail under frame w d u f =
    ap (λ (k : ℕ). if_said under (says_under 1 ∷ []) ++ if_said (nat_le 1 k) (says_played 1 frame ∷ [])) d
    ∙ ap (λ (b : Bool). if_said b (says_under 1 ∷ []) ++ if_said (nat_le 1 w.detail) (says_played 1 frame ∷ [])) u
    ∙ ap (λ (x : List ℤ). if_said (is_dry w.out) (says_under 1 ∷ []) ++ if_said (nat_le 1 w.detail) (says_played 1 x ∷ [])) f

abbrev pub time_text : PairWorld → List ℕ
time_text w = spelling_of (says_time (at_most_u64 w.time))

abbrev pub domain_text : PairWorld → List ℕ
domain_text w = spelling_of (says_domain 1 (Some w.rate) (at_most_u64 (sum w.steps / 65536)))

abbrev pub out_text : PairWorld → List ℕ
out_text w = pair_spelling (says_pair_out (level_of w.out) w.out.target w.out.met)

abbrev pub in_text : PairWorld → List ℕ
in_text w = pair_spelling (says_pair_in w.in_lost)

pub report_is : (w : PairWorld) → time_text w ++ (domain_text w ++ (out_text w ++ in_text w)) ≡ pair_text (pair_report w)
unfolding pair_report pair_spelling
report_is w = ap (λ (text : List ℕ). time_text w ++ (domain_text w ++ (out_text w ++ text))) (sym (append-nil (in_text w)))
