-- So many of the same: one more, and the lines of the first ones.
use Rattle.std.proofs.Common.{◌≡◌, refl, ℕ, zero, suc, ◌+◌, ◌<◌, List, [], ◌++◌, Option}
use Rattle.std.specs.Io.KnownBytes.{Appends}
use Rattle.uac_edges.specs.Writing.{AppendsFront}
use Rattle.uac_transcript.specs.Transcript.{Said, spelling_of}
use Rattle.uac_transcript.specs.Printing.{text_of}
use Rattle.uac_bench.proofs.RepeatedLemmas.{one_further, told_more, told_in_part}
use Rattle.uac_implicit.specs.Following.{times, lines_times}

module _ {W : Type 0} (says : W → List Said) (next : W → W) where
  no_lines : (w : W) → lines_times says next zero w ≡ []
  unfolding lines_times
  no_lines w = refl

  more_lines : (n : ℕ) (w : W) → lines_times says next (suc n) w ≡ says w ++ lines_times says next n (next w)
  unfolding lines_times
  more_lines n w = refl

  none : (w : W) → times next zero w ≡ w
  unfolding times
  none w = refl

  more : (n : ℕ) (w : W) → times next (suc n) w ≡ times next n (next w)
  unfolding times
  more n w = refl

  pub times_more : (i : ℕ) (w : W) → times next (i + 1) w ≡ next (times next i w)
  times_more = one_further spelling_of next says (lines_times says next) (times next) no_lines more_lines none more

  -- one more was printed
  pub printed_more : (i : ℕ) (w : W) (old mid new : Option (List ℕ)) → Appends old mid (text_of (lines_times says next i w))
      → Appends mid new (text_of (says (times next i w))) → Appends old new (text_of (lines_times says next (i + 1) w))
  printed_more i w old mid new = told_more spelling_of next says (lines_times says next) (times next) no_lines more_lines none more old mid new i w

  -- one failed in its midst: a front of all was printed
  pub printed_front : (i count : ℕ) (w : W) (old mid new : Option (List ℕ)) → i < count → Appends old mid (text_of (lines_times says next i w))
      → AppendsFront mid new (text_of (says (times next i w))) → AppendsFront old new (text_of (lines_times says next count w))
  printed_front i count w old mid new =
      told_in_part spelling_of next says (lines_times says next) (times next) no_lines more_lines none more old mid new i count w
