-- Lines of a bench as lines of a run.
use Rattle.std.proofs.Common.{◌≡◌, sym, subst, ℕ, List, [], ◌∷◌, ◌++◌, Option, Result}
use Rattle.std.specs.Io.KnownBytes.{Appends}
use Rattle.std.proofs.lemmas.List.{append-nil}
use Rattle.uac_edges.specs.Writing.{AppendsFront, Writes}
use Rattle.uac_transcript.specs.Transcript.{Said, spelling_of}
use Rattle.uac_transcript.specs.Printing.{text_of}
use Rattle.uac_transcript.proofs.PrintingLemmas.{spelt-line, spelt-mapped}
use Rattle.uac_fullspeed.specs.FullSpeedLines.{FsLine, says_as_run, as_run, fs_spelling_of, fs_text_of, FsPrints}

-- one line
pub fs_prints_line : {T E : Type 0} (old new : Option (List ℕ)) (r : Result T E) (line : FsLine) → Writes old new r (fs_spelling_of line) → FsPrints old new r (line ∷ [])
fs_prints_line old new r line w = spelt-line fs_spelling_of old new r line w

-- lines that a run has, too, have the same text
pub as_run_text : (saids : List Said) → fs_text_of (as_run saids) ≡ text_of saids
unfolding fs_spelling_of
as_run_text saids = spelt-mapped fs_spelling_of says_as_run saids

pub FsAppends-said : (old new : Option (List ℕ)) (said : Said) → Appends old new (spelling_of said) → Appends old new (fs_text_of (says_as_run said ∷ []))
unfolding fs_spelling_of
FsAppends-said old new said a = subst (Appends old new) (sym (append-nil (spelling_of said))) a

pub fs_front_of_said : (old new : Option (List ℕ)) (said : Said) → AppendsFront old new (spelling_of said) → AppendsFront old new (fs_text_of (says_as_run said ∷ []))
unfolding fs_spelling_of
fs_front_of_said old new said a = subst (AppendsFront old new) (sym (append-nil (spelling_of said))) a
