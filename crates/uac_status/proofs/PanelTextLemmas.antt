-- Lines of a panel's script that are printed one after the other.
use Rattle.std.proofs.Common.{◌≡◌, sym, subst, ℕ, List, [], ◌∷◌, ◌++◌, Option, Result}
use Rattle.std.specs.Io.KnownBytes.{Appends}
use Rattle.std.proofs.lemmas.Grind.{flat_map-append}
use Rattle.std.proofs.lemmas.List.{append-nil}
use Rattle.uac_edges.specs.Writing.{AppendsFront, Writes}
use Rattle.uac_edges.proofs.WritingLemmas.{Appends-twice, AppendsFront-after, AppendsFront-longer, Writes-after}
use Rattle.uac_transcript.specs.Transcript.{Sight, says_view, spelling_of}
use Rattle.uac_status.specs.PanelLines.{PanelLine, panel_spelling, panel_text, says_line}

pub panel_text-append : (first second : List PanelLine) → panel_text (first ++ second) ≡ panel_text first ++ panel_text second
panel_text-append first second = flat_map-append panel_spelling first second

-- one line
pub one_appended : (old new : Option (List ℕ)) (line : PanelLine) → Appends old new (panel_spelling line) → Appends old new (panel_text (line ∷ []))
one_appended old new line a = subst (Appends old new) (sym (append-nil (panel_spelling line))) a

pub one_front : (old new : Option (List ℕ)) (line : PanelLine) → AppendsFront old new (panel_spelling line) → AppendsFront old new (panel_text (line ∷ []))
one_front old new line f = subst (AppendsFront old new) (sym (append-nil (panel_spelling line))) f

pub one_written : {T E : Type 0} (old new : Option (List ℕ)) (r : Result T E) (line : PanelLine) → Writes old new r (panel_spelling line) → Writes old new r (panel_text (line ∷ []))
one_written old new r line w = subst (Writes old new r) (sym (append-nil (panel_spelling line))) w

-- a line, and then others
pub front_of_first : (old new : Option (List ℕ)) (line : PanelLine) (lines : List PanelLine) → AppendsFront old new (panel_spelling line) → AppendsFront old new (panel_text (line ∷ lines))
front_of_first old new line lines f = AppendsFront-longer old new (panel_spelling line) (panel_text lines) f

pub written_after : {T E : Type 0} (old mid new : Option (List ℕ)) (r : Result T E) (line : PanelLine) (lines : List PanelLine) → Appends old mid (panel_spelling line) → Writes mid new r (panel_text lines)
    → Writes old new r (panel_text (line ∷ lines))
written_after old mid new r line lines a w = Writes-after old mid new r (panel_spelling line) (panel_text lines) a w

-- lines, and then others
pub lines_appended : (old mid new : Option (List ℕ)) (first second : List PanelLine) → Appends old mid (panel_text first) → Appends mid new (panel_text second)
    → Appends old new (panel_text (first ++ second))
lines_appended old mid new first second a b =
    subst (Appends old new) (sym (panel_text-append first second)) (Appends-twice old mid new (panel_text first) (panel_text second) a b)

pub front_of_lines : (old new : Option (List ℕ)) (first second : List PanelLine) → AppendsFront old new (panel_text first) → AppendsFront old new (panel_text (first ++ second))
front_of_lines old new first second f =
    subst (AppendsFront old new) (sym (panel_text-append first second)) (AppendsFront-longer old new (panel_text first) (panel_text second) f)

pub front_after_lines : (old mid new : Option (List ℕ)) (first second : List PanelLine) → Appends old mid (panel_text first) → AppendsFront mid new (panel_text second)
    → AppendsFront old new (panel_text (first ++ second))
front_after_lines old mid new first second a f =
    subst (AppendsFront old new) (sym (panel_text-append first second)) (AppendsFront-after old mid new (panel_text first) (panel_text second) a f)

-- ---- a line of every script is spelt as there

pub sight_written : {T E : Type 0} (old new : Option (List ℕ)) (r : Result T E) (s t : Sight) → s ≡ t → Writes old new r (spelling_of (says_view t))
    → Writes old new r (panel_text (says_line (says_view s) ∷ []))
unfolding panel_spelling
sight_written old new r s t is w =
    one_written old new r (says_line (says_view s)) (subst (λ (x : Sight). Writes old new r (spelling_of (says_view x))) (sym is) w)
