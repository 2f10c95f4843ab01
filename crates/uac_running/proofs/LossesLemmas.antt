-- Marks of feedback reports alone lose no packet.
use Rattle.std.proofs.Common.{◌≡◌, ◌∙◌, sym, refl, ap, ℕ, ◌&&◌, ◌||◌, Bool, true, false, List, [], ◌∷◌, map}
use Rattle.std.specs.List.{list_all}
use Rattle.std.proofs.lemmas.Bool.{and_parts, true≢false}
use Rattle.std.proofs.lemmas.List.Folds.{list_all-map}
use Rattle.uac_script.specs.Line.{phrase_mark}
use Rattle.uac_script.specs.Losses.{is_at, loses_in, loses_out, marks_feedback, marks_in, marks_out}
use Rattle.uac_script.specs.Phrase.{PhraseMark}
use Rattle.uac_script.specs.declared.line.Mark.{Mark}
use Rattle.uac_script.specs.declared.line.MarkKind.{MarkKind}
use Rattle.uac_script.specs.declared.line.MarkKind.TheVariants as mark_kinds
use Rattle.uac_streaming.specs.StreamingWaits.{LosesNoPacket}

-- a mark of a report is of no packet
not_out : (kind : MarkKind) (here : Bool) → marks_feedback kind ≡ true → (marks_out kind && here) ≡ false
not_out mark_kinds.Out here is = absurd (true≢false (sym is))
not_out mark_kinds.In here is = refl
not_out mark_kinds.Feedback here is = refl

not_in : (kind : MarkKind) (here : Bool) → marks_feedback kind ≡ true → (marks_in kind && here) ≡ false
not_in mark_kinds.Out here is = refl
not_in mark_kinds.In here is = absurd (true≢false (sym is))
not_in mark_kinds.Feedback here is = refl

abbrev are_reports : List PhraseMark → Bool
are_reports marks = list_all (λ l. marks_feedback l.kind) marks

none_out : (interface : ℕ) (marks : List PhraseMark) → are_reports marks ≡ true → loses_out marks interface ≡ false
none_out interface [] all = refl
none_out interface (l ∷ ls) all =
    let both = and_parts (marks_feedback l.kind) (are_reports ls) all in
    ap (λ (b : Bool). b || loses_out ls interface) (not_out l.kind (is_at l.interface interface) both.0) ∙ none_out interface ls both.1

none_in : (interface : ℕ) (marks : List PhraseMark) → are_reports marks ≡ true → loses_in marks interface ≡ false
none_in interface [] all = refl
none_in interface (l ∷ ls) all =
    let both = and_parts (marks_feedback l.kind) (are_reports ls) all in
    ap (λ (b : Bool). b || loses_in ls interface) (not_in l.kind (is_at l.interface interface) both.0) ∙ none_in interface ls both.1

pub reports_alone : (marks : List Mark) → list_all (λ m. marks_feedback m.kind) marks ≡ true → LosesNoPacket (map phrase_mark marks)
reports_alone marks all =
    let own = list_all-map (λ (l : PhraseMark). marks_feedback l.kind) phrase_mark marks ∙ all in
    record { outs = λ interface. none_out interface (map phrase_mark marks) own; ins = λ interface. none_in interface (map phrase_mark marks) own }
