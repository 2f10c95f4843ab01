-- What the marks of a line tell is lost (profile).
use Rattle.std.specs.Prelude.{ℕ, ◌==◌, ◌&&◌, Bool, true, false, ℤ, pos, negsuc, List}
use Rattle.std.specs.List.{list_any}
use Rattle.uac_script.specs.Phrase.{PhraseMark}
use Rattle.uac_script.specs.declared.line.MarkKind.{MarkKind}
use Rattle.uac_script.specs.declared.line.MarkKind.TheVariants as mark_kinds

-- a mark names this interface
abbrev pub is_at : ℤ → ℕ → Bool
is_at (pos n) interface = n == interface
is_at (negsuc n) interface = false

-- marks are of packets to the device, of packets from it, or of feedback reports
abbrev pub marks_out : MarkKind → Bool
marks_out mark_kinds.Out = true
marks_out mark_kinds.In = false
marks_out mark_kinds.Feedback = false

abbrev pub marks_in : MarkKind → Bool
marks_in mark_kinds.Out = false
marks_in mark_kinds.In = true
marks_in mark_kinds.Feedback = false

abbrev pub marks_feedback : MarkKind → Bool
marks_feedback mark_kinds.Out = false
marks_feedback mark_kinds.In = false
marks_feedback mark_kinds.Feedback = true

-- the packet to the device of an interface is lost, that from it, or its feedback report
abbrev pub loses_out : List PhraseMark → ℕ → Bool
loses_out marks interface = list_any (λ l. marks_out l.kind && is_at l.interface interface) marks

abbrev pub loses_in : List PhraseMark → ℕ → Bool
loses_in marks interface = list_any (λ l. marks_in l.kind && is_at l.interface interface) marks

abbrev pub loses_feedback : List PhraseMark → ℕ → Bool
loses_feedback marks interface = list_any (λ l. marks_feedback l.kind && is_at l.interface interface) marks
