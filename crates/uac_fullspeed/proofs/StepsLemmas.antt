-- Lines that run bus frames.
use Rattle.std.proofs.Common.{◌≡◌, ◌∙◌, refl, sym, ap, subst, ℕ, ◌==◌, ◌&&◌, Bool, true, false, List, [], ◌∷◌, map, pos, Option}
use Rattle.std.specs.List.{list_all}
use Rattle.std.specs.Io.KnownBytes.{Appends}
use Rattle.uac_edges.specs.Writing.{AppendsFront}
use Rattle.uac_script.specs.declared.line.Mark.{Mark}
use Rattle.uac_script.specs.Line.{phrase_mark}
use Rattle.uac_script.specs.Phrase.{PhraseMark, microframes_line}
use Rattle.uac_fullspeed.specs.FullSpeedWorld.{FullSpeedWorld, bus_frames}
use Rattle.uac_fullspeed.specs.FullSpeedLines.{fs_text_of, frames_lines}
use Rattle.uac_fullspeed.specs.FullSpeedSteps.{FsStep, fs_refused, can_be_lost, is_of_stream, loses_packet, loses_feedback, unless, frames_step, fs_step}
use Rattle.uac_fullspeed.specs.FullSpeedKept.{FsRunFields, FsRunStandsBetween, FsReaches, IsFsCut}

pub all_marks : (marks : List Mark) → list_all (λ m. can_be_lost m.kind && (m.interface == 1)) marks ≡ list_all is_of_stream (map phrase_mark marks)
all_marks [] = refl
all_marks (m ∷ marks) = ap (λ (b : Bool). (can_be_lost m.kind && (m.interface == 1)) && b) (all_marks marks)

module _ (count : ℕ) (marks : List PhraseMark) (w : FullSpeedWorld) where
  step_by : fs_step (microframes_line (pos count) marks) w ≡ unless (list_all is_of_stream marks) 6 (frames_step count (loses_packet marks) (loses_feedback marks) w)
  unfolding fs_step
  step_by = refl

  pub frames_refused : list_all is_of_stream marks ≡ false → fs_step (microframes_line (pos count) marks) w ≡ fs_refused 6
  frames_refused e = step_by ∙ ap (λ (b : Bool). unless b 6 (frames_step count (loses_packet marks) (loses_feedback marks) w)) e

  frames_done_by : list_all is_of_stream marks ≡ true → fs_step (microframes_line (pos count) marks) w ≡ frames_step count (loses_packet marks) (loses_feedback marks) w
  frames_done_by e = step_by ∙ ap (λ (b : Bool). unless b 6 (frames_step count (loses_packet marks) (loses_feedback marks) w)) e

  pub frames_reach : (packet_lost report_lost : Bool) (kept : FsRunFields) (old new : Option (List ℕ)) → list_all is_of_stream marks ≡ true
      → packet_lost ≡ loses_packet marks → report_lost ≡ loses_feedback marks
      → Appends old new (fs_text_of (frames_lines count packet_lost report_lost w)) × FsRunStandsBetween kept (bus_frames count packet_lost report_lost w)
      → FsReaches (fs_step (microframes_line (pos count) marks) w) FsRunStandsBetween kept old new
  frames_reach packet_lost report_lost kept old new e p r told =
      let at = subst (λ (b : Bool). Appends old new (fs_text_of (frames_lines count b (loses_feedback marks) w)) × FsRunStandsBetween kept (bus_frames count b (loses_feedback marks) w)) p
      (subst (λ (b : Bool). Appends old new (fs_text_of (frames_lines count packet_lost b w)) × FsRunStandsBetween kept (bus_frames count packet_lost b w)) r told) in
      subst (λ (s : FsStep). FsReaches s FsRunStandsBetween kept old new) (sym (frames_done_by e)) (at.1, at.0)

  pub frames_cut : (packet_lost report_lost : Bool) (old new : Option (List ℕ)) → list_all is_of_stream marks ≡ true
      → packet_lost ≡ loses_packet marks → report_lost ≡ loses_feedback marks
      → AppendsFront old new (fs_text_of (frames_lines count packet_lost report_lost w)) → IsFsCut (fs_step (microframes_line (pos count) marks) w) old new
  frames_cut packet_lost report_lost old new e p r told =
      let at = subst (λ (b : Bool). AppendsFront old new (fs_text_of (frames_lines count b (loses_feedback marks) w))) p
      (subst (λ (b : Bool). AppendsFront old new (fs_text_of (frames_lines count packet_lost b w))) r told) in
      subst (λ (s : FsStep). IsFsCut s old new) (sym (frames_done_by e)) at
