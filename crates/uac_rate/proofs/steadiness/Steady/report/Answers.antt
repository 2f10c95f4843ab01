use Rattle.std.proofs.Common.{◌≡◌, ◌&&◌, ℕ, nat_lt, min, get_or, List, slice_set, subst, ap, sym, ◌∙◌}
use Rattle.uac_rate.specs.Steadiness.{SteadyHistory, SteadyStands, with_report_given, one_more, latest_run}
use Rattle.uac_rate.proofs.SteadinessLemmas.{report_stands, after_lost, after_one}
use Rattle.uac_rate.proofs.steadiness.Steady.report.Goals.{then-lost, else-lost, then-self, else-self}
use Rattle.uac_rate.proofs.steadiness.Steady.report.Goals as goal

pub returns-clause-stands : goal.returns-clause-stands
returns-clause-stands c = λ (given : SteadyHistory) (stood : SteadyStands c.args.self.now given).
    let runs_are : c.self.inside.runs ≡ c.args.self.now.runs = ap (λ fields. fields.runs) c.self.view_is in
    let holds_are : c.self.inside.holds ≡ c.args.self.now.holds = ap (λ fields. fields.holds) c.self.view_is in
    let kept : get_or c.self.inside.runs c.args.stream 0 ≡ min (latest_run (given.feedback c.args.stream)) 4 =
    ap (λ (runs : List ℕ). get_or runs c.args.stream 0) runs_are ∙ stood.runs c.args.stream c.requires in
    let run_is : c.if-lost.run ≡ min (latest_run (one_more c.args.lost (given.feedback c.args.stream))) 4 =
    elim c.if-lost.branch [
      | then-lost w ↦ after_lost (given.feedback c.args.stream) c.args.lost _ _ _ w.if-lost.true (ap (λ (n : ℕ). get_or c.self.inside.runs n 0) w.from.ensures ∙ kept) w.saturating_add.ensures (w.run-is ∙ w.min-run.ensures)
      | else-lost w ↦ after_one (given.feedback c.args.stream) c.args.lost c.if-lost.run w.if-lost.false w.run-is
    ] in
    let holds_is : c.if-self.self ≡ (c.args.self.now.holds && nat_lt c.if-lost.run 4) =
    elim c.if-self.branch [
      | then-self w ↦ w.self-is ∙ ap (λ b. b && nat_lt c.if-lost.run 4) (sym w.if-self.true ∙ holds_are)
      | else-self w ↦ w.self-is ∙ w.if-self.false ∙ ap (λ b. b && nat_lt c.if-lost.run 4) (sym w.if-self.false ∙ holds_are)
    ] in
    let after = report_stands c.args.self.now given c.args.stream c.args.lost c.if-lost.run c.if-self.self c.requires stood run_is holds_is in
    subst (λ (runs : List ℕ). SteadyStands (record { holds = c.if-self.self; runs = runs }) (with_report_given c.args.stream c.args.lost given))
    (ap (λ (runs : List ℕ). slice_set runs c.args.stream c.if-lost.run) (sym runs_are)
    ∙ ap (λ (n : ℕ). slice_set c.self.inside.runs n c.if-lost.run) (sym c.from-2.ensures))
    after
