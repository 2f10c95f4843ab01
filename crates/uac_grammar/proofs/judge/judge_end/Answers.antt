use Rattle.std.proofs.Common.{sym, ◌∙◌, arith}
use Rattle.std.proofs.lemmas.List.{nil_from_length}
use Rattle.uac_grammar.proofs.VerdictLemmas.{pending_faults, end_breaks, end_fine}
use Rattle.uac_grammar.proofs.judge.judge_end.Goals as goal

pub returns-then-pending-gt0 : goal.returns-then-pending-gt0
returns-then-pending-gt0 c = sym (pending_faults c.args.state.now c.args.place c.args.pending.now c.requires c.if-pending-gt0.true)

pub returns-in-Some : goal.returns-in-Some
returns-in-Some c =
    let none = nil_from_length c.args.pending.now (omega (arith, c.if-pending-gt0.false)) in
    sym (end_breaks c.args.state.now c.args.place c.args.pending.now c.in-Some.rule none (sym c.rule_at_end.ensures ∙ c.in-Some.is))

pub returns-in-None : goal.returns-in-None
returns-in-None c =
    let none = nil_from_length c.args.pending.now (omega (arith, c.if-pending-gt0.false)) in
    sym (end_fine c.args.state.now c.args.place c.args.pending.now none (sym c.rule_at_end.ensures ∙ c.in-None.is))
