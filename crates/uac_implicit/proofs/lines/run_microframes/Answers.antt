use Rattle.std.proofs.Common.{◌≡◌, ◌∙◌, subst, sym, List, ℕ, map}
use Rattle.std.specs.Io.KnownBytes.{Appends}
use Rattle.uac_edges.specs.Writing.{AppendsFront}
use Rattle.uac_script.specs.Line.{phrase_mark}
use Rattle.uac_implicit.specs.declared.marks.Losses.{Losses}
use Rattle.uac_implicit.specs.Following.{microframes, microframes_lines}
use Rattle.uac_implicit.specs.PairLines.{pair_microframes, losses_of}
use Rattle.uac_implicit.specs.PairKept.{PairRunStands, PairReaches, IsPairCut}
use Rattle.uac_implicit.proofs.PairStepLemmas.{reached_by, cut_by, broken_by, printed_text}
use Rattle.uac_implicit.proofs.lines.run_microframes.Goals as goal

pub returns-then-not-are_of_pair-clause-does : goal.returns-then-not-are_of_pair-clause-does
returns-then-not-are_of_pair-clause-does g c = λ w s. broken_by _ 6 _ (sym c.are_of_pair.ensures ∙ c.if-not-are_of_pair.true)

pub returns-in-Ok-clause-does : goal.returns-in-Ok-clause-does
returns-in-Ok-clause-does g c = λ w s.
    let told = c.in-Ok.ensures.tells w s in
    let is = c.losses_of.ensures in
    reached_by _ 6 _ _ _ _ (sym c.are_of_pair.ensures ∙ c.if-not-are_of_pair.false)
    (subst (λ (l : Losses). PairReaches (pair_microframes l c.args.count w) (PairRunStands c.microframes.new.self) (g.K.Sink.written c.args.sink.now) (g.K.Sink.written c.microframes.new.sink)) is (
      told.1,
      subst (λ (text : List ℕ). Appends (g.K.Sink.written c.args.sink.now) (g.K.Sink.written c.microframes.new.sink) text)
          (sym (printed_text (microframes_lines c.losses_of.result c.args.count w))) told.0,
    ))

pub returns-in-Err-clause-does : goal.returns-in-Err-clause-does
returns-in-Err-clause-does g c = λ w s.
    let told = c.in-Err.ensures.tells w s in
    cut_by _ 6 _ _ _ (sym c.are_of_pair.ensures ∙ c.if-not-are_of_pair.false)
    (subst (λ (l : Losses). IsPairCut (pair_microframes l c.args.count w) (g.K.Sink.written c.args.sink.now) (g.K.Sink.written c.microframes.new.sink)) c.losses_of.ensures
    (subst (λ (text : List ℕ). AppendsFront (g.K.Sink.written c.args.sink.now) (g.K.Sink.written c.microframes.new.sink) text)
    (sym (printed_text (microframes_lines c.losses_of.result c.args.count w))) told.0))
