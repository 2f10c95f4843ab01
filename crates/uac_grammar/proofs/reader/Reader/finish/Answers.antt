use Rattle.std.proofs.Common.{◌≡◌, ℕ, List, [], ◌++◌, ap, sym, ◌∙◌}
use Rattle.std.proofs.lemmas.List.{append-nil}
use Rattle.uac_grammar_rules.specs.Sentence.{spellings}
use Rattle.uac_grammar.specs.ReaderKept.{ReaderFields}
use Rattle.uac_grammar.specs.Stop.{stop_at, first_stop}
use Rattle.uac_grammar.proofs.ReaderKeptLemmas.{shown_stop_first, going_end, going_sentence}
use Rattle.uac_grammar.proofs.reader.Reader.finish.Goals as goal

pub returns-in-Some-clause-stop : goal.returns-in-Some-clause-stop
returns-in-Some-clause-stop c = λ other.
    let inside = c.self.inside in
    let taken : c.args.self.taken ≡ spellings inside.blocks.items ++ inside.pending.items = ap (λ (r : ReaderFields). r.taken) (sym c.self.view_is) in
    let shown = c.self.invariant.stopped c.in-Some.stop c.in-Some.is other [] in
    rw taken (ap (λ (xs : List ℕ). first_stop (spellings inside.blocks.items ++ xs)) (sym (append-nil inside.pending.items)) ∙ shown_stop_first _ c.in-Some.stop shown)

pub returns-in-Some-judge_end-clause-stop : goal.returns-in-Some-judge_end-clause-stop
returns-in-Some-judge_end-clause-stop c = λ other.
    let inside = c.self.inside in
    let going = c.self.invariant.going c.in_default.is in
    let end = rw c.as_slice.ensures.value at c.judge_end.ensures in
    let taken : c.args.self.taken ≡ spellings inside.blocks.items ++ inside.pending.items = ap (λ (r : ReaderFields). r.taken) (sym c.self.view_is) in
    rw taken (ap stop_at (going_end inside.blocks.items inside.state inside.place inside.pending.items going ∙ (sym end ∙ c.in-Some-judge_end.is)))

pub returns-in-None-clause-sentence : goal.returns-in-None-clause-sentence
returns-in-None-clause-sentence c =
    let inside = c.self.inside in
    let going = c.self.invariant.going c.in_default.is in
    let end = rw c.as_slice.ensures.value at c.judge_end.ensures in
    let taken : c.args.self.taken ≡ spellings inside.blocks.items ++ inside.pending.items = ap (λ (r : ReaderFields). r.taken) (sym c.self.view_is) in
    rw taken (going_sentence inside.blocks.items inside.state inside.place inside.pending.items going (sym end ∙ c.in-None.is))

pub returns-in-None-clause-no_fault : goal.returns-in-None-clause-no_fault
returns-in-None-clause-no_fault c =
    let inside = c.self.inside in
    let going = c.self.invariant.going c.in_default.is in
    let end = rw c.as_slice.ensures.value at c.judge_end.ensures in
    let taken : c.args.self.taken ≡ spellings inside.blocks.items ++ inside.pending.items = ap (λ (r : ReaderFields). r.taken) (sym c.self.view_is) in
    rw taken (going_end inside.blocks.items inside.state inside.place inside.pending.items going ∙ (sym end ∙ c.in-None.is))
