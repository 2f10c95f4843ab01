use Rattle.std.proofs.Common.{◌≡◌, ◌+◌, ℕ, List, [], ◌++◌, length, take, drop, ap, sym, ◌∙◌, arith, rules, length-append, append_assoc}
use Rattle.std.proofs.lemmas.List.{length-take-le}
use Rattle.uac_grammar_rules.specs.Sentence.{spellings}
use Rattle.uac_grammar.specs.ReaderKept.{ReaderFields}
use Rattle.uac_grammar.specs.Stop.{shown_stop}
use Rattle.uac_grammar.proofs.ReaderKeptLemmas.{more_bytes, going_more, going_stays, taken_kept, taken_more, reading_going, reading_refused, refused_shows, unstopped}
use Rattle.uac_grammar.proofs.reader.Reader.take.Goals as goal

pub overflow_add-self : goal.overflow_add-self
overflow_add-self c =
    let none = ap (λ (r : ReaderFields). r.stop) c.self.view_is ∙ c.requires.unstopped in
    let fits = (c.self.invariant.going none).fits in
    omega arith

pub invariant_of-self : goal.invariant_of-self
invariant_of-self c =
    let inside = c.self.inside in
    let next = c.judge_next-count in
    let seen : List ℕ = inside.pending.items ++ take next.result.count c.args.bytes.now in
    let none = ap (λ (r : ReaderFields). r.stop) c.self.view_is ∙ c.requires.unstopped in
    let going = c.self.invariant.going none in
    let are = more_bytes (spellings inside.blocks.items) inside.pending.items next.result.count c.args.bytes.now going.bytes (λ i. search rules) in
    let partial = rw c.in-Partial.is at next.ensures.verdict in
    let left = rw c.in-Partial.is at next.ensures.left in
    rw left (reading_going next.new.blocks.items next.new.state inside.place seen inside.stop none
    (going_stays inside.blocks.items next.new.blocks.items inside.state next.new.state inside.place inside.pending.items seen going are partial.0 partial.1))

pub invariant_of-self-in-Kept : goal.invariant_of-self-in-Kept
invariant_of-self-in-Kept c =
    let inside = c.self.inside in
    let next = c.judge_next-count in
    let seen : List ℕ = inside.pending.items ++ take next.result.count c.args.bytes.now in
    let none = ap (λ (r : ReaderFields). r.stop) c.self.view_is ∙ c.requires.unstopped in
    let going = c.self.invariant.going none in
    let are = more_bytes (spellings inside.blocks.items) inside.pending.items next.result.count c.args.bytes.now going.bytes (λ i. search rules) in
    let kept = rw c.in-Kept.is at next.ensures.verdict in
    let left = rw c.in-Kept.is at next.ensures.left in
    let size : next.result.size ≡ length seen =
    omega (arith, length-append inside.pending.items (take next.result.count c.args.bytes.now), length-take-le next.result.count c.args.bytes.now next.ensures.within) in
    rw (size, left) (reading_going next.new.blocks.items next.new.state (inside.place + length seen) [] inside.stop none
    (going_more inside.blocks.items next.new.blocks.items inside.state next.new.state inside.place inside.pending.items seen going are kept))

pub invariant_of-self-in-Stopped : goal.invariant_of-self-in-Stopped
invariant_of-self-in-Stopped c =
    let inside = c.self.inside in
    let next = c.judge_next-count in
    let none = ap (λ (r : ReaderFields). r.stop) c.self.view_is ∙ c.requires.unstopped in
    let refused = rw c.in-Stopped.is at next.ensures.verdict in
    let left = rw c.in-Stopped.is at next.ensures.left in
    rw left (reading_refused inside.blocks.items next.new.blocks.items inside.state next.new.state inside.place inside.pending.items
    (inside.pending.items ++ take next.result.count c.args.bytes.now) c.in-Stopped.stop (c.self.invariant.going none) refused)

pub returns-in-Kept-clause-taken : goal.returns-in-Kept-clause-taken
returns-in-Kept-clause-taken c =
    let inside = c.self.inside in
    let next = c.judge_next-count in
    let none = ap (λ (r : ReaderFields). r.stop) c.self.view_is ∙ c.requires.unstopped in
    let going = c.self.invariant.going none in
    let are = more_bytes (spellings inside.blocks.items) inside.pending.items next.result.count c.args.bytes.now going.bytes (λ i. search rules) in
    let kept = rw c.in-Kept.is at next.ensures.verdict in
    let left = rw c.in-Kept.is at next.ensures.left in
    let taken : c.args.self.now.taken ≡ spellings inside.blocks.items ++ inside.pending.items = ap (λ (r : ReaderFields). r.taken) (sym c.self.view_is) in
    rw (left, taken)
    (taken_kept inside.blocks.items next.new.blocks.items inside.state next.new.state inside.place inside.pending.items (take next.result.count c.args.bytes.now) going are kept)

pub returns-in-Kept-clause-going : goal.returns-in-Kept-clause-going
returns-in-Kept-clause-going c = λ ok.
    let next = c.judge_next-count in
    let none = ap (λ (r : ReaderFields). r.stop) c.self.view_is ∙ c.requires.unstopped in
    unstopped next.new.blocks.items next.new.state (c.self.inside.place + next.result.size) next.new.pending.items c.self.inside.stop (invariant_of-self-in-Kept c) none

pub returns-in-Partial-clause-taken : goal.returns-in-Partial-clause-taken
returns-in-Partial-clause-taken c =
    let inside = c.self.inside in
    let next = c.judge_next-count in
    let partial = rw c.in-Partial.is at next.ensures.verdict in
    let left = rw c.in-Partial.is at next.ensures.left in
    let same = partial.1.blocks in
    let taken : c.args.self.now.taken ≡ spellings inside.blocks.items ++ inside.pending.items = ap (λ (r : ReaderFields). r.taken) (sym c.self.view_is) in
    rw (left, taken, same) (sym (append_assoc (spellings inside.blocks.items) inside.pending.items (take next.result.count c.args.bytes.now)))

pub returns-in-Partial-clause-going : goal.returns-in-Partial-clause-going
returns-in-Partial-clause-going c = λ ok.
    let next = c.judge_next-count in
    let none = ap (λ (r : ReaderFields). r.stop) c.self.view_is ∙ c.requires.unstopped in
    unstopped next.new.blocks.items next.new.state c.self.inside.place next.new.pending.items c.self.inside.stop (invariant_of-self c) none

pub returns-in-Stopped-clause-shown : goal.returns-in-Stopped-clause-shown
returns-in-Stopped-clause-shown c = λ other.
    let inside = c.self.inside in
    let next = c.judge_next-count in
    let count = next.result.count in
    let none = ap (λ (r : ReaderFields). r.stop) c.self.view_is ∙ c.requires.unstopped in
    let refused = rw c.in-Stopped.is at next.ensures.verdict in
    let taken : c.args.self.now.taken ≡ spellings inside.blocks.items ++ inside.pending.items = ap (λ (r : ReaderFields). r.taken) (sym c.self.view_is) in
    ap shown_stop (ap (λ (xs : List ℕ). xs ++ c.args.bytes.now) taken ∙ taken_more inside.blocks.items inside.pending.items c.args.bytes.now count)
    ∙ refused_shows inside.blocks.items next.new.blocks.items inside.state next.new.state inside.place inside.pending.items
    (inside.pending.items ++ take count c.args.bytes.now) c.in-Stopped.stop (c.self.invariant.going none) refused other (drop count c.args.bytes.now)
