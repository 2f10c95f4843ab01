use Rattle.std.proofs.Common.{◌≡◌, ◌∙◌, ap, sym, subst, ℕ, List, ◌++◌, Option, Some}
use Rattle.std.specs.Io.KnownBytes.{Appends}
use Rattle.uac_edges.specs.Writing.{AppendsFront, Writes}
use Rattle.uac_edges.proofs.WritingLemmas.{Writes-after, AppendsFront-after, AppendsFront-longer}
use Rattle.uac_ring.specs.declared.counts.StreamCounts.{StreamCounts}
use Rattle.uac_transcript.specs.Transcript.{spelling_of, says_time, says_domain}
use Rattle.uac_bench.specs.BenchStreams.{level_of}
use Rattle.uac_implicit.specs.PairLines.{pair_spelling, says_pair_in, says_pair_out}
use Rattle.uac_implicit.proofs.SaidLemmas.{time_text, domain_text, out_text, in_text, report_is}
use Rattle.uac_implicit.proofs.pair.PairRun.report.Goals as goal

pub returns-in-Err-clause-written : goal.returns-in-Err-clause-written
returns-in-Err-clause-written g c = λ w s.
    let t = rw (← c.self.view_is) at s in
    let old = g.K.Sink.written c.args.sink.now in
    let new = g.K.Sink.written c.write_time.new.sink in
    subst (AppendsFront old new) (report_is w)
    (AppendsFront-longer old new (time_text w) (domain_text w ++ (out_text w ++ in_text w))
    (subst (λ (n : ℕ). AppendsFront old new (spelling_of (says_time n))) t.in_it.time c.in-Err.ensures.written))

pub returns-in-Err-write_domain-clause-written : goal.returns-in-Err-write_domain-clause-written
returns-in-Err-write_domain-clause-written g c = λ w s.
    let t = rw (← c.self.view_is) at s in
    let old = g.K.Sink.written c.args.sink.now in
    let mid = g.K.Sink.written c.write_time.new.sink in
    let new = g.K.Sink.written c.write_domain.new.sink in
    let rate = c.rate_of.ensures w.rate (t.in_it.listed ∙ ap Some (sym t.in_it.nominal)) in
    let first = subst (λ (n : ℕ). Appends old mid (spelling_of (says_time n))) t.in_it.time c.in-Ok.ensures.written in
    let second =
    subst (λ (n : ℕ). AppendsFront mid new (spelling_of (says_domain 1 (Some w.rate) n))) (c.ticks.ensures w.steps t.in_it.clock)
    (subst (λ (n : ℕ). AppendsFront mid new (spelling_of (says_domain 1 (Some n) c.ticks.result))) rate c.in-Err-write_domain.ensures.written) in
    subst (AppendsFront old new) (report_is w)
    (AppendsFront-after old mid new (time_text w) (domain_text w ++ (out_text w ++ in_text w)) first
    (AppendsFront-longer mid new (domain_text w) (out_text w ++ in_text w) second))

pub returns-in-Err-write_pair_out-clause-written : goal.returns-in-Err-write_pair_out-clause-written
returns-in-Err-write_pair_out-clause-written g c = λ w s.
    let t = rw (← c.self.view_is) at s in
    let old = g.K.Sink.written c.args.sink.now in
    let mid = g.K.Sink.written c.write_time.new.sink in
    let next = g.K.Sink.written c.write_domain.new.sink in
    let new = g.K.Sink.written c.write_pair_out.new.sink in
    let rate = c.rate_of.ensures w.rate (t.in_it.listed ∙ ap Some (sym t.in_it.nominal)) in
    let first = subst (λ (n : ℕ). Appends old mid (spelling_of (says_time n))) t.in_it.time c.in-Ok.ensures.written in
    let second =
    subst (λ (n : ℕ). Appends mid next (spelling_of (says_domain 1 (Some w.rate) n))) (c.ticks.ensures w.steps t.in_it.clock)
    (subst (λ (n : ℕ). Appends mid next (spelling_of (says_domain 1 (Some n) c.ticks.result))) rate c.in-Ok-write_domain.ensures.written) in
    let third =
    subst (λ (m : StreamCounts). AppendsFront next new (pair_spelling (says_pair_out (level_of w.out) w.out.target m))) (c.met.ensures w.out t.in_it.out)
    (subst (λ (o : Option ℕ). AppendsFront next new (pair_spelling (says_pair_out (level_of w.out) o c.met.result))) (c.target.ensures.target w.out t.in_it.out)
    (subst (λ (n : ℕ). AppendsFront next new (pair_spelling (says_pair_out n c.target.result c.met.result))) (c.level.ensures.level w.out t.in_it.out) c.in-Err-write_pair_out.ensures.written)) in
    subst (AppendsFront old new) (report_is w)
    (AppendsFront-after old mid new (time_text w) (domain_text w ++ (out_text w ++ in_text w)) first
    (AppendsFront-after mid next new (domain_text w) (out_text w ++ in_text w) second (AppendsFront-longer next new (out_text w) (in_text w) third)))

pub returns-clause-written : goal.returns-clause-written
returns-clause-written g c = λ w s.
    let t = rw (← c.self.view_is) at s in
    let old = g.K.Sink.written c.args.sink.now in
    let mid = g.K.Sink.written c.write_time.new.sink in
    let next = g.K.Sink.written c.write_domain.new.sink in
    let last = g.K.Sink.written c.write_pair_out.new.sink in
    let new = g.K.Sink.written c.write_pair_in.new.sink in
    let r = c.write_pair_in.result in
    let rate = c.rate_of.ensures w.rate (t.in_it.listed ∙ ap Some (sym t.in_it.nominal)) in
    let first = subst (λ (n : ℕ). Appends old mid (spelling_of (says_time n))) t.in_it.time c.in-Ok.ensures.written in
    let second =
    subst (λ (n : ℕ). Appends mid next (spelling_of (says_domain 1 (Some w.rate) n))) (c.ticks.ensures w.steps t.in_it.clock)
    (subst (λ (n : ℕ). Appends mid next (spelling_of (says_domain 1 (Some n) c.ticks.result))) rate c.in-Ok-write_domain.ensures.written) in
    let third =
    subst (λ (m : StreamCounts). Appends next last (pair_spelling (says_pair_out (level_of w.out) w.out.target m))) (c.met.ensures w.out t.in_it.out)
    (subst (λ (o : Option ℕ). Appends next last (pair_spelling (says_pair_out (level_of w.out) o c.met.result))) (c.target.ensures.target w.out t.in_it.out)
    (subst (λ (n : ℕ). Appends next last (pair_spelling (says_pair_out n c.target.result c.met.result))) (c.level.ensures.level w.out t.in_it.out) c.in-Ok-write_pair_out.ensures.written)) in
    let fourth = subst (λ (n : ℕ). Writes last new r (pair_spelling (says_pair_in n))) t.in_it.in_lost c.write_pair_in.ensures.written in
    subst (Writes old new r) (report_is w)
    (Writes-after old mid new r (time_text w) (domain_text w ++ (out_text w ++ in_text w)) first
    (Writes-after mid next new r (domain_text w) (out_text w ++ in_text w) second (Writes-after next last new r (out_text w) (in_text w) third fourth)))
