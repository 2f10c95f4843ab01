use Rattle.std.proofs.Common.{◌≡◌, ◌<◌, [], ◌++◌, length, refl, ap, ◌∙◌, arith, rules, length-append}
use Rattle.uac_edges.proofs.KnownBytesLemmas.{Consumes-none, Consumes-Consumes}
use Rattle.uac_lines.proofs.ScriptLinesLemmas.{line_end_more}
use Rattle.uac_lines.proofs.ScriptLinesTakeLemmas.{stops_at_once, stops_later, same_at_first, same_more, others_kept, last_line, untold}
use Rattle.uac_lines.proofs.lines.Lines.next.Goals as goal

pub returns-in-Ok-eq0-2-clause-splits : goal.returns-in-Ok-eq0-2-clause-splits
returns-in-Ok-eq0-2-clause-splits g c =
    let i = c.loop-size.invariant in
    let told = c.in-Ok-eq0.ensures in
    let shown = c.in-Open.ensures in
    let some : 0 < c.in-Open.size = (let not = c.if-searched-eq0.false in omega arith) in
    λ going before_end. rw c.go-in-Ok-eq0-2.ensures.answer
    (last_line c.args.self.now c.loop-size.self c.fill.new.self c.go-in-Ok-eq0-2.new.self i.taken _ _ _ _ _ c.in-Open.size _ c.in-Ok-eq0.field-0
    i.same i.consumed i.prompt shown.0 shown.1 some told.ok c.in-Ok-eq0.field-0-test told.others c.go-in-Ok-eq0-2.ensures.goes)

pub loop-size-init : goal.loop-size-init
loop-size-init g c = record {
  taken = [];
  consumed = Consumes-none (g.S.Source.left c.args.source.now);
  prompt = stops_at_once c.args.self.now.spare c.args.self.now.unread;
  same = same_at_first c.args.self.now;
  going = search rules;
  bounded = search rules;
  within = search rules;
  known = omega arith;
  counted = omega arith;
  told = λ known. refl;
  faultless = refl;
}

pub loop-size-preserved : goal.loop-size-preserved
loop-size-preserved g c =
    let i = c.loop-size.invariant in
    let told = c.in-Ok.ensures in
    let grows = told.ok in
    let shown = c.in-Open.ensures in
    let kept = others_kept c.loop-size.self c.fill.new.self told.others in
    let spare = kept.1 in
    let grown : length c.fill.new.self.unread ≡ length (c.loop-size.self.unread ++ grows.taken) = ap length grows.grown in
    let few = grows.few in
    let count = grows.size in
    let bounded = i.bounded in
    let counted = shown.2 in
    record {
      taken = i.taken ++ grows.taken;
      consumed = Consumes-Consumes _ _ _ i.taken grows.taken i.consumed grows.consumed;
      prompt = stops_later c.args.self.now c.loop-size.self i.taken grows.taken i.same shown.0 (let most = told.piece in omega arith);
      same = same_more c.args.self.now c.loop-size.self c.fill.new.self i.taken grows.taken i.same told.others grows.grown;
      going = kept.2 ∙ i.going;
      bounded = omega arith;
      within = omega (arith, length-append c.loop-size.self.unread grows.taken);
      known = rw grows.grown (let more = line_end_more c.loop-size.self.unread grows.taken in let all = shown.4 in omega arith);
      counted = omega arith;
      told = λ known. absurd (untold c.args.self.now c.loop-size.self i.taken i.same shown.0 known);
      faultless = told.cause.faultless ∙ i.faultless;
    }

-- The source was called: then the bytes didn't tell what stands first.
pub returns-in-Ok-eq0-2-clause-told : goal.returns-in-Ok-eq0-2-clause-told
returns-in-Ok-eq0-2-clause-told g c =
    let i = c.loop-size.invariant in
    let shown = c.in-Open.ensures in
    λ going before_end known. absurd (untold c.args.self.now c.loop-size.self i.taken i.same shown.0 known)

pub returns-in-Err-clause-told : goal.returns-in-Err-clause-told
returns-in-Err-clause-told g c =
    let i = c.loop-size.invariant in
    let shown = c.in-Open.ensures in
    λ going before_end known. absurd (untold c.args.self.now c.loop-size.self i.taken i.same shown.0 known)
