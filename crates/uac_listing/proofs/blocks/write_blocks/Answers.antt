use Rattle.std.proofs.Common.{List, ℕ, ◌++◌, ap, subst, ◌∙◌}
use Rattle.uac_edges.specs.Writing.{AppendsFront, Writes}
use Rattle.uac_edges.proofs.WritingLemmas.{Appends-twice, AppendsFront-after, AppendsFront-longer, Writes-after, Writes-handed_on}
use Rattle.uac_listing.proofs.BlockLinesLemmas.{lines_wait, lines_end, bytes_more}
use Rattle.uac_listing.proofs.blocks.write_blocks.Goals as goal

pub returns-in_err-make_room-clause-written : goal.returns-in_err-make_room-clause-written
returns-in_err-make_room-clause-written g c =
    Writes-handed_on _ (g.K.Sink.written c.args.sink.now) (g.K.Sink.written c.make_room.new.sink) c.from_residual.result _ c.from_residual.ensures.1 (
    let i = c.loop-block.invariant in
    subst (λ (text : List ℕ). AppendsFront (g.K.Sink.written c.args.sink.now) (g.K.Sink.written c.make_room.new.sink) text) i.whole
    (AppendsFront-longer _ _ (i.text ++ c.loop-block.lines) _ (AppendsFront-after _ _ _ i.text _ i.written c.in_err-make_room.ensures.given))
    )

pub loop-block-preserved : goal.loop-block-preserved
loop-block-preserved g c =
    let i = c.loop-block.invariant in
    let b = c.block-item.result in
    let given = c.in_ok-make_room.ensures.given in
    let bytes = bytes_more c.args.bytes.now c.loop-block.place c.push_block-place.result c.loop-block.block-index c.args.blocks.now b c.loop-block-test.true c.block-item.is i.within i.rest
    c.push_block-place.ensures.size in
    record {
      within = bytes.0;
      rest = bytes.1;
      text = i.text ++ given.front;
      written = Appends-twice _ _ _ _ _ i.written given.appended;
      whole =
          lines_wait c.loop-block.place c.push_block-place.result c.loop-block.block-index c.args.blocks.now b i.text given.front c.loop-block.lines c.make_room.new.lines
          c.push_block-place.new.lines c.loop-block-test.true c.block-item.is given.parts c.push_block-place.ensures.text c.push_block-place.ensures.size i.whole;
      faultless = c.in_ok-make_room.ensures.cause.faultless ∙ i.faultless;
    }

pub returns-clause-written : goal.returns-clause-written
returns-clause-written g c =
    let i = c.loop-block.invariant in
    let all = ap (λ (waiting : List ℕ). i.text ++ waiting) c.as_bytes.ensures.text
    ∙ lines_end c.loop-block.place c.loop-block.block-index c.args.blocks.now (i.text ++ c.loop-block.lines) c.loop-block-test.false i.whole in
    subst (λ (text : List ℕ). Writes (g.K.Sink.written c.args.sink.now) (g.K.Sink.written c.give_all.new.sink) c.give_all.result text) all
    (Writes-after _ _ _ c.give_all.result i.text _ i.written c.give_all.ensures.written)
