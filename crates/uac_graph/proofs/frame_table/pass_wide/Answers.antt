use Rattle.uac_graph.proofs.FrameRowsLemmas.{passed_back, passed_front}
use Rattle.uac_graph.proofs.frame_table.pass_wide.Goals as goal

pub returns-then-from-to : goal.returns-then-from-to
returns-then-from-to c =
    passed_back c.args.row.now c.split_at_mut-front.result.0.now c.split_at_mut-front.result.1.now c.args.from c.args.to c.index-front-from.result c.index-back-0.result
    c.pass_frame.new.slot c.split_at_mut-front.ensures.value c.split_at_mut-front.ensures.front_len c.if-from-to.true c.requires.to
    c.pass_frame.ensures

pub returns-then-to-from : goal.returns-then-to-from
returns-then-to-from c =
    let parts = c.split_at_mut-front-then-to-from in
    passed_front c.args.row.now parts.result.0.now parts.result.1.now c.args.from c.args.to c.index-back-0-then-to-from.result c.index-front-to.result
    c.pass_frame-then-to-from.new.slot parts.ensures.value parts.ensures.front_len c.if-to-from.true c.requires.from
    c.pass_frame-then-to-from.ensures
