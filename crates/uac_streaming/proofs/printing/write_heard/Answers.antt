use Rattle.std.proofs.Common.{◌≤◌, sym, ap, subst, List, [], ℤ, map, length, arith, ◌∙◌}
use Rattle.std.specs.Io.KnownBytes.{Appends}
use Rattle.std.proofs.lemmas.List.{take_all}
use Rattle.std.proofs.lemmas.Option.{get_or_from_slice_get, slice_get_within}
use Rattle.uac_host.specs.HostCalls.{heard_in}
use Rattle.uac_transcript.specs.Transcript.{says_frame}
use Rattle.uac_transcript.specs.Printing.{text_of}
use Rattle.uac_transcript.proofs.PrintingLemmas.{front_of_lines, one_line_more}
use Rattle.uac_streaming.proofs.StreamingWorldLineLemmas.{heard_few}
use Rattle.uac_edges.proofs.WritingLemmas.{Writes-handed_on}
use Rattle.uac_streaming.proofs.printing.write_heard.Goals as goal

pub returns-in_err-write_frame-clause-printed : goal.returns-in_err-write_frame-clause-printed
returns-in_err-write_frame-clause-printed g c = λ w stands.
    let xs = heard_in w c.args.interface c.args.packet.now.items in
    let there = c.if-not-hear.ensures.samples w stands in
    Writes-handed_on _ (g.K.Sink.written c.args.sink.now) (g.K.Sink.written c.write_frame.new.sink) c.from_residual.result _ c.from_residual.ensures.1 (
    front_of_lines _ _ _ (says_frame c.args.interface) xs c.loop-at.at [] (says_frame c.args.interface c.hear.new.frame.items)
    (slice_get_within xs c.loop-at.at c.hear.new.frame.items there)
    (ap (says_frame c.args.interface) (sym (get_or_from_slice_get xs c.loop-at.at c.hear.new.frame.items [] there)))
    (c.loop-at.invariant.written w stands) c.in_err-write_frame.ensures.written
    )

pub loop-at-preserved : goal.loop-at-preserved
loop-at-preserved g c = record {
  written = λ w stands.
      let xs = heard_in w c.args.interface c.args.packet.now.items in
      let there = c.if-not-hear.ensures.samples w stands in
      one_line_more _ _ _ (says_frame c.args.interface) xs c.loop-at.at [] (says_frame c.args.interface c.hear.new.frame.items)
      (slice_get_within xs c.loop-at.at c.hear.new.frame.items there)
      (ap (says_frame c.args.interface) (sym (get_or_from_slice_get xs c.loop-at.at c.hear.new.frame.items [] there)))
      (c.loop-at.invariant.written w stands) c.in_ok-write_frame.ensures.written;
  faultless = c.in_ok-write_frame.ensures.cause.faultless ∙ c.loop-at.invariant.faultless;
}

pub returns-clause-printed : goal.returns-clause-printed
returns-clause-printed g c = λ w stands.
    let xs = heard_in w c.args.interface c.args.packet.now.items in
    let past : length c.args.packet.now.items ≤ c.loop-at.at = omega (arith, c.len-at-end.ensures.value) in
    subst (λ (frames : List (List ℤ)). Appends (g.K.Sink.written c.args.sink.now) (g.K.Sink.written c.loop-at.sink) (text_of (map (says_frame c.args.interface) frames)))
    (take_all c.loop-at.at xs (heard_few w c.args.interface c.args.packet.now.items c.loop-at.at past))
    (c.loop-at.invariant.written w stands)
