use Rattle.std.proofs.Common.{◌≡◌, ◌∙◌, ◌++◌, ◌-◌, List, [], ℕ, ap, drop, length, refl, rules, subst, sym, take}
use Rattle.std.specs.Io.KnownBytes.{Appends}
use Rattle.hex.specs.Hex.{encode_lower, encode_with}
use Rattle.uac_edges.specs.Writing.{AppendsFront}
use Rattle.uac_edges.proofs.WritingLemmas.{Appends-none, Appends-twice, AppendsFront-after, AppendsFront-longer, Writes-handed_on}
use Rattle.uac_transcript.proofs.WriteHexLemmas.{encode_pieces, parts_more}
use Rattle.uac_transcript.proofs.transfers.write_hex.Goals as goal

pub loop-rest-init : goal.loop-rest-init
unfolding encode_with
loop-rest-init g c = record {
  before = [];
  parts = refl;
  appended = Appends-none _ _ (search rules);
  faultless = refl;
}

pub loop-rest-preserved : goal.loop-rest-preserved
loop-rest-preserved g c =
    let earlier = c.loop-rest.invariant in
    let piece = take c.min-size.result c.loop-rest.rest.now in
    record {
      before = earlier.before ++ piece;
      parts = parts_more c.args.bytes.now earlier.before c.loop-rest.rest.now c.min-size.result earlier.parts;
      appended =
          subst (λ (text : List ℕ). Appends (g.K.Sink.written c.args.sink.now) (g.K.Sink.written c.write_piece.new.sink) text) (sym (encode_pieces earlier.before piece))
          (Appends-twice _ _ _ (encode_lower earlier.before) (encode_lower piece) earlier.appended c.in_ok-write_piece.ensures.written);
      faultless = c.in_ok-write_piece.ensures.cause.faultless ∙ earlier.faultless;
    }

pub returns-in_err-write_piece-clause-written : goal.returns-in_err-write_piece-clause-written
returns-in_err-write_piece-clause-written g c =
    Writes-handed_on _ (g.K.Sink.written c.args.sink.now) (g.K.Sink.written c.write_piece.new.sink) c.from_residual.result _ c.from_residual.ensures.1 (
    let earlier = c.loop-rest.invariant in
    let size = c.min-size.result in
    let piece = take size c.loop-rest.rest.now in
    let left = take (length c.loop-rest.rest.now - size) (drop size c.loop-rest.rest.now) in
    let parts : c.args.bytes.now ≡ (earlier.before ++ piece) ++ left = parts_more c.args.bytes.now earlier.before c.loop-rest.rest.now size earlier.parts in
    subst (λ (text : List ℕ). AppendsFront (g.K.Sink.written c.args.sink.now) (g.K.Sink.written c.write_piece.new.sink) text)
    (sym (ap encode_lower parts ∙ encode_pieces (earlier.before ++ piece) left ∙ ap (λ front. front ++ encode_lower left) (encode_pieces earlier.before piece)))
    (AppendsFront-longer _ _ (encode_lower earlier.before ++ encode_lower piece) (encode_lower left)
    (AppendsFront-after _ _ _ (encode_lower earlier.before) (encode_lower piece) earlier.appended c.in_err-write_piece.ensures.written))
    )
