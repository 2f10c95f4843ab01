use Rattle.std.proofs.Common.{◌≡◌, ◌∙◌, sym, ap, subst, ◌==◌, ◌%◌, Bool, List, [], ◌∷◌, if◌then◌else◌, flat_map, get_or}
use Rattle.std.specs.Io.KnownBytes.{Appends}
use Rattle.std.proofs.lemmas.List.{take_all}
use Rattle.uac_entities.specs.declared.stream.StreamInterface.{StreamInterface}
use Rattle.uac_edges.specs.Writing.{AppendsFront}
use Rattle.uac_transcript.specs.Transcript.{Said}
use Rattle.uac_transcript.specs.Printing.{text_of}
use Rattle.uac_transcript.proofs.PrintingLemmas.{front_of_some, some_lines_more}
use Rattle.uac_streaming.specs.declared.printing.FoundRing.{FoundRing}
use Rattle.uac_streaming.specs.FoundRings.{says_found}
use Rattle.uac_streaming.proofs.StreamingWorldLineLemmas.{found_here, found_rest, kept_only}
use Rattle.uac_edges.proofs.WritingLemmas.{Writes-handed_on}
use Rattle.uac_streaming.proofs.printing.write_rings.Goals as goal

-- what is said of an interface
abbrev lines_of : FoundRing → (StreamInterface → Bool) → StreamInterface → List Said
lines_of ring test s = if test s then says_found ring s.number ∷ [] else []

lines_here : (ring : FoundRing) (test : StreamInterface → Bool) (s d : StreamInterface) (found : Bool) → s ≡ d → found ≡ test d
    → (if found then says_found ring s.number ∷ [] else []) ≡ lines_of ring test d
lines_here ring test s d found same is =
    ap (λ (b : Bool). if b then says_found ring s.number ∷ [] else []) is ∙ ap (λ (t : StreamInterface). if test d then says_found ring t.number ∷ [] else []) same

pub returns-in_err-write_if_found-clause-printed : goal.returns-in_err-write_if_found-clause-printed
returns-in_err-write_if_found-clause-printed g c = λ test is.
    let xs = c.args.streams.now in
    let s = c.stream-item.result in
    let i = c.loop-stream.stream-index in
    let found = found_here test xs i s c.loop-stream.rest c.loop-stream-test.true (c.loop-stream.invariant.rest test is) in
    Writes-handed_on _ (g.K.Sink.written c.args.sink.now) (g.K.Sink.written c.write_if_found.new.sink) c.from_residual.result _ c.from_residual.ensures.1 (
    subst (λ (lines : List Said). AppendsFront (g.K.Sink.written c.args.sink.now) (g.K.Sink.written c.write_if_found.new.sink) (text_of lines))
    (sym (kept_only (λ (x : StreamInterface). says_found c.args.ring x.number) test xs))
    (front_of_some _ _ _ (lines_of c.args.ring test) xs i s (if c.loop-stream.rest % 2 == 1 then says_found c.args.ring s.number ∷ [] else []) c.loop-stream-test.true
    (lines_here c.args.ring test s (get_or xs i s) (c.loop-stream.rest % 2 == 1) c.stream-item.is found) (c.loop-stream.invariant.written test is) c.in_err-write_if_found.ensures.printed)
    )

pub loop-stream-preserved : goal.loop-stream-preserved
loop-stream-preserved g c = record {
  rest = λ test is.
      found_rest test c.args.streams.now c.loop-stream.stream-index c.stream-item.result c.loop-stream.rest c.loop-stream-test.true (c.loop-stream.invariant.rest test is);
  written = λ test is.
      let xs = c.args.streams.now in
      let s = c.stream-item.result in
      let i = c.loop-stream.stream-index in
      let found = found_here test xs i s c.loop-stream.rest c.loop-stream-test.true (c.loop-stream.invariant.rest test is) in
      some_lines_more _ _ _ (lines_of c.args.ring test) xs i s (if c.loop-stream.rest % 2 == 1 then says_found c.args.ring s.number ∷ [] else []) c.loop-stream-test.true
      (lines_here c.args.ring test s (get_or xs i s) (c.loop-stream.rest % 2 == 1) c.stream-item.is found) (c.loop-stream.invariant.written test is) c.in_ok-write_if_found.ensures.printed;
  faultless = c.in_ok-write_if_found.ensures.cause.faultless ∙ c.loop-stream.invariant.faultless;
}

pub returns-clause-printed : goal.returns-clause-printed
returns-clause-printed g c = λ test is.
    let xs = c.args.streams.now in
    subst (λ (lines : List Said). Appends (g.K.Sink.written c.args.sink.now) (g.K.Sink.written c.loop-stream.sink) (text_of lines))
    (ap (flat_map (lines_of c.args.ring test)) (take_all c.loop-stream.stream-index xs c.loop-stream-test.false) ∙ sym (kept_only (λ (s : StreamInterface). says_found c.args.ring s.number) test xs))
    (c.loop-stream.invariant.written test is)
