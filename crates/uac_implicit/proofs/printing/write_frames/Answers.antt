use Rattle.std.proofs.Common.{◌≡◌, ◌≤◌, ◌<◌, ◌∙◌, sym, ap, subst, refl, List, [], ℤ, map, length, arith, get_or}
use Rattle.std.specs.Io.KnownBytes.{Appends}
use Rattle.std.proofs.lemmas.List.{take_all}
use Rattle.std.proofs.lemmas.Option.{get_or_from_slice_get}
use Rattle.uac_transcript.specs.Transcript.{says_frame}
use Rattle.uac_transcript.specs.Printing.{text_of}
use Rattle.uac_transcript.proofs.PrintingLemmas.{front_of_lines, one_line_more}
use Rattle.uac_implicit.proofs.printing.write_frames.Goals as goal

pub returns-in-Err-clause-printed : goal.returns-in-Err-clause-printed
returns-in-Err-clause-printed g c =
    let xs = c.args.waiting.now in
    let below : c.loop-place.place < length xs = omega (arith, c.loop-place-test.true, c.level-place-end.ensures.frames) in
    let frame = c.in-Some.frame.now.items in
    front_of_lines (g.K.Sink.written c.args.sink.now) (g.K.Sink.written c.loop-place.sink) (g.K.Sink.written c.write_frame.new.sink) (says_frame 2) xs c.loop-place.place [] (says_frame 2 frame) below
    (ap (says_frame 2) (sym (get_or_from_slice_get xs c.loop-place.place frame [] (sym c.in-Some.ensures.frame))))
    c.loop-place.invariant.written c.in-Err.ensures.written

pub loop-place-preserved : goal.loop-place-preserved
loop-place-preserved g c =
    let xs = c.args.waiting.now in
    let below : c.loop-place.place < length xs = omega (arith, c.loop-place-test.true, c.level-place-end.ensures.frames) in
    let frame = c.in-Some.frame.now.items in
    record {
      written =
          one_line_more (g.K.Sink.written c.args.sink.now) (g.K.Sink.written c.loop-place.sink) (g.K.Sink.written c.write_frame.new.sink) (says_frame 2) xs c.loop-place.place [] (says_frame 2 frame) below
          (ap (says_frame 2) (sym (get_or_from_slice_get xs c.loop-place.place frame [] (sym c.in-Some.ensures.frame))))
          c.loop-place.invariant.written c.in-Ok.ensures.written;
      faultless = c.in-Ok.ensures.cause.faultless ∙ c.loop-place.invariant.faultless;
    }

pub returns-clause-printed : goal.returns-clause-printed
returns-clause-printed g c =
    let xs = c.args.waiting.now in
    let past : length xs ≤ c.loop-place.place = omega (arith, c.loop-place-test.false, c.level-place-end.ensures.frames) in
    subst (λ (frames : List (List ℤ)). Appends (g.K.Sink.written c.args.sink.now) (g.K.Sink.written c.loop-place.sink) (text_of (map (says_frame 2) frames)))
    (take_all c.loop-place.place xs past) c.loop-place.invariant.written
