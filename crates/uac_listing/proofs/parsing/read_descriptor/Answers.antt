use Rattle.std.proofs.Common.{ℕ, List, ◌<◌, ◌≤◌, length, take, arith, subst, sym, ◌∙◌}
use Rattle.std.proofs.lemmas.List.{length-take}
use Rattle.std.specs.Io.KnownBytes.{Consumes}
use Rattle.uac_listing.specs.SourceParsing.{descriptor_piece}
use Rattle.uac_edges.proofs.KnownBytesLemmas.{Consumes-Consumes}
use Rattle.uac_listing.proofs.SourceParsingLemmas.{stopped_at, went_on, ended_by}
use Rattle.uac_listing.proofs.parsing.read_descriptor.Goals as goal

pub returns-in-Err-feed-clause-reads : goal.returns-in-Err-feed-clause-reads
returns-in-Err-feed-clause-reads g c =
    let i = c.loop-reader.invariant in
    let short : length (take c.in-Ok.count c.take.new.into) ≤ descriptor_piece = let kept = c.take.auto.into in omega (arith, length-take c.in-Ok.count c.take.new.into) in
    stopped_at _ _ _ _ _ _ _ _ _ i.consumed c.in-Ok.ensures.bytes.0 i.quiet short c.in-Err-feed.ensures.answer (c.in-Err-feed.ensures.shown i.going)

pub loop-reader-preserved : goal.loop-reader-preserved
loop-reader-preserved g c =
    let i = c.loop-reader.invariant in
    let fed = c.in-Ok-feed.ensures in
    let taken = fed.takes i.going fed.answer in
    record {
      consumed = subst (λ (xs : List ℕ). Consumes (g.S.Source.left c.args.source.now) (g.S.Source.left c.take.new.self) xs) (sym taken) (Consumes-Consumes _ _ _ _ _ i.consumed c.in-Ok.ensures.bytes.0);
      faultless = c.in-Ok.ensures.cause.faultless ∙ i.faultless;
      going = fed.answer;
      quiet = went_on c.loop-reader.reader.taken (take c.in-Ok.count c.take.new.into) _ _ fed.answer taken (fed.shown i.going);
      bounded = fed.bounded;
      sized = (let kept = c.take.auto.into in omega arith);
    }

pub returns-in-Ok-eq0-clause-reads : goal.returns-in-Ok-eq0-clause-reads
returns-in-Ok-eq0-clause-reads g c =
    let i = c.loop-reader.invariant in
    let some : 0 < length c.take.new.into = let kept = c.take.auto.into in omega arith in
    ended_by _ _ _ _ _ c.loop-reader.reader.taken c.take.new.into _ _ i.consumed c.in-Ok-eq0.ensures.bytes c.in-Ok-eq0.field-0-test some i.quiet c.end_of_descriptor.ensures
