use Rattle.std.proofs.Common.{refl, subst}
use Rattle.uac_grammar.specs.ReaderKept.{IsUnstopped}
use Rattle.uac_grammar.proofs.ReaderKeptLemmas.{unstopped}
use Rattle.uac_grammar.proofs.reader.Reader.feed.Goals as goal

pub loop-rest-init : goal.loop-rest-init
loop-rest-init c =
    let inside = c.self.inside in
    let going = unstopped inside.blocks.items inside.state inside.place inside.pending.items inside.stop c.self.invariant c.in_default.is in
    record { going = subst IsUnstopped c.self.view_is going; taken = refl }
