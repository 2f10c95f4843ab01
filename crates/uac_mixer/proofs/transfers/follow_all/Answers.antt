use Rattle.std.proofs.Common.{arith}
use Rattle.uac_device.proofs.ListChangeLemmas.{turned_more, untouched_holds}
use Rattle.uac_mixer.specs.Readable.{IsReadable}
use Rattle.uac_mixer.specs.ViewTransfers.{came_of}
use Rattle.uac_mixer.proofs.transfers.follow_all.Goals as goal

pub follow_one-requires : goal.follow_one-requires
follow_one-requires c =
    untouched_holds (IsReadable c.args.control c.args.setup.now c.args.sent.now (came_of c.args.came.now)) _ c.loop-element.elements c.args.elements.now c.loop-element.element-index _ c.requires
    (omega arith) c.loop-element.invariant

pub loop-element-preserved : goal.loop-element-preserved
loop-element-preserved c =
    turned_more _ c.loop-element.elements c.args.elements.now c.loop-element.element-index c.follow_one.new.element _ (omega arith)
    c.loop-element.invariant c.follow_one.ensures
