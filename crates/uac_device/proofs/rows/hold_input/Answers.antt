use Rattle.std.proofs.Common.{◌∙◌, ap, refl, sym}
use Rattle.std.specs.Option.{option_map}
use Rattle.uac_graph.specs.TickRows.{frames_at}
use Rattle.uac_graph.specs.Wiring.{frame_on}
use Rattle.uac_device.proofs.HeldRowsLemmas.{counted_at, held_here, held_none}
use Rattle.uac_device.proofs.rows.hold_input.Goals as goal

pub returns-in-Some-clause-held : goal.returns-in-Some-clause-held
returns-in-Some-clause-held c = λ t less id.
    held_here c.args.terminal id c.in-Some.frame.now.items c.args.wires.now (frame_on (frames_at t c.args.rows.now) id) (frame_on (frames_at t c.hold.new.self) id)
    (sym c.get.ensures ∙ ap (option_map (λ frame. frame.now.items)) c.in-Some.is) (c.hold.ensures.frames t less id)

pub returns-in_default-clause-held : goal.returns-in_default-clause-held
returns-in_default-clause-held c = λ t less id.
    held_none c.args.terminal id c.args.wires.now (frames_at t c.args.rows.now)
    (sym c.get.ensures ∙ ap (option_map (λ frame. frame.now.items)) c.in_default.is)
    (counted_at 0 t c.args.rows.now c.args.rows.now c.args.terminal refl ∙ c.requires.alike)
