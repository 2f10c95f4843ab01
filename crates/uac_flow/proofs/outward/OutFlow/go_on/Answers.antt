use Rattle.std.proofs.Common.{◌≡◌, ℤ, List, length, sym, subst}
use Rattle.std.proofs.lemmas.List.Elements.{All-drop}
use Rattle.uac_flow.specs.Flows.{AreFrames}
use Rattle.uac_flow.proofs.outward.OutFlow.go_on.Goals as goal

pub returns-then-is_some-clause-sound : goal.returns-then-is_some-clause-sound
returns-then-is_some-clause-sound c =
    let f = c.args.self.now in
    let channels = f.stream.format.channels in
    record {
      runs = c.requires.sound.runs;
      out = c.requires.sound.out;
      counted = c.requires.sound.counted;
      target = c.requires.sound.target;
      frames =
          subst (λ (r : List (List ℤ)). AreFrames channels r) (sym c.drop_front.ensures.others)
          (All-drop (λ (frame : List ℤ). length frame ≡ channels) 1 c.args.ring.now c.requires.sound.frames);
    }
