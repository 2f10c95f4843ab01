-- Whether the silent frames before had as many channels or not, the ring is as it was, and its silent frames are such.
use Rattle.std.proofs.Common.{◌≡◌, ◌∙◌, ◌-◌, ◌++◌, ℕ, ℤ, List, append-nil, length, map, min, pos, replicate, ap, sym}
use Rattle.uac_ring.specs.Rings.{ring_frames}
use Rattle.uac_ring.proofs.RingsLemmas.{silent_more}
use Rattle.uac_ring.proofs.ring.Ring.put_silent.Goals as goal
use Rattle.uac_ring.proofs.ring.Ring.put_silent.Goals.{then-len-from, else-len-from}

pub returns : goal.returns
returns c =
    let inside = c.if-len-from.self-inside in
    let laid : List (List ℤ) = map (λ f. f.items) inside.frames.items in
    let zeros : List ℤ = replicate c.args.channels (pos 0) in
    let same : laid ++ replicate inside.silent inside.silence.items ≡ c.args.self.now = elim c.if-len-from.branch [
      | then-len-from w ↦
          ap (λ i. map (λ f. f.items) i.frames.items ++ replicate i.silent i.silence.items) w.self-inside-is
          ∙ ap (λ (n : ℕ). map (λ f. f.items) w.lay_silent.new.frames.items ++ replicate n w.silence.new.frame.items) w.lay_silent.ensures.none
          ∙ append-nil (map (λ f. f.items) w.lay_silent.new.frames.items) ∙ w.lay_silent.ensures.laid ∙ c.self.view_is
      | else-len-from w ↦ ap (λ i. map (λ f. f.items) i.frames.items ++ replicate i.silent i.silence.items) w.self-inside-is ∙ c.self.view_is
    ] in
    let silent : inside.silence.items ≡ zeros = elim c.if-len-from.branch [
      | then-len-from w ↦ ap (λ i. i.silence.items) w.self-inside-is ∙ w.silence.ensures.samples
      | else-len-from w ↦
          ap (λ i. i.silence.items) w.self-inside-is ∙ c.self.invariant.1.1
          ∙ ap (λ (n : ℕ). replicate n (pos 0)) (sym c.len.ensures.value ∙ w.if-len-from.false ∙ c.from.ensures)
    ] in
    let room : c.min.result ≡ min c.args.count (ring_frames - length c.args.self.now) =
    c.min.ensures ∙ ap (λ (n : ℕ). min c.args.count (ring_frames - n)) (c.level-room.ensures.frames ∙ ap length same) in
    silent_more laid c.args.self.now inside.silent c.min.result inside.silence.items zeros same silent
    ∙ ap (λ (n : ℕ). c.args.self.now ++ replicate n zeros) room
