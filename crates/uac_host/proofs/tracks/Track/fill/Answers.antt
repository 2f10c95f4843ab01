-- Frames that are silent are packed as zeros.
use Rattle.std.proofs.Common.{◌≡◌, ◌∙◌, ◌*◌, ℕ, ap, sym, replicate, []}
use Rattle.uac_pcm.specs.Packets.{bytes_of_frames}
use Rattle.uac_pcm.proofs.ZerosLemmas.{bytes_of_frames-silent}
use Rattle.uac_host.specs.contracts.tracks.Track.{the_view}
use Rattle.uac_pcm.specs.declared.tones.Tone.TheVariants.{Silent}
use Rattle.uac_host.specs.HostFields.{TrackFields}
use Rattle.uac_host.proofs.HostKeptLemmas.{silence_follows}
use Rattle.uac_host.proofs.tracks.Track.fill.Goals as goal

pub returns-then-is_silent : goal.returns-then-is_silent
returns-then-is_silent c =
    let format = c.args.format.now in
    let frames : ℕ = c.args.frames in
    let silent = c.is_silent.ensures.0 c.if-is_silent.true in
    record {
      stands = λ t even kept.
          (let view : the_view c.self.inside ≡ c.args.self.now = c.self.view_is in
          let none : (the_view c.self.inside).samples ≡ [] = ap (λ (f : TrackFields). f.samples) view ∙ silent.samples in
          let tone : (the_view c.self.inside).tone ≡ Silent = ap (λ (f : TrackFields). f.tone) view ∙ silent.tone in
          let both = silence_follows format.channels frames t (the_view c.self.inside) format.in_range.0 even (view ∙ kept) none tone in (
            c.fill_zeros.ensures
                ∙ ap (λ (n : ℕ). replicate (frames * n) 0) c.frame_bytes.ensures
                ∙ sym (bytes_of_frames-silent format.channels format.subslot format.bits frames)
                ∙ ap (bytes_of_frames format.subslot format.bits) (sym both.0),
            both.1,
          ));
    }
