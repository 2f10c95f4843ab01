-- Frames that wait come first, and then the tone's. As many samples are written as there are.
use Rattle.std.proofs.Common.{◌≡◌, ◌∙◌, ◌≤◌, ℕ, ℤ, List, length, drop, take, ap, arith, refl}
use Rattle.std.proofs.lemmas.List.{length-take-le}
use Rattle.std.proofs.lemmas.List.FromFn.{length-map-range_with_len}
use Rattle.uac_pcm.specs.Tones.{tone_sample, tone_frame}
use Rattle.uac_pcm.proofs.PacketsLemmas.{take_front}
use Rattle.uac_host.specs.contracts.tracks.Track.{the_view}
use Rattle.uac_host.proofs.HostKeptLemmas.{next_sounds, next_waits}
use Rattle.uac_host.proofs.tracks.Track.next.Goals as goal

pub returns-then-len-clause-stands : goal.returns-then-len-clause-stands
returns-then-len-clause-stands c t even kept =
    let old : List ℤ = c.args.frame.now.items in
    let n : ℕ = length old in
    let tone = c.self.inside.tone in
    let place : ℕ = c.self.inside.place in
    let as_many : length c.as_mut_slice.result.now ≡ n = ap length c.as_mut_slice.ensures.value in
    let sounds : c.write.new.samples ≡ tone_frame n tone place = c.write.ensures ∙ ap (λ (m : ℕ). tone_frame (length c.as_mut_slice.result.now) tone m) c.from.ensures ∙ ap (λ (m : ℕ). tone_frame m tone place) as_many in
    let whole : length c.write.new.samples ≡ n = ap length sounds ∙ length-map-range_with_len (tone_sample tone place) 0 n in
    next_sounds n n t (the_view c.self.inside) _ even (c.self.view_is ∙ kept) refl
    (omega (arith, c.if-len.true, c.len.ensures, c.len-2.ensures.value, c.self.inside.samples.ok))
    (take_front n c.write.new.samples (drop (length c.write.new.samples) old) whole ∙ sounds)

pub returns-clause-stands : goal.returns-clause-stands
returns-clause-stands c t even kept =
    let old : List ℤ = c.args.frame.now.items in
    let n : ℕ = length old in
    let waiting : List ℤ = c.self.inside.samples.items in
    let as_many : length c.as_mut_slice-2.result.now ≡ n = ap length c.as_mut_slice-2.ensures.value in
    let there : n ≤ length waiting = omega (arith, c.if-len.false, c.len.ensures, c.len-2.ensures.value, c.self.inside.samples.ok) in
    let front : c.take_first.new.samples ≡ take n waiting = c.take_first.ensures.front ∙ ap (λ (m : ℕ). take m waiting) as_many in
    let whole : length c.take_first.new.samples ≡ n = ap length front ∙ length-take-le n waiting there in
    next_waits n n t (the_view c.self.inside) _ c.take_first.new.waiting.items c.requires even (c.self.view_is ∙ kept) refl there
    (take_front n c.take_first.new.samples (drop (length c.take_first.new.samples) old) whole ∙ front)
    (c.take_first.ensures.rest ∙ ap (λ (m : ℕ). drop m waiting) as_many)
