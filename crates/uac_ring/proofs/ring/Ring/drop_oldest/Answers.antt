use Rattle.std.proofs.Common.{◌≡◌, ◌∙◌, ◌-◌, ◌++◌, ℕ, ℤ, List, length, drop, map, ap, arith, replicate, sym}
use Rattle.std.proofs.lemmas.List.{length-map}
use Rattle.uac_ring.proofs.RingsLemmas.{laid_gone, silent_gone}
use Rattle.uac_ring.proofs.ring.Ring.drop_oldest.Goals as goal

pub returns-then-count-laid : goal.returns-then-count-laid
returns-then-count-laid c =
    let items = c.self.inside.frames.items in
    let silent = replicate c.self.inside.silent c.self.inside.silence.items in
    let others : length items - (c.len-laid.result - c.args.count) ≡ c.args.count = omega (arith, c.len-laid.ensures.len, c.if-count-laid.true) in
    ap (λ b. map (λ f. f.items) b.items ++ silent) c.truncate_front.ensures
    ∙ ap (λ (n : ℕ). map (λ f. f.items) (drop n items) ++ silent) others
    ∙ laid_gone (λ f. f.items) items c.args.count c.self.inside.silent c.self.inside.silence.items (omega (arith, c.len-laid.ensures.len, c.if-count-laid.true))
    ∙ ap (λ (r : List (List ℤ)). drop c.args.count r) c.self.view_is

pub returns-else-count-laid : goal.returns-else-count-laid
returns-else-count-laid c =
    let silence = c.self.inside.silence.items in
    let laid : List (List ℤ) = map (λ f. f.items) c.self.inside.frames.items in
    let long : length laid ≡ c.len-laid.result = length-map c.self.inside.frames.items (λ f. f.items) ∙ sym c.len-laid.ensures.len in
    ap (λ b. map (λ f. f.items) b.items ++ replicate c.saturating_sub-self-inside.result silence) c.clear.ensures
    ∙ ap (λ (n : ℕ). replicate n silence) c.saturating_sub-self-inside.ensures
    ∙ ap (λ (n : ℕ). replicate (c.self.inside.silent - (c.args.count - n)) silence) (sym long)
    ∙ silent_gone laid c.args.count c.self.inside.silent silence (omega (arith, long, c.if-count-laid.false))
    ∙ ap (λ (r : List (List ℤ)). drop c.args.count r) c.self.view_is
