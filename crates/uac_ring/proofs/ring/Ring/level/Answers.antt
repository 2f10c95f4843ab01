use Rattle.std.proofs.Common.{◌≡◌, ◌∙◌, ◌+◌, ℕ, ap, arith, length, map, replicate, sym}
use Rattle.std.proofs.lemmas.List.{length-append, length-drop, length-map, length-replicate}
use Rattle.uac_ring.proofs.ring.Ring.level.Goals as goal

pub returns-clause-holds : goal.returns-clause-holds
returns-clause-holds c = λ came gone held.
    let items = c.self.inside.frames.items in
    let all : length c.args.self.now ≡ length items + c.self.inside.silent =
    ap length (sym c.self.view_is) ∙ length-append (map (λ f. f.items) items) (replicate c.self.inside.silent c.self.inside.silence.items)
    ∙ ap (λ (n : ℕ). n + length (replicate c.self.inside.silent c.self.inside.silence.items)) (length-map items (λ f. f.items))
    ∙ ap (λ (n : ℕ). length items + n) (length-replicate c.self.inside.silent c.self.inside.silence.items) in
    omega (arith, all, held.0, ap length held.1, length-drop gone came, c.len.ensures.len)
