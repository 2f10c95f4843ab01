use Rattle.std.proofs.Common.{◌≡◌, ◌∙◌, ap, arith, sym, [], ℕ, get_or, length, take, unwrap_or}
use Rattle.std.specs.Option.{option_map}
use Rattle.std.proofs.lemmas.List.{append-nil, length-take-le}
use Rattle.uac_graph.specs.Wiring.{samples_on}
use Rattle.uac_graph.proofs.RenderingLemmas.{row_fits, row_more}
use Rattle.uac_graph.proofs.jobs.gather_all.Goals as goal
use Rattle.uac_graph.proofs.jobs.gather_all.Goals.{in-Some, in_default}

pub write-end-requires-clause-fits : goal.write-end-requires-clause-fits
write-end-requires-clause-fits c =
    let wires = c.args.frames.now in
    let sources = c.args.sources.now in
    let i = c.loop-source.source-index in
    let row = take c.loop-source.end c.loop-source.pins.items in
    let here : samples_on wires (get_or sources i 0) ≡ c.as_slice.result.now =
    ap (λ o. unwrap_or o []) (sym c.get.ensures) ∙ ap (λ o. unwrap_or (option_map (λ f. f.now.items) o) []) c.in-Some.is ∙ sym c.as_slice.ensures.value in
    omega (
      arith,
      length-take-le c.loop-source.end c.loop-source.pins.items c.loop-source.invariant.inside,
      row_fits (samples_on wires) sources i row c.as_slice.result.now c.loop-source-test.true here c.requires c.loop-source.invariant.row,
    )

pub loop-source-preserved : goal.loop-source-preserved
loop-source-preserved c =
    let wires = c.args.frames.now in
    let sources = c.args.sources.now in
    let i = c.loop-source.source-index in
    let row = take c.loop-source.end c.loop-source.pins.items in
    elim c.match-get.branch [
      | in-Some w ↦
          (let here : samples_on wires (get_or sources i 0) ≡ w.as_slice.result.now =
          ap (λ o. unwrap_or o []) (sym c.get.ensures) ∙ ap (λ o. unwrap_or (option_map (λ f. f.now.items) o) []) w.in-Some.is ∙ sym w.as_slice.ensures.value in
          record {
            inside = omega (arith, w.end-is, ap (λ p. length p.items) w.pins-is, w.write-end.ensures.inside);
            row =
                ap (λ (n : ℕ). take n c.match-get.pins.items) w.end-is ∙ ap (λ p. take w.write-end.result p.items) w.pins-is
                ∙ row_more (samples_on wires) sources i row _ w.as_slice.result.now c.loop-source-test.true here c.loop-source.invariant.row w.write-end.ensures.front;
          })
      | in_default w ↦
          (let here : samples_on wires (get_or sources i 0) ≡ [] =
          ap (λ o. unwrap_or o []) (sym c.get.ensures) ∙ ap (λ o. unwrap_or (option_map (λ f. f.now.items) o) []) w.in_default.is in
          record {
            inside = omega (arith, w.end-is, ap (λ p. length p.items) w.pins-is, c.loop-source.invariant.inside);
            row =
                ap (λ (n : ℕ). take n c.match-get.pins.items) w.end-is ∙ ap (λ p. take c.loop-source.end p.items) w.pins-is
                ∙ row_more (samples_on wires) sources i row row [] c.loop-source-test.true here c.loop-source.invariant.row (sym (append-nil row));
          })
    ]
