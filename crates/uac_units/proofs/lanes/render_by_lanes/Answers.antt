use Rattle.std.proofs.Common.{◌≡◌, ◌∙◌, ap, arith, sym, length, w32, rules, ◌++◌, ◌∷◌, [], map}
use Rattle.std.specs.List.{range_with_len}
use Rattle.std.proofs.lemmas.Int.{to_z-of_z}
use Rattle.std.proofs.lemmas.List.FromFn.{map-range_with_len_more, length-map-range_with_len}
use Rattle.uac_units.specs.Rendering.{pins_sample, job_samples}
use Rattle.uac_units.proofs.lanes.render_by_lanes.Goals as goal

pub push-requires : goal.push-requires
push-requires g c =
    let full : length c.loop-channel.out.items ≡ c.loop-channel.channel = ap length c.loop-channel.invariant ∙ length-map-range_with_len (pins_sample g.U.OnLanes.lane_kind c.args.job.now c.args.pins.now.items) 0 c.loop-channel.channel in
    search (rules, full)

pub loop-channel-preserved : goal.loop-channel-preserved
loop-channel-preserved g c =
    let sample = pins_sample g.U.OnLanes.lane_kind c.args.job.now c.args.pins.now.items in
    c.push.ensures.items
    ∙ ap (λ z. c.loop-channel.out.items ++ z ∷ []) (to_z-of_z w32 c.one.result (record { sfits = c.one.type_inv }) ∙ c.one.ensures)
    ∙ ap (λ front. front ++ sample c.loop-channel.channel ∷ []) c.loop-channel.invariant
    ∙ sym (map-range_with_len_more sample 0 c.loop-channel.channel c.loop-channel.channel (omega arith))

pub returns-clause-samples : goal.returns-clause-samples
unfolding job_samples
returns-clause-samples g c =
    c.loop-channel.invariant
    ∙ ap (λ n. map (pins_sample g.U.OnLanes.lane_kind c.args.job.now c.args.pins.now.items) (range_with_len 0 n)) (omega arith)
