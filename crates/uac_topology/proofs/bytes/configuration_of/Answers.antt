use Rattle.std.proofs.Common.{◌≡◌, ◌∙◌, ap, sym, rules, ℕ, ◌-◌, Bool, length, take, drop, if◌then◌else◌}
use Rattle.uac_topology.proofs.ConfigurationLemmas.{configured}
use Rattle.uac_topology.proofs.bytes.configuration_of.Goals.{then-begins_with_device, else-begins_with_device}
use Rattle.uac_topology.proofs.bytes.configuration_of.Goals as goal

pub returns : goal.returns
returns c =
    let front-is : c.if-begins_with_device.front ≡ (if c.begins_with_device.result then 18 else 0) = elim c.if-begins_with_device.branch [
      | then-begins_with_device w ↦ w.front-is ∙ ap (λ (b : Bool). let n : ℕ = if b then 18 else 0 in n) (sym w.if-begins_with_device.true)
      | else-begins_with_device w ↦ w.front-is ∙ ap (λ (b : Bool). let n : ℕ = if b then 18 else 0 in n) (sym w.if-begins_with_device.false)
    ] in
    let items : c.in_ok-configuration.configuration.items ≡ take (length c.args.bytes.now - c.min.result) (drop c.min.result c.args.bytes.now) = search rules in
    c.from_vec.ensures ∙ configured c.args.bytes.now c.in_ok-configuration.configuration.items c.begins_with_device.result c.if-begins_with_device.front c.min.result c.begins_with_device.ensures front-is c.min.ensures items
