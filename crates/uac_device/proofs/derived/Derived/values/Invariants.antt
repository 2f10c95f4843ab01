use Rattle.uac_device.proofs.derived.Derived.values.Given as goal

abbrev pub invariant-loop-rate : goal.invariant-loop-rate
invariant-loop-rate l = Unit {0}
