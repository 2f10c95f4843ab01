-- A stream to the device at the end of a microframe, which is due or isn't.
use Rattle.std.proofs.Common.{◌≡◌, ℕ, ◌+◌, Bool, true, false, if◌then◌else◌, ℤ, List, ap, sym, subst}
use Rattle.uac_flow.specs.Flows.{OutStands, kept_count}
use Rattle.uac_flow.specs.FlowStreams.{OutStream, is_due, out_after_end, after_due_end}
use Rattle.uac_flow.specs.declared.outward.OutFlow.{OutFlow}

-- one microframe later
abbrev pub later : OutStream → OutStream
later o = record o { microframes = o.microframes + 1 }

ended_by : (o : OutStream) (due : Bool) → is_due o.stream o.microframes ≡ due
    → out_after_end o ≡ record (if due then after_due_end o else o) { microframes = o.microframes + 1 }
unfolding out_after_end
ended_by o due is = ap (λ (b : Bool). record (if b then after_due_end o else o) { microframes = o.microframes + 1 }) is

pub keeps_later : (ring : List (List ℤ)) (f : OutFlow) (o : OutStream) (count : ℕ) → OutStands ring f o → count ≡ kept_count (o.microframes + 1)
    → OutStands ring (record f { microframes = count }) (later o)
keeps_later ring f o count keeps next =
    record { stream = keeps.stream; microframes = next; held = keeps.held; target = keeps.target; lost = keeps.lost; ticks = keeps.ticks }

pub keeps_due : (ring : List (List ℤ)) (f : OutFlow) (o : OutStream) → is_due o.stream o.microframes ≡ true → OutStands ring f (after_due_end (later o))
    → OutStands ring f (out_after_end o)
keeps_due ring f o due keeps = subst (λ (s : OutStream). OutStands ring f s) (sym (ended_by o true due)) keeps

pub keeps_not_due : (ring : List (List ℤ)) (f : OutFlow) (o : OutStream) → is_due o.stream o.microframes ≡ false → OutStands ring f (later o)
    → OutStands ring f (out_after_end o)
keeps_not_due ring f o due keeps = subst (λ (s : OutStream). OutStands ring f s) (sym (ended_by o false due)) keeps
