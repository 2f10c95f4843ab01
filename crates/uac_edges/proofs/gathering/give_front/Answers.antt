use Rattle.std.proofs.Common.{◌-◌, ◌++◌, length, take, drop, refl, sym, ap, subst, ◌∙◌, arith, length-take}
use lib.Seq.{take-add, take-take}
use Rattle.std.specs.Io.KnownBytes.{Appends}
use Rattle.std.proofs.KnownBytes.{Appends-kept, Appends-nil, Appends-trans}
use Rattle.uac_edges.proofs.gathering.give_front.Goals as goal

pub loop-given-init : goal.loop-given-init
loop-given-init g c = record { fits = omega arith; appended = Appends-nil _; faultless = refl }

pub loop-given-preserved : goal.loop-given-preserved
loop-given-preserved g c =
    let done = c.loop-given.given in
    let n = c.in-Ok.count in
    let xs = c.args.text.now in
    let before = c.loop-given.invariant in
    let fits = c.in-Ok.ensures.fits in
    let start = before.fits in
    let most = length-take (length xs - done) (drop done xs) in
    let joined = ap (λ l. take done xs ++ l) (take-take n (length xs - done) (drop done xs) (omega arith)) ∙ sym (take-add done n xs) in
    record {
      fits = omega arith;
      appended = subst (Appends _ _) joined (Appends-trans _ _ _ _ _ before.appended c.in-Ok.ensures.bytes);
      faultless = c.in-Ok.ensures.cause.faultless ∙ before.faultless;
    }

pub returns-in-Err-clause-given : goal.returns-in-Err-clause-given
returns-in-Err-clause-given g c = Appends-kept _ _ _ _ c.loop-given.invariant.appended c.in-Err.ensures.bytes
