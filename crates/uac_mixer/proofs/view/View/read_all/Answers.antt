-- Each element in turn, and where it broke.
use Rattle.std.proofs.Common.{◌∙◌, ap, arith, length, refl, subst, sym}
use Rattle.uac_mixer.specs.Agreement.{IsElementRead}
use Rattle.uac_mixer.proofs.ViewLinksReadLemmas.{as_long, at_err, element_there, none_of_err, read_broke, read_more, read_none, read_whole}
use Rattle.uac_mixer.proofs.view.View.read_all.Goals as goal

pub loop-at-init : goal.loop-at-init
loop-at-init g c = record { lender = refl; read = read_none c.args.self.now (g.L.Link.state c.args.link.now) c.requires }

pub loop-at-preserved : goal.loop-at-preserved
loop-at-preserved g c =
    let e = element_there c.loop-at.self.elements c.loop-at.at (let long = as_long c.loop-at.at c.args.self.now c.loop-at.self (g.L.Link.state c.args.link.now) (g.L.Link.state c.loop-at.link) c.loop-at.invariant.read c.requires in omega (arith, c.loop-at-test.true, c.loop-at.auto.at-end, ap length c.elements-at-end.ensures, long)) in
    record {
      lender = c.in_ok-get.ensures.lender ∙ c.loop-at.invariant.lender;
      read = read_more c.loop-at.at e.0 _ c.loop-at.self c.get.new.self (g.L.Link.state c.args.link.now) (g.L.Link.state c.loop-at.link) (g.L.Link.state c.get.new.link) c.loop-at.invariant.read e.1 (c.in_ok-get.ensures.made e.0 e.1) c.in_ok-get.ensures.kept c.in_ok-get.ensures.as_before;
    }

pub returns-in_err-get-clause-asked : goal.returns-in_err-get-clause-asked
returns-in_err-get-clause-asked g c =
    let e = element_there c.loop-at.self.elements c.loop-at.at (let long = as_long c.loop-at.at c.args.self.now c.loop-at.self (g.L.Link.state c.args.link.now) (g.L.Link.state c.loop-at.link) c.loop-at.invariant.read c.requires in omega (arith, c.loop-at-test.true, c.loop-at.auto.at-end, ap length c.elements-at-end.ensures, long)) in
    subst (λ b. IsElementRead b (g.L.Link.state c.args.link.now) (g.L.Link.state c.get.new.link)) (sym (none_of_err _ c.from_residual.result c.from_residual.ensures.1)) ((read_broke c.loop-at.at e.0 c.loop-at.self c.get.new.self (g.L.Link.state c.args.link.now) (g.L.Link.state c.loop-at.link) (g.L.Link.state c.get.new.link) c.loop-at.invariant.read (c.in_err-get.ensures.made e.0 e.1) c.in_err-get.ensures.as_before).reading)

pub returns-in_err-get-clause-broken : goal.returns-in_err-get-clause-broken
returns-in_err-get-clause-broken g c =
    let e = element_there c.loop-at.self.elements c.loop-at.at (let long = as_long c.loop-at.at c.args.self.now c.loop-at.self (g.L.Link.state c.args.link.now) (g.L.Link.state c.loop-at.link) c.loop-at.invariant.read c.requires in omega (arith, c.loop-at-test.true, c.loop-at.auto.at-end, ap length c.elements-at-end.ensures, long)) in
    at_err _ _ c.from_residual.result c.from_residual.ensures.1 ((read_broke c.loop-at.at e.0 c.loop-at.self c.get.new.self (g.L.Link.state c.args.link.now) (g.L.Link.state c.loop-at.link) (g.L.Link.state c.get.new.link) c.loop-at.invariant.read (c.in_err-get.ensures.made e.0 e.1) c.in_err-get.ensures.as_before).broken)

pub returns-in_err-get-clause-told : goal.returns-in_err-get-clause-told
returns-in_err-get-clause-told g c =
    let e = element_there c.loop-at.self.elements c.loop-at.at (let long = as_long c.loop-at.at c.args.self.now c.loop-at.self (g.L.Link.state c.args.link.now) (g.L.Link.state c.loop-at.link) c.loop-at.invariant.read c.requires in omega (arith, c.loop-at-test.true, c.loop-at.auto.at-end, ap length c.elements-at-end.ensures, long)) in
    λ fault is. at_err _ _ c.from_residual.result c.from_residual.ensures.1 ((read_broke c.loop-at.at e.0 c.loop-at.self c.get.new.self (g.L.Link.state c.args.link.now) (g.L.Link.state c.loop-at.link) (g.L.Link.state c.get.new.link) c.loop-at.invariant.read (c.in_err-get.ensures.made e.0 e.1) c.in_err-get.ensures.as_before).told fault is)

pub returns-clause-view : goal.returns-clause-view
returns-clause-view g c =
    let long = as_long c.loop-at.at c.args.self.now c.loop-at.self (g.L.Link.state c.args.link.now) (g.L.Link.state c.loop-at.link) c.loop-at.invariant.read c.requires in
    (read_whole c.loop-at.at c.loop-at.self (g.L.Link.state c.args.link.now) (g.L.Link.state c.loop-at.link) c.loop-at.invariant.read (omega (arith, c.loop-at-test.false, c.loop-at.auto.at-end, ap length c.elements-at-end.ensures, long))).view

pub returns-clause-of_function : goal.returns-clause-of_function
returns-clause-of_function g c =
    let long = as_long c.loop-at.at c.args.self.now c.loop-at.self (g.L.Link.state c.args.link.now) (g.L.Link.state c.loop-at.link) c.loop-at.invariant.read c.requires in
    (read_whole c.loop-at.at c.loop-at.self (g.L.Link.state c.args.link.now) (g.L.Link.state c.loop-at.link) c.loop-at.invariant.read (omega (arith, c.loop-at-test.false, c.loop-at.auto.at-end, ap length c.elements-at-end.ensures, long))).of
