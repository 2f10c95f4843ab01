use Rattle.std.proofs.Common.{◌≡◌}
use Rattle.uac_mixer.proofs.ViewLinksReadLemmas.{HaveRead}
use Rattle.uac_mixer.proofs.view.View.read_all.Given as goal

abbrev pub invariant-loop-at : goal.invariant-loop-at
invariant-loop-at g l = record {
  lender : g.L.Link.lender l.link ≡ g.L.Link.lender l.initial.link;
  read : HaveRead l.at l.self (g.L.Link.state l.initial.link) (g.L.Link.state l.link);
}
