use Rattle.std.proofs.Common.{ℕ, ◌+◌, [], ◌∷◌, Option, refl, sym, ap, ◌∙◌}
use Rattle.uac_grammar_rules.specs.declared.roles.BlockRole.{BlockRole}
use Rattle.uac_grammar_rules.specs.declared.states.Listing.{Listing}
use Rattle.uac_grammar_rules.specs.Grammar.{comes_again, ends_before, ends_list_early, lacks_association, least, list_end, lists_unknown}
use Rattle.uac_grammar_rules.proofs.RulesLemmas.{rule_named}
use Rattle.uac_grammar_rules.proofs.states.State.judge.Goals as goal

pub returns-in-Some : goal.returns-in-Some
returns-in-Some c =
    let s = c.args.self.now in
    let past : ℕ = c.args.place + c.args.size in
    let early = ap (λ (k : BlockRole). ends_list_early s.listing c.args.place k) (sym c.of-role.ensures) ∙ sym c.ends_list_early.ensures ∙ c.if-ends_list_early.false in
    let named =
    ap (λ (k : BlockRole). least ((7, lacks_association s.stage k) ∷ (8, lists_unknown s.stage k) ∷ (9, comes_again s.stage k) ∷ [])) (sym c.of-role.ensures)
    ∙ sym c.rule_named.ensures ∙ c.in-Some.is in (
      rule_named s c.args.place c.args.size c.args.block.now c.in-Some.rule
          (sym c.has_wrong_value.ensures ∙ c.if-has_wrong_value.false)
          (ap (λ (e : Option ℕ). ends_before e past) (sym c.end_after-end.ensures) ∙ sym c.ends_before.ensures ∙ c.if-ends_before.false)
          (ap (λ (l : Listing). ends_before (list_end l) past) (sym c.listing_after-listing.ensures)
          ∙ ap (λ (e : Option ℕ). ends_before e past) (sym c.list_end.ensures)
          ∙ sym c.ends_before-else-ends_before.ensures ∙ c.if-ends_before-2.false)
          early named,
      refl,
    )
