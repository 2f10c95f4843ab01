-- The first fault, group by group.
use Rattle.std.proofs.Common.{◌≡◌, List, Option, Some, None, refl, sym, ap, ◌∙◌}
use Rattle.std.specs.Option.{option_or}
use Rattle.uac_descriptor.specs.declared.block.Block as block
use Rattle.uac_entities.specs.Entities.{entities_of}
use Rattle.uac_entities.specs.EntitySettings.{declared_settings}
use Rattle.uac_entities.specs.declared.settings.DeclaredSetting.{DeclaredSetting}
use Rattle.uac_entities.specs.declared.entity.Entity.{Entity}
use Rattle.uac_entities.specs.declared.stream.StreamInterface.{StreamInterface}
use Rattle.uac_topology_rules.specs.declared.fault.TopologyFault.{TopologyFault}
use Rattle.uac_topology_rules.specs.RuleFaults.{broken_names, broken_walks, broken_shapes, broken_ends, rule_fault}
use Rattle.uac_topology_rules.proofs.LinksLemmas.{option_or-none}
use Rattle.uac_topology.specs.Topology.{first_fault_of, streams_in}

-- the first of four
or_at : {X : Type 0} → Option X → Option X → Option X → Option X → Option X
or_at a b c d = option_or a (option_or b (option_or c (option_or d None)))

is_or : (es : List Entity) (all : List DeclaredSetting) (ss : List StreamInterface) →
    rule_fault es all ss ≡ or_at (broken_names es) (broken_walks es) (broken_shapes es) (broken_ends es all ss)
unfolding rule_fault or_at
is_or es all ss = refl

or_first : {X : Type 0} (a b c d : Option X) (x : X) → Some x ≡ a → or_at a b c d ≡ Some x
unfolding or_at
or_first a b c d x e = sym (ap (λ o. option_or o (option_or b (option_or c (option_or d None)))) e)

or_second : {X : Type 0} (a b c d : Option X) (x : X) → None ≡ a → Some x ≡ b → or_at a b c d ≡ Some x
unfolding or_at
or_second a b c d x e f =
    sym (ap (λ o. option_or o (option_or b (option_or c (option_or d None)))) e) ∙ sym (ap (λ o. option_or o (option_or c (option_or d None))) f)

or_third : {X : Type 0} (a b c d : Option X) (x : X) → None ≡ a → None ≡ b → Some x ≡ c → or_at a b c d ≡ Some x
unfolding or_at
or_third a b c d x e f g =
    sym (ap (λ o. option_or o (option_or b (option_or c (option_or d None)))) e) ∙ sym (ap (λ o. option_or o (option_or c (option_or d None))) f)
    ∙ sym (ap (λ o. option_or o (option_or d None)) g)

or_last : {X : Type 0} (a b c d o : Option X) → None ≡ a → None ≡ b → None ≡ c → o ≡ d → or_at a b c d ≡ o
unfolding or_at
or_last a b c d o e f g h =
    sym (ap (λ x. option_or x (option_or b (option_or c (option_or d None)))) e) ∙ sym (ap (λ x. option_or x (option_or c (option_or d None))) f)
    ∙ sym (ap (λ x. option_or x (option_or d None)) g) ∙ option_or-none d ∙ sym h

module _ (blocks : List block.Block) (es : List Entity) (e : es ≡ entities_of blocks) where
  pub by_names : (fault : TopologyFault) → Some fault ≡ broken_names es → first_fault_of blocks ≡ Some fault
  unfolding first_fault_of
  by_names fault f =
      is_or (entities_of blocks) (declared_settings blocks) (streams_in blocks) ∙ or_first _ _ _ _ fault (f ∙ ap broken_names e)

  pub by_walks : (fault : TopologyFault) → None ≡ broken_names es → Some fault ≡ broken_walks es → first_fault_of blocks ≡ Some fault
  unfolding first_fault_of
  by_walks fault a f =
      is_or (entities_of blocks) (declared_settings blocks) (streams_in blocks)
      ∙ or_second _ _ _ _ fault (a ∙ ap broken_names e) (f ∙ ap broken_walks e)

  pub by_shapes : (fault : TopologyFault) → None ≡ broken_names es → None ≡ broken_walks es → Some fault ≡ broken_shapes es → first_fault_of blocks ≡ Some fault
  unfolding first_fault_of
  by_shapes fault a b f =
      is_or (entities_of blocks) (declared_settings blocks) (streams_in blocks)
      ∙ or_third _ _ _ _ fault (a ∙ ap broken_names e) (b ∙ ap broken_walks e) (f ∙ ap broken_shapes e)

  pub by_ends : (all : List DeclaredSetting) (ss : List StreamInterface) (o : Option TopologyFault) → all ≡ declared_settings blocks → ss ≡ streams_in blocks →
      None ≡ broken_names es → None ≡ broken_walks es → None ≡ broken_shapes es → o ≡ broken_ends es all ss → first_fault_of blocks ≡ o
  unfolding first_fault_of
  by_ends all ss o p q a b c f =
      is_or (entities_of blocks) (declared_settings blocks) (streams_in blocks)
      ∙ or_last _ _ _ _ o (a ∙ ap broken_names e) (b ∙ ap broken_walks e) (c ∙ ap broken_shapes e)
      (f ∙ ap (λ (xs : List Entity). broken_ends xs all ss) e ∙ ap (λ (xs : List DeclaredSetting). broken_ends (entities_of blocks) xs ss) p
      ∙ ap (λ (xs : List StreamInterface). broken_ends (entities_of blocks) (declared_settings blocks) xs) q)
