-- A fault of each rule, by the definitions alone: the blocks in front of it, the bytes at its place, and how the rule is broken there.
use Rattle.std.proofs.Common.{◌≡◌, ℕ, [], ◌∷◌, Some, None, refl, inl, inr, arith}
use Rattle.uac_descriptor.specs.declared.context.Context.TheVariants as context
use Rattle.uac_descriptor.specs.declared.block.Block as block
use Rattle.uac_descriptor.specs.declared.block.Block.TheVariants as variant
use Rattle.uac_descriptor.specs.Classes.{is_audio_association, is_control_interface, is_streaming_interface}
use Rattle.uac_descriptor.specs.BlockParsing.{block_of, is_whole, has_length}
use Rattle.uac_descriptor.specs.LayoutRows.{row_in, row_of}
use Rattle.uac_descriptor.specs.Spelling.{spelling}
use Rattle.uac_descriptor.proofs.SpellingLemmas.{block_of-Spells}
use Rattle.uac_grammar_rules.specs.BlockRole.{interface_context, interface_role, whole_role, is_device, has_unknown_subtype}
use Rattle.uac_grammar_rules.specs.FirstFault.{IsFault, g1, g2, g3, g4, g5, g6, g7, g8, g9}

abbrev configuration : block.Block
configuration = variant.Configuration (record { total = 9; interfaces = 1; value = 1; name = 0; attributes = 128; power = 50 })

abbrev association : block.Block
association = variant.Association (record { first = 0; count = 1; «class» = 1; subclass = 0; protocol = 32; name = 0 })

abbrev control : block.Block
control = variant.Interface (record { number = 0; setting = 0; endpoints = 0; «class» = 1; subclass = 1; protocol = 32; name = 0 })

abbrev stream : block.Block
stream = variant.Interface (record { number = 1; setting = 0; endpoints = 0; «class» = 1; subclass = 2; protocol = 32; name = 0 })

-- of this version, and of another one
abbrev header : ℕ → block.Block
header version = variant.Header (record { version = version; category = 4; total = 9; controls = 0 })

abbrev unknown : block.Block
unknown = variant.Foreign (3 ∷ 36 ∷ 8 ∷ [])

-- G1: one byte alone
lone_byte : IsFault (9 ∷ []) 1 0
lone_byte = record { before = []; following = 9 ∷ []; cut = refl; stand = tt; at = refl; breaks = g1 refl (inl (inl refl)) }

-- G2: a length of 1
length_1 : IsFault (1 ∷ 2 ∷ []) 2 0
length_1 = record { before = []; following = 1 ∷ 2 ∷ []; cut = refl; stand = tt; at = refl; breaks = g2 refl (omega arith, omega arith) }

-- G3: a configuration of two bytes
short_configuration : IsFault (2 ∷ 2 ∷ []) 3 0
unfolding block_of is_whole has_length row_in row_of
short_configuration =
    record {
      before = [];
      following = 2 ∷ 2 ∷ [];
      cut = refl;
      stand = tt;
      at = refl;
      breaks = g3 refl (record {
        piece = 2 ∷ 2 ∷ [];
        rest = [];
        cut = refl;
        is_piece = (omega arith, refl);
        spells_none = λ b spells. none_is b (block_of-Spells context.DeviceFront b (2 ∷ 2 ∷ []) spells);
      });
    }
  where
    none_is : (b : block.Block) → None ≡ Some b → ⊥
    none_is b e = cc

-- G4: in the control interface, a header of version 1
old_version : IsFault (9 ∷ 4 ∷ 0 ∷ 0 ∷ 0 ∷ 1 ∷ 1 ∷ 32 ∷ 0 ∷ 9 ∷ 36 ∷ 1 ∷ 0 ∷ 1 ∷ 4 ∷ 9 ∷ 0 ∷ 0 ∷ []) 4 9
unfolding spelling row_in row_of interface_context is_control_interface
old_version =
    record {
      before = control ∷ [];
      following = 9 ∷ 36 ∷ 1 ∷ 0 ∷ 1 ∷ 4 ∷ 9 ∷ 0 ∷ 0 ∷ [];
      cut = refl;
      stand = (record { spelt = refl; stands = refl; complete = tt }, tt);
      at = refl;
      breaks = g4 refl (record { next = header 256; rest = []; spelt = refl; stands = record { spelt = refl; stands = refl; complete = tt }; is_so = λ e. absurd (omega (arith, e)) });
    }

-- G5: an association after a configuration whose total is its own 9 bytes
past_the_total : IsFault (9 ∷ 2 ∷ 9 ∷ 0 ∷ 1 ∷ 1 ∷ 0 ∷ 128 ∷ 50 ∷ 8 ∷ 11 ∷ 0 ∷ 1 ∷ 1 ∷ 0 ∷ 32 ∷ 0 ∷ []) 5 9
unfolding spelling row_in row_of
past_the_total =
    record {
      before = configuration ∷ [];
      following = 8 ∷ 11 ∷ 0 ∷ 1 ∷ 1 ∷ 0 ∷ 32 ∷ 0 ∷ [];
      cut = refl;
      stand = (record { spelt = refl; stands = refl; complete = tt }, tt);
      at = refl;
      breaks = g5 refl (inl (record {
        next = association;
        rest = [];
        spelt = refl;
        stands = record { spelt = refl; stands = refl; complete = tt };
        is_so = inl (omega arith);
      }));
    }

-- G6: the input ends after the control interface, and its header is missing
header_missing : IsFault (9 ∷ 4 ∷ 0 ∷ 0 ∷ 0 ∷ 1 ∷ 1 ∷ 32 ∷ 0 ∷ []) 6 9
unfolding spelling row_in row_of interface_role is_control_interface
header_missing =
    record {
      before = control ∷ [];
      following = [];
      cut = refl;
      stand = (record { spelt = refl; stands = refl; complete = tt }, tt);
      at = refl;
      breaks = g6 refl (inr (refl, refl));
    }

-- G7: a streaming interface with no audio association before it
early_stream : IsFault (9 ∷ 4 ∷ 1 ∷ 0 ∷ 0 ∷ 1 ∷ 2 ∷ 32 ∷ 0 ∷ []) 7 0
unfolding spelling row_in row_of interface_role is_control_interface is_streaming_interface
early_stream =
    record {
      before = [];
      following = 9 ∷ 4 ∷ 1 ∷ 0 ∷ 0 ∷ 1 ∷ 2 ∷ 32 ∷ 0 ∷ [];
      cut = refl;
      stand = tt;
      at = refl;
      breaks = g7 refl (inl (record { next = stream; rest = []; spelt = refl; stands = record { spelt = refl; stands = refl; complete = tt }; is_so = refl }));
    }

-- G8: after the header, a class block of subtype 8
unknown_subtype : IsFault (9 ∷ 4 ∷ 0 ∷ 0 ∷ 0 ∷ 1 ∷ 1 ∷ 32 ∷ 0 ∷ 9 ∷ 36 ∷ 1 ∷ 0 ∷ 2 ∷ 4 ∷ 9 ∷ 0 ∷ 0 ∷ 3 ∷ 36 ∷ 8 ∷ []) 8 18
unfolding spelling row_in row_of interface_context interface_role is_control_interface whole_role is_device has_unknown_subtype
unknown_subtype =
    record {
      before = control ∷ header 512 ∷ [];
      following = 3 ∷ 36 ∷ 8 ∷ [];
      cut = refl;
      stand = (record { spelt = refl; stands = refl; complete = tt }, (record { spelt = refl; stands = refl; complete = tt }, tt));
      at = refl;
      breaks = g8 refl (record {
        next = unknown;
        rest = [];
        spelt = refl;
        stands = record { spelt = refl; stands = refl; complete = (omega arith, refl) };
        is_so = refl;
      });
    }

-- G9: a second audio association
second_association : IsFault (8 ∷ 11 ∷ 0 ∷ 1 ∷ 1 ∷ 0 ∷ 32 ∷ 0 ∷ 8 ∷ 11 ∷ 0 ∷ 1 ∷ 1 ∷ 0 ∷ 32 ∷ 0 ∷ []) 9 8
unfolding spelling row_in row_of is_audio_association
second_association =
    record {
      before = association ∷ [];
      following = 8 ∷ 11 ∷ 0 ∷ 1 ∷ 1 ∷ 0 ∷ 32 ∷ 0 ∷ [];
      cut = refl;
      stand = (record { spelt = refl; stands = refl; complete = tt }, tt);
      at = refl;
      breaks = g9 refl (record { next = association; rest = []; spelt = refl; stands = record { spelt = refl; stands = refl; complete = tt }; is_so = refl });
    }
