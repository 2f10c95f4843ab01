use Rattle.std.proofs.Common.{◌≡◌, ◌∷◌, true, ap, ◌∙◌, sym, arith, rules}
use Rattle.std.proofs.lemmas.Bool.{and_parts}
use Rattle.std.proofs.lemmas.Int.{to_z-of_z}
use mir.Val.{SFits, to_z, of_z}
use mir.Syntax.{w32}
use Rattle.uac_script.proofs.WordsListLemmas.{next_taken, all_taken}
use Rattle.uac_lines.specs.ScriptNumerals.{value_of, is_number}
use Rattle.uac_lines.specs.Ranges.{is_in_32_bits}
use Rattle.std.specs.List.{list_all}
use Rattle.uac_lines.specs.Words.{words_left}
use Rattle.uac_lines.proofs.ScriptNumeralsLemmas.{number_not_empty}
use Rattle.uac_script.proofs.lists.samples.Goals as goal

pub loop-word-preserved : goal.loop-word-preserved
loop-word-preserved c =
    let numbers : list_all is_number (c.in-Some.word.now ∷ words_left c.take.new.self.rest) ≡ true = sym (ap (list_all is_number) c.in-Some.ensures.words) ∙ c.loop-word.invariant.numbers in
    let parts = and_parts _ _ numbers in
    let long = number_not_empty c.in-Some.word.now parts.0 in
    let fits : SFits w32 c.in_ok-signed_number.field-0 = search rules in
    let sample : to_z w32 (of_z w32 c.in_ok-signed_number.field-0) ≡ value_of c.in-Some.word.now = to_z-of_z w32 _ fits ∙ c.in_ok-signed_number.ensures.1 in
    record {
      so_far = next_taken value_of _ _ _ _ _ c.in-Some.word.now _ c.loop-word.invariant.so_far c.in-Some.ensures.words sample c.push.ensures.items;
      in_range = all_taken is_in_32_bits _ _ _ c.loop-word.invariant.in_range (ap is_in_32_bits sample ∙ c.in_ok-signed_number.ensures.0) c.push.ensures.items;
      numbers = parts.1;
      room = omega (arith, c.in-Some.ensures.room, c.push.ensures.len);
    }
