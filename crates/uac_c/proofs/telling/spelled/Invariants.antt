use Rattle.std.proofs.Common.{◌≡◌, take, map}
use Rattle.std.specs.Prelude.{string_bytes}
use Rattle.uac_c.proofs.telling.spelled.Given as goal

abbrev pub invariant-loop-word : goal.invariant-loop-word
invariant-loop-word l = map (λ word. string_bytes word) l.list.items ≡ map (λ word. word.now) (take l.word-index l.words)
