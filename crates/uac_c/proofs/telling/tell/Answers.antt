use Rattle.std.proofs.Common.{refl, rules}
use Rattle.uac_c.proofs.TellingLemmas.{put_told, unwritten_told}
use Rattle.uac_c.proofs.telling.tell.Goals as goal

pub returns-in-Ok-clause-told : goal.returns-in-Ok-clause-told
returns-in-Ok-clause-told c =
    put_told _ _ _ _ _ _ _ _ (λ i. search rules) c.in-Ok.ensures.whole c.in-Ok.ensures.answered c.put.ensures.put

pub returns-in-Err-clause-told : goal.returns-in-Err-clause-told
returns-in-Err-clause-told c = unwritten_told _ c.args.input.now _ _ _ _ (λ i. search rules) refl refl refl
