-- A value past 32 bits isn't legal.
use Rattle.std.proofs.Common.{◌≡◌, ◌≤◌, length, IsSome, FitsSigned, w32, subst, sym, rules}
use Rattle.uac_store.specs.StoreValues.{is_legal}
use Rattle.uac_request.specs.Requests.{is_signed, value_from}
use Rattle.uac_request.proofs.RequestsSentLemmas.{legal_fits, none_where_unfit}
use Rattle.uac_request.proofs.rules.legal_value.Goals as goal

pub returns-in_default-clause-value : goal.returns-in_default-clause-value
returns-in_default-clause-value c =
    let same : c.value_from-number.result ≡ value_from (is_signed c.args.entity.now.kind c.args.key.selector) c.args.sent.now = search rules in
    let some : FitsSigned w32 c.value_from-number.result → IsSome c.in_32_bits.result = search rules in
    let short : length c.args.sent.now ≤ 2 → FitsSigned w32 (value_from (is_signed c.args.entity.now.kind c.args.key.selector) c.args.sent.now) = λ few. subst (FitsSigned w32) same (c.value_from-number.ensures.short few) in
    none_where_unfit (is_legal c.args.function.now.entities c.args.store.now c.args.key (value_from (is_signed c.args.entity.now.kind c.args.key.selector) c.args.sent.now)) (value_from (is_signed c.args.entity.now.kind c.args.key.selector) c.args.sent.now) c.in_32_bits.result
    (legal_fits c.args.function.now.entities c.args.store.now c.args.entity.now c.args.key (length c.args.sent.now) (value_from (is_signed c.args.entity.now.kind c.args.key.selector) c.args.sent.now) c.requires.named c.requires.some c.requires.low c.requires.whole c.requires.writable short)
    (λ fits. some (subst (FitsSigned w32) (sym same) fits)) c.in_default.is
