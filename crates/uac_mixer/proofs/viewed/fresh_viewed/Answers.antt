use Rattle.std.proofs.Common.{◌≡◌, ◌∙◌}
use Rattle.std.proofs.lemmas.Result.{IfOk-weaker}
use Rattle.uac_device.specs.DeviceKept as kept
use Rattle.uac_device.specs.DeviceWorld.{DeviceWorld, fresh}
use Rattle.uac_mixer.specs.ViewWorld.{known_view}
use Rattle.uac_store.specs.StoreControls.{initial_controls}
use Rattle.uac_mixer.specs.declared.viewed.Viewed.{Viewed}
use Rattle.uac_mixer.proofs.ReadingLemmas.{function_kept, known_start}
use Rattle.uac_mixer.proofs.viewed.fresh_viewed.Goals as goal

pub returns-clause-view : goal.returns-clause-view
returns-clause-view c =
    let device = c.in_ok-device.device in
    IfOk-weaker c.with_view.result (λ (viewed : Viewed). viewed.view ≡ known_view device.function.entities device.controls)
    (λ (viewed : Viewed). viewed.view ≡ known_view c.args.function.entities (initial_controls c.args.function.entities))
    (λ viewed is. is ∙ known_start c.args.function device c.in_ok-device.ensures) c.with_view.ensures.view

pub returns-clause-stands : goal.returns-clause-stands
returns-clause-stands c =
    IfOk-weaker c.with_view.result (λ (viewed : Viewed). (w : DeviceWorld) → kept.DeviceStands c.in_ok-device.device w → kept.DeviceStands viewed.device w)
    (λ (viewed : Viewed). kept.DeviceStands viewed.device (fresh c.args.function)) (λ viewed keeps. keeps (fresh c.args.function) c.in_ok-device.ensures) c.with_view.ensures.stands

pub returns-clause-function : goal.returns-clause-function
returns-clause-function c =
    IfOk-weaker c.with_view.result (λ (viewed : Viewed). viewed.device.function ≡ c.in_ok-device.device.function) (λ (viewed : Viewed). viewed.device.function ≡ c.args.function)
    (λ viewed is. is ∙ function_kept c.args.function c.in_ok-device.device c.in_ok-device.ensures) c.with_view.ensures.function
