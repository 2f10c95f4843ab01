use Rattle.std.proofs.Common.{◌≡◌, true, refl}
use Rattle.uac_bus.proofs.BusWorldLemmas.{idle_in, fed_in, early_in, is_later, later_as, out_of, played_in}
use Rattle.uac_bus.proofs.bus.advance.Goals as goal

pub returns-in-Nothing-clause-does : goal.returns-in-Nothing-clause-does
returns-in-Nothing-clause-does g c = λ w s. rw c.in-Nothing.is (idle_in _ _ w _ (rw c.in-Describing.is at s))

pub returns-in-Bytes-clause-does : goal.returns-in-Bytes-clause-does
returns-in-Bytes-clause-does g c = λ w s.
    rw c.in-Bytes.is (fed_in _ _ _ _ w _ _ (rw c.in-Describing.is at s) c.feed.ensures.does)

pub returns-in-Go-clause-does : goal.returns-in-Go-clause-does
returns-in-Go-clause-does g c = λ w s. rw c.in-Go.is (c.go.ensures.does _ w (rw c.in-Describing.is at s))

pub returns-in-Control-clause-does : goal.returns-in-Control-clause-does
returns-in-Control-clause-does g c = λ w s.
    let later : is_later c.args.line ≡ true =
    out_of c.in-Control.is (λ h. later_as h.2 refl) (λ h.
    out_of h (λ h. later_as h.1 refl) (λ h.
    out_of h (λ h. later_as h.2 refl) (λ h.
    out_of h (λ h. later_as h.1 refl) (λ h.
    out_of h (λ h. later_as h.1 refl) (λ h.
    out_of h (λ h. later_as h.2 refl) (λ h.
    out_of h (λ h. later_as h.2 refl) (λ h.
    out_of h (λ h. later_as h.2 refl) (λ h.
    out_of h (λ h. later_as h.2 refl) (λ h.
    out_of h (λ h. later_as h.2 refl) (λ h.
    out_of h (λ h. later_as h.1 refl) (λ h. later_as h refl))))))))))) in
    early_in _ _ _ w (rw c.in-Describing.is at s) later

pub returns-in-Running-clause-does : goal.returns-in-Running-clause-does
returns-in-Running-clause-does g c = λ w s. played_in _ _ _ _ _ w _ _ _ (rw c.in-Running.is at s) c.play.ensures.does
