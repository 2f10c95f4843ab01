-- Where no stream runs, no packet comes and a microframe's end changes nothing.
use Rattle.std.proofs.Common.{◌≡◌, ◌∙◌, sym, ap, subst, refl, ℕ, List, Option, Ok}
use Rattle.std.specs.Io.KnownBytes.{Appends}
use Rattle.uac_units.specs.Hearing.{Reading}
use Rattle.uac_script.specs.Phrase.{PhraseMark}
use Rattle.uac_edges.specs.declared.edges.Failed.{Failed}
use Rattle.uac_transcript.specs.Transcript.{Said}
use Rattle.uac_transcript.specs.Printing.{text_of}
use Rattle.uac_streaming.specs.Telling as streams
use Rattle.uac_streaming.specs.Telling.{Telling, telling_after, without_event}
use Rattle.uac_streaming.specs.StreamingWorld.{StreamingWorld, all_feedback, all_ends, in_packets, out_packets}
use Rattle.uac_streaming.proofs.StreamingWorldQuietLemmas.{IsQuiet, Quietly, quiet_ends, quiet_in, quiet_out, quiet_feedback}
use Rattle.uac_running.specs.RunningWorld.{RunningWorld, streaming_of, with_streaming}
use Rattle.uac_running.specs.Events.{all_domains, ends_and_feedback, followed_by, of_streams, packets_and_ticks}
use Rattle.uac_running.specs.RunningKept.{RunningFields, RunningStands, RunningTells}
use Rattle.uac_running.specs.Silence.{packets}
use Rattle.uac_running.proofs.TellingLemmas.{Appends-nothing, tells_then, telling_after-telling_after}
use Rattle.uac_running.proofs.EventsLemmas.{streams_told}
use Rattle.uac_running.proofs.StreamingWorldLemmas.{all_ends-keep}

-- the packets come first
pub packets_first : (marks : List PhraseMark) (r : RunningWorld) → followed_by (packets marks) all_domains r ≡ packets_and_ticks marks r
unfolding packets_and_ticks
packets_first marks r =
    let out = of_streams (out_packets r.detail marks) r in
    let coming = of_streams (in_packets r.detail marks) out.world in
    sym (telling_after-telling_after out.lines coming.lines (all_domains coming.world))

abbrev told_with : RunningWorld → Telling StreamingWorld → Telling RunningWorld
told_with r told = record { lines = told.lines; world = with_streaming r told.world }

pub still_streams : (event : StreamingWorld → Telling StreamingWorld) (r : RunningWorld) → event (streaming_of r) ≡ streams.without_event (streaming_of r) → of_streams event r ≡ without_event r
still_streams event r is = ap (told_with r) is

still_told : (told : Telling RunningWorld) (p : RunningFields) (meters : List Reading) (r : RunningWorld) (old : Option (List ℕ)) → told ≡ without_event r → RunningStands p meters r
    → RunningTells {E = Failed} told p meters old old (Ok tt)
still_told told p meters r old is stands = subst (λ (t : Telling RunningWorld). RunningTells {E = Failed} t p meters old old (Ok tt)) (sym is) (Appends-nothing old, stands)

pub quiet_packets_told : (marks : List PhraseMark) (p : RunningFields) (meters : List Reading) (r : RunningWorld) (old : Option (List ℕ)) → IsQuiet (streaming_of r) → RunningStands p meters r
    → RunningTells {E = Failed} (packets marks r) p meters old old (Ok tt)
quiet_packets_told marks p meters r old none stands =
    still_told (packets marks r) p meters r old
    (ap (λ (t : Telling RunningWorld). telling_after t.lines (of_streams (in_packets r.detail marks) t.world))
    (still_streams (out_packets r.detail marks) r (quiet_out r.detail marks (streaming_of r) none))
    ∙ still_streams (in_packets r.detail marks) r (quiet_in r.detail marks (streaming_of r) none))
    stands

pub quiet_ends_told : (marks : List PhraseMark) (p : RunningFields) (meters : List Reading) (r : RunningWorld) (old : Option (List ℕ)) → IsQuiet (streaming_of r) → RunningStands p meters r
    → RunningTells {E = Failed} (ends_and_feedback marks r) p meters old old (Ok tt)
unfolding ends_and_feedback
quiet_ends_told marks p meters r old none stands =
    let ended : Quietly p.streaming p.device (all_ends r.detail (streaming_of r)) = quiet_ends r.detail p.streaming p.device (streaming_of r) none stands.streaming in
    let after = (of_streams (all_ends r.detail) r).world in
    let first : RunningTells {E = Failed} (of_streams (all_ends r.detail) r) p meters old old (Ok tt) =
    streams_told meters r p p stands {E = Failed} (all_ends r.detail) old old (Ok tt)
    (subst (λ (ls : List Said). Appends old old (text_of ls)) (sym ended.lines) (Appends-nothing old), ended.stands)
    (all_ends-keep r.detail (streaming_of r)) refl refl refl refl refl (record { view = refl; configuration = refl; breaks = refl }) in
    tells_then {E = Failed} (of_streams (all_ends r.detail)) (of_streams (all_feedback r.detail marks)) r p meters old old old (Ok tt) first.0
    (still_told (of_streams (all_feedback r.detail marks) after) p meters after old
    (still_streams (all_feedback r.detail marks) after (quiet_feedback r.detail marks (streaming_of after) ended.quiet)) first.1)
