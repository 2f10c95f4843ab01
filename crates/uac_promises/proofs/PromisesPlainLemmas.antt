-- Lines that tell of no ring that was found empty or without room, and of no level: whatever is promised of those is kept by them.
use Rattle.std.proofs.Common.{◌≡◌, ◌∙◌, sym, ap, refl, ℕ, Bool, true, false, List, [], ◌∷◌, ◌++◌, map, Option}
use Rattle.std.specs.List.{All}
use Rattle.std.proofs.lemmas.Bool.{true≢false}
use Rattle.std.proofs.lemmas.List.Elements.{All-append, All-cons, All-map, All-nil, All-weaker}
use Rattle.uac_entities.specs.declared.stream.StreamInterface.{StreamInterface}
use Rattle.uac_device.specs.DeviceWorld.{Domain}
use Rattle.uac_transcript.specs.Transcript.{Said, says_level, says_meter, says_over, says_time, says_renders, says_steady, says_under}
use Rattle.uac_ring.specs.declared.counts.StreamCounts.{StreamCounts}
use Rattle.uac_running.specs.RunningWorld.{RunningWorld}
use Rattle.uac_running.specs.RunningWorld as world
use Rattle.uac_running.specs.RunningLines.{report_lines}
use Rattle.uac_running.specs.ReportLines.{domain_line, says_stream, stream_line}
use Rattle.uac_rows.specs.BusWorld.{BusWorld, describing, running}
use Rattle.uac_levels.specs.Past.{Pasts}
use Rattle.uac_promises.specs.Watches.{watch_in}
use Rattle.uac_promises.specs.Promises.{IsCloseIn, IsKeptPromise}

-- ---- such a line

abbrev is_plain : Said → Bool
is_plain (says_under interface) = false
is_plain (says_over interface) = false
is_plain (says_level interface level target) = false
is_plain said = true

abbrev pub IsPlain : Said → Type 0
IsPlain said = is_plain said ≡ true

not_plain : (said other : Said) → IsPlain said → is_plain other ≡ false → said ≡ other → ⊥
not_plain said other plain isnt same = true≢false (sym plain ∙ (ap is_plain same ∙ isnt))

plain_close : (w : BusWorld) (pasts : Pasts) (said : Said) → IsPlain said → IsCloseIn w pasts said
plain_close (describing bytes meters) pasts said plain = tt
plain_close (running r) pasts said plain = λ interface level target same. absurd (not_plain said _ plain refl same)

plain_kept : (w : BusWorld) (pasts : Pasts) (said : Said) → IsPlain said → IsKeptPromise (watch_in w pasts said)
plain_kept w pasts said plain = record {
  no_under = λ interface same. not_plain said (says_under interface) plain refl same;
  no_over = λ interface same. not_plain said (says_over interface) plain refl same;
  near = λ interface level target same. absurd (not_plain said _ plain refl same);
  close = plain_close w pasts said plain;
}

pub plain_lines_kept : (w : BusWorld) (pasts : Pasts) (lines : List Said) → All IsPlain lines → All IsKeptPromise (map (watch_in w pasts) lines)
plain_lines_kept w pasts lines plain =
    All-map IsKeptPromise (watch_in w pasts) lines
    (All-weaker IsPlain (λ said. IsKeptPromise (watch_in w pasts said)) (plain_kept w pasts) lines plain)

-- ---- the lines that are printed between microframes

pub one_plain : (said : Said) → IsPlain said → All IsPlain (said ∷ [])
one_plain said plain = All-cons IsPlain said [] plain (All-nil IsPlain)

mapped_plain : {A : Type 0} → (f : A → Said) → ((x : A) → IsPlain (f x)) → (xs : List A) → All IsPlain (map f xs)
mapped_plain f each xs = All-map IsPlain f xs (λ k d h. each _)

domain_plain : (r : RunningWorld) (d : Domain) → IsPlain (domain_line r.device d)
unfolding domain_line
domain_plain r d = refl

says_plain : (out : Bool) (number setting level : ℕ) (target : Option ℕ) (met : StreamCounts)
    → IsPlain (says_stream out number setting level target met)
says_plain true number setting level target met = refl
says_plain false number setting level target met = refl

stream_plain : (r : RunningWorld) (s : StreamInterface) → IsPlain (stream_line r.device r.met s)
unfolding stream_line
stream_plain r s = says_plain s.out _ _ _ _ _

pub report_plain : (r : RunningWorld) → All IsPlain (report_lines r)
unfolding report_lines
report_plain r =
    let last : List Said = says_renders r.renders ∷ [] in
    let meters : List Said = map says_meter r.meters in
    let streams : List Said = map (stream_line r.device r.met) r.device.function.streams in
    let domains : List Said = map (domain_line r.device) r.device.domains in
    let heard : All IsPlain (meters ++ last) =
    All-append IsPlain meters last (mapped_plain says_meter (λ reading. refl) r.meters) (one_plain (says_renders r.renders) refl)
    in
    let streamed : All IsPlain (streams ++ (meters ++ last)) =
    All-append IsPlain streams (meters ++ last) (mapped_plain (stream_line r.device r.met) (stream_plain r) r.device.function.streams) heard
    in
    let clocked : All IsPlain (domains ++ (streams ++ (meters ++ last))) =
    All-append IsPlain domains (streams ++ (meters ++ last))
    (mapped_plain (domain_line r.device) (domain_plain r) r.device.domains) streamed
    in
    let steady : Said = says_steady (world.is_steady r) in
    All-cons IsPlain (says_time r.time) (steady ∷ domains ++ (streams ++ (meters ++ last))) refl
    (All-cons IsPlain steady (domains ++ (streams ++ (meters ++ last))) refl clocked)
