-- A reader of lines while it takes bytes, and the last line without a newline.
use Rattle.std.proofs.Common.{◌≡◌, ℕ, ◌<◌, ◌≤◌, true, List, [], ◌++◌, length, take, drop, Option, Ok, inr, refl, sym, ap, ◌∙◌, subst, arith, append_assoc}
use Rattle.std.proofs.lemmas.List.{append-nil, take_all, drop_all, nil_from_length}
use Rattle.std.specs.Io.KnownBytes.{Consumes}
use Rattle.uac_lines.specs.declared.lines.Next.TheVariants as next
use Rattle.uac_lines.specs.ScriptLines.{Splitting, Splits, Goes, StopsAtLine, IsDecided, head_of, unended}
use Rattle.uac_lines.specs.Taking.{Grows}
use Rattle.uac_edges.proofs.KnownBytesLemmas.{Consumes-Consumes}
use Rattle.uac_lines.proofs.ScriptLinesLemmas.{told_before}

-- no bytes taken
pub same_at_first : (old : Splitting) → old ≡ record old { unread = old.unread ++ [] }
same_at_first old = ap (λ (u : List ℕ). let n : Splitting = record old { unread = u } in n) (sym (append-nil old.unread))

-- bytes taken, and then more
pub same_more : (old mid now : Splitting) (taken got : List ℕ) → mid ≡ record old { unread = old.unread ++ taken } → now ≡ record mid { unread = now.unread }
    → now.unread ≡ mid.unread ++ got → now ≡ record old { unread = old.unread ++ (taken ++ got) }
same_more old mid now taken got before others grown =
    others ∙ ap (λ (u : List ℕ). let n : Splitting = record mid { unread = u } in n) grown
    ∙ ap (λ (m : Splitting). let n : Splitting = record m { unread = m.unread ++ got } in n) before
    ∙ ap (λ (u : List ℕ). let n : Splitting = record old { unread = u } in n) (append_assoc old.unread taken got)

-- a take changes the unread bytes alone
pub others_kept : (mid now : Splitting) → now ≡ record mid { unread = now.unread } → (now.number ≡ mid.number) × (now.spare ≡ mid.spare) × (now.stop ≡ mid.stop)
others_kept mid now others = (ap (λ (s : Splitting). s.number) others, ap (λ (s : Splitting). s.spare) others, ap (λ (s : Splitting). s.stop) others)

-- Bytes that don't tell what stands first, after more that were taken, didn't tell it before.
pub untold : (old mid : Splitting) (taken : List ℕ) → mid ≡ record old { unread = old.unread ++ taken } → head_of mid.spare mid.unread ≡ unended mid.unread
    → IsDecided (head_of old.spare old.unread) → ⊥
untold old mid taken same waits known =
    let spare-is : mid.spare ≡ old.spare = ap (λ (s : Splitting). s.spare) same in
    let mid-is : mid.unread ≡ old.unread ++ taken = ap (λ (s : Splitting). s.unread) same in
    let still : head_of old.spare (old.unread ++ taken) ≡ unended (old.unread ++ taken) = cc in
    told_before old.spare old.unread taken still known

-- nothing was taken
pub stops_at_once : (spare : ℕ) (unread : List ℕ) → StopsAtLine spare unread []
stops_at_once spare unread = record { front = []; piece = []; parts = refl; open_yet = (λ some. absurd (some refl)); short = omega arith }

-- one more piece was taken, where no line stood whole
pub stops_later : (old mid : Splitting) (taken got : List ℕ) → mid ≡ record old { unread = old.unread ++ taken } → head_of mid.spare mid.unread ≡ unended mid.unread
    → length got ≤ 8192 → StopsAtLine old.spare old.unread (taken ++ got)
stops_later old mid taken got same waits few =
    let spare-is : mid.spare ≡ old.spare = ap (λ (s : Splitting). s.spare) same in
    let mid-is : mid.unread ≡ old.unread ++ taken = ap (λ (s : Splitting). s.unread) same in
    record { front = taken; piece = got; parts = refl; open_yet = (λ some. cc); short = few }

-- The source was at its end, and some bytes were left: they are the last line.
pub last_line : (old mid now new : Splitting) (taken : List ℕ) (a b c : Option (List ℕ)) (before after size most count : ℕ)
    → mid ≡ record old { unread = old.unread ++ taken } → Consumes a b taken → StopsAtLine old.spare old.unread taken → head_of mid.spare mid.unread ≡ unended mid.unread → size ≡ length mid.unread → 0 < size
    → Grows mid.unread now.unread b c most count → count ≡ 0 → now ≡ record mid { unread = now.unread } → Goes now new (take size now.unread) (drop size now.unread) size true
    → Splits old new a c before after (Ok next.Line)
last_line old mid now new taken a b c before after size most count same consumed prompt shown size-is some grows zero others goes =
    let none : grows.taken ≡ [] = nil_from_length grows.taken (grows.size ∙ zero) in
    let bytes = old.unread ++ taken in
    let mid-is : mid.unread ≡ bytes = ap (λ (s : Splitting). s.unread) same in
    let now-is : now.unread ≡ bytes = grows.grown ∙ ap (λ (u : List ℕ). mid.unread ++ u) none ∙ append-nil mid.unread ∙ mid-is in
    let spare-is : mid.spare ≡ old.spare = ap (λ (s : Splitting). s.spare) same in
    let still = others_kept mid now others in
    let spare-still = still.1 in
    let number-is : mid.number ≡ old.number = ap (λ (s : Splitting). s.number) same in
    let number-still = still.0 in
    let whole : length bytes ≡ size = ap length (sym mid-is) ∙ sym size-is in
    let text : new.text ≡ bytes = goes.text ∙ ap (take size) now-is ∙ take_all size bytes (omega arith) in
    let rest : new.unread ≡ [] = goes.unread ∙ ap (drop size) now-is ∙ drop_all size bytes (omega arith) in
    let head : head_of old.spare bytes ≡ unended bytes = cc in
    record {
      taken = taken;
      consumed = subst (λ (xs : List ℕ). Consumes a c xs) (ap (λ (u : List ℕ). taken ++ u) none ∙ append-nil taken) (Consumes-Consumes a b c taken grows.taken consumed grows.consumed);
      prompt = prompt;
      comes = inr (
        λ (empty : bytes ≡ []). (let nothing : length bytes ≡ 0 = ap length empty in omega arith),
        head,
        grows.ended zero,
        record {
          text = text;
          number = (let n = goes.number in omega arith);
          unread = rest;
          spare = (let n = goes.spare in omega arith);
          going = goes.going;
          ended = goes.ended;
        },
      );
    }
