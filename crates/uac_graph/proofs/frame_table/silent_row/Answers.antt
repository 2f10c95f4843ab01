use Rattle.std.proofs.Common.{◌≡◌, ◌≤◌, ◌∙◌, ap, sym, subst, arith, length, map, set, refl, eqb, if◌then◌else◌, ℕ, ℤ, List, Option, Some, None}
use Rattle.std.specs.Option.{option_map}
use Rattle.std.proofs.lemmas.List.{length-set, length-replicate}
use Rattle.arrayvec.specs.declared.array_vec.ArrayVec.{ArrayVec}
use Rattle.uac_entities.specs.declared.entity.Entity.{Entity}
use Rattle.uac_topology_rules.specs.Links.{is_clock}
use Rattle.uac_graph.specs.FrameRows.{numbered_frames}
use Rattle.uac_graph.specs.Wiring.{Frames, frame_on, silence}
use Rattle.uac_topology_rules.proofs.TableIdLemmas.{at_read}
use Rattle.uac_graph.proofs.WiringLemmas.{AreSilentBelow, silent_all, silent_clock, silent_none, silent_wire}
use Rattle.uac_graph.proofs.FrameRowsLemmas.{frame_written, frames_none}
use Rattle.uac_graph.proofs.frame_table.silent_row.Goals as goal

pub loop-entity-init : goal.loop-entity-init
loop-entity-init c = record {
  silent =
      silent_none c.args.entities.now _ (λ id.
      ap (λ (row : List (Option (ArrayVec ℤ 32 (Unit {0})))). frame_on (numbered_frames (map (option_map (λ f. f.items)) row)) id) c.in_ok-row.ensures
      ∙ frames_none {X = ArrayVec ℤ 32 (Unit {0})} (λ f. f.items) 256 id);
  sized = ap length c.in_ok-row.ensures ∙ length-replicate {A = Option (ArrayVec ℤ 32 (Unit {0}))} 256 None;
}

pub loop-entity-preserved-then-is_clock : goal.loop-entity-preserved-then-is_clock
loop-entity-preserved-then-is_clock c =
    let here = sym (at_read c.args.entities.now c.loop-entity.entity-index c.entity-item.result c.loop-entity-test.true c.entity-item.is) in
    record {
      silent =
          silent_clock c.args.entities.now c.loop-entity.entity-index _ c.loop-entity-test.true
          (ap (λ (e : Entity). is_clock e.kind) here ∙ sym c.is_clock.ensures ∙ c.if-is_clock.true) c.loop-entity.invariant.silent;
      sized = c.loop-entity.invariant.sized;
    }

pub silent-requires : goal.silent-requires
silent-requires c =
    let here = sym (at_read c.args.entities.now c.loop-entity.entity-index c.entity-item.result c.loop-entity-test.true c.entity-item.is) in
    subst (λ (e : Entity). e.cluster.channels ≤ 32) here (c.requires.most c.loop-entity.entity-index c.loop-entity-test.true
    (ap (λ (e : Entity). is_clock e.kind) here ∙ sym c.is_clock.ensures ∙ c.if-is_clock.false))

pub loop-entity-preserved : goal.loop-entity-preserved
loop-entity-preserved c =
    let here = sym (at_read c.args.entities.now c.loop-entity.entity-index c.entity-item.result c.loop-entity-test.true c.entity-item.is) in
    record {
      silent =
          silent_wire c.args.entities.now c.loop-entity.entity-index _ _ c.silent.result.items c.requires c.loop-entity-test.true
          (ap (λ (e : Entity). is_clock e.kind) here ∙ sym c.is_clock.ensures ∙ c.if-is_clock.false)
          (c.silent.ensures ∙ ap (λ (e : Entity). silence e.cluster.channels) (sym here))
          (subst (λ (e : Entity). (id : ℕ) → frame_on (numbered_frames (map (option_map (λ f. f.items)) (set c.loop-entity.row.items c.entity-item.result.id (Some c.silent.result)))) id
          ≡ (if eqb e.id id then Some c.silent.result.items else frame_on (numbered_frames (map (option_map (λ f. f.items)) c.loop-entity.row.items)) id)) (sym here)
          (frame_written (λ f. f.items) c.loop-entity.row.items _ c.entity-item.result.id c.silent.result (omega (arith, c.loop-entity.invariant.sized)) refl))
          c.loop-entity.invariant.silent;
      sized = length-set c.loop-entity.row.items c.entity-item.result.id (Some c.silent.result) ∙ c.loop-entity.invariant.sized;
    }

pub returns-clause-silent : goal.returns-clause-silent
returns-clause-silent c =
    let frames : Frames = numbered_frames (map (option_map (λ f. f.items)) c.loop-entity.row.items) in
    let past : c.loop-entity.entity-index ≡ length c.args.entities.now = omega arith in
    silent_all c.args.entities.now frames (subst (λ (n : ℕ). AreSilentBelow c.args.entities.now n frames) past c.loop-entity.invariant.silent)
