use Rattle.std.proofs.Common.{rules, ◌≡◌, ◌++◌, ℕ, take, length, sym, ap, ◌∙◌, subst, arith}
use Rattle.std.proofs.lemmas.List.{length-take-le}
use Rattle.pud_defs.proofs.Formats.Geometry.{few_words}
use Rattle.pud_defs.specs.PoolGraphs.Stored.{stored_in}
use Rattle.pud_export.specs.declared.slots.TheConstants.{SLOT}
use Rattle.pud_export.specs.Exporting.{slots_at, slots_to}
use Rattle.pud_export.proofs.FramesRead.{slots_to-none, slots_to-more}
use Rattle.pm_model.proofs.Reading.{OnlyReads-none, still_reads}
use Rattle.pud_export.proofs.frames.push_slots.Goals as goal

pub loop-slot-init : goal.loop-slot-init
loop-slot-init g c = record {
  only_reads = OnlyReads-none;
  words = λ t low image same. slots_to-none c.args.types.now (stored_in c.args.frames c.args.pool.now image) c.args.ordinal c.args.words.now;
}

pub loop-slot-preserved : goal.loop-slot-preserved
loop-slot-preserved g c = record {
  only_reads = search rules;
  words = λ t low image same.
      let before = still_reads c.loop-slot.invariant.only_reads t same in
      let st = stored_in c.args.frames c.args.pool.now image in
      let read = ap (λ (n : ℕ). take n c.in_ok-slot_words.slot_words) c.class_slot_words.ensures ∙ c.in_ok-slot_words.ensures.words t low image before in
      slots_to-more c.args.types.now st c.args.ordinal c.loop-slot.slot _ c.args.words.now c.loop-slot.words c.push_all.new.self (take c.class_slot_words.result c.in_ok-slot_words.slot_words)
      c.slot_at-at.ensures.place read (c.loop-slot.invariant.words t low image same) c.in_ok-push_all.ensures;
}

pub returns-clause-words : goal.returns-clause-words
returns-clause-words g c = λ t low image same.
    let st = stored_in c.args.frames c.args.pool.now image in
    let all : c.loop-slot.slot ≡ slots_at st.puddles c.args.ordinal = omega arith in
    subst (λ n. c.loop-slot.words ≡ c.args.words.now ++ slots_to c.args.types.now st c.args.ordinal n) all
    (c.loop-slot.invariant.words t low image same)

pub slice_bounds-slot_words-end : goal.slice_bounds-slot_words-end
slice_bounds-slot_words-end g c =
    let few = few_words c.slot_at-at.result.class in
    let whole : length c.in_ok-slot_words.slot_words ≡ SLOT = search rules in
    omega (arith, c.class_slot_words.ensures)

pub slice_bounds-push_all-end : goal.slice_bounds-push_all-end
slice_bounds-push_all-end g c =
    let few = few_words c.slot_at-at.result.class in
    let whole : length c.in_ok-slot_words.slot_words ≡ SLOT = search rules in
    sym (length-take-le c.class_slot_words.result c.in_ok-slot_words.slot_words (omega (arith, c.class_slot_words.ensures)))
