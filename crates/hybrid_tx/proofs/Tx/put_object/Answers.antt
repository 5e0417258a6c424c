use Rattle.std.proofs.Common.{ℕ, ◌+◌, ◌*◌, ◌%◌, ◌^◌, ◌<◌, ◌≤◌, length, ap, sym, refl, ◌∙◌, arith}
use Rattle.std.proofs.lemmas.Option.{get_or_from_slice_get}
use Rattle.pm_model.specs.Counts.{fault_of}
use Rattle.pud_defs.specs.declared.layout.TheConstants.{FRAME_WORDS}
use Rattle.pud_defs.specs.declared.space.TheConstants.{NEXT_SERIAL_WORD}
use Rattle.pud_defs.specs.declared.records.Puddle.{Puddle}
use Rattle.pud_defs.specs.Formats.Frames.{frame_at}
use Rattle.pud_defs.specs.Formats.Geometry.{slot_begins}
use Rattle.pud_defs.proofs.Formats.Geometry.{some_words}
use Rattle.hybrid_tx.specs.PoolScopes.{pool_scope, finished_of}
use Rattle.hybrid_tx.proofs.Objects.SlotPlaces.{slot_in_frame}
use Rattle.hybrid_tx.proofs.PoolScope.{all_there}
use Rattle.hybrid_tx.proofs.FinishedPuddles.{finished_placed, finished_there}
use Rattle.hybrid_tx.proofs.Objects.FieldPut.{slot_address-read}
use Rattle.hybrid_tx.proofs.Objects.InFrames.{KeepsSaving-put_both}
use Rattle.hybrid_tx.proofs.Tx.put_object.Goals as goal

pub returns-clause-saves : goal.returns-clause-saves
returns-clause-saves g c = λ t placed first head root rewritten before redo s.
    let F = c.args.frames in
    let pool = c.args.pool.now in
    let at = c.args.at.now in
    let own = finished_of pool in
    let e : ℕ × Puddle = (at.frame, c.requires.within.puddle) in
    let one = finished_there F pool at.ordinal e c.requires.within.there (rewritten.each e c.requires.within.there) in
    let other = finished_there F pool 0 first head (root.each first head) in
    let end = slot_in_frame pool at c.requires.within in
    let size = some_words at.class in
    let whole = c.requires.whole in
    let some : 1 ≤ length c.args.words.now = omega arith in
    let few : slot_begins at + length c.args.words.now ≤ FRAME_WORDS = omega arith in
    let next : NEXT_SERIAL_WORD < FRAME_WORDS = omega arith in
    let same = get_or_from_slice_get pool 0 first _ head in
    KeepsSaving-put_both F _ own c.args.self.now.log _ before redo (fault_of c.put_both.result) _ _ (finished_placed F pool placed) c.requires.device c.requires.place s
    one.0 (slot_begins at) e _ _ c.args.words.now other.0 NEXT_SERIAL_WORD first _ _ c.args.next
    one.1 some few (c.slot_address.ensures.address placed.legal ∙ sym (slot_address-read pool at c.requires.within e refl placed.legal)) (omega (arith, c.frame_at.ensures, c.slot_begins.ensures))
    other.1 next (c.word_address-serial_address.ensures ∙ ap (λ (d : ℕ × Puddle). (d.1.base + 8 * NEXT_SERIAL_WORD) % 2 ^ 64) same)
    (ap (λ (k : ℕ). k + NEXT_SERIAL_WORD) (c.frame_at-serial.ensures ∙ ap (λ (d : ℕ × Puddle). frame_at F d.0) same))
    (λ es scope may place may2 place2 running. c.put_both.ensures.puts t _ refl (pool_scope F own) es before scope may place may2 place2 running)

pub returns-clause-at_once : goal.returns-clause-at_once
returns-clause-at_once g c = λ t.
    let apart = c.requires.place in
    c.put_both.ensures.at_once t (omega (arith, apart, c.frame_at.ensures, c.slot_begins.ensures)) (omega (arith, apart, c.frame_at-serial.ensures))

-- ---- the words of the slot are words of the device

pub overflow_add-slot : goal.overflow_add-slot
overflow_add-slot g c =
    let within = c.requires.within in
    let at = c.args.at.now in
    let end = slot_in_frame c.args.pool.now at within in
    let frame : at.frame < c.args.frames = all_there (λ (e : ℕ × Puddle). e.0 < c.args.frames) c.args.pool.now at.ordinal (at.frame, within.puddle) c.requires.known.frames within.there in
    omega (arith, end, frame, c.requires.few, c.frame_at.ensures, c.slot_begins.ensures)

pub put_both-requires-clause-within : goal.put_both-requires-clause-within
put_both-requires-clause-within g c =
    let within = c.requires.within in
    let at = c.args.at.now in
    let end = slot_in_frame c.args.pool.now at within in
    let frame : at.frame < c.args.frames = all_there (λ (e : ℕ × Puddle). e.0 < c.args.frames) c.args.pool.now at.ordinal (at.frame, within.puddle) c.requires.known.frames within.there in
    omega (arith, end, frame, c.requires.whole, c.requires.few, c.requires.device, c.frame_at.ensures, c.slot_begins.ensures)
