use Rattle.std.proofs.Common.{◌≡◌, inl, ℕ, ◌+◌, ◌<◌, ◌≤◌, [], ◌∷◌, refl, sym, subst, arith}
use Rattle.std.proofs.lemmas.Bool.{cond-true, eq-eqb}
use Rattle.std.proofs.lemmas.Option.{none-some}
use Rattle.std.proofs.lemmas.Result.{err_from_is_err_and}
use Rattle.pm_model.specs.Counts.{fault_of}
use Rattle.pm_model.proofs.Changes.{Changes-wider}
use Rattle.pud_defs.specs.declared.layout.TheConstants.{LOG_WORDS}
use Rattle.pud_defs.specs.declared.records.Puddle.{Puddle}
use Rattle.pud_defs.specs.Formats.Layout.{frames_at}
use Rattle.log_store.specs.Store.{InLog}
use Rattle.object_alloc.specs.Alloc.{serial_word_at}
use Rattle.word_transaction.specs.Running.{ByTransaction}
use Rattle.hybrid_tx.specs.PoolScopes.{pool_scope, finished_of}
use Rattle.hybrid_tx.specs.Objects.Stores.{ByPut}
use Rattle.hybrid_tx.specs.Objects.Transactions.{OpenTx}
use Rattle.hybrid_tx.proofs.PoolScope.{all_there}
use Rattle.pud_defs.proofs.Formats.Geometry.{some_words}
use Rattle.hybrid_tx.proofs.Objects.SlotPlaces.{slot_in_frame}
use Rattle.hybrid_tx.proofs.Objects.SlotFreed.{ByPut-cleared, Changes-freed, KeepsSaving-unfreed, KeepsSaving-freed}
use Rattle.hybrid_tx.proofs.Tx.clear.Goals as goal

pub returns-in_err-save-clause-changes : goal.returns-in_err-save-clause-changes
returns-in_err-save-clause-changes g c =
    let p = err_from_is_err_and c.from_residual.result c.from_residual.ensures.1 in
    rw (p.1, p.2, ← c.self.view_is) (λ t. Changes-wider (InLog _) (ByTransaction (pool_scope c.args.frames c.args.pool.now) _) _ _ _ (λ k v may. inl may) (c.in_err-save.ensures.changes t))

pub returns-in_err-save-clause-puts : goal.returns-in_err-save-clause-puts
returns-in_err-save-clause-puts g c =
    let p = err_from_is_err_and c.from_residual.result c.from_residual.ensures.1 in
    rw (p.1, p.2, ← c.self.view_is) (λ t. Changes-wider (InLog _) (ByPut _ (serial_word_at c.args.frames c.args.at) (0 ∷ [])) _ _ _ (λ k v may. inl may) (c.in_err-save.ensures.changes t))

pub returns-in_err-save-clause-frees : goal.returns-in_err-save-clause-frees
returns-in_err-save-clause-frees g c =
    let p = err_from_is_err_and c.from_residual.result c.from_residual.ensures.1 in
    rw (p.1, p.2) (λ t none. absurd (none-some c.in_err-save.field-0.0 (sym none)))

pub returns-in_err-save-clause-saves : goal.returns-in_err-save-clause-saves
returns-in_err-save-clause-saves g c =
    let p = err_from_is_err_and c.from_residual.result c.from_residual.ensures.1 in
    let at = c.args.at in
    let is_first : c.frame_at.result + (c.slot_begins-serial.result + 0) ≡ serial_word_at c.args.frames at = omega (arith, c.frame_at.ensures, c.slot_begins-serial.ensures) in
    let apart = subst (λ (x : OpenTx). x.log.gate_at + LOG_WORDS ≤ frames_at c.args.frames) (sym c.self.view_is) c.requires.place in
    rw (p.1, p.2, ← c.self.view_is) (λ t is_placed rewritten before redo s.
    KeepsSaving-unfreed c.args.frames _ c.args.pool.now at c.requires.within _ _ before redo _ _ _ is_placed c.requires.device apart (c.slot_address.ensures.address is_placed.legal) is_first rewritten s c.in_err-save.ensures.at _ _
    (λ es scope may place r. c.in_err-save.ensures.keeps t _ refl (pool_scope c.args.frames (finished_of c.args.pool.now)) [] before scope (sym c.start.ensures) may place es r))

pub free_slot-requires-clause-known : goal.free_slot-requires-clause-known
free_slot-requires-clause-known g c =
    all_there (λ (e : ℕ × Puddle). e.0 < c.args.frames) c.args.pool.now c.args.at.ordinal (c.args.at.frame, c.requires.within.puddle) c.requires.known.frames c.requires.within.there

pub returns-clause-changes : goal.returns-clause-changes
returns-clause-changes g c =
    rw (← c.self.view_is) (λ t.
    Changes-freed c.args.frames c.args.pool.now c.args.at c.requires.within _ (fault_of c.free_slot.result) _ _ _ (c.in_ok-save.ensures.changes t) (c.free_slot.ensures.writes t))

pub returns-clause-puts : goal.returns-clause-puts
returns-clause-puts g c =
    rw (← c.self.view_is) (λ t.
    ByPut-cleared c.args.frames c.args.pool.now c.args.at c.requires.within _ (fault_of c.free_slot.result) _ _ _ (c.in_ok-save.ensures.changes t) (c.free_slot.ensures.writes t))

pub returns-clause-frees : goal.returns-clause-frees
returns-clause-frees g c = λ t none. (c.free_slot.ensures.writes t).newest none (serial_word_at c.args.frames c.args.at) 0 (cond-true _ _ _ (eq-eqb (serial_word_at c.args.frames c.args.at) (serial_word_at c.args.frames c.args.at) refl))

pub returns-clause-saves : goal.returns-clause-saves
returns-clause-saves g c =
    let F = c.args.frames in
    let pool = c.args.pool.now in
    let at = c.args.at in
    let is_first : c.frame_at.result + (c.slot_begins-serial.result + 0) ≡ serial_word_at F at = omega (arith, c.frame_at.ensures, c.slot_begins-serial.ensures) in
    let apart = subst (λ (x : OpenTx). x.log.gate_at + LOG_WORDS ≤ frames_at F) (sym c.self.view_is) c.requires.place in
    rw (← c.self.view_is) (λ t is_placed rewritten before redo s.
    KeepsSaving-freed F _ pool at c.requires.within _ _ before redo _ _ _ is_placed c.requires.device apart (c.slot_address.ensures.address is_placed.legal) is_first rewritten s c.in_ok-save.ensures.at (fault_of c.free_slot.result) _ _
    (λ es scope may place r. c.in_ok-save.ensures.keeps t _ refl (pool_scope F (finished_of pool)) [] before scope (sym c.start.ensures) may place es r)
    (c.free_slot.ensures.writes t))

-- ---- the word of the serial is one of the device

pub overflow_add-first : goal.overflow_add-first
overflow_add-first g c =
    let within = c.requires.within in
    let end = slot_in_frame c.args.pool.now c.args.at within in
    let frame : c.args.at.frame < c.args.frames = all_there (λ (e : ℕ × Puddle). e.0 < c.args.frames) c.args.pool.now c.args.at.ordinal (c.args.at.frame, within.puddle) c.requires.known.frames within.there in
    omega (arith, end, frame, c.requires.few, c.frame_at.ensures, c.slot_begins-serial.ensures)

pub save-requires-clause-within : goal.save-requires-clause-within
save-requires-clause-within g c =
    let within = c.requires.within in
    let end = slot_in_frame c.args.pool.now c.args.at within in
    let some = some_words c.args.at.class in
    let frame : c.args.at.frame < c.args.frames = all_there (λ (e : ℕ × Puddle). e.0 < c.args.frames) c.args.pool.now c.args.at.ordinal (c.args.at.frame, within.puddle) c.requires.known.frames within.there in
    omega (arith, end, some, frame, c.requires.few, c.requires.device, c.frame_at.ensures, c.slot_begins-serial.ensures)
