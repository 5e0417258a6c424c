use Rattle.std.proofs.Common.{◌≡◌, ℕ, ◌+◌, true, false, Option, IfSome, sym, refl, subst, ◌∙◌}
use Rattle.std.proofs.lemmas.Bool.{lt-ltb}
use Rattle.std.proofs.lemmas.Result.{err_from_is_err_and}
use Rattle.pm_model.specs.Words.{reads}
use Rattle.pm_model.proofs.Reading.{still_reads, Changes-read}
use Rattle.pud_defs.specs.declared.space.TheConstants.{SLOT_FIELDS_WORD}
use Rattle.pud_defs.specs.declared.records.Slot.{Slot}
use Rattle.pud_defs.specs.Formats.Geometry.{class_slot_words}
use Rattle.puddle_header.specs.Places.{IsSlotOf}
use Rattle.hybrid_tx.specs.Objects.Stores.{IsPlaceAndWord}
use Rattle.hybrid_tx.proofs.Objects.FieldsSet.{room_for_field}
use Rattle.hybrid_tx.proofs.Objects.FieldPut.{found_there, KeepsOpenOn-stopped, lacks_none}
use Rattle.hybrid_tx.proofs.Tx.set.Goals as goal

pub returns-in_err-at-clause-changes : goal.returns-in_err-at-clause-changes
returns-in_err-at-clause-changes g c =
    let p = err_from_is_err_and c.from_residual.result c.from_residual.ensures.1 in
    rw (p.1, p.2) (λ t. Changes-read c.in_err-at.ensures.only_reads t)

pub returns-in_err-at-clause-runs : goal.returns-in_err-at-clause-runs
returns-in_err-at-clause-runs g c =
    let p = err_from_is_err_and c.from_residual.result c.from_residual.ensures.1 in
    rw (p.1, p.2) (λ t types before graph_before now deferred placed rewritten is_open may.
    KeepsOpenOn-stopped _ _ types c.args.self.now.log _ before graph_before now deferred _ _ _ refl c.in_err-at.ensures.only_reads t is_open)

pub returns-else-not-has_field-clause-runs : goal.returns-else-not-has_field-clause-runs
returns-else-not-has_field-clause-runs g c = λ t.
    rw (← c.in_ok-at.ensures.only_reads.stays t) (λ types before graph_before now deferred placed rewritten is_open may.
    let image = reads (g.H.Host.state c.place_and_word.new.h).now.words in
    let found = subst (λ (o : Option (Slot × ℕ)). IfSome o (IsPlaceAndWord c.args.frames c.args.pool.now image c.args.s c.args.x)) c.in-Some.is
    (c.in_ok-at.ensures.found t placed.legal image (sym (still_reads c.in_ok-at.ensures.only_reads t refl))) in
    c.set_at.ensures.runs t types before graph_before now deferred c.args.s c.args.x placed rewritten is_open may found.0 found.1)

pub returns-else-not-has_field-clause-nothing : goal.returns-else-not-has_field-clause-nothing
returns-else-not-has_field-clause-nothing g c = λ t legal lacks.
    let image = reads (g.H.Host.state c.args.h.now).now.words in
    absurd (found_there c.args.frames c.args.pool.now image c.args.s c.args.x (c.in-Some.at, c.in-Some.word)
    (subst (λ (o : Option (Slot × ℕ)). IfSome o (IsPlaceAndWord c.args.frames c.args.pool.now image c.args.s c.args.x)) c.in-Some.is (c.in_ok-at.ensures.found t legal image refl)) lacks)

pub returns-in-None-clause-changes : goal.returns-in-None-clause-changes
returns-in-None-clause-changes g c = λ t. Changes-read c.in_ok-at.ensures.only_reads t

pub returns-in-None-clause-runs : goal.returns-in-None-clause-runs
returns-in-None-clause-runs g c = λ t types before graph_before now deferred placed rewritten is_open may.
    absurd (lacks_none _ _ types c.args.self.now.log c.args.self.now.log before graph_before now deferred c.args.s c.args.f c.args.x (g.H.Host.state c.args.h.now) is_open may (c.in_ok-at.ensures.none t placed.legal _ refl c.in-None.is))

pub returns-in-None-clause-counts : goal.returns-in-None-clause-counts
returns-in-None-clause-counts g c = λ t types before graph_before now deferred placed is_open may.
    absurd (lacks_none _ _ types c.args.self.now.log c.args.self.now.log before graph_before now deferred c.args.s c.args.f c.args.x (g.H.Host.state c.args.h.now) is_open may (c.in_ok-at.ensures.none t placed.legal _ refl c.in-None.is))

pub returns-then-not-has_field-clause-changes : goal.returns-then-not-has_field-clause-changes
returns-then-not-has_field-clause-changes g c = λ t. Changes-read c.in_ok-at.ensures.only_reads t

pub returns-then-not-has_field-clause-runs : goal.returns-then-not-has_field-clause-runs
returns-then-not-has_field-clause-runs g c = λ t types before graph_before now deferred placed rewritten is_open may.
    let image = reads (g.H.Host.state c.args.h.now).now.words in
    let found = subst (λ (o : Option (Slot × ℕ)). IfSome o (IsPlaceAndWord c.args.frames c.args.pool.now image c.args.s c.args.x)) c.in-Some.is (c.in_ok-at.ensures.found t placed.legal image refl) in
    let room = room_for_field types c.args.frames c.args.pool.now image now is_open.is c.args.s c.args.f c.args.x c.in-Some.at (subst (λ (o : Option (Slot × ℕ)). IfSome o (λ at. IsSlotOf c.args.pool.now at.0)) c.in-Some.is c.in_ok-at.ensures.within) found.0 may in
    let low = lt-ltb (SLOT_FIELDS_WORD + c.args.f) (class_slot_words c.in-Some.at.class) room in
    absurd (let it : false ≡ true = c.if-not-has_field.ensures ∙ low in cc)

pub returns-then-not-has_field-clause-counts : goal.returns-then-not-has_field-clause-counts
returns-then-not-has_field-clause-counts g c = λ t types before graph_before now deferred placed is_open may.
    let image = reads (g.H.Host.state c.args.h.now).now.words in
    let found = subst (λ (o : Option (Slot × ℕ)). IfSome o (IsPlaceAndWord c.args.frames c.args.pool.now image c.args.s c.args.x)) c.in-Some.is (c.in_ok-at.ensures.found t placed.legal image refl) in
    let room = room_for_field types c.args.frames c.args.pool.now image now is_open.is c.args.s c.args.f c.args.x c.in-Some.at (subst (λ (o : Option (Slot × ℕ)). IfSome o (λ at. IsSlotOf c.args.pool.now at.0)) c.in-Some.is c.in_ok-at.ensures.within) found.0 may in
    let low = lt-ltb (SLOT_FIELDS_WORD + c.args.f) (class_slot_words c.in-Some.at.class) room in
    absurd (let it : false ≡ true = c.if-not-has_field.ensures ∙ low in cc)
