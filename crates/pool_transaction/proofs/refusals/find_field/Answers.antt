use Rattle.std.proofs.Common.{◌≡◌, ℕ, List, Option, Some, option_map, IfSome, refl, sym, ap, subst, ◌∙◌}
use Rattle.pm_model.specs.Words.{reads}
use Rattle.pm_model.proofs.Reading.{still_reads}
use Rattle.pud_defs.specs.declared.records.Puddle.{Puddle}
use Rattle.pud_defs.specs.declared.records.Slot.{Slot}
use Rattle.pud_defs.specs.PoolGraphs.Graph.{Object, object_at}
use Rattle.puddle_header.specs.Places.{place_of_slot, IsSlotOf}
use Rattle.graph_read.specs.Reading.{table_in, read_by}
use Rattle.graph_read.proofs.Found.{object_in-place}
use Rattle.hybrid_tx.specs.Objects.Stores.{IsPlaceAndWord}
use Rattle.daemon_memory.specs.Memory.{ActiveTransaction}
use Rattle.daemon_memory.proofs.PoolChanges.InTurn.{active_known}
use Rattle.pool_transaction.proofs.Lifetimes.ActiveKnown.{known_so}
use Rattle.pool_transaction.proofs.Updates.ActiveFound.{placed_on, seen_on, stored_on}
use Rattle.pool_transaction.proofs.Updates.TransactionRefusals.{refusal_of-field}
use Rattle.pool_transaction.proofs.Updates.ActiveRefusals.{refused_unfound, refused_to_set, value_read}
use Rattle.daemon_memory.specs.PoolKnowledge.{puddles_known}
use Rattle.pool_transaction.proofs.refusals.find_field.Goals as goal

pub returns-in_default-clause-refusal : goal.returns-in_default-clause-refusal
returns-in_default-clause-refusal g c = λ t size w memory its ready.
    let known = known_so c.args.frames c.args.opened.now c.args.pool.now memory its size w (g.H.Host.state c.args.h.now) ready in
    refused_unfound size w memory _ ready c.args.opened.now c.args.opened.now.log_number its.there c.args.frames c.args.pool.now.puddles (sym its.frames ∙ ready.frames)
    (sym (active_known size w memory _ ready c.args.opened.now.log_number c.args.opened.now its.there c.args.pool.now.puddles (ap puddles_known its.known)))
    c.args.s c.args.f c.args.x (λ placed. c.in_ok-at.ensures.none t placed.legal _ refl known c.in_default.is)

pub returns-in-Some-field_refusal-clause-refusal : goal.returns-in-Some-field_refusal-clause-refusal
returns-in-Some-field_refusal-clause-refusal g c = λ t size w memory its ready.
    let now = reads (g.H.Host.state c.args.h.now).now.words in
    let known = known_so c.args.frames c.args.opened.now c.args.pool.now memory its size w (g.H.Host.state c.args.h.now) ready in
    sym c.in-Some-field_refusal.is ∙ c.field_refusal.ensures.refusal
    ∙ refused_to_set size w memory _ ready c.args.opened.now c.args.opened.now.log_number its.there c.args.frames c.args.pool.now.puddles (sym its.frames ∙ ready.frames)
    (sym (active_known size w memory _ ready c.args.opened.now.log_number c.args.opened.now its.there c.args.pool.now.puddles (ap puddles_known its.known)))
    c.args.s c.args.f c.units.result c.args.x c.in-Some.at c.in-Some.word c.in_ok-read.read _ c.in-Some.is (λ placed. c.in_ok-at.ensures.found t placed.legal _ refl known)
    (subst (λ (ps : List (ℕ × Puddle)). c.in_ok-read.read ≡ read_by (Some (object_at (table_in c.args.frames ps now) (place_of_slot c.in-Some.at))) c.args.f) c.as_slice.ensures.puddles
    (c.in_ok-read.ensures.read t now (still_reads c.in_ok-at.ensures.only_reads t refl))) (c.units.ensures.units ∙ ap (λ (h : ActiveTransaction). h.tx.units) c.opened.view_is)

pub returns-in-None-clause-refusal : goal.returns-in-None-clause-refusal
returns-in-None-clause-refusal g c = λ t size w memory its ready.
    let now = reads (g.H.Host.state c.args.h.now).now.words in
    let known = known_so c.args.frames c.args.opened.now c.args.pool.now memory its size w (g.H.Host.state c.args.h.now) ready in
    sym c.in-None.is ∙ c.field_refusal.ensures.refusal
    ∙ refused_to_set size w memory _ ready c.args.opened.now c.args.opened.now.log_number its.there c.args.frames c.args.pool.now.puddles (sym its.frames ∙ ready.frames)
    (sym (active_known size w memory _ ready c.args.opened.now.log_number c.args.opened.now its.there c.args.pool.now.puddles (ap puddles_known its.known)))
    c.args.s c.args.f c.units.result c.args.x c.in-Some.at c.in-Some.word c.in_ok-read.read _ c.in-Some.is (λ placed. c.in_ok-at.ensures.found t placed.legal _ refl known)
    (subst (λ (ps : List (ℕ × Puddle)). c.in_ok-read.read ≡ read_by (Some (object_at (table_in c.args.frames ps now) (place_of_slot c.in-Some.at))) c.args.f) c.as_slice.ensures.puddles
    (c.in_ok-read.ensures.read t now (still_reads c.in_ok-at.ensures.only_reads t refl))) (c.units.ensures.units ∙ ap (λ (h : ActiveTransaction). h.tx.units) c.opened.view_is)

pub returns-in-None-clause-update : goal.returns-in-None-clause-update
returns-in-None-clause-update g c = λ t size w memory its ready.
    let F = c.args.frames in
    let active = c.args.opened.now in
    let known = c.args.pool.now in
    let at = known.puddles in
    let old = g.H.Host.state c.args.h.now in
    let now = reads old.now.words in
    let graph = seen_on F active known memory its size w old ready in
    let stored = stored_on F active known memory its size w old ready in
    let there = subst (λ (o : Option (Slot × ℕ)). IfSome o (IsPlaceAndWord F at now c.args.s c.args.x)) c.in-Some.is
    (c.in_ok-at.ensures.found t (placed_on F active known memory its size w old ready).legal now refl (known_so F active known memory its size w old ready)) in
    let of = subst (λ (o : Option (Slot × ℕ)). IfSome o (λ found. IsSlotOf at found.0)) c.in-Some.is c.in_ok-at.ensures.within in
    let was = value_read c.in_ok-read.read c.args.x c.units.result (sym c.field_refusal.ensures.refusal ∙ c.in-None.is) in
    record {
      free = refusal_of-field w active.client active.name c.args.later c.args.s c.args.f c.args.x ∙ sym (returns-in-None-clause-refusal g c t size w memory its ready);
      within = (of, c.in_ok-read.ensures.fits was.0 was.1);
      by = record { s = c.args.s; x = c.args.x; is = refl; found = there };
      g = graph;
      stored = stored;
      read = record {
        s = c.args.s;
        is = refl;
        holds = subst (λ (ps : List (ℕ × Puddle)). c.in_ok-read.read ≡ read_by (Some (object_at (table_in F ps now) (place_of_slot c.in-Some.at))) c.args.f) c.as_slice.ensures.puddles
            (c.in_ok-read.ensures.read t now (still_reads c.in_ok-at.ensures.only_reads t refl))
            ∙ sym (ap (λ (o : Option Object). read_by o c.args.f) (object_in-place F at now graph c.args.s stored ∙ ap (option_map (object_at (table_in F at now))) there.0));
      };
    }

-- The slot is one of the pool's, and it has the field of which a value was read.
pub returns-in-None-clause-within : goal.returns-in-None-clause-within
returns-in-None-clause-within g c =
    let of = subst (λ (o : Option (Slot × ℕ)). IfSome o (λ found. IsSlotOf c.args.pool.now.puddles found.0)) c.in-Some.is c.in_ok-at.ensures.within in
    let was = value_read c.in_ok-read.read c.args.x c.units.result (sym c.field_refusal.ensures.refusal ∙ c.in-None.is) in
    (of, c.in_ok-read.ensures.fits was.0 was.1)
