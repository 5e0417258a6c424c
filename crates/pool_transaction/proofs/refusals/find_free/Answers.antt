use Rattle.std.proofs.Common.{◌≡◌, ℕ, List, Option, Some, option_map, IfSome, refl, sym, ap, subst, ◌∙◌, arith}
use Rattle.pm_model.specs.Words.{reads}
use Rattle.pm_model.specs.Moments.{State}
use Rattle.pud_defs.specs.declared.records.Puddle.{Puddle}
use Rattle.pud_defs.specs.PoolGraphs.Graph.{graph_of}
use Rattle.pud_defs.specs.Formats.Image.{Image}
use Rattle.pud_defs.specs.PoolGraphs.Stored.{stored_in}
use Rattle.pud_defs.specs.RegistryTables.Types.{types_of}
use Rattle.pud_defs.specs.declared.records.Slot.{Slot}
use Rattle.puddle_header.specs.Places.{place_of_slot, IsSlotOf}
use Rattle.graph_read.specs.Reading.{place_in_pool}
use Rattle.daemon_memory.specs.Memory.{ActiveTransaction}
use Rattle.daemon_memory.proofs.PoolChanges.InTurn.{active_known}
use Rattle.pool_transaction.proofs.Lifetimes.ActiveKnown.{known_so}
use Rattle.pool_transaction.proofs.Updates.ActiveFound.{seen_on, stored_on}
use Rattle.pool_transaction.proofs.Updates.ActiveRefusals.{refused_none_to_free, refused_to_free}
use Rattle.daemon_memory.specs.PoolKnowledge.{puddles_known}
use Rattle.pool_transaction.proofs.refusals.find_free.Goals as goal

pub returns-in_default-clause-refusal : goal.returns-in_default-clause-refusal
returns-in_default-clause-refusal g c = λ t size w memory its ready.
    let known = known_so c.args.frames c.args.opened.now c.args.pool.now memory its size w (g.H.Host.state c.args.h.now) ready in
    refused_none_to_free size w memory _ ready c.args.opened.now c.args.opened.now.log_number its.there c.args.frames c.args.pool.now.puddles (sym its.frames ∙ ready.frames)
    (sym (active_known size w memory _ ready c.args.opened.now.log_number c.args.opened.now its.there c.args.pool.now.puddles (ap puddles_known its.known)))
    c.args.s (sym (c.in_ok-at.ensures.found t _ refl known) ∙ ap (option_map place_of_slot) c.in_default.is)

pub returns-in-Some-refusal_to_free-clause-refusal : goal.returns-in-Some-refusal_to_free-clause-refusal
returns-in-Some-refusal_to_free-clause-refusal g c = λ t size w memory its ready.
    let F = c.args.frames in
    let lent = c.as_slice.result.now in
    let same = c.as_slice.ensures.puddles in
    let now : Image = reads (g.H.Host.state c.args.h.now).now.words in
    let known = known_so F c.args.opened.now c.args.pool.now memory its size w (g.H.Host.state c.args.h.now) ready in
    let found = c.find.ensures.only_reads.stays t in
    let following = c.is_referenced.ensures.only_reads.stays t ∙ found in
    let place = subst (λ (ps : List (ℕ × Puddle)). place_in_pool F ps now c.args.s ≡ Some (place_of_slot c.in-Some.at)) (sym same) (sym (c.in_ok-at.ensures.found t now refl known) ∙ ap (option_map place_of_slot) c.in-Some.is) in
    sym c.in-Some-refusal_to_free.is ∙ c.refusal_to_free.ensures.refusal
    ∙ refused_to_free size w memory _ ready c.args.opened.now c.args.opened.now.log_number its.there _ F c.args.s c.units.result _ lent c.opened.inside.tx.log c.in_ok-referenced.referenced c.in_ok-asked.asked following
    (sym its.frames ∙ ready.frames) (same ∙ sym (active_known size w memory _ ready c.args.opened.now.log_number c.args.opened.now its.there c.args.pool.now.puddles (ap puddles_known its.known))) (ap (λ (h : ActiveTransaction). h.tx.log) c.opened.view_is) place
    (λ graph stored. c.in_ok-referenced.ensures.referenced t now (ap (λ (s : State). reads s.now.words) found) known graph (subst (λ (ps : List (ℕ × Puddle)). graph_of (types_of now) (stored_in F ps now) ≡ Some graph) same stored))
    (λ placed opened. c.in_ok-asked.ensures.names t now (ap (λ (s : State). reads s.now.words) following) _ _ _ _ placed opened (λ zero. let least = c.requires.serial in absurd (omega (arith, zero, least))) place)
    (c.units.ensures.units ∙ ap (λ (h : ActiveTransaction). h.tx.units) c.opened.view_is)

pub returns-in-None-clause-refusal : goal.returns-in-None-clause-refusal
returns-in-None-clause-refusal g c = λ t size w memory its ready.
    let F = c.args.frames in
    let lent = c.as_slice.result.now in
    let same = c.as_slice.ensures.puddles in
    let now : Image = reads (g.H.Host.state c.args.h.now).now.words in
    let known = known_so F c.args.opened.now c.args.pool.now memory its size w (g.H.Host.state c.args.h.now) ready in
    let found = c.find.ensures.only_reads.stays t in
    let following = c.is_referenced.ensures.only_reads.stays t ∙ found in
    let place = subst (λ (ps : List (ℕ × Puddle)). place_in_pool F ps now c.args.s ≡ Some (place_of_slot c.in-Some.at)) (sym same) (sym (c.in_ok-at.ensures.found t now refl known) ∙ ap (option_map place_of_slot) c.in-Some.is) in
    sym c.in-None.is ∙ c.refusal_to_free.ensures.refusal
    ∙ refused_to_free size w memory _ ready c.args.opened.now c.args.opened.now.log_number its.there _ F c.args.s c.units.result _ lent c.opened.inside.tx.log c.in_ok-referenced.referenced c.in_ok-asked.asked following
    (sym its.frames ∙ ready.frames) (same ∙ sym (active_known size w memory _ ready c.args.opened.now.log_number c.args.opened.now its.there c.args.pool.now.puddles (ap puddles_known its.known))) (ap (λ (h : ActiveTransaction). h.tx.log) c.opened.view_is) place
    (λ graph stored. c.in_ok-referenced.ensures.referenced t now (ap (λ (s : State). reads s.now.words) found) known graph (subst (λ (ps : List (ℕ × Puddle)). graph_of (types_of now) (stored_in F ps now) ≡ Some graph) same stored))
    (λ placed opened. c.in_ok-asked.ensures.names t now (ap (λ (s : State). reads s.now.words) following) _ _ _ _ placed opened (λ zero. let least = c.requires.serial in absurd (omega (arith, zero, least))) place)
    (c.units.ensures.units ∙ ap (λ (h : ActiveTransaction). h.tx.units) c.opened.view_is)

pub returns-in-None-clause-update : goal.returns-in-None-clause-update
returns-in-None-clause-update g c = λ t size w memory its ready.
    let F = c.args.frames in
    let active = c.args.opened.now in
    let known = c.args.pool.now in
    let old = g.H.Host.state c.args.h.now in
    record {
      free = sym (returns-in-None-clause-refusal g c t size w memory its ready);
      within = subst (λ (o : Option Slot). IfSome o (IsSlotOf known.puddles)) c.in-Some.is c.in_ok-at.ensures.within;
      by = record {
        s = c.args.s;
        is = refl;
        found = sym (c.in_ok-at.ensures.found t (reads old.now.words) refl (known_so F active known memory its size w old ready)) ∙ ap (option_map place_of_slot) c.in-Some.is;
      };
      g = seen_on F active known memory its size w old ready;
      stored = stored_on F active known memory its size w old ready;
      read = refl;
    }
