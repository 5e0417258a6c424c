use Rattle.std.proofs.Common.{refl, sym, ap, ◌∙◌}
use Rattle.pm_model.specs.Words.{reads}
use Rattle.pm_model.proofs.Reading.{still_reads}
use Rattle.daemon_memory.specs.Memory.{ActiveTransaction}
use Rattle.daemon_memory.proofs.PoolChanges.InTurn.{active_known}
use Rattle.pool_transaction.proofs.Lifetimes.ActiveKnown.{known_so}
use Rattle.pool_transaction.proofs.Updates.ActiveFound.{placed_on, seen_on, stored_on}
use Rattle.pool_transaction.proofs.Updates.ActiveRefusals.{refused_unrooted, refused_to_root}
use Rattle.daemon_memory.specs.PoolKnowledge.{puddles_known}
use Rattle.pool_transaction.proofs.refusals.find_root.Goals as goal

pub returns-in_default-clause-refusal : goal.returns-in_default-clause-refusal
returns-in_default-clause-refusal g c = λ t size w memory its ready.
    refused_unrooted size w memory _ ready c.args.opened.now c.args.opened.now.log_number its.there c.args.frames c.args.pool.now.puddles (sym its.frames ∙ ready.frames)
    (sym (active_known size w memory _ ready c.args.opened.now.log_number c.args.opened.now its.there c.args.pool.now.puddles (ap puddles_known its.known)))
    c.args.s (λ placed. sym (c.in_ok-word.ensures.word t placed.legal _ refl (known_so c.args.frames c.args.opened.now c.args.pool.now memory its size w (g.H.Host.state c.args.h.now) ready)) ∙ c.in_default.is)

pub returns-in-Some-room_refusal-clause-refusal : goal.returns-in-Some-room_refusal-clause-refusal
returns-in-Some-room_refusal-clause-refusal g c = λ t size w memory its ready.
    sym c.in-Some-room_refusal.is ∙ c.room_refusal.ensures.refusal
    ∙ refused_to_root size w memory _ ready c.args.opened.now c.args.opened.now.log_number its.there c.args.frames c.args.pool.now.puddles (sym its.frames ∙ ready.frames)
    (sym (active_known size w memory _ ready c.args.opened.now.log_number c.args.opened.now its.there c.args.pool.now.puddles (ap puddles_known its.known)))
    c.args.s c.units.result c.in-Some.word (λ placed. sym (c.in_ok-word.ensures.word t placed.legal _ refl (known_so c.args.frames c.args.opened.now c.args.pool.now memory its size w (g.H.Host.state c.args.h.now) ready)) ∙ c.in-Some.is) (c.units.ensures.units ∙ ap (λ (h : ActiveTransaction). h.tx.units) c.opened.view_is)

pub returns-clause-refusal : goal.returns-clause-refusal
returns-clause-refusal g c = λ t size w memory its ready.
    sym c.in_default-room_refusal.is ∙ c.room_refusal.ensures.refusal
    ∙ refused_to_root size w memory _ ready c.args.opened.now c.args.opened.now.log_number its.there c.args.frames c.args.pool.now.puddles (sym its.frames ∙ ready.frames)
    (sym (active_known size w memory _ ready c.args.opened.now.log_number c.args.opened.now its.there c.args.pool.now.puddles (ap puddles_known its.known)))
    c.args.s c.units.result c.in-Some.word (λ placed. sym (c.in_ok-word.ensures.word t placed.legal _ refl (known_so c.args.frames c.args.opened.now c.args.pool.now memory its size w (g.H.Host.state c.args.h.now) ready)) ∙ c.in-Some.is) (c.units.ensures.units ∙ ap (λ (h : ActiveTransaction). h.tx.units) c.opened.view_is)

pub returns-clause-update : goal.returns-clause-update
returns-clause-update g c = λ t size w memory its ready.
    let F = c.args.frames in
    let active = c.args.opened.now in
    let known = c.args.pool.now in
    let old = g.H.Host.state c.args.h.now in
    let now = reads old.now.words in
    let graph = seen_on F active known memory its size w old ready in
    let stored = stored_on F active known memory its size w old ready in
    record {
      free = sym (returns-clause-refusal g c t size w memory its ready);
      within = tt;
      by = record { s = c.args.s; is = refl; found = sym (c.in_ok-word.ensures.word t (placed_on F active known memory its size w old ready).legal now refl (known_so F active known memory its size w old ready)) ∙ c.in-Some.is };
      g = graph;
      stored = stored;
      read = record { is = refl; holds = c.in_ok-was.ensures.root t now (still_reads c.word_known.ensures.only_reads t refl) graph stored };
    }
