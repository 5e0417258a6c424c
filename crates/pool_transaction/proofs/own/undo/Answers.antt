use Rattle.std.proofs.Common.{◌≡◌, ℕ, true, Some, None, refl, sym, ap, subst, ◌∙◌}
use Rattle.std.proofs.lemmas.Option.{none-some, same_Some}
use Rattle.pm_model.specs.declared.host.HostFault.TheVariants.{Cut}
use Rattle.pm_model.specs.Counts.{fault_of}
use Rattle.pm_model.specs.Words.{reads}
use Rattle.pm_model.proofs.Changes.{Changes-still}
use Rattle.pud_defs.specs.RegistryTables.Tables.{tables_of, puddles_in_turn}
use Rattle.pool_transaction.specs.Writing.{ByAborting, WritesWithin}
use Rattle.daemon_memory.specs.Leaving.{AfterTables}
use Rattle.daemon_memory.specs.Memory.{ActiveTransaction, Memory, active_under}
use Rattle.pool_transaction.proofs.TransactionLines.TransactionTaken.{IsReleased, Applies-none, its_known, runs_there, Applies-undone}
use Rattle.pool_transaction.proofs.TransactionLines.Undoing.{UndoesOwn-still, UndoesOwn-active}
use Rattle.pool_transaction.proofs.own.undo.Goals as goal

pub returns-in-None-clause-does : goal.returns-in-None-clause-does
returns-in-None-clause-does g c = λ t size e w ready.
    let r = c.take_transaction.ensures in
    let old = g.H.Host.state c.args.h.now in
    let none : active_under c.args.memory.now.active c.args.number ≡ None = sym r.opened ∙ c.in-None.is in
    record {
      applies = Applies-none true c.args.number c.args.memory.now c.take_transaction.new.memory (record { active = r.active; sessions = r.sessions; known_pools = r.known_pools; frames = r.frames }) size w old ready none;
      after_tables = Changes-still (AfterTables w.stored.frames) None old old (λ cut. absurd (let no : None ≡ Some Cut = cut in cc)) refl;
      names = λ mine there. absurd (none-some mine (sym none ∙ there));
      undoes = λ client own. UndoesOwn-still w client old old refl;
    }

pub returns-in-Some-clause-does : goal.returns-in-Some-clause-does
returns-in-Some-clause-does g c = λ t size e w ready.
    let first = c.args.memory.now in
    let number = c.args.number in
    let mine = c.in-Some.opened in
    let old = g.H.Host.state c.args.h.now in
    let new = g.H.Host.state c.abort_transaction.new.h in
    let now = reads old.now.words in
    let fault = fault_of c.abort_transaction.result in
    let r = c.take_transaction.ensures in
    let there : active_under first.active number ≡ Some mine = sym r.opened ∙ c.in-Some.is in
    let released : IsReleased true number first c.take_transaction.new.memory = record { active = r.active; sessions = r.sessions; known_pools = r.known_pools; frames = r.frames } in
    let frames = ap (λ (m : Memory). m.frames) (sym c.memory.view_is) in
    let on : c.memory.inside.frames ≡ w.stored.frames = sym frames ∙ ready.frames in
    let d = c.abort_transaction.ensures.aborts t (its_known true number first _ released size w old ready mine there) size w first (runs_there true number first _ released size w old ready mine there c.memory.inside.frames _ frames e) in
    record {
      applies = Applies-undone true number first _ released size w old ready mine there fault new d.applies;
      after_tables = d.after_tables;
      names = λ held is. subst (λ (h : ActiveTransaction). WritesWithin w.stored.frames h.client (ByAborting w.stored.frames (puddles_in_turn (tables_of w.stored.frames now) h.slot) now) fault old new) (same_Some mine held (sym there ∙ is))
          (subst (λ (n : ℕ). WritesWithin n mine.client (ByAborting n (puddles_in_turn (tables_of n now) mine.slot) now) fault old new) on d.names);
      undoes = λ client own. UndoesOwn-active size w first old ready client number own mine there c.memory.inside.frames on fault new d.names;
    }
