use Rattle.std.proofs.Common.{◌≡◌, ◌≤◌, List, Option, None, Some, Ok, Err, set, refl, sym, ap, subst, ◌∙◌}
use Rattle.std.proofs.lemmas.Option.{same_Some}
use Rattle.std.proofs.lemmas.Result.{err_from_is_err_and}
use Rattle.pm_model.proofs.Reading.{still_size}
use Rattle.pm_model.specs.Words.{reads}
use Rattle.pud_defs.specs.declared.layout.TheConstants.{CLIENT_LOGS, MAX_DEPTH}
use Rattle.pud_defs.specs.declared.machine.Command.TheVariants.{Begin}
use Rattle.pud_defs.specs.declared.machine.Refusal.{Refusal}
use Rattle.pud_defs.specs.declared.machine.Refusal.TheVariants as refusals
use Rattle.pud_defs.specs.StateMachine.Step.{after, world_by}
use Rattle.pud_defs.proofs.StateMachine.Steps.{answer_is_ok, refused_answer}
use Rattle.log_space.specs.FreeLogs.{first_closed}
use Rattle.nesting.specs.declared.EnterFault.TheVariants.{Logs}
use Rattle.nesting.specs.declared.Session.{Session}
use Rattle.nesting.specs.Sessions.{session_in, depth_in, count_of}
use Rattle.daemon_memory.specs.Beginning.{begins_as}
use Rattle.daemon_memory.specs.ActiveTransactions.{IsActiveWithin, AreActiveWithin}
use Rattle.daemon_memory.specs.Memory.{ActiveTransaction, Memory}
use Rattle.daemon_memory.specs.Ready.{IsReady, Applies}
use Rattle.daemon_memory.proofs.Commands.Applying.{Applies-failed, Applies-refused, Applies-closed, Applies-after_reads}
use Rattle.daemon_memory.proofs.OpenTransactions.ActiveUnder.{AreActiveWithin-set}
use Rattle.pool_transaction.proofs.TransactionLines.Entering.{refused_without_log, refused_to_begin, begins_in}
use Rattle.daemon_memory.specs.declared.line_answer.LineAnswer.TheVariants as answers
use Rattle.pud_defs.specs.declared.machine.Reply.TheVariants as replies
use Rattle.daemon_memory.proofs.Commands.Acting.{acts_refused, acts_unread, acts_free}
use Rattle.pool_transaction.proofs.TransactionLines.Acted.{acts_begun}
use Rattle.pool_transaction.proofs.own.begin_on.Goals as goal

pub returns-in_err-number-clause-does : goal.returns-in_err-number-clause-does
returns-in_err-number-clause-does g c =
    let p = err_from_is_err_and c.from_residual.result c.from_residual.ensures.1 in
    rw (p.1, p.2) (λ t size e w at ready free known may.
    let reading = c.in_err-number.ensures.only_reads in
    record {
      reply = tt;
      applies = Applies-failed size w (world_by w (Some (Begin c.args.client c.args.name))) c.args.memory.now c.in_err-number.field-0.0 _ _ ready (reading.stays t) reading.never_cut;
      acts = acts_unread w (Begin c.args.client c.args.name) _ (Err c.in_err-number.field-0.0) tt reading.never_cut (reading.stays t);
    })

-- ---- no log of the client is closed

pub returns-in_default-clause-does : goal.returns-in_default-clause-does
returns-in_default-clause-does g c = λ t size e w at ready free known may.
    let missed = ap (λ (m : Memory). first_closed (reads (g.H.Host.state c.args.h.now).now.words) m.frames c.args.client) (sym c.memory.view_is) in
    let refused = refused_without_log size w c.args.memory.now (g.H.Host.state c.args.h.now) ready c.args.client c.args.name free c.args.slot at may c.requires.shut c.requires.within c.requires.present
    (sym c.in_default.is ∙ c.in_ok-number.ensures.lowest t ∙ sym missed) in
    let stays = c.in_ok-number.ensures.only_reads.stays t in
    record {
      reply = sym (refused_answer w (Begin c.args.client c.args.name) refusals.Logs refused);
      applies = Applies-refused size w c.args.memory.now (Begin c.args.client c.args.name) refusals.Logs _ _ ready refused stays;
      acts = acts_refused w (Begin c.args.client c.args.name) _ refusals.Logs (Ok (answers.Reply (replies.No refusals.Logs))) refused stays;
    }

-- ---- its session does not begin

pub returns-in-Err-clause-does : goal.returns-in-Err-clause-does
returns-in-Err-clause-does g c = λ t size e w at ready free known may.
    let i = c.memory.inside in
    let same = ap (λ (m : Memory). m.sessions) c.memory.view_is in
    let k = c.enter.ensures in
    let old = g.H.Host.state c.args.h.now in
    let why = c.refusal_to_enter.result in
    let refused = refused_to_begin size w c.args.memory.now old ready c.args.client c.args.name free c.args.slot at may c.requires.shut c.requires.within c.in-Err.fault c.enter.result c.in-Err.is
    (λ is. subst (λ (ss : List (Option Session)). depth_in ss c.args.slot ≡ MAX_DEPTH) same (k.deep.0 is))
    (λ is. subst (λ (ss : List (Option Session)). (session_in ss c.args.slot ≡ None) × (CLIENT_LOGS ≤ count_of c.args.client ss)) same (k.logs.0 is))
    ∙ ap (λ (r : Refusal). Some r) (sym c.refusal_to_enter.ensures) in
    let stays = c.in_ok-number.ensures.only_reads.stays t in
    let view : Memory = record { frames = i.frames; active = i.opened; sessions = i.sessions; known_pools = i.known_pools } in
    record {
      reply = sym (refused_answer w (Begin c.args.client c.args.name) why refused);
      applies = Applies-refused size w (record view { sessions = c.enter.new.self }) (Begin c.args.client c.args.name) why _ _
          (subst (λ (l : List (Option Session)). IsReady size w (record view { sessions = l }) old) (sym c.in-Err.ensures.stays) (subst (λ (m : Memory). IsReady size w m old) (sym c.memory.view_is) ready)) refused stays;
      acts = acts_refused w (Begin c.args.client c.args.name) _ why (Ok (answers.Reply (replies.No why))) refused stays;
    }

-- ---- it begins

pub returns-in_err-opened-clause-does : goal.returns-in_err-opened-clause-does
returns-in_err-opened-clause-does g c =
    let p = err_from_is_err_and c.from_residual-in_err-opened.result c.from_residual-in_err-opened.ensures.1 in
    rw (p.1, p.2) (λ t size e w at ready free known may.
    let i = c.memory.inside in
    let view : Memory = record { frames = i.frames; active = i.opened; sessions = i.sessions; known_pools = i.known_pools } in
    let reading = c.in_ok-number.ensures.only_reads in
    let fault = c.in_err-opened.field-0.0 in
    let n = c.in_err-opened.ensures in
    let begins = begins_in size w c.args.memory.now view (g.H.Host.state c.args.h.now) (g.H.Host.state c.free_log.new.h) ready c.args.client c.args.name free c.args.slot at may c.requires.shut c.requires.within
    (sym c.memory.view_is) (reading.stays t) known (λ many. let no : Ok tt ≡ Err Logs = sym c.in_default-enter.is ∙ c.enter.ensures.logs.1 many in cc) c.in-Some.number (sym c.in-Some.is ∙ c.in_ok-number.ensures.lowest t) c.requires.slot in
    record {
      reply = tt;
      applies = Applies-after_reads size w _ (Begin c.args.client c.args.name) (Some fault) _ _ _ begins.free (reading.stays t)
          (Applies-closed size w _ _ _ _ fault _ _ refl (n.applies t size (still_size reading e) w view refl begins.ready begins.may (λ none. let no : None ≡ Some fault = sym none in cc)));
      acts = acts_free w (Begin c.args.client c.args.name) _ (Err fault) begins.free
          (acts_begun w c.args.client c.args.name i.frames begins.ready.frames begins.shut (Some fault) _ _ _ (reading.stays t) (n.writes t begins.may.lowest));
    })

pub invariant_of-memory-2 : goal.invariant_of-memory-2
invariant_of-memory-2 g c =
    let i = c.memory.invariant in
    let frames = c.memory.inside.frames in (
      i.0,
      i.1,
      subst (AreActiveWithin frames) (sym c.put_transaction.ensures.active)
          (AreActiveWithin-set frames c.memory.inside.opened c.in-Some.number _ i.2 (λ h now. subst (IsActiveWithin frames) (same_Some c.in_ok-opened.opened h now) c.in_ok-opened.ensures.within)),
      i.3,
    )

pub returns-clause-does : goal.returns-clause-does
returns-clause-does g c = λ t size e w at ready free known may.
    let i = c.memory.inside in
    let view : Memory = record { frames = i.frames; active = i.opened; sessions = i.sessions; known_pools = i.known_pools } in
    let number = c.in-Some.number in
    let reading = c.in_ok-number.ensures.only_reads in
    let mid = g.H.Host.state c.free_log.new.h in
    let new = g.H.Host.state c.begin_transaction.new.h in
    let n = c.in_ok-opened.ensures in
    let begins = begins_in size w c.args.memory.now view (g.H.Host.state c.args.h.now) mid ready c.args.client c.args.name free c.args.slot at may c.requires.shut c.requires.within
    (sym c.memory.view_is) (reading.stays t) known (λ many. let no : Ok tt ≡ Err Logs = sym c.in_default-enter.is ∙ c.enter.ensures.logs.1 many in cc) number (sym c.in-Some.is ∙ c.in_ok-number.ensures.lowest t) c.requires.slot in
    let active = c.put_transaction.ensures.active ∙ ap (λ (h : ActiveTransaction). set i.opened number (Some h)) n.opened in
    let sessions = c.in_default-enter.ensures.entered in
    record {
      reply = sym (answer_is_ok w (Begin c.args.client c.args.name) refl refl begins.free);
      applies = Applies-after_reads size w _ (Begin c.args.client c.args.name) None _ _ _ begins.free (reading.stays t)
          (subst (λ (l : List (Option ActiveTransaction)). Applies size w (after w (Begin c.args.client c.args.name)) (record view { active = l; sessions = c.enter.new.self }) None mid new) (sym active)
          (subst (λ (l : List (Option Session)). Applies size w (after w (Begin c.args.client c.args.name)) (record view { active = set i.opened number (Some (begins_as c.args.client c.args.name c.args.slot i.frames number)); sessions = l }) None mid new) (sym sessions)
          (n.applies t size (still_size reading e) w view refl begins.ready begins.may (λ none. c.put_transaction.ensures.within))));
      acts = acts_free w (Begin c.args.client c.args.name) _ (Ok (answers.Reply replies.Ok)) begins.free
          (acts_begun w c.args.client c.args.name i.frames begins.ready.frames begins.shut None _ _ _ (reading.stays t) (n.writes t begins.may.lowest));
    }
