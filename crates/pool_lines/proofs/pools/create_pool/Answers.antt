use Rattle.std.proofs.Common.{◌+◌, Some, Result, Ok, Err, refl, sym, ap, subst, ◌∙◌}
use Rattle.std.proofs.lemmas.Result.{err_from_is_err_and}
use Rattle.pm_model.specs.Counts.{fault_of}
use Rattle.pm_model.specs.Words.{reads}
use Rattle.pm_model.specs.Moments.{State}
use Rattle.pud_defs.specs.RegistryTables.Tables.{tables_of}
use Rattle.pud_defs.specs.StateMachine.Step.{world_by}
use Rattle.registry.specs.Pools.{HasFreshFrame}
use Rattle.pud_defs.specs.declared.machine.Command.TheVariants as commands
use Rattle.pud_defs.specs.declared.machine.Refusal.TheVariants as refusals
use Rattle.pud_defs.specs.declared.machine.Reply.{Reply}
use Rattle.pud_defs.specs.declared.machine.Reply.TheVariants as replies
use Rattle.pm_model.specs.declared.host.HostFault.{HostFault}
use Rattle.pud_defs.proofs.StateMachine.Steps.{refused_answer}
use Rattle.daemon_memory.proofs.Commands.Applying.{Applies-failed, Applies-refused}
use Rattle.daemon_memory.specs.Owning.{reply_of_making}
use Rattle.daemon_memory.proofs.PoolChanges.Pooling.{acting, absent, refused_pool_client, Applies-after, reply_making, Applies-making}
use Rattle.daemon_memory.proofs.Commands.Keeping.{KeepsRest-changes, KeepsRest-still, KeepsRest-then}
use Rattle.daemon_memory.specs.declared.line_answer.LineAnswer.TheVariants as answers
use Rattle.daemon_memory.specs.LineAnswers.{as_line_answer}
use Rattle.daemon_memory.specs.Doing.{ActsWith}
use Rattle.pool_lines.specs.Effects.{MakesPool}
use Rattle.daemon_memory.proofs.Commands.Acting.{acts_refused, acts_unread}
use Rattle.pool_lines.proofs.PoolLines.Made.{acts_making}
use Rattle.daemon_memory.proofs.Commands.CarriedOut.{ready_read}
use Rattle.pool_lines.proofs.pools.create_pool.Goals as goal
use Rattle.pm_model.proofs.Reading.{still_size}

pub returns-in_err-who-clause-applies : goal.returns-in_err-who-clause-applies
returns-in_err-who-clause-applies g c =
    let p = err_from_is_err_and c.from_residual.result c.from_residual.ensures.1 in
    rw (p.1, p.2) (λ t size e w memory frames ready legal.
    Applies-failed size w (world_by w (Some (commands.Pool c.args.client c.args.name c.args.mode))) memory c.in_err-who.field-0.0 _ _ ready (c.in_err-who.ensures.only_reads.stays t) c.in_err-who.ensures.only_reads.never_cut)

pub returns-in_default-clause-reply : goal.returns-in_default-clause-reply
returns-in_default-clause-reply g c = λ t size e w memory frames ready.
    sym (refused_answer w (commands.Pool c.args.client c.args.name c.args.mode) refusals.Client
    (refused_pool_client w c.args.client c.args.mode c.args.name (absent size w memory _ ready c.args.client c.requires.known (sym c.in_default.is ∙ c.in_ok-who.ensures.owner t _ refl))))

pub returns-in_default-clause-applies : goal.returns-in_default-clause-applies
returns-in_default-clause-applies g c = λ t size e w memory frames ready legal.
    Applies-refused size w memory (commands.Pool c.args.client c.args.name c.args.mode) refusals.Client _ _ ready
    (refused_pool_client w c.args.client c.args.mode c.args.name (absent size w memory _ ready c.args.client c.requires.known (sym c.in_default.is ∙ c.in_ok-who.ensures.owner t _ refl))) (c.owner.ensures.only_reads.stays t)

pub returns-clause-reply : goal.returns-clause-reply
returns-clause-reply g c = λ t size e w memory frames ready.
    let who = acting size w memory _ ready c.args.client c.in-Some.who c.requires.known (sym c.in-Some.is ∙ c.in_ok-who.ensures.owner t _ refl) in
    let read = ap (λ (s : State). reads s.now.words) (c.owner.ensures.only_reads.stays t) in
    reply_making size w memory c.args.client c.in-Some.who.uid c.in-Some.who.gid c.args.mode c.args.frames c.args.name c.make_pool.result c.reply_of_making.result _ (g.H.Host.state c.make_pool.new.h) ready who (sym frames ∙ ready.frames) c.reply_of_making.ensures
    (c.make_pool.ensures.refusal t _ read)

pub returns-clause-applies : goal.returns-clause-applies
returns-clause-applies g c = λ t size e w memory frames ready legal.
    let who = acting size w memory _ ready c.args.client c.in-Some.who c.requires.known (sym c.in-Some.is ∙ c.in_ok-who.ensures.owner t _ refl) in
    let then = still_size c.in_ok-who.ensures.only_reads e in
    let same = sym frames ∙ ready.frames in
    let b = g.H.Host.state c.owner.new.h in
    let d = g.H.Host.state c.make_pool.new.h in
    Applies-after size w (world_by w (Some (commands.Pool c.args.client c.args.name c.args.mode))) memory memory (fault_of c.reply_of_making.result) (g.H.Host.state c.args.h.now) b d (c.owner.ensures.only_reads.stays t)
    (λ ready_then.
    Applies-making size w memory c.args.client c.in-Some.who.uid c.in-Some.who.gid c.args.mode c.args.frames c.args.name c.make_pool.result c.reply_of_making.result b d ready_then who same c.reply_of_making.ensures
    (λ n. HasFreshFrame (tables_of n (reads b.now.words)) (w.stored.next_number + 1))
    (λ keeps off settled tables none. c.make_pool.ensures.makes t size then w.stored ready_then.mask (record {
      frames = same;
      keeps = keeps;
      off = off;
      settled = settled;
      tables = tables;
      legal = record { is_name = legal.1; has_legal_name = legal.2; has_legal_mode = legal.3; uid_fits = who.uid_fits; gid_fits = who.gid_fits };
      none = none;
    }))
    (λ idle none. c.make_pool.ensures.commits t _ refl idle none)
    (c.make_pool.ensures.unchanged t _ refl)
    (c.make_pool.ensures.any t).rests) ready

pub returns-clause-rest : goal.returns-clause-rest
returns-clause-rest g c = λ t. KeepsRest-then _ _ _ (KeepsRest-still _ _ (c.in_ok-who.ensures.only_reads.stays t)) (KeepsRest-changes _ _ _ _ (c.make_pool.ensures.any t))

-- ---- what is done on the device

pub returns-in_err-who-clause-acts : goal.returns-in_err-who-clause-acts
returns-in_err-who-clause-acts g c =
    let p = err_from_is_err_and c.from_residual.result c.from_residual.ensures.1 in
    rw (p.1, p.2) (λ t size e w memory frames ready.
    let k = c.in_err-who.ensures.only_reads in
    acts_unread w (commands.Pool c.args.client c.args.name c.args.mode) _ (Err c.in_err-who.field-0.0) tt k.never_cut (k.stays t))

pub returns-in_default-clause-acts : goal.returns-in_default-clause-acts
returns-in_default-clause-acts g c = λ t size e w memory frames ready.
    let refused = refused_pool_client w c.args.client c.args.mode c.args.name (absent size w memory _ ready c.args.client c.requires.known (sym c.in_default.is ∙ c.in_ok-who.ensures.owner t _ refl)) in
    acts_refused w (commands.Pool c.args.client c.args.name c.args.mode) _ refusals.Client (Ok (answers.Reply (replies.No refusals.Client))) refused (c.owner.ensures.only_reads.stays t)

pub returns-clause-acts : goal.returns-clause-acts
returns-clause-acts g c = λ t size e w memory frames ready.
    let who = acting size w memory _ ready c.args.client c.in-Some.who c.requires.known (sym c.in-Some.is ∙ c.in_ok-who.ensures.owner t _ refl) in
    let line = commands.Pool c.args.client c.args.name c.args.mode in
    let same = c.owner.ensures.only_reads.stays t in
    let d = g.H.Host.state c.make_pool.new.h in
    subst (λ (r : Result Reply HostFault). ActsWith (MakesPool w c.args.client c.args.name c.args.mode) w line (as_line_answer r) (g.H.Host.state c.args.h.now) d) (sym c.reply_of_making.ensures)
    (subst (λ (s : State). ActsWith (MakesPool w c.args.client c.args.name c.args.mode) w line (as_line_answer (reply_of_making c.make_pool.result)) s d) same
    (acts_making size w memory c.args.client c.in-Some.who.uid c.in-Some.who.gid c.args.mode c.args.name c.make_pool.result (g.H.Host.state c.owner.new.h) d (ready_read size w memory _ _ same ready) who
    c.args.frames (sym frames ∙ ready.frames) (λ idle none. c.make_pool.ensures.commits t _ refl idle none) (c.make_pool.ensures.unchanged t _ refl)))
