use Rattle.std.proofs.Common.{◌≡◌, ℕ, Some, Ok, refl, sym, ap, subst, ◌∙◌, List}
use Rattle.pud_defs.specs.declared.machine.Command.{Command}
use Rattle.pud_defs.specs.declared.machine.Command.TheVariants.{Client, Leave, Define, Chmod, Get, Begin, Commit, Abort, New, Set, Later, Root, Free, Import, Cut, Arm}
use Rattle.pud_defs.specs.declared.machine.Command.TheVariants as commands
use Rattle.pud_defs.specs.StateMachine.Grammar.{IsLegalCommand}
use Rattle.daemon_memory.specs.Memory.{Memory}
use Rattle.daemon_memory.specs.declared.line_answer.LineAnswer.TheVariants as answers
use Rattle.puddled.specs.Daemon.{CarriesOut}
use Rattle.daemon_memory.proofs.Commands.Keeping.{KeepsRest-still}
use Rattle.puddled.proofs.LinesDone.Carrying.{ClosesLogs-leave, CarriesOut-plain, CarriesOut-led, CarriesOut-as, CarriesOut-of, CarriesOut-listed, CarriesOut-lost, CarriesOut-armed}
use Rattle.daemon_memory.proofs.Commands.CarriedOut.{ClosesLogs-other}
use Rattle.std.specs.Prelude.{IfOk}
use Rattle.pm_model.specs.Words.{reads}
use Rattle.pud_defs.specs.StateMachine.Step.{refusal_of}
use Rattle.pool_lines.specs.Rewriting.{DoesSteps}
use Rattle.pool_lines.proofs.PoolLines.Rewritten.{steps_answered}
use Rattle.puddled.proofs.daemon.apply.Goals as goal
use Rattle.daemon_memory.proofs.Commands.Acting.{acts_nothing}

pub returns-in-Client-clause-carries : goal.returns-in-Client-clause-carries
returns-in-Client-clause-carries g c = λ t size e w ready.
    let is : c.args.command ≡ Client c.from.result c.in-Client.uid c.in-Client.gid = c.in-Client.is ∙ ap (λ (k : ℕ). Client k c.in-Client.uid c.in-Client.gid) (sym c.from.ensures) in
    let frames = sym (ap (λ (m : Memory). m.frames) c.memory.view_is) in
    CarriesOut-as size w c.args.memory.now _ _ _ _ c.args.command (Client c.from.result c.in-Client.uid c.in-Client.gid) c.with_reply.result c.register_client.result is c.with_reply.ensures
    (CarriesOut-plain size w c.args.memory.now _ _ _ _ (Client c.from.result c.in-Client.uid c.in-Client.gid) c.register_client.result refl refl (record { none = λ F before. refl }) (c.register_client.ensures.reply t size e w _ frames ready) (c.register_client.ensures.applies t size e w _ frames ready)
    (ClosesLogs-other w _ _ _ (λ client no. cc)) (c.register_client.ensures.rest t) c.register_client.ensures.cause (c.register_client.ensures.acts t size e w _ frames ready))

pub returns-in-Leave-clause-carries : goal.returns-in-Leave-clause-carries
returns-in-Leave-clause-carries g c = λ t size e w ready.
    CarriesOut-as size w c.leave.new.memory _ _ _ _ c.args.command (Leave c.in-Leave.client) c.with_reply-in-Leave.result c.leave.result c.in-Leave.is c.with_reply-in-Leave.ensures
    (CarriesOut-plain size w c.leave.new.memory _ _ _ _ (Leave c.in-Leave.client) c.leave.result refl refl (record { none = λ F before. refl }) (c.leave.ensures.reply t size e w ready) (c.leave.ensures.applies t size e w ready)
    (ClosesLogs-leave w _ _ _ (c.leave.ensures.closes_first t size e w ready)) (c.leave.ensures.rest t) c.leave.ensures.cause (c.leave.ensures.acts t size e w ready))

pub returns-in-Define-clause-carries : goal.returns-in-Define-clause-carries
returns-in-Define-clause-carries g c = λ t size e w ready.
    let is : c.args.command ≡ Define c.in-Define.t c.in-Define.map = c.in-Define.is in
    let legal = subst IsLegalCommand is c.requires.legal in
    CarriesOut-as size w c.args.memory.now _ _ _ _ c.args.command (Define c.in-Define.t c.in-Define.map) c.with_reply-in-Define.result c.define_type.result is c.with_reply-in-Define.ensures
    (CarriesOut-plain size w c.args.memory.now _ _ _ _ (Define c.in-Define.t c.in-Define.map) c.define_type.result refl refl (record { none = λ F before. refl }) (c.define_type.ensures.reply t size e w _ ready) (c.define_type.ensures.applies t size e w _ ready legal.0 legal.1)
    (ClosesLogs-other w _ _ _ (λ client no. cc)) (c.define_type.ensures.rest t) c.define_type.ensures.cause (c.define_type.ensures.acts t size e w _ ready))

pub returns-in-Pool-clause-carries : goal.returns-in-Pool-clause-carries
returns-in-Pool-clause-carries g c = λ t size e w ready.
    let is : c.args.command ≡ commands.Pool c.from-in-Pool.result c.in-Pool.name c.in-Pool.mode = c.in-Pool.is ∙ ap (λ (k : ℕ). commands.Pool k c.in-Pool.name c.in-Pool.mode) (sym c.from-in-Pool.ensures) in
    let frames = sym (ap (λ (m : Memory). m.frames) c.memory-in-Pool.view_is) in
    let legal = subst IsLegalCommand is c.requires.legal in
    CarriesOut-as size w c.args.memory.now _ _ _ _ c.args.command (commands.Pool c.from-in-Pool.result c.in-Pool.name c.in-Pool.mode) c.with_reply-in-Pool.result c.create_pool.result is c.with_reply-in-Pool.ensures
    (CarriesOut-plain size w c.args.memory.now _ _ _ _ (commands.Pool c.from-in-Pool.result c.in-Pool.name c.in-Pool.mode) c.create_pool.result refl refl (record { none = λ F before. refl }) (c.create_pool.ensures.reply t size e w _ frames ready) (c.create_pool.ensures.applies t size e w _ frames ready legal)
    (ClosesLogs-other w _ _ _ (λ client no. cc)) (c.create_pool.ensures.rest t) c.create_pool.ensures.cause (c.create_pool.ensures.acts t size e w _ frames ready))

pub returns-in-Chmod-clause-carries : goal.returns-in-Chmod-clause-carries
returns-in-Chmod-clause-carries g c = λ t size e w ready.
    let chmod = Chmod c.in-Chmod.client c.in-Chmod.name c.in-Chmod.mode in
    let legal = subst IsLegalCommand c.in-Chmod.is c.requires.legal in
    CarriesOut-as size w c.set_mode_for.new.memory _ _ _ _ c.args.command chmod c.with_reply-in-Chmod.result c.set_mode_for.result c.in-Chmod.is c.with_reply-in-Chmod.ensures
    (CarriesOut-plain size w c.set_mode_for.new.memory _ _ _ _ chmod c.set_mode_for.result refl refl (record { none = λ F before. refl }) (c.set_mode_for.ensures.reply t size w ready) (c.set_mode_for.ensures.applies t size e w ready legal)
    (ClosesLogs-other w _ _ _ (λ client no. cc)) (c.set_mode_for.ensures.rest t) c.set_mode_for.ensures.cause (c.set_mode_for.ensures.acts t size e w ready))

pub returns-in-Drop-clause-carries : goal.returns-in-Drop-clause-carries
returns-in-Drop-clause-carries g c = λ t size e w ready.
    let drop = commands.Drop c.in-Drop.client c.in-Drop.name in
    CarriesOut-as size w c.drop_for.new.memory _ _ _ _ c.args.command drop c.with_reply-in-Drop.result c.drop_for.result c.in-Drop.is c.with_reply-in-Drop.ensures
    (CarriesOut-led size w c.drop_for.new.memory _ _ _ _ drop c.drop_for.result refl refl (c.drop_for.ensures.reply t size w ready) (c.drop_for.ensures.applies t size e w ready)
    (ClosesLogs-other w _ _ _ (λ client no. cc)) (c.drop_for.ensures.rest t) c.drop_for.ensures.cause (c.drop_for.ensures.acts t size e w ready))

pub returns-in-Rewrite-clause-carries : goal.returns-in-Rewrite-clause-carries
returns-in-Rewrite-clause-carries g c = λ t size e w ready.
    let rewrite = commands.Rewrite c.in-Rewrite.name c.in-Rewrite.n in
    CarriesOut-as size w c.rewrite_for.new.memory _ _ _ _ c.args.command rewrite c.with_reply-in-Rewrite.result c.rewrite_for.result c.in-Rewrite.is c.with_reply-in-Rewrite.ensures
    (CarriesOut-led size w c.rewrite_for.new.memory _ _ _ _ rewrite c.rewrite_for.result refl refl (c.rewrite_for.ensures.reply t size w ready) (c.rewrite_for.ensures.applies t size e w ready)
    (ClosesLogs-other w _ _ _ (λ client no. cc)) (c.rewrite_for.ensures.rest t) c.rewrite_for.ensures.cause (c.rewrite_for.ensures.acts t size e w ready))

pub returns-in-Import-clause-carries : goal.returns-in-Import-clause-carries
returns-in-Import-clause-carries g c = λ t size e w ready.
    let line = Import c.from-in-Import.result c.in-Import.name c.in-Import.file c.in-Import.mode in
    let is : c.args.command ≡ line = c.in-Import.is ∙ ap (λ (k : ℕ). Import k c.in-Import.name c.in-Import.file c.in-Import.mode) (sym c.from-in-Import.ensures) in
    let frames = sym (ap (λ (m : Memory). m.frames) c.memory-in-Import.view_is) in
    CarriesOut-as size w c.args.memory.now _ _ _ _ c.args.command line c.with_reply-in-Import.result c.import.result is c.with_reply-in-Import.ensures
    (c.import.ensures.carries t size e w _ frames ready (subst IsLegalCommand is c.requires.legal))

pub returns-in-Get-clause-carries : goal.returns-in-Get-clause-carries
returns-in-Get-clause-carries g c = λ t size e w ready.
    let get = Get c.in-Get.client c.in-Get.name c.in-Get.s c.in-Get.f in
    CarriesOut-as size w c.get_for.new.memory _ _ _ _ c.args.command get c.with_reply-in-Get.result c.get_for.result c.in-Get.is c.with_reply-in-Get.ensures
    (CarriesOut-plain size w c.get_for.new.memory _ _ _ _ get c.get_for.result refl refl (record { none = λ F before. refl }) (c.get_for.ensures.reply t size w ready) (c.get_for.ensures.applies t size w ready)
    (ClosesLogs-other w _ _ _ (λ client no. cc)) (KeepsRest-still _ _ (c.get_for.ensures.only_reads.stays t)) c.get_for.ensures.only_reads.cause (acts_nothing w get _ _ _ (c.get_for.ensures.only_reads.stays t)))

pub returns-in-Begin-clause-carries : goal.returns-in-Begin-clause-carries
returns-in-Begin-clause-carries g c = λ t size e w ready.
    CarriesOut-as size w c.begin.new.memory _ _ _ _ c.args.command (Begin c.in-Begin.client c.in-Begin.name) c.with_reply-in-Begin.result c.begin.result c.in-Begin.is c.with_reply-in-Begin.ensures
    (c.begin.ensures.carries t size e w ready)

pub returns-in-Commit-clause-carries : goal.returns-in-Commit-clause-carries
returns-in-Commit-clause-carries g c = λ t size e w ready.
    CarriesOut-as size w c.commit.new.memory _ _ _ _ c.args.command (Commit c.in-Commit.client c.in-Commit.name) c.with_reply-in-Commit.result c.commit.result c.in-Commit.is c.with_reply-in-Commit.ensures
    (c.commit.ensures.carries t size e w ready)

pub returns-in-Abort-clause-carries : goal.returns-in-Abort-clause-carries
returns-in-Abort-clause-carries g c = λ t size e w ready.
    CarriesOut-as size w c.abort.new.memory _ _ _ _ c.args.command (Abort c.in-Abort.client c.in-Abort.name) c.with_reply-in-Abort.result c.abort.result c.in-Abort.is c.with_reply-in-Abort.ensures
    (c.abort.ensures.carries t size e w ready)

pub returns-in-New-clause-carries : goal.returns-in-New-clause-carries
returns-in-New-clause-carries g c = λ t size e w ready.
    CarriesOut-as size w c.change_own.new.memory _ _ _ _ c.args.command (New c.in-New.client c.in-New.name c.in-New.t) c.with_reply-in-New.result c.change_own.result c.in-New.is c.with_reply-in-New.ensures
    (c.change_own.ensures.carries t size e w ready)

pub returns-in-Set-clause-carries : goal.returns-in-Set-clause-carries
returns-in-Set-clause-carries g c = λ t size e w ready.
    CarriesOut-as size w c.change_own-in-Set.new.memory _ _ _ _ c.args.command (Set c.in-Set.client c.in-Set.name c.in-Set.s c.in-Set.f c.in-Set.x) c.with_reply-in-Set.result c.change_own-in-Set.result c.in-Set.is c.with_reply-in-Set.ensures
    (c.change_own-in-Set.ensures.carries t size e w ready)

pub returns-in-Later-clause-carries : goal.returns-in-Later-clause-carries
returns-in-Later-clause-carries g c = λ t size e w ready.
    CarriesOut-as size w c.change_own-in-Later.new.memory _ _ _ _ c.args.command (Later c.in-Later.client c.in-Later.name c.in-Later.s c.in-Later.f c.in-Later.x) c.with_reply-in-Later.result c.change_own-in-Later.result c.in-Later.is c.with_reply-in-Later.ensures
    (c.change_own-in-Later.ensures.carries t size e w ready)

pub returns-in-Root-clause-carries : goal.returns-in-Root-clause-carries
returns-in-Root-clause-carries g c = λ t size e w ready.
    CarriesOut-as size w c.change_own-in-Root.new.memory _ _ _ _ c.args.command (Root c.in-Root.client c.in-Root.name c.in-Root.s) c.with_reply-in-Root.result c.change_own-in-Root.result c.in-Root.is c.with_reply-in-Root.ensures
    (c.change_own-in-Root.ensures.carries t size e w ready)

pub returns-in-Free-clause-carries : goal.returns-in-Free-clause-carries
returns-in-Free-clause-carries g c = λ t size e w ready.
    CarriesOut-as size w c.change_own-in-Free.new.memory _ _ _ _ c.args.command (Free c.in-Free.client c.in-Free.name c.in-Free.s) c.with_reply-in-Free.result c.change_own-in-Free.result c.in-Free.is c.with_reply-in-Free.ensures
    (c.change_own-in-Free.ensures.carries t size e w ready)

pub returns-in-Pools-clause-carries : goal.returns-in-Pools-clause-carries
returns-in-Pools-clause-carries g c = λ t size e w ready.
    subst (λ (x : Command). CarriesOut size w c.args.memory.now (Some x) (Ok answers.Pools) (g.H.Host.counts c.args.h.now) (g.H.Host.counts c.args.h.now) (g.H.Host.state c.args.h.now) (g.H.Host.state c.args.h.now)) (sym c.in-Pools.is)
    (CarriesOut-listed size w c.args.memory.now _ _ _ _ ready refl refl)

pub returns-in-Cut-clause-carries : goal.returns-in-Cut-clause-carries
returns-in-Cut-clause-carries g c = λ t size e w ready.
    CarriesOut-as size w c.args.memory.now _ _ _ _ c.args.command (Cut c.in-Cut.pick) c.with_reply-in-Cut.result c.lose_power.result c.in-Cut.is c.with_reply-in-Cut.ensures
    (CarriesOut-lost size w c.args.memory.now _ _ _ _ c.in-Cut.pick _ c.lose_power.ensures.lost (c.lose_power.ensures.applies t size w _ ready) (c.lose_power.ensures.rest t) c.lose_power.ensures.cause)

pub returns-in-Arm-clause-carries : goal.returns-in-Arm-clause-carries
returns-in-Arm-clause-carries g c = λ t size e w ready.
    CarriesOut-as size w c.args.memory.now _ _ _ _ c.args.command (Arm c.in-Arm.step c.in-Arm.pick) c.with_reply-in-Arm.result c.arm.result c.in-Arm.is c.with_reply-in-Arm.ensures
    (CarriesOut-armed size w c.args.memory.now _ _ _ _ c.in-Arm.step c.in-Arm.pick _ c.arm.ensures.done ready (c.arm.ensures.stays t) c.arm.ensures.cause)

-- ---- the steps of a line that rewrites

pub returns-in-Rewrite-clause-steps : goal.returns-in-Rewrite-clause-steps
returns-in-Rewrite-clause-steps g c = λ t size e w ready name n is free.
    let its : commands.Rewrite c.in-Rewrite.name c.in-Rewrite.n ≡ commands.Rewrite name n = sym c.in-Rewrite.is ∙ is in
    let old = reads (g.H.Host.state c.args.h.now).now.words in
    let new = reads (g.H.Host.state c.rewrite_for.new.h).now.words in
    let named : c.in-Rewrite.name ≡ name = cc in
    let many : c.in-Rewrite.n ≡ n = cc in
    steps_answered w.stored.frames name n old new c.rewrite_for.result c.with_reply-in-Rewrite.result c.with_reply-in-Rewrite.ensures
    (subst (λ (x : List ℕ). IfOk c.rewrite_for.result (λ _. DoesSteps w.stored.frames x n old new)) named
    (subst (λ (k : ℕ). IfOk c.rewrite_for.result (λ _. DoesSteps w.stored.frames c.in-Rewrite.name k old new)) many (c.rewrite_for.ensures.moves t size e w ready (ap (refusal_of w) (sym c.in-Rewrite.is) ∙ free))))

pub returns-in-Client-clause-steps : goal.returns-in-Client-clause-steps
returns-in-Client-clause-steps g c = λ t size e w ready name n is free. absurd (cc (c.in-Client.is, is))

pub returns-in-Leave-clause-steps : goal.returns-in-Leave-clause-steps
returns-in-Leave-clause-steps g c = λ t size e w ready name n is free. absurd (cc (c.in-Leave.is, is))

pub returns-in-Define-clause-steps : goal.returns-in-Define-clause-steps
returns-in-Define-clause-steps g c = λ t size e w ready name n is free. absurd (cc (c.in-Define.is, is))

pub returns-in-Pool-clause-steps : goal.returns-in-Pool-clause-steps
returns-in-Pool-clause-steps g c = λ t size e w ready name n is free. absurd (cc (c.in-Pool.is, is))

pub returns-in-Chmod-clause-steps : goal.returns-in-Chmod-clause-steps
returns-in-Chmod-clause-steps g c = λ t size e w ready name n is free. absurd (cc (c.in-Chmod.is, is))

pub returns-in-Drop-clause-steps : goal.returns-in-Drop-clause-steps
returns-in-Drop-clause-steps g c = λ t size e w ready name n is free. absurd (cc (c.in-Drop.is, is))

pub returns-in-Get-clause-steps : goal.returns-in-Get-clause-steps
returns-in-Get-clause-steps g c = λ t size e w ready name n is free. absurd (cc (c.in-Get.is, is))

pub returns-in-Begin-clause-steps : goal.returns-in-Begin-clause-steps
returns-in-Begin-clause-steps g c = λ t size e w ready name n is free. absurd (cc (c.in-Begin.is, is))

pub returns-in-Commit-clause-steps : goal.returns-in-Commit-clause-steps
returns-in-Commit-clause-steps g c = λ t size e w ready name n is free. absurd (cc (c.in-Commit.is, is))

pub returns-in-Abort-clause-steps : goal.returns-in-Abort-clause-steps
returns-in-Abort-clause-steps g c = λ t size e w ready name n is free. absurd (cc (c.in-Abort.is, is))

pub returns-in-New-clause-steps : goal.returns-in-New-clause-steps
returns-in-New-clause-steps g c = λ t size e w ready name n is free. absurd (cc (c.in-New.is, is))

pub returns-in-Set-clause-steps : goal.returns-in-Set-clause-steps
returns-in-Set-clause-steps g c = λ t size e w ready name n is free. absurd (cc (c.in-Set.is, is))

pub returns-in-Later-clause-steps : goal.returns-in-Later-clause-steps
returns-in-Later-clause-steps g c = λ t size e w ready name n is free. absurd (cc (c.in-Later.is, is))

pub returns-in-Root-clause-steps : goal.returns-in-Root-clause-steps
returns-in-Root-clause-steps g c = λ t size e w ready name n is free. absurd (cc (c.in-Root.is, is))

pub returns-in-Free-clause-steps : goal.returns-in-Free-clause-steps
returns-in-Free-clause-steps g c = λ t size e w ready name n is free. absurd (cc (c.in-Free.is, is))

pub returns-in-Dump-clause-steps : goal.returns-in-Dump-clause-steps
returns-in-Dump-clause-steps g c = λ t size e w ready name n is free. absurd (cc (c.in-Dump.is, is))

pub returns-in-Export-clause-steps : goal.returns-in-Export-clause-steps
returns-in-Export-clause-steps g c = λ t size e w ready name n is free. absurd (cc (c.in-Export.is, is))

pub returns-in-Import-clause-steps : goal.returns-in-Import-clause-steps
returns-in-Import-clause-steps g c = λ t size e w ready name n is free. absurd (cc (c.in-Import.is, is))

pub returns-in-Pools-clause-steps : goal.returns-in-Pools-clause-steps
returns-in-Pools-clause-steps g c = λ t size e w ready name n is free. absurd (cc (c.in-Pools.is, is))

pub returns-in-Cut-clause-steps : goal.returns-in-Cut-clause-steps
returns-in-Cut-clause-steps g c = λ t size e w ready name n is free. absurd (cc (c.in-Cut.is, is))

pub returns-in-Arm-clause-steps : goal.returns-in-Arm-clause-steps
returns-in-Arm-clause-steps g c = λ t size e w ready name n is free. absurd (cc (c.in-Arm.is, is))

-- ---- lines that answer by themselves

pub returns-in-Dump-clause-carries : goal.returns-in-Dump-clause-carries
returns-in-Dump-clause-carries g c = λ t size e w ready.
    CarriesOut-of size w c.dump_for.new.memory _ _ _ _ c.args.command (commands.Dump c.in-Dump.client c.in-Dump.name) c.dump_for.result c.in-Dump.is (c.dump_for.ensures.carries t size e w ready)

pub returns-in-Export-clause-carries : goal.returns-in-Export-clause-carries
returns-in-Export-clause-carries g c = λ t size e w ready.
    CarriesOut-of size w c.export_for.new.memory _ _ _ _ c.args.command (commands.Export c.in-Export.client c.in-Export.name c.in-Export.file) c.export_for.result c.in-Export.is (c.export_for.ensures.carries t size e w ready)
