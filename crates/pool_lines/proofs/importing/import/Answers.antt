use Rattle.std.proofs.Common.{◌≡◌, ◌≢◌, subst}
use Rattle.std.specs.Prelude.{IfOk}
use Rattle.std.proofs.lemmas.Result.{err_from_is_err_and}
use Rattle.pm_model.proofs.Reading.{still_size}
use Rattle.pm_model.specs.Moments.{State}
use Rattle.pud_defs.specs.declared.machine.Reply.TheVariants as replies
use Rattle.pool_lines.specs.Importing.{MayMakeNamed}
use Rattle.pud_defs.specs.declared.machine.Command.TheVariants.{Import}
use Rattle.daemon_memory.proofs.Commands.CarriedOut.{CarriesOut-refused, CarriesOut-unread, ready_read}
use Rattle.pool_lines.proofs.FileTransfers.ImportLines.{import_is_plain, CarriesOut-after}
use Rattle.pool_lines.proofs.importing.import.Goals as goal
use Rattle.daemon_memory.specs.Leading.{IsStill}
use Rattle.pool_lines.specs.Effects.{ImportsFile}

pub returns-in_err-refusal-clause-carries : goal.returns-in_err-refusal-clause-carries
returns-in_err-refusal-clause-carries g c =
    let p = err_from_is_err_and c.from_residual.result c.from_residual.ensures.1 in
    rw (p.1, p.2) (λ t size e w memory frames ready legal.
    let k = c.in_err-refusal.ensures.only_reads in
    CarriesOut-unread IsStill (ImportsFile w c.args.client c.args.name c.args.file c.args.mode) size w memory _ _ _ _ (Import c.args.client c.args.name c.args.file c.args.mode) (import_is_plain c.args.client c.args.name c.args.file c.args.mode) (k.stays t)
    (ready_read size w memory _ _ (k.stays t) ready) c.in_err-refusal.field-0.0 k.never_cut k.cause)

pub returns-in-Err-clause-carries : goal.returns-in-Err-clause-carries
returns-in-Err-clause-carries g c = λ t size e w memory frames ready legal.
    let k = c.in_ok-refusal.ensures.only_reads in
    CarriesOut-refused IsStill (ImportsFile w c.args.client c.args.name c.args.file c.args.mode) size w memory _ _ _ _ (Import c.args.client c.args.name c.args.file c.args.mode) (import_is_plain c.args.client c.args.name c.args.file c.args.mode) (k.stays t)
    (ready_read size w memory _ _ (k.stays t) ready) c.in-Err.refusal (c.in_ok-refusal.ensures.refused t size w memory ready c.in-Err.refusal c.in-Err.is c.args.file c.args.mode) k.cause

pub returns-clause-carries : goal.returns-clause-carries
returns-clause-carries g c = λ t size e w memory frames ready legal.
    let k = c.in_ok-refusal.ensures in
    let found = k.maker t size w memory ready in
    let may : MayMakeNamed w c.args.client c.args.name c.in-Ok.who.uid c.in-Ok.who.gid = rw c.in-Ok.is at found in
    CarriesOut-after IsStill (ImportsFile w c.args.client c.args.name c.args.file c.args.mode) size w memory (Import c.args.client c.args.name c.args.file c.args.mode) c.place_file.result _ _ _ _ _ _ (k.only_reads.stays t) k.only_reads.cause ready
    (λ then. c.place_file.ensures.carries t size (still_size k.only_reads e) w memory frames then c.args.client legal may)

pub returns-clause-unchanged : goal.returns-clause-unchanged
returns-clause-unchanged g c = λ t size w memory frames ready.
    let k = c.in_ok-refusal.ensures in
    let same = k.only_reads.stays t in
    let found = k.maker t size w memory ready in
    let may : MayMakeNamed w c.args.client c.args.name c.in-Ok.who.uid c.in-Ok.who.gid = rw c.in-Ok.is at found in
    subst (λ (s : State). IfOk c.place_file.result (λ reply. reply ≢ replies.Ok → g.H.Host.state c.place_file.new.h ≡ s)) same
    (c.place_file.ensures.unchanged t size w memory frames (ready_read size w memory _ _ same ready) c.args.client may)
