use Rattle.std.proofs.Common.{◌≡◌, ◌≢◌, sym, subst}
use Rattle.std.specs.Prelude.{IfOk}
use Rattle.pm_model.proofs.Reading.{still_size}
use Rattle.pm_model.specs.Moments.{State}
use Rattle.pud_defs.specs.declared.machine.Command.TheVariants.{Import}
use Rattle.pud_defs.specs.declared.machine.Refusal.TheVariants as refusals
use Rattle.pud_defs.specs.declared.machine.Reply.TheVariants as replies
use Rattle.pool_lines.specs.Importing.{IsPrefixOf}
use Rattle.daemon_memory.proofs.Commands.CarriedOut.{CarriesOut-refused, CarriesOut-unread, ready_read}
use Rattle.pool_lines.proofs.FileTransfers.ImportRefusals.{import_no_file}
use Rattle.pool_lines.proofs.FileTransfers.ImportLines.{import_is_plain, CarriesOut-after, CarriesOut-memory, front_of, none_given, some_there}
use Rattle.pool_lines.proofs.importing.place_file.Goals as goal
use Rattle.daemon_memory.specs.Leading.{IsStill}
use Rattle.pool_lines.specs.Effects.{ImportsFile}

pub returns-in-Ok-Some-clause-carries : goal.returns-in-Ok-Some-clause-carries
returns-in-Ok-Some-clause-carries g c = λ t size e w memory frames ready client legal may.
    let k = c.in-Ok-Some.ensures in
    let found = k.found t in
    let front : IsPrefixOf w c.args.file c.in-Ok-Some.bytes.items = front_of w (g.H.Host.state c.args.h.now) c.args.file c.in-Ok-Some.bytes.items ready.shelf (rw c.in-Ok-Some.field-0-is at found) in
    CarriesOut-after IsStill (ImportsFile w client c.args.name c.args.file c.args.mode) size w memory (Import client c.args.name c.args.file c.args.mode) c.place_bytes.result _ _ _ _ _ _ (k.only_reads.stays t) k.only_reads.cause ready
    (λ then. c.place_bytes.ensures.carries t size (still_size k.only_reads e) w memory frames then client c.args.file legal may (subst (IsPrefixOf w c.args.file) (sym c.as_slice.ensures.value) front))

pub returns-in-Ok-Some-clause-unchanged : goal.returns-in-Ok-Some-clause-unchanged
returns-in-Ok-Some-clause-unchanged g c = λ t size w memory frames ready client may.
    let same = c.in-Ok-Some.ensures.only_reads.stays t in
    subst (λ (s : State). IfOk c.place_bytes.result (λ reply. reply ≢ replies.Ok → g.H.Host.state c.place_bytes.new.h ≡ s)) same
    (c.place_bytes.ensures.unchanged t size w memory frames (ready_read size w memory _ _ same ready) client may)

pub returns-in-Ok-None-clause-carries : goal.returns-in-Ok-None-clause-carries
returns-in-Ok-None-clause-carries g c = λ t size e w memory frames ready client legal may.
    let k = c.in-Ok-None.ensures in
    let found = k.found t in
    CarriesOut-refused IsStill (ImportsFile w client c.args.name c.args.file c.args.mode) size w memory _ _ _ _ (Import client c.args.name c.args.file c.args.mode) (import_is_plain client c.args.name c.args.file c.args.mode) (k.only_reads.stays t)
    (ready_read size w memory _ _ (k.only_reads.stays t) ready) refusals.File
    (import_no_file w client c.args.mode c.args.name c.args.file c.args.uid c.args.gid may (none_given w (g.H.Host.state c.args.h.now) c.args.file ready.shelf (rw c.in-Ok-None.field-0-is at found))) k.only_reads.cause

pub returns-in-Err-Memory-clause-carries : goal.returns-in-Err-Memory-clause-carries
returns-in-Err-Memory-clause-carries g c = λ t size e w memory frames ready client legal may.
    let k = c.in-Err-Memory.ensures in
    let told = k.only_reads in
    let reads = rw c.in-Err-Memory.field-0-is at told in
    let there = some_there w (g.H.Host.state c.args.h.now) c.args.file ready.shelf (k.memory t (cc)) in
    CarriesOut-memory size w memory _ ready client c.args.uid c.args.gid c.args.mode c.args.name c.args.file there.0 may there.1 _ (reads.stays t) _ _ reads.cause

pub returns-in-Err-Host-clause-carries : goal.returns-in-Err-Host-clause-carries
returns-in-Err-Host-clause-carries g c = rw c.in-Err-Host.field-0-is (λ t size e w memory frames ready client legal may.
    let told = c.in-Err-Host.ensures.only_reads in
    let reads = rw c.in-Err-Host.field-0-is at told in
    CarriesOut-unread IsStill (ImportsFile w client c.args.name c.args.file c.args.mode) size w memory _ _ _ _ (Import client c.args.name c.args.file c.args.mode) (import_is_plain client c.args.name c.args.file c.args.mode) (reads.stays t)
    (ready_read size w memory _ _ (reads.stays t) ready) c.in-Err-Host.fault reads.never_cut reads.cause)
