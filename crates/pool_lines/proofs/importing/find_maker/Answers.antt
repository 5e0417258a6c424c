use Rattle.std.proofs.Common.{◌≡◌, true, false, Some, is_some, refl, sym, ap, ◌∙◌}
use Rattle.pm_model.specs.Words.{reads}
use Rattle.pm_model.specs.Moments.{State}
use Rattle.pud_defs.specs.RegistryTables.Tables.{tables_of, pool_in}
use Rattle.pud_defs.specs.declared.machine.Refusal.TheVariants as refusals
use Rattle.daemon_memory.proofs.PoolChanges.Pooling.{acting, absent}
use Rattle.pool_lines.proofs.FileTransfers.ImportRefusals.{import_client, import_exists, named_there, named_none}
use Rattle.pool_lines.proofs.importing.find_maker.Goals as goal

pub returns-in_default-clause-refused : goal.returns-in_default-clause-refused
returns-in_default-clause-refused g c = λ t size w memory ready refusal is file mode.
    let same : refusals.Client ≡ refusal = cc in
    import_client w c.args.client mode c.args.name file (absent size w memory _ ready c.args.client c.requires.known (sym c.in_default.is ∙ c.in_ok-who.ensures.owner t _ refl)) ∙ ap Some same

pub returns-clause-maker : goal.returns-clause-maker
returns-clause-maker g c = λ t size w memory ready.
    let who = acting size w memory _ ready c.args.client c.in-Some.who c.requires.known (sym c.in-Some.is ∙ c.in_ok-who.ensures.owner t _ refl) in
    let read = ap (λ (s : State). reads s.now.words) (c.owner.ensures.only_reads.stays t) in
    let none : is_some (pool_in (tables_of w.stored.frames (reads (g.H.Host.state c.args.h.now).now.words)) c.args.name) ≡ false =
    ap is_some (sym (c.in_ok-there.ensures.found t _ read w.stored.frames)) ∙ sym c.is_some.ensures ∙ c.if-is_some.false in
    record { acts = who.is; uid_fits = who.uid_fits; gid_fits = who.gid_fits; absent = named_none size w memory _ ready c.args.name none }

pub returns-then-is_some-clause-refused : goal.returns-then-is_some-clause-refused
returns-then-is_some-clause-refused g c = λ t size w memory ready refusal is file mode.
    let same : refusals.Exists ≡ refusal = cc in
    let who = acting size w memory _ ready c.args.client c.in-Some.who c.requires.known (sym c.in-Some.is ∙ c.in_ok-who.ensures.owner t _ refl) in
    let read = ap (λ (s : State). reads s.now.words) (c.owner.ensures.only_reads.stays t) in
    let some : is_some (pool_in (tables_of w.stored.frames (reads (g.H.Host.state c.args.h.now).now.words)) c.args.name) ≡ true =
    ap is_some (sym (c.in_ok-there.ensures.found t _ read w.stored.frames)) ∙ sym c.is_some.ensures ∙ c.if-is_some.true in
    let there = named_there size w memory _ ready c.args.name some in
    import_exists w c.args.client mode c.args.name file _ there.0 who.is there.1 ∙ ap Some same
