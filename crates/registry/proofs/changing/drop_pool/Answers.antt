use Rattle.std.proofs.Common.{◌≡◌, ◌≤◌, inr, List, Some, refl, sym, ap, subst, ◌∙◌, arith}
use Rattle.pm_model.specs.Words.{reads}
use Rattle.pm_model.specs.Masks.{masked, masked_state, IsOff}
use Rattle.pm_model.proofs.Masks.{reads-masked}
use Rattle.pm_model.proofs.Reading.{still_size}
use Rattle.pud_defs.specs.declared.layout.TheConstants.{DAEMON_LOG}
use Rattle.pud_defs.specs.declared.records.TheConstants.{MAX_PUDDLES}
use Rattle.pud_defs.specs.Logging.Entries.{Entry}
use Rattle.pud_defs.specs.RegistryTables.Keyed.{count_used}
use Rattle.batch.specs.Batches.{ByBatch}
use Rattle.registry.specs.Puts.{puts_batch}
use Rattle.std.proofs.lemmas.Result.{err_from_is_err_and}
use Rattle.pm_model.specs.Counts.{fault_of}
use Rattle.pud_defs.specs.RegistryTables.Tables.{Tables, tables_of, members}
use Rattle.registry.specs.Pools.{dropping}
use Rattle.registry.proofs.Moved.{ChangesPools-still}
use Rattle.registry.proofs.Changed.{dropping_of}
use Rattle.registry.proofs.Joined.{whole_batch, ChangesPools-dropped, Commits-puts}
use Rattle.pud_defs.proofs.RegistryTables.TablesOf.{frames_of_tables}
use Rattle.registry.proofs.changing.drop_pool.Goals as goal

pub returns-in_err-dropping-clause-changes : goal.returns-in_err-dropping-clause-changes
returns-in_err-dropping-clause-changes g c =
    let p = err_from_is_err_and c.from_residual.result c.from_residual.ensures.1 in
    rw (p.1, p.2) (λ t size same s frames mask keeps off settled r at.
    ChangesPools-still size s _ _ (Some c.in_err-dropping.field-0.0) (masked_state mask (g.H.Host.state c.args.h.now)) (masked_state mask (g.H.Host.state c.dropping.new.h)) settled c.in_err-dropping.ensures.only_reads.never_cut (λ none. cc)
    (ap (masked_state mask) (c.in_err-dropping.ensures.only_reads.stays t)))

pub returns-clause-commits : goal.returns-clause-commits
returns-clause-commits g c = λ t size same image read idle few.
    let then = still_size c.in_ok-dropping.ensures.only_reads same in
    inr (Commits-puts c.args.frames size (dropping (tables_of c.args.frames image) c.args.slot) c.in_ok-dropping.field-0 _ (g.H.Host.state c.args.h.now) (g.H.Host.state c.dropping.new.h) _ (c.in_ok-dropping.ensures.only_reads.stays t)
    (omega (arith, same)) (dropping_of c.args.frames (tables_of c.args.frames image) c.args.slot c.requires.known (omega (arith, frames_of_tables c.args.frames image))) (c.in_ok-dropping.ensures.batch t image read few)
    (c.commit.ensures.commits t size then) idle)

pub returns-clause-changes : goal.returns-clause-changes
returns-clause-changes g c = λ t size same s frames mask keeps off settled r at.
    let then = still_size c.in_ok-dropping.ensures.only_reads same in
    let F = c.args.frames in
    let slot = c.args.slot in
    let a = g.H.Host.state c.args.h.now in
    let b = g.H.Host.state c.dropping.new.h in
    let d = g.H.Host.state c.commit.new.h in
    let batch = c.in_ok-dropping.field-0 in
    let tables : tables_of F (reads (masked mask a.now.words)) ≡ tables_of F (reads a.now.words) = ap (tables_of F) (reads-masked mask a.now.words) ∙ keeps.tables in
    let gathered : count_used (members (tables_of F (reads (masked mask a.now.words))) slot) 0 F ≤ MAX_PUDDLES → batch ≡ puts_batch (dropping (tables_of F (reads (masked mask a.now.words))) slot) =
    subst (λ (u : Tables). count_used (members u slot) 0 F ≤ MAX_PUDDLES → batch ≡ puts_batch (dropping u slot)) (sym tables) (λ few. c.in_ok-dropping.ensures.batch t (reads a.now.words) refl few) in
    ChangesPools-dropped size s F slot r batch (fault_of c.commit.result) (masked_state mask a) (masked_state mask b) (masked_state mask d) (ap (masked_state mask) (c.in_ok-dropping.ensures.only_reads.stays t)) frames c.requires.known settled at
    gathered
    (λ settled_then moves. c.commit.ensures.moves t size then s _ mask
    (subst (λ (es : List Entry). IsOff mask (ByBatch DAEMON_LOG es)) (sym (whole_batch size s F slot r mask a batch frames c.requires.known settled at tables (λ few. c.in_ok-dropping.ensures.batch t (reads a.now.words) refl few))) off)
    settled_then moves)
