use Rattle.std.proofs.Common.{◌≡◌, ℕ, ◌+◌, ◌≤◌, ◌++◌, List, [], ◌∷◌, length, refl, ap, subst, ◌∙◌, arith}
use Rattle.pm_model.specs.Counts.{fault_of}
use Rattle.pud_defs.specs.declared.layout.TheConstants.{DAEMON_LOG, LOG_ENTRY_WORDS, ENTRY_HEADER_WORDS, SPACE_RECORD_WORDS}
use Rattle.pud_defs.specs.Logging.Entries.{Entry}
use Rattle.pud_defs.specs.RegistryTables.Spaces.{space_record_at}
use Rattle.pm_model.specs.Masks.{masked, masked_state, IsOff}
use Rattle.batch.specs.Batches.{batch_entry, word_count_of, IsFree, ByBatch, Commits}
use Rattle.batch.specs.Worlds.{MovesBy, Moves}
use Rattle.log_space.specs.Records.{record_batch}
use Rattle.log_space.proofs.Apart.{IsFree-record}
use Rattle.log_space.proofs.write_record.Goals as goal

-- A batch that was empty and got these values has only them.
holds : (slot : ℕ) (vals : List ℕ) (empty added : List Entry) → empty ≡ [] → length vals ≤ SPACE_RECORD_WORDS
    → (word_count_of empty + (length vals + ENTRY_HEADER_WORDS) ≤ LOG_ENTRY_WORDS → added ≡ empty ++ batch_entry (space_record_at slot) vals ∷ []) → added ≡ record_batch slot vals
holds slot vals empty added none few adds =
    let nothing : word_count_of empty ≡ 0 = ap word_count_of none in
    adds (omega arith) ∙ ap (λ (es : List Entry). es ++ batch_entry (space_record_at slot) vals ∷ []) none

pub returns-clause-commits : goal.returns-clause-commits
returns-clause-commits g c = λ t idle.
    let slot = c.args.slot in
    let vals = c.args.vals.now in
    let a = g.H.Host.state c.args.h.now in
    let b = g.H.Host.state c.commit.new.h in
    let size = (g.H.Host.counts c.args.h.now).size in
    let whole = holds slot vals c.new-batch.result c.add-fits.new.self c.new-batch.ensures c.requires.no_more (rw c.space_record_at.ensures at c.add-fits.ensures.added) in
    subst (λ (es : List Entry). IsFree size DAEMON_LOG es a.now.words → Commits DAEMON_LOG es (fault_of c.commit.result) a b) whole (c.commit.ensures.commits t size refl)
    (IsFree-record size c.requires.table slot vals a.now.words c.requires.known c.requires.no_more idle)

pub returns-clause-moves : goal.returns-clause-moves
returns-clause-moves g c = λ t size same s next mask off settled.
    let slot = c.args.slot in
    let vals = c.args.vals.now in
    let a = g.H.Host.state c.args.h.now in
    let b = g.H.Host.state c.commit.new.h in
    let whole = holds slot vals c.new-batch.result c.add-fits.new.self c.new-batch.ensures c.requires.no_more (rw c.space_record_at.ensures at c.add-fits.ensures.added) in
    subst (λ (es : List Entry). IsOff mask (ByBatch DAEMON_LOG es) → MovesBy size s next es (masked mask a.now.words) → Moves size s next es (fault_of c.commit.result) (masked_state mask a) (masked_state mask b)) whole
    (λ apart. c.commit.ensures.moves t size same s next mask apart settled) off
