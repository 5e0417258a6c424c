use Rattle.std.proofs.Common.{◌≡◌, ◌*◌, List, [], ◌∷◌, ◌++◌, sym, ap, ◌∙◌, arith}
use Rattle.pud_defs.specs.Logging.Entries.{Entry}
use Rattle.pud_defs.specs.RegistryTables.Spaces.{space_record_at}
use Rattle.batch.specs.Batches.{batch_entry, word_count_of}
use Rattle.log_space.specs.Clearing.{clearing}
use Rattle.log_space.proofs.Cleared.{clearing-none, clearing-more, word_count_of-clearing}
use Rattle.log_space.proofs.clearing.Goals as goal

pub loop-client-init : goal.loop-client-init
loop-client-init c = c.new-batch.ensures ∙ sym clearing-none

pub loop-client-preserved : goal.loop-client-preserved
loop-client-preserved c =
    let n = c.loop-client.client in
    let before : c.loop-client.batch ≡ clearing n = c.loop-client.invariant in
    let counted : word_count_of c.loop-client.batch ≡ 3 * n = ap word_count_of before ∙ word_count_of-clearing n in
    let below = c.loop-client-test.true in
    let few = c.requires in
    let added = (rw c.space_record_at.ensures at c.add-fits.ensures.added) (omega arith) in
    added ∙ ap (λ (es : List Entry). es ++ batch_entry (space_record_at n) (0 ∷ []) ∷ []) before ∙ sym (clearing-more n)

pub returns : goal.returns
returns c =
    let all : c.loop-client.client ≡ c.args.count = let low = c.loop-client-test.false in let high = c.loop-client.auto.client-end in omega arith in
    c.loop-client.invariant ∙ ap clearing all
