use Rattle.std.proofs.Common.{◌&&◌, ◌∙◌}
use Rattle.pud_defs.specs.declared.layout.TheConstants.{DAEMON_LOG}
use Rattle.pud_defs.specs.Logging.Replay.{settled_by}
use Rattle.pud_defs.specs.RegistryTables.Tables.{tables_of}
use Rattle.pud_defs.specs.RegistryTables.SoundTables.{has_distinct_bases, has_distinct_old_bases, has_distinct_ordinals, has_counted_puddles}
use Rattle.soundness.proofs.Marks.{bases_by_numbers, old_bases_by_numbers, in_groups}
use Rattle.pm_model.proofs.Reading.{still_reads}
use Rattle.soundness.proofs.distinct.are_distinct_puddles.Goals as goal

pub returns-clause-distinct : goal.returns-clause-distinct
returns-clause-distinct g c = λ t image same over next legal.
    let settled = settled_by DAEMON_LOG image in
    let tables = tables_of c.args.frames settled in
    let following = still_reads c.has_distinct_numbers.ensures.only_reads t same in
    let later = still_reads c.has_distinct_numbers-2.ensures.only_reads t following in
    let bases = c.in_ok-bases.ensures.distinct t image same over ∙ bases_by_numbers tables in
    let old_bases = c.in_ok-old_bases.ensures.distinct t image following over ∙ old_bases_by_numbers c.args.frames settled next legal in
    let ordinals = c.in_ok-ordinals.ensures.counted t image later over next legal in
    c.are_all.ensures ∙ (λ p. bases p && old_bases p && ordinals p)
    ∙ in_groups (has_distinct_bases tables) (has_distinct_old_bases tables) (has_distinct_ordinals tables) (has_counted_puddles tables)
