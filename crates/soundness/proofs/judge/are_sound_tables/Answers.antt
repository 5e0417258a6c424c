use Rattle.std.proofs.Common.{◌≡◌, Bool, true, false, ◌&&◌, sym, ◌∙◌}
use Rattle.std.proofs.lemmas.Result.{IfOk-weaker}
use Rattle.pud_defs.specs.declared.layout.TheConstants.{DAEMON_LOG}
use Rattle.pud_defs.specs.Logging.Replay.{settled_by}
use Rattle.pud_defs.specs.RegistryTables.Tables.{tables_of}
use Rattle.pud_defs.specs.RegistryTables.SoundTables.{are_sound_tables}
use Rattle.soundness.specs.Distinct.{are_distinct_puddles}
use Rattle.soundness.proofs.Judged.{sound_tables, puddles_of_all}
use Rattle.pm_model.proofs.Reading.{still_reads}
use Rattle.soundness.proofs.judge.are_sound_tables.Goals as goal

pub returns-then-not-are_all-clause-sound : goal.returns-then-not-are_all-clause-sound
returns-then-not-are_all-clause-sound g c = λ t image same over.
    let tables = tables_of c.args.frames (settled_by DAEMON_LOG image) in
    let following = still_reads c.has_legal_pools.ensures.only_reads t same in
    let then = still_reads c.has_distinct_names.ensures.only_reads t following in
    let first = c.are_all.ensures ∙ (λ i. c.in_ok-pools.ensures.legal t image same over c.args.frames i && c.in_ok-names.ensures.distinct t image following over c.args.frames i && c.in_ok-puddles.ensures.legal t image then over i) in
    sym (sound_tables c.args.next tables false (sym c.if-not-are_all.true ∙ first))

pub returns-clause-sound : goal.returns-clause-sound
returns-clause-sound g c = λ t image same over.
    let tables = tables_of c.args.frames (settled_by DAEMON_LOG image) in
    let following = still_reads c.has_legal_pools.ensures.only_reads t same in
    let then = still_reads c.has_distinct_names.ensures.only_reads t following in
    let last = still_reads c.has_legal_puddles.ensures.only_reads t then in
    let puddles = c.in_ok-puddles.ensures.legal t image then over in
    let first = c.are_all.ensures ∙ (λ i. c.in_ok-pools.ensures.legal t image same over c.args.frames i && c.in_ok-names.ensures.distinct t image following over c.args.frames i && puddles i) in
    let legal = puddles_of_all c.in_ok-pools.pools c.in_ok-names.names c.in_ok-puddles.puddles (sym c.are_all.ensures ∙ c.if-not-are_all.false) in
    IfOk-weaker c.are_distinct_puddles.result (λ (a : Bool). a ≡ are_distinct_puddles tables) (λ (a : Bool). a ≡ are_sound_tables c.args.next tables)
    (λ a is. is ∙ sym (sound_tables c.args.next tables true (sym c.if-not-are_all.false ∙ first)))
    (c.are_distinct_puddles.ensures.distinct t image last over c.args.next (sym puddles ∙ legal))
