use Rattle.std.proofs.Common.{◌≡◌, ap, ◌∙◌}
use Rattle.pud_defs.specs.declared.layout.TheConstants.{MACHINE_WORD}
use Rattle.pud_defs.specs.PoolGraphs.Exported.{exported_words}
use Rattle.pud_defs.specs.PoolGraphs.Stored.{stored_in}
use Rattle.pud_export.proofs.FrontRead.{file_whole}
use Rattle.pm_model.proofs.Reading.{still_reads}
use Rattle.pud_export.proofs.export.export_with.Goals as goal

pub returns-clause-words : goal.returns-clause-words
returns-clause-words g c = λ t low image same.
    let F = c.args.frames in
    let pool = c.args.pool.now in
    let read = still_reads c.load.ensures.only_reads t same in
    let machine : c.in_ok-machine.machine ≡ image MACHINE_WORD = c.in_ok-machine.ensures.value t ∙ ap (λ words. words MACHINE_WORD) same in
    c.into_bytes.ensures.words
    ∙ file_whole F pool image c.in_ok-machine.machine c.args.number c.args.types.now c.args.used.now c.in_ok-words.words _ c.in_ok-words.ensures (c.in_ok-push_frames.ensures.words t low image read)
    ∙ ap (λ id. exported_words id c.args.number c.args.types.now c.args.used.now (stored_in F pool image)) machine
