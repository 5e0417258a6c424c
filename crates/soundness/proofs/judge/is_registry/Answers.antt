use Rattle.std.proofs.Common.{◌&&◌, ◌∙◌}
use Rattle.soundness.proofs.Judged.{registry_parts}
use Rattle.pm_model.proofs.Reading.{still_reads}
use Rattle.soundness.proofs.judge.is_registry.Goals as goal

pub returns-clause-sound : goal.returns-clause-sound
returns-clause-sound g c = λ t image same over legal size described.
    let following = still_reads c.has_sound_records.ensures.only_reads t same in
    let records = c.in_ok-records.ensures.sound t image same over in
    let suits = c.in_ok-suits.ensures.suits t image following over in
    let last = still_reads c.has_suitable_puddles.ensures.only_reads t following in
    let spaces = c.in_ok-spaces.ensures.legal t image last over in
    c.are_all.ensures ∙ (λ p. records p && suits p && spaces p) ∙ registry_parts size image c.args.frames legal described
