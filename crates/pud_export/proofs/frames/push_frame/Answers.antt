use Rattle.std.proofs.Common.{◌≡◌, OnOk, subst}
use Rattle.pud_defs.specs.PoolGraphs.Stored.{stored_in}
use Rattle.pud_export.proofs.FramesRead.{frame_whole}
use Rattle.pm_model.proofs.Reading.{still_reads}
use Rattle.pud_export.proofs.frames.push_frame.Goals as goal

pub returns-clause-words : goal.returns-clause-words
returns-clause-words g c = λ t low image same.
    let st = stored_in c.args.frames c.args.pool.now image in
    let after = still_reads c.read_header.ensures.only_reads t same in
    subst (λ words. OnOk c.push_slots.result (c.push_slots.new.words ≡ words))
    (frame_whole c.args.types.now st c.args.ordinal c.args.words.now c.in_ok-header.header c.push_all.new.self (c.in_ok-header.ensures.words t low image same) c.in_ok-push_all.ensures)
    (c.push_slots.ensures.words t low image after)
