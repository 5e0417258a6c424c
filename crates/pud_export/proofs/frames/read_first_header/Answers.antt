use Rattle.std.proofs.Common.{◌∙◌, arith}
use Rattle.pud_defs.specs.declared.space.TheConstants.{NEXT_SERIAL_WORD, ROOT_WORD}
use Rattle.pud_defs.specs.PoolGraphs.Stored.{stored_in}
use Rattle.pud_export.proofs.FramesRead.{header_word, header-first, root_read}
use Rattle.pm_model.proofs.Reading.{still_reads}
use Rattle.pud_export.proofs.frames.read_first_header.Goals as goal

pub returns-clause-words : goal.returns-clause-words
returns-clause-words g c = λ t low image same.
    let F = c.args.frames in
    let pool = c.args.pool.now in
    let second = still_reads c.next_serial.ensures.only_reads t same in
    let next = header_word F pool image 0 _ c.requires.some NEXT_SERIAL_WORD c.in_ok-next.next (omega arith) (c.in_ok-next.ensures.word t image same) in
    let word = header_word F pool image 0 _ c.requires.some ROOT_WORD c.in_ok-root.root (omega arith) (c.in_ok-root.ensures.word t image second) in
    let root = c.address_of-root.ensures low ∙ root_read (stored_in F pool image) c.in_ok-root.root c.read_pointer.result word c.read_pointer.ensures.pointee in
    c.header_of.ensures ∙ header-first F pool image _ c.in_ok-next.next c.address_of-root.result c.requires.some next root
