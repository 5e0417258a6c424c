use Rattle.std.proofs.Common.{◌*◌, ◌-◌, arith}
use borrow.Author.Tests.{ltb-false}
use Rattle.pud_defs.proofs.Logging.Entries.{words_from-length}
use Rattle.log_entry.specs.Reading.{entry_from}
use Rattle.word_transaction.proofs.Marked.{covers_none_after, covers_none_before}
use Rattle.word_transaction.proofs.covering.reaches.Goals as goal

pub returns-then-entry-address : goal.returns-then-entry-address
returns-then-entry-address c = λ none image fits i below.
    let e = c.args.entry.now in
    let count = words_from-length image e.at e.n in
    let apart = ltb-false (c.args.address - e.addr) (c.from.result * 8) none in
    covers_none_after c.args.address i (entry_from image e) (omega arith)

pub returns-else-entry-address : goal.returns-else-entry-address
returns-else-entry-address c = λ none image fits i below.
    let e = c.args.entry.now in
    let apart = ltb-false (e.addr - c.args.address) (c.from-else-entry-address.result * 8) none in
    covers_none_before c.args.address c.args.count i (entry_from image e) (omega arith) below
