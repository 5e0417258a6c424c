use Rattle.std.proofs.Common.{get_or, arith}
use Rattle.pud_defs.proofs.Formats.Geometry.{some_words, slot_end}
use Rattle.graph_read.proofs.Pointed.{no_puddle}
use Rattle.graph_read.proofs.Slots.{slot_of_entry}
use Rattle.graph_read.proofs.SlotAddresses.{address_at}
use Rattle.graph_read.proofs.addresses.place_address.Goals as goal

pub word_address-requires : goal.word_address-requires
word_address-requires c =
    let class = (get_or c.args.pool.now c.args.ordinal no_puddle).1.class in
    let below = slot_of_entry c.args.pool.now c.args.ordinal c.args.slot no_puddle c.requires.puddle c.requires.within in
    let end = slot_end class c.args.slot below in
    let some = some_words class in
    omega (arith, end, some, c.slot_at.ensures)

pub returns : goal.returns
returns c = λ low. address_at c.args.pool.now c.args.ordinal c.args.slot c.slot_at.result c.word_address.result no_puddle low c.requires.puddle c.requires.within c.slot_at.ensures c.word_address.ensures
