use Rattle.std.proofs.Common.{arith}
use Rattle.std.proofs.lemmas.Option.{slice_get_within}
use Rattle.pud_defs.proofs.Formats.Geometry.{few_slots, slot_end}
use Rattle.lazy_rewrite.proofs.Gathered.{frame_below, slot_below}
use Rattle.lazy_rewrite.proofs.batches.add_field.Goals as goal

pub overflow_add-w : goal.overflow_add-w
overflow_add-w c =
    let end = slot_end c.args.at.now.class c.args.at.now.slot (slot_below c.args.pool.now c.args.at.now c.requires.within) in
    let below = frame_below c.args.frames c.args.pool.now c.args.at.now.ordinal (c.args.at.now.frame, c.requires.within.puddle) c.requires.known c.requires.within.there in
    omega arith

pub overflow_add-w-then-map_is_pointer : goal.overflow_add-w-then-map_is_pointer
overflow_add-w-then-map_is_pointer c =
    let end = slot_end c.args.at.now.class c.args.at.now.slot (slot_below c.args.pool.now c.args.at.now c.requires.within) in
    let below = frame_below c.args.frames c.args.pool.now c.args.at.now.ordinal (c.args.at.now.frame, c.requires.within.puddle) c.requires.known c.requires.within.there in
    omega arith

pub overflow_add-w-then-map_is_pointer-2 : goal.overflow_add-w-then-map_is_pointer-2
overflow_add-w-then-map_is_pointer-2 c =
    let end = slot_end c.args.at.now.class c.args.at.now.slot (slot_below c.args.pool.now c.args.at.now c.requires.within) in
    let below = frame_below c.args.frames c.args.pool.now c.args.at.now.ordinal (c.args.at.now.frame, c.requires.within.puddle) c.requires.known c.requires.within.there in
    omega arith

pub overflow_add-at : goal.overflow_add-at
overflow_add-at c =
    let below = slot_below c.args.pool.now c.args.at.now c.requires.within in
    let few = few_slots c.args.at.now.class in
    omega arith

pub over_bases-requires-clause-known : goal.over_bases-requires-clause-known
over_bases-requires-clause-known c = slice_get_within c.args.pool.now c.args.at.now.ordinal (c.args.at.now.frame, c.requires.within.puddle) c.requires.within.there
