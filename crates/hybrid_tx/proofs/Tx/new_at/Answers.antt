use Rattle.std.proofs.Common.{refl, sym, ◌∙◌, arith}
use Rattle.std.proofs.lemmas.Option.{slice_get_within, slice_get-get_or}
use Rattle.hybrid_tx.proofs.Objects.ObjectsMade.{words_taken, words_taken-length}
use Rattle.hybrid_tx.proofs.Objects.ObjectPut.{Changes-put, MakesIn-new, KeepsOpenOn-new}
use Rattle.hybrid_tx.proofs.Tx.new_at.Goals as goal

pub returns-clause-changes : goal.returns-clause-changes
returns-clause-changes g c = λ t.
    let some = slice_get_within c.args.pool.now c.args.at.now.ordinal (c.args.at.now.frame, c.requires.within.puddle) c.requires.within.there in
    let head = slice_get-get_or c.args.pool.now 0 (c.args.at.now.frame, c.requires.within.puddle) (omega (arith, some)) in
    let whole = words_taken-length c.args.at.now.class c.args.serial c.args.t _ _ c.class_slot_words-count.ensures c.new_object_words-words.ensures in
    Changes-put c.args.frames c.args.pool.now _ c.args.at.now c.requires.within _ _ _ _ _ _ whole head (c.put_object.ensures.changes t _ head)

pub returns-clause-runs : goal.returns-clause-runs
returns-clause-runs g c = λ t types m before graph_before now deferred placed is_open defined fits next room root rewritten free.
    let some = slice_get_within c.args.pool.now c.args.at.now.ordinal (c.args.at.now.frame, c.requires.within.puddle) c.requires.within.there in
    let head = slice_get-get_or c.args.pool.now 0 (c.args.at.now.frame, c.requires.within.puddle) (omega (arith, some)) in
    let are = words_taken c.args.at.now.class c.args.serial c.args.t _ _ c.class_slot_words-count.ensures c.new_object_words-words.ensures in
    KeepsOpenOn-new c.args.frames c.args.pool.now types c.args.self.now.log before graph_before now deferred (g.H.Host.state c.args.h.now) is_open
    _ _ c.args.at.now c.args.serial _ c.args.t _ _ _ c.put_object.ensures.at head c.requires.within next room are refl (c.put_object.ensures.saves t placed _ head root rewritten)
    _ m placed c.requires.device c.requires.place free defined fits

-- ---- which words are written

pub returns-clause-makes : goal.returns-clause-makes
returns-clause-makes g c = λ t types before graph_before now deferred placed is_open next room root rewritten.
    let some = slice_get_within c.args.pool.now c.args.at.now.ordinal (c.args.at.now.frame, c.requires.within.puddle) c.requires.within.there in
    let head = slice_get-get_or c.args.pool.now 0 (c.args.at.now.frame, c.requires.within.puddle) (omega (arith, some)) in
    let are = words_taken c.args.at.now.class c.args.serial c.args.t _ _ c.class_slot_words-count.ensures c.new_object_words-words.ensures in
    MakesIn-new c.args.frames c.args.pool.now types c.args.self.now.log before graph_before now deferred (g.H.Host.state c.args.h.now) is_open
    _ _ c.args.at.now c.args.serial _ c.args.t _ _ _ c.put_object.ensures.at head c.requires.within next room are refl (c.put_object.ensures.saves t placed _ head root rewritten)
    (c.put_object.ensures.changes t _ head)

-- ---- as many words are put as the slot has

pub slice_bounds-put_object-end : goal.slice_bounds-put_object-end
slice_bounds-put_object-end g c = c.class_slot_words-count.ensures ∙ sym (words_taken-length c.args.at.now.class c.args.serial c.args.t _ _ c.class_slot_words-count.ensures c.new_object_words-words.ensures)

pub put_object-requires-clause-whole : goal.put_object-requires-clause-whole
put_object-requires-clause-whole g c = words_taken-length c.args.at.now.class c.args.serial c.args.t _ _ c.class_slot_words-count.ensures c.new_object_words-words.ensures
