use Rattle.graph_laws.proofs.SameReads.Unread.{graph_of-free_word}
use Rattle.graph_laws.proofs.laws.other_words_of_a_free_slot_are_not_read.Goals as goal

pub returns : goal.returns
returns c = graph_of-free_word
