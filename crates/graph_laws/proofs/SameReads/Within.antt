-- If words are the same in each frame, they have the same graph, or they have none either.
use Rattle.std.proofs.Common.{◌≡◌, ℕ, ◌+◌, ◌<◌, List, length, arith}
use Rattle.pud_defs.specs.declared.layout.TheConstants.{FRAME_WORDS}
use Rattle.pud_defs.specs.Formats.Geometry.{ordinal_of}
use Rattle.pud_defs.specs.PoolGraphs.Stored.{Stored, class_at, place_begins}
use Rattle.pud_defs.specs.PoolGraphs.Graph.{graph_of}
use Rattle.graph_laws.specs.Changes.{with_words}
use Rattle.pud_defs.proofs.Formats.Geometry.{some_words}
use Rattle.graph_laws.proofs.SameReads.Words.{serial-same, word_within, live_in_slot, room_of_map}
use Rattle.graph_laws.proofs.SameReads.Unread.{graph_of-read}

pub graph_of-within : (types : List (ℕ × ℕ)) (st : Stored) (word : ℕ → ℕ → ℕ) → 0 < length st.puddles → ((o k : ℕ) → o < length st.puddles → k < FRAME_WORDS → word o k ≡ st.word o k) → graph_of types (with_words word st) ≡ graph_of types st
graph_of-within types st word some same = graph_of-read types st word (record {
  headers = λ o k within few. same o k within (omega arith);
  next = same 0 3 some (omega arith);
  root = same 0 4 some (omega arith);
  slots = record {
    serials = λ p below. serial-same st word p (λ slot. let some = some_words (class_at st p) in same (ordinal_of p) (place_begins st p + 0) (omega arith) (word_within st p 0 slot (omega arith)));
    type_ids = λ p below used. let some = some_words (class_at st p) in same (ordinal_of p) (place_begins st p + 1) (omega arith) (word_within st p 1 (live_in_slot st p used) (omega arith));
    fields = λ p m f below used is few. let room = room_of_map types st p m is in same (ordinal_of p) (place_begins st p + (2 + f)) (omega arith) (word_within st p (2 + f) (live_in_slot st p used) (omega arith));
  };
})
