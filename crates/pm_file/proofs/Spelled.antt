-- Lemmas on rows whose words bytes spell.
use Rattle.std.proofs.Common.{◌≡◌, ℕ, ◌+◌, ◌-◌, ◌*◌, ◌<◌, ◌≤◌, ◌++◌, List, [], Option, length, get_or, take, drop, slice_range, lit<, refl, sym, ◌∙◌, arith, inl, inr}
use Rattle.std.proofs.lemmas.Bool.{cases_eq, cases_lt}
use Rattle.std.proofs.lemmas.Bool.Decides.{nat_tests}
use Rattle.std.proofs.lemmas.List.{get_or_past, get_or-take, get_or-drop, get_or_append_left, get_or-append-add, length-append, length-take-le}
use Rattle.std.specs.Io.KnownBytes.{Consumes}
use Rattle.pm_file.specs.Reach.{TakesWord}
use Rattle.pm_file.specs.Spelling.{word_of, Fills, GoesOn, ReadsWords}
use Rattle.pm_file.proofs.Told.{Consumes-none, Consumes-more}

-- No word was added yet.
pub GoesOn-none : (first : ℕ) (piece old : List ℕ) → GoesOn first 0 piece old old
GoesOn-none first piece old = record {
  before = λ word lt. refl;
  spelled = λ place lt. absurd (omega (arith, lt));
}

-- One more word is put after the row's end.
pub GoesOn-put : (first i word : ℕ) (piece old mid new : List ℕ) → word ≡ word_of piece i → TakesWord (first + i) word mid new → GoesOn first i piece old mid → GoesOn first (i + 1) piece old new
GoesOn-put first i word piece old mid new is takes on = record {
  before = λ w lt. grind (arith, nat_tests, takes.each w, on.before w lt);
  spelled = λ place lt.
      elim (cases_eq place i) [
        | inl e ↦ rw e (grind (arith, nat_tests, takes.each (first + i), is))
        | inr ne ↦ let less : place < i = omega arith in grind (arith, nat_tests, ne, takes.each (first + place), on.spelled place less)
      ];
}

-- One more word is zero and lies beyond the row's end.
pub GoesOn-zero : (first i : ℕ) (piece old mid : List ℕ) → word_of piece i ≡ 0 → length mid ≤ first + i → GoesOn first i piece old mid → GoesOn first (i + 1) piece old mid
GoesOn-zero first i piece old mid is le on = record {
  before = on.before;
  spelled = λ place lt.
      elim (cases_eq place i) [
        | inl e ↦ rw e (get_or_past mid (first + i) 0 le ∙ sym is)
        | inr ne ↦ on.spelled place (omega arith)
      ];
}

-- A byte of a word is a byte of all the bytes.
byte_of : (bytes : List ℕ) (word i : ℕ) → i < 8 → get_or (slice_range bytes (8 * word) (8 * word + 8)) i 0 ≡ get_or bytes (8 * word + i) 0
byte_of bytes word i lt =
    get_or-take (8 * word + 8 - 8 * word) (drop (8 * word) bytes) i 0 (omega (arith, lt)) ∙ get_or-drop (8 * word) bytes i 0

-- The same bytes spell the same word.
pub word_of-same : (bytes other : List ℕ) (v w : ℕ) → ((i : ℕ) → i < 8 → get_or bytes (8 * v + i) 0 ≡ get_or other (8 * w + i) 0) → word_of bytes v ≡ word_of other w
unfolding word_of
word_of-same bytes other v w same =
    let each : (i : ℕ) → i < 8 → get_or (slice_range bytes (8 * v) (8 * v + 8)) i 0 ≡ get_or (slice_range other (8 * w) (8 * w + 8)) i 0
    = λ i lt. byte_of bytes v i lt ∙ same i lt ∙ sym (byte_of other w i lt) in
    let e0 = each 0 (lit< tt) in
    let e1 = each 1 (lit< tt) in
    let e2 = each 2 (lit< tt) in
    let e3 = each 3 (lit< tt) in
    let e4 = each 4 (lit< tt) in
    let e5 = each 5 (lit< tt) in
    let e6 = each 6 (lit< tt) in
    let e7 = each 7 (lit< tt) in
    cc

-- Eight zero bytes spell zero.
pub word_of-zeroes : (bytes : List ℕ) (w : ℕ) → ((i : ℕ) → i < 8 → get_or bytes (8 * w + i) 0 ≡ 0) → word_of bytes w ≡ 0
unfolding word_of
word_of-zeroes bytes w zeroes =
    let each : (i : ℕ) → i < 8 → get_or (slice_range bytes (8 * w) (8 * w + 8)) i 0 ≡ 0
    = λ i lt. byte_of bytes w i lt ∙ zeroes i lt in
    let e0 = each 0 (lit< tt) in
    let e1 = each 1 (lit< tt) in
    let e2 = each 2 (lit< tt) in
    let e3 = each 3 (lit< tt) in
    let e4 = each 4 (lit< tt) in
    let e5 = each 5 (lit< tt) in
    let e6 = each 6 (lit< tt) in
    let e7 = each 7 (lit< tt) in
    omega arith

-- After the last byte each word is zero.
word_of-past : (bytes : List ℕ) (w : ℕ) → length bytes ≤ 8 * w → word_of bytes w ≡ 0
word_of-past bytes w past = word_of-zeroes bytes w (λ i lt. get_or_past bytes (8 * w + i) 0 (omega (arith, past)))

-- So many words were read from a reader that has not ended, with eight bytes each.
pub record HasRead (first : ℕ) (old new : Option (List ℕ)) (row : List ℕ) : Type 0 where
  pub bytes : List ℕ
  pub taken : Consumes old new bytes
  pub whole : length bytes ≡ 8 * first
  pub spelled : (word : ℕ) → word < first → get_or row word 0 ≡ word_of bytes word

pub HasRead-none : (known : Option (List ℕ)) (row : List ℕ) → HasRead 0 known known row
HasRead-none known row = record {
  bytes = [];
  taken = Consumes-none known;
  whole = refl;
  spelled = λ word lt. absurd (omega (arith, lt));
}

-- A piece has the bytes that were taken, and zeroes after them.
byte_taken : (old new : Option (List ℕ)) (filled : ℕ) (piece : List ℕ) → Fills old new filled piece → (at : ℕ) → get_or (take filled piece) at 0 ≡ get_or piece at 0
byte_taken old new filled piece fills at =
    elim (cases_lt at filled) [
      | inl lt ↦ get_or-take filled piece at 0 lt
      | inr past ↦ get_or_past (take filled piece) at 0 (omega (arith, length-take-le filled piece fills.within, past)) ∙ sym (fills.zeroes at past)
    ]

-- The row has the words before a piece, those that the piece spells, and the zeroes after it if the bytes end in it.
spelled_by : (first count filled : ℕ) (old mid new : Option (List ℕ)) (piece row next : List ℕ) (read : HasRead first old mid row) → Fills mid new filled piece → GoesOn first count piece row next
    → (word : ℕ) → word < first + count → get_or next word 0 ≡ word_of (read.bytes ++ take filled piece) word
spelled_by first count filled old mid new piece row next read fills on word lt =
    let more = take filled piece in
    elim (cases_lt word first) [
      | inl before ↦
          on.before word before
          ∙ read.spelled word before
          ∙ word_of-same read.bytes (read.bytes ++ more) word word
          (λ i less. sym (get_or_append_left read.bytes more 0 (8 * word + i) (omega (arith, read.whole, before, less))))
      | inr following ↦
          let place = word - first in
          let at : first + place ≡ word = omega (arith, following) in
          rw (← at)
          (on.spelled place (omega (arith, following, lt))
          ∙ word_of-same piece (read.bytes ++ more) place (first + place)
          (λ i less.
          let from : 8 * (first + place) + i ≡ length read.bytes + (8 * place + i) = omega (arith, read.whole) in
          sym (rw from (get_or-append-add read.bytes more (8 * place + i) 0 ∙ byte_taken mid new filled piece fills (8 * place + i)))))
    ]

-- One more piece was read, and it is whole.
pub HasRead-more : (first count filled : ℕ) (old mid new : Option (List ℕ)) (piece row next : List ℕ) → HasRead first old mid row → Fills mid new filled piece → length piece ≡ 8 * count → 8 * count ≤ filled
    → GoesOn first count piece row next → HasRead (first + count) old new next
HasRead-more first count filled old mid new piece row next read fills is full on = record {
  bytes = read.bytes ++ take filled piece;
  taken = Consumes-more old mid new read.bytes (take filled piece) read.taken fills.taken;
  whole = omega (arith, length-append read.bytes (take filled piece), length-take-le filled piece fills.within, fills.within, read.whole, is, full);
  spelled = spelled_by first count filled old mid new piece row next read fills on;
}

-- One more piece was read, and the bytes end in it.
pub ReadsWords-ended : (first count filled total : ℕ) (old mid new : Option (List ℕ)) (piece row next : List ℕ) → HasRead first old mid row → Fills mid new filled piece → length piece ≡ 8 * count → filled < 8 * count
    → GoesOn first count piece row next → length next ≤ first + count → ReadsWords total old new next
ReadsWords-ended first count filled total old mid new piece row next read fills is short on within =
    let bytes = read.bytes ++ take filled piece in
    record {
      bytes = bytes;
      taken = Consumes-more old mid new read.bytes (take filled piece) read.taken fills.taken;
      ended = λ _. fills.ended (omega (arith, is, short));
      spelled = λ word lt.
          elim (cases_lt word (first + count)) [
            | inl before ↦ spelled_by first count filled old mid new piece row next read fills on word before
            | inr following ↦
                let length_of = length-append read.bytes (take filled piece) in
                get_or_past next word 0 (omega (arith, within, following))
                ∙ sym (word_of-past bytes word (omega (arith, length_of, length-take-le filled piece fills.within, read.whole, short, following)))
          ];
    }

-- All of the words were read.
pub ReadsWords-all : (first total : ℕ) (old new : Option (List ℕ)) (row : List ℕ) → total ≤ first → first ≤ total → HasRead first old new row → ReadsWords total old new row
ReadsWords-all first total old new row le ge read = record {
  bytes = read.bytes;
  taken = read.taken;
  ended = λ lt. absurd (omega (arith, read.whole, le, lt));
  spelled = λ word lt. read.spelled word (omega (arith, le, ge, lt));
}
