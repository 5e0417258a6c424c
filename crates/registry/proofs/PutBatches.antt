-- A batch of changes: the image that it makes, the words that it does not change, and where the daemon log may write
-- it.
use Rattle.std.proofs.Common.{◌≡◌, ◌⊎◌, inl, inr, ℕ, ◌+◌, ◌-◌, ◌<◌, ◌≤◌, true, List, [], ◌∷◌, length, take, Option, Some, None, refl, sym, ap, ap₂, ◌∙◌, arith, length-take-le, eq-eqb}
use Rattle.std.specs.Prelude.{All, unwrap_or}
use Rattle.std.specs.List.{list_all}
use Rattle.std.specs.Option.{option_or}
use Rattle.std.proofs.lemmas.Bool.{cases_lt, and_from, or_left}
use Rattle.std.proofs.lemmas.Option.{slice_get-get_or}
use Rattle.std.proofs.lemmas.List.{get_or-take}
use Rattle.std.proofs.lemmas.List.Elements.{All-nil, All-cons}
use Rattle.pud_defs.specs.declared.layout.TheConstants.{NEXT_NUMBER_WORD, DAEMON_LOG, TYPE_TABLE, POOL_TABLE}
use Rattle.pud_defs.specs.declared.records.Put.{Put}
use Rattle.pud_defs.specs.Formats.Image.{Image}
use Rattle.pud_defs.specs.Formats.Layout.{IsWithin, tables_end}
use Rattle.pud_defs.specs.Logging.Entries.{Entry}
use Rattle.pud_defs.specs.Logging.Replay.{value_at, overwritten}
use Rattle.pud_defs.specs.RegistryTables.Puts.{with_put}
use Rattle.pud_defs.specs.RegistryTables.Registry.{may_be_logged, is_loggable}
use Rattle.pud_defs.proofs.Logging.Replay.{overwritten-then, value_at-there, value_at-apart}
use Rattle.pud_defs.proofs.RegistryTables.PutsMade.{with_put-outside, with_put-inside}
use Rattle.pud_defs.proofs.Logging.Logged.{may_be_logged-table, is_loggable-there}
use Rattle.pm_model.specs.Words.{Words}
use Rattle.pud_defs.specs.Logging.Replay.{device_word}
use Rattle.batch.specs.Batches.{batch_write, committed, IsBatchEntry, AreBatched, HasIdleGate, IsFree, ByBatch}
use Rattle.log_replay.specs.Replaying.{NamesApart}
use Rattle.registry.specs.Puts.{put_entry, puts_batch, with_puts, IsOfPools, AreOfPools, IsOfTables, AreOfTables, IsPoolsWord, ByPools}

-- ---- the image

-- an entry overwrites the words of its change
overwritten-put : (put : Put) (image : Image) (k : ℕ) → put.n ≤ length put.vals → overwritten (value_at put.w (take put.n put.vals)) image k ≡ with_put put image k
overwritten-put put image k fits =
    let count : length (take put.n put.vals) ≡ put.n = length-take-le put.n put.vals fits in
    elim (cases_lt k put.w) [
      | inl before ↦ ap (λ o. unwrap_or o (image k)) (value_at-apart put.w k (take put.n put.vals) (inl before)) ∙ sym (with_put-outside put image k (λ from to. omega arith))
      | inr from ↦ elim (cases_lt k (put.w + put.n)) [
        | inl within ↦
            let there : (k - put.w) < put.n = omega arith in
            let place : k ≡ put.w + (k - put.w) = omega arith in
            ap (λ o. unwrap_or o (image k)) (value_at-there put.w (k - put.w) k (take put.n put.vals) place ∙ slice_get-get_or (take put.n put.vals) (k - put.w) 0 (omega (arith, count)))
            ∙ get_or-take put.n put.vals (k - put.w) 0 there
            ∙ sym (with_put-inside put image k (k - put.w) place there)
        | inr following ↦
            ap (λ o. unwrap_or o (image k)) (value_at-apart put.w k (take put.n put.vals) (inr (omega (arith, count)))) ∙ sym (with_put-outside put image k (λ low to. omega arith))
      ]
    ]

pub lies_fit : (F : ℕ) (put : Put) → IsOfPools F put → put.n ≤ length put.vals
lies_fit F put (inl of) = of.fits
lies_fit F put (inr (inl of)) = of.fits
lies_fit F put (inr (inr of)) = of.fits

table_fits : (F : ℕ) (put : Put) → IsOfTables F put → put.n ≤ length put.vals
table_fits F put (inl of) = lies_fit F put of
table_fits F put (inr of) = of.fits

-- changes of pools are changes of tables
pub of_tables : (F : ℕ) (puts : List Put) → AreOfPools F puts → AreOfTables F puts
of_tables F [] of = tt
of_tables F (put ∷ puts) of = (inl of.0, of_tables F puts of.1)

-- a batch of changes overwrites their words
pub overwritten-table_puts : (F : ℕ) (puts : List Put) (image : Image) → AreOfTables F puts → overwritten (batch_write (puts_batch puts)) image ≡ with_puts puts image
unfolding batch_write with_puts
overwritten-table_puts F [] image of = refl
overwritten-table_puts F (put ∷ puts) image of =
    let first : overwritten (value_at put.w (take put.n put.vals)) image ≡ with_put put image = λ p k. overwritten-put put image k (table_fits F put of.0) p in
    sym (overwritten-then (value_at put.w (take put.n put.vals)) (batch_write (puts_batch puts)) image)
    ∙ ap (overwritten (batch_write (puts_batch puts))) first
    ∙ overwritten-table_puts F puts (with_put put image) of.1

pub overwritten-puts : (F : ℕ) (puts : List Put) (image : Image) → AreOfPools F puts → overwritten (batch_write (puts_batch puts)) image ≡ with_puts puts image
overwritten-puts F puts image of = overwritten-table_puts F puts image (of_tables F puts of)

-- ---- the words that do not change

put_within : (F : ℕ) (put : Put) (k : ℕ) → IsOfPools F put → put.w ≤ k → k < put.w + put.n → IsPoolsWord F k
put_within F put k (inl of) from to = let low = of.low in let high = of.high in inl (record { low = omega arith; high = omega arith })
put_within F put k (inr (inl of)) from to = let low = of.low in let high = of.high in inr (inl (record { low = omega arith; high = omega arith }))
put_within F put k (inr (inr of)) from to = let low = of.low in let high = of.high in inr (inr (record { low = omega arith; high = omega arith }))

-- changes of pools do not change any other word
pub with_puts-stays : (F : ℕ) (puts : List Put) (image : Image) (k : ℕ) → AreOfPools F puts → (IsPoolsWord F k → ⊥) → with_puts puts image k ≡ image k
unfolding with_puts
with_puts-stays F [] image k of other = refl
with_puts-stays F (put ∷ puts) image k of other =
    with_puts-stays F puts (with_put put image) k of.1 other ∙ with_put-outside put image k (λ from to. other (put_within F put k of.0 from to))

unnamed : (F : ℕ) (put : Put) (k : ℕ) → IsOfPools F put → (IsPoolsWord F k → ⊥) → value_at put.w (take put.n put.vals) k ≡ None
unnamed F put k of other =
    let count : length (take put.n put.vals) ≡ put.n = length-take-le put.n put.vals (lies_fit F put of) in
    elim (cases_lt k put.w) [
      | inl before ↦ value_at-apart put.w k (take put.n put.vals) (inl before)
      | inr from ↦ elim (cases_lt k (put.w + put.n)) [
        | inl within ↦ absurd (other (put_within F put k of from within))
        | inr following ↦ value_at-apart put.w k (take put.n put.vals) (inr (omega (arith, count)))
      ]
    ]

-- nor does their batch write any other word
pub puts_write-none : (F : ℕ) (puts : List Put) (k : ℕ) → AreOfPools F puts → (IsPoolsWord F k → ⊥) → batch_write (puts_batch puts) k ≡ None
unfolding batch_write
puts_write-none F [] k of other = refl
puts_write-none F (put ∷ puts) k of other = ap₂ option_or (puts_write-none F puts k of.1 other) (unnamed F put k of.0 other)

-- a word that a change writes is one of its words
named_word : (put : Put) (k v : ℕ) → put.n ≤ length put.vals → value_at put.w (take put.n put.vals) k ≡ Some v → (put.w ≤ k) × (k < put.w + put.n)
named_word put k v fits is =
    let count : length (take put.n put.vals) ≡ put.n = length-take-le put.n put.vals fits in
    elim (cases_lt k put.w) [
      | inl before ↦ absurd (let no : None ≡ Some v = sym (value_at-apart put.w k (take put.n put.vals) (inl before)) ∙ is in cc)
      | inr from ↦ elim (cases_lt k (put.w + put.n)) [
        | inl within ↦ (from, within)
        | inr following ↦ absurd (let no : None ≡ Some v = sym (value_at-apart put.w k (take put.n put.vals) (inr (omega (arith, count)))) ∙ is in cc)
      ]
    ]

table_within : (F : ℕ) (put : Put) (k : ℕ) → IsOfTables F put → put.w ≤ k → k < put.w + put.n → IsPoolsWord F k ⊎ IsWithin TYPE_TABLE POOL_TABLE k
table_within F put k (inl of) from to = inl (put_within F put k of from to)
table_within F put k (inr of) from to = let low = of.low in let high = of.high in inr (record { low = omega arith; high = omega arith })

pub either_some : (first later : Option ℕ) (v : ℕ) → option_or later first ≡ Some v → (later ≡ Some v) ⊎ (first ≡ Some v)
either_some first None v is = inr is
either_some first (Some x) v is = inl is

-- a batch of changes of tables writes only words of pools and of the type table
table_write-of : (F : ℕ) (puts : List Put) (k v : ℕ) → AreOfTables F puts → batch_write (puts_batch puts) k ≡ Some v → IsPoolsWord F k ⊎ IsWithin TYPE_TABLE POOL_TABLE k
unfolding batch_write
table_write-of F [] k v of is = absurd (let no : None ≡ Some v = is in cc)
table_write-of F (put ∷ puts) k v of is = elim (either_some (value_at put.w (take put.n put.vals) k) (batch_write (puts_batch puts) k) v is) [
  | inl later ↦ table_write-of F puts k v of.1 later
  | inr first ↦ let at = named_word put k v (table_fits F put of.0) first in table_within F put k of.0 at.0 at.1
]

-- a batch of changes of pools writes only words of pools
pub puts_write-of : (F : ℕ) (puts : List Put) (k v : ℕ) → AreOfPools F puts → batch_write (puts_batch puts) k ≡ Some v → IsPoolsWord F k
unfolding batch_write
puts_write-of F [] k v of is = absurd (let no : None ≡ Some v = is in cc)
puts_write-of F (put ∷ puts) k v of is = elim (either_some (value_at put.w (take put.n put.vals) k) (batch_write (puts_batch puts) k) v is) [
  | inl later ↦ puts_write-of F puts k v of.1 later
  | inr first ↦ let at = named_word put k v (lies_fit F put of.0) first in put_within F put k of.0 at.0 at.1
]

pub ByPools-batch : (F : ℕ) (puts : List Put) (k v : ℕ) → AreOfTables F puts → ByBatch DAEMON_LOG (puts_batch puts) k v → ByPools F k v
ByPools-batch F puts k v of (inl log) = inl log
ByPools-batch F puts k v of (inr named) = elim (table_write-of F puts k named.value of named.is) [ inl pools ↦ inr (inl pools) | inr types ↦ inr (inr (inr types)) ]

-- ---- where the daemon log may write

may_be_put : (F : ℕ) (put : Put) → IsOfPools F put → may_be_logged F put.w (length (take put.n put.vals)) ≡ true
may_be_put F put (inl of) =
    let low = of.low in let high = of.high in let some = of.some in
    let count : length (take put.n put.vals) ≡ 1 = omega (arith, length-take-le put.n put.vals of.fits) in
    or_left _ _ (or_left _ _ (and_from _ _ (eq-eqb put.w NEXT_NUMBER_WORD (omega arith)) (eq-eqb (length (take put.n put.vals)) 1 count)))
may_be_put F put (inr (inl of)) =
    let low = of.low in let high = of.high in
    may_be_logged-table F put.w (length (take put.n put.vals)) (omega arith) (omega (arith, length-take-le put.n put.vals of.fits))
may_be_put F put (inr (inr of)) =
    let low = of.low in let high = of.high in
    may_be_logged-table F put.w (length (take put.n put.vals)) (omega arith) (omega (arith, length-take-le put.n put.vals of.fits))

may_be_table_put : (F : ℕ) (put : Put) → IsOfTables F put → may_be_logged F put.w (length (take put.n put.vals)) ≡ true
may_be_table_put F put (inl of) = may_be_put F put of
may_be_table_put F put (inr of) =
    let low = of.low in let high = of.high in
    may_be_logged-table F put.w (length (take put.n put.vals)) (omega arith) (omega (arith, length-take-le put.n put.vals of.fits))

pub puts_allowed : (F : ℕ) (all : List Entry) (puts : List Put) → AreOfTables F puts → list_all (is_loggable F (committed all)) (puts_batch puts) ≡ true
puts_allowed F all [] of = refl
puts_allowed F all (put ∷ puts) of = and_from _ _ (is_loggable-there F (committed all) (put_entry put) (may_be_table_put F put of.0)) (puts_allowed F all puts of.1)

pub puts_batched : (puts : List Put) → AreBatched (puts_batch puts)
puts_batched [] = All-nil IsBatchEntry
puts_batched (put ∷ puts) = All-cons IsBatchEntry (put_entry put) (puts_batch puts) (record { seq = refl; order = refl }) (puts_batched puts)

-- ---- a batch that is free to be written

put_apart : (F size : ℕ) (put : Put) → tables_end F ≤ size → IsOfPools F put → NamesApart device_word size DAEMON_LOG (put_entry put)
put_apart F size put room (inl of) =
    let high = of.high in
    let count = length-take-le put.n put.vals of.fits in
    record { first = put.w; placed = refl; within = omega (arith, count); apart = inl (omega (arith, count)) }
put_apart F size put room (inr (inl of)) =
    let low = of.low in let high = of.high in
    let count = length-take-le put.n put.vals of.fits in
    record { first = put.w; placed = refl; within = omega (arith, count); apart = inr (omega arith) }
put_apart F size put room (inr (inr of)) =
    let low = of.low in let high = of.high in
    let count = length-take-le put.n put.vals of.fits in
    record { first = put.w; placed = refl; within = omega (arith, count); apart = inr (omega arith) }

table_put_apart : (F size : ℕ) (put : Put) → tables_end F ≤ size → IsOfTables F put → NamesApart device_word size DAEMON_LOG (put_entry put)
table_put_apart F size put room (inl of) = put_apart F size put room of
table_put_apart F size put room (inr of) =
    let low = of.low in let high = of.high in
    let count = length-take-le put.n put.vals of.fits in
    record { first = put.w; placed = refl; within = omega (arith, count); apart = inr (omega arith) }

puts_apart : (F size : ℕ) (puts : List Put) → tables_end F ≤ size → AreOfTables F puts → All (NamesApart device_word size DAEMON_LOG) (puts_batch puts)
puts_apart F size [] room of = All-nil (NamesApart device_word size DAEMON_LOG)
puts_apart F size (put ∷ puts) room of =
    All-cons (NamesApart device_word size DAEMON_LOG) (put_entry put) (puts_batch puts) (table_put_apart F size put room of.0) (puts_apart F size puts room of.1)

pub IsFree-table_puts : (F size : ℕ) (puts : List Put) (words : Words) → tables_end F ≤ size → AreOfTables F puts → HasIdleGate DAEMON_LOG words → IsFree size DAEMON_LOG (puts_batch puts) words
IsFree-table_puts F size puts words room of idle = record { idle = idle.each; apart = puts_apart F size puts room of }

pub IsFree-puts : (F size : ℕ) (puts : List Put) (words : Words) → tables_end F ≤ size → AreOfPools F puts → HasIdleGate DAEMON_LOG words → IsFree size DAEMON_LOG (puts_batch puts) words
IsFree-puts F size puts words room of idle = IsFree-table_puts F size puts words room (of_tables F puts of) idle
