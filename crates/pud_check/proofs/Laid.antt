-- What is printed for sound tables is the text of the pools and puddles that they stand for.
use Rattle.std.proofs.Common.{◌≡◌, ℕ, zero, suc, ◌+◌, ◌<◌, ◌≤◌, true, eqb, List, [], ◌∷◌, ◌++◌, map, length, nat_cmp, Option, Some, None, option_map, refl, sym, ap, ap₂, ◌∙◌, arith, eqb-true}
use Rattle.std.specs.List.{flat_map, range_with_len}
use Rattle.std.specs.FinMap.Entries.{find}
use Rattle.std.proofs.lemmas.Bool.{and_parts}
use Rattle.std.proofs.lemmas.List.Folds.{flat_map-map}
use Rattle.pud_defs.specs.declared.records.TheConstants.{POOL_RECORDS, MAX_PUDDLES}
use Rattle.pud_defs.specs.declared.records.PoolRecord.{PoolRecord}
use Rattle.pud_defs.specs.declared.records.Puddle.{Puddle}
use Rattle.pud_defs.specs.RegistryTables.Keyed.{count_used}
use Rattle.pud_defs.specs.Output.LayoutText.{frames_line, pool_line, puddle_line, pool_lines, tables_text}
use Rattle.pud_defs.specs.RegistryTables.Pools.{pool_read}
use Rattle.pud_defs.specs.RegistryTables.Puddles.{puddle_read}
use Rattle.pud_defs.specs.RegistryTables.SoundTables.{is_sound_pool, count_up, HasSoundTables}
use Rattle.pud_defs.specs.RegistryTables.Tables.{Tables, puddles_of, records_of}
use Rattle.pud_defs.proofs.KeyedTables.KeyedEach.{flat_map-each, each-weaker}
use Rattle.pud_defs.proofs.RegistryTables.PoolsCounted.{few_members}
use Rattle.pud_defs.proofs.RegistryTables.PuddlesListed.{passed_by, found_in_front}
use Rattle.pud_defs.proofs.RegistryTables.RecordsPlaced.{IsPlaced, each_placed, legal_mode, mode_read}
use Rattle.pud_defs.proofs.RegistryTables.SoundChanged.{legal_pool}
use Rattle.pud_check.specs.LayoutListed.{line_found, puddles_listed, pool_listed, listed_layout}

-- ---- what is found at each of the ordinals, one after the other

module _ {X A : Type 0} (text : ℕ → Option X → List A) where
  -- The texts of `count` ordinals from `from` on, by a list of entries.
  abbrev texts_found : List (ℕ × X) → (from count : ℕ) → List A
  texts_found es from count = flat_map (λ i. text i (find nat_cmp i es)) (range_with_len from count)

  none_found : ((i : ℕ) → text i None ≡ []) → (from count : ℕ) → texts_found [] from count ≡ []
  none_found none from zero = refl
  none_found none from (suc count) = ap₂ (λ a b. a ++ b) (none from) (none_found none (from + 1) count)

  -- An entry that comes before all these ordinals is found at none of them.
  found_after : (e : ℕ × X) (es : List (ℕ × X)) (from count : ℕ) → e.0 < from → texts_found (e ∷ es) from count ≡ texts_found es from count
  found_after e es from zero before = refl
  found_after e es from (suc count) before = ap₂ (λ (o : Option X) b. text from o ++ b) (passed_by from e es before) (found_after e es (from + 1) count (omega arith))

  -- Entries whose keys go up by one are found one after the other.
  found_in_turn : ((i : ℕ) → text i None ≡ []) → (es : List (ℕ × X)) (from count : ℕ) → count_up from (map (λ e. e.0) es) ≡ true → length es ≤ count → texts_found es from count ≡ flat_map (λ e. text e.0 (Some e.1)) es
  unfolding count_up
  found_in_turn none [] from count up few = none_found none from count
  found_in_turn none (e ∷ es) from zero up few = absurd (omega arith)
  found_in_turn none (e ∷ es) from (suc count) up few =
      let parts = and_parts (eqb e.0 from) (count_up (from + 1) (map (λ d. d.0) es)) up in
      let first : e.0 ≡ from = eqb-true e.0 from parts.0 in
      ap₂ (λ a b. a ++ b)
      (ap (text from) (found_in_front from e es first) ∙ ap (λ i. text i (Some e.1)) (sym first))
      (found_after e es (from + 1) count (omega arith) ∙ found_in_turn none es (from + 1) count parts.1 (omega arith))

-- ---- the puddles of a sound pool

module _ (next : ℕ) (t : Tables) (sound : HasSoundTables next t) (id : ℕ) where
  -- The line of a puddle, as its record is read.
  abbrev line_read : (slot ordinal : ℕ) → Option (ℕ × Puddle) → List ℕ
  line_read slot ordinal found = line_found id (option_map (λ p. (p.0, puddle_read slot ordinal p.1)) found)

  puddles_laid : (slot : ℕ) (r : PoolRecord) → slot < POOL_RECORDS → t.pools slot ≡ Some r → puddles_listed id t slot ≡ flat_map (puddle_line id) (puddles_of t slot)
  unfolding puddles_listed
  puddles_laid slot r below used =
      let few = few_members next t sound slot r below used in
      found_in_turn (line_read slot) (λ i. refl) (puddles_of t slot) 0 MAX_PUDDLES few.ordinals few.few

  pool_laid : (e : List ℕ × (ℕ × PoolRecord)) → IsPlaced t e → pool_listed id t (e.1.0, pool_read e.1.1) ≡ pool_lines id t e.1
  pool_laid e p =
      let legal = ap (is_sound_pool next) (sym p.used) ∙ legal_pool next t sound e.1.0 p.below in
      ap₂ (λ (mode : ℕ) (puddles : List ℕ). pool_line id (record e.1.1 { mode = mode }) ++ puddles) (mode_read e.1.1.mode (legal_mode next e.1.1 legal)) (puddles_laid e.1.0 e.1.1 p.below p.used)

  pools_laid : flat_map (pool_listed id t) (map (λ e. (e.1.0, pool_read e.1.1)) (records_of t)) ≡ flat_map (λ e. pool_lines id t e.1) (records_of t)
  pools_laid =
      flat_map-map (pool_listed id t) (λ e. (e.1.0, pool_read e.1.1)) (records_of t)
      ∙ flat_map-each _ _ (records_of t) (each-weaker (IsPlaced t) _ (records_of t) pool_laid (each_placed t))

pub laid_out : (next : ℕ) (t : Tables) (id number : ℕ) → HasSoundTables next t → listed_layout id number t ≡ tables_text id number t
unfolding listed_layout tables_text
laid_out next t id number sound = ap (λ lines. frames_line t.frames (count_used t.puddles 0 t.frames) number ++ lines) (pools_laid next t sound id)
