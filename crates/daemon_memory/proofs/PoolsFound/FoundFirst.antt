-- A pool that is found in the slot that is tried first is the one that the pool table has under its name.
use Rattle.std.proofs.Common.{◌≡◌, inl, inr, ℕ, ◌<◌, Bool, true, false, cond, List, Option, Some, None, option_map, refl, sym, ap, ◌∙◌, arith}
use Rattle.std.specs.Ordering.{eq_by_cmp}
use Rattle.std.specs.Cmp.Lexicographic.{nat_list_cmp_total}
use Rattle.std.proofs.lemmas.Bool.{cases_Bool, cond-true, cond-false}
use Rattle.std.proofs.lemmas.Map.Lookups.{exact_bytes}
use Rattle.std.proofs.lemmas.Map.Views.{tells_apart}
use Rattle.std.proofs.lemmas.Option.{none-some, same_Some}
use Rattle.pud_defs.specs.declared.records.PoolRecord.{PoolRecord}
use Rattle.pud_defs.specs.declared.records.TheConstants.{POOL_RECORDS}
use Rattle.pud_defs.specs.Formats.Image.{Image}
use Rattle.pud_defs.specs.Formats.Names.{name_cmp}
use Rattle.pud_defs.specs.RegistryTables.Keyed.{under, first_from}
use Rattle.pud_defs.specs.RegistryTables.Pools.{pool_at, pool_read}
use Rattle.pud_defs.specs.RegistryTables.SoundTables.{HasSoundTables, has_distinct_names}
use Rattle.pud_defs.specs.RegistryTables.Tables.{Tables, tables_of, named, records_of, pool_in}
use Rattle.pud_defs.proofs.KeyedTables.Keyed.{HasDistinctKeys, distinct_keys, find-keyed, first_from_at}
use Rattle.pud_defs.proofs.RegistryTables.TablesOf.{pools_below}
use Rattle.pool_table.specs.LookUp.{record_named}

-- The used record that was read.
record IsThere (name : List ℕ) (rec : PoolRecord) (o : Option PoolRecord) : Type 0 where
  pub whole : PoolRecord
  pub used : o ≡ Some whole
  pub is : rec ≡ pool_read whole
  pub same : eq_by_cmp name_cmp name whole.name ≡ true

there_by : (name : List ℕ) (rec whole : PoolRecord) (b : Bool) → eq_by_cmp name_cmp name whole.name ≡ b → Some rec ≡ cond b (Some (pool_read whole)) None → IsThere name rec (Some whole)
there_by name rec whole true same is = record { whole = whole; used = refl; is = same_Some rec (pool_read whole) is; same = same }
there_by name rec whole false other is = absurd (none-some rec (sym is))

there : (name : List ℕ) (rec : PoolRecord) (o : Option PoolRecord) → Some rec ≡ record_named name (option_map pool_read o) → IsThere name rec o
there name rec None is = absurd (none-some rec (sym is))
there name rec (Some whole) is = there_by name rec whole (eq_by_cmp name_cmp name whole.name) refl is

module _ (next F : ℕ) (image : Image) (sound : HasSoundTables next (tables_of F image)) (name : List ℕ) (slot : ℕ) (below : slot < POOL_RECORDS) where
  abbrev t : Tables
  t = tables_of F image

  distinct : HasDistinctKeys name_cmp (named t) 0 POOL_RECORDS
  unfolding has_distinct_names
  distinct = distinct_keys name_cmp (named t) 0 POOL_RECORDS sound.names

  module _ (rec : PoolRecord) (is : Some rec ≡ record_named name (option_map pool_read (pool_at image slot))) where
    at : IsThere name rec (pool_at image slot)
    at = there name rec (pool_at image slot) is

    here : under name_cmp name (named t slot) ≡ Some (slot, at.whole)
    here = ap (λ (o : Option PoolRecord). under name_cmp name (option_map (λ r. (r.name, (slot, r))) o)) (pools_below F image slot below ∙ at.used) ∙ cond-true _ _ _ at.same

    -- No record before it has the name.
    not_under : (j : ℕ) → j < slot → (e : Option (List ℕ × (ℕ × PoolRecord))) → named t j ≡ e → under name_cmp name e ≡ None
    not_under j less None free = refl
    not_under j less (Some e) used = elim (cases_Bool (eq_by_cmp name_cmp name e.0)) [
      | inr other ↦ cond-false _ _ _ other
      | inl same ↦
          let apart : under name_cmp name (named t slot) ≡ None =
          ap (λ (q : List ℕ). under name_cmp q (named t slot)) (tells_apart exact_bytes name e.0 same) ∙ distinct.apart j slot (omega arith) less (omega (arith, below)) e used in
          absurd (none-some (slot, at.whole) (sym apart ∙ here))
    ]

    first : first_from name_cmp name (named t) 0 POOL_RECORDS ≡ Some (slot, at.whole)
    first = first_from_at name_cmp name (named t) 0 POOL_RECORDS slot (slot, at.whole) (omega arith) (omega (arith, below)) here (λ j low less. not_under j less (named t j) refl)

    pub found_first : ◌≡◌ {A = Option (ℕ × PoolRecord)} (Some (slot, rec)) (pool_in t name)
    unfolding records_of
    found_first =
        ap (λ (r : PoolRecord). Some (slot, r)) at.is
        ∙ ap (option_map (λ (p : ℕ × PoolRecord). (p.0, pool_read p.1))) (sym (find-keyed name_cmp nat_list_cmp_total name (named t) 0 POOL_RECORDS ∙ first))
