-- The used pool records by ascending names: each is in the table, and a legal one is read unchanged.
use Rattle.std.proofs.Common.{◌≡◌, ℕ, ◌%◌, ◌^◌, ◌<◌, List, Option, Some, None, option_map, refl, arith, true, ◌&&◌, leb, leb-true, eqb, ◌/◌, subst}
use Rattle.std.specs.List.{AllByRecursion}
use Rattle.std.proofs.lemmas.Bool.{and_parts}
use Rattle.std.proofs.lemmas.Option.{none-some, same_Some}
use Rattle.pud_defs.specs.declared.layout.TheConstants.{MAX_OWNER_ID}
use Rattle.pud_defs.specs.declared.records.TheConstants.{POOL_RECORDS, MAX_MODE}
use Rattle.pud_defs.specs.declared.records.PoolRecord.{PoolRecord}
use Rattle.pud_defs.specs.Formats.Names.{name_cmp, is_legal_name}
use Rattle.pud_defs.specs.Formats.Modes.{is_legal_mode}
use Rattle.pud_defs.specs.RegistryTables.Pools.{is_given}
use Rattle.pud_defs.specs.RegistryTables.Tables.{Tables, named, records_of}
use Rattle.pud_defs.specs.RegistryTables.SoundTables.{is_sound_pool}
use Rattle.pud_defs.proofs.KeyedTables.KeyedEach.{each-keyed}
use Rattle.pud_defs.proofs.RegistryTables.PoolsChanged.{same_name}

pub record IsPlaced (t : Tables) (e : List ℕ × (ℕ × PoolRecord)) : Type 0 where
  pub below : e.1.0 < POOL_RECORDS
  pub used : t.pools e.1.0 ≡ Some e.1.1
  pub name : e.1.1.name ≡ e.0

placed : (t : Tables) (slot : ℕ) → slot < POOL_RECORDS → (o : Option PoolRecord) → t.pools slot ≡ o → (e : List ℕ × (ℕ × PoolRecord)) → option_map (λ r. (r.name, (slot, r))) o ≡ Some e → IsPlaced t e
placed t slot below None is e there = absurd (none-some e there)
placed t slot below (Some r) is e there = subst (IsPlaced t) (same_Some (r.name, (slot, r)) e there) (record { below = below; used = is; name = refl })

pub each_placed : (t : Tables) → AllByRecursion (IsPlaced t) (records_of t)
unfolding records_of
each_placed t = each-keyed name_cmp same_name (IsPlaced t) (named t) 0 POOL_RECORDS (λ slot low high e is. placed t slot (omega arith) (t.pools slot) refl e is)

-- ---- a legal record is read unchanged

pub mode_read : (mode : ℕ) → is_legal_mode mode ≡ true → mode % 2 ^ 32 ≡ mode
mode_read mode legal =
    let three = and_parts (leb mode MAX_MODE && eqb (mode % 2) 0 && eqb (mode / 8 % 2) 0) (eqb (mode / 64 % 2) 0) legal in
    let two = and_parts (leb mode MAX_MODE && eqb (mode % 2) 0) (eqb (mode / 8 % 2) 0) three.0 in
    let one = and_parts (leb mode MAX_MODE) (eqb (mode % 2) 0) two.0 in
    let few = leb-true mode MAX_MODE one.0 in
    omega arith

pub legal_mode : (next : ℕ) (r : PoolRecord) → is_sound_pool next (Some r) ≡ true → is_legal_mode r.mode ≡ true
legal_mode next r sound =
    let four = and_parts (is_legal_name r.name && leb r.uid MAX_OWNER_ID && leb r.gid MAX_OWNER_ID && is_legal_mode r.mode) (is_given next r.number) sound in
    (and_parts (is_legal_name r.name && leb r.uid MAX_OWNER_ID && leb r.gid MAX_OWNER_ID) (is_legal_mode r.mode) four.0).1
