-- A pool with an open transaction: what its records state in an image that has them as they were at the beginning.
use Rattle.std.proofs.Common.{◌≡◌, ℕ, ◌+◌, ◌<◌, ◌≤◌, true, ◌||◌, leb, ltb, List, Option, Some, sym, ap, subst, ◌∙◌, arith}
use Rattle.std.specs.Prelude.{slice_get, unwrap_or}
use Rattle.std.specs.List.{list_any}
use Rattle.std.proofs.lemmas.Bool.{and_from, or_left, or_right, le-leb, lt-ltb}
use Rattle.pud_defs.specs.declared.records.Puddle.{Puddle}
use Rattle.pud_defs.specs.Logging.Allowed.{puddle_word}
use Rattle.pud_defs.specs.Logging.Entries.{log_of}
use Rattle.pud_defs.specs.Formats.Image.{Image}
use Rattle.pud_defs.specs.Formats.Layout.{device_words}
use Rattle.pud_defs.specs.RegistryTables.Pools.{pool_record_at}
use Rattle.pud_defs.specs.RegistryTables.Puddles.{puddle_record_at}
use Rattle.pud_defs.specs.Logging.Settled.{client_of_log, log_number_at}
use Rattle.pud_defs.specs.RegistryTables.SoundTables.{HasSoundTables}
use Rattle.pud_defs.specs.RegistryTables.Spaces.{space_record_at, owner_by, owner_of}
use Rattle.pud_defs.specs.PoolGraphs.Stored.{IsOnDevice}
use Rattle.pud_defs.specs.RegistryTables.Tables.{tables_of, puddles_in_turn}
use Rattle.pud_defs.proofs.RegistryTables.TablesOf.{pools_below, puddles_below, frames_of_tables, pool_at-same, puddle_at-same}
use Rattle.word_transaction.specs.Scope.{IsScope}
use Rattle.word_transaction.specs.Running.{RecoversTo, HasPlaces}
use Rattle.hybrid_tx.specs.PoolScopes.{pool_scope, ArePlacedPuddles, finished_of}
use Rattle.hybrid_tx.specs.Open.Masks.{OpenPool, is_in_pool_record, is_in_space_record, is_in_puddle_record, is_open_record, ArePuddlesOf, IsOpenPool}
use Rattle.hybrid_tx.proofs.Open.OpenSettled.{GivesOwn}
use Rattle.hybrid_tx.proofs.Open.OwnEntries.{new_value_placed, new_value_own}
use Rattle.hybrid_tx.proofs.PoolScope.{all_there, element_passes, is_scope}
use Rattle.hybrid_tx.proofs.Open.PoolPlaces.{ArePuddlesOf-same, on_device_of_puddles, placed_of_puddles, places_of_puddles, placed_in_turn}
use Rattle.hybrid_tx.proofs.Open.Rights.{MayWritePool, own_log_allowed}

-- ---- words of records

module _ (p : OpenPool) (k : ℕ) where
  of_pool_record : pool_record_at p.slot ≤ k → k < pool_record_at (p.slot + 1) → is_open_record p k ≡ true
  unfolding is_open_record
  of_pool_record low high =
      or_left (is_in_pool_record p.slot k || is_in_space_record (client_of_log p.log_number) k) (list_any (is_in_puddle_record k) (finished_of p.puddles))
      (or_left (is_in_pool_record p.slot k) (is_in_space_record (client_of_log p.log_number) k) (and_from (leb (pool_record_at p.slot) k) (ltb k (pool_record_at (p.slot + 1))) (le-leb _ _ low) (lt-ltb _ _ high)))

  of_space_record : space_record_at (client_of_log p.log_number) ≤ k → k < space_record_at (client_of_log p.log_number + 1) → is_open_record p k ≡ true
  unfolding is_open_record
  of_space_record low high =
      or_left (is_in_pool_record p.slot k || is_in_space_record (client_of_log p.log_number) k) (list_any (is_in_puddle_record k) (finished_of p.puddles))
      (or_right (is_in_pool_record p.slot k) (is_in_space_record (client_of_log p.log_number) k)
      (and_from (leb (space_record_at (client_of_log p.log_number)) k) (ltb k (space_record_at (client_of_log p.log_number + 1))) (le-leb _ _ low) (lt-ltb _ _ high)))

  of_puddle_record : (o : ℕ) (e : ℕ × Puddle) → slice_get (finished_of p.puddles) o ≡ Some e → puddle_record_at e.0 ≤ k → k < puddle_record_at (e.0 + 1) → is_open_record p k ≡ true
  unfolding is_open_record
  of_puddle_record o e there low high =
      or_right (is_in_pool_record p.slot k || is_in_space_record (client_of_log p.log_number) k) (list_any (is_in_puddle_record k) (finished_of p.puddles))
      (element_passes (is_in_puddle_record k) (finished_of p.puddles) o e there (and_from (leb (puddle_record_at e.0) k) (ltb k (puddle_record_at (e.0 + 1))) (le-leb _ _ low) (lt-ltb _ _ high)))

-- ---- what the records state

-- the puddles lie in frames of the device
pub open_on_device : (F : ℕ) (p : OpenPool) (before : Image) → IsOpenPool F p before → IsOnDevice F (finished_of p.puddles)
open_on_device F p before opened = subst (λ (n : ℕ). IsOnDevice n (finished_of p.puddles)) (frames_of_tables F before) (on_device_of_puddles (tables_of F before) p.slot (finished_of p.puddles) opened.puddles)

-- in any image that has the records as they were at the beginning
module _ (F : ℕ) (p : OpenPool) (before image : Image) (opened : IsOpenPool F p before) (records : (k : ℕ) → is_open_record p k ≡ true → image k ≡ before k) where
  -- its puddles are puddles of the pool
  pub open_puddles : ArePuddlesOf (tables_of F image) p.slot (finished_of p.puddles)
  open_puddles =
      ArePuddlesOf-same (tables_of F before) (tables_of F image) p.slot (finished_of p.puddles) (frames_of_tables F before ∙ sym (frames_of_tables F image))
      (λ i e there.
      let below = all_there (λ (d : ℕ × Puddle). d.0 < F) (finished_of p.puddles) i e (open_on_device F p before opened).frames there in
      puddles_below F image e.0 below ∙ puddle_at-same image before e.0 (λ k low high. records k (of_puddle_record p k i e there low high)) ∙ sym (puddles_below F before e.0 below))
      opened.puddles

  open_writable : MayWritePool (tables_of F image) p.slot p.who
  open_writable = record {
    rec = p.rec;
    used =
        pools_below F image p.slot opened.slot ∙ pool_at-same image before p.slot (λ k low high. records k (of_pool_record p k low high)) ∙ sym (pools_below F before p.slot opened.slot) ∙ opened.used;
    right = opened.right;
  }

  pub open_owned : owner_of image (client_of_log p.log_number) ≡ Some p.who
  open_owned =
      let at = space_record_at (client_of_log p.log_number) in
      let e0 = records at (of_space_record p at (omega arith) (omega arith)) in
      let e1 = records (at + 1) (of_space_record p (at + 1) (omega arith) (omega arith)) in
      let e2 = records (at + 2) (of_space_record p (at + 2) (omega arith) (omega arith)) in
      (λ q. owner_by (e0 q) (e1 q) (e2 q)) ∙ opened.owned

  module _ (next : ℕ) (sound : HasSoundTables next (tables_of F image)) where
    -- the puddles lie as those of a scope do
    pub open_placed : ArePlacedPuddles F (finished_of p.puddles)
    open_placed =
        subst (λ (n : ℕ). ArePlacedPuddles n (finished_of p.puddles)) (frames_of_tables F image)
        (placed_of_puddles next (tables_of F image) sound p.slot (finished_of p.puddles) open_puddles)

    -- the places of the scope are those of the tables
    pub open_places : HasPlaces (pool_scope F (finished_of p.puddles)) (puddle_word (tables_of F image))
    open_places =
        subst (λ (n : ℕ). HasPlaces (pool_scope n (finished_of p.puddles)) (puddle_word (tables_of F image))) (frames_of_tables F image)
        (places_of_puddles next (tables_of F image) sound p.slot (finished_of p.puddles) open_puddles)

    open_ground : IsScope (device_words F) (log_number_at F p.log_number) (pool_scope F (finished_of p.puddles))
    open_ground = let few = opened.known in is_scope F (device_words F) (log_number_at F p.log_number) (finished_of p.puddles) open_placed (omega arith) (omega arith)

    -- if the image recovers to the values from the beginning, the log is allowed and gives these values
    pub gives_own : RecoversTo (pool_scope F (finished_of p.puddles)) (log_number_at F p.log_number) before image → GivesOwn F p before image
    gives_own s =
        let log = log_of image (log_number_at F p.log_number) in
        let same = λ (w : ℕ). new_value_placed (pool_scope F (finished_of p.puddles)) (puddle_word (tables_of F image)) log open_places s.es w s.spells s.own in
        record {
          owned = open_owned;
          allowed = own_log_allowed next (tables_of F image) sound p.slot (finished_of p.puddles) open_puddles p.who open_writable F log s.es s.spells s.own;
          own = λ w v is. new_value_own (device_words F) (log_number_at F p.log_number) (pool_scope F (finished_of p.puddles)) log open_ground w v s.es s.spells s.own (sym (same w) ∙ is);
          settled = λ w mine. ap (λ (o : Option ℕ). unwrap_or o (image w)) (same w) ∙ s.settled w mine;
        }

-- the puddles that sound tables have for a pool lie as those of a scope do
pub placed_by_tables : (next F : ℕ) (image : Image) (slot : ℕ) (at : List (ℕ × Puddle)) → HasSoundTables next (tables_of F image) → puddles_in_turn (tables_of F image) slot ≡ at → ArePlacedPuddles F at
placed_by_tables next F image slot at sound is =
    subst (λ puddles. ArePlacedPuddles F puddles) is
    (subst (λ (n : ℕ). ArePlacedPuddles n (puddles_in_turn (tables_of F image) slot)) (frames_of_tables F image) (placed_in_turn next (tables_of F image) slot sound))
