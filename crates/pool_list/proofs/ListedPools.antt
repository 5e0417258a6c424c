-- What is printed for sound tables is the text of the pools that they stand for.
use Rattle.std.proofs.Common.{◌≡◌, ℕ, List, ◌++◌, codes, sym, ap, ap₂, ◌∙◌}
use Rattle.std.specs.List.{flat_map}
use Rattle.std.proofs.lemmas.List.{length-map}
use Rattle.std.proofs.lemmas.List.Folds.{flat_map-map}
use Rattle.pud_defs.specs.declared.records.PoolRecord.{PoolRecord}
use Rattle.pud_defs.specs.Formats.Names.{name_cmp}
use Rattle.pud_defs.specs.RegistryTables.Pools.{pool_read}
use Rattle.pud_defs.specs.RegistryTables.Spaces.{owner}
use Rattle.pud_defs.specs.RegistryTables.Tables.{Tables, Pool, Reader, records_of, pool_of, pools_of, puddles_of}
use Rattle.pud_defs.specs.RegistryTables.SoundTables.{is_sound_pool, HasSoundTables}
use Rattle.pud_defs.specs.StateMachine.World.{StoredWorld}
use Rattle.pud_defs.specs.StateMachine.Step.Answer.{of_text}
use Rattle.pud_defs.specs.Output.Texts.{line_of, answer_text}
use Rattle.pud_defs.specs.Output.Listing.{described, pool_text, pools_text}
use Rattle.pud_defs.proofs.KeyedTables.KeyedEach.{flat_map-each, each-weaker}
use Rattle.pud_defs.proofs.KeyedTables.KeyedMaps.{of_entry}
use Rattle.pud_defs.proofs.StateMachine.PoolRefusals.{pool_by_record, pools_by_records}
use Rattle.pud_defs.proofs.Output.Listing.{in_one_line-pools_text}
use Rattle.pud_defs.proofs.RegistryTables.PoolsCounted.{length_puddles}
use Rattle.pud_defs.proofs.RegistryTables.RecordsPlaced.{IsPlaced, each_placed, legal_mode, mode_read}
use Rattle.pud_defs.proofs.RegistryTables.SoundChanged.{legal_pool}
use Rattle.pool_table.specs.InOrder.{in_order}
use Rattle.pool_list.specs.Listed.{record_text, puddles_counted, listed_text}

-- If the text of each record is the text of its pool, the texts of all records in order are those of all pools in
-- order.
pub each_listed : (hold : Reader) (t : Tables) (text : ℕ × PoolRecord → List ℕ) (line : List ℕ × Pool → List ℕ)
    → ((e : List ℕ × (ℕ × PoolRecord)) → IsPlaced t e → text (e.1.0, pool_read e.1.1) ≡ line (e.0, pool_by_record hold t e.1)) → flat_map text (in_order t) ≡ flat_map line (pools_of hold t)
each_listed hold t text line each =
    flat_map-map text (λ e. (e.1.0, pool_read e.1.1)) (records_of t)
    ∙ flat_map-each _ _ (records_of t) (each-weaker (IsPlaced t) _ (records_of t) each (each_placed t))
    ∙ sym (flat_map-map line (of_entry name_cmp (pool_by_record hold t)) (records_of t))
    ∙ sym (ap (flat_map line) (pools_by_records hold t))

module _ (hold : Reader) (next : ℕ) (t : Tables) (sound : HasSoundTables next t) (id : ℕ) where
  -- The text of a record, as it was read and counted, is the text of its pool.
  text_here : (e : List ℕ × (ℕ × PoolRecord)) → IsPlaced t e → record_text id (pool_read e.1.1) (puddles_counted t e.1.0) ≡ pool_text id (e.0, pool_by_record hold t e.1)
  unfolding pool_of
  text_here e p =
      let r = e.1.1 in
      let legal = ap (is_sound_pool next) (sym p.used) ∙ legal_pool next t sound e.1.0 p.below in
      ap₂ (λ (mode puddles : ℕ). described id r.name (owner r.uid r.gid) mode r.number puddles)
      (mode_read r.mode (legal_mode next r legal)) (sym (length_puddles next t sound e.1.0 p.below) ∙ sym (length-map (puddles_of t e.1.0) (λ d. d.1.1.class)))
      ∙ ap (λ (name : List ℕ). pool_text id (name, pool_by_record hold t e.1)) p.name

  listed_pools : listed_text id t ≡ flat_map (pool_text id) (pools_of hold t)
  unfolding listed_text
  listed_pools = each_listed hold t (λ e. record_text id e.1 (puddles_counted t e.0)) (pool_text id) text_here

-- The list of sound tables is the answer of the world that they stand for.
pub line_of-listed_text : (hold : Reader) (next : ℕ) (t : Tables) (s : StoredWorld) (id : ℕ) → HasSoundTables next t → pools_of hold t ≡ s.pools → id ≡ s.machine → line_of (codes "ok" ++ listed_text id t) ≡ answer_text (of_text (pools_text s))
unfolding pools_text
line_of-listed_text hold next t s id sound pools machine =
    let same : listed_text id t ≡ pools_text s = listed_pools hold next t sound id ∙ ap₂ (λ (n : ℕ) (ps : List (List ℕ × Pool)). flat_map (pool_text n) ps) machine pools in
    ap (λ text. line_of (codes "ok" ++ text)) (same ∙ sym (in_one_line-pools_text hold next t s sound pools))
