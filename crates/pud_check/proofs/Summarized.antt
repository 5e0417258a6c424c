-- The lines of a summary, printed one after the other. On sound tables they are those of the world that the tables
-- stand for.
use Rattle.std.proofs.Common.{◌≡◌, ℕ, List, ◌++◌, Option, Some, None, option_map, refl, sym, ap, ap₂, ◌∙◌}
use Rattle.std.specs.FinMap.Entries.{find}
use Rattle.pm_model.specs.declared.host.HostFault.{HostFault}
use Rattle.pm_model.specs.Moments.{State}
use Rattle.pm_model.specs.Calls.{Says}
use Rattle.pm_model.proofs.Saying.{Says-then, Says-front}
use Rattle.pud_defs.specs.declared.records.PoolRecord.{PoolRecord}
use Rattle.pud_defs.specs.Formats.Image.{Image}
use Rattle.pud_defs.specs.Formats.Names.{name_cmp}
use Rattle.pud_defs.specs.RegistryTables.Pools.{pool_read}
use Rattle.pud_defs.specs.RegistryTables.Registry.{frames_of}
use Rattle.pud_defs.specs.RegistryTables.Types.{types_of}
use Rattle.pud_defs.specs.PoolGraphs.Holdings.{Holding, holding_in}
use Rattle.pud_defs.specs.RegistryTables.SoundTables.{HasSoundTables}
use Rattle.pud_defs.specs.RegistryTables.Tables.{Tables, Pool, Reader, tables_of, records_of, pool_of, pool_in, pools_of}
use Rattle.pud_defs.specs.StateMachine.World.{pools_in, stored_by}
use Rattle.pud_defs.proofs.StateMachine.PoolRefusals.{pool_by_record, pool_by_name, found_record}
use Rattle.pud_defs.proofs.RegistryTables.PuddlesListed.{puddles_in_turn-listed}
use Rattle.pud_check.specs.Summary.{summed, summed_line, sum_line, gen_pool, copy_pool, refusals_line, summary_text}
use Rattle.pud_check.specs.SummaryListed.{holding_listed, listed_sum, listed_summary}

-- ---- as it is read

module _ (F : ℕ) (image : Image) (lines refused : ℕ) where
  -- The fault comes while the first line is printed.
  pub Says-no_sums : (fault : HostFault) (a b : State) → Says (refusals_line lines refused) (Some fault) a b → Says (listed_summary F image lines refused) (Some fault) a b
  unfolding listed_summary
  Says-no_sums fault a b first = Says-front (refusals_line lines refused ++ listed_sum F image gen_pool) (listed_sum F image copy_pool) fault a b (Says-front (refusals_line lines refused) (listed_sum F image gen_pool) fault a b first)

  -- The fault comes while the line of the first pool is printed.
  pub Says-no_copy : (fault : HostFault) (a b c : State) → Says (refusals_line lines refused) None a b → Says (listed_sum F image gen_pool) (Some fault) b c → Says (listed_summary F image lines refused) (Some fault) a c
  unfolding listed_summary
  Says-no_copy fault a b c first gen = Says-front (refusals_line lines refused ++ listed_sum F image gen_pool) (listed_sum F image copy_pool) fault a c (Says-then (refusals_line lines refused) (listed_sum F image gen_pool) (Some fault) a b c first gen)

  pub Says-summary : (fault : Option HostFault) (a b c d : State) → Says (refusals_line lines refused) None a b → Says (listed_sum F image gen_pool) None b c → Says (listed_sum F image copy_pool) fault c d
      → Says (listed_summary F image lines refused) fault a d
  unfolding listed_summary
  Says-summary fault a b c d first gen copy =
      Says-then (refusals_line lines refused ++ listed_sum F image gen_pool) (listed_sum F image copy_pool) fault a c d (Says-then (refusals_line lines refused) (listed_sum F image gen_pool) None a b c first gen) copy

-- ---- on sound tables

module _ (next F : ℕ) (image : Image) (sound : HasSoundTables next (tables_of F image)) (name : List ℕ) where
  abbrev t : Tables
  t = tables_of F image

  abbrev hold : Reader
  hold = holding_in (types_of image) F image

  -- What is read under a name is the holding of the pool of that name.
  held_here : (o : Option (ℕ × PoolRecord)) → find name_cmp name (records_of t) ≡ o
      → option_map (holding_listed F image) (option_map (λ p. (p.0, pool_read p.1)) o) ≡ option_map (λ (p : Pool). p.holding) (option_map (pool_by_record hold t) o)
  unfolding pool_of
  held_here None is = refl
  held_here (Some found) is =
      let here = found_record t name found.0 found.1 is in
      ap (λ at. Some (hold at)) (puddles_in_turn-listed next t found.0 found.1 sound here.below here.used)

  held_by_name : option_map (holding_listed F image) (pool_in t name) ≡ option_map (λ (p : Pool). p.holding) (find name_cmp name (pools_of hold t))
  held_by_name = held_here (find name_cmp name (records_of t)) refl ∙ ap (option_map (λ (p : Pool). p.holding)) (sym (pool_by_name hold t name))

-- What is printed for a name on sound tables is the line of the world that their image stands for.
pub listed_sum-sound : (frames next : ℕ) (image : Image) → HasSoundTables next (tables_of frames image) → frames ≡ frames_of image → (name : List ℕ) → listed_sum frames image name ≡ sum_line name (stored_by image)
unfolding listed_sum sum_line stored_by
listed_sum-sound frames next image sound all name =
    ap (λ (o : Option Holding). summed_line name (summed o)) (held_by_name next frames image sound name)
    ∙ ap (λ (F : ℕ). summed_line name (summed (option_map (λ (p : Pool). p.holding) (find name_cmp name (pools_in (types_of image) F image))))) all

pub listed_summary-sound : (frames next : ℕ) (image : Image) (lines refused : ℕ) → HasSoundTables next (tables_of frames image) → frames ≡ frames_of image → listed_summary frames image lines refused ≡ summary_text lines refused (stored_by image)
unfolding listed_summary summary_text
listed_summary-sound frames next image lines refused sound all =
    ap₂ (λ (gen copy : List ℕ). refusals_line lines refused ++ gen ++ copy) (listed_sum-sound frames next image sound all gen_pool) (listed_sum-sound frames next image sound all copy_pool)
