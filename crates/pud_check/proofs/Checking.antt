-- What is printed for pools, one after another. On sound tables it is the check text of the world that they stand for.
use Rattle.std.proofs.Common.{◌≡◌, ℕ, List, ◌++◌, length, Option, Some, None, option_map, refl, sym, ap, ap₂, ◌∙◌, subst}
use Rattle.std.specs.List.{flat_map}
use Rattle.std.proofs.lemmas.List.{length-map}
use Rattle.pm_model.specs.declared.host.HostFault.{HostFault}
use Rattle.pm_model.specs.Moments.{State}
use Rattle.pm_model.specs.Calls.{Says}
use Rattle.pm_model.proofs.Saying.{Says-then, Says-front}
use Rattle.pud_defs.specs.declared.records.PoolRecord.{PoolRecord}
use Rattle.pud_defs.specs.declared.records.Puddle.{Puddle}
use Rattle.pud_defs.specs.Formats.Image.{Image}
use Rattle.pud_defs.specs.Formats.Names.{name_cmp}
use Rattle.pud_defs.specs.RegistryTables.Pools.{pool_read}
use Rattle.pud_defs.specs.RegistryTables.Registry.{frames_of}
use Rattle.pud_defs.specs.RegistryTables.Types.{types_of}
use Rattle.pud_defs.specs.PoolGraphs.Stored.{Stored, stored_in}
use Rattle.pud_defs.specs.PoolGraphs.Graph.{Graph, graph_of}
use Rattle.pud_defs.specs.PoolGraphs.Holdings.{held_as, holding_in}
use Rattle.pud_defs.specs.RegistryTables.SoundTables.{HasSoundTables}
use Rattle.pud_defs.specs.RegistryTables.Tables.{Tables, Reader, tables_of, puddles_of, listed, classes_of, records_of, pool_of, pools_of}
use Rattle.pud_defs.specs.StateMachine.World.{pools_in, stored_by}
use Rattle.pud_defs.specs.Output.Texts.{line_of}
use Rattle.pud_defs.specs.Output.Listing.{name_text}
use Rattle.pud_defs.specs.Output.CheckText.{holding_text, checked_line, count_line, check_text}
use Rattle.pud_defs.proofs.KeyedTables.KeyedMaps.{of_entry}
use Rattle.pud_defs.proofs.StateMachine.PoolRefusals.{pool_by_record, pools_by_records}
use Rattle.pud_defs.proofs.RegistryTables.PuddlesListed.{puddles_in_turn-listed}
use Rattle.pud_defs.proofs.RegistryTables.RecordsPlaced.{IsPlaced}
use Rattle.pool_table.specs.InOrder.{in_order}
use Rattle.pool_list.proofs.ListedPools.{each_listed}
use Rattle.pud_check.specs.Checked.{objects_text, objects_line, objects_in, puddles_checked, pool_checked, records_checked, listed_check}

-- ---- as it is read

module _ (F : ℕ) (image : Image) (records : List (ℕ × PoolRecord)) (read : records ≡ in_order (tables_of F image)) where
  -- The fault comes while the lines of the pools are printed.
  pub Says-uncounted : (fault : HostFault) (a b : State) → Says (flat_map (pool_checked F image) records) (Some fault) a b → Says (listed_check F image) (Some fault) a b
  unfolding listed_check
  Says-uncounted fault a b pools =
      subst (λ (rs : List (ℕ × PoolRecord)). Says (records_checked F image rs) (Some fault) a b) read (Says-front (flat_map (pool_checked F image) records) (count_line (length records)) fault a b pools)

  pub Says-checked : (fault : Option HostFault) (a b c : State) → Says (flat_map (pool_checked F image) records) None a b → Says (count_line (length records)) fault b c → Says (listed_check F image) fault a c
  unfolding listed_check
  Says-checked fault a b c pools count =
      subst (λ (rs : List (ℕ × PoolRecord)). Says (records_checked F image rs) fault a c) read (Says-then (flat_map (pool_checked F image) records) (count_line (length records)) fault a b c pools count)

-- ---- on sound tables

-- The text made from the number of objects is the text of what the puddles hold.
text_held : (st : Stored) (o : Option Graph) (puddles : ℕ) → objects_text (option_map (λ g. length g.objects) o) puddles ≡ holding_text (held_as st o) puddles
text_held st None puddles = refl
text_held st (Some g) puddles = refl

module _ (next F : ℕ) (image : Image) (sound : HasSoundTables next (tables_of F image)) where
  abbrev t : Tables
  t = tables_of F image

  abbrev hold : Reader
  hold = holding_in (types_of image) F image

  line_here : (e : List ℕ × (ℕ × PoolRecord)) → IsPlaced t e → pool_checked F image (e.1.0, pool_read e.1.1) ≡ checked_line (e.0, pool_by_record hold t e.1)
  unfolding checked_line pool_of
  line_here e p =
      let at = listed (puddles_of t e.1.0) in
      let st = stored_in F at image in
      let classes = classes_of (puddles_of t e.1.0) in
      let count : length at ≡ length classes = length-map (puddles_of t e.1.0) (λ (d : ℕ × (ℕ × Puddle)). d.1) ∙ sym (length-map (puddles_of t e.1.0) (λ (d : ℕ × (ℕ × Puddle)). d.1.1.class)) in
      ap (puddles_checked F image (pool_read e.1.1)) (puddles_in_turn-listed next t e.1.0 e.1.1 sound p.below p.used)
      ∙ ap₂ (λ (name : List ℕ) (n : ℕ). objects_line name (objects_in F image at) n) p.name count
      ∙ ap (λ (text : List ℕ). line_of (name_text e.0 ++ text)) (text_held st (graph_of (types_of image) st) (length classes))

  records_counted : length (in_order t) ≡ length (pools_of hold t)
  records_counted =
      length-map (records_of t) (λ e. (e.1.0, pool_read e.1.1)) ∙ sym (length-map (records_of t) (of_entry name_cmp (pool_by_record hold t))) ∙ sym (ap length (pools_by_records hold t))

-- What is printed for sound tables is the check text of the world that their image stands for.
pub listed_check-sound : (frames next : ℕ) (image : Image) → HasSoundTables next (tables_of frames image) → frames ≡ frames_of image → listed_check frames image ≡ check_text (stored_by image)
unfolding listed_check check_text stored_by
listed_check-sound frames next image sound all =
    let hold = holding_in (types_of image) frames image in
    ap₂ (λ (lines : List ℕ) (n : ℕ). lines ++ count_line n)
    (each_listed hold (tables_of frames image) (pool_checked frames image) checked_line (line_here next frames image sound)) (records_counted next frames image sound)
    ∙ ap (λ (F : ℕ). flat_map checked_line (pools_in (types_of image) F image) ++ count_line (length (pools_in (types_of image) F image))) all
