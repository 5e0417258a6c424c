-- What is printed for puddles and pools, one after another. The words of the device do not change.
use Rattle.std.proofs.Common.{◌≡◌, ℕ, ◌+◌, ◌<◌, List, ◌++◌, take, get_or, Option, Some, None, sym, ap, ap₂, ◌∙◌, subst, zero-add}
use Rattle.std.specs.List.{flat_map, range_with_len}
use Rattle.std.proofs.lemmas.List.FromFn.{get_or-range_with_len}
use Rattle.pm_model.specs.declared.host.HostFault.{HostFault}
use Rattle.pm_model.specs.Words.{reads}
use Rattle.pm_model.specs.Moments.{State}
use Rattle.pm_model.specs.Calls.{Says}
use Rattle.pm_model.proofs.Said.{words-all_said}
use Rattle.pm_model.proofs.Saying.{Says-then, Says-front}
use Rattle.pud_defs.specs.Formats.Image.{Image}
use Rattle.pud_defs.specs.declared.layout.TheConstants.{MACHINE_WORD, NEXT_NUMBER_WORD}
use Rattle.pud_defs.specs.declared.records.TheConstants.{MAX_PUDDLES}
use Rattle.pud_defs.specs.declared.records.PoolRecord.{PoolRecord}
use Rattle.pud_defs.specs.RegistryTables.Keyed.{count_used}
use Rattle.pud_defs.specs.Output.LayoutText.{frames_line, tables_text, layout_text}
use Rattle.pud_defs.specs.RegistryTables.Registry.{frames_of}
use Rattle.pud_defs.specs.RegistryTables.SoundTables.{HasSoundTables}
use Rattle.pud_defs.specs.RegistryTables.Tables.{Tables, tables_of}
use Rattle.pud_defs.proofs.RegistryTables.TablesOf.{frames_of_tables}
use Rattle.pool_table.specs.InOrder.{in_order}
use Rattle.puddle_table.specs.Placed.{Placed, HoldsPlaces}
use Rattle.pud_check.specs.LayoutListed.{puddle_listed, puddles_listed, pool_listed, listed_layout}
use Rattle.pud_check.proofs.Laid.{laid_out}
use Rattle.pool_list.proofs.Saying.{Says-more, Says-until}

-- Printing changes no word.
pub reads-said : (bytes : List ℕ) (fault : Option HostFault) (a b : State) (image : Image) → Says bytes fault a b → reads a.now.words ≡ image → reads b.now.words ≡ image
reads-said bytes fault a b image says e = ap (λ (s : State). reads s.now.words) says.is ∙ ap reads (words-all_said (take says.count bytes) a) ∙ e

-- ---- the puddles of a pool

module _ (id : ℕ) (t : Tables) (slot ordinal : ℕ) where
  at_ordinal : ordinal < MAX_PUDDLES → get_or (range_with_len 0 16) ordinal 0 ≡ ordinal
  at_ordinal below = get_or-range_with_len 0 16 ordinal 0 below ∙ zero-add ordinal

  -- One more puddle is printed.
  pub Says-puddle : (a b c : State) → ordinal < MAX_PUDDLES → Says (flat_map (puddle_listed id t slot) (take ordinal (range_with_len 0 16))) None a b → Says (puddle_listed id t slot ordinal) None b c
      → Says (flat_map (puddle_listed id t slot) (take (ordinal + 1) (range_with_len 0 16))) None a c
  Says-puddle a b c below so_far next =
      Says-more (puddle_listed id t slot) (range_with_len 0 16) ordinal 0 below None a b c so_far (subst (λ (n : ℕ). Says (puddle_listed id t slot n) None b c) (sym (at_ordinal below)) next)

  -- The fault comes while one of the puddles is printed.
  pub Says-broken : (fault : HostFault) (a b c : State) → ordinal < MAX_PUDDLES → Says (flat_map (puddle_listed id t slot) (take ordinal (range_with_len 0 16))) None a b → Says (puddle_listed id t slot ordinal) (Some fault) b c
      → Says (puddles_listed id t slot) (Some fault) a c
  unfolding puddles_listed
  Says-broken fault a b c below so_far last =
      Says-until (puddle_listed id t slot) (range_with_len 0 16) ordinal 0 below fault a b c so_far (subst (λ (n : ℕ). Says (puddle_listed id t slot n) (Some fault) b c) (sym (at_ordinal below)) last)

  -- All puddles are printed.
  pub Says-puddles : (a b : State) → ordinal ≡ MAX_PUDDLES → Says (flat_map (puddle_listed id t slot) (take ordinal (range_with_len 0 16))) None a b → Says (puddles_listed id t slot) None a b
  unfolding puddles_listed
  Says-puddles a b all said = subst (λ (n : ℕ). Says (flat_map (puddle_listed id t slot) (take n (range_with_len 0 16))) None a b) all said

-- ---- all of it

-- The places are those of the tables, also with the number of frames that the places state.
pub holds_counted : (F : ℕ) (image : Image) (p : Placed) → HoldsPlaces (tables_of F image) p → p.count ≡ F → HoldsPlaces (tables_of p.count image) p
holds_counted F image p holds count = subst (λ (f : ℕ). HoldsPlaces (tables_of f image) p) (sym count) holds

module _ (F : ℕ) (image : Image) (p : Placed) (id next : ℕ) (records : List (ℕ × PoolRecord)) (holds : HoldsPlaces (tables_of F image) p) (count : p.count ≡ F) (machine : id ≡ image MACHINE_WORD) (number : next ≡ image NEXT_NUMBER_WORD) (listed : records ≡ in_order (tables_of F image)) where
  -- The text made from what was read is the text of the tables.
  listed_layout-read : frames_line F p.used next ++ flat_map (pool_listed id (tables_of p.count image)) records ≡ listed_layout (image MACHINE_WORD) (image NEXT_NUMBER_WORD) (tables_of F image)
  unfolding listed_layout
  listed_layout-read =
      let front : frames_line F p.used next ≡ frames_line (tables_of F image).frames (count_used (tables_of F image).puddles 0 (tables_of F image).frames) (image NEXT_NUMBER_WORD) =
      ap₂ (λ (used n : ℕ). frames_line F used n) holds.used number ∙ ap (λ (f : ℕ). frames_line f (count_used (tables_of F image).puddles 0 (tables_of F image).frames) (image NEXT_NUMBER_WORD)) (sym (frames_of_tables F image)) in
      let back : flat_map (pool_listed id (tables_of p.count image)) records ≡ flat_map (pool_listed (image MACHINE_WORD) (tables_of F image)) (in_order (tables_of F image)) =
      ap₂ (λ (n f : ℕ). flat_map (pool_listed n (tables_of f image)) records) machine count ∙ ap (flat_map (pool_listed (image MACHINE_WORD) (tables_of F image))) listed in
      ap₂ (λ (a b : List ℕ). a ++ b) front back

  -- The fault comes while the line of the frames is printed.
  pub Says-no_pools : (fault : HostFault) (a b : State) → Says (frames_line F p.used next) (Some fault) a b → Says (listed_layout (image MACHINE_WORD) (image NEXT_NUMBER_WORD) (tables_of F image)) (Some fault) a b
  Says-no_pools fault a b frames =
      subst (λ (bytes : List ℕ). Says bytes (Some fault) a b) listed_layout-read (Says-front (frames_line F p.used next) (flat_map (pool_listed id (tables_of p.count image)) records) fault a b frames)

  pub Says-layout : (fault : Option HostFault) (a b c : State) → Says (frames_line F p.used next) None a b → Says (flat_map (pool_listed id (tables_of p.count image)) records) fault b c
      → Says (listed_layout (image MACHINE_WORD) (image NEXT_NUMBER_WORD) (tables_of F image)) fault a c
  Says-layout fault a b c frames pools =
      subst (λ (bytes : List ℕ). Says bytes fault a c) listed_layout-read (Says-then (frames_line F p.used next) (flat_map (pool_listed id (tables_of p.count image)) records) fault a b c frames pools)

-- What is printed for sound tables is the text of their image.
pub listed_layout-sound : (frames next : ℕ) (image : Image) → HasSoundTables next (tables_of frames image) → frames ≡ frames_of image
    → listed_layout (image MACHINE_WORD) (image NEXT_NUMBER_WORD) (tables_of frames image) ≡ layout_text image
listed_layout-sound frames next image sound all =
    laid_out next (tables_of frames image) (image MACHINE_WORD) (image NEXT_NUMBER_WORD) sound ∙ ap (λ (F : ℕ). tables_text (image MACHINE_WORD) (image NEXT_NUMBER_WORD) (tables_of F image)) all
