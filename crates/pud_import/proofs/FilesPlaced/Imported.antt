-- A file that is placed on a device whose images stand for one world: whatever a power loss leaves stands for that
-- world, or for the one that has the pool too.
use Rattle.std.proofs.Common.{◌≡◌, ℕ, ◌+◌, ◌<◌, ◌≤◌, Bool, true, false, ltb, cond, List, map, length, nat_cmp, Option, Some, None, option_map, [], inr, is_some, refl, sym, ap, ap₂, subst, ◌∙◌, arith}
use Rattle.std.specs.Prelude.{slice_get, ⊤}
use Rattle.std.specs.List.{list_all, range_with_len}
use Rattle.std.proofs.lemmas.Option.{slice_get-map}
use Rattle.std.proofs.lemmas.List.{length-map}
use Rattle.std.proofs.lemmas.List.Folds.{list_all-map}
use Rattle.std.proofs.lemmas.Simd.{map-map}
use Rattle.pm_model.specs.declared.host.HostFault.{HostFault}
use Rattle.pm_model.specs.Words.{Picks, reads}
use Rattle.pm_model.specs.Moments.{State}
use Rattle.pm_model.specs.Changes.{Write, Changes}
use Rattle.pm_model.specs.Masks.{masked_state}
use Rattle.pm_model.proofs.Words.{Picks-reads}
use Rattle.pm_model.proofs.Masks.{reads-masked, HasOnly-masked, IsOff-none, Changes-masked}
use Rattle.pud_defs.specs.declared.layout.TheConstants.{DAEMON_LOG, NEXT_NUMBER_WORD, TYPE_TABLE, TYPE_RECORDS}
use Rattle.pud_defs.specs.declared.records.TheConstants.{MAX_PUDDLES}
use Rattle.pud_defs.specs.declared.records.PoolRecord.{PoolRecord}
use Rattle.pud_defs.specs.declared.records.Puddle.{Puddle}
use Rattle.pud_defs.specs.declared.space.TheConstants.{CLASSES, SLOT_TYPE_WORD}
use Rattle.pud_defs.specs.Formats.Geometry.{steps_of}
use Rattle.pud_defs.specs.Formats.Image.{Image}
use Rattle.pud_defs.specs.Formats.Layout.{frames_at}
use Rattle.pud_defs.specs.Formats.Frames.{frame_at}
use Rattle.pud_defs.specs.PoolGraphs.Graph.{graph_of}
use Rattle.pud_defs.specs.PoolGraphs.Stored.{Stored, place_word, stored_in}
use Rattle.pud_defs.specs.PoolGraphs.ExportFile.{FileContents, file_puddle, file_graph, are_file_types, are_file_bases, are_file_classes}
use Rattle.pud_defs.specs.StateMachine.Imports.{types_missing, with_types_defined, with_imported_pool}
use Rattle.pud_defs.specs.RegistryTables.Spaces.{Owner, owner}
use Rattle.pud_defs.specs.PoolGraphs.Holdings.{held_as, holding_in}
use Rattle.pud_defs.specs.PoolGraphs.Holdings.Holding.{Sound}
use Rattle.pud_defs.proofs.RegistryTables.PuddlesPlaced.{file_bases_distinct}
use Rattle.pud_defs.specs.RegistryTables.Placement.{ArePlacedFrom}
use Rattle.pud_defs.specs.Logging.Replay.{settled_by}
use Rattle.pud_defs.specs.StateMachine.Step.{clashes_with}
use Rattle.pud_defs.specs.RegistryTables.Tables.{Tables, tables_of}
use Rattle.pud_defs.specs.RegistryTables.Types.{type_record_at, type_at, types_of}
use Rattle.pud_defs.specs.StateMachine.World.{StoredWorld}
use Rattle.pud_defs.proofs.StateMachine.IdleWorlds.{standing_of_idle_world}
use Rattle.pud_defs.proofs.KeyedTables.Keyed.{keyed-same, option_map_parts}
use Rattle.pud_defs.proofs.StateMachine.Parts.{Types}
use Rattle.pud_defs.proofs.Logging.Replay.{settled_by-idle, outside_log}
use Rattle.pud_defs.proofs.RegistryTables.TablesOf.{frames_of_tables, tables_of-same}
use Rattle.pud_defs.proofs.PoolGraphs.TypeMore.{graph_of-wider}
use Rattle.pud_defs.proofs.RegistryTables.TypeTable.{type_at-same}
use Rattle.batch.specs.Worlds.{IsQuiescent}
use Rattle.batch.proofs.Tables.{reads_kept}
use Rattle.graph_laws.specs.Placed.{AreAtEnd}
use Rattle.registry.specs.declared.adding.NewPuddle.{NewPuddle}
use Rattle.registry.specs.declared.placing.NewType.{NewType}
use Rattle.registry.specs.Placing.{type_of, added_classes, puddle_of_added, IsPlacedFor, with_placed_pool, MayPlace}
use Rattle.registry.specs.Pools.{new_record, ChangesPools, ChangesMasked}
use Rattle.registry.proofs.Moved.{settled_frames, reads_world}
use Rattle.pud_import.specs.Contents.{file_image, version_read, type_count_read, puddle_count_read, types_held, stored_held, bases_held, classes_held, contents_read}
use Rattle.pud_import.specs.Filling.{IsFrameWord, ByFrames, AreFilled, filled_value}
use Rattle.pud_import.specs.declared.placing.PlaceFault.TheVariants as faults
use Rattle.pud_import.specs.Places.{FramesRise}
use Rattle.pud_import.specs.Placing.{Placement, MayImport}
use Rattle.pud_import.proofs.FileChecks.FileParts.{exportable, contents_of_file}
use Rattle.pud_import.proofs.FileChecks.UsedPlaces.{puddles-file}
use Rattle.pud_import.proofs.FilesPlaced.FilledWorlds.{AreFree, not_before, IsQuiescent-frames, HasDurableTables-frames, ChangesPools-unfilled, ChangesPools-filled}
use Rattle.pud_import.proofs.FilesPlaced.PlacedApart.{free_placed, MayBePlaced-file}
use Rattle.pud_import.proofs.FilesPlaced.PlacedPuddles.{placed_rise}
use Rattle.pud_import.proofs.FilesPlaced.PlacedWorlds.{IsPlacedFor-same, HoldFile, graph_of-filled}
use Rattle.pud_import.proofs.FilesPlaced.TypesWider.{defined_then}

-- ---- what a file contains

-- The contents are those of these frames. The frames are legal, and each pointer stands over the bases.
pub record HoldsFile (file : FileContents) (stored : Stored) : Type 0 where
  pub types : are_file_types file.types ≡ true
  pub bases : are_file_bases stored.puddles ≡ true
  pub classes : map (λ d. d.class) stored.puddles ≡ file.classes
  pub known : are_file_classes stored.puddles ≡ true
  pub some : 1 ≤ length stored.puddles
  pub few : length stored.puddles ≤ MAX_PUDDLES
  pub ends : AreAtEnd stored.puddles
  pub graph : graph_of file.types stored ≡ Some file.graph

-- a file's contents are those of its own frames
pub file_held : (bytes : List ℕ) (file : FileContents) → file_graph bytes ≡ Some file → HoldsFile file (stored_held bytes)
file_held bytes file is =
    let there : is_some (file_graph bytes) ≡ true = ap is_some is in
    let parts = option_map_parts (contents_read bytes) (graph_of (types_held bytes) (stored_held bytes)) file (sym (contents_of_file bytes there) ∙ is) in
    let legal = exportable bytes there in
    let types : types_held bytes ≡ file.types = ap (λ (f : FileContents). f.types) parts.gives in
    let K = puddle_count_read bytes in
    let words = file_image bytes in
    record {
      types = sym (ap are_file_types types) ∙ legal.legal_types;
      bases = legal.legal_bases;
      classes = ap (λ (f : FileContents). f.classes) parts.gives;
      known = legal.legal_classes;
      some = legal.some;
      few = legal.few;
      ends = record {
        each = λ o d at.
            let puddle = option_map_parts (file_puddle words (version_read bytes) (type_count_read bytes) K) (slice_get (range_with_len 0 K) o) d (sym (slice_get-map (file_puddle words (version_read bytes) (type_count_read bytes) K) (range_with_len 0 K) o) ∙ at) in
            subst (λ (d : Puddle). d.frontier ≡ steps_of d) puddle.gives refl;
      };
      graph = ap (λ (ts : List (ℕ × ℕ)). graph_of ts (stored_held bytes)) (sym types) ∙ parts.is ∙ ap (λ (f : FileContents). Some f.graph) parts.gives;
    }

-- the types and the number of puddles that a file lists are those of its contents
pub types_of_file : (bytes : List ℕ) (file : FileContents) → file_graph bytes ≡ Some file → (types_held bytes ≡ file.types) × (puddle_count_read bytes ≡ length file.classes)
types_of_file bytes file is =
    let there : is_some (file_graph bytes) ≡ true = ap is_some is in
    let parts = option_map_parts (contents_read bytes) (graph_of (types_held bytes) (stored_held bytes)) file (sym (contents_of_file bytes there) ∙ is) in
    let st = stored_held bytes in (
      ap (λ (f : FileContents). f.types) parts.gives,
      sym (puddles-file (file_image bytes) (version_read bytes) (type_count_read bytes) (puddle_count_read bytes)) ∙ sym (length-map st.puddles (λ (d : Puddle). d.class)) ∙ ap (λ (f : FileContents). length f.classes) parts.gives,
    )

-- ---- free frames

pub are_free : (F : ℕ) (t : Tables) (wanted : List ℕ) (puddles : List NewPuddle) → t.frames ≡ F → ArePlacedFrom t 0 [] wanted (map puddle_of_added puddles) → AreFree F t puddles
are_free F t wanted puddles frames placed =
    let one = λ (o : ℕ) (a : NewPuddle) (is : slice_get puddles o ≡ Some a). free_placed t 0 [] wanted (map puddle_of_added puddles) placed o (puddle_of_added a) (slice_get-map puddle_of_added puddles o ∙ ap (option_map puddle_of_added) is) in
    record {
      within = λ o a is. let below = (one o a is).0 in omega arith;
      free = λ o a is. (one o a is).1;
    }

-- ---- no type clashes

no_clash : (clash full lacks : Bool) → cond clash (Some faults.Clash) (cond full (Some faults.Full) (cond lacks (Some faults.NoSpace) None)) ≡ None → clash ≡ false
no_clash true full lacks none = cc
no_clash false full lacks none = refl

-- ---- what was found, by equal lists

pub placed_lists : {F slot : ℕ} {i : Image} {own file : List (ℕ × ℕ)} {wanted classes : List ℕ} {r : PoolRecord} {found new : List NewType} {listed puddles : List NewPuddle} → own ≡ file → new ≡ found → puddles ≡ listed
    → IsPlacedFor F i own wanted classes slot r found listed → IsPlacedFor F i file wanted classes slot r new puddles
placed_lists {F = F} {slot = slot} {i = i} {own = own} {wanted = wanted} {classes = classes} {r = r} {found = found} {new = new} {puddles = puddles} same_file same_new same_puddles is =
    subst (λ (ts : List (ℕ × ℕ)). IsPlacedFor F i ts wanted classes slot r new puddles) same_file
    (subst (λ (ts : List NewType). IsPlacedFor F i own wanted classes slot r ts puddles) (sym same_new)
    (subst (λ (ps : List NewPuddle). IsPlacedFor F i own wanted classes slot r found ps) (sym same_puddles) is))

-- the same from the state before, if only reads came in between
pub import_after : {size F slot : ℕ} {s next : StoredWorld} {r : PoolRecord} {file : FileContents} {stored : Stored} {wanted classes : List ℕ} {new : List NewType} {puddles : List NewPuddle} {mask : Write} {fault : Option HostFault} {old read : State} (later : State) → read ≡ old
    → (MayImport size s F r.name r.uid r.gid r.mode file stored mask read.now.words → IsPlacedFor F (reads read.now.words) file.types wanted classes slot r new puddles → ChangesMasked mask size s next (λ _. ⊤) fault read later)
    → MayImport size s F r.name r.uid r.gid r.mode file stored mask old.now.words → IsPlacedFor F (reads old.now.words) file.types wanted classes slot r new puddles → ChangesMasked mask size s next (λ _. ⊤) fault old later
import_after {size = size} {F = F} {slot = slot} {s = s} {next = next} {r = r} {file = file} {stored = stored} {wanted = wanted} {classes = classes} {new = new} {puddles = puddles} {mask = mask} {fault = fault} later same =
    subst
    (λ (a : State). MayImport size s F r.name r.uid r.gid r.mode file stored mask a.now.words → IsPlacedFor F (reads a.now.words) file.types wanted classes slot r new puddles → ChangesMasked mask size s next (λ _. ⊤) fault a later)
    same

-- ---- the world

-- the world with a placed pool that has the graph of a file is the world with the imported pool
placed_as_imported : (name : List ℕ) (whose : Owner) (mode : ℕ) (file : FileContents) (s : StoredWorld)
    → with_placed_pool name whose mode (types_missing s.types file.types) file.classes (Sound file.graph) s ≡ with_imported_pool name whose mode file s
unfolding with_placed_pool with_imported_pool
placed_as_imported name whose mode file s = refl

module _ (size : ℕ) (s : StoredWorld) (name : List ℕ) (uid gid mode : ℕ) (file : FileContents) (stored : Stored) (mask : Write) (p : Placement) (old mid : State) (h : HoldsFile file stored)
    (m : MayImport size s s.frames name uid gid mode file stored mask old.now.words) where
  abbrev F : ℕ
  F = s.frames

  abbrev image : Image
  image = reads old.now.words

  abbrev rec : PoolRecord
  rec = new_record name uid gid mode (image NEXT_NUMBER_WORD)

  abbrev wanted : List ℕ
  wanted = map (λ (d : Puddle). d.base) stored.puddles

  abbrev classes : List ℕ
  classes = map (λ (d : Puddle). d.class) stored.puddles

  abbrev a : State
  a = masked_state mask old

  abbrev b : State
  b = masked_state mask mid

  same_tables : tables_of F (reads a.now.words) ≡ tables_of F image
  same_tables = ap (tables_of F) (reads-masked mask old.now.words) ∙ m.keeps.tables

  -- the types that are read are those of the world
  types_read : types_of image ≡ s.types
  types_read =
      let read = reads a.now.words in
      let picked = Picks-reads a.now.words in
      let closed = m.settled.idle (read DAEMON_LOG) (picked.each DAEMON_LOG) in
      let stands = standing_of_idle_world size read s (m.settled.stands read picked) in
      let word : (k : ℕ) → TYPE_TABLE ≤ k → settled_by DAEMON_LOG read k ≡ read k = λ k high. settled_by-idle DAEMON_LOG read k closed (outside_log DAEMON_LOG k (inr (omega arith))) in
      keyed-same nat_cmp (type_at image) (type_at (settled_by DAEMON_LOG read)) 0 TYPE_RECORDS
      (λ n low high. sym (m.types.each n (omega arith)) ∙ sym (type_at-same read (settled_by DAEMON_LOG read) n (word (type_record_at n) (omega arith)) (word (type_record_at n + 1) (omega arith))))
      ∙ (stands.holds Types).types

  module _ (is : IsPlacedFor F image file.types wanted classes p.slot rec p.types p.puddles) where
    are : AreFree F (tables_of F (reads a.now.words)) p.puddles
    are = subst (λ (t : Tables). AreFree F t p.puddles) (sym same_tables) (are_free F (tables_of F image) wanted p.puddles (frames_of_tables F image) is.placed.turn)

    -- if the frames could not be filled, each image stands for the world before
    pub import_unfilled : (next : StoredWorld) (fault : HostFault) → Changes (ByFrames F p.puddles) (Some fault) old mid → ChangesPools size s next (λ _. ⊤) (Some fault) a b
    import_unfilled next fault c =
        ChangesPools-unfilled size s p.puddles (Some fault) a b m.settled m.tables are (Changes-masked mask (ByFrames F p.puddles) (Some fault) old mid c) next (λ _. ⊤) (λ none. let no : Some fault ≡ None = none in cc)

    module _ (count : length p.puddles ≡ length stored.puddles) (c : Changes (ByFrames F p.puddles) None old mid) (filled : AreFilled F stored p.puddles mid.now.words) where
      there : Changes (ByFrames F p.puddles) None a b
      there = Changes-masked mask (ByFrames F p.puddles) None old mid c

      kept : (k : ℕ) → k < frames_at F → reads b.now.words k ≡ reads a.now.words k
      kept k below = reads_kept (ByFrames F p.puddles) a b k there (λ v. not_before size s p.puddles None a b m.settled m.tables are there k v below)

      settled_then : IsQuiescent size s b.now.words
      settled_then = IsQuiescent-frames size s p.puddles None a b m.settled m.tables are there

      still_placed : IsPlacedFor F (reads b.now.words) file.types wanted classes p.slot rec p.types p.puddles
      still_placed = IsPlacedFor-same F image (reads b.now.words)
          (tables_of-same F (reads b.now.words) (reads a.now.words) (λ k low high. kept k (omega arith)) (λ k low high. kept k (omega arith)) ∙ same_tables)
          (kept NEXT_NUMBER_WORD (omega arith) ∙ ap (λ (i : Image). i NEXT_NUMBER_WORD) (reads-masked mask old.now.words) ∙ m.keeps.number)
          (λ k below. type_at-same (reads a.now.words) (reads b.now.words) k (kept (type_record_at k) (omega arith)) (kept (type_record_at k + 1) (omega arith)) ∙ m.types.each k below)
          file.types wanted classes p.slot rec p.types p.puddles is

      -- in each image these frames store what the file stores
      holds_file : (i : Image) → Picks b.now.words i → HoldFile F stored p.puddles (settled_by DAEMON_LOG i)
      holds_file i picked = record {
        each = λ o k d at few.
            let w = frame_at F d.frame + k in
            let v = filled_value stored o d.puddle.number k in
            let of : IsFrameWord F p.puddles w = record { ordinal = o; added = d; there = at; word = record { low = omega arith; high = omega arith } } in
            settled_frames size s b.now.words i w settled_then picked (omega arith)
            ∙ (HasOnly-masked mask mid.now.words w v (IsOff-none mask (ByFrames F p.puddles) w v (m.off.each p is).0 of) (filled.each o k d at few)).each (i w) (picked.each w);
      }

      -- and they store the graph of the file, by the types that are defined then
      holds_graph : (i : Image) → Picks b.now.words i → graph_of (with_types_defined (types_missing s.types file.types) s).types (stored_in F (map puddle_of_added p.puddles) (settled_by DAEMON_LOG i)) ≡ Some file.graph
      holds_graph i picked =
          let now = settled_by DAEMON_LOG i in
          let later = stored_in F (map puddle_of_added p.puddles) now in
          let wide = (with_types_defined (types_missing s.types file.types) s).types in
          let none : clashes_with s.types file.types ≡ false = ap (λ (ts : List (ℕ × ℕ)). clashes_with ts file.types) (sym types_read) ∙ no_clash (clashes_with (types_of image) file.types) _ _ m.none in
          graph_of-wider file.types wide later file.graph (record { each = λ q k below live known. defined_then file.types s (place_word later q SLOT_TYPE_WORD) k h.types none known })
          (graph_of-filled F stored p.puddles now count (holds_file i picked) (tables_of F image) (image NEXT_NUMBER_WORD) file.types file.graph h.some h.ends is.placed h.graph)

      -- the types that the pool brings, and the world with the pool
      brought : map type_of p.types ≡ types_missing s.types file.types
      brought = is.types_are ∙ ap (λ (ts : List (ℕ × ℕ)). types_missing ts file.types) types_read

      its_classes : added_classes p.puddles ≡ file.classes
      its_classes = sym (map-map (λ (e : ℕ × Puddle). e.1.class) puddle_of_added p.puddles) ∙ is.placed.alike ∙ h.classes

      imported : with_placed_pool name (owner uid gid) mode (map type_of p.types) (added_classes p.puddles) (Sound file.graph) s ≡ with_imported_pool name (owner uid gid) mode file s
      imported = ap₂ (λ (ts : List (ℕ × ℕ)) (cs : List ℕ). with_placed_pool name (owner uid gid) mode ts cs (Sound file.graph) s) brought its_classes ∙ placed_as_imported name (owner uid gid) mode file s

      classes_known : list_all (λ class. ltb class CLASSES) classes ≡ true
      classes_known = list_all-map (λ class. ltb class CLASSES) (λ (d : Puddle). d.class) stored.puddles ∙ h.known

      number_low : 1 ≤ rec.number
      number_low =
          let world = reads_world size s a.now.words m.settled m.tables in
          let low = world.low in
          omega (arith, sym m.keeps.number ∙ sym (ap (λ (i : Image). i NEXT_NUMBER_WORD) (reads-masked mask old.now.words)) ∙ world.number)

      may_place : MayPlace size s F (Sound file.graph) p.slot rec p.types p.puddles mask mid.now.words
      may_place = record {
        frames = refl;
        off = (m.off.each p is).1;
        settled = settled_then;
        tables = HasDurableTables-frames size s p.puddles None a b m.settled m.tables are there;
        legal = m.legal;
        some = let some = h.some in omega arith;
        few = let few = h.few in omega arith;
        may = MayBePlaced-file F (reads b.now.words) file.types wanted classes p.slot rec p.types p.puddles still_placed (file_bases_distinct stored.puddles h.bases) classes_known number_low h.types;
        holds = λ i picked.
            let now = settled_by DAEMON_LOG i in
            ap (λ (ts : List (ℕ × ℕ)). holding_in (with_types_defined ts s).types F now (map puddle_of_added p.puddles)) brought
            ∙ ap (held_as (stored_in F (map puddle_of_added p.puddles) now)) (holds_graph i picked);
      }

      -- if they were filled, the batch is written after that
      pub import_filled : (fault : Option HostFault) (new : State)
          → (MayPlace size s F (Sound file.graph) p.slot rec p.types p.puddles mask mid.now.words
          → ChangesPools size s (with_placed_pool name (owner uid gid) mode (map type_of p.types) (added_classes p.puddles) (Sound file.graph) s) (λ _. ⊤) fault b (masked_state mask new))
          → ChangesPools size s (with_imported_pool name (owner uid gid) mode file s) (λ _. ⊤) fault a (masked_state mask new)
      import_filled fault new places =
          ChangesPools-filled size s p.puddles (with_imported_pool name (owner uid gid) mode file s) (λ _. ⊤) fault a b (masked_state mask new) m.settled m.tables are there
          (subst (λ (next : StoredWorld). ChangesPools size s next (λ _. ⊤) fault b (masked_state mask new)) imported (places may_place))

-- ---- on a device of F frames

module _ (size : ℕ) (s : StoredWorld) (F slot : ℕ) (r : PoolRecord) (new : List NewType) (puddles : List NewPuddle) (bytes : List ℕ) (file : FileContents) (held : file_graph bytes ≡ Some file) (mask : Write) (old mid : State)
    (is : IsPlacedFor F (reads old.now.words) file.types (bases_held bytes) (classes_held bytes) slot r new puddles) where
  abbrev stored : Stored
  stored = stored_held bytes

  abbrev bases : List ℕ
  bases = bases_held bytes

  abbrev kinds : List ℕ
  kinds = classes_held bytes

  abbrev p : Placement
  p = record { slot = slot; types = new; puddles = puddles }

  abbrev h : HoldsFile file stored
  h = file_held bytes file held

  abbrev drawn : PoolRecord
  drawn = new_record r.name r.uid r.gid r.mode (reads old.now.words NEXT_NUMBER_WORD)

  abbrev May : ℕ → Type 0
  May n = MayImport size s n r.name r.uid r.gid r.mode file stored mask old.now.words

  abbrev Placed : ℕ → PoolRecord → Type 0
  Placed n r = IsPlacedFor n (reads old.now.words) file.types bases kinds slot r new puddles

  abbrev Then : ℕ → PoolRecord → Type 0
  Then n r = MayPlace size s n (Sound file.graph) slot r new puddles mask mid.now.words

  abbrev Moves : StoredWorld → Option HostFault → State → State → Type 0
  Moves next fault a b = ChangesMasked mask size s next (λ _. ⊤) fault a b

  is_drawn : r ≡ drawn
  is_drawn = ap (new_record r.name r.uid r.gid r.mode) is.number

  pub ChangesPools-unfilled_import : (next : StoredWorld) (fault : HostFault) → May F → Changes (ByFrames F puddles) (Some fault) old mid → Moves next (Some fault) old mid
  ChangesPools-unfilled_import next fault m =
      subst (λ (n : ℕ). May n → Placed n drawn → Changes (ByFrames n puddles) (Some fault) old mid → Moves next (Some fault) old mid) (sym m.frames)
      (λ m is c. import_unfilled size s r.name r.uid r.gid r.mode file stored mask p old mid h m is next fault c) m (subst (Placed F) is_drawn is)

  abbrev placed : StoredWorld
  placed = with_placed_pool r.name (owner r.uid r.gid) r.mode (map type_of new) (added_classes puddles) (Sound file.graph) s

  pub ChangesPools-filled_import : (fault : Option HostFault) (later : State) → May F → length puddles ≡ puddle_count_read bytes → Changes (ByFrames F puddles) None old mid
      → (FramesRise puddles → ◌≡◌ {A = Option HostFault} None None → AreFilled F stored puddles mid.now.words) → (Then F r → Moves placed fault mid later)
      → Moves (with_imported_pool r.name (owner r.uid r.gid) r.mode file s) fault old later
  ChangesPools-filled_import fault later m count c filled places =
      let next = with_imported_pool r.name (owner r.uid r.gid) r.mode file s in
      subst
      (λ (n : ℕ). May n → Placed n drawn → length puddles ≡ length stored.puddles → Changes (ByFrames n puddles) None old mid → AreFilled n stored puddles mid.now.words → (Then n drawn → Moves placed fault mid later) → Moves next fault old later)
      (sym m.frames) (λ m is count c filled places. import_filled size s r.name r.uid r.gid r.mode file stored mask p old mid h m is count c filled fault later places) m (subst (Placed F) is_drawn is)
      (count ∙ sym (puddles-file (file_image bytes) (version_read bytes) (type_count_read bytes) (puddle_count_read bytes))) c (filled (placed_rise F (reads old.now.words) file.types bases kinds slot r new puddles is) refl) (λ may. places (subst (Then F) (sym is_drawn) may))
