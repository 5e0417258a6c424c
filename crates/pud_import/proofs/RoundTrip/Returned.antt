-- What a pool is imported from comes back in each file that is made of the pool.
use Rattle.std.proofs.Common.{◌≡◌, ℕ, Bool, true, false, not, cond, List, [], ◌∷◌, map, length, slice_index, Option, Some, None, is_none, is_some, nat_cmp, T, refl, sym, ap, ◌∙◌, subst, bytes_eq}
use Rattle.std.specs.List.{list_all}
use Rattle.std.specs.Cmp.{tied_itself}
use Rattle.std.specs.Cmp.Lexicographic.{nat_list_cmp_total}
use Rattle.std.specs.Ordering.{is_eq}
use Rattle.std.specs.FinMap.Entries.{is_sorted, find-put}
use Rattle.std.proofs.lemmas.Bool.{and_parts, cond-true, not-false}
use Rattle.std.proofs.lemmas.Cmp.{nat_cmp_total}
use Rattle.std.proofs.lemmas.Option.{none-some, cond_some}
use Rattle.std.proofs.lemmas.Slice.Eq.{bytes_eq-Decides}
use Rattle.pud_defs.specs.declared.files.TheConstants.{FILE_VERSION_WORD, FILE_TYPES_WORD, FILE_PUDDLES_WORD}
use Rattle.pud_defs.specs.declared.machine.Command.{Command}
use Rattle.pud_defs.specs.declared.machine.Command.TheVariants.{Import, Rewrite}
use Rattle.pud_defs.specs.declared.machine.Refusal.{Refusal}
use Rattle.pud_defs.specs.declared.machine.Refusal.TheVariants as refusals
use Rattle.pud_defs.specs.declared.layout.TheConstants.{TYPE_RECORDS}
use Rattle.pud_defs.specs.declared.records.Puddle.{Puddle}
use Rattle.pud_defs.specs.Formats.Image.{Image}
use Rattle.pud_defs.specs.Formats.Names.{name_cmp}
use Rattle.pud_defs.specs.RegistryTables.Spaces.{Owner}
use Rattle.pud_defs.specs.PoolGraphs.Stored.{Stored}
use Rattle.pud_defs.specs.PoolGraphs.Graph.{Graph, graph_of}
use Rattle.pud_defs.specs.PoolGraphs.ExportFile.{FileContents, words_in, file_types, file_stored, are_file_types, is_file, is_type_used, contents_with, contents_of, file_graph}
use Rattle.pud_defs.specs.Logging.Settled.{settled}
use Rattle.pud_defs.specs.RegistryTables.Registry.{frames_of, has_legal_log, is_registry}
use Rattle.pud_defs.specs.RegistryTables.Types.{type_at}
use Rattle.pud_defs.specs.RegistryTables.Tables.{Pool}
use Rattle.pud_defs.specs.StateMachine.World.{StoredWorld, World, stored_by, registry_world, world_of}
use Rattle.pud_defs.specs.StateMachine.PoolChanges.{pool_named}
use Rattle.pud_defs.specs.StateMachine.Imports.{types_missing, with_types_defined, is_full_for_file, lacks_frames_for_file, imported_pool, with_imported_pool, with_pool_of}
use Rattle.pud_defs.specs.Output.Listing.{name_text}
use Rattle.pud_defs.specs.StateMachine.Step.{contents_in, contents_named, of_contents, clashes_with, refusal_of, owner_acting, after, world_by}
use Rattle.pud_defs.specs.StateMachine.Gives.{Shelf, Exports, contents_of_pool}
use Rattle.pud_defs.proofs.KeyedTables.Keyed.{is_sorted-keyed}
use Rattle.pud_defs.proofs.RegistryTables.TypeLists.{true_when}
use Rattle.pud_defs.proofs.StateMachine.PoolRefusals.{importing_refusal, refusal_of-import}
use Rattle.pud_defs.proofs.StateMachine.Changing.{is_sorted-after}
use Rattle.pud_defs.proofs.StateMachine.Steps.{refused_world, done_world}
use Rattle.pud_import.specs.Rewrites.{after_rewrites}
use Rattle.pud_import.proofs.RoundTrip.TypesBrought.{types_used-later}

-- ---- what a file contains

cond_there : {A : Type 0} (b : Bool) (o : Option A) (x : A) → cond b o None ≡ Some x → (b ≡ true) × (o ≡ Some x)
cond_there true o x is = (refl, is)
cond_there false o x is = absurd (none-some x is)

-- Some frames store the graph by these types, and each type is legal and used.
record IsStored (contents : FileContents) : Type 0 where
  stored : Stored
  legal : are_file_types contents.types ≡ true
  graph : graph_of contents.types stored ≡ Some contents.graph
  used : list_all (λ t. is_type_used t.0 contents.graph) contents.types ≡ true

stored_by_graph : (types : List (ℕ × ℕ)) (classes : List ℕ) (st : Stored) (contents : FileContents) (g : Option Graph) → graph_of types st ≡ g → are_file_types types ≡ true → contents_with types classes g ≡ Some contents → IsStored contents
stored_by_graph types classes st contents None graph legal is = absurd (none-some contents is)
stored_by_graph types classes st contents (Some g) graph legal is =
    let found = cond_some (list_all (λ t. is_type_used t.0 g) types) (record { types = types; classes = classes; graph = g }) contents is in
    subst IsStored found.1 (record { stored = st; legal = legal; graph = graph; used = found.0 })

stored_in_file : (bytes : List ℕ) (contents : FileContents) → file_graph bytes ≡ Some contents → IsStored contents
unfolding file_graph contents_of is_file
stored_in_file bytes contents is =
    let words = slice_index (words_in bytes) in
    let V = words FILE_VERSION_WORD in
    let T = words FILE_TYPES_WORD in
    let K = words FILE_PUDDLES_WORD in
    let types = file_types words T in
    let st = file_stored words V T K in
    let classes = map (λ (d : Puddle). d.class) st.puddles in
    let whole = cond_there _ (contents_of (words_in bytes)) contents is in
    let found = cond_there (is_file words (length (words_in bytes)) V T K) (contents_with types classes (graph_of types st)) contents whole.1 in
    let legal = and_parts _ _ (and_parts _ _ (and_parts _ _ (and_parts _ _ found.0).0).0).0 in
    stored_by_graph types classes st contents (graph_of types st) refl legal.1 found.1

stored_in : (bytes : Option (List ℕ)) (contents : FileContents) → contents_in bytes ≡ Some contents → IsStored contents
stored_in None contents is = absurd (none-some contents is)
stored_in (Some bytes) contents is = stored_in_file bytes contents is

-- ---- what prevents an import

passed : (b : Bool) (r : Refusal) (later : Option Refusal) → cond b (Some r) later ≡ None → (b ≡ false) × (later ≡ None)
passed true r later none = absurd (none-some r (sym none))
passed false r later none = (refl, none)

-- The bytes are a file, and none of its types is defined with another map.
record IsTaken (types : List (ℕ × ℕ)) (contents : Option FileContents) : Type 0 where
  read : is_none contents ≡ false
  apart : of_contents (λ c. clashes_with types c.types) contents ≡ false

taken : (who : Option Owner) (found : Option Pool) (bytes : Option (List ℕ)) (types : List (ℕ × ℕ)) (contents : Option FileContents) (full lacks : Bool)
    → importing_refusal who found bytes contents (of_contents (λ c. clashes_with types c.types) contents) full lacks ≡ None → IsTaken types contents
taken who found bytes types contents full lacks none =
    let client = passed (not (is_some who)) refusals.Client _ none in
    let exists = passed (is_some found) refusals.Exists _ client.1 in
    let file = passed (is_none bytes) refusals.File _ exists.1 in
    let bad = passed (is_none contents) refusals.BadFile _ file.1 in
    record { read = bad.0; apart = (passed (of_contents (λ (c : FileContents). clashes_with types c.types) contents) refusals.Clash _ bad.1).0 }

-- ---- the pool

-- the pool contains what the file contains
held_of : (name : List ℕ) (owner : Owner) (mode : ℕ) (s : StoredWorld) (contents : FileContents) → T (is_sorted nat_cmp (with_imported_pool name owner mode contents s).types) → clashes_with s.types contents.types ≡ false → IsStored contents
    → contents_of_pool (with_imported_pool name owner mode contents s).types (pool_named name (with_imported_pool name owner mode contents s)) ≡ Some contents
unfolding with_imported_pool
held_of name owner mode s contents order apart is =
    let typed = with_types_defined (types_missing s.types contents.types) s in
    let pool = imported_pool owner mode s.next_number contents in
    let sorted = and_parts _ (is_sorted nat_cmp contents.types) is.legal in
    ap (contents_of_pool typed.types) (find-put name_cmp nat_list_cmp_total name name pool typed.pools ∙ cond-true _ _ _ (ap is_eq (tied_itself nat_list_cmp_total name)))
    ∙ ap (λ (types : List (ℕ × ℕ)). Some (record contents { types = types })) (types_used-later s contents.types contents.graph is.stored order sorted.1 apart is.graph is.used)

-- a line that rewrites the pool does not change the world
rewrite_leaves : (name : List ℕ) (n : ℕ) (w : World) (o : Option Refusal) → refusal_of w (Rewrite name n) ≡ o → world_by w (Some (Rewrite name n)) ≡ w
unfolding after
rewrite_leaves name n w None free = done_world w (Rewrite name n) free
rewrite_leaves name n w (Some r) refused = refused_world w (Rewrite name n) r refused

rewrites_leave : (name : List ℕ) (steps : List ℕ) (w : World) → after_rewrites name steps w ≡ w
rewrites_leave name [] w = refl
rewrites_leave name (n ∷ steps) w = rewrites_leave name steps (world_by w (Some (Rewrite name n))) ∙ rewrite_leaves name n w (refusal_of w (Rewrite name n)) refl

-- the file into which a pool is exported contains what the pool contains
exported_file : (w : World) (name file : List ℕ) (shelf : Shelf) → Exports w name file shelf → contents_in (shelf file) ≡ contents_of_pool w.stored.types (pool_named name w.stored)
exported_file w name file shelf e =
    ap (λ (other : Shelf). contents_in (other file)) e.given ∙ ap contents_in (cond-true (bytes_eq file file) (Some e.bytes) (w.shelf file) ((bytes_eq-Decides file file).1 refl)) ∙ e.holds ∙ sym e.held

-- ---- what a device stands for

sorted_by : (size : ℕ) (image : Image) (s : StoredWorld) → registry_world size image ≡ Some s → T (is_sorted nat_cmp s.types)
unfolding registry_world stored_by
sorted_by size image s is =
    let found = cond_some (is_registry size image) (stored_by image) s is in
    subst (λ (v : StoredWorld). T (is_sorted nat_cmp v.types)) found.1 (is_sorted-keyed nat_cmp nat_cmp_total (type_at image) 0 TYPE_RECORDS)

-- the types of such a world stand by ascending ids
pub is_ordered : (size : ℕ) (image : Image) (s : StoredWorld) → world_of size image ≡ Some s → is_sorted nat_cmp s.types ≡ true
unfolding world_of
is_ordered size image s is =
    let found = cond_there (has_legal_log image) (registry_world size (settled (frames_of image) image)) s is in
    true_when _ (sorted_by size (settled (frames_of image) image) s found.1)

-- ---- the line

module _ (w : World) (client mode : ℕ) (name file : List ℕ) (free : refusal_of w (Import client name file mode) ≡ None) where
  abbrev asked : Command
  asked = Import client name file mode

  abbrev held : Option FileContents
  held = contents_named w asked

  is_taken : IsTaken w.stored.types held
  is_taken =
      taken (w.clients client) (pool_named name w.stored) (w.shelf (name_text file)) w.stored.types held (of_contents (is_full_for_file w.stored) held) (of_contents (lacks_frames_for_file w.stored) held)
      (sym (refusal_of-import w client mode name file (w.shelf (name_text file)) held refl refl) ∙ free)

  pub is_read : is_some held ≡ true
  is_read = not-false (is_some held) is_taken.read

  by_contents : (o : Option FileContents) → held ≡ o → IsTaken w.stored.types o
      → let s = with_pool_of o name (owner_acting w.clients client) mode w.stored in T (is_sorted nat_cmp s.types) → contents_of_pool s.types (pool_named name s) ≡ o
  by_contents None is none order = absurd (let no : true ≡ false = none.read in cc)
  by_contents (Some contents) is none order = held_of name (owner_acting w.clients client) mode w.stored contents order none.apart (stored_in (w.shelf (name_text file)) contents is)

  pub is_held : is_sorted nat_cmp w.stored.types ≡ true → contents_of_pool (after w asked).stored.types (pool_named name (after w asked).stored) ≡ held
  unfolding after
  is_held sorted = by_contents held refl is_taken (is_sorted-after w asked (subst T (sym sorted) tt))

  pub is_exported : is_sorted nat_cmp w.stored.types ≡ true → (steps again : List ℕ) (shelf : Shelf) → Exports (after_rewrites name steps (after w asked)) name again shelf → contents_in (shelf again) ≡ held
  is_exported sorted steps again shelf e =
      exported_file (after_rewrites name steps (after w asked)) name again shelf e
      ∙ ap (λ (v : World). contents_of_pool v.stored.types (pool_named name v.stored)) (rewrites_leave name steps (after w asked)) ∙ is_held sorted
