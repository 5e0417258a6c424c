-- Why a line that makes a pool from a file is refused, and that a file is not placed for the same reasons.
use Rattle.std.proofs.Common.{◌≡◌, ℕ, ◌+◌, Bool, true, false, not, cond, ◌||◌, leb, ltb, List, length, Option, Some, None, Result, Ok, Err, is_some, is_none, refl, sym, ap, sum_by, ◌∙◌}
use Rattle.std.specs.Prelude.{IfOk, unwrap_or}
use Rattle.std.specs.FinMap.Entries.{find}
use Rattle.pm_model.specs.declared.host.HostFault.{HostFault}
use Rattle.pm_model.specs.Counts.{fault_of}
use Rattle.pm_model.specs.Words.{reads}
use Rattle.pm_model.specs.Moments.{State}
use Rattle.pm_model.specs.Masks.{masked}
use Rattle.pud_defs.specs.declared.layout.TheConstants.{NEXT_NUMBER_WORD, NUMBER_LIMIT, TYPE_RECORDS}
use Rattle.pud_defs.specs.declared.records.TheConstants.{POOL_RECORDS}
use Rattle.pud_defs.specs.declared.machine.Command.{Command}
use Rattle.pud_defs.specs.declared.machine.Command.TheVariants.{Import}
use Rattle.pud_defs.specs.declared.machine.Refusal.{Refusal}
use Rattle.pud_defs.specs.declared.machine.Refusal.TheVariants as refusals
use Rattle.pud_defs.specs.PoolGraphs.ExportFile.{FileContents, file_graph}
use Rattle.pud_defs.specs.PoolGraphs.Holdings.{holding_in}
use Rattle.pud_defs.specs.Formats.Image.{Image}
use Rattle.pud_defs.specs.StateMachine.Imports.{types_missing, numbers_drawn, is_full_for_file, lacks_frames_for_file, with_imported_pool, with_pool_of}
use Rattle.pud_defs.specs.RegistryTables.Keyed.{first_free, count_used}
use Rattle.pud_defs.specs.Output.Listing.{name_text}
use Rattle.pud_defs.specs.Formats.Names.{name_cmp}
use Rattle.pud_defs.specs.StateMachine.PoolChanges.{pool_named}
use Rattle.pud_defs.specs.RegistryTables.Spaces.{Owner, owner}
use Rattle.pud_defs.specs.StateMachine.Step.{cause_holds, contents_in, of_contents, clashes_with, refusal_of, after, answer_by}
use Rattle.pud_defs.specs.StateMachine.Step.Answer.{of_reply}
use Rattle.pud_defs.specs.StateMachine.Gives.{may_lack_memory}
use Rattle.pud_defs.specs.RegistryTables.Tables.{Tables, Pool, Reader, tables_of, pool_in}
use Rattle.pud_defs.specs.RegistryTables.Types.{types_of, used_types}
use Rattle.pud_defs.proofs.RegistryTables.TypeTable.{length-types_of}
use Rattle.pud_defs.specs.StateMachine.World.{StoredWorld, World}
use Rattle.pud_defs.proofs.StateMachine.PoolRefusals.{importing_refusal, refusal_of-import, found_by_table, full_by_table}
use Rattle.pud_defs.proofs.RegistryTables.PoolsCounted.{IsMasked, sum_puddles}
use Rattle.pud_defs.proofs.StateMachine.Steps.{answer_is_ok, refused_answer}
use Rattle.pud_defs.proofs.RegistryTables.TablesOf.{pools_beyond, frames_of_tables}
use Rattle.pud_import.specs.declared.placing.PlaceFault.{PlaceFault}
use Rattle.pud_import.specs.declared.placing.PlaceFault.TheVariants as faults
use Rattle.pud_import.specs.Placing.{place_fault, refusal_in, refusal_by}
use Rattle.daemon_memory.specs.Memory.{Memory}
use Rattle.daemon_memory.specs.Ready.{IsReady}
use Rattle.daemon_memory.proofs.PoolChanges.TablesBeside.{header_read, types_read, pools_read, sound_read}
use Rattle.pool_lines.specs.Importing.{MayMakeNamed, reply_of_placing}

-- ---- the line

-- Why a file with these contents is not placed.
abbrev pub placing_refusal : StoredWorld → FileContents → Option Refusal
placing_refusal s c =
    cond (clashes_with s.types c.types) (Some refusals.Clash)
    (cond (is_full_for_file s c) (Some refusals.Full)
    (cond (lacks_frames_for_file s c) (Some refusals.Space) None))

module _ (w : World) (client mode : ℕ) (name file : List ℕ) where
  abbrev line : Command
  line = Import client name file mode

  -- Why the line is refused, by who acts, by the pool of the name, and by what the shelf has under the file's name.
  abbrev refused : Option Owner → Option Pool → Option (List ℕ) → Option FileContents → Option Refusal
  refused who found bytes contents =
      importing_refusal who found bytes contents (of_contents (λ (c : FileContents). clashes_with w.stored.types c.types) contents) (of_contents (is_full_for_file w.stored) contents)
      (of_contents (lacks_frames_for_file w.stored) contents)

  by_shelf : refusal_of w line ≡ refused (w.clients client) (pool_named name w.stored) (w.shelf (name_text file)) (contents_in (w.shelf (name_text file)))
  by_shelf = refusal_of-import w client mode name file (w.shelf (name_text file)) (contents_in (w.shelf (name_text file))) refl refl

  pub import_client : w.clients client ≡ None → refusal_of w line ≡ Some refusals.Client
  import_client none = by_shelf ∙ ap (λ who. refused who (pool_named name w.stored) (w.shelf (name_text file)) (contents_in (w.shelf (name_text file)))) none

  pub import_exists : (who : Owner) (found : Pool) → w.clients client ≡ Some who → pool_named name w.stored ≡ Some found → refusal_of w line ≡ Some refusals.Exists
  import_exists who found acts there = by_shelf ∙ (λ p. refused (acts p) (there p) (w.shelf (name_text file)) (contents_in (w.shelf (name_text file))))

  module _ (uid gid : ℕ) (may : MayMakeNamed w client name uid gid) where
    by_file : (bytes : Option (List ℕ)) (contents : Option FileContents) → w.shelf (name_text file) ≡ bytes → contents_in bytes ≡ contents → refusal_of w line ≡ refused (Some (owner uid gid)) None bytes contents
    by_file bytes contents is active = refusal_of-import w client mode name file bytes contents is active ∙ (λ p. refused (may.acts p) (may.absent p) bytes contents)

    pub import_no_file : w.shelf (name_text file) ≡ None → refusal_of w line ≡ Some refusals.File
    import_no_file none = by_file None None none refl

    -- If there is such a file, an allocation for it may fail.
    pub import_memory : (bytes : List ℕ) → w.shelf (name_text file) ≡ Some bytes → may_lack_memory w line ≡ true
    unfolding may_lack_memory cause_holds
    import_memory bytes there =
        λ p. is_none (cond (not (is_some (may.acts p))) (Some refusals.Client) (cond (is_some (may.absent p)) (Some refusals.Exists) (cond (is_none (there p)) (Some refusals.File) None)))

    module _ (bytes : List ℕ) (there : w.shelf (name_text file) ≡ Some bytes) where
      pub import_bad : file_graph bytes ≡ None → refusal_of w line ≡ Some refusals.BadFile
      import_bad none = by_file (Some bytes) None there none

      pub import_placed : (contents : FileContents) → file_graph bytes ≡ Some contents → refusal_of w line ≡ placing_refusal w.stored contents
      import_placed contents is = by_file (Some bytes) (Some contents) there is

      -- The world that the line gives.
      pub import_gives : (contents : FileContents) → file_graph bytes ≡ Some contents → after w line ≡ record w { stored = with_imported_pool name (owner uid gid) mode contents w.stored }
      unfolding after
      import_gives contents is =
          let active : contents_in (w.shelf (name_text file)) ≡ Some contents = ap contents_in there ∙ is in
          (λ p. record w { stored = with_pool_of (active p) name (unwrap_or (may.acts p) (owner 0 0)) mode w.stored })

-- ---- the tables

-- The reason why a file was not placed, as the machine's refusal.
abbrev pub as_refusal : Option PlaceFault → Option Refusal
as_refusal None = None
as_refusal (Some faults.Clash) = Some refusals.Clash
as_refusal (Some faults.Full) = Some refusals.Full
as_refusal (Some faults.NoSpace) = Some refusals.Space
as_refusal (Some (faults.Host fault)) = None

refusal_by_tests : (clash full lacks : Bool) → cond clash (Some refusals.Clash) (cond full (Some refusals.Full) (cond lacks (Some refusals.Space) None))
    ≡ as_refusal (cond clash (Some faults.Clash) (cond full (Some faults.Full) (cond lacks (Some faults.NoSpace) None)))
refusal_by_tests true full lacks = refl
refusal_by_tests false true lacks = refl
refusal_by_tests false false true = refl
refusal_by_tests false false false = refl

-- This reason is never a fault of the host.
pub no_host_by : (clash full lacks : Bool) (fault : HostFault) → cond clash (Some faults.Clash) (cond full (Some faults.Full) (cond lacks (Some faults.NoSpace) None)) ≡ Some (faults.Host fault) → ⊥
no_host_by true full lacks fault e = cc
no_host_by false true lacks fault e = cc
no_host_by false false true fault e = cc
no_host_by false false false fault e = cc

module _ (size : ℕ) (w : World) (memory : Memory) (s : State) (ready : IsReady size w memory s) (contents : FileContents) where
  abbrev image : Image
  image = reads s.now.words

  abbrev t : Tables
  t = tables_of w.stored.frames image

  beyond : IsMasked t
  beyond = record { beyond = λ slot far. pools_beyond w.stored.frames image slot far }

  -- The machine refuses a file exactly if the tables do.
  pub refused_by_tables : placing_refusal w.stored contents ≡ as_refusal (refusal_by w.stored.frames image contents)
  refused_by_tables =
      let hold : Reader = holding_in w.stored.types w.stored.frames (reads (masked ready.mask s.now.words)) in
      let pools = pools_read size w memory s ready in
      let sound = sound_read size w memory s ready in
      let types : w.stored.types ≡ types_of image = sym (types_read size w memory s ready).types in
      let count : length w.stored.types ≡ used_types image = ap length types ∙ length-types_of image (types_read size w memory s ready).legal in
      let slots : leb POOL_RECORDS (length w.stored.pools) ≡ is_none (first_free t.pools 0 POOL_RECORDS) = ap (λ ps. leb POOL_RECORDS (length ps)) (sym pools) ∙ sym (full_by_table hold w.stored.next_number t sound) in
      let number : w.stored.next_number ≡ image NEXT_NUMBER_WORD = sym (header_read size w memory s ready).next_number in
      let frames : w.stored.frames ≡ t.frames = sym (frames_of_tables w.stored.frames image) in
      let used : sum_by (λ (e : List ℕ × Pool). length e.1.classes) w.stored.pools ≡ count_used t.puddles 0 t.frames =
      ap (sum_by (λ (e : List ℕ × Pool). length e.1.classes)) (sym pools) ∙ sum_puddles w.stored.next_number t sound hold beyond in
      (λ p. cond (clashes_with (types p) contents.types) (Some refusals.Clash)
      (cond (slots p || ltb TYPE_RECORDS (count p + length (types_missing (types p) contents.types)) || ltb NUMBER_LIMIT (number p + numbers_drawn (length contents.classes))) (Some refusals.Full)
      (cond (ltb (frames p) (used p + length contents.classes)) (Some refusals.Space) None)))
      ∙ refusal_by_tests (clashes_with (types_of image) contents.types)
      (is_none (first_free t.pools 0 POOL_RECORDS) || ltb TYPE_RECORDS (used_types image + length (types_missing (types_of image) contents.types)) || ltb NUMBER_LIMIT (image NEXT_NUMBER_WORD + numbers_drawn (length contents.classes)))
      (ltb t.frames (count_used t.puddles 0 t.frames + length contents.classes))

-- If a record of the name is found, there is a pool.
pub found_some : {A : Type 0} (o : Option A) → is_some o ≡ true → (x : A) × (o ≡ Some x)
found_some None is = absurd (let no : false ≡ true = is in cc)
found_some (Some x) is = (x, refl)

found_none : {A : Type 0} (o : Option A) → is_some o ≡ false → o ≡ None
found_none None is = refl
found_none (Some x) is = absurd (let no : true ≡ false = is in cc)

module _ (size : ℕ) (w : World) (memory : Memory) (s : State) (ready : IsReady size w memory s) (name : List ℕ) where
  pub named_same : is_some (pool_named name w.stored) ≡ is_some (pool_in (tables_of w.stored.frames (reads s.now.words)) name)
  named_same =
      let hold : Reader = holding_in w.stored.types w.stored.frames (reads (masked ready.mask s.now.words)) in
      ap (λ ps. is_some (find name_cmp name ps)) (sym (pools_read size w memory s ready)) ∙ sym (found_by_table hold (tables_of w.stored.frames (reads s.now.words)) name)

  pub named_there : is_some (pool_in (tables_of w.stored.frames (reads s.now.words)) name) ≡ true → (p : Pool) × (pool_named name w.stored ≡ Some p)
  named_there is = found_some (pool_named name w.stored) (named_same ∙ is)

  pub named_none : is_some (pool_in (tables_of w.stored.frames (reads s.now.words)) name) ≡ false → pool_named name w.stored ≡ None
  named_none is = found_none (pool_named name w.stored) (named_same ∙ is)

  -- If the world has no pool of the name, the tables have none.
  pub absent_in : pool_named name w.stored ≡ None → pool_in (tables_of w.stored.frames (reads s.now.words)) name ≡ None
  absent_in none = found_none (pool_in (tables_of w.stored.frames (reads s.now.words)) name) (sym named_same ∙ ap is_some none)

-- ---- the reply

pub fault_of_placing : (done : Result (Unit {0}) PlaceFault) → fault_of (reply_of_placing done) ≡ place_fault done
fault_of_placing (Ok x) = refl
fault_of_placing (Err faults.Clash) = refl
fault_of_placing (Err faults.Full) = refl
fault_of_placing (Err faults.NoSpace) = refl
fault_of_placing (Err (faults.Host fault)) = refl

-- The reply is the machine's.
pub reply_placed : (w : World) (client mode : ℕ) (name file : List ℕ) (r : Option PlaceFault) → refusal_of w (Import client name file mode) ≡ as_refusal r → (done : Result (Unit {0}) PlaceFault)
    → (place_fault done ≡ None → refusal_in done ≡ r) → IfOk (reply_of_placing done) (λ reply. of_reply reply ≡ answer_by w (Some (Import client name file mode)))
reply_placed w client mode name file r refused (Ok x) told = sym (answer_is_ok w (Import client name file mode) refl refl (refused ∙ ap as_refusal (sym (told refl))))
reply_placed w client mode name file r refused (Err faults.Clash) told = sym (refused_answer w (Import client name file mode) refusals.Clash (refused ∙ ap as_refusal (sym (told refl))))
reply_placed w client mode name file r refused (Err faults.Full) told = sym (refused_answer w (Import client name file mode) refusals.Full (refused ∙ ap as_refusal (sym (told refl))))
reply_placed w client mode name file r refused (Err faults.NoSpace) told = sym (refused_answer w (Import client name file mode) refusals.Space (refused ∙ ap as_refusal (sym (told refl))))
reply_placed w client mode name file r refused (Err (faults.Host fault)) told = tt
