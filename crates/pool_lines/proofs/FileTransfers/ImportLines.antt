-- The line that makes a pool from a file: what it owes, by what its calls did.
use Rattle.std.proofs.Common.{◌≡◌, ◌≢◌, inl, inr, ℕ, true, false, List, take, Option, Some, None, Result, Ok, Err, option_map, is_some, refl, sym, ap, subst, ◌∙◌}
use Rattle.std.specs.Prelude.{IfOk, ⊤}
use Rattle.std.proofs.lemmas.Option.{none-some}
use Rattle.pm_model.specs.declared.host.HostFault.{HostFault}
use Rattle.pm_model.specs.declared.host.HostFault.TheVariants as hosts
use Rattle.pm_model.specs.declared.host.TheConstants.{FILE_READ_LIMIT}
use Rattle.pm_model.specs.Counts.{Counts, after_fault, fault_of}
use Rattle.pm_model.specs.Words.{IsRested, reads}
use Rattle.pm_model.specs.Moments.{State, Shelf}
use Rattle.pud_defs.specs.declared.layout.TheConstants.{DAEMON_LOG}
use Rattle.pud_defs.specs.declared.machine.Command.{Command}
use Rattle.pud_defs.specs.declared.machine.Command.TheVariants.{Import}
use Rattle.pud_defs.specs.declared.machine.Refusal.{Refusal}
use Rattle.pud_defs.specs.declared.machine.Refusal.TheVariants as refusals
use Rattle.pud_defs.specs.declared.machine.Reply.{Reply}
use Rattle.pud_defs.specs.declared.machine.Reply.TheVariants as replies
use Rattle.pud_defs.specs.PoolGraphs.ExportFile.{FileContents, file_graph}
use Rattle.pud_defs.specs.StateMachine.Grammar.{IsLegalCommand}
use Rattle.pud_defs.specs.Formats.Image.{Image}
use Rattle.pud_defs.specs.StateMachine.Imports.{with_imported_pool}
use Rattle.pud_defs.specs.Output.Listing.{name_text}
use Rattle.pud_defs.specs.RegistryTables.Spaces.{owner}
use Rattle.pud_defs.specs.StateMachine.Step.{refusal_of, world_by}
use Rattle.pud_defs.specs.StateMachine.Step.Answer.{of_reply}
use Rattle.pud_defs.specs.PoolGraphs.Stored.{Stored}
use Rattle.pud_defs.specs.RegistryTables.Tables.{tables_of, pool_in}
use Rattle.pud_defs.specs.StateMachine.World.{StoredWorld, World}
use Rattle.pud_defs.proofs.KeyedTables.Keyed.{option_map_parts}
use Rattle.pud_defs.proofs.StateMachine.Steps.{refused_world}
use Rattle.batch.specs.Batches.{HasIdleGate}
use Rattle.registry.specs.Pools.{OrStill, ChangesMasked}
use Rattle.pud_import.specs.declared.placing.PlaceFault.{PlaceFault}
use Rattle.pud_import.specs.declared.placing.PlaceFault.TheVariants as faults
use Rattle.pud_import.specs.Contents.{stored_held}
use Rattle.pud_import.proofs.FileChecks.FileParts.{file_graph-limit}
use Rattle.pud_import.specs.Placing.{place_fault, refusal_in, refusal_by, PlacesSomewhere, MayImport}
use Rattle.daemon_memory.specs.Memory.{Memory}
use Rattle.daemon_memory.specs.Ready.{KeepsRest, IsReady, Applies}
use Rattle.daemon_memory.proofs.Commands.Applying.{Applies-still}
use Rattle.daemon_memory.proofs.Commands.Beneath.{ready_gate, keeps_tables}
use Rattle.daemon_memory.proofs.PoolsKnown.KnownKept.{KeepsGraphs, KeepsPools}
use Rattle.daemon_memory.proofs.PoolChanges.PlacedPools.{KeepsActive-imported, KeepsGraphs-then, imported_frames, imported_types, type_beside, Applies-wider}
use Rattle.daemon_memory.proofs.PoolChanges.Pooling.{ChangesBeside, absent_apart}
use Rattle.daemon_memory.proofs.PoolChanges.TablesBeside.{HasDurableTables-masked, sound_read}
use Rattle.daemon_memory.specs.declared.line_answer.LineAnswer.{LineAnswer}
use Rattle.daemon_memory.specs.LineAnswers.{as_line_answer}
use Rattle.pool_lines.specs.Importing.{MayMakeNamed, IsPrefixOf, reply_of_placing}
use Rattle.daemon_memory.proofs.Commands.Acting.{acts_refused, acts_unread, fault_of_answer, acts_or_still}
use Rattle.daemon_memory.proofs.Commands.CarriedOut.{ClosesLogs-other, CarriesOut-refused, IsPlain, CarriesOutWith-plain}
use Rattle.pool_lines.proofs.FileTransfers.FileLines.{CarriesOut-read, memory_step}
use Rattle.pool_lines.proofs.FileTransfers.ImportRefusals.{found_some, import_bad, import_placed, import_gives, import_memory, as_refusal, no_host_by, refused_by_tables, absent_in, fault_of_placing, reply_placed}
use Rattle.pool_lines.proofs.FileTransfers.PlacedBeside.{off_placing, IsBeside-places, KeepsPools-places, LeavesPuddles-places}
use Rattle.daemon_memory.specs.CarryingOut.{CarriesOutWith}
use Rattle.daemon_memory.specs.Doing.{ActsWith}
use Rattle.daemon_memory.specs.Leading.{IsStill}
use Rattle.pud_defs.specs.RegistryTables.Puddles.{Member}
use Rattle.pool_lines.specs.Effects.{ImportsFile}

pub import_is_plain : (client : ℕ) (name file : List ℕ) (mode : ℕ) → IsPlain (Import client name file mode)
import_is_plain client name file mode = record { kind = refl; file = refl; stays = λ other is. cc }

-- ---- the file is placed

module _ (size : ℕ) (w : World) (memory : Memory) (old new : State) (ready : IsReady size w memory old) (client uid gid mode : ℕ) (name file : List ℕ) (legal : IsLegalCommand (Import client name file mode))
    (may : MayMakeNamed w client name uid gid) (bytes : List ℕ) (there : w.shelf (name_text file) ≡ Some bytes) (contents : FileContents) (active : file_graph bytes ≡ Some contents) (stored : Stored)
    (front : stored ≡ stored_held (take FILE_READ_LIMIT bytes)) (done : Result (Unit {0}) PlaceFault) where
  abbrev line : Command
  line = Import client name file mode

  abbrev F : ℕ
  F = w.stored.frames

  abbrev image : Image
  image = reads old.now.words

  abbrev next : StoredWorld
  next = with_imported_pool name (owner uid gid) mode contents w.stored

  abbrev refused : Option PlaceFault
  refused = refusal_by F image contents

  refusal_is : refusal_of w line ≡ as_refusal refused
  refusal_is = import_placed w client mode name file uid gid may bytes there contents active ∙ refused_by_tables size w memory old ready contents

  -- If the tables do not allow the file, the line is refused.
  refused_line : (r : PlaceFault) → refused ≡ Some r → (why : Refusal) × (refusal_of w line ≡ Some why)
  refused_line faults.Clash is = (refusals.Clash, refusal_is ∙ ap as_refusal is)
  refused_line faults.Full is = (refusals.Full, refusal_is ∙ ap as_refusal is)
  refused_line faults.NoSpace is = (refusals.Space, refusal_is ∙ ap as_refusal is)
  refused_line (faults.Host fault) is = absurd (no_host_by _ _ _ fault is)

  -- What the call does, on this many frames.
  abbrev Commits : ℕ → Type 0
  Commits n = HasIdleGate DAEMON_LOG old.now.words → pool_in (tables_of n image) name ≡ None → refusal_by n image contents ≡ None
      → OrStill (PlacesSomewhere n image stored contents.types name uid gid mode) (place_fault done) old new

  abbrev Places : ℕ → Type 0
  Places n = MayImport size w.stored n name uid gid mode contents stored ready.mask old.now.words → ChangesMasked ready.mask size w.stored next (λ _. ⊤) (place_fault done) old new

  abbrev Stays : ℕ → Type 0
  Stays n = pool_in (tables_of n image) name ≡ None → (refusal_by n image contents ≡ None → ⊥) → new ≡ old

  none_there : pool_in (tables_of F image) name ≡ None
  none_there = absent_in size w memory old ready name may.absent

  module _ (rests : place_fault done ≡ Some hosts.Cut → IsRested new.now.words) where
    changes_beside : refused ≡ None → Commits F → Places F → ChangesBeside size w.stored next (λ _. ⊤) ready.mask (place_fault done) old new
    changes_beside none commits places =
        let off = off_placing w memory.active ready.mask old.now.words ready.active stored contents.types name uid gid mode in
        let idle = ready_gate size w memory old ready in
        record {
          beside = IsBeside-places F image stored contents.types name uid gid mode ready.mask (place_fault done) old new off idle rests (commits idle none_there none);
          pools = places (record {
            frames = refl;
            keeps = keeps_tables w memory.active ready.mask old.now.words ready.active;
            types = record { each = type_beside size w memory old ready };
            off = off;
            settled = ready.settled;
            tables = HasDurableTables-masked F ready.mask old.now.words ready.tables;
            legal = record { is_name = legal.1; has_legal_name = legal.2; has_legal_mode = legal.5; uid_fits = may.uid_fits; gid_fits = may.gid_fits };
            absent = none_there;
            none = none;
          });
        }

    keeps_pools : (none : refused ≡ None) → Commits F → Places F → (f : Option HostFault) → place_fault done ≡ f → f ≡ None → KeepsPools F None image (reads new.now.words)
    keeps_pools none commits places f is ended =
        let b = subst (λ (g : Option HostFault). ChangesBeside size w.stored next (λ _. ⊤) ready.mask g old new) (is ∙ ended) (changes_beside none commits places) in
        let graphs = KeepsGraphs-then size w memory next (λ _. ⊤) old new ready b (imported_frames name (owner uid gid) mode contents w.stored) (imported_types name (owner uid gid) mode contents w.stored) in
        by_did graphs (subst (λ (g : Option HostFault). OrStill (PlacesSomewhere F image stored contents.types name uid gid mode) g old new) (is ∙ ended) (commits (ready_gate size w memory old ready) none_there none))
      where
        by_did : KeepsGraphs image (reads new.now.words) → OrStill (PlacesSomewhere F image stored contents.types name uid gid mode) None old new → KeepsPools F None image (reads new.now.words)
        by_did graphs (inl still) = absurd (still.1 refl)
        by_did graphs (inr places) = KeepsPools-places F w.stored.next_number stored contents.types name uid gid mode old new (sound_read size w memory old ready) graphs places

    refused_by : (r : Refusal) → refusal_of w line ≡ Some r → new ≡ old → Applies size w (world_by w (Some line)) memory (place_fault done) old new
    refused_by r is same = subst (λ (v : World). Applies size w v memory (place_fault done) old new) (sym (refused_world w line r is)) (Applies-still size w memory (place_fault done) old new ready same rests)

    placed_by : (r : Option PlaceFault) → refused ≡ r → Commits F → Places F → Stays F → Applies size w (world_by w (Some line)) memory (place_fault done) old new
    placed_by None is commits places stays =
        let idle = ready_gate size w memory old ready in
        Applies-wider size w memory line next (λ _. ⊤) (place_fault done) old new ready
        (LeavesPuddles-places F (place_fault done) old new ready.tables idle rests stored contents.types name uid gid mode (commits idle none_there is)) (refusal_is ∙ ap as_refusal is)
        (import_gives w client mode name file uid gid may bytes there contents active) (imported_frames name (owner uid gid) mode contents w.stored)
        (KeepsActive-imported w memory.active ready.mask old.now.words name (owner uid gid) mode contents ready.active (absent_apart w memory.active ready.mask old.now.words name ready.active may.absent))
        (changes_beside is commits places) (λ ended. keeps_pools is commits places (place_fault done) refl ended)
    placed_by (Some r) is commits places stays =
        let why = refused_line r is in
        refused_by why.0 why.1 (stays none_there (λ none. none-some r (sym none ∙ is)))

  -- The file is placed by what its prefix stores, or nothing is done.
  acts_placed : (r : Option PlaceFault) → refused ≡ r → Commits F → Stays F → ActsWith (ImportsFile w client name file mode) w line (as_line_answer (reply_of_placing done)) old new
  acts_placed None is commits stays =
      let answered : Result LineAnswer HostFault = as_line_answer (reply_of_placing done) in
      let fault : fault_of answered ≡ place_fault done = fault_of_answer (reply_of_placing done) ∙ fault_of_placing done in
      acts_or_still w line _ answered (PlacesSomewhere F image stored contents.types name uid gid mode) old new (refusal_is ∙ ap as_refusal is)
      (subst (λ (f : Option HostFault). OrStill (PlacesSomewhere F image stored contents.types name uid gid mode) f old new) (sym fault) (commits (ready_gate size w memory old ready) none_there is))
      (λ places. record {
        who = owner uid gid;
        is = may.acts;
        does = record {
          whole = bytes;
          there = there;
          contents = contents;
          is = file_graph-limit bytes ∙ active;
          places = subst (λ (s : Stored). PlacesSomewhere F image s contents.types name uid gid mode (fault_of answered) old new) front places;
        };
      })
  acts_placed (Some r) is commits stays =
      let why = refused_line r is in
      acts_refused w line _ why.0 (as_line_answer (reply_of_placing done)) why.1 (stays none_there (λ none. none-some r (sym none ∙ is)))

  -- What the line owes, if the device has this many frames.
  abbrev Owes : ℕ → Type 0
  Owes n = Commits n → Places n → Stays n → (place_fault done ≡ None → pool_in (tables_of n image) name ≡ None → refusal_in done ≡ refusal_by n image contents)
      → (first last : Counts) → last ≡ after_fault (place_fault done) first → CarriesOutWith IsStill (ImportsFile w client name file mode) size w memory line (as_line_answer (reply_of_placing done)) first last old new

  owes_there : (place_fault done ≡ Some hosts.Cut → IsRested new.now.words) → KeepsRest old new → Owes F
  owes_there rests rest commits places stays told first last cause =
      let fault = fault_of_placing done in
      CarriesOutWith-plain IsStill (ImportsFile w client name file mode) size w memory first last old new line (reply_of_placing done) refl refl refl
      (reply_placed w client mode name file refused refusal_is done (λ none. told none none_there))
      (subst (λ (f : Option HostFault). Applies size w (world_by w (Some line)) memory f old new) (sym fault) (placed_by rests refused refl commits places stays))
      (ClosesLogs-other w (Some line) old new (import_is_plain client name file mode).stays) rest (cause ∙ ap (λ (f : Option HostFault). after_fault f first) (sym fault))
      (acts_placed refused refl commits stays)

  pub CarriesOut-placed : (n : ℕ) → n ≡ F → (place_fault done ≡ Some hosts.Cut → IsRested new.now.words) → KeepsRest old new → Owes n
  CarriesOut-placed n on rests rest = subst Owes (sym on) (owes_there rests rest)

-- ---- after calls that only read

-- If nothing changed before the call, the line did what it owes.
pub CarriesOut-after : (Leads : Image → (Member → Option ℕ) → Type 0) (Does : Option HostFault → State → State → Type 0) (size : ℕ) (w : World) (memory : Memory) (c : Command) (r : Result Reply HostFault) (first mid last : Counts) (a b d : State) → b ≡ a → mid ≡ first → IsReady size w memory a
    → (IsReady size w memory b → CarriesOutWith Leads Does size w memory c (as_line_answer r) mid last b d) → CarriesOutWith Leads Does size w memory c (as_line_answer r) first last a d
CarriesOut-after Leads Does size w memory c r first mid last a b d same counted ready carries =
    subst (λ (n : Counts). CarriesOutWith Leads Does size w memory c (as_line_answer r) n last a d) counted
    (subst (λ (s : State). CarriesOutWith Leads Does size w memory c (as_line_answer r) mid last s d) same (carries (subst (λ (s : State). IsReady size w memory s) (sym same) ready)))

-- So it did if an allocation for the file failed.
pub CarriesOut-memory : (size : ℕ) (w : World) (memory : Memory) (s : State) → IsReady size w memory s → (client uid gid mode : ℕ) (name file bytes : List ℕ) → MayMakeNamed w client name uid gid → w.shelf (name_text file) ≡ Some bytes
    → (new : State) → new ≡ s → (first last : Counts) → last ≡ first → CarriesOutWith IsStill (ImportsFile w client name file mode) size w memory (Import client name file mode) (as_line_answer (Ok (replies.No refusals.Memory))) first last s new
CarriesOut-memory size w memory s ready client uid gid mode name file bytes may there new same first last cause =
    CarriesOut-read size w memory (Import client name file mode) refl (import_is_plain client name file mode).stays (ImportsFile w client name file mode) first last s new ready (of_reply (replies.No refusals.Memory))
    (as_line_answer (Ok (replies.No refusals.Memory))) (memory_step w (Import client name file mode) (import_memory w client mode name file uid gid may bytes there)) refl tt (λ cut. cc) same cause
    (acts_unread w (Import client name file mode) _ (as_line_answer (Ok (replies.No refusals.Memory))) refl (λ cut. cc) same)

-- ---- the bytes that were given of a file

module _ (size : ℕ) (w : World) (memory : Memory) (old new : State) (ready : IsReady size w memory old) (client uid gid mode : ℕ) (name file : List ℕ) (may : MayMakeNamed w client name uid gid)
    (bytes : List ℕ) (given : IsPrefixOf w file bytes) where
  abbrev defers : Command
  defers = Import client name file mode

  -- These bytes decide what the whole file stores.
  same_file : file_graph given.whole ≡ file_graph bytes
  same_file = sym (ap file_graph given.front ∙ file_graph-limit given.whole)

  none_active : (o : Option FileContents) → is_some o ≡ false → o ≡ None
  none_active None is = refl
  none_active (Some x) is = absurd (let no : true ≡ false = is in cc)

  -- If they are no export file, the line did what it owes.
  pub CarriesOut-bad_file : is_some (file_graph bytes) ≡ false → new ≡ old → (first last : Counts) → last ≡ first
      → CarriesOutWith IsStill (ImportsFile w client name file mode) size w memory defers (as_line_answer (Ok (replies.No refusals.BadFile))) first last old new
  CarriesOut-bad_file none same first last cause =
      CarriesOut-refused IsStill (ImportsFile w client name file mode) size w memory first last old new defers (import_is_plain client name file mode) same (subst (λ (s : State). IsReady size w memory s) (sym same) ready) refusals.BadFile
      (import_bad w client mode name file uid gid may given.whole given.there (same_file ∙ none_active (file_graph bytes) none)) cause

  -- They are an export file, and it was placed, or not.
  module _ (legal : IsLegalCommand (Import client name file mode)) (is : is_some (file_graph bytes) ≡ true) (view : List ℕ) (same : view ≡ bytes) (done : Result (Unit {0}) PlaceFault) (n : ℕ) (on : n ≡ w.stored.frames) where
    abbrev stored : Stored
    stored = stored_held view

    abbrev read : Image
    read = reads old.now.words

    abbrev Holds : FileContents → Type 0
    Holds c = file_graph view ≡ Some c

    pub CarriesOut-view : (place_fault done ≡ Some hosts.Cut → IsRested new.now.words) → KeepsRest old new
        → ((c : FileContents) → Holds c → HasIdleGate DAEMON_LOG old.now.words → pool_in (tables_of n read) name ≡ None → refusal_by n read c ≡ None → OrStill (PlacesSomewhere n read stored c.types name uid gid mode) (place_fault done) old new)
        → ((c : FileContents) → Holds c → MayImport size w.stored n name uid gid mode c stored ready.mask old.now.words
        → ChangesMasked ready.mask size w.stored (with_imported_pool name (owner uid gid) mode c w.stored) (λ _. ⊤) (place_fault done) old new)
        → ((c : FileContents) → Holds c → pool_in (tables_of n read) name ≡ None → (refusal_by n read c ≡ None → ⊥) → new ≡ old)
        → ((c : FileContents) → Holds c → place_fault done ≡ None → pool_in (tables_of n read) name ≡ None → refusal_in done ≡ refusal_by n read c)
        → (first last : Counts) → last ≡ after_fault (place_fault done) first → CarriesOutWith IsStill (ImportsFile w client name file mode) size w memory defers (as_line_answer (reply_of_placing done)) first last old new
    CarriesOut-view rests rest commits places stays told first last cause =
        let found = found_some (file_graph bytes) is in
        let c = found.0 in
        let holds : Holds c = ap file_graph same ∙ found.1 in
        CarriesOut-placed size w memory old new ready client uid gid mode name file legal may given.whole given.there c (same_file ∙ found.1) stored (ap stored_held (same ∙ given.front)) done n on rests rest
        (commits c holds) (places c holds) (stays c holds) (told c holds) first last cause

-- ---- a file that is not placed

-- A file that is not placed leaves the device as it was.
pub stays_refused : (n : ℕ) (at : Image) (c : FileContents) (old new : State) (done : Result (Unit {0}) PlaceFault) → (place_fault done ≡ None → refusal_in done ≡ refusal_by n at c)
    → ((refusal_by n at c ≡ None → ⊥) → new ≡ old) → IfOk (reply_of_placing done) (λ reply. reply ≢ replies.Ok → new ≡ old)
stays_refused n at c old new (Ok x) told stays = λ other. absurd (other refl)
stays_refused n at c old new (Err faults.Clash) told stays = λ other. stays (λ none. none-some faults.Clash (sym none ∙ sym (told refl)))
stays_refused n at c old new (Err faults.Full) told stays = λ other. stays (λ none. none-some faults.Full (sym none ∙ sym (told refl)))
stays_refused n at c old new (Err faults.NoSpace) told stays = λ other. stays (λ none. none-some faults.NoSpace (sym none ∙ sym (told refl)))
stays_refused n at c old new (Err (faults.Host fault)) told stays = tt

-- This holds on a ready device with this many frames.
pub stays_unplaced : (size : ℕ) (w : World) (memory : Memory) (old new : State) → IsReady size w memory old → (client uid gid : ℕ) (name : List ℕ) → MayMakeNamed w client name uid gid → (view : List ℕ) → is_some (file_graph view) ≡ true
    → (done : Result (Unit {0}) PlaceFault) (n : ℕ) → n ≡ w.stored.frames
    → ((c : FileContents) → file_graph view ≡ Some c → place_fault done ≡ None → pool_in (tables_of n (reads old.now.words)) name ≡ None → refusal_in done ≡ refusal_by n (reads old.now.words) c)
    → ((c : FileContents) → file_graph view ≡ Some c → pool_in (tables_of n (reads old.now.words)) name ≡ None → (refusal_by n (reads old.now.words) c ≡ None → ⊥) → new ≡ old)
    → IfOk (reply_of_placing done) (λ reply. reply ≢ replies.Ok → new ≡ old)
stays_unplaced size w memory old new ready client uid gid name may view is done n on told stays =
    let found = found_some (file_graph view) is in
    let absent : pool_in (tables_of n (reads old.now.words)) name ≡ None =
    subst (λ (m : ℕ). pool_in (tables_of m (reads old.now.words)) name ≡ None) (sym on) (absent_in size w memory old ready name may.absent) in
    stays_refused n (reads old.now.words) found.0 old new done (λ none. told found.0 found.1 none absent) (stays found.0 found.1 absent)

-- ---- what the host gave of a file

-- If the host gave bytes, the file is there, and they are its prefix.
pub front_of : (w : World) (s : State) (file bytes : List ℕ) → s.shelf ≡ w.shelf → Some bytes ≡ option_map (take FILE_READ_LIMIT) (s.shelf (name_text file)) → IsPrefixOf w file bytes
front_of w s file bytes shelf given =
    let parts = option_map_parts (take FILE_READ_LIMIT) (s.shelf (name_text file)) bytes (sym given) in
    record { whole = parts.value; there = ap (λ (files : Shelf). files (name_text file)) (sym shelf) ∙ parts.is; front = sym parts.gives }

no_more : (o : Option (List ℕ)) → None ≡ option_map (take FILE_READ_LIMIT) o → o ≡ None
no_more None given = refl
no_more (Some bytes) given = absurd (none-some (take FILE_READ_LIMIT bytes) given)

-- If the host gave none, the file is not there.
pub none_given : (w : World) (s : State) (file : List ℕ) → s.shelf ≡ w.shelf → None ≡ option_map (take FILE_READ_LIMIT) (s.shelf (name_text file)) → w.shelf (name_text file) ≡ None
none_given w s file shelf given = ap (λ (files : Shelf). files (name_text file)) (sym shelf) ∙ no_more (s.shelf (name_text file)) given

-- If an allocation for the file failed, the file is there.
pub some_there : (w : World) (s : State) (file : List ℕ) → s.shelf ≡ w.shelf → is_some (s.shelf (name_text file)) ≡ true → (bytes : List ℕ) × (w.shelf (name_text file) ≡ Some bytes)
some_there w s file shelf is = found_some (w.shelf (name_text file)) (ap (λ (files : Shelf). is_some (files (name_text file))) (sym shelf) ∙ is)
