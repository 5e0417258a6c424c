-- The line that writes a pool into a file: what it owes, by what its calls did.
use Rattle.std.proofs.Common.{◌≡◌, ℕ, true, List, [], Some, None, is_none, Result, Ok, Err, refl, sym, ap, ap₂, subst, ◌∙◌, eq-eqb}
use Rattle.std.specs.Prelude.{IfOk, unwrap_or}
use Rattle.std.proofs.lemmas.Option.{none-some}
use Rattle.pm_model.specs.declared.host.HostFault.TheVariants as hosts
use Rattle.pm_model.specs.declared.host.FileFault.{FileFault}
use Rattle.pm_model.specs.declared.host.FileFault.TheVariants as files
use Rattle.pm_model.specs.Words.{reads}
use Rattle.pm_model.specs.Counts.{Counts, after_fault, file_fault_of}
use Rattle.pm_model.specs.Moments.{State, Shelf, with_shelf}
use Rattle.pm_model.specs.Calls.{shelved, LeavesFile}
use Rattle.pud_defs.specs.declared.machine.Command.{Command}
use Rattle.pud_defs.specs.declared.machine.Command.TheVariants.{Export}
use Rattle.pud_defs.specs.declared.machine.Reply.TheVariants as replies
use Rattle.pud_defs.specs.declared.machine.Refusal.TheVariants as refusals
use Rattle.pud_defs.specs.declared.records.Puddle.{Puddle}
use Rattle.pud_defs.specs.PoolGraphs.ExportFile.{file_graph}
use Rattle.pud_defs.specs.StateMachine.World.{World, open_on}
use Rattle.pud_defs.specs.StateMachine.Transactions.{is_own}
use Rattle.pud_defs.specs.Output.Listing.{name_text}
use Rattle.pud_defs.specs.StateMachine.Step.{refusal_of}
use Rattle.pud_defs.specs.StateMachine.Step.Answer.{of_reply}
use Rattle.pud_defs.specs.StateMachine.Gives.{with_file, contents_for}
use Rattle.pud_defs.specs.StateMachine.Changing.{KeepsFiles}
use Rattle.daemon_memory.specs.declared.line_answer.LineAnswer.TheVariants as answers
use Rattle.daemon_memory.specs.declared.finding.FoundPool.{FoundPool}
use Rattle.daemon_memory.specs.declared.finding.Need.TheVariants as needs
use Rattle.daemon_memory.proofs.PoolsFound.Found.{Finds, stored_pool}
use Rattle.pool_lines.specs.Files.{file_answer, HoldsPool, HoldsOneOf, WritesFile}
use Rattle.daemon_memory.specs.Finding.{IsStoredPool}
use Rattle.daemon_memory.specs.Memory.{Memory}
use Rattle.daemon_memory.specs.ActiveTransactions.{IsOwnTransaction}
use Rattle.daemon_memory.specs.PoolKnowledge.{known_puddles_in}
use Rattle.daemon_memory.specs.Ready.{IsReady, Applies}
use Rattle.daemon_memory.proofs.OpenTransactions.OpenBeside.{open_here}
use Rattle.daemon_memory.proofs.Commands.Acting.{acts_free, acts_unread}
use Rattle.pool_lines.proofs.FileTransfers.FileLines.{memory_of-export, memory_step, some_step, export_is_plain, CarriesOut-read, CarriesOut-file, Applies-shelved, Applies-unwritten, KeepsFiles-shelved, exported_step, contents_are}
use Rattle.daemon_memory.specs.CarryingOut.{CarriesOutWith}
use Rattle.daemon_memory.specs.Leading.{IsStill}

-- ---- the client's own transaction is open on the pool

pub own_is_open : (size : ℕ) (w : World) (memory : Memory) (s : State) → IsReady size w memory s → (client : ℕ) (name : List ℕ) → (number : ℕ) → IsOwnTransaction client name number memory.active → is_own client (open_on name w) ≡ true
own_is_open size w memory s ready client name number own =
    let here = open_here w memory.active ready.mask s.now.words name client number ready.active own in
    ap (is_own client) here.is ∙ eq-eqb here.transaction.client client here.whose

-- ---- no transaction is open on it

-- The pool that was found is the one of the world as it is known, on a device with this many frames.
pub stored_found : (size : ℕ) (w : World) (client : ℕ) (name : List ℕ) (memory : Memory) (s : State) (found : FoundPool) (here : Finds size w needs.Read client name memory s found) → found.own ≡ None
    → IsStoredPool w memory.frames name (reads s.now.words) found.number (unwrap_or (known_puddles_in memory.known_pools found.slot) [])
stored_found size w client name memory s found here off =
    let at = unwrap_or (known_puddles_in memory.known_pools found.slot) [] in
    subst (λ (n : ℕ). IsStoredPool w n name (reads s.now.words) found.number at) (sym here.ready.frames)
    (subst (λ (n : ℕ). IsStoredPool w w.stored.frames name (reads s.now.words) n at) (sym here.is.number_is)
    (stored_pool size w memory s here.ready client name found.slot here.is.rec here.is.is (here.is.none off) at (here.is.known refl)))

-- ---- the file was to be written

module _ (size : ℕ) (w : World) (memory : Memory) (old : State) (ready : IsReady size w memory old) (client : ℕ) (name file : List ℕ)
    (free : refusal_of w (Export client name file) ≡ None) (F number : ℕ) (puddles : List (ℕ × Puddle)) (pool : IsStoredPool w F name (reads old.now.words) number puddles) (first last : Counts) (new : State) where
  abbrev line : Command
  line = Export client name file

  -- The file is the one that is written for the world's pool, word by word.
  pub HoldsOneOf-written : F ≡ w.stored.frames → (done : Result (Unit {0}) FileFault) → IfOk done (λ _. HoldsPool F number puddles pool.graph (reads old.now.words) (name_text file) old new)
      → IfOk (file_answer done) (λ answered. answered ≡ answers.Reply replies.Ok → HoldsOneOf w name (reads old.now.words) (name_text file) old new)
  HoldsOneOf-written on (Ok done) holds = λ ok. by_frames F on pool holds
    where
      by_frames : (n : ℕ) → n ≡ w.stored.frames → (p : IsStoredPool w n name (reads old.now.words) number puddles) → HoldsPool n number puddles p.graph (reads old.now.words) (name_text file) old new
          → HoldsOneOf w name (reads old.now.words) (name_text file) old new
      by_frames n at = subst (λ (m : ℕ). (p : IsStoredPool w m name (reads old.now.words) number puddles) → HoldsPool m number puddles p.graph (reads old.now.words) (name_text file) old new
          → HoldsOneOf w name (reads old.now.words) (name_text file) old new) (sym at) (λ p h. record { number = number; puddles = puddles; pool = p; written = h })
  HoldsOneOf-written on (Err files.Memory) holds = λ ok. absurd (let no : answers.Reply (replies.No refusals.Memory) ≡ answers.Reply replies.Ok = ok in cc)
  HoldsOneOf-written on (Err (files.Host fault)) holds = tt

  -- If the file stores the pool, the line did what it owes.
  carries_written : HoldsOneOf w name (reads old.now.words) (name_text file) old new → HoldsPool F number puddles pool.graph (reads old.now.words) (name_text file) old new → last ≡ first → CarriesOutWith IsStill (WritesFile w name file) size w memory line (Ok (answers.Reply replies.Ok)) first last old new
  carries_written one holds cause =
      let shelf = with_file (name_text file) holds.bytes w.shelf in
      let under : World = record w { shelf = shelf } in
      let given : new ≡ with_shelf shelf old = holds.given ∙ ap (λ (s : Shelf). with_shelf (shelved (name_text file) (Some holds.bytes) s) old) ready.shelf in
      let contents : file_graph holds.bytes ≡ Some (contents_for w.stored.types pool.pool.classes pool.graph) =
      holds.holds ∙ ap₂ (λ (types : List (ℕ × ℕ)) (classes : List ℕ). Some (contents_for types classes pool.graph)) pool.types pool.classes in
      CarriesOut-file size w memory line refl (export_is_plain client name file) (WritesFile w name file) first last old new (of_reply replies.Ok) under (Ok (answers.Reply replies.Ok))
      (exported_step w client name file (contents_for w.stored.types pool.pool.classes pool.graph) holds.bytes free (contents_are w F name (reads old.now.words) number puddles pool) contents)
      refl tt (λ cut. cc)
      (subst (λ (s : State). Applies size w under memory None old s) (sym given) (Applies-shelved size w memory shelf old ready))
      (subst (λ (s : Shelf). KeepsFiles (Some (name_text file)) old.shelf s) (sym (ap (λ (s : State). s.shelf) holds.given)) (KeepsFiles-shelved (name_text file) (Some holds.bytes) old.shelf))
      cause (acts_free w line _ (Ok (answers.Reply replies.Ok)) free (record { leaves = record { entry = Some holds.bytes; is = holds.given }; holds = λ none. one }))

  -- So it did if the host failed and the file was left in some state.
  carries_unwritten : LeavesFile (name_text file) old new → last ≡ after_fault (Some hosts.Failed) first → CarriesOutWith IsStill (WritesFile w name file) size w memory line (Err hosts.Failed) first last old new
  carries_unwritten left cause =
      let s = some_step w line (memory_of-export w client name file) in
      CarriesOut-file size w memory line refl (export_is_plain client name file) (WritesFile w name file) first last old new s.said w (Err hosts.Failed) s.step tt tt (λ cut. cc)
      (subst (λ (t : State). Applies size w w memory (Some hosts.Failed) old t) (sym left.is) (Applies-unwritten size w memory old.shelf old ready (shelved (name_text file) left.entry old.shelf)))
      (subst (λ (t : Shelf). KeepsFiles (Some (name_text file)) old.shelf t) (sym (ap (λ (t : State). t.shelf) left.is)) (KeepsFiles-shelved (name_text file) left.entry old.shelf))
      cause (acts_free w line _ (Err hosts.Failed) free (record { leaves = left; holds = λ none. absurd (none-some hosts.Failed (sym none)) }))

  -- So it did whatever the call that writes the file answered.
  pub CarriesOut-written : F ≡ w.stored.frames → (done : Result (Unit {0}) FileFault) → IfOk done (λ _. HoldsPool F number puddles pool.graph (reads old.now.words) (name_text file) old new) → (done ≡ Err files.Memory → new ≡ old)
      → LeavesFile (name_text file) old new → last ≡ after_fault (file_fault_of done) first → (file_fault_of done ≡ Some hosts.Cut → ⊥) → CarriesOutWith IsStill (WritesFile w name file) size w memory line (file_answer done) first last old new
  CarriesOut-written on (Ok done) holds memory left cause never = carries_written (HoldsOneOf-written on (Ok done) holds refl) holds cause
  CarriesOut-written on (Err files.Memory) holds memory_same left cause never =
      CarriesOut-read size w memory line refl (export_is_plain client name file) (WritesFile w name file) first last old new ready (of_reply (replies.No refusals.Memory)) (Ok (answers.Reply (replies.No refusals.Memory)))
      (memory_step w line (memory_of-export w client name file ∙ ap is_none free)) refl tt (λ cut. cc) (memory_same refl) cause
      (acts_unread w line _ (Ok (answers.Reply (replies.No refusals.Memory))) refl (λ cut. cc) (memory_same refl))
  CarriesOut-written on (Err (files.Host hosts.Failed)) holds memory left cause never = carries_unwritten left cause
  CarriesOut-written on (Err (files.Host hosts.Cut)) holds memory left cause never = absurd (never refl)
