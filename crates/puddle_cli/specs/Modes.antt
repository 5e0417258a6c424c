-- What the program does, by the mode that its words ask for.
use Rattle.std.specs.Prelude.{◌≡◌, ◌≢◌, ◌⊎◌, ◌↔◌, ℕ, IsTrue, false, List, ◌++◌, length, Option, Some, None}
use Rattle.pm_model.specs.Words.{IsRested, reads}
use Rattle.pm_model.specs.Moments.{State}
use Rattle.pm_model.specs.Counts.{Counts, Rose, after_fault}
use Rattle.pm_model.specs.Changes.{Leaves}
use Rattle.pud_defs.specs.Formats.Image.{Image}
use Rattle.pud_defs.specs.Logging.Settled.{settled}
use Rattle.pud_defs.specs.RegistryTables.Registry.{frames_of}
use Rattle.pud_defs.specs.Output.StartText.{start_text}
use Rattle.pud_defs.specs.StateMachine.World.{StoredWorld, World, no_clients, nothing_open, world_of, closed}
use Rattle.daemon_memory.specs.Ready.{KeepsInput}
use Rattle.puddled.specs.Saying.{SaysPart}
use Rattle.puddled.specs.Starting.{HasTablesOf}
use Rattle.gen_work.specs.GenLines.{gen_lines}
use Rattle.command_line.specs.declared.modes.Mode.{Mode}
use Rattle.command_line.specs.declared.modes.Mode.TheVariants.{Format, Run, Layout, Check, Gen}
use Rattle.puddle_cli.specs.declared.status.TheConstants.{DONE, USAGE, NOT_USABLE, TOO_LONG}
use Rattle.puddle_cli.specs.declared.show.View.TheVariants as views
use Rattle.puddle_cli.specs.Status.{status_fault, run_fault_at, IsStatusOfMode}
use Rattle.puddle_cli.specs.Views.{text_of}
use Rattle.puddle_cli.specs.Formatting.{is_format_refused, Formats}
use Rattle.puddle_cli.specs.Serving.{KeepsScript, IsUnsoundAfterLoss}
use Rattle.puddle_cli.specs.Replying.{RunSays}
use Rattle.puddle_cli.specs.Headline.{TakesScript, StartMoments, StartsAndSays, Headline}
use Rattle.puddle_cli.specs.Generating.{RunsLines, SaysSummary}

-- Neither of these counts of the host rose: no call failed, and no device step lost power.
pub record NoneRose (before after : Counts) : Type 0 where
  pub faults : Rose before.faults after.faults → ⊥
  pub cuts : Rose before.cuts after.cuts → ⊥

-- The mode `format F ID`. If no call failed, it is refused exactly if the device may not be formatted. If it is
-- refused, the device does not change. Otherwise the device is formatted, or a fault comes between. If the device was
-- rested, it is not sound or blank at every moment of that. If the device may be formatted and neither count rose, the
-- mode is done.
pub record FormatsDevice (F id status : ℕ) (before after : Counts) (old new : State) : Type 0 where
  pub not_usable : status_fault status ≡ None → (status ≡ NOT_USABLE) ↔ IsTrue (is_format_refused before.size F (reads old.now.words))
  pub stays : status ≡ NOT_USABLE → new ≡ old
  pub formats : status ≢ NOT_USABLE → Formats before.size F id (status_fault status) old new
  pub completes : is_format_refused before.size F (reads old.now.words) ≡ false → NoneRose before after → status ≡ DONE

-- The mode `run`. Whatever the device stores, the start's text is printed, and then one answer to each line taken. The
-- mode is refused only if what the device reads is not sound, or if power was lost meanwhile and what the device then
-- reads is not sound. On a device that was rested, if no call failed, it is refused exactly if what the device reads
-- is not sound, and the device then does not change. If that is sound and neither count rose, the script was run. If
-- the device is not sound at entry, rested or not, and the run is refused, nothing was counted. From a rested device
-- that stands for a world without clients and open transactions, there is one run of the machine that `Headline` is
-- about.
pub record RunsScript (status : ℕ) (before after : Counts) (old new : State) : Type 0 where
  pub takes : TakesScript status old new
  pub says : RunSays status old new
  pub not_usable : IsRested old.now.words → status_fault status ≡ None → (status ≡ NOT_USABLE) ↔ (world_of before.size (reads old.now.words) ≡ None)
  pub not_sound : status ≡ NOT_USABLE → (world_of before.size (reads old.now.words) ≡ None) ⊎ IsUnsoundAfterLoss before after new
  pub stays : IsRested old.now.words → status ≡ NOT_USABLE → new ≡ old
  pub stays_counted : world_of before.size (reads old.now.words) ≡ None → status ≡ NOT_USABLE → after ≡ before
  pub completes : IsRested old.now.words → world_of before.size (reads old.now.words) ≢ None → NoneRose before after → (status ≡ DONE) ⊎ (status ≡ TOO_LONG)
  pub headline : (w : World) → w.clients ≡ no_clients → w.transactions ≡ nothing_open → IsRested old.now.words → old.shelf ≡ w.shelf
      → world_of before.size (reads old.now.words) ≡ Some (closed w) → Headline before.size w status before after old new

-- The mode `gen S N`, over the lines generated for S and N. Whatever the device stores, the start's text is printed,
-- then the summary with the pools as the device's tables have them, and no reply. No byte of the script is read, and
-- no file changes that no line may write. It is refused as `run` is. From a rested device that stands for a world
-- without clients and open transactions, there is one run of the machine over the lines. It ends with the summary of
-- its last world.
pub record RunsGenerated (lines : List (List ℕ)) (status : ℕ) (before after : Counts) (old new : State) : Type 0 where
  pub keeps : KeepsScript old new
  pub says : SaysSummary (start_text (reads old.now.words)) (length lines) (run_fault_at status ≡ None) old new
  pub not_usable : IsRested old.now.words → status_fault status ≡ None → (status ≡ NOT_USABLE) ↔ (world_of before.size (reads old.now.words) ≡ None)
  pub not_sound : status ≡ NOT_USABLE → (world_of before.size (reads old.now.words) ≡ None) ⊎ IsUnsoundAfterLoss before after new
  pub stays : IsRested old.now.words → status ≡ NOT_USABLE → new ≡ old
  pub stays_counted : world_of before.size (reads old.now.words) ≡ None → status ≡ NOT_USABLE → after ≡ before
  pub completes : IsRested old.now.words → world_of before.size (reads old.now.words) ≢ None → NoneRose before after → status ≡ DONE
  pub runs : (w : World) → w.clients ≡ no_clients → w.transactions ≡ nothing_open → IsRested old.now.words → old.shelf ≡ w.shelf
      → world_of before.size (reads old.now.words) ≡ Some (closed w) → RunsLines before.size w lines status before after old new

-- A mode that starts and then prints what the device stores, as a text of an image. Whatever that is, if no call
-- failed, the mode is refused exactly if it is not sound, and the device then does not change. If it is sound and
-- neither count rose, the mode is done. On a rested device, unless the mode is refused, the start's text is printed
-- and then the text of the settled image of what the device read. With a fault a prefix of both is printed. If the
-- mode is done, that is also the text of what the device reads in the end. Each image left at any moment stands for
-- what the device stood for, and has its records of pools and puddles. Up to `ready` it is what a start may leave.
-- From there on no registered log is refused in it, and only bytes are printed.
pub record Shows (text : Image → List ℕ) (status : ℕ) (before after : Counts) (old new : State) : Type 0 where
  pub not_usable : status_fault status ≡ None → (status ≡ NOT_USABLE) ↔ (world_of before.size (reads old.now.words) ≡ None)
  pub stays : status ≡ NOT_USABLE → new ≡ old
  pub completes : world_of before.size (reads old.now.words) ≢ None → NoneRose before after → status ≡ DONE
  pub says : IsRested old.now.words → status ≢ NOT_USABLE → SaysPart (start_text (reads old.now.words) ++ text (settled (frames_of (reads old.now.words)) (reads old.now.words))) (status_fault status) old new
  pub in_the_end : IsRested old.now.words → status ≡ DONE → text (reads new.now.words) ≡ text (settled (frames_of (reads old.now.words)) (reads old.now.words))
  pub moments : IsRested old.now.words → (s : StoredWorld) → world_of before.size (reads old.now.words) ≡ Some s → Leaves (λ bytes image. world_of before.size image ≡ Some s) old new
  pub tables : IsRested old.now.words → (s : StoredWorld) → world_of before.size (reads old.now.words) ≡ Some s → Leaves (λ bytes image. HasTablesOf s.frames (reads old.now.words) image) old new
  pub in_start : IsRested old.now.words → (s : StoredWorld) → world_of before.size (reads old.now.words) ≡ Some s → StartMoments s.frames old new
  pub does : IsRested old.now.words → (s : StoredWorld) → world_of before.size (reads old.now.words) ≡ Some s → StartsAndSays before.size s old new
  pub rest : KeepsInput old new

-- The statuses of each mode, and what a mode without lines counts: nothing if the words are no mode, else the host's
-- one fault.
abbrev pub EndsBy : Option Mode → ℕ → Counts → Counts → Type 0
EndsBy None status before after = (status ≡ USAGE) × (after ≡ before)
EndsBy (Some (Format F id)) status before after = IsStatusOfMode status × (status ≢ TOO_LONG) × (after ≡ after_fault (status_fault status) before)
EndsBy (Some Run) status before after = IsStatusOfMode status
EndsBy (Some Layout) status before after = IsStatusOfMode status × (status ≢ TOO_LONG) × (after ≡ after_fault (status_fault status) before)
EndsBy (Some Check) status before after = IsStatusOfMode status × (status ≢ TOO_LONG) × (after ≡ after_fault (status_fault status) before)
EndsBy (Some (Gen seed count)) status before after = IsStatusOfMode status × (status ≢ TOO_LONG)

-- What each mode does. Words that are no mode change nothing.
abbrev pub DoesBy : Option Mode → ℕ → Counts → Counts → State → State → Type 0
DoesBy None status before after old new = new ≡ old
DoesBy (Some (Format F id)) status before after old new = FormatsDevice F id status before after old new
DoesBy (Some Run) status before after old new = RunsScript status before after old new
DoesBy (Some Layout) status before after old new = Shows (text_of views.Layout) status before after old new
DoesBy (Some Check) status before after old new = Shows (text_of views.Check) status before after old new
DoesBy (Some (Gen seed count)) status before after old new = RunsGenerated (gen_lines seed count) status before after old new
