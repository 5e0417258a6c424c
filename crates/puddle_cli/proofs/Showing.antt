-- Lemmas on the modes that start and then print what the device stores.
use Rattle.std.proofs.Common.{◌≡◌, ◌≢◌, ◌⊎◌, inl, inr, ⊎_elim, Bool, true, false, ◌&&◌, leb, ltb, ℕ, ◌+◌, ◌<◌, ◌≤◌, List, ◌++◌, take, ◌↔◌, Option, Some, None, Result, Ok, Err, nat_cmp, refl, sym, ap, ap₂, subst, ◌∙◌, arith, append_assoc}
use Rattle.std.proofs.lemmas.Bool.{lt-leb, le-ltb}
use Rattle.std.proofs.lemmas.List.{append-nil}
use Rattle.std.proofs.lemmas.Option.{none-some}
use Rattle.pm_model.specs.declared.host.HostFault.{HostFault}
use Rattle.pm_model.specs.Words.{IsRested, reads}
use Rattle.pm_model.specs.Moments.{State}
use Rattle.pm_model.specs.Calls.{Says}
use Rattle.pm_model.specs.Changes.{Leaves}
use Rattle.pm_model.proofs.Leaves.{Leaves-then, Leaves-weaker, Leaves-says, Leaves-now}
use Rattle.pud_defs.specs.declared.layout.TheConstants.{VERSION_WORD, DAEMON_LOG, MACHINE_WORD, FRAMES_WORD, NEXT_NUMBER_WORD, TYPE_TABLE, TYPE_RECORDS, SPACE_TABLE, PUDDLE_TABLE}
use Rattle.pud_defs.specs.Formats.Image.{Image}
use Rattle.pud_defs.specs.Formats.Layout.{tables_end, frames_at}
use Rattle.pud_defs.specs.Logging.Settled.{is_in_logs, settled}
use Rattle.pud_defs.specs.RegistryTables.Registry.{frames_of}
use Rattle.pud_defs.specs.RegistryTables.Types.{type_record_at, type_at, types_of}
use Rattle.pud_defs.specs.RegistryTables.Tables.{Tables, tables_of}
use Rattle.pud_defs.specs.Output.CheckText.{check_text}
use Rattle.pud_defs.specs.RegistryTables.SoundTables.{are_sound_tables, HasSoundTables}
use Rattle.pud_defs.specs.Output.LayoutText.{tables_text, layout_text}
use Rattle.pud_defs.specs.StateMachine.World.{StoredWorld, World, pools_in, stored_by, no_clients, nothing_open, world_of}
use Rattle.pud_defs.proofs.Logging.Replay.{outside_log}
use Rattle.pud_defs.proofs.KeyedTables.Keyed.{keyed-same}
use Rattle.pud_defs.proofs.RegistryTables.TypeTable.{type_at-same}
use Rattle.pud_defs.proofs.RegistryTables.TablesOf.{tables_of-same}
use Rattle.pud_defs.proofs.PoolGraphs.Holdings.{pools_in-same, frame_among}
use Rattle.pud_defs.proofs.RegistryTables.SoundChanged.{sound_from}
use Rattle.pud_defs.proofs.StateMachine.Parts.{HoldsWorld}
use Rattle.pud_defs.proofs.StateMachine.Worlds.{holding_of_world, frames_of_world}
use Rattle.daemon_memory.proofs.Commands.Beside.{ready_stands}
use Rattle.puddled.specs.declared.daemon.StartFault.{StartFault}
use Rattle.puddled.specs.declared.daemon.StartFault.TheVariants as starts
use Rattle.puddled.specs.Faults.{start_fault}
use Rattle.daemon_memory.specs.Memory.{Memory}
use Rattle.daemon_memory.specs.Ready.{RefusesNone}
use Rattle.puddled.specs.Saying.{SaysPart}
use Rattle.puddled.specs.Starting.{HasTablesOf, IsReplayed, Starts}
use Rattle.puddled.proofs.LinesDone.Lines.{SaysPart-says}
use Rattle.puddle_cli.specs.declared.show.View.{View}
use Rattle.puddle_cli.specs.declared.show.View.TheVariants.{Layout, Check}
use Rattle.puddle_cli.specs.Views.{text_of}
use Rattle.puddle_cli.specs.Headline.{StartMoments, StartsAndSays}
use Rattle.puddle_cli.proofs.Running.{moments_in_start, moments_after_start, text_said, Begins-said}

-- ---- what the device reads after the start is laid out as the settled image of what it read

beside_logs : (F k : ℕ) → (k < tables_end F) ⊎ (frames_at F ≤ k) → is_in_logs F k ≡ false
beside_logs F k (inl below) = ap (λ (b : Bool). b && ltb k (frames_at F)) (lt-leb (tables_end F) k below)
beside_logs F k (inr above) = elim (leb (tables_end F) k) as (λ b. (b && ltb k (frames_at F)) ≡ false) [ true ↦ le-ltb k (frames_at F) above | false ↦ refl ]

module _ (size : ℕ) (s : StoredWorld) (before now : Image) (world : world_of size before ≡ Some s) (r : IsReplayed before now) where
  abbrev after : Image
  after = settled (frames_of before) before

  active : HoldsWorld size after s
  active = holding_of_world size before s world

  frames_after : after FRAMES_WORD ≡ frames_of before
  frames_after = active.header.frames ∙ sym (frames_of_world size before s world)

  read : (k : ℕ) → k ≢ VERSION_WORD → (k < DAEMON_LOG) ⊎ (TYPE_TABLE ≤ k) → (k < SPACE_TABLE) ⊎ (PUDDLE_TABLE ≤ k) → (k < tables_end (after FRAMES_WORD)) ⊎ (frames_at (after FRAMES_WORD) ≤ k) → now k ≡ after k
  read k apart beside spaces logs =
      r.each k apart (outside_log DAEMON_LOG k (⊎_elim (λ low. inl low) (λ high. inr (omega arith)) beside)) (beside_logs (frames_of before) k (subst (λ (F : ℕ). (k < tables_end F) ⊎ (frames_at F ≤ k)) frames_after logs)) spaces

  low_word : (k : ℕ) → k ≢ VERSION_WORD → k < DAEMON_LOG → now k ≡ after k
  low_word k apart low = read k apart (inl low) (inl (omega arith)) (inl (omega arith))

  tables_replayed : tables_of (now FRAMES_WORD) now ≡ tables_of (after FRAMES_WORD) after
  tables_replayed =
      ap (λ (F : ℕ). tables_of F now) (low_word FRAMES_WORD (λ e. absurd (omega arith)) (omega arith))
      ∙ tables_of-same (after FRAMES_WORD) now after
      (λ k low high. read k (λ e. absurd (omega arith)) (inr (omega arith)) (inl high) (inl (omega arith)))
      (λ k low high. read k (λ e. absurd (omega arith)) (inr (omega arith)) (inr low) (inl high))

  layout_text-replayed : layout_text now ≡ layout_text after
  layout_text-replayed =
      ap (λ (id : ℕ). tables_text id (now NEXT_NUMBER_WORD) (tables_of (now FRAMES_WORD) now)) (low_word MACHINE_WORD (λ e. absurd (omega arith)) (omega arith))
      ∙ ap (λ (next : ℕ). tables_text (after MACHINE_WORD) next (tables_of (now FRAMES_WORD) now)) (low_word NEXT_NUMBER_WORD (λ e. absurd (omega arith)) (omega arith))
      ∙ ap (λ (t : Tables). tables_text (after MACHINE_WORD) (after NEXT_NUMBER_WORD) t) tables_replayed

  -- It stands for the same stored world.
  stored_replayed : stored_by now ≡ stored_by after
  unfolding stored_by
  stored_replayed =
      let F = after FRAMES_WORD in
      let frames = low_word FRAMES_WORD (λ e. absurd (omega arith)) (omega arith) in
      let types : types_of now ≡ types_of after = keyed-same nat_cmp (type_at now) (type_at after) 0 TYPE_RECORDS
      (λ n low high. type_at-same after now n (read (type_record_at n) (λ e. absurd (omega arith)) (inr (omega arith)) (inl (omega arith)) (inl (omega arith))) (read (type_record_at n + 1) (λ e. absurd (omega arith)) (inr (omega arith)) (inl (omega arith)) (inl (omega arith)))) in
      let tables : tables_of F now ≡ tables_of F after = tables_of-same F now after (λ k low high. read k (λ e. absurd (omega arith)) (inr (omega arith)) (inl high) (inl (omega arith))) (λ k low high. read k (λ e. absurd (omega arith)) (inr (omega arith)) (inr low) (inl high)) in
      let pools : pools_in (types_of now) (now FRAMES_WORD) now ≡ pools_in (types_of after) F after =
      ap₂ (λ (ts : List (ℕ × ℕ)) (n : ℕ). pools_in ts n now) types frames
      ∙ pools_in-same (types_of after) F after now tables (λ frame below used. frame_among F frame after now below (λ k low high. read k (λ e. absurd (omega arith)) (inr (omega arith)) (inr (omega arith)) (inr low))) in
      λ p. record { frames = frames p; machine = low_word MACHINE_WORD (λ e. absurd (omega arith)) (omega arith) p; next_number = low_word NEXT_NUMBER_WORD (λ e. absurd (omega arith)) (omega arith) p; types = types p; pools = pools p }

  -- So each view shows the same.
  pub text_of-replayed : (view : View) → text_of view now ≡ text_of view after
  text_of-replayed Layout = layout_text-replayed
  text_of-replayed Check = ap check_text stored_replayed

  -- Its tables are sound.
  pub sound_replayed : HasSoundTables s.next_number (tables_of (now FRAMES_WORD) now)
  sound_replayed =
      let same : tables_of (now FRAMES_WORD) now ≡ tables_of s.frames after = tables_replayed ∙ ap (λ (F : ℕ). tables_of F after) active.header.frames in
      sound_from s.next_number (tables_of (now FRAMES_WORD) now) (ap (are_sound_tables s.next_number) same ∙ active.pools.sound)

-- A device that does not stand for no world stands for one.
world_there : (size : ℕ) (image : Image) (o : Option StoredWorld) → world_of size image ≡ o → (o ≡ None → ⊥) → (s : StoredWorld) × (world_of size image ≡ Some s)
world_there size image None e some = absurd (some refl)
world_there size image (Some s) e some = (s, e)

-- A start that went well was not refused.
pub not_refused : {memory : Memory} (size : ℕ) (image : Image) → (◌≡◌ {A = Result Memory StartFault} (Ok memory) (Err starts.NotSound)) ↔ (world_of size image ≡ None) → world_of size image ≡ None → ⊥
not_refused size image exact none = let no = exact.1 none in cc

-- ---- what was printed

-- What the view shows, if the number of frames is the daemon's.
pub shown : (size F : ℕ) (view : View) (old mid new : State) (fault : Option HostFault) → (world_of size (reads old.now.words) ≡ None → ⊥) → IsReplayed (reads old.now.words) (reads mid.now.words) → F ≡ frames_of (reads mid.now.words)
    → ((next : ℕ) → HasSoundTables next (tables_of F (reads mid.now.words)) → F ≡ frames_of (reads mid.now.words) → Says (text_of view (reads mid.now.words)) fault mid new)
    → Says (text_of view (settled (frames_of (reads old.now.words)) (reads old.now.words))) fault mid new
shown size F view old mid new fault sound replayed frames says =
    let there = world_there size (reads old.now.words) _ refl sound in
    let tables = subst (λ (n : ℕ). HasSoundTables there.0.next_number (tables_of n (reads mid.now.words))) (sym frames) (sound_replayed size there.0 (reads old.now.words) (reads mid.now.words) there.1 replayed) in
    subst (λ (text : List ℕ). Says text fault mid new) (text_of-replayed size there.0 (reads old.now.words) (reads mid.now.words) there.1 replayed view) (says there.0.next_number tables frames)

-- The text of what the device reads is that of the settled image.
pub shown_in_the_end : (size : ℕ) (view : View) (old mid : State) → (world_of size (reads old.now.words) ≡ None → ⊥) → IsReplayed (reads old.now.words) (reads mid.now.words)
    → text_of view (reads mid.now.words) ≡ text_of view (settled (frames_of (reads old.now.words)) (reads old.now.words))
shown_in_the_end size view old mid sound replayed =
    let there = world_there size (reads old.now.words) _ refl sound in
    text_of-replayed size there.0 (reads old.now.words) (reads mid.now.words) there.1 replayed view

-- The start's text was printed whole, and then this text or a prefix of it.
pub SaysPart-started : (start text : List ℕ) (fault : Option HostFault) (old mid new : State) → SaysPart {Fault = HostFault} start None old mid → Says text fault mid new → SaysPart (start ++ text) fault old new
SaysPart-started start text fault old mid new s says =
    let p = SaysPart-says text fault mid new says in
    let whole : start ≡ s.bytes = s.part ∙ ap (λ (l : List ℕ). s.bytes ++ l) (s.whole refl) ∙ append-nil s.bytes in
    record {
      bytes = start ++ p.bytes;
      rest = p.rest;
      part = ap (λ (l : List ℕ). start ++ l) p.part ∙ sym (append_assoc start p.bytes p.rest);
      said = p.said ∙ ap (λ (l : List ℕ). l ++ p.bytes) (s.said ∙ ap (λ (l : List ℕ). old.now.said ++ l) (sym whole)) ∙ append_assoc old.now.said start p.bytes;
      whole = p.whole;
    }

-- The start failed. What it printed is a prefix of its text and of what follows that.
pub SaysPart-failed : {T U : Type 0} (fault : StartFault) (start text : List ℕ) (old new : State) → (◌≡◌ {A = Result U StartFault} (Err fault) (Err starts.NotSound) → ⊥)
    → ((◌≡◌ {A = Result T StartFault} (Err fault) (Err starts.NotSound) → ⊥) → SaysPart start (start_fault {T = T} (Err fault)) old new) → SaysPart (start ++ text) (start_fault {T = U} (Err fault)) old new
SaysPart-failed starts.NotSound start text old new sound says = absurd (sound refl)
SaysPart-failed {T} (starts.Host fault) start text old new sound says =
    let s = says (λ same. let it : ◌≡◌ {A = Result T StartFault} (Err (starts.Host fault)) (Err starts.NotSound) = same in cc) in
    record {
      bytes = s.bytes;
      rest = s.rest ++ text;
      part = ap (λ (l : List ℕ). l ++ text) s.part ∙ append_assoc s.bytes s.rest text;
      said = s.said;
      whole = λ none. absurd (none-some fault (sym none));
    }

-- ---- what is left at each moment

module _ (size : ℕ) (s : StoredWorld) (old : State) where
  abbrev pub world_at : State → World
  world_at start = record { stored = s; clients = no_clients; shelf = start.shelf; transactions = nothing_open }

  pub Leaves-start : (result : Result Memory StartFault) (new : State) → Starts size (world_at old) result old new → Leaves (λ bytes image. world_of size image ≡ Some s) old new
  Leaves-start result new p = Leaves-weaker _ _ old new (λ bytes image m. m.stands) p.moments

  pub Leaves-shown : (memory : Memory) (mid new : State) (text : List ℕ) (fault : Option HostFault) → Starts size (world_at old) (Ok memory) old mid → Says text fault mid new → Leaves (λ bytes image. world_of size image ≡ Some s) old new
  Leaves-shown memory mid new text fault p says =
      let P : List ℕ → Image → Type 0 = λ bytes image. world_of size image ≡ Some s in
      Leaves-then P P P p.says.bytes old mid new p.says.said (λ front image m. m) (λ more image m. m) (Leaves-start (Ok memory) mid p)
      (Leaves-says text fault P mid new (λ front image prefix picked. (ready_stands size _ _ _ p.ready image picked).0) says)

  -- No record changes.
  abbrev SameTables : List ℕ → Image → Type 0
  SameTables bytes image = HasTablesOf s.frames (reads old.now.words) image

  pub Tables-start : (result : Result Memory StartFault) (new : State) → Starts size (world_at old) result old new → Leaves SameTables old new
  Tables-start result new p = Leaves-weaker _ SameTables old new (λ bytes image m. m.tables) p.moments

  pub Tables-shown : (memory : Memory) (mid new : State) (text : List ℕ) (fault : Option HostFault) → Starts size (world_at old) (Ok memory) old mid → Says text fault mid new → Leaves SameTables old new
  Tables-shown memory mid new text fault p says =
      let first = Tables-start (Ok memory) mid p in
      Leaves-then SameTables SameTables SameTables p.says.bytes old mid new p.says.said (λ front image m. m) (λ more image m. m) first
      (Leaves-says text fault SameTables mid new (λ front image prefix picked. Leaves-now SameTables p.says.bytes old mid p.says.said first image picked) says)

  module _ (rested : IsRested old.now.words) (world : world_of size (reads old.now.words) ≡ Some s) where
    -- A start, as far as it came.
    pub StartMoments-start : (result : Result Memory StartFault) (new : State) → Starts size (world_at old) result old new → StartMoments s.frames old new
    StartMoments-start result new p = moments_in_start size (world_at old) old rested world result new p

    pub Does-start : (result : Result Memory StartFault) (new : State) → Starts size (world_at old) result old new → StartsAndSays size s old new
    Does-start result new p = inl p.moments

    -- A start, and what is printed after it.
    pub StartMoments-shown : (memory : Memory) (mid new : State) (text : List ℕ) (fault : Option HostFault) → Starts size (world_at old) (Ok memory) old mid → Says text fault mid new → StartMoments s.frames old new
    StartMoments-shown memory mid new text fault p says =
        let Q : List ℕ → Image → Type 0 = λ bytes image. RefusesNone image in
        let allowed = Leaves-says text fault Q mid new (λ front image prefix picked. (ready_stands size _ _ _ p.ready image picked).1) says in
        moments_after_start size (world_at old) old rested world Q memory mid new p (text_said size (world_at old) old rested world memory mid p) allowed allowed

    pub Does-shown : (memory : Memory) (mid new : State) (text : List ℕ) (fault : Option HostFault) → Starts size (world_at old) (Ok memory) old mid → IsReplayed (reads old.now.words) (reads mid.now.words) → Says text fault mid new
        → StartsAndSays size s old new
    Does-shown memory mid new text fault p replayed says = inr (mid, Begins-said size (world_at old) old rested world memory mid p replayed, record { bytes = take says.count text; is = says.is })
