-- Lemmas on formatting a device and printing that it was done.
use Rattle.std.proofs.Common.{◌≡◌, ◌≢◌, ◌⊎◌, inl, inr, ⊎_elim, ℕ, ◌≤◌, true, false, ltb, List, [], ◌++◌, Option, Some, None, refl, sym, ap, subst, ◌∙◌, arith}
use Rattle.std.proofs.lemmas.Bool.{eqb-false, or_parts}
use Rattle.std.proofs.lemmas.List.{append-nil}
use Rattle.pm_model.specs.declared.host.HostFault.{HostFault}
use Rattle.pm_model.specs.declared.host.HostFault.TheVariants.{Cut}
use Rattle.pm_model.specs.Words.{Has, values, Words, Picks, IsRested, reads}
use Rattle.pm_model.specs.Moments.{State}
use Rattle.pm_model.specs.Calls.{Says}
use Rattle.pm_model.specs.Changes.{IsKept, Changes, Leaves, Silently}
use Rattle.pm_model.proofs.Words.{Picks-reads, reads_only}
use Rattle.pm_model.proofs.Changes.{Changes-said}
use Rattle.pm_model.proofs.Leaves.{Leaves-changes, Leaves-then, Leaves-weaker, Leaves-now, Leaves-each, Leaves-says, Leaves-still}
use Rattle.pud_defs.specs.declared.layout.TheConstants.{DEVICE_MAGIC, MAGIC_WORD}
use Rattle.pud_defs.specs.Formats.Layout.{frames_at, device_words, is_legal_frame_count}
use Rattle.pud_defs.specs.Formats.Image.{Image}
use Rattle.pud_defs.specs.RegistryTables.Registry.{has_magic}
use Rattle.pud_defs.specs.StateMachine.World.{world_of, blank_world, IsBlank}
use Rattle.pud_defs.specs.Output.Texts.{formatted_text}
use Rattle.pud_defs.proofs.StateMachine.Worlds.{world_of-no_magic}
use Rattle.pud_defs.proofs.Formats.Blank.{world_of-blank}
use Rattle.puddled.proofs.LinesDone.Lines.{SaysPart-says, SaysPart-nothing, words_said, script_said, shelf_said}
use Rattle.puddle_cli.specs.Formatting.{is_format_refused, HasNoMagic, BelowFrames, IsLaidOut, HasFramesOf, KeepsFrames, LaysOut, Formats}

-- Each image left is not sound, or stands for the empty world.
abbrev IsBlankOrNone : (size F id : ℕ) → List ℕ → Image → Type 0
IsBlankOrNone size F id said image = (world_of size image ≡ None) ⊎ (world_of size image ≡ Some (blank_world F id))

-- Nothing was printed, or the image stands for the empty world.
abbrev IsBlankOrUnsaid : (size F id : ℕ) → List ℕ → Image → Type 0
IsBlankOrUnsaid size F id said image = (said ≡ []) ⊎ (world_of size image ≡ Some (blank_world F id))

pub no_magic_when_rested : (words : Words) → IsRested words → has_magic (reads words) ≡ false → HasNoMagic words
no_magic_when_rested words rested without =
    record { each = λ v had magic. eqb-false (reads words MAGIC_WORD) DEVICE_MAGIC without (sym ((rested.each MAGIC_WORD).each v had) ∙ magic) }

-- ---- the words from the frames on

module _ (F : ℕ) (fault : Option HostFault) (old new : State) (changes : Changes (BelowFrames F) fault old new) where
  frames_left : Leaves (λ said image. HasFramesOf F old.now.words image) old new
  frames_left =
      Leaves-weaker _ _ old new (λ said image m. m.1)
      (Leaves-changes (HasFramesOf F old.now.words) (BelowFrames F) fault old new
      (λ before image picked from. record {
        each = λ k beyond. ⊎_elim
            (λ same. subst (λ (v : ℕ). Has (values (old.now.words k)) v) (sym same) (picked.each k))
            (λ may. absurd (omega arith))
            (from.each k);
      }) changes)

  frames_kept : fault ≢ Some Cut → (k : ℕ) → frames_at F ≤ k → IsKept (old.now.words k) (new.now.words k)
  frames_kept not_cut k beyond = changes.keeps not_cut k (λ v may. absurd (omega arith))

  KeepsFrames-laid : KeepsFrames F fault old new
  KeepsFrames-laid = record { within = Leaves-each (λ said image. HasFramesOf F old.now.words image) old new frames_left; kept = frames_kept }

-- Printing gives none of these words a value either.
KeepsFrames-said : (F : ℕ) (fault : Option HostFault) (old mid new : State) → Changes (BelowFrames F) None old mid → Says formatted_text fault mid new → KeepsFrames F fault old new
KeepsFrames-said F fault old mid new changes says =
    let P : List ℕ → Image → Type 0 = λ said image. HasFramesOf F old.now.words image in
    let said = Changes-said _ None old mid changes ∙ sym (append-nil old.now.said) in
    let first = frames_left F None old mid changes in
    record {
      within = Leaves-each P old new
          (Leaves-then P P P [] old mid new said (λ front image m. m) (λ more image m. m) first
          (Leaves-says formatted_text fault P mid new (λ front image prefix picked. Leaves-now P [] old mid said first image picked) says));
      kept = λ not_cut k beyond.
          subst (λ (w : Words). IsKept (old.now.words k) (w k)) (sym (words_said formatted_text fault mid new says)) (frames_kept F None old mid changes (λ no. cc) k beyond);
    }

KeepsFrames-still : (F : ℕ) (fault : Option HostFault) (old new : State) → new ≡ old → KeepsFrames F fault old new
KeepsFrames-still F fault old new same = record {
  within = Leaves-each (λ said image. HasFramesOf F old.now.words image) old new (Leaves-still _ old new (λ image picked. record { each = λ k beyond. picked.each k }) same);
  kept = λ not_cut k beyond. subst (λ (s : State). IsKept (old.now.words k) (s.now.words k)) (sym same) (record { newest = refl; marked = λ m. m });
}

module _ (size F id : ℕ) (legal : is_legal_frame_count F ≡ true) (room : device_words F ≤ size) where
  stands_on_the_way : (image : Image) → (has_magic image ≡ false) ⊎ IsBlank F id image → (world_of size image ≡ None) ⊎ (world_of size image ≡ Some (blank_world F id))
  stands_on_the_way image (inl without) = inl (world_of-no_magic size image (eqb-false (image MAGIC_WORD) DEVICE_MAGIC without))
  stands_on_the_way image (inr blank) = inr (world_of-blank size F id image legal room blank)

  -- A fault broke off laying out the words.
  pub Formats-laid : (fault : HostFault) (old new : State) → has_magic (reads old.now.words) ≡ false → LaysOut F id (Some fault) old new → Formats size F id (Some fault) old new
  Formats-laid fault old new without l =
      let moments : IsRested old.now.words → Leaves (Silently (λ image. (has_magic image ≡ false) ⊎ IsBlank F id image)) old new = λ rested. l.moments (no_magic_when_rested old.now.words rested without) in
      record {
        says = SaysPart-nothing formatted_text fault old new (Changes-said _ (Some fault) old new l.changes);
        moments = λ rested _. Leaves-each (IsBlankOrNone size F id) old new (Leaves-weaker _ _ old new (λ bytes image m. stands_on_the_way image m.1) (moments rested));
        acknowledged = λ rested. Leaves-each (IsBlankOrUnsaid size F id) old new (Leaves-weaker _ _ old new (λ bytes image m. inl m.0) (moments rested));
        frames = KeepsFrames-laid F (Some fault) old new l.changes;
        laid = λ e. absurd (let no : Some fault ≡ None = e in cc);
        world = λ e. absurd (let no : Some fault ≡ None = e in cc);
        rested = λ e. absurd (let no : Some fault ≡ None = e in cc);
        script = l.changes.script;
        shelf = l.changes.shelf;
      }

  -- The words were laid out, and the text was printed, as far as this fault allowed.
  pub Formats-said : (fault : Option HostFault) (old mid new : State) → has_magic (reads old.now.words) ≡ false → LaysOut F id None old mid → Says formatted_text fault mid new → Formats size F id fault old new
  Formats-said fault old mid new without l says =
      let quiet = Changes-said _ None old mid l.changes in
      let part = SaysPart-says formatted_text fault mid new says in
      let words = words_said formatted_text fault mid new says in
      let stands : (image : Image) → Picks mid.now.words image → world_of size image ≡ Some (blank_world F id) = λ image picked. world_of-blank size F id image legal room (l.blank refl image picked) in
      let moments : IsRested old.now.words → Leaves (Silently (λ image. (has_magic image ≡ false) ⊎ IsBlank F id image)) old mid = λ rested. l.moments (no_magic_when_rested old.now.words rested without) in
      let late = Leaves-says formatted_text fault (λ bytes image. world_of size image ≡ Some (blank_world F id)) mid new (λ front image prefix picked. stands image picked) says in
      record {
        says = record { bytes = part.bytes; rest = part.rest; part = part.part; said = part.said ∙ ap (λ (s : List ℕ). s ++ part.bytes) quiet; whole = part.whole };
        moments = λ rested _. Leaves-each (IsBlankOrNone size F id) old new
            (Leaves-then _ _ _ [] old mid new (quiet ∙ sym (append-nil old.now.said)) (λ bytes image m. stands_on_the_way image m.1) (λ bytes image m. inr m) (moments rested) late);
        acknowledged = λ rested. Leaves-each (IsBlankOrUnsaid size F id) old new
            (Leaves-then _ _ _ [] old mid new (quiet ∙ sym (append-nil old.now.said)) (λ bytes image m. inl m.0) (λ bytes image m. inr m) (moments rested) late);
        frames = KeepsFrames-said F fault old mid new l.changes says;
        laid = λ _. subst (λ (w : Words). IsLaidOut DEVICE_MAGIC F id w) (sym words) (l.laid refl);
        world = λ _. ap (λ (w : Words). world_of size (reads w)) words ∙ stands (reads mid.now.words) (Picks-reads mid.now.words);
        rested = λ _ rested. subst (λ (w : Words). IsRested w) (sym words) (l.rested refl rested);
        script = script_said formatted_text fault mid new says ∙ l.changes.script;
        shelf = shelf_said formatted_text fault mid new says ∙ l.changes.shelf;
      }

-- Nothing was done.
pub Formats-none : (size F id : ℕ) (fault : HostFault) (old new : State) → new ≡ old → Formats size F id (Some fault) old new
Formats-none size F id fault old new same =
    record {
      says = SaysPart-nothing formatted_text fault old new (ap (λ (s : State). s.now.said) same);
      moments = λ rested without. Leaves-each (IsBlankOrNone size F id) old new
          (Leaves-still _ old new (λ image picked. inl (world_of-no_magic size image (eqb-false (image MAGIC_WORD) DEVICE_MAGIC (ap has_magic (reads_only old.now.words image rested picked) ∙ without)))) same);
      acknowledged = λ rested. Leaves-each (IsBlankOrUnsaid size F id) old new (Leaves-still _ old new (λ image picked. inl refl) same);
      frames = KeepsFrames-still F (Some fault) old new same;
      laid = λ e. absurd (let no : Some fault ≡ None = e in cc);
      world = λ e. absurd (let no : Some fault ≡ None = e in cc);
      rested = λ e. absurd (let no : Some fault ≡ None = e in cc);
      script = ap (λ (s : State). s.script) same;
      shelf = ap (λ (s : State). s.shelf) same;
    }

-- If formatting is not refused, the device has no magic.
pub not_refused : (size F : ℕ) (image : Image) → is_format_refused size F image ≡ false → has_magic image ≡ false
not_refused size F image e = (or_parts (ltb size (device_words F)) (has_magic image) e).1
