-- Lemmas on laying out a device in three durable groups: zeroes, the words that describe it, the magic.
use Rattle.std.proofs.Common.{◌≡◌, ◌⊎◌, inl, inr, ℕ, ◌<◌, false, List, [], ◌∷◌, Option, Some, None, refl, sym, ap, subst, ◌∙◌, ⊎_elim, arith}
use Rattle.std.proofs.lemmas.Bool.{cases_eq, ne_eqb, cases_lt}
use Rattle.std.proofs.lemmas.List.{append-nil}
use Rattle.pm_model.specs.declared.host.HostFault.{HostFault}
use Rattle.pm_model.specs.Words.{Words, Picks, HasOnly}
use Rattle.pm_model.specs.Moments.{State}
use Rattle.pm_model.specs.Changes.{Changes, Footprint, Leaves, Silently, Persists, only, placed, written as may_be_written}
use Rattle.pm_model.proofs.Words.{HasOnly-own, only_at}
use Rattle.pm_model.proofs.Changes.{Changes-wider, Changes-then, Changes-said, HasOnly-kept}
use Rattle.pm_model.proofs.Leaves.{Leaves-changes, Leaves-then}
use Rattle.pm_persist.specs.Ranges.{zeroed}
use Rattle.pm_persist.proofs.Ranges.{zeroed_at, zeroed_within, placed_within}
use Rattle.pud_defs.specs.declared.layout.TheConstants.{DEVICE_MAGIC, VERSION, MAGIC_WORD, VERSION_WORD, MACHINE_WORD, FRAMES_WORD, NEXT_NUMBER_WORD}
use Rattle.pud_defs.specs.Formats.Layout.{frames_at}
use Rattle.pud_defs.specs.Formats.Image.{Image, image_with}
use Rattle.pud_defs.specs.RegistryTables.Registry.{has_magic}
use Rattle.pud_defs.specs.StateMachine.World.{IsBlank}
use Rattle.pud_defs.proofs.Formats.Images.{written_there, written_other}
use Rattle.type_maps.proofs.OneWord.{image_of_one, image_after_one}
use Rattle.puddle_cli.specs.Formatting.{HasNoMagic, BelowFrames, IsLaidOut, LaysOut}

-- The words that describe the device, from word 1 on.
abbrev pub header : ℕ → ℕ → List ℕ
header F id = VERSION ∷ id ∷ F ∷ 1 ∷ []

without_magic : (image : Image) → (image MAGIC_WORD ≡ DEVICE_MAGIC → ⊥) → has_magic image ≡ false
without_magic image other = ne_eqb (image MAGIC_WORD) DEVICE_MAGIC other

zero_is_not_magic : (v : ℕ) → v ≡ 0 → v ≡ DEVICE_MAGIC → ⊥
zero_is_not_magic v zero magic = absurd (omega arith)

-- What an image is at each moment: without the magic, or blank.
abbrev IsOnTheWay : ℕ → ℕ → Image → Type 0
IsOnTheWay F id image = (has_magic image ≡ false) ⊎ IsBlank F id image

module _ (F id : ℕ) where
  -- What the images are while the zeroes are written.
  zeroing : (fault : Option HostFault) (s t : State) → Persists (zeroed 0 (frames_at F)) fault s t → HasNoMagic s.now.words → Leaves (Silently (IsOnTheWay F id)) s t
  zeroing fault s t p none =
      Leaves-changes (IsOnTheWay F id) (may_be_written (zeroed 0 (frames_at F))) fault s t
      (λ before image picked from. inl (without_magic image (λ magic. elim (from.each MAGIC_WORD) [
        | inl same ↦ none.each (before MAGIC_WORD) (picked.each MAGIC_WORD) (sym same ∙ magic)
        | inr zero ↦ zero_is_not_magic (image MAGIC_WORD) (let here : Some 0 ≡ Some (image MAGIC_WORD) = sym (zeroed_at 0 (frames_at F) MAGIC_WORD (omega arith) (omega arith)) ∙ zero in cc) magic
      ]))) p.changes

  zeroed_words : (s t : State) → Persists (zeroed 0 (frames_at F)) None s t → (k : ℕ) → k < frames_at F → HasOnly (t.now.words k) 0
  zeroed_words s t p k below = p.durable refl k 0 (zeroed_at 0 (frames_at F) k (omega arith) (omega arith))

  outside_header : (k x : ℕ) → (k ≡ 0) ⊎ (4 < k) → may_be_written (placed VERSION_WORD (header F id)) k x → ⊥
  outside_header k x (inl first) may = absurd (let within = placed_within VERSION_WORD k x (header F id) may in omega arith)
  outside_header k x (inr following) may = absurd (let within = placed_within VERSION_WORD k x (header F id) may in omega arith)

  -- What the images are while the words that describe the device are written over zeroes.
  describing : (fault : Option HostFault) (s t : State) → HasOnly (s.now.words MAGIC_WORD) 0 → Persists (placed VERSION_WORD (header F id)) fault s t → Leaves (Silently (IsOnTheWay F id)) s t
  describing fault s t zero p =
      Leaves-changes (IsOnTheWay F id) (may_be_written (placed VERSION_WORD (header F id))) fault s t
      (λ before image picked from. inl (without_magic image (λ magic. elim (from.each MAGIC_WORD) [
        | inl same ↦ zero_is_not_magic (before MAGIC_WORD) (zero.each (before MAGIC_WORD) (picked.each MAGIC_WORD)) (sym same ∙ magic)
        | inr new ↦ outside_header MAGIC_WORD (image MAGIC_WORD) (inl refl) new
      ]))) p.changes

  -- All words are in place except the magic.
  described : (s t u : State) → Persists (zeroed 0 (frames_at F)) None s t → Persists (placed VERSION_WORD (header F id)) None t u → IsLaidOut 0 F id u.now.words
  described s t u first second =
      let zero = zeroed_words s t first in
      let kept : (k : ℕ) → (k ≡ 0) ⊎ (4 < k) → k < frames_at F → HasOnly (u.now.words k) 0 = λ k outside below.
      HasOnly-kept (may_be_written (placed VERSION_WORD (header F id))) None t u k 0 second.changes (λ x may. outside_header k x outside may) (zero k below) in
      record {
        magic = kept MAGIC_WORD (inl refl) (omega arith);
        version = second.durable refl VERSION_WORD VERSION refl;
        machine = second.durable refl MACHINE_WORD id refl;
        frames = second.durable refl FRAMES_WORD F refl;
        number = second.durable refl NEXT_NUMBER_WORD 1 refl;
        rest = λ k following below. kept k (inr following) below;
      }

  -- With the magic the device is blank.
  blank_with_magic : (words : Words) (before : Image) → IsLaidOut 0 F id words → Picks words before → IsBlank F id (image_with MAGIC_WORD DEVICE_MAGIC before)
  blank_with_magic words before ready picked =
      record {
        magic = written_there MAGIC_WORD DEVICE_MAGIC before;
        version = written_other MAGIC_WORD DEVICE_MAGIC before VERSION_WORD (λ e. absurd (omega arith)) ∙ ready.version.each (before VERSION_WORD) (picked.each VERSION_WORD);
        machine = written_other MAGIC_WORD DEVICE_MAGIC before MACHINE_WORD (λ e. absurd (omega arith)) ∙ ready.machine.each (before MACHINE_WORD) (picked.each MACHINE_WORD);
        frames = written_other MAGIC_WORD DEVICE_MAGIC before FRAMES_WORD (λ e. absurd (omega arith)) ∙ ready.frames.each (before FRAMES_WORD) (picked.each FRAMES_WORD);
        next_number = written_other MAGIC_WORD DEVICE_MAGIC before NEXT_NUMBER_WORD (λ e. absurd (omega arith)) ∙ ready.number.each (before NEXT_NUMBER_WORD) (picked.each NEXT_NUMBER_WORD);
        rest = λ k following below. written_other MAGIC_WORD DEVICE_MAGIC before k (λ e. absurd (omega arith)) ∙ (ready.rest k following below).each (before k) (picked.each k);
      }

  -- What the images are while the magic is written.
  finishing : (fault : Option HostFault) (s t : State) → IsLaidOut 0 F id s.now.words → Persists (only MAGIC_WORD DEVICE_MAGIC) fault s t → Leaves (Silently (IsOnTheWay F id)) s t
  finishing fault s t ready p =
      Leaves-changes (IsOnTheWay F id) (may_be_written (only MAGIC_WORD DEVICE_MAGIC)) fault s t
      (λ before image picked from. elim (image_of_one MAGIC_WORD DEVICE_MAGIC before image from) [
        | inl same ↦ inl (without_magic image (λ magic. zero_is_not_magic (before MAGIC_WORD) (ready.magic.each (before MAGIC_WORD) (picked.each MAGIC_WORD)) (sym (ap (λ (f : Image). f MAGIC_WORD) same) ∙ magic)))
        | inr new ↦ inr (subst (λ (f : Image). IsBlank F id f) (sym new) (blank_with_magic s.now.words before ready picked))
      ]) p.changes

  zeroed_below : (k v : ℕ) → may_be_written (zeroed 0 (frames_at F)) k v → BelowFrames F k v
  zeroed_below k v may = let within = zeroed_within 0 (frames_at F) k v may in omega arith

  header_below : (k v : ℕ) → may_be_written (placed VERSION_WORD (header F id)) k v → BelowFrames F k v
  header_below k v may = let within = placed_within VERSION_WORD k v (header F id) may in omega arith

  magic_below : (k v : ℕ) → may_be_written (only MAGIC_WORD DEVICE_MAGIC) k v → BelowFrames F k v
  magic_below k v may = let first = only_at MAGIC_WORD DEVICE_MAGIC k v may in omega arith

  silent : (P : Image → Type 0) (may : Footprint) (a b c : State) → Changes may None a b → Leaves (Silently P) a b → Leaves (Silently P) b c → Leaves (Silently P) a c
  silent P may a b c changes p q =
      Leaves-then (Silently P) (Silently P) (Silently P) [] a b c (Changes-said may None a b changes ∙ sym (append-nil a.now.said)) (λ front image h. h) (λ more image h. h) p q

  -- Each word below the frames that the magic is not written to has one value.
  below_frames : (u v : State) → IsLaidOut 0 F id u.now.words → ((k : ℕ) → (k ≡ MAGIC_WORD → ⊥) → (x : ℕ) → HasOnly (u.now.words k) x → HasOnly (v.now.words k) (v.now.words k).newest)
      → (k : ℕ) → (k ≡ MAGIC_WORD → ⊥) → k < frames_at F → HasOnly (v.now.words k) (v.now.words k).newest
  below_frames u v ready still k apart below = ⊎_elim
      (λ following. still k apart 0 (ready.rest k following below))
      (λ front. ⊎_elim
      (λ e. still k apart VERSION (subst (λ (n : ℕ). HasOnly (u.now.words n) VERSION) (sym e) ready.version))
      (λ not1. ⊎_elim
      (λ e. still k apart id (subst (λ (n : ℕ). HasOnly (u.now.words n) id) (sym e) ready.machine))
      (λ not2. ⊎_elim
      (λ e. still k apart F (subst (λ (n : ℕ). HasOnly (u.now.words n) F) (sym e) ready.frames))
      (λ not3. let last : k ≡ NEXT_NUMBER_WORD = omega arith in still k apart 1 (subst (λ (n : ℕ). HasOnly (u.now.words n) 1) (sym last) ready.number))
      (cases_eq k FRAMES_WORD))
      (cases_eq k MACHINE_WORD))
      (cases_eq k VERSION_WORD))
      (cases_lt NEXT_NUMBER_WORD k)

  faulty : (fault : HostFault) → Some fault ≡ None → ⊥
  faulty fault e = cc

  -- A fault broke off the zeroes.
  pub LaysOut-first : (fault : HostFault) (s t : State) → Persists (zeroed 0 (frames_at F)) (Some fault) s t → LaysOut F id (Some fault) s t
  LaysOut-first fault s t p =
      record {
        changes = Changes-wider _ _ (Some fault) s t zeroed_below p.changes;
        moments = λ none. zeroing (Some fault) s t p none;
        laid = λ e. absurd (faulty fault e);
        blank = λ e. absurd (faulty fault e);
        rested = λ e. absurd (faulty fault e);
      }

  -- A fault broke off the words that describe the device.
  pub LaysOut-second : (fault : HostFault) (s t u : State) → Persists (zeroed 0 (frames_at F)) None s t → Persists (placed VERSION_WORD (header F id)) (Some fault) t u → LaysOut F id (Some fault) s u
  LaysOut-second fault s t u first second =
      record {
        changes = Changes-then _ (Some fault) s t u (Changes-wider _ _ None s t zeroed_below first.changes) (Changes-wider _ _ (Some fault) t u header_below second.changes);
        moments = λ none. silent (IsOnTheWay F id) _ s t u first.changes (zeroing None s t first none) (describing (Some fault) t u (zeroed_words s t first MAGIC_WORD (omega arith)) second);
        laid = λ e. absurd (faulty fault e);
        blank = λ e. absurd (faulty fault e);
        rested = λ e. absurd (faulty fault e);
      }

  -- All three groups were begun.
  pub LaysOut-third : (fault : Option HostFault) (s t u v : State) → Persists (zeroed 0 (frames_at F)) None s t → Persists (placed VERSION_WORD (header F id)) None t u
      → Persists (only MAGIC_WORD DEVICE_MAGIC) fault u v → LaysOut F id fault s v
  LaysOut-third fault s t u v first second third =
      let two = Changes-then _ None s t u (Changes-wider _ _ None s t zeroed_below first.changes) (Changes-wider _ _ None t u header_below second.changes) in
      let ready = described s t u first second in
      let changes = Changes-then _ fault s u v two (Changes-wider _ _ fault u v magic_below third.changes) in
      let other : (k x : ℕ) → (k ≡ MAGIC_WORD → ⊥) → HasOnly (u.now.words k) x → HasOnly (v.now.words k) x = λ k x apart one.
      HasOnly-kept _ fault u v k x third.changes (λ y may. apart (only_at MAGIC_WORD DEVICE_MAGIC k y may)) one in
      let still : (k : ℕ) → (k ≡ MAGIC_WORD → ⊥) → (x : ℕ) → HasOnly (u.now.words k) x → HasOnly (v.now.words k) (v.now.words k).newest = λ k apart x one.
      HasOnly-own (v.now.words k) x (other k x apart one) in
      record {
        changes = changes;
        moments = λ none. silent (IsOnTheWay F id) _ s u v two
            (silent (IsOnTheWay F id) _ s t u first.changes (zeroing None s t first none) (describing None t u (zeroed_words s t first MAGIC_WORD (omega arith)) second))
            (finishing fault u v ready third);
        laid = λ e. record {
          magic = third.durable e MAGIC_WORD DEVICE_MAGIC refl;
          version = other VERSION_WORD VERSION (λ no. absurd (omega arith)) ready.version;
          machine = other MACHINE_WORD id (λ no. absurd (omega arith)) ready.machine;
          frames = other FRAMES_WORD F (λ no. absurd (omega arith)) ready.frames;
          number = other NEXT_NUMBER_WORD 1 (λ no. absurd (omega arith)) ready.number;
          rest = λ k following below. other k 0 (λ no. absurd (omega arith)) (ready.rest k following below);
        };
        blank = λ e image picked.
            let w = image_after_one MAGIC_WORD DEVICE_MAGIC u v image (subst (λ (f : Option HostFault). Persists (only MAGIC_WORD DEVICE_MAGIC) f u v) e third) picked in
            subst (λ (f : Image). IsBlank F id f) (sym w.is) (blank_with_magic u.now.words w.before ready w.picked);
        rested = λ e active. record {
          each = λ k. ⊎_elim
              (λ below. ⊎_elim
              (λ first_word. HasOnly-own (v.now.words k) DEVICE_MAGIC (third.durable e k DEVICE_MAGIC (ap (λ (n : ℕ). only MAGIC_WORD DEVICE_MAGIC n) first_word)))
              (λ apart. below_frames u v ready still k apart below)
              (cases_eq k MAGIC_WORD))
              (λ beyond. HasOnly-own (v.now.words k) (s.now.words k).newest (HasOnly-kept (BelowFrames F) fault s v k (s.now.words k).newest changes (λ x may. absurd (omega arith)) (active.each k)))
              (cases_lt k (frames_at F));
        };
      }
