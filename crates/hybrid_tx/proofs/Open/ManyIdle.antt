-- Several transactions are open at once, between two calls: one more begins, one of them ends, and what is known
-- about one beside the others.
use Rattle.std.proofs.Common.{◌≡◌, ◌⊎◌, inl, inr, ℕ, ◌<◌, true, Option, Some, None, refl, sym, ap, subst, ◌∙◌, arith, eqb, eq-eqb, ne_eqb}
use Rattle.std.specs.Prelude.{unwrap_or}
use Rattle.std.proofs.lemmas.Bool.{cases_eq, cond-true, cond-false}
use Rattle.std.proofs.lemmas.Option.{none-some, same_Some}
use Rattle.pm_model.specs.Changes.{Write}
use Rattle.pm_model.specs.Masks.{masked_image}
use Rattle.pm_model.proofs.Masks.{masked_image-there, masked_image-elsewhere}
use Rattle.pud_defs.specs.declared.layout.TheConstants.{DAEMON_LOG}
use Rattle.pud_defs.specs.Logging.Allowed.{puddle_word}
use Rattle.pud_defs.specs.Logging.Entries.{Log, log_of, is_idle_gate}
use Rattle.pud_defs.specs.Formats.Image.{Image}
use Rattle.pud_defs.specs.Logging.Replay.{device_word, new_value}
use Rattle.pud_defs.specs.Logging.Settled.{ALL_LOGS, log_number_at}
use Rattle.pud_defs.specs.RegistryTables.Spaces.{is_closed_log}
use Rattle.pud_defs.specs.RegistryTables.Tables.{tables_of}
use Rattle.pud_defs.specs.StateMachine.World.{StoredWorld, idle_world_of}
use Rattle.pud_defs.proofs.Logging.Masked.{log_of-masked}
use Rattle.pud_defs.proofs.RegistryTables.Spaces.{is_closed_log-same}
use Rattle.word_transaction.specs.Running.{HasPlaces}
use Rattle.hybrid_tx.specs.PoolScopes.{pool_has_word, pool_scope, finished_of}
use Rattle.hybrid_tx.specs.Open.Masks.{is_open_record, open_mask, IsOpenPool, IsLeftOpen}
use Rattle.hybrid_tx.specs.Open.ManyOpen.{OpenTransaction, Opens, with_transaction, open_masks, AreOpenPools, HasRecords, AreLeftOpen, IsOneMore, MasksAll}
use Rattle.hybrid_tx.proofs.Open.OpenMasks.{mask_of_mine, mask_of_record, open_record_place}
use Rattle.hybrid_tx.proofs.Open.OpenPools.{open_on_device}
use Rattle.hybrid_tx.proofs.Open.OpenIdle.{idle_world_masked, idle_world_unmasked, places_masked}
use Rattle.hybrid_tx.proofs.Open.ManyMasks.{masks_below, masks_beside_log, open_masks_all}

-- ---- one of them beside the others

-- for each transaction, the tables have its addresses at the places that it takes
module _ (size F : ℕ) (s : StoredWorld) (opens : Opens) (j : Image) (frames : F ≡ s.frames) (are : AreOpenPools F opens) (idle : is_idle_gate (j DAEMON_LOG) ≡ true)
    (records : HasRecords opens j) (world : idle_world_of size (masked_image (open_masks F opens) j) ≡ Some s) where
  pub places_beside : (n : ℕ) (o : OpenTransaction) → opens n ≡ Some o → HasPlaces (pool_scope F (finished_of o.pool.puddles)) (puddle_word (tables_of F j))
  places_beside = places_masked size F s opens (open_masks F opens) j frames are (open_masks_all F opens j are records) idle records world

-- ---- one more

module _ (number : ℕ) (o : OpenTransaction) (opens : Opens) where
  -- one more begins, under a number under which there was none
  pub one_begun : opens number ≡ None → IsOneMore number o opens (with_transaction number (Some o) opens)
  one_begun free = record {
    here = cond-true (eqb number number) (Some o) (opens number) (eq-eqb number number refl);
    none = free;
    same = λ other apart. cond-false (eqb other number) (Some o) (opens other) (ne_eqb other number apart);
  }

  -- the one that was there ends
  pub one_ended : opens number ≡ Some o → IsOneMore number o (with_transaction number None opens) opens
  one_ended there = record {
    here = there;
    none = cond-true (eqb number number) None (opens number) (eq-eqb number number refl);
    same = λ other apart. sym (cond-false (eqb other number) None (opens other) (ne_eqb other number apart));
  }

  -- one is put under a number, whatever was there before
  pub one_put : IsOneMore number o (with_transaction number None opens) (with_transaction number (Some o) opens)
  one_put = record {
    here = cond-true (eqb number number) (Some o) (opens number) (eq-eqb number number refl);
    none = cond-true (eqb number number) None (opens number) (eq-eqb number number refl);
    same = λ other apart. cond-false (eqb other number) (Some o) (opens other) (ne_eqb other number apart) ∙ sym (cond-false (eqb other number) None (opens other) (ne_eqb other number apart));
  }

module _ (number : ℕ) (o : OpenTransaction) (others opens : Opens) (more : IsOneMore number o others opens) where
  -- each of the others is one of all
  still_there : (n : ℕ) (q : OpenTransaction) → others n ≡ Some q → opens n ≡ Some q
  still_there n q there = more.same n (λ same. none-some q (sym more.none ∙ ap others (sym same) ∙ there)) ∙ there

  pub others_open : (F : ℕ) → AreOpenPools F opens → AreOpenPools F others
  others_open F are = record {
    number = λ n q there. are.number n q (still_there n q there);
    pool = λ n q there. are.pool n q (still_there n q there);
    slots = λ n m q r here there. are.slots n m q r (still_there n q here) (still_there m r there);
  }

  pub others_records : (image : Image) → HasRecords opens image → HasRecords others image
  others_records image records = record { each = λ n q there. records.each n q (still_there n q there) }

  -- each of all is this one or one of the others
  one_or_other : (n : ℕ) (q : OpenTransaction) → opens n ≡ Some q → ((n ≡ number) × (o ≡ q)) ⊎ (others n ≡ Some q)
  one_or_other n q there = elim (cases_eq n number) [
    | inl same ↦ inl (same, same_Some o q (sym more.here ∙ ap opens (sym same) ∙ there))
    | inr apart ↦ inr (sym (more.same n apart) ∙ there)
  ]

  -- so what holds for the others and for this one holds for all
  pub opens_more : (F : ℕ) → AreOpenPools F others → o.pool.log_number ≡ number → IsOpenPool F o.pool o.before
      → ((n : ℕ) (q : OpenTransaction) → others n ≡ Some q → q.pool.slot ≡ o.pool.slot → ⊥) → AreOpenPools F opens
  opens_more F are its opened apart = record {
    number = λ n q there. elim (one_or_other n q there) [
      | inl one ↦ ap (λ (t : OpenTransaction). t.pool.log_number) (sym one.1) ∙ its ∙ sym one.0
      | inr other ↦ are.number n q other
    ];
    pool = λ n q there. elim (one_or_other n q there) [
      | inl one ↦ subst (λ (t : OpenTransaction). IsOpenPool F t.pool t.before) one.1 opened
      | inr other ↦ are.pool n q other
    ];
    slots = λ n m q r here there same. elim (one_or_other n q here) [
      | inl one ↦ elim (one_or_other m r there) [
        | inl also ↦ one.0 ∙ sym also.0
        | inr other ↦ absurd (apart m r other (sym same ∙ ap (λ (t : OpenTransaction). t.pool.slot) (sym one.1)))
      ]
      | inr other ↦ elim (one_or_other m r there) [
        | inl one ↦ absurd (apart n q other (same ∙ ap (λ (t : OpenTransaction). t.pool.slot) (sym one.1)))
        | inr also ↦ are.slots n m q r other also same
      ]
    ];
  }

  pub records_more : (image : Image) → HasRecords others image → ((k : ℕ) → is_open_record o.pool k ≡ true → image k ≡ o.before k) → HasRecords opens image
  records_more image records its = record {
    each = λ n q there k of. elim (one_or_other n q there) [
      | inl one ↦ its k (ap (λ (t : OpenTransaction). is_open_record t.pool k) one.1 ∙ of) ∙ ap (λ (t : OpenTransaction). t.before k) one.1
      | inr other ↦ records.each n q other k of
    ];
  }

  pub left_more : (F : ℕ) (image : Image) → AreLeftOpen F others image → IsLeftOpen F o.pool o.before image → AreLeftOpen F opens image
  left_more F image left its = record {
    each = λ n q there. elim (one_or_other n q there) [
      | inl one ↦ subst (λ (t : OpenTransaction). IsLeftOpen F t.pool t.before image) one.1 its
      | inr other ↦ left.each n q other
    ];
  }

  module _ (F : ℕ) (all rest : Write) (masks : MasksAll F opens all) (its : MasksAll F others rest) where
    -- what the others mask, all mask with the same value
    rest_is : (k v : ℕ) → rest k ≡ Some v → all k ≡ Some v
    rest_is k v is = let m = its.each k v is in masks.has m.number m.transaction (still_there m.number m.transaction m.there) k v m.is

    no_more : (k : ℕ) (a b : Option ℕ) → all k ≡ a → rest k ≡ b → open_mask F o.pool o.before k ≡ None → a ≡ b
    no_more k None None e f none = refl
    no_more k a (Some x) e f none = sym e ∙ rest_is k x f
    no_more k (Some v) None e f none =
        let m = masks.each k v e in
        elim (cases_eq m.number number) [
          | inl same ↦ absurd (
              let one : o ≡ m.transaction = same_Some o m.transaction (sym more.here ∙ ap opens (sym same) ∙ m.there) in
              let it : None ≡ Some v = sym none ∙ ap (λ (t : OpenTransaction). open_mask F t.pool t.before k) one ∙ m.is in cc)
          | inr apart ↦ absurd (none-some v (sym f ∙ its.has m.number m.transaction (sym (more.same m.number apart) ∙ m.there) k v m.is))
        ]

    -- a word that this one does not mask is masked as it was
    pub masks_elsewhere : (k : ℕ) → open_mask F o.pool o.before k ≡ None → all k ≡ rest k
    masks_elsewhere k none = no_more k (all k) (rest k) refl refl none

    masked_by : (image : Image) (k : ℕ) (a : Option ℕ) → open_mask F o.pool o.before k ≡ a → unwrap_or (all k) (image k) ≡ unwrap_or a (unwrap_or (rest k) (image k))
    masked_by image k None e = ap (λ (x : Option ℕ). unwrap_or x (image k)) (masks_elsewhere k e)
    masked_by image k (Some v) e = ap (λ (x : Option ℕ). unwrap_or x (image k)) (masks.has number o more.here k v e)

    -- to mask all is to mask the others, and then this one
    pub masked_one_more : (image : Image) → masked_image all image ≡ masked_image (open_mask F o.pool o.before) (masked_image rest image)
    masked_one_more image = λ i k. masked_by image k (open_mask F o.pool o.before k) refl i

    -- a word that this one masks has its value with the others masked too, if it has this value unmasked
    has_value : (image : Image) (k v : ℕ) (b : Option ℕ) → rest k ≡ b → open_mask F o.pool o.before k ≡ Some v → image k ≡ v → masked_image rest image k ≡ v
    has_value image k v None e is has = masked_image-elsewhere rest image k e ∙ has
    has_value image k v (Some x) e is has = masked_image-there rest image k x e ∙ same_Some x v (sym (rest_is k x e) ∙ masks.has number o more.here k v is)

-- ---- one of them changes

-- if two transactions mask a word alike, either of them beside these others gives the same mask of it
module _ (number : ℕ) (o q : OpenTransaction) (others opens next : Opens) (was : IsOneMore number o others opens) (is : IsOneMore number q others next)
    (F : ℕ) (all renewed rest : Write) (masks : MasksAll F opens all) (then_masks : MasksAll F next renewed) (its : MasksAll F others rest) where
  changed_by : (k : ℕ) (a : Option ℕ) → open_mask F o.pool o.before k ≡ a → open_mask F q.pool q.before k ≡ a → renewed k ≡ all k
  changed_by k None e f = masks_elsewhere number q others next is F renewed rest then_masks its k f ∙ sym (masks_elsewhere number o others opens was F all rest masks its k e)
  changed_by k (Some v) e f = then_masks.has number q is.here k v f ∙ sym (masks.has number o was.here k v e)

  pub masks_changed : (k : ℕ) → open_mask F q.pool q.before k ≡ open_mask F o.pool o.before k → renewed k ≡ all k
  masks_changed k same = changed_by k (open_mask F o.pool o.before k) refl same

-- ---- as one begins or ends

module _ (size : ℕ) (s : StoredWorld) (number : ℕ) (o : OpenTransaction) (others opens : Opens) (more : IsOneMore number o others opens) (j : Image)
    (are : AreOpenPools s.frames opens) (records : HasRecords opens j) (mine : (k : ℕ) → pool_has_word s.frames (finished_of o.pool.puddles) k ≡ true → j k ≡ o.before k)
    (unnamed : (k v : ℕ) → open_mask s.frames o.pool o.before k ≡ Some v → new_value device_word (log_of j DAEMON_LOG) k ≡ None) where
  abbrev F : ℕ
  F = s.frames

  abbrev all : Write
  all = open_masks F opens

  abbrev rest : Write
  rest = open_masks F others

  abbrev under : Image
  under = masked_image rest j

  rest_open : AreOpenPools F others
  rest_open = others_open number o others opens more F are

  masks : MasksAll F opens all
  masks = open_masks_all F opens j are records

  its : MasksAll F others rest
  its = open_masks_all F others j rest_open (others_records number o others opens more j records)

  record_under : (k : ℕ) → is_open_record o.pool k ≡ true → under k ≡ o.before k
  record_under k of =
      let opened = are.pool number o more.here in
      let place = open_record_place F o.pool k opened.slot opened.known (open_on_device F o.pool o.before opened) of in
      has_value number o others opens more F all rest masks its j k (o.before k) (rest k) refl (mask_of_record F o.pool o.before k place.high of) (records.each number o more.here k of)

  mine_under : (k : ℕ) → pool_has_word F (finished_of o.pool.puddles) k ≡ true → under k ≡ o.before k
  mine_under k of =
      has_value number o others opens more F all rest masks its j k (o.before k) (rest k) refl (mask_of_mine F o.pool o.before k (are.pool number o more.here).known of) (mine k of)

  same_log : log_of under DAEMON_LOG ≡ log_of j DAEMON_LOG
  same_log = log_of-masked DAEMON_LOG rest (record { each = λ k inside. let high = inside.high in masks_below F others rest rest_open its k (omega arith) }) j

  unnamed_under : (k v : ℕ) → open_mask F o.pool o.before k ≡ Some v → new_value device_word (log_of under DAEMON_LOG) k ≡ None
  unnamed_under k v is = ap (λ (l : Log). new_value device_word l k) same_log ∙ unnamed k v is

  -- As one more begins, with its frames as at its beginning and its log closed: if an image stands for a world with
  -- the words of the others masked, it does so with its words masked too.
  pub idle_world_begun : idle_world_of size (masked_image (open_masks s.frames others) j) ≡ Some s → idle_world_of size (masked_image (open_masks s.frames opens) j) ≡ Some s
  idle_world_begun world =
      ap (idle_world_of size) (masked_one_more number o others opens more F all rest masks its j)
      ∙ idle_world_masked size s o.pool o.before under (are.pool number o more.here) unnamed_under record_under mine_under world

  closed_under : is_closed_log j (log_number_at F number) ≡ true → is_closed_log under (log_number_at F o.pool.log_number) ≡ true
  closed_under shut =
      let few : number < ALL_LOGS = omega (arith, are.number number o more.here, (are.pool number o more.here).known) in
      ap (λ (n : ℕ). is_closed_log under (log_number_at F n)) (are.number number o more.here)
      ∙ is_closed_log-same under j (log_number_at F number) (λ k inside. masked_image-elsewhere rest j k (masks_beside_log F others rest rest_open its number k more.none few inside))
      ∙ shut

  -- As one ends, with its log closed: if an image stands for a world with the words of all masked, it does so with
  -- those of the others masked.
  pub idle_world_ended : is_closed_log j (log_number_at s.frames number) ≡ true → idle_world_of size (masked_image (open_masks s.frames opens) j) ≡ Some s
      → idle_world_of size (masked_image (open_masks s.frames others) j) ≡ Some s
  idle_world_ended shut world =
      idle_world_unmasked size s o.pool o.before under (are.pool number o more.here) unnamed_under record_under mine_under (closed_under shut)
      (ap (idle_world_of size) (sym (masked_one_more number o others opens more F all rest masks its j)) ∙ world)
