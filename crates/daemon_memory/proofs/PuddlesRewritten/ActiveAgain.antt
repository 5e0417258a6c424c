-- One of the active transactions gets another list of puddles and another beginning, beside the others, over calls that
-- write no masked word. The words of all transactions are then masked as the transactions now are, and what held with
-- the words masked still holds.
use Rattle.std.proofs.Common.{◌≡◌, ◌≢◌, inl, inr, ℕ, true, List, Option, Some, None, refl, sym, ap, subst, ◌∙◌}
use Rattle.std.proofs.lemmas.Bool.{cases_eq}
use Rattle.std.proofs.lemmas.Option.{none-some, same_Some}
use Rattle.pm_model.specs.Words.{reads}
use Rattle.pm_model.specs.Moments.{State}
use Rattle.pm_model.specs.Changes.{Write, Changes}
use Rattle.pm_model.specs.Masks.{masked}
use Rattle.pud_defs.specs.declared.layout.TheConstants.{DAEMON_LOG}
use Rattle.pud_defs.specs.declared.records.Puddle.{Puddle}
use Rattle.pud_defs.specs.Formats.Image.{Image}
use Rattle.pud_defs.specs.Formats.Layout.{log_at}
use Rattle.pud_defs.specs.RegistryTables.Spaces.{Owner}
use Rattle.pud_defs.specs.StateMachine.World.{StoredWorld, World}
use Rattle.batch.specs.Worlds.{IsQuiescent}
use Rattle.batch.proofs.Tables.{reads_kept}
use Rattle.hybrid_tx.specs.Open.Masks.{is_open_record, open_mask}
use Rattle.hybrid_tx.specs.Open.ManyOpen.{OpenTransaction, Opens, with_transaction, open_masks, MasksAll, AreOpenPools, HasRecords, IsOneMore}
use Rattle.hybrid_tx.specs.Objects.Transactions.{RestsAs}
use Rattle.hybrid_tx.proofs.Open.ManyMasks.{open_masks_all, masks_of_record}
use Rattle.hybrid_tx.proofs.Open.ManyIdle.{one_ended, one_put, others_open, others_records, opens_more, records_more, masks_elsewhere, masks_changed}
use Rattle.daemon_memory.specs.Memory.{ActiveTransaction, active_under}
use Rattle.daemon_memory.specs.ActiveTransactions.{open_transaction_of, IsActive, IsActiveUnder, AreActive, HasDurableFrames, HasIdleLogs, ByOthers}
use Rattle.daemon_memory.proofs.Commands.Beside.{KeepsOne, others_apart, active_still, records_all}
use Rattle.daemon_memory.proofs.PuddlesRewritten.OwnMore.{IsMaskedMore, masked_more, one_more, OpensAgain}

-- The same world keeps all that it has for an active transaction.
keeps_all : (w : World) (h : ActiveTransaction) → KeepsOne w w h
keeps_all w h = record { frames = refl; transaction = refl; present = refl; stored = refl; types = λ id m is. is; graphs = λ st g is. is }

module _ (w : World) (all : List (Option ActiveTransaction)) (mask : Write) (old new : State) (holds : AreActive w all mask old.now.words) (active : ActiveTransaction) (number : ℕ) (there : active_under all number ≡ Some active)
    (beside : Changes (ByOthers mask) None old new) {at : List (ℕ × Puddle)} {before : Image}
    (renewed : OpensAgain w.stored.frames (open_transaction_of active (holds.each number active there).is.puddles (holds.each number active there).is.rec (holds.each number active there).is.own.who (holds.each number active there).is.before)
    (open_transaction_of active at (holds.each number active there).is.rec (holds.each number active there).is.own.who before) new.now.words) where
  abbrev n : ℕ
  n = w.stored.frames

  abbrev image : Image
  image = reads new.now.words

  abbrev under : IsActiveUnder w holds.opens mask old.now.words number active
  under = holds.each number active there

  -- The transaction as it was open, and as it is open afterwards.
  abbrev o : OpenTransaction
  o = open_transaction_of active under.is.puddles under.is.rec under.is.own.who under.is.before

  abbrev q : OpenTransaction
  q = open_transaction_of active at under.is.rec under.is.own.who before

  -- The other transactions, and these with the transaction as it is afterwards.
  abbrev others : Opens
  others = with_transaction number None holds.opens

  abbrev pub opens_again : Opens
  opens_again = with_transaction number (Some q) holds.opens

  pub was_one : IsOneMore number o others holds.opens
  was_one = one_ended number o holds.opens under.opened

  pub then_one : IsOneMore number q others opens_again
  then_one = one_put number q holds.opens

  -- Under each other number the same transaction is open as before.
  pub other_is : (m : ℕ) → m ≢ number → opens_again m ≡ holds.opens m
  other_is m apart = then_one.same m apart ∙ sym (was_one.same m apart)

  never_it : (m : ℕ) (x : OpenTransaction) → others m ≡ Some x → m ≢ number
  never_it m x has same = none-some x (sym then_one.none ∙ ap others (sym same) ∙ has)

  are_others : AreOpenPools n others
  are_others = others_open number o others holds.opens was_one n holds.are

  pub are_again : AreOpenPools n opens_again
  are_again =
      opens_more number q others opens_again then_one n are_others under.number_is renewed.pool
      (λ m x has same. never_it m x has (holds.are.slots m number x o (was_one.same m (never_it m x has) ∙ has) under.opened same))

  -- The records of the open transactions are read as they were.
  records_still : HasRecords holds.opens image
  records_still = record {
    each = λ m x has k of.
        let kept = (records_all w all mask old.now.words holds).each m x has k of in
        reads_kept (ByOthers mask) old new k beside (λ v none. masked_record m x has k of none) ∙ kept;
  }
    where
      masked_record : (m : ℕ) (x : OpenTransaction) → holds.opens m ≡ Some x → (k : ℕ) → is_open_record x.pool k ≡ true → mask k ≡ None → ⊥
      masked_record m x has k of none = none-some (x.before k) (sym none ∙ masks_of_record n holds.opens mask holds.are holds.masks m x has k of)

  records_others : HasRecords others image
  records_others = others_records number o others holds.opens was_one image records_still

  pub records_opened : HasRecords opens_again image
  records_opened = records_more number q others opens_again then_one image records_others renewed.records

  -- The words of all transactions, as a mask.
  abbrev pub wide : Write
  wide = open_masks n opens_again

  pub masks_again : MasksAll n opens_again wide
  masks_again = open_masks_all n opens_again image are_again records_opened

  abbrev rest_mask : Write
  rest_mask = open_masks n others

  masks_others : MasksAll n others rest_mask
  masks_others = open_masks_all n others image are_others records_others

  -- A word that one of the others masks has the same value in the new mask.
  masked_by_others : (k v : ℕ) → rest_mask k ≡ Some v → wide k ≡ Some v
  masked_by_others k v is =
      let m = masks_others.each k v is in
      masks_again.has m.number m.transaction (then_one.same m.number (never_it m.number m.transaction m.there) ∙ m.there) k v m.is

  one_wider : (k : ℕ) (x : Option ℕ) → mask k ≡ x → open_mask n o.pool o.before k ≡ None → wide k ≡ Some (image k) → IsMaskedMore mask wide new.now.words k
  one_wider k None free none is = inr (free, is)
  one_wider k (Some v) given none is =
      inl (masked_by_others k v (sym (masks_elsewhere number o others holds.opens was_one n mask rest_mask holds.masks masks_others k none) ∙ given) ∙ sym given)

  -- Each word is masked as before, or it was not masked and is now masked with the value that is read.
  wider_mask : (k : ℕ) → IsMaskedMore mask wide new.now.words k
  wider_mask k = elim (renewed.more k) [
    | inl same ↦ inl (masks_changed number o q others holds.opens opens_again was_one then_one n mask wide rest_mask holds.masks masks_again masks_others k same)
    | inr fresh ↦ one_wider k (mask k) refl fresh.0 (masks_again.has number q then_one.here k (image k) fresh.1)
  ]

  -- ---- what is active

  module _ (it : (renewed : Write) → ((k v : ℕ) → open_mask n q.pool before k ≡ Some v → renewed k ≡ Some v) → (h : IsActive w active renewed new.now.words) × (open_transaction_of active h.puddles h.rec h.own.who h.before ≡ q))
      (rest : (m : ℕ) (g : ActiveTransaction) (has : active_under all m ≡ Some g) → m ≢ number → RestsAs n (holds.each m g has).is.puddles (holds.each m g has).is.before new.now.words) where
    abbrev its : (h : IsActive w active wide new.now.words) × (open_transaction_of active h.puddles h.rec h.own.who h.before ≡ q)
    its = it wide (λ k v is. masks_again.has number q then_one.here k v is)

    it_again : IsActiveUnder w opens_again wide new.now.words number active
    it_again = record { is = its.0; number_is = under.number_is; opened = then_one.here ∙ ap (λ (x : OpenTransaction). Some x) (sym its.1) }

    other_stays : (m : ℕ) (g : ActiveTransaction) → m ≢ number → active_under all m ≡ Some g → IsActiveUnder w opens_again wide new.now.words m g
    other_stays m g apart has =
        let other = holds.each m g has in
        let opened = other_is m apart ∙ other.opened in
        record {
          is = active_still w w g mask wide old new other.is (keeps_all w g) (ByOthers mask) (others_apart w g mask old.now.words other.is) beside
              (λ k v is. masks_again.has m (open_transaction_of g other.is.puddles other.is.rec other.is.own.who other.is.before) opened k v is) (rest m g has apart);
          number_is = other.number_is;
          opened = opened;
        }

    pub each_again : (m : ℕ) (g : ActiveTransaction) → active_under all m ≡ Some g → IsActiveUnder w opens_again wide new.now.words m g
    each_again m g has = elim (cases_eq m number) [
      | inl same ↦
          let one : active ≡ g = same_Some active g (sym there ∙ ap (active_under all) (sym same) ∙ has) in
          subst (λ (x : ℕ). IsActiveUnder w opens_again wide new.now.words x g) (sym same) (subst (λ (x : ActiveTransaction). IsActiveUnder w opens_again wide new.now.words number x) one it_again)
      | inr apart ↦ other_stays m g apart has
    ]

    pub none_again : (m : ℕ) → active_under all m ≡ None → opens_again m ≡ None
    none_again m free = elim (cases_eq m number) [
      | inl same ↦ absurd (none-some active (sym free ∙ ap (active_under all) same ∙ there))
      | inr apart ↦ other_is m apart ∙ holds.none m free
    ]

    -- All transactions are active with the new mask.
    abbrev pub holds_again : AreActive w all wide new.now.words
    holds_again = record {
      opens = opens_again;
      are = are_again;
      masks = masks_again;
      each = each_again;
      none = none_again;
      known = holds.known;
      names = holds.names;
    }

  -- ---- what held with the old mask holds with the new one

  pub settled_again : (size : ℕ) (next : StoredWorld) → IsQuiescent size next (masked mask new.now.words) → IsQuiescent size next (masked wide new.now.words)
  settled_again size next settled = record {
    stands = λ image picked. settled.stands image (record { each = λ k. masked_more mask wide new.now.words k (image k) (wider_mask k) (picked.each k) });
    idle = λ v had. settled.idle v (masked_more mask wide new.now.words DAEMON_LOG v (wider_mask DAEMON_LOG) had);
  }

  pub rest_again : HasDurableFrames n (masked mask new.now.words) → HasDurableFrames n (masked wide new.now.words)
  rest_again rest = record { each = λ k above. one_more mask wide new.now.words k (wider_mask k) (rest.each k above) }

  pub logs_again : (m : ℕ) (clients : ℕ → Option Owner) → HasIdleLogs m clients (masked mask new.now.words) → HasIdleLogs m clients (masked wide new.now.words)
  logs_again m clients logs = record {
    each = λ client i known below present.
        let gate = log_at m client i in
        record { each = λ v had. (logs.each client i known below present).each v (masked_more mask wide new.now.words gate v (wider_mask gate) had) };
  }
