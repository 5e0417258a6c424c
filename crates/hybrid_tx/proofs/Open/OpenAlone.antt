-- One open transaction as the only one: what is known about it is known about all that are open.
use Rattle.std.proofs.Common.{◌≡◌, ℕ, true, Some, None, refl, sym, ap, subst, ◌∙◌, eqb, eqb-true, eq-eqb}
use Rattle.std.proofs.lemmas.Bool.{cond-true}
use Rattle.std.proofs.lemmas.Option.{cond_some}
use Rattle.pud_defs.specs.Formats.Image.{Image}
use Rattle.hybrid_tx.specs.Open.Masks.{OpenPool, is_open_record, open_mask, IsOpenPool}
use Rattle.hybrid_tx.specs.Open.ManyOpen.{OpenTransaction, Opens, none_open, with_transaction, AreOpenPools, HasRecords, MasksAll}

abbrev pub the_one : OpenPool → Image → OpenTransaction
the_one p before = record { pool = p; before = before }

abbrev pub alone : OpenPool → Image → Opens
alone p before = with_transaction p.log_number (Some (the_one p before)) none_open

module _ (p : OpenPool) (before : Image) where
  alone_there : alone p before p.log_number ≡ Some (the_one p before)
  alone_there = cond-true (eqb p.log_number p.log_number) (Some (the_one p before)) None (eq-eqb p.log_number p.log_number refl)

  alone_is : (n : ℕ) (o : OpenTransaction) → alone p before n ≡ Some o → (n ≡ p.log_number) × (the_one p before ≡ o)
  alone_is n o is = let parts = cond_some (eqb n p.log_number) (the_one p before) o is in (eqb-true n p.log_number parts.0, parts.1)

  pub are_alone : (F : ℕ) → IsOpenPool F p before → AreOpenPools F (alone p before)
  are_alone F opened = record {
    number = λ n o is. let e = alone_is n o is in ap (λ (t : OpenTransaction). t.pool.log_number) (sym e.1) ∙ sym e.0;
    pool = λ n o is. subst (λ (t : OpenTransaction). IsOpenPool F t.pool t.before) (alone_is n o is).1 opened;
    slots = λ n m o q is also same. (alone_is n o is).0 ∙ sym (alone_is m q also).0;
  }

  pub masks_alone : (F : ℕ) → MasksAll F (alone p before) (open_mask F p before)
  masks_alone F = record {
    has = λ n o is k v masked. ap (λ (t : OpenTransaction). open_mask F t.pool t.before k) (alone_is n o is).1 ∙ masked;
    each = λ k v is. record { number = p.log_number; transaction = the_one p before; there = alone_there; is = is };
  }

  module _ (image : Image) where
    pub records_alone : ((k : ℕ) → is_open_record p k ≡ true → image k ≡ before k) → HasRecords (alone p before) image
    records_alone records = record {
      each = λ n o is k of.
          let e = (alone_is n o is).1 in
          records k (ap (λ (t : OpenTransaction). is_open_record t.pool k) e ∙ of) ∙ ap (λ (t : OpenTransaction). t.before k) e;
    }
