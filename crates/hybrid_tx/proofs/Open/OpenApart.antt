-- A word that one open transaction may write is no word of another's.
use Rattle.std.proofs.Common.{◌≡◌, ◌≢◌, inl, inr, ℕ, true, false, Some, None, sym, ◌∙◌}
use Rattle.std.proofs.lemmas.Bool.{and_from, le-leb, lt-ltb, or_cases, or_left}
use Rattle.pud_defs.specs.Formats.Image.{Image}
use Rattle.pud_defs.specs.Logging.Replay.{IsInLog, is_in_log}
use Rattle.pud_defs.specs.Logging.Settled.{log_number_at}
use Rattle.word_transaction.specs.Running.{ByTransaction}
use Rattle.hybrid_tx.specs.PoolScopes.{pool_has_word, pool_scope, finished_of}
use Rattle.hybrid_tx.specs.Open.Masks.{is_open_record, open_mask}
use Rattle.hybrid_tx.specs.Open.ManyOpen.{OpenTransaction, Opens, AreOpenPools, HasRecords}
use Rattle.hybrid_tx.proofs.Open.OpenMasks.{mask_cases}
use Rattle.hybrid_tx.proofs.Open.OpenSettled.{nothing_given}
use Rattle.hybrid_tx.proofs.Open.ManyMasks.{opens_apart, two_logs, log_or_own, mine_or_record}

is_in : (at k : ℕ) → IsInLog at k → is_in_log at k ≡ true
is_in at k inside = and_from _ _ (le-leb _ _ inside.low) (lt-ltb _ _ inside.high)

pub unmasked_by_another : (F : ℕ) (opens : Opens) (image : Image) → AreOpenPools F opens → HasRecords opens image → (n m : ℕ) (o q : OpenTransaction) → opens n ≡ Some o → opens m ≡ Some q → n ≢ m
    → (k v : ℕ) → ByTransaction (pool_scope F (finished_of o.pool.puddles)) (log_number_at F o.pool.log_number) k v → open_mask F q.pool q.before k ≡ None
unmasked_by_another F opens image are records n m o q here there apart k v wrote =
    nothing_given (open_mask F q.pool q.before k) (λ x given. elim (mask_cases F q.pool q.before k x given) [
      | inl its ↦ elim wrote [
        | inl log ↦ two_logs F opens image are records n m o q here there apart k (is_in _ k log) its
        | inr mine ↦ log_or_own F opens image are records m n q o there here (λ same. apart (sym same)) k its (or_left (pool_has_word F (finished_of o.pool.puddles) k) _ mine)
      ]
      | inr own ↦ elim wrote [
        | inl log ↦ log_or_own F opens image are records n m o q here there apart k (is_in _ k log) own.0
        | inr mine ↦ elim (or_cases (pool_has_word F (finished_of q.pool.puddles) k) (is_open_record q.pool k) own.0) [
          | inl also ↦ let it : true ≡ false = sym also ∙ (opens_apart F opens image are records).each n m o q here there apart k mine in cc
          | inr of ↦ mine_or_record F opens image are records n m o q here there apart k mine of
        ]
      ]
    ])
