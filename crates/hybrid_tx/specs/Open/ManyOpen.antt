-- Transactions that are open at once, each on a pool of its own: the words of all of them, with their values from the beginning of each.
use Rattle.std.specs.Prelude.{◌≡◌, ◌≢◌, ℕ, true, ◌==◌, cond, Option, Some, None}
use Rattle.pm_model.specs.Changes.{Write}
use Rattle.pud_defs.specs.Formats.Image.{Image}
use Rattle.pud_defs.specs.RegistryTables.Places.{first_some}
use Rattle.pud_defs.specs.Logging.Settled.{ALL_LOGS}
use Rattle.hybrid_tx.specs.Open.Masks.{OpenPool, is_open_record, open_mask, IsOpenPool, IsLeftOpen}

-- An open transaction: where it is open, and the image of its beginning.
pub record OpenTransaction : Type 0 where
  pub pool : OpenPool
  pub before : Image

-- the transactions that are open, each under the number of its log among those of all clients
abbrev pub Opens : Type 0
Opens = ℕ → Option OpenTransaction

abbrev pub none_open : Opens
none_open number = None

-- the same, with this transaction under the number, or with none there
abbrev pub with_transaction : (number : ℕ) → Option OpenTransaction → Opens → Opens
with_transaction number now opens other = cond (other == number) now (opens other)

-- ---- all of their words

-- the words of one transaction, if one is open
abbrev pub mask_of : ℕ → Option OpenTransaction → Write
mask_of F None k = None
mask_of F (Some o) k = open_mask F o.pool o.before k

-- The words of all. A record may belong to more than one of them, as that of a client who has two open: then the
-- first of them counts. In the images that are met here, all of them give the same value.
unfoldable pub open_masks : ℕ → Opens → Write
open_masks F opens k = first_some (λ number. mask_of F (opens number) k) 0 ALL_LOGS

-- one of these transactions masks the word with the value
pub record IsMaskedBy (F : ℕ) (opens : Opens) (k v : ℕ) : Type 0 where
  pub number : ℕ
  pub transaction : OpenTransaction
  pub there : opens number ≡ Some transaction
  pub is : open_mask F transaction.pool transaction.before k ≡ Some v

-- The mask has the words of all of them: a word that one masks has the value that this one gives, and each masked
-- word has a value that one gives.
pub record MasksAll (F : ℕ) (opens : Opens) (mask : Write) : Type 0 where
  pub has : (n : ℕ) (o : OpenTransaction) → opens n ≡ Some o → (k v : ℕ) → open_mask F o.pool o.before k ≡ Some v → mask k ≡ Some v
  pub each : (k v : ℕ) → mask k ≡ Some v → IsMaskedBy F opens k v

-- ---- what is known about them

-- By the image of its beginning, each is open on a pool of the device, with the log of its number. No two are on one
-- pool.
pub record AreOpenPools (F : ℕ) (opens : Opens) : Type 0 where
  pub number : (n : ℕ) (o : OpenTransaction) → opens n ≡ Some o → o.pool.log_number ≡ n
  pub pool : (n : ℕ) (o : OpenTransaction) → opens n ≡ Some o → IsOpenPool F o.pool o.before
  pub slots : (n m : ℕ) (o q : OpenTransaction) → opens n ≡ Some o → opens m ≡ Some q → o.pool.slot ≡ q.pool.slot → n ≡ m

-- the records of each are as they were at its beginning
pub record HasRecords (opens : Opens) (image : Image) : Type 0 where
  pub each : (n : ℕ) (o : OpenTransaction) → opens n ≡ Some o → (k : ℕ) → is_open_record o.pool k ≡ true → image k ≡ o.before k

-- an image that may be left while all of them are open
pub record AreLeftOpen (F : ℕ) (opens : Opens) (image : Image) : Type 0 where
  pub each : (n : ℕ) (o : OpenTransaction) → opens n ≡ Some o → IsLeftOpen F o.pool o.before image

-- The second transactions are the first ones and this one. It is under a number under which the first have none.
pub record IsOneMore (number : ℕ) (o : OpenTransaction) (others opens : Opens) : Type 0 where
  pub here : opens number ≡ Some o
  pub none : others number ≡ None
  pub same : (other : ℕ) → other ≢ number → opens other ≡ others other
