-- What the daemon finds about a pool, and what it replies by what became of the pool.
use Rattle.std.specs.Prelude.{◌≡◌, ℕ, ◌==◌, cond, List, Option, Some, None, Result, Ok, Err}
use Rattle.pm_model.specs.declared.host.HostFault.{HostFault}
use Rattle.pud_defs.specs.declared.records.PoolRecord.{PoolRecord}
use Rattle.pud_defs.specs.declared.machine.Reply.{Reply}
use Rattle.pud_defs.specs.declared.machine.Reply.TheVariants as replies
use Rattle.pud_defs.specs.declared.machine.Refusal.{Refusal}
use Rattle.pud_defs.specs.declared.machine.Refusal.TheVariants as refusals
use Rattle.pud_defs.specs.Formats.Image.{Image}
use Rattle.pud_defs.specs.RegistryTables.Tables.{tables_of}
use Rattle.registry.specs.declared.making.MakeFault.{MakeFault}
use Rattle.registry.specs.declared.making.MakeFault.TheVariants as faults

-- The reply to the making of a pool, by what became of it.
abbrev pub reply_of_making : Result (Unit {0}) MakeFault → Result Reply HostFault
reply_of_making (Ok x) = Ok replies.Ok
reply_of_making (Err faults.Exists) = Ok (replies.No refusals.Exists)
reply_of_making (Err faults.Full) = Ok (replies.No refusals.Full)
reply_of_making (Err faults.NoSpace) = Ok (replies.No refusals.Space)
reply_of_making (Err (faults.Host fault)) = Err fault

-- Why a pool was not found for a client.
abbrev pub refusal_found : {A : Type 0} → Result A Refusal → Option Refusal
refusal_found (Ok found) = None
refusal_found (Err refusal) = Some refusal

-- Why a client may not change a pool on which a transaction of the first client is open: it is the client's own, or
-- another's.
abbrev pub refusal_beside : Option ℕ → (client : ℕ) → Option Refusal
refusal_beside None client = None
refusal_beside (Some holder) client = cond (holder == client) (Some refusals.OpenHere) (Some refusals.Busy)

-- The record in the slot is the record of the pool of this name.
pub record IsRecordSlot (F : ℕ) (name : List ℕ) (image : Image) (slot : ℕ) : Type 0 where
  pub rec : PoolRecord
  pub used : (tables_of F image).pools slot ≡ Some rec
  pub name_is : rec.name ≡ name
