-- The lines of transactions are plain: each loses no power of its own, writes no file, and removes no client.
use Rattle.std.proofs.Common.{ℕ, List, refl}
use Rattle.pud_defs.specs.declared.machine.Command.TheVariants.{Begin, Commit, Abort, New}
use Rattle.pool_transaction.specs.declared.changing.Change.{Change}
use Rattle.pool_transaction.specs.declared.changing.Change.TheVariants as changes
use Rattle.pool_transaction.specs.declared.changing.Update.TheVariants as updates
use Rattle.pool_transaction.specs.Changing.{command_of_change}
use Rattle.daemon_memory.proofs.Commands.CarriedOut.{IsPlain}

module _ (client : ℕ) (name : List ℕ) where
  pub begin_is_plain : IsPlain (Begin client name)
  begin_is_plain = record { kind = refl; file = refl; stays = λ other is. cc }

  pub commit_is_plain : IsPlain (Commit client name)
  commit_is_plain = record { kind = refl; file = refl; stays = λ other is. cc }

  pub abort_is_plain : IsPlain (Abort client name)
  abort_is_plain = record { kind = refl; file = refl; stays = λ other is. cc }

  new_is_plain : (t : ℕ) → IsPlain (New client name t)
  new_is_plain t = record { kind = refl; file = refl; stays = λ other is. cc }

  pub change_is_plain : (change : Change) → IsPlain (command_of_change change client name)
  change_is_plain (changes.New t) = new_is_plain t
  change_is_plain (changes.Update (updates.Set s f x)) = record { kind = refl; file = refl; stays = λ other is. cc }
  change_is_plain (changes.Update (updates.Later s f x)) = record { kind = refl; file = refl; stays = λ other is. cc }
  change_is_plain (changes.Update (updates.Root s)) = record { kind = refl; file = refl; stays = λ other is. cc }
  change_is_plain (changes.Update (updates.Free s)) = record { kind = refl; file = refl; stays = λ other is. cc }
