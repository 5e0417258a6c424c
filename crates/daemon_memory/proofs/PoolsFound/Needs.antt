-- Why lines are refused, by what they need of their pool and what they ask for after that.
use Rattle.std.proofs.Common.{◌≡◌, ℕ, false, not, cond, ◌&&◌, leb, List, Option, Some, None, is_some, is_none, refl, ap, ◌∙◌}
use Rattle.std.specs.Option.{option_or}
use Rattle.pud_defs.specs.declared.layout.TheConstants.{CLIENT_LOGS, MAX_DEPTH}
use Rattle.pud_defs.specs.declared.machine.Command.TheVariants as commands
use Rattle.pud_defs.specs.declared.machine.Command.TheVariants.{Get, Dump, Export, Begin, Commit}
use Rattle.pud_defs.specs.declared.machine.Refusal.{Refusal}
use Rattle.pud_defs.specs.declared.machine.Refusal.TheVariants as refusals
use Rattle.pud_defs.specs.StateMachine.PoolChanges.{pool_named}
use Rattle.pud_defs.specs.RegistryTables.Spaces.{Owner}
use Rattle.pud_defs.specs.StateMachine.Step.{has_owner_right, has_read_right, has_write_right, graph_in, graph_seen, object_of, field_of, open_elsewhere, refusal_of, cause_holds}
use Rattle.pud_defs.specs.RegistryTables.Tables.{Pool}
use Rattle.pud_defs.specs.StateMachine.Transactions.{is_own, is_others, depth_of}
use Rattle.pud_defs.specs.StateMachine.World.{Transaction, World, open_on}
use Rattle.daemon_memory.proofs.PoolsFound.Causes.{following}
use Rattle.daemon_memory.specs.declared.finding.Need.TheVariants as needs
use Rattle.daemon_memory.specs.Finding.{refusal_to}

-- Why `begin` is refused on a pool that the client may write, by what is open on it and by how many transactions the
-- client has on other pools.
abbrev pub entering_refusal : (client : ℕ) → Option Transaction → (elsewhere : ℕ) → Option Refusal
entering_refusal client opened elsewhere =
    cond (is_own client opened && leb MAX_DEPTH (depth_of opened)) (Some refusals.Deep)
    (cond (not (is_own client opened) && leb CLIENT_LOGS elsewhere) (Some refusals.Logs) None)

module _ (w : World) (client : ℕ) (name : List ℕ) where
  abbrev acts : Option Owner
  acts = w.clients client

  abbrev found : Option Pool
  found = pool_named name w.stored

  abbrev opened : Option Transaction
  opened = open_on name w

  -- Why a line on the client's own transaction is refused.
  pub refusal_of-own : refusal_of w (Commit client name) ≡ option_or (refusal_to w needs.Graph client name) (cond (not (is_own client opened)) (Some refusals.Tx) None)
  unfolding refusal_of cause_holds
  refusal_of-own =
      following refusals.Client refusals.Pool refusals.Wild refusals.Denied refusals.Busy (not (is_some acts)) (is_none found) (is_none (graph_in found)) false (is_others client opened)
      (cond (not (is_own client opened)) (Some refusals.Tx) None)

  -- Why a line of the pool's owner is refused.
  pub refusal_of-owner : refusal_of w (commands.Drop client name) ≡ option_or (refusal_to w needs.Owner client name) (cond (is_own client opened) (Some refusals.OpenHere) None)
  unfolding refusal_of cause_holds
  refusal_of-owner =
      following refusals.Client refusals.Pool refusals.Wild refusals.Denied refusals.Busy (not (is_some acts)) (is_none found) false (not (has_owner_right acts found)) (is_others client opened)
      (cond (is_own client opened) (Some refusals.OpenHere) None)

  -- Why lines that read a pool are refused.
  pub refusal_of-get : (s f : ℕ) → refusal_of w (Get client name s f) ≡ option_or (refusal_to w needs.Read client name)
      (cond (is_none (object_of s (graph_seen opened found))) (Some refusals.Object) (cond (is_none (field_of f (object_of s (graph_seen opened found)))) (Some refusals.Field) None))
  unfolding refusal_of cause_holds
  refusal_of-get s f =
      following refusals.Client refusals.Pool refusals.Wild refusals.Denied refusals.Busy (not (is_some acts)) (is_none found) (is_none (graph_in found)) (not (has_read_right acts found)) (is_others client opened)
      (cond (is_none (object_of s (graph_seen opened found))) (Some refusals.Object) (cond (is_none (field_of f (object_of s (graph_seen opened found)))) (Some refusals.Field) None))

  pub refusal_of-dump : refusal_of w (Dump client name) ≡ refusal_to w needs.Read client name
  unfolding refusal_of cause_holds
  refusal_of-dump = refl

  pub refusal_of-export : (file : List ℕ) → refusal_of w (Export client name file) ≡ option_or (refusal_to w needs.Read client name) (cond (is_own client opened) (Some refusals.OpenHere) None)
  unfolding refusal_of cause_holds
  refusal_of-export file =
      following refusals.Client refusals.Pool refusals.Wild refusals.Denied refusals.Busy (not (is_some acts)) (is_none found) (is_none (graph_in found)) (not (has_read_right acts found)) (is_others client opened)
      (cond (is_own client opened) (Some refusals.OpenHere) None)

  -- Why `begin` is refused.
  pub refusal_of-begin : refusal_of w (Begin client name) ≡ option_or (refusal_to w needs.Write client name) (entering_refusal client opened (open_elsewhere w client name))
  unfolding refusal_of cause_holds
  refusal_of-begin =
      following refusals.Client refusals.Pool refusals.Wild refusals.Denied refusals.Busy (not (is_some acts)) (is_none found) (is_none (graph_in found)) (not (has_write_right acts found)) (is_others client opened)
      (entering_refusal client opened (open_elsewhere w client name))

  pub refused_begin : (r : Refusal) → refusal_to w needs.Write client name ≡ Some r → refusal_of w (Begin client name) ≡ Some r
  refused_begin r refused = refusal_of-begin ∙ ap (λ (o : Option Refusal). option_or o (entering_refusal client opened (open_elsewhere w client name))) refused

  -- A line on the client's own transaction: if the need is not met, if no transaction is open, and if the client's own
  -- is.
  pub own_refused : (r : Refusal) → refusal_to w needs.Graph client name ≡ Some r → refusal_of w (Commit client name) ≡ Some r
  own_refused r refused = refusal_of-own ∙ ap (λ (o : Option Refusal). option_or o (cond (not (is_own client opened)) (Some refusals.Tx) None)) refused

  pub own_none : refusal_to w needs.Graph client name ≡ None → opened ≡ None → refusal_of w (Commit client name) ≡ Some refusals.Tx
  own_none free none =
      refusal_of-own ∙ ap (λ (o : Option Refusal). option_or o (cond (not (is_own client opened)) (Some refusals.Tx) None)) free ∙ ap (λ (o : Option Transaction). cond (not (is_own client o)) (Some refusals.Tx) None) none

  -- A line of the pool's owner: if the need is not met, and if it is.
  pub owner_refused : (r : Refusal) → refusal_to w needs.Owner client name ≡ Some r → refusal_of w (commands.Drop client name) ≡ Some r
  owner_refused r refused = refusal_of-owner ∙ ap (λ (o : Option Refusal). option_or o (cond (is_own client opened) (Some refusals.OpenHere) None)) refused

  pub owner_free : refusal_to w needs.Owner client name ≡ None → refusal_of w (commands.Drop client name) ≡ cond (is_own client opened) (Some refusals.OpenHere) None
  owner_free free = refusal_of-owner ∙ ap (λ (o : Option Refusal). option_or o (cond (is_own client opened) (Some refusals.OpenHere) None)) free
