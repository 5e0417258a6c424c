-- Why a line on the client's own transaction is refused before what it asks is looked at.
use Rattle.std.proofs.Common.{◌≡◌, ℕ, Bool, true, false, not, cond, eqb, List, Option, Some, None, is_some, is_none, refl, sym, ap, ap₂, ◌∙◌, eq-eqb}
use Rattle.std.proofs.lemmas.Option.{none-some}
use Rattle.pm_model.specs.Words.{Words}
use Rattle.pm_model.specs.Changes.{Write}
use Rattle.pud_defs.specs.declared.machine.Command.TheVariants.{Commit}
use Rattle.pud_defs.specs.declared.machine.Refusal.{Refusal}
use Rattle.pud_defs.specs.declared.machine.Refusal.TheVariants as refusals
use Rattle.pud_defs.specs.RegistryTables.Spaces.{Owner}
use Rattle.pud_defs.specs.PoolGraphs.Graph.{Graph}
use Rattle.pud_defs.specs.RegistryTables.Tables.{Pool}
use Rattle.pud_defs.specs.StateMachine.PoolChanges.{pool_named}
use Rattle.pud_defs.specs.StateMachine.World.{Transaction, World, open_on}
use Rattle.pud_defs.specs.StateMachine.Transactions.{is_own, is_others}
use Rattle.pud_defs.specs.StateMachine.Step.{graph_in, cause_holds, refusal_of}
use Rattle.daemon_memory.specs.Memory.{ActiveTransaction}
use Rattle.daemon_memory.specs.ActiveTransactions.{AreActive, IsActive, IsOwnTransaction}
use Rattle.daemon_memory.specs.Finding.{busy_unless}
use Rattle.daemon_memory.proofs.Commands.Beside.{active_is}

-- The refusal of a line on the client's own transaction, before its request is looked at.
abbrev pub own_refusal : Option Owner → Option Pool → (client : ℕ) → Option Transaction → Option Refusal
own_refusal who found client opened =
    cond (not (is_some who)) (Some refusals.Client)
    (cond (is_none found) (Some refusals.Pool)
    (cond (is_none (graph_in found)) (Some refusals.Wild)
    (cond (is_others client opened) (Some refusals.Busy)
    (cond (not (is_own client opened)) (Some refusals.Tx) None))))

-- why a line on the client's own transaction is refused, by the parts of the world that decide it
pub refusal_of-commit : (w : World) (client : ℕ) (name : List ℕ) → refusal_of w (Commit client name) ≡ own_refusal (w.clients client) (pool_named name w.stored) client (open_on name w)
unfolding refusal_of cause_holds
refusal_of-commit w client name = refl

by_own : (own : Bool) → cond (not own) (Some refusals.Busy) (cond (not own) (Some refusals.Tx) None) ≡ busy_unless own
by_own true = refl
by_own false = refl

-- On a pool with a graph, a line on an open transaction is refused if the transaction is another client's.
pub own_refusal-open : (who : Owner) (found : Option Pool) (g : Graph) (client : ℕ) (t : Transaction) → graph_in found ≡ Some g → own_refusal (Some who) found client (Some t) ≡ busy_unless (eqb t.client client)
own_refusal-open who None g client t stored = absurd (none-some g stored)
own_refusal-open who (Some pool) g client t stored =
    ap (λ (h : Option Graph). cond (is_none h) (Some refusals.Wild) (cond (not (eqb t.client client)) (Some refusals.Busy) (cond (not (eqb t.client client)) (Some refusals.Tx) None))) stored
    ∙ by_own (eqb t.client client)

-- No line of the client on the pool of its active transaction is refused before its request is looked at.
own_by : (w : World) (active : ActiveTransaction) (mask : Write) (words : Words) → IsActive w active mask words → refusal_of w (Commit active.client active.name) ≡ None
own_by w active mask words is =
    refusal_of-commit w active.client active.name
    ∙ ap₂ (λ (acts : Option Owner) (opened : Option Transaction). own_refusal acts (pool_named active.name w.stored) active.client opened) is.own.present is.own.is
    ∙ own_refusal-open is.own.who (pool_named active.name w.stored) is.graph_before active.client is.own.transaction is.stored
    ∙ ap busy_unless (eq-eqb is.own.transaction.client active.client is.own.client)

pub own_is_open : (w : World) (active : List (Option ActiveTransaction)) (mask : Write) (words : Words) (client : ℕ) (name : List ℕ) (number : ℕ) → AreActive w active mask words → IsOwnTransaction client name number active
    → refusal_of w (Commit client name) ≡ None
own_is_open w active mask words client name number cause_holds own =
    ap₂ (λ (c : ℕ) (n : List ℕ). refusal_of w (Commit c n)) (sym own.whose) (sym own.pool) ∙ own_by w own.active mask words (active_is w active mask words cause_holds number own.active own.is)
