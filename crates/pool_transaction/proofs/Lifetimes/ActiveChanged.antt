-- One of the active transactions keeps running under its log number, on its pool, and the others stay.
use Rattle.std.proofs.Common.{◌≡◌, ◌≢◌, inl, inr, ℕ, List, Option, Some, None, refl, sym, ap, subst, ◌∙◌}
use Rattle.std.specs.Prelude.{set}
use Rattle.std.proofs.lemmas.Bool.{cases_eq}
use Rattle.std.proofs.lemmas.Option.{none-some, same_Some}
use Rattle.pm_model.specs.Changes.{Write}
use Rattle.pm_model.specs.Words.{Words}
use Rattle.pud_defs.specs.StateMachine.World.{World}
use Rattle.hybrid_tx.specs.Open.ManyOpen.{Opens, MasksAll, AreOpenPools}
use Rattle.nesting.specs.declared.Session.{Session}
use Rattle.nesting.specs.Sessions.{session_in}
use Rattle.pool_transaction.specs.Changing.{StaysOpen}
use Rattle.daemon_memory.specs.Memory.{ActiveTransaction, active_under}
use Rattle.daemon_memory.specs.ActiveTransactions.{IsActiveUnder, IsOpenUnder, IsActiveOn, AreActive, HasSessions}
use Rattle.daemon_memory.proofs.OpenTransactions.ActiveUnder.{active_within, active_here, active_there, active_then}
use Rattle.daemon_memory.proofs.OpenTransactions.OpenNames.{WereOpen}

-- A transaction on the same pool as this one is active under the log number.
pub record HasSameActive (active : List (Option ActiveTransaction)) (number : ℕ) (now : ActiveTransaction) : Type 0 where
  pub one : ActiveTransaction
  pub there : active_under active number ≡ Some one
  pub name : now.name ≡ one.name
  pub slot : now.slot ≡ one.slot

module _ (active : List (Option ActiveTransaction)) (number : ℕ) (h later : ActiveTransaction) (there : active_under active number ≡ Some h) (stays : StaysOpen h later) where
  abbrev next : List (Option ActiveTransaction)
  next = set active number (Some later)

  pub later_here : active_under next number ≡ Some later
  later_here = active_here active number (Some later) (active_within active number h there)

  -- What holds for this transaction and for each of the others holds for each active transaction.
  pub each_later : (P : ℕ → ActiveTransaction → Type 0) → P number later → ((n : ℕ) (g : ActiveTransaction) → n ≢ number → active_under active n ≡ Some g → P n g) → (n : ℕ) (g : ActiveTransaction) → active_under next n ≡ Some g → P n g
  each_later P its others n g is = elim (active_then active number (Some later) n g is) [
    | inl here ↦ subst (λ (m : ℕ). P m g) (sym here.0) (subst (λ (x : ActiveTransaction). P number x) (same_Some later g here.1) its)
    | inr still ↦ others n g still.0 still.1
  ]

  pub was_active : (n : ℕ) (g : ActiveTransaction) → active_under next n ≡ Some g → HasSameActive active n g
  was_active = each_later (HasSameActive active) (record { one = h; there = there; name = stays.name; slot = stays.slot }) (λ n g apart is. record { one = g; there = is; name = refl; slot = refl })

  -- A number under which no transaction is active afterwards is another number, and none was active under it before.
  pub none_later : (n : ℕ) → active_under next n ≡ None → (n ≢ number) × (active_under active n ≡ None)
  none_later n none = elim (cases_eq n number) [
    | inl same ↦ absurd (none-some later (sym none ∙ ap (active_under next) same ∙ later_here))
    | inr apart ↦ (apart, sym (active_there active number (Some later) n apart) ∙ none)
  ]

  -- Under each log number under which a transaction was active, one is still active, on the same pool.
  pub still_active : (n : ℕ) (g : ActiveTransaction) → active_under active n ≡ Some g → HasSameActive next n g
  still_active n g is = elim (cases_eq n number) [
    | inl same ↦
        let one : h ≡ g = same_Some h g (sym there ∙ ap (active_under active) (sym same) ∙ is) in
        record { one = later; there = ap (active_under next) same ∙ later_here; name = ap (λ (x : ActiveTransaction). x.name) (sym one) ∙ sym stays.name; slot = ap (λ (x : ActiveTransaction). x.slot) (sym one) ∙ sym stays.slot }
    | inr apart ↦ record { one = g; there = active_there active number (Some later) n apart ∙ is; name = refl; slot = refl }
  ]

  pub open_under_later : (name : List ℕ) → IsOpenUnder active name → IsOpenUnder next name
  open_under_later name o = let still = still_active o.number o.active o.is in record { number = o.number; active = still.one; is = still.there; name_is = sym still.name ∙ o.name_is }

  active_on_later : (slot n : ℕ) → IsActiveOn active slot n → IsActiveOn next slot n
  active_on_later slot n o = let still = still_active n o.active o.is in record { active = still.one; is = still.there; slot_is = sym still.slot ∙ o.slot_is }

  module _ (w then : World) (were : WereOpen w.transactions then.transactions) where
    -- The transactions that are active afterwards are those that are open in the next world.
    abbrev pub Holds-later : (mask renewed : Write) (words after : Words) (holds : AreActive w active mask words) (opens : Opens) → AreOpenPools then.stored.frames opens → MasksAll then.stored.frames opens renewed
        → IsActiveUnder then opens renewed after number later → ((n : ℕ) (g : ActiveTransaction) → n ≢ number → active_under active n ≡ Some g → IsActiveUnder then opens renewed after n g)
        → ((n : ℕ) → n ≢ number → holds.opens n ≡ None → opens n ≡ None) → AreActive then next renewed after
    Holds-later mask renewed words after holds opens are masks its others free = record {
      opens = opens;
      are = are;
      masks = masks;
      each = each_later (IsActiveUnder then opens renewed after) its others;
      none = λ n none. let was = none_later n none in free n was.0 (holds.none n was.1);
      known = λ name t is. let was = were.each name t is in open_under_later name (holds.known name was.was was.is);
      names = λ n m a b here also same.
          let first = was_active n a here in
          let second = was_active m b also in
          holds.names n m first.one second.one first.there second.there (sym first.name ∙ same ∙ second.name);
    }

    -- The sessions still belong to the active transactions.
    pub HasSessions-later : (sessions : List (Option Session)) → HasSessions w active sessions → HasSessions then next sessions
    HasSessions-later sessions has = record {
      each = λ n g t is opened.
          let was = was_active n g is in
          let before = were.each g.name t opened in
          ap (session_in sessions) was.slot
          ∙ has.each n was.one before.was was.there (ap w.transactions (sym was.name) ∙ before.is)
          ∙ (λ i. Some (record { client = before.client i; log_number = n; depth = before.depth i }));
      only = λ slot s is. active_on_later slot s.log_number (has.only slot s is);
    }
