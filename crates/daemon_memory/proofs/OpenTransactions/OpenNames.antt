-- Which transactions are open in a world after the one on a pool was replaced by another, or by none.
use Rattle.std.proofs.Common.{◌≡◌, ◌≢◌, inl, inr, ℕ, ◌+◌, false, bytes_eq, List, Option, Some, None, option_map, refl, sym, ap, subst, ◌∙◌}
use Rattle.std.proofs.lemmas.Bool.{cases_Bool, cond-true, cond-false}
use Rattle.std.proofs.lemmas.Option.{none-some, same_Some}
use Rattle.std.proofs.lemmas.Slice.Eq.{bytes_eq-Decides}
use Rattle.pud_defs.specs.PoolGraphs.Graph.{Graph}
use Rattle.pud_defs.specs.PoolGraphs.DeferredValues.{DeferredValue}
use Rattle.pud_defs.specs.StateMachine.Transactions.{OpenTransactions, with_open, with_changed, charged, deferring}
use Rattle.pud_defs.specs.StateMachine.World.{Transaction}

other_name : (name other : List ℕ) → other ≢ name → bytes_eq other name ≡ false
other_name name other apart = elim (cases_Bool (bytes_eq other name)) [
  | inl same ↦ absurd (apart ((bytes_eq-Decides other name).0 same))
  | inr differs ↦ differs
]

module _ (name : List ℕ) (opened : OpenTransactions) where
  -- On the pool of the name there is the new one.
  pub open_there : (now : Option Transaction) → with_open name now opened name ≡ now
  open_there now = cond-true (bytes_eq name name) now (opened name) ((bytes_eq-Decides name name).1 refl)

  -- On any other pool there is the one that was there.
  pub open_elsewhere : (now : Option Transaction) (other : List ℕ) → other ≢ name → with_open name now opened other ≡ opened other
  open_elsewhere now other apart = cond-false (bytes_eq other name) now (opened other) (other_name name other apart)

  pub changed_there : (change : Transaction → Transaction) (t : Transaction) → opened name ≡ Some t → with_changed name change opened name ≡ Some (change t)
  changed_there change t is = open_there (option_map change (opened name)) ∙ ap (option_map change) is

  pub changed_elsewhere : (change : Transaction → Transaction) (other : List ℕ) → other ≢ name → with_changed name change opened other ≡ opened other
  changed_elsewhere change = open_elsewhere (option_map change (opened name))

-- ---- the same are open

-- A transaction of the same client was open on the pool of the name, and it was begun as often.
pub record WasOpen (opened : OpenTransactions) (name : List ℕ) (t : Transaction) : Type 0 where
  pub was : Transaction
  pub is : opened name ≡ Some was
  pub client : was.client ≡ t.client
  pub depth : was.depth ≡ t.depth

-- Each transaction that is open now was open, with the same client, and it was begun as often.
pub record WereOpen (opened next : OpenTransactions) : Type 0 where
  pub each : (name : List ℕ) (t : Transaction) → next name ≡ Some t → WasOpen opened name t

pub WereOpen-same : (opened : OpenTransactions) → WereOpen opened opened
WereOpen-same opened = record { each = λ name t is. record { was = t; is = is; client = refl; depth = refl } }

module _ (name : List ℕ) (change : Transaction → Transaction) (opened : OpenTransactions) (client : (t : Transaction) → t.client ≡ (change t).client) (depth : (t : Transaction) → t.depth ≡ (change t).depth) where
  changed_from : (o : Option Transaction) (t : Transaction) → opened name ≡ o → option_map change o ≡ Some t → WasOpen opened name t
  changed_from None t is now = absurd (none-some t now)
  changed_from (Some was) t is now =
      let same = same_Some (change was) t now in
      record { was = was; is = is; client = client was ∙ ap (λ (x : Transaction). x.client) same; depth = depth was ∙ ap (λ (x : Transaction). x.depth) same }

  -- One transaction is changed, and keeps its client and how often it was begun.
  pub WereOpen-changed : WereOpen opened (with_changed name change opened)
  WereOpen-changed = record {
    each = λ other t is. elim (cases_Bool (bytes_eq other name)) [
      | inl same ↦
          subst (λ (n : List ℕ). WasOpen opened n t) (sym ((bytes_eq-Decides other name).0 same))
          (changed_from (opened name) t refl (sym (cond-true (bytes_eq other name) (option_map change (opened name)) (opened other) same) ∙ is))
      | inr differs ↦ record { was = t; is = sym (cond-false (bytes_eq other name) (option_map change (opened name)) (opened other) differs) ∙ is; client = refl; depth = refl }
    ];
  }

-- ---- what a call within a transaction makes of it

-- The change keeps the transaction's client and how often it was begun, and it counts this many more units.
pub record Charges (units : ℕ) (change : Transaction → Transaction) : Type 0 where
  pub client : (t : Transaction) → (change t).client ≡ t.client
  pub depth : (t : Transaction) → (change t).depth ≡ t.depth
  pub used : (t : Transaction) → (change t).units ≡ t.units + units

pub Charges-charged : (units : ℕ) (change : Graph → Graph) → Charges units (charged units change)
Charges-charged units change = record { client = λ t. refl; depth = λ t. refl; used = λ t. refl }

pub Charges-deferring : (units : ℕ) (l : DeferredValue) → Charges units (deferring units l)
Charges-deferring units l = record { client = λ t. refl; depth = λ t. refl; used = λ t. refl }
