-- Which transaction is active under a number after another one, or none, was put under a number.
use Rattle.std.proofs.Common.{◌≡◌, ◌≢◌, inl, inr, ℕ, ◌<◌, ◌⊎◌, List, length, length-set, Option, Some, None, sym, ap, ◌∙◌, arith}
use Rattle.std.specs.Prelude.{set, slice_index_or}
use Rattle.std.proofs.lemmas.Bool.{cases_lt, cases_eq}
use Rattle.std.proofs.lemmas.List.{get_or_default, get_or_past, get_or-set_same, get_or-set_other, set-get_or}
use Rattle.std.proofs.lemmas.Option.{none-some}
use Rattle.daemon_memory.specs.ActiveTransactions.{IsActiveWithin, AreActiveWithin}
use Rattle.daemon_memory.specs.Memory.{ActiveTransaction, Memory, active_under, with_active}

-- Where None was put, None is found.
pub nothing_there : {A : Type 0} (xs : List (Option A)) (i : ℕ) → slice_index_or (set xs i None) i None ≡ None
nothing_there xs i = elim (cases_lt i (length xs)) [
  | inl within ↦ get_or-set_same xs i None None within
  | inr past ↦ get_or_past (set xs i None) i None (omega (arith, past, length-set xs i None))
]

-- A number under which a transaction is active lies within the list.
pub active_within : (active : List (Option ActiveTransaction)) (number : ℕ) (h : ActiveTransaction) → active_under active number ≡ Some h → number < length active
active_within active number h there = elim (cases_lt number (length active)) [
  | inl within ↦ within
  | inr past ↦ absurd (none-some h (sym (get_or_past active number None past) ∙ there))
]

module _ (active : List (Option ActiveTransaction)) (number : ℕ) (now : Option ActiveTransaction) where
  -- Under the number the list has this one.
  pub active_here : number < length active → active_under (set active number now) number ≡ now
  active_here within = get_or-set_same active number now None within

  active_within_set : (other : ℕ) (h : ActiveTransaction) → active_under (set active number now) other ≡ Some h → other ≡ number → number < length active
  active_within_set other h there same = omega (arith, active_within (set active number now) other h there, same, length-set active number now)

  -- Under any other number it has the one that it had.
  pub active_there : (other : ℕ) → other ≢ number → active_under (set active number now) other ≡ active_under active other
  active_there other apart = get_or-set_other active number other now None apart

  -- So what is active then is this one, or was active before under another number.
  pub active_then : (other : ℕ) (h : ActiveTransaction) → active_under (set active number now) other ≡ Some h → ((other ≡ number) × (now ≡ Some h)) ⊎ ((other ≢ number) × (active_under active other ≡ Some h))
  active_then other h there = elim (cases_eq other number) [
    | inl same ↦ inl (same, sym (active_here (active_within_set other h there same)) ∙ ap (active_under (set active number now)) (sym same) ∙ there)
    | inr apart ↦ inr (apart, sym (active_there other apart) ∙ there)
  ]

-- If this one lies in the device, and each active transaction did, each lies in it then.
pub AreActiveWithin-set : (F : ℕ) (active : List (Option ActiveTransaction)) (number : ℕ) (now : Option ActiveTransaction) → AreActiveWithin F active → ((h : ActiveTransaction) → now ≡ Some h → IsActiveWithin F h) → AreActiveWithin F (set active number now)
AreActiveWithin-set F active number now within its = record {
  each = λ other h there. elim (active_then active number now other h there) [ inl here ↦ its h here.1 | inr still ↦ within.each other h still.1 ];
}

-- A transaction that was read under a number within the list is active under that number.
pub read_there : (active : List (Option ActiveTransaction)) (number : ℕ) (read any : Option ActiveTransaction) (h : ActiveTransaction) → number < length active → read ≡ slice_index_or active number any → read ≡ Some h → active_under active number ≡ Some h
read_there active number read any h within is there = get_or_default active number None any within ∙ sym is ∙ there

-- So it lies in the device, if each active transaction does.
pub read_within : (F : ℕ) (active : List (Option ActiveTransaction)) (number : ℕ) (read any : Option ActiveTransaction) (h : ActiveTransaction) → AreActiveWithin F active → number < length active → read ≡ slice_index_or active number any → read ≡ Some h
    → IsActiveWithin F h
read_within F active number read any h are within is there = are.each number h (read_there active number read any h within is there)

-- If the transaction is active under the number already, putting it there gives the same memory.
pub active_same : (memory : Memory) (number : ℕ) (h : ActiveTransaction) → active_under memory.active number ≡ Some h → with_active number (Some h) memory ≡ memory
active_same memory number h there =
    ap (λ (o : Option ActiveTransaction). with_active number o memory) (sym there) ∙ ap (λ (active : List (Option ActiveTransaction)). record memory { active = active }) (set-get_or memory.active number None)
