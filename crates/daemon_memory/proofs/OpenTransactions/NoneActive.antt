-- The case in which no transaction is active and none is open.
use Rattle.std.proofs.Common.{◌≡◌, inl, inr, ℕ, replicate, Option, Some, None, refl, sym, ap, ◌∙◌, arith}
use Rattle.std.proofs.lemmas.Bool.{cases_lt}
use Rattle.std.proofs.lemmas.List.{get_or_past, get_or-replicate, length-replicate}
use Rattle.std.proofs.lemmas.Option.{none-some}
use Rattle.pm_model.specs.Masks.{no_mask}
use Rattle.pm_model.specs.Words.{Words}
use Rattle.pud_defs.specs.StateMachine.World.{World, nothing_open}
use Rattle.hybrid_tx.specs.Open.ManyOpen.{none_open}
use Rattle.nesting.proofs.Holders.{session_in-replicate}
use Rattle.daemon_memory.specs.Memory.{ActiveTransaction, active_under}
use Rattle.daemon_memory.specs.ActiveTransactions.{AreActive, HasSessions, AreActiveWithin}

pub none_active : (n number : ℕ) → active_under (replicate n None) number ≡ None
none_active n number = elim (cases_lt number n) [
  | inl within ↦ get_or-replicate n number None None within
  | inr past ↦ get_or_past (replicate n None) number None (omega (arith, past, length-replicate {A = Option ActiveTransaction} n None))
]

pub not_active : (n number : ℕ) (h : ActiveTransaction) → active_under (replicate n None) number ≡ Some h → ⊥
not_active n number h there = none-some h (sym (none_active n number) ∙ there)

-- With nothing masked, no active transaction stands for no open one.
abbrev pub AreActive-none : (w : World) (n : ℕ) (words : Words) → w.transactions ≡ nothing_open → AreActive w (replicate n None) no_mask words
AreActive-none w n words none = record {
  opens = none_open;
  are = record {
    number = λ m o there. absurd (none-some o there);
    pool = λ m o there. absurd (none-some o there);
    slots = λ m k o q here there same. absurd (none-some o here);
  };
  masks = record { has = λ m o there. absurd (none-some o there); each = λ k v is. absurd (none-some v is) };
  each = λ number h there. absurd (not_active n number h there);
  none = λ number there. refl;
  known = λ name t is. absurd (none-some t (sym (ap (λ opened. opened name) none) ∙ is));
  names = λ m k h g here there same. absurd (not_active n m h here);
}

-- No pool has a session.
pub HasSessions-none : (w : World) (n pools : ℕ) → HasSessions w (replicate n None) (replicate pools None)
HasSessions-none w n pools = record {
  each = λ number h t there is. absurd (not_active n number h there);
  only = λ slot s there. absurd (none-some s (sym (session_in-replicate pools slot) ∙ there));
}

pub AreActiveWithin-none : (F n : ℕ) → AreActiveWithin F (replicate n None)
AreActiveWithin-none F n = record { each = λ number h there. absurd (not_active n number h there) }
