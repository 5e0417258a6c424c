-- What is active after one more transaction has begun: that one and all that were active before, each with its session.
use Rattle.std.proofs.Common.{◌≡◌, ◌≢◌, inl, inr, ℕ, ◌+◌, ◌<◌, bytes_eq, List, length, Option, Some, None, refl, sym, ap, ap₂, subst, ◌∙◌}
use Rattle.std.specs.Prelude.{set}
use Rattle.std.proofs.lemmas.Bool.{cases_Bool, cases_eq}
use Rattle.std.proofs.lemmas.List.{get_or-set_same, get_or-set_other}
use Rattle.std.proofs.lemmas.Option.{none-some, same_Some}
use Rattle.std.proofs.lemmas.Slice.Eq.{bytes_eq-Decides}
use Rattle.pm_model.specs.Changes.{Write}
use Rattle.pm_model.specs.Words.{Words}
use Rattle.pud_defs.specs.StateMachine.Transactions.{with_open}
use Rattle.pud_defs.specs.StateMachine.World.{Transaction, World, open_on}
use Rattle.hybrid_tx.specs.Open.ManyOpen.{Opens, MasksAll, AreOpenPools}
use Rattle.nesting.specs.declared.Session.{Session}
use Rattle.nesting.specs.Sessions.{session_in, session_log, session_depth, entered}
use Rattle.daemon_memory.specs.Memory.{ActiveTransaction, active_under}
use Rattle.daemon_memory.specs.ActiveTransactions.{IsActiveUnder, IsOpenUnder, AreActive, session_of, HasSessions}
use Rattle.daemon_memory.proofs.Commands.Beside.{KeepsOne}
use Rattle.daemon_memory.proofs.OpenTransactions.ActiveUnder.{active_here, active_there, active_then}
use Rattle.daemon_memory.proofs.OpenTransactions.OpenBeside.{not_named}
use Rattle.daemon_memory.proofs.OpenTransactions.OpenNames.{open_there, open_elsewhere}
use Rattle.daemon_memory.proofs.OpenTransactions.Sessions.{none_active}

module _ (w : World) (active : List (Option ActiveTransaction)) (mask : Write) (words : Words) (holds : AreActive w active mask words) (number : ℕ) (begun : ActiveTransaction) (t : Transaction)
    (within : number < length active) (free : active_under active number ≡ None) (shut : open_on begun.name w ≡ None) where
  abbrev next : World
  next = record w { transactions = with_open begun.name (Some t) w.transactions }

  abbrev all : List (Option ActiveTransaction)
  all = set active number (Some begun)

  pub begun_there : active_under all number ≡ Some begun
  begun_there = active_here active number (Some begun) within

  -- Each transaction that was active has another number and a pool of another name, and it is still active.
  pub other_number : (m : ℕ) (h : ActiveTransaction) → active_under active m ≡ Some h → m ≢ number
  other_number m h there same = none-some h (sym free ∙ ap (active_under active) (sym same) ∙ there)

  pub other_name : (m : ℕ) (h : ActiveTransaction) → active_under active m ≡ Some h → h.name ≢ begun.name
  other_name = not_named w active mask words begun.name holds shut

  still_there : (m : ℕ) (h : ActiveTransaction) → active_under active m ≡ Some h → active_under all m ≡ Some h
  still_there m h there = active_there active number (Some begun) m (other_number m h there) ∙ there

  pub keeps_others : (m : ℕ) (h : ActiveTransaction) → active_under active m ≡ Some h → KeepsOne w next h
  keeps_others m h there = record {
    frames = refl;
    transaction = open_elsewhere begun.name w.transactions (Some t) h.name (other_name m h there);
    present = refl;
    stored = refl;
    types = λ id m is. is;
    graphs = λ st g is. is;
  }

  -- What holds for the new transaction, and for each that was active, holds for each that is active now.
  pub each_more : (P : ℕ → ActiveTransaction → Type 0) → P number begun → ((m : ℕ) (h : ActiveTransaction) → active_under active m ≡ Some h → P m h) → (m : ℕ) (h : ActiveTransaction) → active_under all m ≡ Some h → P m h
  each_more P its others m h there = elim (active_then active number (Some begun) m h there) [
    | inl here ↦ subst (λ (n : ℕ). P n h) (sym here.0) (subst (λ (x : ActiveTransaction). P number x) (same_Some begun h here.1) its)
    | inr still ↦ others m h still.1
  ]

  pub none_more : (m : ℕ) → active_under all m ≡ None → (m ≢ number) × (active_under active m ≡ None)
  none_more m none = elim (cases_eq m number) [
    | inl same ↦ absurd (none-some begun (sym none ∙ ap (active_under all) same ∙ begun_there))
    | inr apart ↦ (apart, sym (active_there active number (Some begun) m apart) ∙ none)
  ]

  pub known_more : (name : List ℕ) (x : Transaction) → open_on name next ≡ Some x → IsOpenUnder all name
  known_more name x is = elim (cases_Bool (bytes_eq name begun.name)) [
    | inl same ↦ record { number = number; active = begun; is = begun_there; name_is = sym ((bytes_eq-Decides name begun.name).0 same) }
    | inr other ↦
        let differs : name ≢ begun.name = λ e. let no = sym other ∙ (bytes_eq-Decides name begun.name).1 e in cc in
        let open_under = holds.known name x (sym (open_elsewhere begun.name w.transactions (Some t) name differs) ∙ is) in
        record { number = open_under.number; active = open_under.active; is = still_there open_under.number open_under.active open_under.is; name_is = open_under.name_is }
  ]

  pub names_more : (n m : ℕ) (h g : ActiveTransaction) → active_under all n ≡ Some h → active_under all m ≡ Some g → h.name ≡ g.name → n ≡ m
  names_more n m h g here there = each_more (λ i x. x.name ≡ g.name → i ≡ m)
      (each_more (λ j y. begun.name ≡ y.name → number ≡ j) (λ same. refl) (λ j y is same. absurd (other_name j y is (sym same))) m g there)
      (λ i x is. each_more (λ j y. x.name ≡ y.name → i ≡ j) (λ same. absurd (other_name i x is same)) (λ j y also same. holds.names i j x y is also same) m g there)
      n h here

  -- The transactions that are active then are those that are open in the next world.
  abbrev pub Holds-more : (renewed : Write) (after : Words) (opens : Opens) → AreOpenPools w.stored.frames opens → MasksAll w.stored.frames opens renewed → IsActiveUnder next opens renewed after number begun
      → ((m : ℕ) (h : ActiveTransaction) → active_under active m ≡ Some h → IsActiveUnder next opens renewed after m h) → ((m : ℕ) → m ≢ number → holds.opens m ≡ None → opens m ≡ None) → AreActive next all renewed after
  Holds-more renewed after opens are masks its others none = record {
    opens = opens;
    are = are;
    masks = masks;
    each = each_more (IsActiveUnder next opens renewed after) its others;
    none = λ m is. let was = none_more m is in none m was.0 (holds.none m was.1);
    known = known_more;
    names = names_more;
  }

  -- ---- sessions

  module _ (sessions : List (Option Session)) (has : HasSessions w active sessions) (fits : begun.slot < length sessions) (unheld : session_in sessions begun.slot ≡ None) (client : ℕ)
      (whose : t.client ≡ client) (once : t.depth ≡ 1) where
    abbrev then_sessions : List (Option Session)
    then_sessions = entered client begun.slot number sessions

    abbrev its_session : Session
    its_session = record { client = client; log_number = number; depth = 1 }

    session_here : session_in then_sessions begun.slot ≡ Some its_session
    session_here =
        get_or-set_same sessions begun.slot (Some (record { client = client; log_number = number; depth = session_depth (session_in sessions begun.slot) + 1 })) None fits
        ∙ ap (λ (o : Option Session). Some (record { client = client; log_number = number; depth = session_depth o + 1 })) unheld

    session_elsewhere : (slot : ℕ) → slot ≢ begun.slot → session_in then_sessions slot ≡ session_in sessions slot
    session_elsewhere slot apart = get_or-set_other sessions begun.slot slot (Some (record { client = client; log_number = number; depth = session_depth (session_in sessions begun.slot) + 1 })) None apart

    pub HasSessions-more : HasSessions next all then_sessions
    HasSessions-more = record {
      each = λ m h x there is. each_more (λ i y. open_on y.name next ≡ Some x → session_in then_sessions y.slot ≡ Some (session_of i x))
          (λ on.
          let one : t ≡ x = same_Some t x (sym (open_there begun.name w.transactions (Some t)) ∙ on) in
          let its : its_session ≡ session_of number x =
          ap₂ (λ (c d : ℕ). record { client = c; log_number = number; depth = d }) (sym whose ∙ ap (λ (y : Transaction). y.client) one) (sym once ∙ ap (λ (y : Transaction). y.depth) one) in
          session_here ∙ ap (λ (s : Session). Some s) its)
          (λ i y was on.
          session_elsewhere y.slot (none_active w active mask words holds sessions has begun.slot unheld i y was)
          ∙ has.each i y x was (sym (open_elsewhere begun.name w.transactions (Some t) y.name (other_name i y was)) ∙ on))
          m h there is;
      only = λ slot s there. elim (cases_eq slot begun.slot) [
        | inl same ↦
            let one : its_session ≡ s = same_Some its_session s (sym session_here ∙ ap (session_in then_sessions) (sym same) ∙ there) in
            record { active = begun; is = ap (active_under all) (sym (ap session_log one)) ∙ begun_there; slot_is = sym same }
        | inr apart ↦
            let on = has.only slot s (sym (session_elsewhere slot apart) ∙ there) in
            record { active = on.active; is = still_there s.log_number on.active on.is; slot_is = on.slot_is }
      ];
    }
