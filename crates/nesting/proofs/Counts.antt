-- On how many pools a client's transactions are open, if the session on one pool changes.
use Rattle.std.proofs.Common.{◌≡◌, ◌≢◌, ℕ, ◌+◌, ◌<◌, Bool, true, false, cond, List, length, Option, Some, None, set, refl, sym, ap, ◌∙◌, arith, eq-eqb, ne_eqb}
use Rattle.std.proofs.lemmas.List.Sums.{sum_by-set}
use Rattle.nesting.specs.declared.Session.{Session}
use Rattle.nesting.specs.Sessions.{session_in, is_of_client, count_of}

abbrev number_of : Bool → ℕ
number_of b = cond b 1 0

-- The count loses what the session on the pool counted, and gains what the next one counts.
count_of-set : (client : ℕ) (sessions : List (Option Session)) (pool : ℕ) (next : Option Session) → pool < length sessions
    → count_of client (set sessions pool next) + number_of (is_of_client client (session_in sessions pool)) ≡ count_of client sessions + number_of (is_of_client client next)
count_of-set client sessions pool next within = sum_by-set (λ (o : Option Session). number_of (is_of_client client o)) sessions pool next None within

-- The count is one more if a session of the client replaces none or another client's.
pub count_of-set_more : (client : ℕ) (sessions : List (Option Session)) (pool : ℕ) (next : Option Session) → pool < length sessions
    → is_of_client client (session_in sessions pool) ≡ false → is_of_client client next ≡ true → count_of client (set sessions pool next) ≡ count_of client sessions + 1
count_of-set_more client sessions pool next within was is = omega (arith, count_of-set client sessions pool next within, ap number_of was, ap number_of is)

-- The count is one less if none or another client's session replaces a session of the client.
pub count_of-set_fewer : (client : ℕ) (sessions : List (Option Session)) (pool : ℕ) (next : Option Session) → pool < length sessions
    → is_of_client client (session_in sessions pool) ≡ true → is_of_client client next ≡ false → count_of client (set sessions pool next) + 1 ≡ count_of client sessions
count_of-set_fewer client sessions pool next within was is = omega (arith, count_of-set client sessions pool next within, ap number_of was, ap number_of is)

-- The count stays the same if both sessions are the client's or neither is.
pub count_of-set_same : (client : ℕ) (sessions : List (Option Session)) (pool : ℕ) (next : Option Session) → pool < length sessions
    → is_of_client client (session_in sessions pool) ≡ is_of_client client next → count_of client (set sessions pool next) ≡ count_of client sessions
count_of-set_same client sessions pool next within same = omega (arith, count_of-set client sessions pool next within, ap number_of same)

-- ---- a transaction begins, ends, or changes its depth

module _ (client : ℕ) (sessions : List (Option Session)) (pool : ℕ) (within : pool < length sessions) where
  pub count_of-begun : (number depth : ℕ) → session_in sessions pool ≡ None → count_of client (set sessions pool (Some (record { client = client; log_number = number; depth = depth }))) ≡ count_of client sessions + 1
  count_of-begun number depth none = count_of-set_more client sessions pool (Some (record { client = client; log_number = number; depth = depth })) within (ap (is_of_client client) none) (eq-eqb client client refl)

  pub count_of-ended : (number depth : ℕ) → session_in sessions pool ≡ Some (record { client = client; log_number = number; depth = depth }) → count_of client (set sessions pool None) + 1 ≡ count_of client sessions
  count_of-ended number depth is = count_of-set_fewer client sessions pool None within (ap (is_of_client client) is ∙ eq-eqb client client refl) refl

  pub count_of-at_depth : (session : Session) (depth : ℕ) → session_in sessions pool ≡ Some session → count_of client (set sessions pool (Some (record session { depth = depth }))) ≡ count_of client sessions
  count_of-at_depth session depth is = count_of-set_same client sessions pool (Some (record session { depth = depth })) within (ap (is_of_client client) is)

  -- A session of another client begins or ends, and the count stays the same.
  module _ (other : ℕ) (apart : other ≢ client) (number depth : ℕ) where
    pub count_of-begun_other : session_in sessions pool ≡ None → count_of client (set sessions pool (Some (record { client = other; log_number = number; depth = depth }))) ≡ count_of client sessions
    count_of-begun_other none = count_of-set_same client sessions pool (Some (record { client = other; log_number = number; depth = depth })) within (ap (is_of_client client) none ∙ sym (ne_eqb other client apart))

    pub count_of-ended_other : session_in sessions pool ≡ Some (record { client = other; log_number = number; depth = depth }) → count_of client (set sessions pool None) ≡ count_of client sessions
    count_of-ended_other is = count_of-set_same client sessions pool None within (ap (is_of_client client) is ∙ ne_eqb other client apart)
