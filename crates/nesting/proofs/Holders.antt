-- Which session is on a pool: at the start, and if its holder or its depth is known.
use Rattle.std.proofs.Common.{◌≡◌, ℕ, zero, suc, List, Option, Some, None, option_map, replicate, refl, sym, ◌∙◌, arith}
use Rattle.std.proofs.lemmas.List.{length-replicate}
use Rattle.std.proofs.lemmas.Option.{none-some}
use Rattle.pud_defs.specs.declared.records.TheConstants.{POOL_RECORDS}
use Rattle.nesting.specs.declared.Session.{Session}
use Rattle.nesting.specs.Sessions.{session_in, session_client, session_depth, holder_in, depth_in, count_of, IsSession, AreSessions}

-- ---- at the start

pub session_in-replicate : (n pool : ℕ) → session_in (replicate n None) pool ≡ None
session_in-replicate zero pool = refl
session_in-replicate (suc n) zero = refl
session_in-replicate (suc n) (suc pool) = session_in-replicate n pool

pub count_of-replicate : (client n : ℕ) → count_of client (replicate n None) ≡ 0
count_of-replicate client zero = refl
count_of-replicate client (suc n) = count_of-replicate client n

pub AreSessions-replicate : AreSessions (replicate POOL_RECORDS None)
AreSessions-replicate = record {
  slots = let nothing : Option Session = None in length-replicate POOL_RECORDS nothing;
  each = λ pool session there. absurd (none-some session (sym (session_in-replicate POOL_RECORDS pool) ∙ there));
}

-- ---- by the holder, or by the depth

none_held : (o : Option Session) → option_map session_client o ≡ None → o ≡ None
none_held None e = refl
none_held (Some session) e = absurd (none-some session.client (sym e))

-- A pool that no client holds has no session.
pub session_in-no_holder : (sessions : List (Option Session)) (pool : ℕ) → holder_in sessions pool ≡ None → session_in sessions pool ≡ None
session_in-no_holder sessions pool none = none_held (session_in sessions pool) none

none_begun : (o : Option Session) → ((session : Session) → o ≡ Some session → IsSession session) → session_depth o ≡ 0 → o ≡ None
none_begun None each e = refl
none_begun (Some session) each e = let begun = (each session refl).begun in absurd (omega arith)

-- A pool at depth 0 has no session.
pub session_in-no_depth : (sessions : List (Option Session)) (pool : ℕ) → AreSessions sessions → depth_in sessions pool ≡ 0 → session_in sessions pool ≡ None
session_in-no_depth sessions pool are none = none_begun (session_in sessions pool) (are.each pool) none
