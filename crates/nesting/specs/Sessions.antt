-- Whose transaction is open on each pool, with which log, and how often it was begun. A pool is given by its record's
-- slot.
use Rattle.std.specs.Prelude.{◌≡◌, ℕ, ◌+◌, ◌-◌, ◌<◌, ◌≤◌, Bool, false, ◌==◌, nat_le, cond, List, length, Option, Some, None, option_map, count_by, slice_index_or, set}
use Rattle.pud_defs.specs.declared.layout.TheConstants.{CLIENTS, MAX_DEPTH}
use Rattle.pud_defs.specs.declared.records.TheConstants.{POOL_RECORDS}
use Rattle.pud_defs.specs.Logging.Settled.{ALL_LOGS}
use Rattle.nesting.specs.declared.Session.{Session}

-- The session on the pool in this slot.
abbrev pub session_in : List (Option Session) → (pool : ℕ) → Option Session
session_in sessions pool = slice_index_or sessions pool None

-- ---- one session

-- The client of the session.
abbrev pub session_client : Session → ℕ
session_client session = session.client

-- The number of the session's log.
abbrev pub session_log : Session → ℕ
session_log session = session.log_number

-- How often the session's transaction was begun, 0 if there is no session.
abbrev pub session_depth : Option Session → ℕ
session_depth None = 0
session_depth (Some session) = session.depth

-- Whether there is a session and it is this client's.
abbrev pub is_of_client : (client : ℕ) → Option Session → Bool
is_of_client client None = false
is_of_client client (Some session) = session.client == client

-- The session with its depth one less, or none if it was begun once.
abbrev pub lowered_session : Option Session → Option Session
lowered_session None = None
lowered_session (Some session) = cond (nat_le session.depth 1) None (Some (record session { depth = session.depth - 1 }))

-- ---- all of them

-- The client whose transaction is open on the pool, if one is.
abbrev pub holder_in : List (Option Session) → (pool : ℕ) → Option ℕ
holder_in sessions pool = option_map session_client (session_in sessions pool)

-- The number of the log of the client's own transaction on the pool, if that is open.
abbrev pub own_in : (client : ℕ) → Option Session → Option ℕ
own_in client None = None
own_in client (Some session) = cond (session.client == client) (Some session.log_number) None

-- How often the transaction on the pool was begun, 0 if none is open.
abbrev pub depth_in : List (Option Session) → (pool : ℕ) → ℕ
depth_in sessions pool = session_depth (session_in sessions pool)

-- On how many pools the client's transactions are open.
abbrev pub count_of : (client : ℕ) → List (Option Session) → ℕ
count_of client sessions = count_by (is_of_client client) sessions

-- The sessions, with the client's on the pool one deeper, with the log of this number.
abbrev pub entered : (client pool number : ℕ) → List (Option Session) → List (Option Session)
entered client pool number sessions = set sessions pool (Some (record { client = client; log_number = number; depth = depth_in sessions pool + 1 }))

-- The sessions, with the one on the pool one less deep.
abbrev pub left : (pool : ℕ) → List (Option Session) → List (Option Session)
left pool sessions = set sessions pool (lowered_session (session_in sessions pool))

-- A session of one of the clients, with one of the logs. It was begun at least once and no more often than allowed.
pub record IsSession (session : Session) : Type 0 where
  pub client : session.client < CLIENTS
  pub number : session.log_number < ALL_LOGS
  pub begun : 1 ≤ session.depth
  pub few : session.depth ≤ MAX_DEPTH

-- There is a slot for each pool record, and each slot has such a session or none.
pub record AreSessions (sessions : List (Option Session)) : Type 0 where
  pub slots : length sessions ≡ POOL_RECORDS
  pub each : (pool : ℕ) (session : Session) → session_in sessions pool ≡ Some session → IsSession session
