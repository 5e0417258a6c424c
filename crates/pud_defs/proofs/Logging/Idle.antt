-- Images in which each registered log is closed. No log gives a word a value, and no log is refused. Such an image
-- stands for what a start leaves of it.
use Rattle.std.proofs.Common.{◌≡◌, ◌⊎◌, inl, inr, ℕ, ◌+◌, ◌%◌, ◌<◌, ◌≤◌, Bool, true, false, not, ◌||◌, eqb, leb, ltb, List, [], ◌∷◌, Option, Some, None, refl, sym, ap, subst, ◌∙◌, arith, eqb-true}
use Rattle.std.specs.Prelude.{cond, is_some}
use Rattle.std.specs.List.{list_all}
use Rattle.std.proofs.lemmas.Bool.{and_parts, and_from, and_left, or_left, or_cases, cond-true, cond-false, cases_Bool, lt-leb}
use Rattle.std.proofs.lemmas.Bool.Decides.{nat_tests}
use Rattle.std.proofs.lemmas.Option.{cond_some}
use Rattle.pud_defs.specs.declared.layout.TheConstants.{VERSION, VERSION_WORD, DAEMON_LOG, CLIENTS, CLIENT_LOGS}
use Rattle.pud_defs.specs.Formats.Layout.{tables_end, frames_at, log_at}
use Rattle.pud_defs.specs.Formats.Image.{Image}
use Rattle.pud_defs.specs.Logging.Entries.{Entry, Log, gate_lo, gate_hi, entries_of, log_of}
use Rattle.pud_defs.specs.Logging.Replay.{is_in_range, settled_by}
use Rattle.pud_defs.specs.RegistryTables.Spaces.{Owner, owner, space_record_at, owner_of, is_legal_space, is_closed_range, is_closed_log, has_closed_logs, are_closed_logs}
use Rattle.pud_defs.specs.RegistryTables.Tables.{Tables, tables_of}
use Rattle.pud_defs.specs.Logging.Allowed.{is_allowed_entry, are_allowed_entries, is_allowed_log, is_refused}
use Rattle.pud_defs.specs.Logging.Settled.{gives_to, ALL_LOGS, client_of_log, log_number_at, given_by_log, is_in_logs, beside_logs, settled_over, settled, is_refused_log}
use Rattle.pud_defs.specs.RegistryTables.Registry.{frames_of}
use Rattle.pud_defs.specs.StateMachine.World.{StoredWorld, world_of, idle_world_of}
use Rattle.pud_defs.proofs.RegistryTables.Spaces.{all_below-each, are_closed_logs-none}
use Rattle.pud_defs.proofs.Logging.Replay.{closed_range}
use Rattle.pud_defs.proofs.Logging.Logged.{settled_by-unlogged}
use Rattle.pud_defs.proofs.Logging.Settled.{gives_to-closed, settled_over-none}
use Rattle.pud_defs.proofs.StateMachine.Parts.{HoldsWorld, HoldsWorld-same, holds_standing, standing_closed}
use Rattle.pud_defs.proofs.StateMachine.Parts.Part.{Spaces}
use Rattle.pud_defs.proofs.StateMachine.Worlds.{legal_log_of_world, frames_of_world, holding_of_world, world_of_holding}
use Rattle.pud_defs.proofs.StateMachine.IdleWorlds.{standing_of_idle_world, idle_world_of_standing, legal_log_of_idle_world, frames_of_idle_world}
use Rattle.pud_defs.proofs.KeyedTables.Keyed.{some_there}

-- ---- a closed log

-- no sequence number lies in a closed range
pub closed_gate : (v : ℕ) → is_closed_range v ≡ true → gate_hi v ≤ gate_lo v + 1
closed_gate v closed = let same = eqb-true _ _ (and_parts (eqb (gate_lo v) (gate_hi v)) _ closed).0 in omega arith

none_counts : (t : Tables) (who : Owner) (log : Log) (es : List Entry) → log.hi ≤ log.lo + 1 → list_all (λ e. not (is_in_range log e) || is_allowed_entry t who e) es ≡ true
none_counts t who log [] closed = refl
none_counts t who log (e ∷ es) closed = and_from _ _ (or_left _ _ (ap not (closed_range log e closed))) (none_counts t who log es closed)

-- so a closed log is allowed, whoever owns it
pub closed_is_allowed : (t : Tables) (who : Owner) (image : Image) (at : ℕ) → is_closed_log image at ≡ true → is_allowed_log t who (log_of image at) ≡ true
unfolding is_allowed_log
closed_is_allowed t who image at closed =
    let parts = and_parts (is_closed_range (image at)) (is_some (entries_of image at)) closed in
    let es = some_there (entries_of image at) parts.1 in
    ap (are_allowed_entries t who (log_of image at)) es.1 ∙ none_counts t who (log_of image at) es.0 (closed_gate (image at) parts.0)

-- ---- with an owner, and without one

used_of_owner : (used uid gid : ℕ) (who : Owner) → cond (eqb used 1) (Some (owner uid gid)) None ≡ Some who → used ≡ 1
used_of_owner used uid gid who is = eqb-true used 1 (cond_some (eqb used 1) (owner uid gid) who is).0

unused_of_none : (used uid gid : ℕ) → (cond (eqb used 1) (Some (owner uid gid)) None) ≡ None → eqb used 1 ≡ false
unused_of_none used uid gid none = elim (cases_Bool (eqb used 1)) [
  | inl one ↦ absurd (let it : Some (owner uid gid) ≡ None = sym (cond-true (eqb used 1) (Some (owner uid gid)) None one) ∙ none in cc)
  | inr other ↦ other
]

of_used : (used : ℕ) (b : Bool) → used ≡ 1 → (eqb used 0 || b) ≡ true → b ≡ true
of_used used b one either = sym (ap (λ (n : ℕ). eqb n 0 || b) one) ∙ either

-- a registered log is closed, if each registered log is
pub registered_is_closed : (F : ℕ) (image : Image) (number : ℕ) (who : Owner) → are_closed_logs image F ≡ true → number < ALL_LOGS → owner_of image (client_of_log number) ≡ Some who
    → is_closed_log image (log_number_at F number) ≡ true
registered_is_closed F image number who closed known owned =
    let c = client_of_log number in
    let used = used_of_owner (image (space_record_at c)) (image (space_record_at c + 1)) (image (space_record_at c + 2)) who owned in
    let logs = of_used (image (space_record_at c)) (has_closed_logs image F c) used
    (all_below-each CLIENTS (λ c. eqb (image (space_record_at c)) 0 || has_closed_logs image F c) closed c (omega arith)) in
    all_below-each CLIENT_LOGS (λ n. is_closed_log image (log_at F c n)) logs (number % CLIENT_LOGS) (omega arith)

gives_by_owner : (t : Tables) (o : Option Owner) (log : Log) (w : ℕ) → ((who : Owner) → o ≡ Some who → log.hi ≤ log.lo + 1) → gives_to t o log w ≡ None
unfolding gives_to
gives_by_owner t None log w closed = refl
gives_by_owner t (Some who) log w closed = gives_to-closed t (Some who) log w (closed who refl)

refused_by_owner : (t : Tables) (o : Option Owner) (log : Log) → ((who : Owner) → o ≡ Some who → is_allowed_log t who log ≡ true) → is_refused t o log ≡ false
refused_by_owner t None log allowed = refl
refused_by_owner t (Some who) log allowed = ap not (allowed who refl)

-- ---- all of the logs

-- if each registered log is closed, no log gives anything
pub given_by_log-closed : (F : ℕ) (image : Image) (number w : ℕ) → are_closed_logs image F ≡ true → number < ALL_LOGS → given_by_log F image number w ≡ None
given_by_log-closed F image number w closed known =
    gives_by_owner (tables_of F image) (owner_of image (client_of_log number)) (log_of image (log_number_at F number)) w
    (λ who owned. closed_gate (image (log_number_at F number)) (and_parts (is_closed_range (image (log_number_at F number))) _ (registered_is_closed F image number who closed known owned)).0)

-- if no log is registered, no log gives anything
pub given_by_log-unowned : (F : ℕ) (image : Image) (number w : ℕ) → ((client : ℕ) → client < CLIENTS → owner_of image client ≡ None) → number < ALL_LOGS → given_by_log F image number w ≡ None
unfolding gives_to
given_by_log-unowned F image number w none known =
    ap (λ (o : Option Owner). gives_to (tables_of F image) o (log_of image (log_number_at F number)) w) (none (client_of_log number) (omega arith))

-- a word outside the clients' logs keeps its value if these logs are set to 0
pub beside_logs-outside : (F : ℕ) (image : Image) (k : ℕ) → (k < tables_end F) ⊎ (frames_at F ≤ k) → beside_logs F image k ≡ image k
beside_logs-outside F image k (inl low) = cond-false (is_in_logs F k) 0 (image k) (and_left (leb (tables_end F) k) (ltb k (frames_at F)) (lt-leb (tables_end F) k low))
beside_logs-outside F image k (inr high) = cond-false (is_in_logs F k) 0 (image k) (let out : is_in_logs F k ≡ false = grind (arith, nat_tests) in out)

pub HoldsWorld-beside : (size : ℕ) (image : Image) (s : StoredWorld) → HoldsWorld size image s → HoldsWorld size (beside_logs s.frames image) s
HoldsWorld-beside size image s h = HoldsWorld-same size image (beside_logs s.frames image) s h (λ k beside apart below. beside_logs-outside s.frames image k apart)

HoldsWorld-within : (size : ℕ) (image : Image) (s : StoredWorld) → HoldsWorld size (beside_logs s.frames image) s → HoldsWorld size image s
HoldsWorld-within size image s h = HoldsWorld-same size (beside_logs s.frames image) image s h (λ k beside apart below. sym (beside_logs-outside s.frames image k apart))

-- ---- worlds

-- the world of an image in which each registered log is closed is the world that a start leaves
pub world_of_idle : (size : ℕ) (image : Image) (s : StoredWorld) → idle_world_of size image ≡ Some s → world_of size image ≡ Some s
unfolding settled
world_of_idle size image s world =
    let i = settled_by DAEMON_LOG image in
    let stands = standing_of_idle_world size image s world in
    let frames = frames_of_idle_world size image s world in
    let nothing : settled (frames_of image) image ≡ beside_logs s.frames i =
    ap (λ (n : ℕ). settled_over n i) frames ∙ settled_over-none s.frames i (λ number w known. given_by_log-closed s.frames i number w (stands.holds Spaces).logs known) in
    world_of_holding size image s (legal_log_of_idle_world size image s world)
    (subst (λ (x : Image). HoldsWorld size x s) (sym nothing) (HoldsWorld-beside size i s (holds_standing size i s stands)))

free_record : (image : Image) (c : ℕ) → is_legal_space image c ≡ true → owner_of image c ≡ None → image (space_record_at c) ≡ 0
free_record image c legal none = elim (or_cases (eqb (image (space_record_at c)) 0) _ legal) [
  | inl free ↦ eqb-true _ _ free
  | inr used ↦ absurd (
      let one = (and_parts (eqb (image (space_record_at c)) 1) _ (and_parts _ _ used).0).0 in
      let it : true ≡ false = sym one ∙ unused_of_none (image (space_record_at c)) (image (space_record_at c + 1)) (image (space_record_at c + 2)) none in cc)
]

-- a device of the present version on which no log is registered is idle
pub idle_world_of-unowned : (size : ℕ) (image : Image) (s : StoredWorld) → world_of size image ≡ Some s → image VERSION_WORD ≡ VERSION → ((client : ℕ) → client < CLIENTS → owner_of (settled_by DAEMON_LOG image) client ≡ None)
    → idle_world_of size image ≡ Some s
unfolding settled
idle_world_of-unowned size image s world current none =
    let i = settled_by DAEMON_LOG image in
    let frames = frames_of_world size image s world in
    let nothing : settled (frames_of image) image ≡ beside_logs s.frames i =
    ap (λ (n : ℕ). settled_over n i) frames ∙ settled_over-none s.frames i (λ number w known. given_by_log-unowned s.frames i number w none known) in
    let h : HoldsWorld size i s = HoldsWorld-within size i s (subst (λ (x : Image). HoldsWorld size x s) nothing (holding_of_world size image s world)) in
    idle_world_of_standing size image s (legal_log_of_world size image s world)
    (standing_closed size i s h (settled_by-unlogged image VERSION_WORD (legal_log_of_world size image s world) (omega arith) ∙ current) (are_closed_logs-none i s.frames (λ c below. free_record i c (all_below-each CLIENTS (is_legal_space i) h.spaces c below) (none c below))))

-- if each registered log is closed, no log is refused
pub no_log_is_refused : (size : ℕ) (image : Image) (s : StoredWorld) → idle_world_of size image ≡ Some s → (number : ℕ) → number < ALL_LOGS
    → is_refused_log (frames_of image) (settled_by DAEMON_LOG image) number ≡ false
no_log_is_refused size image s world number known =
    let F = frames_of image in
    let i = settled_by DAEMON_LOG image in
    let logs : are_closed_logs i F ≡ true = ap (are_closed_logs i) (frames_of_idle_world size image s world) ∙ ((standing_of_idle_world size image s world).holds Spaces).logs in
    refused_by_owner (tables_of F i) (owner_of i (client_of_log number)) (log_of i (log_number_at F number))
    (λ who owned. closed_is_allowed (tables_of F i) who i (log_number_at F number) (registered_is_closed F i number who logs known owned))
