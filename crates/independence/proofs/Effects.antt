-- What a command does to the shares of pools. The share of the pool that it names depends only on that share before,
-- the types, the clients and the contents of the imported file. The share of another name does not change, except that
-- a wild pool is read again if a file brings types.
use Rattle.std.proofs.Common.{◌≡◌, ℕ, Bool, true, false, cond, List, bytes_eq, Option, Some, None, option_map, unwrap_or, refl, sym, ap, ◌∙◌}
use Rattle.pud_defs.specs.declared.layout.TheConstants.{SET_UNITS}
use Rattle.pud_defs.specs.declared.machine.Command.{Command}
use Rattle.pud_defs.specs.declared.machine.Command.TheVariants.{Client, Leave, Define, Cut, Arm, Chmod, Begin, Commit, Abort, New, Set, Later, Root, Free, Dump, Export, Import, Rewrite, Get}
use Rattle.pud_defs.specs.declared.machine.Command.TheVariants as commands
use Rattle.pud_defs.specs.Formats.Geometry.{new_units}
use Rattle.pud_defs.specs.RegistryTables.Types.{map_of, with_type}
use Rattle.pud_defs.specs.RegistryTables.Spaces.{Owner, owner, with_owner}
use Rattle.pud_defs.specs.PoolGraphs.Graph.{Graph, empty_graph}
use Rattle.pud_defs.specs.PoolGraphs.GraphChanges.{blank_object, with_field, with_root, without_object, with_new}
use Rattle.pud_defs.specs.PoolGraphs.ExportFile.{FileContents}
use Rattle.pud_defs.specs.RegistryTables.Tables.{Pool}
use Rattle.pud_defs.specs.StateMachine.World.{World, Transaction, open_on, no_clients}
use Rattle.pud_defs.specs.StateMachine.PoolChanges.{pool_named, new_pool, reread_pool, with_puddle_more, with_new_pool, with_pool_mode, without_pool, with_type_defined}
use Rattle.pud_defs.specs.StateMachine.Imports.{types_missing, with_types_defined, imported_pool, with_imported_pool, with_pool_of}
use Rattle.pud_defs.specs.StateMachine.Transactions.{is_own, open_after_begin, charged, deferring, lowered}
use Rattle.pud_defs.specs.StateMachine.Step.{name_in, graph_in, graph_seen, is_all_live, has_all_puddles, class_made, grows, contents_named, owner_acting, after}
use Rattle.independence.specs.Shares.{unnumbered, seen, Share, share}
use Rattle.independence.proofs.Shares.{kept, seen_put, seen_without, seen_changed, seen_kept, seen_changed_if, committed, seen_committed, seen_read, reread, types_with, seen_typed, types_typed}

-- ---- what a command reads of a pool does not depend on its UUID number

pub graph_in-seen : (o : Option Pool) → graph_in (seen o) ≡ graph_in o
graph_in-seen None = refl
graph_in-seen (Some p) = refl

pub graph_seen-seen : (t : Option Transaction) (o : Option Pool) → graph_seen t (seen o) ≡ graph_seen t o
graph_seen-seen None o = graph_in-seen o
graph_seen-seen (Some t) o = refl

pub all_live-seen : (class : ℕ) (g : Option Graph) (o : Option Pool) → is_all_live class g (seen o) ≡ is_all_live class g o
all_live-seen class None o = refl
all_live-seen class (Some g) None = refl
all_live-seen class (Some g) (Some p) = refl

pub has_all_puddles-seen : (o : Option Pool) → has_all_puddles (seen o) ≡ has_all_puddles o
has_all_puddles-seen None = refl
has_all_puddles-seen (Some p) = refl

-- whether making an object in a puddle of a class adds one more puddle
abbrev pub share_grows : (class : ℕ) → Share → Bool
share_grows class s = is_all_live class (graph_seen s.transaction s.pool) s.pool

grows-share : (w : World) (n : List ℕ) (class : ℕ) → grows w n class ≡ share_grows class (share w n)
grows-share w n class =
    let pool = pool_named n w.stored in
    sym (all_live-seen class (graph_seen (open_on n w) pool) pool) ∙ ap (λ (g : Option Graph). is_all_live class g (seen pool)) (sym (graph_seen-seen (open_on n w) pool))

-- ---- what a command does

-- the share of the pool that a command names, after the command. If it names no pool: the share of any pool after it
abbrev pub effect : (ℕ → Option Owner) → List (ℕ × ℕ) → Option FileContents → Command → Share → Share
effect clients types contents (Leave client) s = record s { transaction = cond (is_own client s.transaction) None s.transaction }
effect clients types contents (Define id map) s = record s { pool = option_map (reread_pool (with_type id map types)) s.pool }
effect clients types contents (commands.Pool client name mode) s = record s { pool = Some (new_pool (owner_acting clients client) mode 0) }
effect clients types contents (Chmod client name mode) s = record s { pool = option_map (λ (p : Pool). record p { mode = mode }) s.pool }
effect clients types contents (commands.Drop client name) s = record s { pool = None }
effect clients types contents (Begin client name) s = record s { transaction = open_after_begin client (unwrap_or (graph_in s.pool) empty_graph) s.transaction }
effect clients types contents (Commit client name) s = record { pool = committed s.transaction s.pool; transaction = lowered s.transaction }
effect clients types contents (Abort client name) s = record s { transaction = None }
effect clients types contents (New client name t) s = record {
  pool = cond (share_grows (class_made types t) s) (option_map (with_puddle_more (class_made types t)) s.pool) s.pool;
  transaction = option_map (charged (new_units (class_made types t)) (with_new (blank_object (class_made types t) t (unwrap_or (map_of t types) 0)))) s.transaction;
}
effect clients types contents (Set client name o f x) s = record s { transaction = option_map (charged SET_UNITS (with_field o f x)) s.transaction }
effect clients types contents (Later client name o f x) s = record s { transaction = option_map (deferring SET_UNITS (record { s = o; f = f; x = x })) s.transaction }
effect clients types contents (Root client name o) s = record s { transaction = option_map (charged SET_UNITS (with_root o)) s.transaction }
effect clients types contents (Free client name o) s = record s { transaction = option_map (charged SET_UNITS (without_object o)) s.transaction }
effect clients types None (Import client name file mode) s = s
effect clients types (Some contents) (Import client name file mode) s = record s { pool = Some (imported_pool (owner_acting clients client) mode 0 contents) }
effect clients types contents (Cut pick) s = record s { transaction = None }
effect clients types contents c s = s

-- the share of another name after the command: a wild pool is read again with the types that a file brings
abbrev pub beside : List (ℕ × ℕ) → Option FileContents → Share → Share
beside types None s = s
beside types (Some contents) s = record s { pool = reread (types_missing types contents.types) types s.pool }

-- a command touches the share under the name that it gives, or under all names if it gives none
abbrev pub touches : List ℕ → Option (List ℕ) → Bool
touches q None = true
touches q (Some n) = bytes_eq q n

abbrev pub touched : List ℕ → Option (List ℕ) → List ℕ
touched q None = q
touched q (Some n) = n

abbrev pub clients_made : Command → (ℕ → Option Owner) → ℕ → Option Owner
clients_made (Client client uid gid) clients = with_owner client (Some (owner uid gid)) clients
clients_made (Leave client) clients = with_owner client None clients
clients_made (Cut pick) clients = no_clients
clients_made c clients = clients

abbrev pub types_made : Command → Option FileContents → List (ℕ × ℕ) → List (ℕ × ℕ)
types_made (Define id map) contents types = with_type id map types
types_made c None types = types
types_made c (Some contents) types = types_with (types_missing types contents.types) types

-- ---- it does nothing else

joined : (b : Bool) (s r : Share) (pool : Option Pool) (transaction : Option Transaction) → pool ≡ cond b s.pool r.pool → transaction ≡ cond b s.transaction r.transaction
    → record { pool = pool; transaction = transaction } ≡ cond b s r
joined true s r pool transaction p t = λ i. record { pool = p i; transaction = t i }
joined false s r pool transaction p t = λ i. record { pool = p i; transaction = t i }

-- the share under each name after an import: as `effect` and `beside` state
imported : (w : World) (q n : List ℕ) (client : ℕ) (file : List ℕ) (mode : ℕ) (contents : Option FileContents)
    → share (record w { stored = with_pool_of contents n (owner_acting w.clients client) mode w.stored }) q
    ≡ cond (bytes_eq q n) (effect w.clients w.stored.types contents (Import client n file mode) (share w n)) (beside w.stored.types contents (share w q))
unfolding with_imported_pool
imported w q n client file mode None = kept (share w) q n
imported w q n client file mode (Some contents) =
    let missing = types_missing w.stored.types contents.types in
    let made = imported_pool (owner_acting w.clients client) mode w.stored.next_number contents in
    let given = Some contents in
    joined (bytes_eq q n) (effect w.clients w.stored.types given (Import client n file mode) (share w n)) (beside w.stored.types given (share w q)) _ _
    (seen_put q n made (with_types_defined missing w.stored).pools
    ∙ ap (λ (o : Option Pool). cond (bytes_eq q n) (Some (unnumbered made)) o) (seen_typed q missing w.stored))
    (kept w.transactions q n)

pub share_after : (w : World) (q : List ℕ) (c : Command)
    → share (after w c) q
    ≡ cond (touches q (name_in c)) (effect w.clients w.stored.types (contents_named w c) c (share w (touched q (name_in c)))) (beside w.stored.types (contents_named w c) (share w q))
unfolding after with_new_pool with_pool_mode without_pool with_type_defined
share_after w q (Client client uid gid) = refl
share_after w q (Leave client) = refl
share_after w q (Define id map) = ap (λ (o : Option Pool). record { pool = o; transaction = w.transactions q }) (seen_read q (with_type id map w.stored.types) w.stored.pools)
share_after w q (commands.Pool client n mode) =
    joined (bytes_eq q n) (effect w.clients w.stored.types None (commands.Pool client n mode) (share w n)) (share w q) _ _
    (seen_put q n (new_pool (owner_acting w.clients client) mode w.stored.next_number) w.stored.pools) (kept w.transactions q n)
share_after w q (Chmod client n mode) =
    joined (bytes_eq q n) (effect w.clients w.stored.types None (Chmod client n mode) (share w n)) (share w q) _ _
    (seen_changed q n (λ (p : Pool). record p { mode = mode }) (λ p. refl) w.stored.pools) (kept w.transactions q n)
share_after w q (commands.Drop client n) =
    joined (bytes_eq q n) (effect w.clients w.stored.types None (commands.Drop client n) (share w n)) (share w q) _ _ (seen_without q n w.stored.pools) (kept w.transactions q n)
share_after w q (Get client n s f) = kept (share w) q n
share_after w q (Begin client n) =
    joined (bytes_eq q n) (effect w.clients w.stored.types None (Begin client n) (share w n)) (share w q) _ _ (seen_kept q n w.stored.pools)
    (ap (λ (g : Option Graph). cond (bytes_eq q n) (open_after_begin client (unwrap_or g empty_graph) (w.transactions n)) (w.transactions q)) (sym (graph_in-seen (pool_named n w.stored))))
share_after w q (Commit client n) =
    joined (bytes_eq q n) (effect w.clients w.stored.types None (Commit client n) (share w n)) (share w q) _ _ (seen_committed q n (w.transactions n) w.stored.pools) refl
share_after w q (Abort client n) =
    joined (bytes_eq q n) (effect w.clients w.stored.types None (Abort client n) (share w n)) (share w q) _ _ (seen_kept q n w.stored.pools) refl
share_after w q (New client n t) =
    let pool = seen (pool_named n w.stored) in
    let class = class_made w.stored.types t in
    joined (bytes_eq q n) (effect w.clients w.stored.types None (New client n t) (share w n)) (share w q) _ _
    (seen_changed_if (grows w n class) q n (with_puddle_more class) (λ p. refl) w.stored.pools
    ∙ ap (λ (b : Bool). cond (bytes_eq q n) (cond b (option_map (with_puddle_more class) pool) pool) (seen (pool_named q w.stored))) (grows-share w n class)) refl
share_after w q (Set client n s f x) =
    joined (bytes_eq q n) (effect w.clients w.stored.types None (Set client n s f x) (share w n)) (share w q) _ _ (seen_kept q n w.stored.pools) refl
share_after w q (Later client n s f x) =
    joined (bytes_eq q n) (effect w.clients w.stored.types None (Later client n s f x) (share w n)) (share w q) _ _ (seen_kept q n w.stored.pools) refl
share_after w q (Root client n s) =
    joined (bytes_eq q n) (effect w.clients w.stored.types None (Root client n s) (share w n)) (share w q) _ _ (seen_kept q n w.stored.pools) refl
share_after w q (Free client n s) =
    joined (bytes_eq q n) (effect w.clients w.stored.types None (Free client n s) (share w n)) (share w q) _ _ (seen_kept q n w.stored.pools) refl
share_after w q (Dump client n) = kept (share w) q n
share_after w q (Export client n file) = kept (share w) q n
share_after w q (Import client n file mode) = imported w q n client file mode (contents_named w (Import client n file mode))
share_after w q (Rewrite n steps) = kept (share w) q n
share_after w q commands.Pools = refl
share_after w q (Cut pick) = refl
share_after w q (Arm step pick) = refl

pub clients_after : (w : World) (c : Command) → (after w c).clients ≡ clients_made c w.clients
unfolding after
clients_after w (Client client uid gid) = refl
clients_after w (Leave client) = refl
clients_after w (Cut pick) = refl
clients_after w c = refl

types_of_file : (w : World) (client : ℕ) (name file : List ℕ) (mode : ℕ) (contents : Option FileContents)
    → (with_pool_of contents name (owner_acting w.clients client) mode w.stored).types ≡ types_made (Import client name file mode) contents w.stored.types
unfolding with_imported_pool
types_of_file w client name file mode None = refl
types_of_file w client name file mode (Some contents) = types_typed (types_missing w.stored.types contents.types) w.stored

pub types_after : (w : World) (c : Command) → (after w c).stored.types ≡ types_made c (contents_named w c) w.stored.types
unfolding after with_new_pool with_pool_mode without_pool with_type_defined
types_after w (Import client name file mode) = types_of_file w client name file mode (contents_named w (Import client name file mode))
types_after w c = refl
