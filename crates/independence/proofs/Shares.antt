-- How each change of the pools changes what is seen under a name.
use Rattle.std.proofs.Common.{◌≡◌, ℕ, Bool, true, false, not, cond, List, [], ◌∷◌, bytes_eq, nat_le, Option, Some, None, option_map, unwrap_or, refl, sym, ap, ◌∙◌}
use Rattle.std.specs.Ordering.{eq_by_cmp}
use Rattle.std.specs.FinMap.Entries.{find, put, find-put, find-where_key}
use Rattle.std.specs.Cmp.Lexicographic.{nat_list_cmp_total}
use Rattle.std.proofs.lemmas.Slice.Eq.{bytes_eq-Decides}
use Rattle.std.proofs.lemmas.Map.Text.{is_eq-slice_cmp}
use Rattle.pud_defs.specs.Formats.Names.{name_cmp}
use Rattle.pud_defs.specs.RegistryTables.Keyed.{without}
use Rattle.pud_defs.specs.RegistryTables.Types.{with_type}
use Rattle.pud_defs.specs.RegistryTables.Tables.{Pool}
use Rattle.pud_defs.specs.StateMachine.World.{StoredWorld, Transaction}
use Rattle.pud_defs.specs.StateMachine.PoolChanges.{changed_pool, reread_pool, reread_pools, with_type_defined}
use Rattle.pud_defs.specs.StateMachine.Imports.{with_types_defined}
use Rattle.pud_defs.specs.StateMachine.Transactions.{holding_graph, committed_pools}
use Rattle.pud_defs.specs.PoolGraphs.DeferredValues.{with_deferred_set}
use Rattle.pud_defs.proofs.KeyedTables.DistinctKeys.{same_tests}
use Rattle.pud_defs.proofs.KeyedTables.KeyedMaps.{find-mapped}
use Rattle.pud_defs.proofs.RegistryTables.PoolsChanged.{same_name}
use Rattle.independence.specs.Shares.{unnumbered, seen}

abbrev pub Pools : Type 0
Pools = List (List ℕ × Pool)

-- ---- names

kept_by : {A : Type 0} (f : List ℕ → A) (q n : List ℕ) (b : Bool) → bytes_eq q n ≡ b → f q ≡ cond b (f n) (f q)
kept_by f q n true same = ap f ((bytes_eq-Decides q n).0 same)
kept_by f q n false other = refl

-- a value that nothing changes, written as a choice by the name
pub kept : {A : Type 0} (f : List ℕ → A) (q n : List ℕ) → f q ≡ cond (bytes_eq q n) (f n) (f q)
kept f q n = kept_by f q n (bytes_eq q n) refl

bytes_eq-back : (q n : List ℕ) → bytes_eq n q ≡ bytes_eq q n
bytes_eq-back q n =
    same_tests (bytes_eq n q) (bytes_eq q n) (λ e. (bytes_eq-Decides q n).1 (sym ((bytes_eq-Decides n q).0 e))) (λ e. (bytes_eq-Decides n q).1 (sym ((bytes_eq-Decides q n).0 e)))

cond-not : {A : Type 0} (b : Bool) (x y : A) → cond (not b) x y ≡ cond b y x
cond-not true x y = refl
cond-not false x y = refl

-- ---- what is found

found_put : (q n : List ℕ) (p : Pool) (pools : Pools) → find name_cmp q (put name_cmp n p pools) ≡ cond (bytes_eq q n) (Some p) (find name_cmp q pools)
found_put q n p pools =
    find-put name_cmp nat_list_cmp_total q n p pools ∙ ap (λ (b : Bool). cond b (Some p) (find name_cmp q pools)) (is_eq-slice_cmp q n)

found_without : (q n : List ℕ) (pools : Pools) → find name_cmp q (without name_cmp n pools) ≡ cond (bytes_eq q n) None (find name_cmp q pools)
found_without q n pools =
    let is_kept : List ℕ → Bool = λ x. not (eq_by_cmp name_cmp n x) in
    find-where_key name_cmp is_kept q (λ x tied. ap is_kept (sym (same_name q x tied))) pools
    ∙ ap (λ (b : Bool). cond (not b) (find name_cmp q pools) None) (is_eq-slice_cmp n q ∙ bytes_eq-back q n)
    ∙ cond-not (bytes_eq q n) (find name_cmp q pools) None

changed_found : (q n : List ℕ) (change : Pool → Pool) (pools : Pools) (here : Option Pool) → find name_cmp n pools ≡ here
    → find name_cmp q (unwrap_or (option_map (λ p. put name_cmp n (change p) pools) here) pools) ≡ cond (bytes_eq q n) (option_map change here) (find name_cmp q pools)
changed_found q n change pools None is =
    kept (λ (name : List ℕ). find name_cmp name pools) q n ∙ ap (λ (o : Option Pool). cond (bytes_eq q n) o (find name_cmp q pools)) is
changed_found q n change pools (Some p) is = found_put q n (change p) pools

found_changed : (q n : List ℕ) (change : Pool → Pool) (pools : Pools)
    → find name_cmp q (changed_pool n change pools) ≡ cond (bytes_eq q n) (option_map change (find name_cmp n pools)) (find name_cmp q pools)
found_changed q n change pools = changed_found q n change pools (find name_cmp n pools) refl

-- ---- what is seen of it

seen-cond : (b : Bool) (x y : Option Pool) → seen (cond b x y) ≡ cond b (seen x) (seen y)
seen-cond true x y = refl
seen-cond false x y = refl

-- a change that does not depend on the UUID number changes what is seen in the same way
seen-mapped : (change : Pool → Pool) → ((p : Pool) → unnumbered (change p) ≡ change (unnumbered p)) → (o : Option Pool) → seen (option_map change o) ≡ option_map change (seen o)
seen-mapped change each None = refl
seen-mapped change each (Some p) = ap (λ (x : Pool). Some x) (each p)

pub seen_put : (q n : List ℕ) (p : Pool) (pools : Pools) → seen (find name_cmp q (put name_cmp n p pools)) ≡ cond (bytes_eq q n) (Some (unnumbered p)) (seen (find name_cmp q pools))
seen_put q n p pools = ap seen (found_put q n p pools) ∙ seen-cond (bytes_eq q n) (Some p) (find name_cmp q pools)

pub seen_without : (q n : List ℕ) (pools : Pools) → seen (find name_cmp q (without name_cmp n pools)) ≡ cond (bytes_eq q n) None (seen (find name_cmp q pools))
seen_without q n pools = ap seen (found_without q n pools) ∙ seen-cond (bytes_eq q n) None (find name_cmp q pools)

pub seen_changed : (q n : List ℕ) (change : Pool → Pool) → ((p : Pool) → unnumbered (change p) ≡ change (unnumbered p)) → (pools : Pools)
    → seen (find name_cmp q (changed_pool n change pools)) ≡ cond (bytes_eq q n) (option_map change (seen (find name_cmp n pools))) (seen (find name_cmp q pools))
seen_changed q n change each pools =
    ap seen (found_changed q n change pools) ∙ seen-cond (bytes_eq q n) (option_map change (find name_cmp n pools)) (find name_cmp q pools)
    ∙ ap (λ (o : Option Pool). cond (bytes_eq q n) o (seen (find name_cmp q pools))) (seen-mapped change each (find name_cmp n pools))

pub seen_kept : (q n : List ℕ) (pools : Pools) → seen (find name_cmp q pools) ≡ cond (bytes_eq q n) (seen (find name_cmp n pools)) (seen (find name_cmp q pools))
seen_kept q n pools = kept (λ (name : List ℕ). seen (find name_cmp name pools)) q n

-- the same for a change that is made only if a test holds
pub seen_changed_if : (test : Bool) (q n : List ℕ) (change : Pool → Pool) → ((p : Pool) → unnumbered (change p) ≡ change (unnumbered p)) → (pools : Pools)
    → seen (find name_cmp q (cond test (changed_pool n change pools) pools))
    ≡ cond (bytes_eq q n) (cond test (option_map change (seen (find name_cmp n pools))) (seen (find name_cmp n pools))) (seen (find name_cmp q pools))
seen_changed_if true q n change each pools = seen_changed q n change each pools
seen_changed_if false q n change each pools = seen_kept q n pools

-- ---- a commit

-- the pool after the transaction that is open on it was committed
abbrev pub committed : Option Transaction → Option Pool → Option Pool
committed None p = p
committed (Some t) p = cond (nat_le t.depth 1) (option_map (holding_graph (with_deferred_set t.deferred t.now)) p) p

pub seen_committed : (q n : List ℕ) (opened : Option Transaction) (pools : Pools)
    → seen (find name_cmp q (committed_pools n opened pools)) ≡ cond (bytes_eq q n) (committed opened (seen (find name_cmp n pools))) (seen (find name_cmp q pools))
seen_committed q n None pools = seen_kept q n pools
seen_committed q n (Some t) pools = seen_changed_if (nat_le t.depth 1) q n (holding_graph (with_deferred_set t.deferred t.now)) (λ p. refl) pools

-- ---- types

-- what is seen after all pools are read again with these types
pub seen_read : (q : List ℕ) (types : List (ℕ × ℕ)) (pools : Pools) → seen (find name_cmp q (reread_pools types pools)) ≡ option_map (reread_pool types) (seen (find name_cmp q pools))
seen_read q types pools = ap seen (find-mapped name_cmp (reread_pool types) q pools) ∙ seen-mapped (reread_pool types) (λ p. refl) (find name_cmp q pools)

-- a pool, read again with each of these types, one after the other
abbrev pub reread : (missing types : List (ℕ × ℕ)) → Option Pool → Option Pool
reread [] types pool = pool
reread (t ∷ missing) types pool = reread missing (with_type t.0 t.1 types) (option_map (reread_pool (with_type t.0 t.1 types)) pool)

-- the types, with each of the missing types added, one after the other
abbrev pub types_with : (missing types : List (ℕ × ℕ)) → List (ℕ × ℕ)
types_with [] types = types
types_with (t ∷ missing) types = types_with missing (with_type t.0 t.1 types)

pub seen_typed : (q : List ℕ) (missing : List (ℕ × ℕ)) (s : StoredWorld) → seen (find name_cmp q (with_types_defined missing s).pools) ≡ reread missing s.types (seen (find name_cmp q s.pools))
unfolding with_types_defined with_type_defined
seen_typed q [] s = refl
seen_typed q (t ∷ missing) s =
    let types = with_type t.0 t.1 s.types in
    seen_typed q missing (with_type_defined t.0 t.1 s) ∙ ap (reread missing types) (seen_read q types s.pools)

pub types_typed : (missing : List (ℕ × ℕ)) (s : StoredWorld) → (with_types_defined missing s).types ≡ types_with missing s.types
unfolding with_types_defined with_type_defined
types_typed [] s = refl
types_typed (t ∷ missing) s = types_typed missing (with_type_defined t.0 t.1 s)
