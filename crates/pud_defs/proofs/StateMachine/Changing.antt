-- What a command may not change stays as it was.
use Rattle.std.proofs.Common.{◌≡◌, ℕ, T, List, [], ◌∷◌, Option, Some, None, nat_cmp, refl, sym, ap, subst, ◌∙◌}
use Rattle.std.specs.FinMap.Entries.{is_sorted}
use Rattle.pud_defs.specs.declared.machine.Command.{Command}
use Rattle.pud_defs.specs.declared.machine.Command.TheVariants.{Client, Leave, Define, Cut, Arm, Chmod, Begin, Commit, Abort, New, Set, Later, Root, Free, Dump, Export, Import, Rewrite, Pools, Get}
use Rattle.pud_defs.specs.declared.machine.Command.TheVariants as commands
use Rattle.pud_defs.specs.declared.machine.Refusal.{Refusal}
use Rattle.pud_defs.specs.RegistryTables.Spaces.{Owner}
use Rattle.pud_defs.specs.PoolGraphs.ExportFile.{FileContents}
use Rattle.pud_defs.specs.StateMachine.World.{StoredWorld, World}
use Rattle.pud_defs.specs.StateMachine.PoolChanges.{with_new_pool, with_pool_mode, without_pool, with_type_defined}
use Rattle.pud_defs.specs.StateMachine.Imports.{types_missing, with_types_defined, with_imported_pool, with_pool_of}
use Rattle.pud_defs.specs.StateMachine.Grammar.{command_of}
use Rattle.pud_defs.specs.StateMachine.Step.{owner_acting, contents_named, refusal_of, after, unless_refused, world_by}
use Rattle.pud_defs.specs.StateMachine.Gives.{Shelf, GivesShelf, GivesUnless, GivesShelfBy, Gives}
use Rattle.pud_defs.specs.StateMachine.Changing.{Part, part_of, with_part, file_of, file_in, KeepsFiles, KeepsUnwritable}
use Rattle.pud_defs.proofs.RegistryTables.TypeLists.{is_sorted-with_type}
use Rattle.pud_defs.specs.StateMachine.Changing.Part.{types, pools, tables, clients, transactions, nothing}

-- ---- a pool from a file

-- defining types changes only the types, and how pools are read
types_defined-part : (missing : List (ℕ × ℕ)) (s : StoredWorld) → with_types_defined missing s ≡ record s { types = (with_types_defined missing s).types; pools = (with_types_defined missing s).pools }
unfolding with_types_defined with_type_defined
types_defined-part [] s = refl
types_defined-part (t ∷ missing) s = types_defined-part missing (with_type_defined t.0 t.1 s)

part_with_pool_of : (contents : Option FileContents) (name : List ℕ) (owner : Owner) (mode : ℕ) (w : World)
    → record w { stored = with_pool_of contents name owner mode w.stored } ≡ with_part tables (record w { stored = with_pool_of contents name owner mode w.stored }) w
unfolding with_imported_pool
part_with_pool_of None name owner mode w = refl
part_with_pool_of (Some file) name owner mode w =
    let missing = types_missing w.stored.types file.types in
    let given = with_imported_pool name owner mode file w.stored in
    ap (λ (typed : StoredWorld). record w { stored = record typed { next_number = given.next_number; pools = given.pools } }) (types_defined-part missing w.stored)

-- types stay in ascending order if those of a file are defined, one after the other
is_sorted-types_defined : (missing : List (ℕ × ℕ)) (s : StoredWorld) → T (is_sorted nat_cmp s.types) → T (is_sorted nat_cmp (with_types_defined missing s).types)
unfolding with_types_defined with_type_defined
is_sorted-types_defined [] s h = h
is_sorted-types_defined (t ∷ missing) s h = is_sorted-types_defined missing (with_type_defined t.0 t.1 s) (is_sorted-with_type t.0 t.1 s.types h)

is_sorted-with_pool_of : (contents : Option FileContents) (name : List ℕ) (owner : Owner) (mode : ℕ) (s : StoredWorld) → T (is_sorted nat_cmp s.types) → T (is_sorted nat_cmp (with_pool_of contents name owner mode s).types)
unfolding with_imported_pool
is_sorted-with_pool_of None name owner mode s h = h
is_sorted-with_pool_of (Some file) name owner mode s h = is_sorted-types_defined (types_missing s.types file.types) s h

-- ---- all commands

-- a command changes only its part
pub after-part : (w : World) (c : Command) → after w c ≡ with_part (part_of c) (after w c) w
unfolding after with_new_pool with_pool_mode without_pool with_type_defined
after-part w (Client client uid gid) = refl
after-part w (Leave client) = refl
after-part w (Define id map) = refl
after-part w (commands.Pool client name mode) = refl
after-part w (Chmod client name mode) = refl
after-part w (commands.Drop client name) = refl
after-part w (Get client name s f) = refl
after-part w (Begin client name) = refl
after-part w (Commit client name) = refl
after-part w (Abort client name) = refl
after-part w (New client name t) = refl
after-part w (Set client name s f x) = refl
after-part w (Later client name s f x) = refl
after-part w (Root client name s) = refl
after-part w (Free client name s) = refl
after-part w (Dump client name) = refl
after-part w (Export client name file) = refl
after-part w (Import client name file mode) = part_with_pool_of (contents_named w (Import client name file mode)) name (owner_acting w.clients client) mode w
after-part w (Rewrite name n) = refl
after-part w Pools = refl
after-part w (Cut pick) = refl
after-part w (Arm step pick) = refl

-- types stay in ascending order of their ids
pub is_sorted-after : (w : World) (c : Command) → T (is_sorted nat_cmp w.stored.types) → T (is_sorted nat_cmp (after w c).stored.types)
unfolding after with_new_pool with_pool_mode without_pool with_type_defined
is_sorted-after w (Define id map) h = is_sorted-with_type id map w.stored.types h
is_sorted-after w (Import client name file mode) h = is_sorted-with_pool_of (contents_named w (Import client name file mode)) name (owner_acting w.clients client) mode w.stored h
is_sorted-after w c h = h

-- ---- the shelf

-- no part includes the shelf
shelf_of_part : (p : Part) (v w : World) → (with_part p v w).shelf ≡ w.shelf
shelf_of_part types v w = refl
shelf_of_part pools v w = refl
shelf_of_part tables v w = refl
shelf_of_part clients v w = refl
shelf_of_part transactions v w = refl
shelf_of_part nothing v w = refl

shelf_after : (w : World) (c : Command) → (after w c).shelf ≡ w.shelf
shelf_after w c = ap (λ (x : World). x.shelf) (after-part w c) ∙ shelf_of_part (part_of c) (after w c) w

shelf_unless : (r : Option Refusal) (before later : World) → later.shelf ≡ before.shelf → (unless_refused r before later).shelf ≡ before.shelf
shelf_unless None before later same = same
shelf_unless (Some r) before later same = refl

-- what a command gives, apart from files that it writes, has the old shelf
pub shelf_by : (w : World) (c : Option Command) → (world_by w c).shelf ≡ w.shelf
shelf_by w None = refl
shelf_by w (Some c) = shelf_unless (refusal_of w c) w (after w c) (shelf_after w c)

-- a command that writes no file gives the old shelf, and no other
leaves_shelf : (w : World) (c : Command) → file_of c ≡ None → GivesShelf w c w.shelf
leaves_shelf w (Export client name file) none = absurd (cc)
leaves_shelf w c none = refl

leaves_unless : (r : Option Refusal) (w : World) (c : Command) → file_of c ≡ None → GivesUnless r w c w.shelf
leaves_unless None w c none = leaves_shelf w c none
leaves_unless (Some r) w c none = refl

leaves_shelf_by : (w : World) (c : Option Command) → file_in c ≡ None → GivesShelfBy w c w.shelf
leaves_shelf_by w None none = refl
leaves_shelf_by w (Some c) none = leaves_unless (refusal_of w c) w c none

-- so it gives the world that `world_by` gives
pub Gives-plain : (w : World) (c : Option Command) → file_in c ≡ None → Gives w c (world_by w c)
Gives-plain w c none = record { shelf = subst (λ (s : Shelf). GivesShelfBy w c s) (sym (shelf_by w c)) (leaves_shelf_by w c none); rest = refl }

given_shelf : (w : World) (c : Command) (shelf : Shelf) → file_of c ≡ None → GivesShelf w c shelf → shelf ≡ w.shelf
given_shelf w (Export client name file) shelf none given = absurd (cc)
given_shelf w c shelf none given = given

given_unless : (r : Option Refusal) (w : World) (c : Command) (shelf : Shelf) → file_of c ≡ None → GivesUnless r w c shelf → shelf ≡ w.shelf
given_unless None w c shelf none given = given_shelf w c shelf none given
given_unless (Some r) w c shelf none given = given

given_by : (w : World) (c : Option Command) (shelf : Shelf) → file_in c ≡ None → GivesShelfBy w c shelf → shelf ≡ w.shelf
given_by w None shelf none given = given
given_by w (Some c) shelf none given = given_unless (refusal_of w c) w c shelf none given

pub shelf_of_gives : (w : World) (c : Option Command) (next : World) → file_in c ≡ None → Gives w c next → next.shelf ≡ w.shelf
shelf_of_gives w c next none gives = given_by w c next.shelf none gives.shelf

-- and it gives only that world
pub Gives-plain_is : (w : World) (c : Option Command) (next : World) → file_in c ≡ None → Gives w c next → next ≡ world_by w c
Gives-plain_is w c next none gives = gives.rest ∙ ap (λ (s : Shelf). record (world_by w c) { shelf = s }) (shelf_of_gives w c next none gives ∙ sym (shelf_by w c))

pub KeepsFiles-still : (file : Option (List ℕ)) (old new : List ℕ → Option (List ℕ)) → new ≡ old → KeepsFiles file old new
KeepsFiles-still file old new same = record { others = λ name other. ap (λ (s : List ℕ → Option (List ℕ)). s name) same }

-- if no file is named, the shelf does not change
pub KeepsFiles-none : (file : Option (List ℕ)) (old new : List ℕ → Option (List ℕ)) → file ≡ None → KeepsFiles file old new → new ≡ old
KeepsFiles-none file old new none k = λ i name. k.others name (λ named. absurd (cc)) i

pub KeepsFiles-then : (file : Option (List ℕ)) (a b c : List ℕ → Option (List ℕ)) → KeepsFiles file a b → KeepsFiles file b c → KeepsFiles file a c
KeepsFiles-then file a b c p q = record { others = λ name other. q.others name other ∙ p.others name other }

pub KeepsUnwritable-still : (old new : List ℕ → Option (List ℕ)) → new ≡ old → KeepsUnwritable old new
KeepsUnwritable-still old new same = record { others = λ name other. ap (λ (s : List ℕ → Option (List ℕ)). s name) same }

pub KeepsUnwritable-then : (a b c : List ℕ → Option (List ℕ)) → KeepsUnwritable a b → KeepsUnwritable b c → KeepsUnwritable a c
KeepsUnwritable-then a b c p q = record { others = λ name other. q.others name other ∙ p.others name other }

-- a line writes only its own file
pub KeepsUnwritable-line : (line : List ℕ) (old new : List ℕ → Option (List ℕ)) → KeepsFiles (file_in (command_of line)) old new → KeepsUnwritable old new
KeepsUnwritable-line line old new k = record { others = λ name other. k.others name (λ named. other (record { line = line; names = named })) }
