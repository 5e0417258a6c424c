-- A file of one type is imported while another type is defined too: the pool then contains what the file contains.
use Rattle.std.proofs.Common.{◌≡◌, ℕ, cond, List, [], ◌∷◌, codes, bytes_eq, Some, None, refl}
use Rattle.pud_defs.specs.declared.machine.Command.{Command}
use Rattle.pud_defs.specs.declared.machine.Command.TheVariants.{Import}
use Rattle.pud_defs.specs.RegistryTables.Spaces.{owner}
use Rattle.pud_defs.specs.StateMachine.World.{World, nothing_open, blank_world}
use Rattle.pud_defs.specs.StateMachine.PoolChanges.{pool_named}
use Rattle.pud_defs.specs.StateMachine.Step.{contents_named, refusal_of, after}
use Rattle.pud_defs.specs.StateMachine.Gives.{contents_of_pool}
use Rattle.pud_defs.proofs.Examples.Opened.{opened}
use Rattle.pud_defs.proofs.Examples.Transactions.{name_of}
use Rattle.pud_defs.proofs.Examples.Files.{contents, bytes}
use Rattle.pud_import.specs.Rewrites.{after_rewrites}

-- types 1 and 9 are defined; the file `x` has the first of them
abbrev types : List (ℕ × ℕ)
types = (1, 8589934594) ∷ (9, 4294967296) ∷ []

abbrev beside_another : World
beside_another = record { stored = record (blank_world 4 7) { types = types }; clients = λ _. Some (owner 5 5); shelf = λ name. cond (bytes_eq name (codes "x")) (Some bytes) None; transactions = nothing_open }

abbrev asked : Command
asked = Import 0 (name_of 98) (name_of 120) 384

abbrev rewritten : World
rewritten = after_rewrites (name_of 98) (3 ∷ 60 ∷ []) (after beside_another asked)

taken : (refusal_of beside_another asked ≡ None) × (contents_named beside_another asked ≡ Some contents)
unfolding opened
taken = (refl, refl)

-- type 9 stays defined, and is none of the pool's types
without_the_other : (rewritten.stored.types ≡ types) × (contents_of_pool rewritten.stored.types (pool_named (name_of 98) rewritten.stored) ≡ Some contents)
unfolding opened
without_the_other = (refl, refl)
