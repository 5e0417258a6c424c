-- What is read from the tables beside open transactions: it is the same with their words masked.
use Rattle.std.proofs.Common.{◌≡◌, inl, ℕ, ◌<◌, true, List, Option, None, refl, sym, ap, subst, ◌∙◌, arith}
use Rattle.pm_model.specs.Words.{Words, reads}
use Rattle.pm_model.specs.Moments.{State}
use Rattle.pm_model.specs.Changes.{Write}
use Rattle.pm_model.specs.Masks.{masked, masked_image}
use Rattle.pm_model.proofs.Words.{Picks-reads}
use Rattle.pm_model.proofs.Masks.{reads-masked, HasOnly-own_masked}
use Rattle.pud_defs.specs.declared.layout.TheConstants.{DAEMON_LOG, POOL_TABLE, CLIENTS}
use Rattle.pud_defs.specs.Formats.Image.{Image}
use Rattle.pud_defs.specs.Formats.Layout.{tables_end}
use Rattle.pud_defs.specs.RegistryTables.Spaces.{are_legal_spaces, owner_of}
use Rattle.pud_defs.specs.PoolGraphs.Holdings.{holding_in}
use Rattle.pud_defs.specs.RegistryTables.SoundTables.{HasSoundTables}
use Rattle.pud_defs.specs.RegistryTables.Tables.{Tables, tables_of, pools_of}
use Rattle.pud_defs.specs.StateMachine.World.{World, closed}
use Rattle.pud_defs.proofs.StateMachine.IdleWorlds.{standing_beside, standing_idle}
use Rattle.pud_defs.proofs.StateMachine.Parts.{HasHeader, HasTypes, Holds-same, StandsFor}
use Rattle.pud_defs.proofs.StateMachine.Parts.Part.{Header, Types, Spaces}
use Rattle.pud_defs.proofs.RegistryTables.Spaces.{owner_of-same, are_legal_spaces-same}
use Rattle.batch.specs.Tables.{HasDurableTables}
use Rattle.registry.proofs.Moved.{ReadsWorld, reads_world}
use Rattle.daemon_memory.specs.Memory.{ActiveTransaction, Memory}
use Rattle.daemon_memory.specs.ActiveTransactions.{AreActive}
use Rattle.daemon_memory.specs.Ready.{IsReady}
use Rattle.daemon_memory.proofs.Commands.Beside.{unmasked_before}
use Rattle.daemon_memory.proofs.Commands.Beneath.{table_reads, keeps_tables}

-- ---- words that are masked

-- Up to the clients' logs a word is masked with what is read of it, and before the pool table no word is masked.
pub record IsMaskBeside (F : ℕ) (mask : Write) (words : Words) : Type 0 where
  pub same : (k : ℕ) → k < tables_end F → masked_image mask (reads words) k ≡ reads words k
  pub below : (k : ℕ) → k < POOL_TABLE → mask k ≡ None

pub mask_beside : (w : World) (active : List (Option ActiveTransaction)) (mask : Write) (words : Words) → AreActive w active mask words → IsMaskBeside w.stored.frames mask words
mask_beside w active mask words holds = record { same = table_reads w active mask words holds; below = unmasked_before w active mask words holds }

-- Durable tables are durable with these words masked.
pub HasDurableTables-masked : (F : ℕ) (mask : Write) (words : Words) → HasDurableTables F words → HasDurableTables F (masked mask words)
HasDurableTables-masked F mask words tables = record { each = λ k outside below. HasOnly-own_masked mask words k (tables.each k outside below) }

-- ---- a daemon that is ready

module _ (size : ℕ) (w : World) (memory : Memory) (s : State) (ready : IsReady size w memory s) where
  abbrev F : ℕ
  F = w.stored.frames

  abbrev now : Image
  now = reads s.now.words

  -- The device's words, masked.
  abbrev under : Words
  under = masked ready.mask s.now.words

  pub ready_beside : IsMaskBeside F ready.mask s.now.words
  ready_beside = mask_beside w memory.active ready.mask s.now.words ready.active

  -- What is read up to the clients' logs is read as if nothing were open.
  pub read_beside : (k : ℕ) → k < tables_end F → reads under k ≡ now k
  read_beside k below = ap (λ (i : Image). i k) (reads-masked ready.mask s.now.words) ∙ ready_beside.same k below

  pub tables_read : tables_of F (reads under) ≡ tables_of F now
  tables_read = ap (tables_of F) (reads-masked ready.mask s.now.words) ∙ (keeps_tables w memory.active ready.mask s.now.words ready.active).tables

  pub under_durable : HasDurableTables F under
  under_durable = HasDurableTables-masked F ready.mask s.now.words ready.tables

  -- What it reads, masked, stands for the world.
  pub standing : StandsFor size (reads under) (closed w)
  standing =
      standing_beside size (reads under) (closed w)
      (standing_idle size (reads under) (closed w) (ready.settled.idle (reads under DAEMON_LOG) (inl refl)) (ready.settled.stands (reads under) (Picks-reads under)))

  pub world_under : ReadsWorld w.stored (reads under)
  world_under = reads_world size w.stored under ready.settled under_durable

  -- The words that describe the device, and the types, are read as they are.
  pub header_read : HasHeader size F w.stored.machine w.stored.next_number now
  header_read = Holds-same Header size w.stored (reads under) now (λ k of. let high = of.high in sym (read_beside k (omega arith))) (standing.holds Header)

  pub types_read : HasTypes w.stored.types now
  types_read = Holds-same Types size w.stored (reads under) now (λ k of. let high = of.high in sym (read_beside k (omega arith))) (standing.holds Types)

  pub spaces_read : are_legal_spaces now ≡ true
  spaces_read = are_legal_spaces-same now (reads under) (λ k low high. sym (read_beside k (omega arith))) ∙ (standing.holds Spaces).spaces

  pub owner_under : (client : ℕ) → client < CLIENTS → owner_of (reads under) client ≡ owner_of now client
  owner_under client known = owner_of-same (reads under) now client known (λ k low high. read_beside k (omega arith))

  -- The pools, if their frames are read as if nothing were open.
  pub pools_read : pools_of (holding_in w.stored.types F (reads under)) (tables_of F now) ≡ w.stored.pools
  pools_read = ap (pools_of (holding_in w.stored.types F (reads under))) (sym tables_read) ∙ world_under.pools

  pub sound_read : HasSoundTables w.stored.next_number (tables_of F now)
  sound_read = subst (λ (t : Tables). HasSoundTables w.stored.next_number t) tables_read world_under.sound
