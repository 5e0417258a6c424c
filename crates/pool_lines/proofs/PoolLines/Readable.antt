-- Lines that read a pool: the graph of its puddles, and what is replied.
use Rattle.std.proofs.Common.{◌≡◌, ℕ, true, true≢false, cond, List, [], Option, Some, None, is_none, is_some, refl, sym, ap, subst, ◌∙◌}
use Rattle.std.specs.Prelude.{unwrap_or}
use Rattle.std.specs.Option.{option_or}
use Rattle.pm_model.specs.declared.host.HostFault.{HostFault}
use Rattle.pm_model.specs.declared.host.HostFault.TheVariants.{Cut}
use Rattle.pm_model.specs.Words.{reads}
use Rattle.pm_model.specs.Moments.{State}
use Rattle.pud_defs.specs.declared.records.Puddle.{Puddle}
use Rattle.pud_defs.specs.declared.objects.FieldValue.{FieldValue}
use Rattle.pud_defs.specs.declared.objects.FieldValue.TheVariants.{Num, Ref}
use Rattle.pud_defs.specs.declared.machine.Command.{Command}
use Rattle.pud_defs.specs.declared.machine.Command.TheVariants.{Get}
use Rattle.pud_defs.specs.declared.machine.Refusal.{Refusal}
use Rattle.pud_defs.specs.declared.machine.Refusal.TheVariants as refusals
use Rattle.pud_defs.specs.Formats.Image.{Image}
use Rattle.pud_defs.specs.RegistryTables.Types.{types_of}
use Rattle.pud_defs.specs.PoolGraphs.Stored.{stored_in}
use Rattle.pud_defs.specs.PoolGraphs.Graph.{Graph, Object, graph_of, object_in}
use Rattle.pud_defs.specs.StateMachine.PoolChanges.{pool_named}
use Rattle.pud_defs.specs.StateMachine.World.{Transaction, World, open_on}
use Rattle.pud_defs.specs.StateMachine.Step.{graph_seen, object_of, field_of, value_or_ok, text_or, refusal_of, after, answer, answer_by, answer_unless, unless_refused, world_by}
use Rattle.pud_defs.specs.StateMachine.Step.Answer.{of_reply}
use Rattle.graph_read.specs.declared.fields.FieldRead.{FieldRead}
use Rattle.graph_read.specs.Reading.{read_value, read_by}
use Rattle.daemon_memory.specs.Memory.{Memory}
use Rattle.daemon_memory.specs.OwnOnPool.{IsOwnTransactionOn}
use Rattle.daemon_memory.specs.PoolKnowledge.{known_puddles_in}
use Rattle.daemon_memory.specs.Ready.{IsReady, Applies}
use Rattle.daemon_memory.proofs.Commands.Applying.{Applies-still}
use Rattle.daemon_memory.proofs.PoolChanges.InTurn.{active_there_known}
use Rattle.daemon_memory.proofs.OpenTransactions.OpenBeside.{open_here}
use Rattle.daemon_memory.proofs.PoolChanges.TablesBeside.{types_read}
use Rattle.daemon_memory.specs.declared.finding.Need.TheVariants as needs
use Rattle.daemon_memory.specs.declared.finding.FoundPool.{FoundPool}
use Rattle.daemon_memory.specs.Finding.{refusal_to, IsFound, SeesGraph}
use Rattle.pool_lines.specs.Reading.{reply_of_read}
use Rattle.daemon_memory.proofs.PoolsFound.Found.{holds_graph}
use Rattle.daemon_memory.proofs.PoolsFound.Needs.{refusal_of-get as refusal_by_need}

-- ---- the puddles of the found pool

module _ (size : ℕ) (w : World) (memory : Memory) (s : State) (ready : IsReady size w memory s) (client : ℕ) (name : List ℕ) where
  -- The client's own transaction has the graph that is read from the known puddles.
  holds_own : (slot number : ℕ) (at : List (ℕ × Puddle)) → at ≡ unwrap_or (known_puddles_in memory.known_pools slot) [] → IsOwnTransactionOn client name slot number memory.active → SeesGraph w w.stored.frames name (reads s.now.words) at
  holds_own slot number at is own =
      let mine = own.own.active in
      let here = open_here w memory.active ready.mask s.now.words name client number ready.active own.own in
      let known = sym (ap (known_puddles_in memory.known_pools) own.slot_is) ∙ active_there_known size w memory s ready number mine own.own.is in
      let has = is ∙ ap (λ (o : Option (List (ℕ × Puddle))). unwrap_or o []) known in
      record {
        graph = here.transaction.now;
        stored = (λ p. graph_of ((types_read size w memory s ready).types p) (stored_in w.stored.frames (has p) (reads s.now.words))) ∙ here.now;
        is = ap (λ (o : Option Transaction). graph_seen o (pool_named name w.stored)) here.is;
      }

  -- The known puddles have the graph of the pool.
  pub holds_found : (found : FoundPool) (at : List (ℕ × Puddle)) → IsFound w needs.Read client name (reads s.now.words) memory found → at ≡ unwrap_or (known_puddles_in memory.known_pools found.slot) []
      → SeesGraph w w.stored.frames name (reads s.now.words) at
  holds_found found at is known = by_own found.own refl
    where
      by_own : (o : Option ℕ) → found.own ≡ o → SeesGraph w w.stored.frames name (reads s.now.words) at
      by_own (Some number) own = holds_own found.slot number at known (is.own number own)
      by_own None shut = subst (SeesGraph w w.stored.frames name (reads s.now.words)) (sym known) (holds_graph size w memory s ready client name found.slot is.rec is.is (is.none shut) _ (is.known refl))

-- ---- what is known about pools

-- If a pool is known to have a graph, its puddles are known.
pub some_known : (o : Option (List (ℕ × Puddle))) → true ≡ is_some o → o ≡ Some (unwrap_or o [])
some_known None none = absurd (true≢false none)
some_known (Some at) is = refl

-- ---- what is replied

-- Why the line is refused on a pool that it may read, by the object and its field.
abbrev lacking : Option Object → Option FieldValue → Option Refusal
lacking object field = cond (is_none object) (Some refusals.Object) (cond (is_none field) (Some refusals.Field) None)

module _ (w : World) (client : ℕ) (name : List ℕ) (serial f : ℕ) where
  abbrev c : Command
  c = Get client name serial f

  abbrev object : Option Object
  object = object_of serial (graph_seen (open_on name w) (pool_named name w.stored))

  refusal_of-get : refusal_of w c ≡ option_or (refusal_to w needs.Read client name) (lacking object (field_of f object))
  refusal_of-get = refusal_by_need w client name serial f

  answer_of-get : answer w c ≡ text_or (value_or_ok (field_of f object)) None
  unfolding answer
  answer_of-get = refl

  -- If the need is not met, the line is refused.
  pub get_refused : (r : Refusal) → refusal_to w needs.Read client name ≡ Some r → refusal_of w c ≡ Some r
  get_refused r is = refusal_of-get ∙ ap (λ (o : Option Refusal). option_or o (lacking object (field_of f object))) is

  -- If the field is read, this is replied, by the object and its field.
  reply_by : (o : Option Object) (v : Option FieldValue) (read : FieldRead) → object ≡ o → field_of f object ≡ v → read ≡ read_by o f → field_of f o ≡ v → refusal_to w needs.Read client name ≡ None
      → of_reply (reply_of_read read) ≡ answer_by w (Some c)
  unfolding answer
  reply_by None v read is there e same free =
      ap (λ (x : FieldRead). of_reply (reply_of_read x)) e
      ∙ sym (ap (λ (r : Option Refusal). answer_unless r (answer w c)) (refusal_of-get ∙ (λ p. option_or (free p) (lacking (is p) (there p)))))
  reply_by (Some o) None read is there e same free =
      ap (λ (x : FieldRead). of_reply (reply_of_read x)) (e ∙ ap read_value same)
      ∙ sym (ap (λ (r : Option Refusal). answer_unless r (answer w c)) (refusal_of-get ∙ (λ p. option_or (free p) (lacking (is p) (there p)))))
  reply_by (Some o) (Some (Num n)) read is there e same free =
      ap (λ (x : FieldRead). of_reply (reply_of_read x)) (e ∙ ap read_value same)
      ∙ sym (ap (answer_unless (refusal_of w c)) answer_of-get ∙ (λ p. answer_unless ((refusal_of-get ∙ (λ q. option_or (free q) (lacking (is q) (there q)))) p) (text_or (value_or_ok (there p)) None)))
  reply_by (Some o) (Some (Ref r)) read is there e same free =
      ap (λ (x : FieldRead). of_reply (reply_of_read x)) (e ∙ ap read_value same)
      ∙ sym (ap (answer_unless (refusal_of w c)) answer_of-get ∙ (λ p. answer_unless ((refusal_of-get ∙ (λ q. option_or (free q) (lacking (is q) (there q)))) p) (text_or (value_or_ok (there p)) None)))

  pub reply_read : (g : Graph) (read : FieldRead) → graph_seen (open_on name w) (pool_named name w.stored) ≡ Some g → read ≡ read_by (object_in serial g) f → refusal_to w needs.Read client name ≡ None
      → of_reply (reply_of_read read) ≡ answer_by w (Some c)
  reply_read g read is e free =
      let there : object ≡ object_in serial g = ap (object_of serial) is in
      reply_by (object_in serial g) (field_of f (object_in serial g)) read there (ap (field_of f) there) e refl free

  -- This is replied if the field was read over the puddles that have the graph.
  pub reply_when_read : (F : ℕ) (image : Image) (puddles slice : List (ℕ × Puddle)) (read : FieldRead) → SeesGraph w F name image puddles → slice ≡ puddles
      → ((graph : Graph) → graph_of (types_of image) (stored_in F slice image) ≡ Some graph → read ≡ read_by (object_in serial graph) f) → refusal_to w needs.Read client name ≡ None
      → of_reply (reply_of_read read) ≡ answer_by w (Some c)
  reply_when_read F image puddles slice read holds same told free =
      reply_read holds.graph read holds.is (told holds.graph (ap (λ at. graph_of (types_of image) (stored_in F at image)) same ∙ holds.stored)) free

  -- ---- the line

  world_unless : (r : Option Refusal) → unless_refused r w w ≡ w
  world_unless None = refl
  world_unless (Some r) = refl

  -- The line leaves the world as it was.
  pub world_of_get : world_by w (Some c) ≡ w
  unfolding after
  world_of_get = world_unless (refusal_of w c)

  -- Only what is known about pools changes.
  pub Applies-get : (size : ℕ) (memory : Memory) (fault : Option HostFault) (old new : State) → IsReady size w memory old → new ≡ old → (fault ≡ Some Cut → ⊥) → Applies size w (world_by w (Some c)) memory fault old new
  Applies-get size memory fault old new ready same never =
      subst (λ (v : World). Applies size w v memory fault old new) (sym world_of_get) (Applies-still size w memory fault old new ready same (λ cut. absurd (never cut)))
