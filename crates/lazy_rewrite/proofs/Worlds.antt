-- While steps are written, images stand for the same world.
use Rattle.std.proofs.Common.{◌≡◌, inr, ℕ, ◌+◌, ◌<◌, ◌≤◌, true, List, [], ◌∷◌, map, Option, Some, None, refl, sym, ap, ap₂, ◌∙◌, subst, ⊎_elim, arith, ne_eqb}
use Rattle.std.specs.Prelude.{slice_get}
use Rattle.std.specs.List.{AllByRecursion}
use Rattle.std.proofs.lemmas.Bool.{cases_eq, cond-false}
use Rattle.std.proofs.lemmas.Option.{same_Some}
use Rattle.pm_model.specs.declared.host.HostFault.{HostFault}
use Rattle.pm_model.specs.Words.{Words, reads, Picks, HasOnly}
use Rattle.pm_model.specs.Moments.{State}
use Rattle.pm_model.specs.Changes.{Silently}
use Rattle.pm_model.proofs.Leaves.{Leaves-weaker}
use Rattle.pud_defs.specs.declared.layout.TheConstants.{DAEMON_LOG, NEXT_NUMBER_WORD, TYPE_TABLE, PUDDLE_TABLE, FRAME_WORDS}
use Rattle.pud_defs.specs.declared.records.TheConstants.{POOL_RECORDS}
use Rattle.pud_defs.specs.declared.records.PoolRecord.{PoolRecord}
use Rattle.pud_defs.specs.declared.records.Puddle.{Puddle}
use Rattle.pud_defs.specs.Formats.Geometry.{is_legal_frontier}
use Rattle.pud_defs.specs.Formats.Image.{Image}
use Rattle.pud_defs.specs.Formats.Layout.{tables_end, frames_at}
use Rattle.pud_defs.specs.Formats.Frames.{frame_at, frame_word}
use Rattle.pud_defs.specs.Logging.Replay.{overwritten, settled_by}
use Rattle.pud_defs.specs.RegistryTables.Puddles.{Member, moved_to}
use Rattle.pud_defs.specs.RegistryTables.Puts.{with_frontier_at, moved_in}
use Rattle.pud_defs.specs.RegistryTables.Types.{types_of}
use Rattle.pud_defs.specs.RegistryTables.Tables.{Tables, tables_of, puddles_of, puddles_in_turn, listed, pools_of}
use Rattle.pud_defs.specs.PoolGraphs.Holdings.{held_as, held_by, holding_in}
use Rattle.pud_defs.specs.RegistryTables.SoundTables.{are_sound_tables, HasSoundTables}
use Rattle.pud_defs.specs.PoolGraphs.Stored.{stored_in}
use Rattle.pud_defs.specs.PoolGraphs.Graph.{Graph, graph_of}
use Rattle.pud_defs.specs.StateMachine.World.{StoredWorld, pools_in, idle_registry, idle_world_of}
use Rattle.pud_defs.proofs.RegistryTables.SoundChanged.{sound_from, sound_test}
use Rattle.pud_defs.proofs.PoolGraphs.Holdings.{IsFrameOf, HasSameFrame, frames_listed, stored_in-same}
use Rattle.pud_defs.proofs.KeyedTables.KeyedEach.{each-weaker}
use Rattle.pud_defs.proofs.RegistryTables.PuddlesListed.{puddles_in_turn-listed}
use Rattle.pud_defs.proofs.RegistryTables.PoolMembers.{IsMemberOf}
use Rattle.pud_defs.proofs.RegistryTables.FrontiersMoved.{map-moved_there, pools_of-moved, sound_moved}
use Rattle.pud_defs.proofs.Logging.Replay.{overwritten-stays}
use Rattle.pud_defs.proofs.StateMachine.Parts.{StandsFor, standing_with_pools}
use Rattle.pud_defs.proofs.StateMachine.Parts.Part.{Header, Types, Pools}
use Rattle.pud_defs.proofs.StateMachine.IdleWorlds.{standing_of_idle_world, idle_registry_standing}
use Rattle.graph_laws.specs.Steps.{with_steps}
use Rattle.graph_laws.proofs.SameReads.StoredImages as stored_images
use Rattle.batch.specs.Worlds.{IsBetween, Moves}
use Rattle.batch.proofs.Worlds.{Moves-commits, stands_still}
use Rattle.lazy_rewrite.specs.Batches.{AreNextSteps, CommitsSteps}
use Rattle.lazy_rewrite.specs.Graphs.{IsRewritableIn, KeepsWorld}
use Rattle.lazy_rewrite.proofs.Turns.{ComesFrom}
use Rattle.lazy_rewrite.proofs.Stepped.{write, unwritten, unwritten_frame, member_of_pool, distinct_frames, frame_of_pool, types_before, turn_before, tables_after, graph_after}
use Rattle.lazy_rewrite.proofs.Kept.{settled_single, single_after, rewritable_after, tables_stepped}

-- If none of the puddles is in the frame, they do not change.
moved_apart : (frame m : ℕ) (at : List (ℕ × Puddle)) → AllByRecursion (λ d. d.0 ≡ frame → ⊥) at → map (moved_in frame m) at ≡ at
moved_apart frame m [] apart = refl
moved_apart frame m (d ∷ at) apart = ap₂ (λ (x : ℕ × Puddle) (xs : List (ℕ × Puddle)). x ∷ xs) (cond-false _ _ _ (ne_eqb d.0 frame apart.0)) (moved_apart frame m at apart.1)

module _ (size : ℕ) (s : StoredWorld) (slot : ℕ) (at : List (ℕ × Puddle)) (goal : ℕ → ℕ) (g : Graph) (o m : ℕ) (e : ℕ × Puddle) (words : Words) (next : AreNextSteps at goal o m e) (r : IsRewritableIn size s slot at g words) (legal : is_legal_frontier (moved_to m e.1) ≡ true) where
  abbrev F : ℕ
  F = s.frames

  abbrev read : Image
  read = reads words

  abbrev steps : ℕ → Option ℕ
  steps = write F slot at goal o m e read next r.pool.turn

  -- ---- an image, with the steps written to it

  module _ (image : Image) (picked : Picks words image) where
    abbrev i : Image
    i = settled_by DAEMON_LOG image

    abbrev j : Image
    j = overwritten steps i

    abbrev t : Tables
    t = tables_of F i

    stands : StandsFor size i s
    stands = standing_of_idle_world size image s (r.settled.stands image picked)

    tables_read : (k : ℕ) → TYPE_TABLE ≤ k → k < tables_end F → i k ≡ read k
    tables_read k low high = settled_single F words r.pool.idle image picked k (inr low) (r.pool.tables.each k (inr low) high)

    frames_read : (n : ℕ) (d : ℕ × Puddle) → slice_get at n ≡ Some d → (k : ℕ) → k < FRAME_WORDS → frame_word F d.0 k i ≡ frame_word F d.0 k read
    frames_read n d there k low = settled_single F words r.pool.idle image picked (frame_at F d.0 + k) (inr (omega arith)) (r.whole n d there k low)

    frame_read : (k : ℕ) → k < FRAME_WORDS → frame_word F e.0 k i ≡ frame_word F e.0 k read
    frame_read k low = frames_read o e next.here k low

    turn_now : puddles_in_turn t slot ≡ at
    turn_now = turn_before F slot at goal o m e read next r.pool.turn i tables_read frame_read

    types_now : types_of read ≡ s.types
    types_now = sym (types_before F slot at goal o m e read next r.pool.turn i tables_read frame_read) ∙ (stands.holds Types).types

    graph_now : graph_of (types_of read) (stored_in F at i) ≡ Some g
    graph_now = ap (graph_of (types_of read)) (stored_images.stored_in-same F at read i (record { each = λ n k d there low. frames_read n d there k low })) ∙ r.pool.graph

    -- The member whose frontier moves.
    member : IsMemberOf t slot o e
    member = member_of_pool F slot at i turn_now o e next.here

    below : e.0 < F
    below = frame_of_pool F slot at i turn_now o e next.here

    sound : HasSoundTables s.next_number t
    sound = sound_from s.next_number t (stands.holds Pools).sound

    -- ---- what each pool stores

    holds_there : (rec : PoolRecord) → slot < POOL_RECORDS → t.pools slot ≡ Some rec → holding_in s.types F j (map (moved_in e.0 m) (listed (puddles_of t slot))) ≡ holding_in s.types F i (listed (puddles_of t slot))
    holds_there rec low used =
        let all : listed (puddles_of t slot) ≡ at = sym (puddles_in_turn-listed s.next_number t slot rec sound low used) ∙ turn_now in
        let distinct = distinct_frames F slot at i turn_now in
        let moved : map (moved_in e.0 m) (listed (puddles_of t slot)) ≡ with_steps o m e at =
        ap (map (moved_in e.0 m)) all ∙ map-moved_there m at o e next.here (λ k d there same. distinct.each k o d e there next.here same) in
        let after : graph_of s.types (stored_in F (with_steps o m e at) j) ≡ Some g =
        ap (λ types. graph_of types (stored_in F (with_steps o m e at) j)) (sym types_now)
        ∙ graph_after F slot at goal o m e read next r.pool.turn i tables_read frame_read r.pool.bases g r.pool.graph graph_now in
        let before : graph_of s.types (stored_in F at i) ≡ Some g = ap (λ types. graph_of types (stored_in F at i)) (sym types_now) ∙ graph_now in
        ap (holding_in s.types F j) moved
        ∙ ap (held_as (stored_in F (with_steps o m e at) j)) after
        ∙ sym (ap (holding_in s.types F i) all ∙ ap (held_as (stored_in F at i)) before)

    other_frame : (other : ℕ) → (other ≡ slot → ⊥) → (d : ℕ × Puddle) → IsFrameOf t other d.0 → d.0 ≡ e.0 → ⊥
    other_frame other apart d of same =
        let one : of.member ≡ member.member = same_Some of.member member.member (sym of.used ∙ ap t.puddles same ∙ member.used) in
        apart (omega (arith, of.of, member.pool, ap (λ (x : Member). x.pool) one))

    holds_elsewhere : (other : ℕ) → (other ≡ slot → ⊥) → holding_in s.types F j (map (moved_in e.0 m) (listed (puddles_of t other))) ≡ holding_in s.types F i (listed (puddles_of t other))
    holds_elsewhere other apart =
        let frames = frames_listed t other in
        ap (holding_in s.types F j) (moved_apart e.0 m (listed (puddles_of t other)) (each-weaker (λ d. IsFrameOf t other d.0) (λ d. d.0 ≡ e.0 → ⊥) (listed (puddles_of t other)) (λ d of. other_frame other apart d of) frames))
        ∙ ap (held_by s.types)
        (stored_in-same F i j (listed (puddles_of t other)) (each-weaker (λ d. IsFrameOf t other d.0) (λ d. HasSameFrame F i j d.0) (listed (puddles_of t other))
        (λ d of. record { each = λ k low. overwritten-stays steps i (frame_at F d.0 + k) (unwritten_frame F slot at goal o m e read next r.pool.turn d.0 k low (other_frame other apart d of)) }) frames))

    pools_now : pools_in s.types F j ≡ s.pools
    pools_now =
        ap (pools_of (holding_in s.types F j)) (tables_after F slot at goal o m e read next r.pool.turn i tables_read frame_read)
        ∙ pools_of-moved t e.0 m (holding_in s.types F i) (holding_in s.types F j)
        (λ other rec low used. ⊎_elim
        (λ same. ap (λ k. holding_in s.types F j (map (moved_in e.0 m) (listed (puddles_of t k)))) same ∙ holds_there rec (subst (λ k. k < POOL_RECORDS) same low) (ap t.pools (sym same) ∙ used) ∙ ap (λ k. holding_in s.types F i (listed (puddles_of t k))) (sym same))
        (λ apart. holds_elsewhere other apart)
        (cases_eq other slot))
        ∙ (stands.holds Pools).pools

    sound_now : are_sound_tables s.next_number (tables_of F j) ≡ true
    sound_now =
        ap (are_sound_tables s.next_number) (tables_after F slot at goal o m e read next r.pool.turn i tables_read frame_read)
        ∙ sound_test s.next_number (with_frontier_at e.0 m t)
        (sound_moved t e.0 m s.next_number member.member sound member.used (ap (λ (d : Puddle). is_legal_frontier (moved_to m d)) member.puddle ∙ legal))

    stays : (k : ℕ) → k < frames_at F → (PUDDLE_TABLE ≤ k → k < tables_end F → ⊥) → j k ≡ i k
    stays k before out = overwritten-stays steps i k (unwritten F slot at goal o m e read next r.pool.turn k before (λ here. out (omega (arith, here)) (omega (arith, here, below))))

    pub steps_stand : idle_registry size j ≡ Some s
    steps_stand =
        let header = stands.holds Header in
        idle_registry_standing size j s
        (standing_with_pools size i j s s.next_number s.pools stands (λ k before number pool puddle. stays k before puddle)
        (stays NEXT_NUMBER_WORD (omega arith) (λ low high. omega arith) ∙ header.next_number) header.number_low header.number_high (record { pools = pools_now; sound = sound_now }))

-- ---- one batch

module _ (size : ℕ) (s : StoredWorld) (slot : ℕ) (at : List (ℕ × Puddle)) (goal : ℕ → ℕ) (g : Graph) (o m : ℕ) (e : ℕ × Puddle) (fault : Option HostFault) (old new : State) (next : AreNextSteps at goal o m e)
    (c : CommitsSteps s.frames at o m e fault old new) (r : IsRewritableIn size s slot at g old.now.words) (legal : is_legal_frontier (moved_to m e.1) ≡ true) where
  batch_moves : Moves size s s c.es fault old new
  batch_moves = Moves-commits size s s c.es old c.batched r.settled (record {
    allowed = c.allowed;
    stands = λ image picked.
        ap (λ (w : ℕ → Option ℕ). idle_registry size (overwritten w (settled_by DAEMON_LOG image))) c.write ∙ steps_stand size s slot at goal g o m e old.now.words next r legal image picked;
  }) fault new c.commits

  pub batch_keeps_world : KeepsWorld size s fault old new
  batch_keeps_world = record {
    moments = Leaves-weaker (Silently (IsBetween size s s c.es old.now.words)) (Silently (λ image. idle_world_of size image ≡ Some s)) old new (λ bytes image p. (p.0, stands_still size s c.es old.now.words image p.1)) batch_moves.moments;
    settled = batch_moves.settled;
  }

pub rewritable_in_after : (size : ℕ) (s : StoredWorld) (slot : ℕ) (at : List (ℕ × Puddle)) (goal : ℕ → ℕ) (g : Graph) (o m : ℕ) (e : ℕ × Puddle) (old new : State) (next : AreNextSteps at goal o m e)
    → CommitsSteps s.frames at o m e None old new → IsRewritableIn size s slot at g old.now.words → is_legal_frontier (moved_to m e.1) ≡ true → ComesFrom at (with_steps o m e at) → IsRewritableIn size s slot (with_steps o m e at) g new.now.words
rewritable_in_after size s slot at goal g o m e old new next c r legal comes = record {
  settled = (batch_keeps_world size s slot at goal g o m e None old new next c r legal).settled refl;
  pool = rewritable_after s.frames at goal o m e old new next c slot g r.pool;
  rec = r.rec;
  below = r.below;
  used = ap (λ (u : Tables). u.pools slot) (tables_stepped s.frames at goal o m e old new next c slot g r.pool) ∙ r.used;
  whole = λ n d there k low.
      let from = comes.each n d there in
      let was = r.whole n from.puddle from.here k low in
      single_after s.frames at goal o m e old new next c (frame_at s.frames d.0 + k) (inr (omega arith))
      (subst (λ (frame : ℕ). HasOnly (old.now.words (frame_at s.frames frame + k)) (old.now.words (frame_at s.frames frame + k)).newest) from.frame was);
}
