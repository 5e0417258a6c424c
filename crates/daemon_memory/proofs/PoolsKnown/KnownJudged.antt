-- Pools that have a graph keep it, and their puddles, if a pool is made, changed or dropped, and if another pool grows.
use Rattle.std.proofs.Common.{◌≡◌, ◌≢◌, ◌⊎◌, inl, inr, ℕ, ◌+◌, ◌^◌, ◌<◌, ◌≤◌, true, false, eqb, cond, List, [], ◌∷◌, Option, Some, None, refl, sym, ap, subst, ◌∙◌, arith, eqb-true, ne_eqb, eq-eqb}
use Rattle.std.specs.Prelude.{slice_get}
use Rattle.std.proofs.lemmas.Bool.{cases_eq, cases_Bool, cond-true, cond-false}
use Rattle.std.proofs.lemmas.Option.{none-some, same_Some}
use Rattle.pm_model.specs.declared.host.HostFault.{HostFault}
use Rattle.pm_model.specs.Words.{reads}
use Rattle.pm_model.specs.Moments.{State}
use Rattle.pm_model.specs.Changes.{Write, written, Persists}
use Rattle.pm_persist.proofs.Ranges.{placed_within}
use Rattle.pud_defs.specs.declared.layout.TheConstants.{DAEMON_LOG, FRAME_WORDS, TYPE_TABLE, POOL_TABLE, PUDDLE_TABLE}
use Rattle.pud_defs.specs.declared.records.TheConstants.{POOL_RECORDS}
use Rattle.pud_defs.specs.declared.records.Puddle.{Puddle}
use Rattle.pud_defs.specs.declared.records.PoolRecord.{PoolRecord}
use Rattle.pud_defs.specs.declared.records.PuddleRecord.{PuddleRecord}
use Rattle.pud_defs.specs.declared.records.Put.{Put}
use Rattle.pud_defs.specs.Formats.Image.{Image}
use Rattle.pud_defs.specs.Formats.Frames.{frame_at, fresh_frame}
use Rattle.pud_defs.specs.RegistryTables.Keyed.{first_free}
use Rattle.pud_defs.specs.Formats.Layout.{tables_end, frames_at}
use Rattle.pud_defs.specs.RegistryTables.Puddles.{Member}
use Rattle.pud_defs.specs.RegistryTables.Puts.{with_put, member_by, changed_at, puddle_put, pool_put, without_pool_at, is_of_pool}
use Rattle.pud_defs.specs.RegistryTables.Types.{types_of}
use Rattle.pud_defs.specs.PoolGraphs.Stored.{stored_in}
use Rattle.pud_defs.specs.PoolGraphs.Graph.{graph_of}
use Rattle.pud_defs.specs.RegistryTables.SoundTables.{HasSoundTables}
use Rattle.pud_defs.specs.RegistryTables.Tables.{Tables, tables_of, member_of, members}
use Rattle.pud_defs.proofs.KeyedTables.Keyed.{first_free_some}
use Rattle.pud_defs.proofs.RegistryTables.PoolsChanged.{changed_here, changed_elsewhere}
use Rattle.pud_defs.proofs.RegistryTables.PoolsCounted.{no_member}
use Rattle.pud_defs.proofs.PoolGraphs.Graphs.{graph_of-each}
use Rattle.pud_defs.proofs.RegistryTables.PoolMembers.{IsMemberOf, members_in_turn}
use Rattle.pud_defs.proofs.RegistryTables.PutsMade.{FitsWords, with_put-outside, puddle_put_made, mode_put_made}
use Rattle.pud_defs.proofs.RegistryTables.TablesOf.{tables_of-same, frames_of_tables}
use Rattle.batch.specs.Batches.{Commits}
use Rattle.batch.proofs.Tables.{reads_kept, reads_committed}
use Rattle.registry.specs.Puts.{puts_batch, number_put, with_puts, AreOfPools, IsPoolsWord}
use Rattle.registry.specs.declared.adding.NewPuddle.{NewPuddle}
use Rattle.registry.specs.Adding.{frame_write, filling, PersistsThenCommits}
use Rattle.registry.specs.Pools.{making, new_record, changing, dropping, OrStill, CommitsPuts, MakesSomewhere}
use Rattle.registry.specs.Growth.{growing}
use Rattle.registry.proofs.PutBatches.{overwritten-puts, with_puts-stays}
use Rattle.registry.proofs.Made.{making_of}
use Rattle.registry.proofs.Changed.{changing_of, dropping_of, drop_tables}
use Rattle.registry.proofs.NewPuddles.{adding_of, frontier_of_new}
use Rattle.hybrid_tx.specs.PoolScopes.{pool_has_word}
use Rattle.hybrid_tx.proofs.PoolScope.{pool_has_word-each}
use Rattle.daemon_memory.proofs.PoolsKnown.KnownKept.{HasGraphIn, KeepsPools, KeepsPools-each, KeepsPools-changes, KeepsGraphs-same, types_same, puddles_same, own_word}
use Rattle.registry.proofs.Filled.{length-fresh_frame}

-- ---- a batch of changes

-- A word of the type table, or one after the tables, is not a word of the pools' records.
not_of_pools : (F k : ℕ) → ((TYPE_TABLE ≤ k) × (k < POOL_TABLE)) ⊎ (tables_end F ≤ k) → IsPoolsWord F k → ⊥
not_of_pools F k (inl types) (inl number) = let low = types.0 in let high = number.high in omega arith
not_of_pools F k (inl types) (inr (inl pool)) = let high = types.1 in let low = pool.low in omega arith
not_of_pools F k (inl types) (inr (inr puddle)) = let high = types.1 in let low = puddle.low in omega arith
not_of_pools F k (inr following) (inl number) = let high = number.high in omega arith
not_of_pools F k (inr following) (inr (inl pool)) = let high = pool.high in omega arith
not_of_pools F k (inr following) (inr (inr puddle)) = let high = puddle.high in omega arith

module _ (F : ℕ) (puts : List Put) (old new : State) (of : AreOfPools F puts) (commits : Commits DAEMON_LOG (puts_batch puts) None old new) where
  abbrev before : Image
  before = reads old.now.words

  abbrev after : Image
  after = reads new.now.words

  puts_read : (k : ℕ) → TYPE_TABLE ≤ k → after k ≡ with_puts puts before k
  puts_read k low =
      reads_committed (puts_batch puts) old new k (inr low) commits.changes (commits.durable refl)
      ∙ ap (λ (i : Image). i k) (overwritten-puts F puts before of)

  others_read : (k : ℕ) → TYPE_TABLE ≤ k → ((TYPE_TABLE ≤ k) × (k < POOL_TABLE)) ⊎ (tables_end F ≤ k) → after k ≡ before k
  others_read k low other = puts_read k low ∙ with_puts-stays F puts before k of (not_of_pools F k other)

  -- The tables that are read are what the changes make of them.
  pub puts_tables : tables_of F after ≡ tables_of F (with_puts puts before)
  puts_tables = tables_of-same F after (with_puts puts before) (λ k low high. puts_read k (omega arith)) (λ k low high. puts_read k (omega arith))

  -- No word of a frame is written.
  pub frames_read : (k : ℕ) → frames_at F ≤ k → after k ≡ before k
  frames_read k above = others_read k (omega arith) (inr (omega arith))

  -- The pools stay whose members are those that they had.
  pub KeepsPools-puts : (but : Option ℕ)
      → ((slot : ℕ) (at : List (ℕ × Puddle)) → but ≢ Some slot → HasGraphIn F slot before at → (frame : ℕ) → frame < F
      → member_of slot frame ((tables_of F (with_puts puts before)).puddles frame) ≡ member_of slot frame ((tables_of F before).puddles frame))
      → KeepsPools F but before after
  KeepsPools-puts but same =
      KeepsPools-each F but before after
      (KeepsGraphs-same before after (types_same before after (λ k low high. others_read k low (inl (low, high)))))
      (λ slot at apart has. record {
        puddles = λ frame below.
            ap (member_of slot frame) (puddles_same F (with_puts puts before) after (λ k low high. puts_read k (omega arith)) frame below) ∙ same slot at apart has frame below;
        words = λ k mine. let own = own_word F slot before k mine in let low = own.low in others_read k (omega arith) (inr (omega arith));
      })

-- ---- one more puddle

-- A free frame is filled, which belongs to no pool.
module _ (F frame number ordinal : ℕ) (old mid : State) (free : (tables_of F (reads old.now.words)).puddles frame ≡ None)
    (fills : Persists (frame_write (tables_of F (reads old.now.words)).frames frame number ordinal) None old mid) where
  filled_within : (k v : ℕ) → written (frame_write (tables_of F (reads old.now.words)).frames frame number ordinal) k v → (frame_at F frame ≤ k) × (k < frame_at F frame + FRAME_WORDS)
  filled_within k v may =
      let within = placed_within (frame_at (tables_of F (reads old.now.words)).frames frame) k v (fresh_frame number ordinal) may in
      let low = within.0 in let high = within.1 in
      (omega (arith, frames_of_tables F (reads old.now.words)), omega (arith, frames_of_tables F (reads old.now.words), length-fresh_frame number ordinal))

  pub KeepsPools-filled : KeepsPools F None (reads old.now.words) (reads mid.now.words)
  KeepsPools-filled =
      KeepsPools-changes F None (written (frame_write (tables_of F (reads old.now.words)).frames frame number ordinal)) old mid fills.changes
      (record {
        types = λ k v low high may. let low = (filled_within k v may).0 in absurd (omega arith);
        puddles = λ k v low high may. let low = (filled_within k v may).0 in absurd (omega arith);
      })
      (λ slot k v apart own may.
      let within = filled_within k v may in
      let a = within.0 in let b = within.1 in let c = own.low in let d = own.high in
      let here : own.frame ≡ frame = omega arith in
      none-some own.member (sym free ∙ ap (tables_of F (reads old.now.words)).puddles (sym here) ∙ own.used))

  -- No table is written.
  pub filled_tables : (k : ℕ) → k < frames_at F → reads mid.now.words k ≡ reads old.now.words k
  filled_tables k below = reads_kept (written (frame_write (tables_of F (reads old.now.words)).frames frame number ordinal)) old mid k fills.changes (λ v may. let low = (filled_within k v may).0 in omega arith)

  pub filled_puddles : (f : ℕ) → f < F → (tables_of F (reads mid.now.words)).puddles f ≡ (tables_of F (reads old.now.words)).puddles f
  filled_puddles = puddles_same F (reads old.now.words) (reads mid.now.words) (λ k low high. filled_tables k (omega arith))

-- The record of one puddle is written, after words that are in no puddle's record: it is the record of its frame alone.
module _ (F frame slot : ℕ) (r : PuddleRecord) (before image : Image) (below : frame < F) (fits : FitsWords r) (other : slot ≢ r.pool) (free : (tables_of F before).puddles frame ≡ None)
    (same : (k : ℕ) → PUDDLE_TABLE ≤ k → k < tables_end F → image k ≡ before k) where
  member_here : member_of slot frame (Some (member_by r)) ≡ None
  member_here = cond-false (eqb (r.pool + 1) (slot + 1)) _ None (ne_eqb (r.pool + 1) (slot + 1) (λ e. other (let it : slot ≡ r.pool = omega arith in it)))

  pub other_members : (f : ℕ) → f < F → member_of slot f ((tables_of F (with_put (puddle_put frame r) image)).puddles f) ≡ member_of slot f ((tables_of F before).puddles f)
  other_members f within =
      ap (λ (t : Tables). member_of slot f (t.puddles f)) (puddle_put_made F image frame r below fits)
      ∙ elim (cases_eq f frame) [
        | inl here ↦
            ap (λ (n : ℕ). member_of slot n (changed_at frame (Some (member_by r)) (tables_of F image).puddles n)) here
            ∙ ap (member_of slot frame) (changed_here frame (Some (member_by r)) (tables_of F image).puddles)
            ∙ member_here
            ∙ sym (ap (λ (n : ℕ). member_of slot n ((tables_of F before).puddles n)) here ∙ ap (member_of slot frame) free)
        | inr apart ↦
            ap (member_of slot f) (changed_elsewhere frame (Some (member_by r)) (tables_of F image).puddles f apart ∙ puddles_same F before image same f within)
      ]

-- ---- a pool that has a graph is in the table

-- A pool without a puddle stores nothing, and that has no graph.
no_puddle : (F slot : ℕ) (image : Image) (at : List (ℕ × Puddle)) → HasGraphIn F slot image at → at ≡ [] → ⊥
no_puddle F slot image at has none =
    let graph : graph_of (types_of image) (stored_in F [] image) ≡ Some has.graph = ap (λ puddles. graph_of (types_of image) (stored_in F puddles image)) (sym none) ∙ has.stored in
    let no : false ≡ true = (graph_of-each (types_of image) (stored_in F [] image) has.graph graph).graph.legal in
    cc

first_used : (t : Tables) (slot : ℕ) (e : ℕ × Puddle) → IsMemberOf t slot 0 e → members t slot e.0 ≡ None → ⊥
first_used t slot e is none =
    let here : members t slot e.0 ≡ Some (is.member.ordinal, (e.0, is.member.puddle)) =
    ap (member_of slot e.0) is.used ∙ cond-true (eqb is.member.pool (slot + 1)) (Some (is.member.ordinal, (e.0, is.member.puddle))) None (eq-eqb is.member.pool (slot + 1) is.pool) in
    none-some (is.member.ordinal, (e.0, is.member.puddle)) (sym none ∙ here)

by_puddles : (F slot : ℕ) (image : Image) (puddles at : List (ℕ × Puddle)) → at ≡ puddles → HasGraphIn F slot image at → ((frame : ℕ) → frame < F → members (tables_of F image) slot frame ≡ None) → ⊥
by_puddles F slot image [] at same has none = no_puddle F slot image at has same
by_puddles F slot image (e ∷ puddles) at same has none =
    let is = (members_in_turn (tables_of F image) slot).each 0 e (ap (λ (ps : List (ℕ × Puddle)). slice_get ps 0) (has.turn ∙ same)) in
    let below = is.below in
    first_used (tables_of F image) slot e is (none e.0 (omega (arith, frames_of_tables F image)))

-- In sound tables a free slot has no pool with a graph.
pub not_free : (F next slot : ℕ) (image : Image) (at : List (ℕ × Puddle)) → HasSoundTables next (tables_of F image) → HasGraphIn F slot image at → (tables_of F image).pools slot ≡ None → ⊥
not_free F next slot image at sound has free =
    by_puddles F slot image at at refl has (λ frame below. no_member next (tables_of F image) sound slot frame (omega (arith, frames_of_tables F image)) free)

-- ---- a pool is made, or grows

-- A frame is filled, and then changes are made. The last change is the record of the frame's puddle, and no other
-- change is a puddle's record.
record AddsPuddle (F frame : ℕ) (r : PuddleRecord) (puts : List Put) (image : Image) : Type 0 where
  of : AreOfPools F puts
  below : frame < F
  fits : FitsWords r
  front : Image
  made : with_puts puts image ≡ with_put (puddle_put frame r) front
  same : (k : ℕ) → PUDDLE_TABLE ≤ k → k < tables_end F → front k ≡ image k

module _ (F : ℕ) (but : Option ℕ) (old new : State) (puts : List Put) (frame number ordinal : ℕ) (r : PuddleRecord) (free : (tables_of F (reads old.now.words)).puddles frame ≡ None)
    (adds : (image : Image) → AddsPuddle F frame r puts image)
    (other : (slot : ℕ) (at : List (ℕ × Puddle)) → but ≢ Some slot → HasGraphIn F slot (reads old.now.words) at → slot ≢ r.pool) where
  abbrev fill : Write
  fill = frame_write (tables_of F (reads old.now.words)).frames frame number ordinal

  changed_then : (mid : State) → Persists fill None old mid → Commits DAEMON_LOG (puts_batch puts) None mid new → KeepsPools F (Some r.pool) (reads mid.now.words) (reads new.now.words)
  changed_then mid fills commits =
      let a = adds (reads mid.now.words) in
      KeepsPools-puts F puts mid new a.of commits (Some r.pool)
      (λ s ps not_its had f within.
      ap (λ (i : Image). member_of s f ((tables_of F i).puddles f)) a.made
      ∙ other_members F frame s r (reads mid.now.words) a.front a.below a.fits (λ same. not_its (ap (λ (n : ℕ). Some n) (sym same)))
      (filled_puddles F frame number ordinal old mid free fills frame a.below ∙ free) a.same f within)

  more_by : (mid : State) → Persists fill None old mid → Commits DAEMON_LOG (puts_batch puts) None mid new → KeepsPools F but (reads old.now.words) (reads new.now.words)
  more_by mid fills commits =
      let then = changed_then mid fills commits in
      let filled = KeepsPools-filled F frame number ordinal old mid free fills in
      record {
        each = λ slot at apart has. then.each slot at (λ same. other slot at apart has (sym (same_Some r.pool slot same))) (filled.each slot at (λ no. none-some slot no) has);
        words = λ slot at apart has k mine.
            then.words slot at (λ same. other slot at apart has (sym (same_Some r.pool slot same))) (filled.each slot at (λ no. none-some slot no) has) k mine
            ∙ filled.words slot at (λ no. none-some slot no) has k mine;
        known = λ slot known apart has is.
            then.known slot known (λ same. other slot known.puddles apart has (sym (same_Some r.pool slot same))) (filled.each slot known.puddles (λ no. none-some slot no) has) (filled.known slot known (λ no. none-some slot no) has is);
      }

  -- There is one more puddle, which belongs to none of the pools that are to stay.
  KeepsPools-more : PersistsThenCommits fill (puts_batch puts) None old new → KeepsPools F but (reads old.now.words) (reads new.now.words)
  KeepsPools-more c = elim c.then [
    | inl end ↦ absurd (end.2 (sym end.1))
    | inr on ↦ more_by c.mid (subst (λ (f : Option HostFault). Persists fill f old c.mid) on.0 c.persists) on.1
  ]

  -- The words of each pool's frames stay too.
  words_more : PersistsThenCommits fill (puts_batch puts) None old new → (slot : ℕ) (at : List (ℕ × Puddle)) → HasGraphIn F slot (reads old.now.words) at → (k : ℕ) → pool_has_word F at k ≡ true
      → reads new.now.words k ≡ reads old.now.words k
  words_more c slot at has k mine = elim c.then [
    | inl end ↦ absurd (end.2 (sym end.1))
    | inr on ↦
        let m = pool_has_word-each F at k mine in
        let low = m.low in
        let a = adds (reads c.mid.now.words) in
        frames_read F puts c.mid new a.of on.1 k (omega arith)
        ∙ (KeepsPools-filled F frame number ordinal old c.mid free (subst (λ (f : Option HostFault). Persists fill f old c.mid) on.0 c.persists)).words slot at (λ no. none-some slot no) has k mine
  ]

-- The lowest free frame is one of the device's.
frame_within : (F frame : ℕ) (image : Image) → first_free (tables_of F image).puddles 0 (tables_of F image).frames ≡ Some frame → (frame < F) × ((tables_of F image).puddles frame ≡ None)
frame_within F frame image first =
    let free = first_free_some (tables_of F image).puddles 0 (tables_of F image).frames frame first in
    let high = free.high in
    (omega (arith, frames_of_tables F image), free.free)

-- A pool is made. Its slot was free, so no pool had a graph there.
module _ (F next number : ℕ) (name : List ℕ) (uid gid mode : ℕ) (old new : State) (sound : HasSoundTables next (tables_of F (reads old.now.words)))
    (m : MakesSomewhere (tables_of F (reads old.now.words)) number name uid gid mode None old new) where
  abbrev pool : PoolRecord
  pool = new_record name uid gid mode number

  slot_below : m.added.puddle.pool < POOL_RECORDS
  slot_below = let slot = first_free_some (tables_of F (reads old.now.words)).pools 0 POOL_RECORDS m.added.puddle.pool m.is.slot in let high = slot.high in omega arith

  adds_first : (image : Image) → AddsPuddle F m.added.frame m.added.puddle (making pool m.added) image
  unfolding with_puts
  adds_first image =
      let put = pool_put m.added.puddle.pool pool in
      let frame = (frame_within F m.added.frame (reads old.now.words) m.is.puddle.frame).0 in
      let slot = slot_below in
      record {
        of = making_of F pool m.added frame slot;
        below = frame;
        fits = record { pool = omega arith; frontier = frontier_of_new (tables_of F (reads old.now.words)) m.added.puddle.pool 0 (number + 1) m.added m.is.puddle };
        front = with_put (number_put (m.added.puddle.number + 1)) (with_put put image);
        made = refl;
        same = λ k low high. with_put-outside (number_put (m.added.puddle.number + 1)) (with_put put image) k (λ from to. omega arith) ∙ with_put-outside put image k (λ from to. omega arith);
      }

  pub KeepsPools-making : KeepsPools F None (reads old.now.words) (reads new.now.words)
  KeepsPools-making =
      let t = tables_of F (reads old.now.words) in
      let slot = first_free_some t.pools 0 POOL_RECORDS m.added.puddle.pool m.is.slot in
      KeepsPools-more F None old new (making pool m.added) m.added.frame m.added.puddle.number m.added.puddle.ordinal m.added.puddle (frame_within F m.added.frame (reads old.now.words) m.is.puddle.frame).1
      adds_first (λ s at apart has same. not_free F next s (reads old.now.words) at sound has (ap t.pools same ∙ slot.free))
      m.commits

-- A pool grows by a puddle in the lowest free frame, and all other pools stay.
module _ (F : ℕ) (a : NewPuddle) (old new : State) (within : a.puddle.pool < POOL_RECORDS) (steps : a.puddle.frontier < 2 ^ 32)
    (first : first_free (tables_of F (reads old.now.words)).puddles 0 (tables_of F (reads old.now.words)).frames ≡ Some a.frame) where
  adds_next : (image : Image) → AddsPuddle F a.frame a.puddle (growing a) image
  unfolding with_puts
  adds_next image =
      let frame = (frame_within F a.frame (reads old.now.words) first).0 in
      record {
        of = adding_of F (a.puddle.number + 1) (a ∷ []) (frame, within, tt);
        below = frame;
        fits = record { pool = omega arith; frontier = steps };
        front = with_put (number_put (a.puddle.number + 1)) image;
        made = refl;
        same = λ k low high. with_put-outside (number_put (a.puddle.number + 1)) image k (λ from to. omega arith);
      }

  pub KeepsPools-grow : PersistsThenCommits (filling F a) (puts_batch (growing a)) None old new → KeepsPools F (Some a.puddle.pool) (reads old.now.words) (reads new.now.words)
  KeepsPools-grow commits =
      KeepsPools-more F (Some a.puddle.pool) old new (growing a) a.frame a.puddle.number a.puddle.ordinal a.puddle (frame_within F a.frame (reads old.now.words) first).1
      adds_next (λ s at apart has same. apart (ap (λ (n : ℕ). Some n) (sym same)))
      (subst (λ (n : ℕ). PersistsThenCommits (filling n a) (puts_batch (growing a)) None old new) (sym (frames_of_tables F (reads old.now.words))) commits)

  pub words_grow : PersistsThenCommits (filling F a) (puts_batch (growing a)) None old new → (slot : ℕ) (at : List (ℕ × Puddle)) → HasGraphIn F slot (reads old.now.words) at → (k : ℕ) → pool_has_word F at k ≡ true
      → reads new.now.words k ≡ reads old.now.words k
  words_grow commits =
      words_more F (Some a.puddle.pool) old new (growing a) a.frame a.puddle.number a.puddle.ordinal a.puddle (frame_within F a.frame (reads old.now.words) first).1
      adds_next (λ s at apart has same. apart (ap (λ (n : ℕ). Some n) (sym same)))
      (subst (λ (n : ℕ). PersistsThenCommits (filling n a) (puts_batch (growing a)) None old new) (sym (frames_of_tables F (reads old.now.words))) commits)

-- ---- a mode is changed

mode_kept : (F slot mode : ℕ) (image : Image) (frame : ℕ) → slot < POOL_RECORDS → (tables_of F (with_puts (changing slot mode) image)).puddles frame ≡ (tables_of F image).puddles frame
unfolding with_puts
mode_kept F slot mode image frame within = ap (λ (t : Tables). t.puddles frame) (mode_put_made F image slot within mode)

pub KeepsPools-mode : (F slot mode : ℕ) (old new : State) → slot < POOL_RECORDS → Commits DAEMON_LOG (puts_batch (changing slot mode)) None old new
    → KeepsPools F None (reads old.now.words) (reads new.now.words)
KeepsPools-mode F slot mode old new within commits =
    KeepsPools-puts F (changing slot mode) old new (changing_of F slot mode within) commits None
    (λ s at apart has frame below. ap (member_of s frame) (mode_kept F slot mode (reads old.now.words) frame within))

-- ---- a pool is dropped

-- The records of a pool's puddles are freed, and none of them is another pool's.
module _ (slot other : ℕ) (apart : other ≢ slot) where
  one_freed : (frame : ℕ) (m : Option Member) → is_of_pool slot m ≡ true → member_of other frame m ≡ None
  one_freed frame None of = refl
  one_freed frame (Some m) of =
      let pool : m.pool ≡ slot + 1 = eqb-true m.pool (slot + 1) of in
      cond-false (eqb m.pool (other + 1)) (Some (m.ordinal, (frame, m.puddle))) None (ne_eqb m.pool (other + 1) (λ same. apart (let it : other ≡ slot = omega arith in it)))

  freed_kept : (frame : ℕ) (m : Option Member) → member_of other frame (cond (is_of_pool slot m) None m) ≡ member_of other frame m
  freed_kept frame m = elim (cases_Bool (is_of_pool slot m)) [
    | inl of ↦ ap (member_of other frame) (cond-true _ _ _ of) ∙ sym (one_freed frame m of)
    | inr not ↦ ap (member_of other frame) (cond-false _ _ _ not)
  ]

drop_kept : (F slot other f : ℕ) (image : Image) → slot < POOL_RECORDS → other ≢ slot
    → member_of other f ((tables_of F (with_puts (dropping (tables_of F image) slot) image)).puddles f) ≡ member_of other f ((tables_of F image).puddles f)
drop_kept F slot other f image within apart =
    ap (λ (t : Tables). member_of other f (t.puddles f)) (drop_tables F image slot within image refl) ∙ freed_kept slot other apart f ((tables_of F image).puddles f)

-- All other pools stay.
pub KeepsPools-dropping : (F slot : ℕ) (old new : State) → slot < POOL_RECORDS → CommitsPuts (dropping (tables_of F (reads old.now.words)) slot) None old new
    → KeepsPools F (Some slot) (reads old.now.words) (reads new.now.words)
KeepsPools-dropping F slot old new within commits =
    let t = tables_of F (reads old.now.words) in
    KeepsPools-puts F (dropping t slot) old new (dropping_of F t slot within (omega (arith, frames_of_tables F (reads old.now.words)))) commits (Some slot)
    (λ s at apart has frame below. drop_kept F slot s frame (reads old.now.words) within (λ same. apart (ap (λ (n : ℕ). Some n) (sym same))))

-- ---- the calls, if they did not fail

-- The call did its work, or nothing. Without a fault it did its work.
pub KeepsPools-or_still : (F : ℕ) (but : Option ℕ) (Does : Option HostFault → State → State → Type 0) (old new : State) → OrStill Does None old new
    → (Does None old new → KeepsPools F but (reads old.now.words) (reads new.now.words)) → KeepsPools F but (reads old.now.words) (reads new.now.words)
KeepsPools-or_still F but Does old new (inl still) keeps = absurd (still.1 refl)
KeepsPools-or_still F but Does old new (inr does) keeps = keeps does

-- A pool is dropped.
pub KeepsPools-drop : (F slot : ℕ) (old new : State) → slot < POOL_RECORDS → OrStill (CommitsPuts (dropping (tables_of F (reads old.now.words)) slot)) None old new
    → KeepsPools F (Some slot) (reads old.now.words) (reads new.now.words)
KeepsPools-drop F slot old new within does =
    KeepsPools-or_still F (Some slot) (CommitsPuts (dropping (tables_of F (reads old.now.words)) slot)) old new does (KeepsPools-dropping F slot old new within)

-- The tables that are then read are without the pool.
pub tables_dropped : (F slot : ℕ) (old new : State) → slot < POOL_RECORDS → OrStill (CommitsPuts (dropping (tables_of F (reads old.now.words)) slot)) None old new
    → tables_of F (reads new.now.words) ≡ without_pool_at slot (tables_of F (reads old.now.words))
tables_dropped F slot old new within (inl still) = absurd (still.1 refl)
tables_dropped F slot old new within (inr commits) =
    let image = reads old.now.words in
    puts_tables F (dropping (tables_of F image) slot) old new (dropping_of F (tables_of F image) slot within (omega (arith, frames_of_tables F image))) commits ∙ drop_tables F image slot within image refl
