-- An active transaction gets one more puddle: a fresh one, which is the last of its pool by what is read of the tables.
-- The others stay.
use Rattle.std.proofs.Common.{◌≡◌, ◌≢◌, inl, inr, ℕ, ◌+◌, ◌<◌, ◌≤◌, true, false, ◌||◌, List, [], ◌∷◌, ◌++◌, length, Option, Some, None, refl, sym, ap, subst, ◌∙◌, arith}
use Rattle.std.specs.Prelude.{set, slice_get}
use Rattle.std.proofs.lemmas.Bool.{cases_Bool, cases_eq, or_cases, or_left, or_right}
use Rattle.std.proofs.lemmas.Option.{none-some, same_Some, slice_get_within}
use Rattle.std.proofs.lemmas.List.Folds.{list_any-append}
use Rattle.pm_model.specs.declared.host.HostFault.TheVariants.{Cut}
use Rattle.pm_model.specs.Words.{Cell, Words, HasOnly, reads}
use Rattle.pm_model.specs.Moments.{State}
use Rattle.pm_model.specs.Changes.{Write, Changes}
use Rattle.pm_model.specs.Masks.{masked}
use Rattle.pm_model.proofs.Changes.{Changes-still}
use Rattle.pm_model.proofs.Masks.{masked-elsewhere}
use Rattle.pud_defs.specs.declared.layout.TheConstants.{FRAME_WORDS}
use Rattle.pud_defs.specs.declared.records.Puddle.{Puddle}
use Rattle.pud_defs.specs.Formats.Image.{Image}
use Rattle.pud_defs.specs.Formats.Frames.{frame_at, IsFreshFrame}
use Rattle.pud_defs.specs.PoolGraphs.Graph.{graph_of}
use Rattle.pud_defs.specs.Formats.Layout.{frames_at, device_words}
use Rattle.pud_defs.specs.StateMachine.PoolChanges.{pool_named}
use Rattle.pud_defs.specs.Logging.Replay.{is_in_log}
use Rattle.pud_defs.specs.Logging.Settled.{ALL_LOGS, log_number_at}
use Rattle.pud_defs.specs.RegistryTables.Spaces.{Owner, owner_of}
use Rattle.pud_defs.specs.RegistryTables.SoundTables.{HasSoundTables}
use Rattle.pud_defs.specs.StateMachine.Step.{graph_in}
use Rattle.pud_defs.specs.RegistryTables.Tables.{tables_of, puddles_in_turn}
use Rattle.pud_defs.specs.StateMachine.World.{Transaction, StoredWorld, World}
use Rattle.pud_defs.proofs.Logging.Replay.{outside_log}
use Rattle.pud_defs.proofs.RegistryTables.TablesOf.{frames_of_tables}
use Rattle.batch.specs.Worlds.{IsQuiescent}
use Rattle.graph_laws.proofs.FreshPuddles.Grown.{slice_get-front, slice_get-push}
use Rattle.word_transaction.specs.Scope.{IsScope}
use Rattle.word_transaction.proofs.Growing.{IsWider, IsRunning-values, IsRunning-wider}
use Rattle.hybrid_tx.specs.PoolScopes.{is_in_puddle, pool_has_word, pool_scope, ArePlacedPuddles, finished_of}
use Rattle.hybrid_tx.specs.Open.Masks.{OpenPool, is_open_record, open_mask, IsOpenPool}
use Rattle.hybrid_tx.specs.Open.ManyOpen.{OpenTransaction, Opens, with_transaction, MasksAll, AreOpenPools, IsOneMore}
use Rattle.hybrid_tx.specs.Objects.Transactions.{IsOpenOn, RestsAs}
use Rattle.hybrid_tx.proofs.Open.ManyMasks.{masks_of_others, opens_apart}
use Rattle.hybrid_tx.proofs.Open.OpenMasks.{open_record_place}
use Rattle.hybrid_tx.proofs.Objects.DeferredKept.{KeepsObjects-same, AreDeferredEntries-wider, keeps_prefix}
use Rattle.hybrid_tx.proofs.Objects.Opening.{stored_in-has_word}
use Rattle.hybrid_tx.proofs.Open.OpenPools.{open_on_device, placed_by_tables}
use Rattle.hybrid_tx.proofs.Open.PoolPlaces.{placed_of_puddles}
use Rattle.hybrid_tx.proofs.PoolScope.{pool_has_word-each, is_scope}
use Rattle.nesting.specs.declared.Session.{Session}
use Rattle.pool_transaction.specs.Changing.{StaysOpen}
use Rattle.hybrid_tx.proofs.FinishedPuddles.{finished_placed, mine_of_finished, finished_last, none_of_finished}
use Rattle.pm_model.proofs.Words.{HasOnly-newest}
use Rattle.pud_defs.specs.Formats.Geometry.{IsFinished}
use Rattle.daemon_memory.specs.Memory.{ActiveTransaction, active_under}
use Rattle.daemon_memory.proofs.PuddlesRewritten.OwnMore.{OpensAgain, begun, own_begun, other_begun, FinishesMore, mine_later, wider_ground, comes_open}
use Rattle.daemon_memory.proofs.PuddlesRewritten.ActiveAgain.{opens_again, then_one, other_is, are_again, records_opened, masks_again, wide as words_again, settled_again, rest_again, logs_again}
use Rattle.daemon_memory.specs.ActiveTransactions.{open_pool_of, open_transaction_of, IsActive, IsActiveUnder, AreActive, HasSessions, HasDurableFrames, HasIdleLogs, ByOthers}
use Rattle.daemon_memory.proofs.Commands.Beside.{KeepsOne, others_apart, active_still}
use Rattle.daemon_memory.proofs.PoolChanges.GraphLonger.{graph_longer, places_longer}
use Rattle.pool_transaction.proofs.Lifetimes.ActiveChanged.{Holds-later, HasSessions-later}
use Rattle.daemon_memory.proofs.OpenTransactions.OpenNames.{WereOpen, WereOpen-same}
use Rattle.daemon_memory.proofs.PoolChanges.PoolsBeside.{puddles_still}

-- ---- what is active

-- The next world has the same for the active transaction, while its pool has one more puddle.
pub record GrowsActive (w next : World) (active : ActiveTransaction) : Type 0 where
  pub frames : next.stored.frames ≡ w.stored.frames
  pub types : next.stored.types ≡ w.stored.types
  pub transactions : next.transactions ≡ w.transactions
  pub clients : next.clients ≡ w.clients
  pub stored : graph_in (pool_named active.name next.stored) ≡ graph_in (pool_named active.name w.stored)

module _ (w : World) (active : ActiveTransaction) (mask : Write) (words : Words) (is : IsActive w active mask words) (e : ℕ × Puddle) (finished : IsFinished e.1) where
  abbrev F : ℕ
  F = w.stored.frames

  abbrev now : Image
  now = reads words

  -- Its puddles with the new one.
  abbrev at : List (ℕ × Puddle)
  at = is.puddles ++ e ∷ []

  abbrev q : OpenPool
  q = open_pool_of active at is.rec is.own.who

  -- Its own words keep the values of its beginning, and the others begin as they are read.
  abbrev pub before : Image
  before = begun F is.puddles is.before now

  abbrev pub opened_more : OpenTransaction
  opened_more = open_transaction_of active at is.rec is.own.who before

  -- Each word of its pool has the value of its beginning.
  pool_word : (k : ℕ) → pool_has_word F is.puddles k ≡ true → before k ≡ is.before k
  pool_word k mine = elim (cases_Bool (pool_has_word F (finished_of is.puddles) k)) [
    | inl own ↦ own_begun F is.puddles is.before now k own
    | inr other ↦ other_begun F is.puddles is.before now k other ∙ HasOnly-newest (words k) (is.before k) (is.running.rests.each k mine other)
  ]

  other_word : (k : ℕ) → pool_has_word F is.puddles k ≡ false → before k ≡ now k
  other_word k other = other_begun F is.puddles is.before now k (none_of_finished F is.puddles k other)

  front : (i : ℕ) (d : ℕ × Puddle) → slice_get is.puddles i ≡ Some d → slice_get at i ≡ Some d
  front i d there = slice_get-front is.puddles (e ∷ []) i (slice_get_within is.puddles i d there) ∙ there

  finished_prefix : (i : ℕ) (d : ℕ × Puddle) → slice_get (finished_of is.puddles) i ≡ Some d → slice_get (finished_of at) i ≡ Some d
  finished_prefix i d there =
      ap (λ (puddles : List (ℕ × Puddle)). slice_get puddles i) (finished_last is.puddles e finished)
      ∙ slice_get-front (finished_of is.puddles) (e ∷ []) i (slice_get_within (finished_of is.puddles) i d there) ∙ there

  -- Its words are those of the old puddles and those of the new puddle's frame.
  mine_split : (own : List (ℕ × Puddle)) (k : ℕ) → pool_has_word F (own ++ e ∷ []) k ≡ (pool_has_word F own k || (is_in_puddle F k e || false))
  unfolding pool_has_word
  mine_split own k = list_any-append (is_in_puddle F k) own (e ∷ [])

  later : FinishesMore is.puddles at
  later = record { each = λ i d there. (i, finished_prefix i d there) }

  in_frame : (k : ℕ) → pool_has_word F at k ≡ true → pool_has_word F is.puddles k ≡ false → is_in_puddle F k e ≡ true
  in_frame k own other = elim (or_cases (pool_has_word F is.puddles k) _ (sym (mine_split is.puddles k) ∙ own)) [
    | inl was ↦ absurd (let no : true ≡ false = sym was ∙ other in cc)
    | inr new ↦ elim (or_cases (is_in_puddle F k e) false new) [ inl here ↦ here | inr never ↦ absurd (let it : false ≡ true = never in cc) ]
  ]

  -- Each new word of the pool is an own word.
  pub fresh_own : (k : ℕ) → pool_has_word F at k ≡ true → pool_has_word F is.puddles k ≡ false → pool_has_word F (finished_of at) k ≡ true
  fresh_own k own other =
      ap (λ (puddles : List (ℕ × Puddle)). pool_has_word F puddles k) (finished_last is.puddles e finished)
      ∙ mine_split (finished_of is.puddles) k
      ∙ or_right (pool_has_word F (finished_of is.puddles) k) _ (or_left (is_in_puddle F k e) false (in_frame k own other))

  module _ (number : ℕ) (sound : HasSoundTables number (tables_of F now)) (owners : owner_of now active.client ≡ w.clients active.client)
      (listed : puddles_in_turn (tables_of F now) active.slot ≡ at) where
    placed : ArePlacedPuddles F at
    placed = placed_by_tables number F now active.slot at sound listed

    placed_before : ArePlacedPuddles F (finished_of is.puddles)
    placed_before =
        let frames = frames_of_tables F now in
        subst (λ (n : ℕ). ArePlacedPuddles n (finished_of is.puddles)) frames
        (placed_of_puddles number (tables_of F now) sound active.slot (finished_of is.puddles) (puddles_still w active mask words is))

    -- No word of the new frame was a word of the transaction's pool.
    apart : (k : ℕ) → k < FRAME_WORDS → pool_has_word F is.puddles (frame_at F e.0 + k) ≡ false
    apart k below = elim (cases_Bool (pool_has_word F is.puddles (frame_at F e.0 + k))) [
      | inr other ↦ other
      | inl own ↦
          let m = pool_has_word-each F is.puddles (frame_at F e.0 + k) own in
          let low = m.low in
          let high = m.high in
          let frame : m.puddle.0 ≡ e.0 = omega arith in
          let within = slice_get_within is.puddles m.ordinal m.puddle m.there in
          let same = placed.frames.each m.ordinal (length is.puddles) m.puddle e (front m.ordinal m.puddle m.there) (slice_get-push is.puddles e) frame in
          absurd (omega (arith, within, same))
    ]

    pub comes_more : OpensAgain F (open_transaction_of active is.puddles is.rec is.own.who is.before) opened_more words
    comes_more = comes_open w active mask words words is (λ k masked. refl) at later number sound refl owners listed

    -- ---- what is open

    module _ (some : 1 ≤ length is.puddles) (fresh : IsFreshFrame F e.0 e.1.number (length is.puddles) now) (one_value : (k : ℕ) → pool_has_word F at k ≡ true → pool_has_word F is.puddles k ≡ false → HasOnly (words k) (now k)) where
      wider : IsWider (pool_scope F (finished_of is.puddles)) (pool_scope F (finished_of at))
      wider = wider_ground F is.puddles at later placed_before (finished_placed F at placed)

      fresh_word : (k : ℕ) → pool_has_word F (finished_of at) k ≡ true → pool_has_word F (finished_of is.puddles) k ≡ false → HasOnly (words k) (before k)
      fresh_word k own other = elim (cases_Bool (pool_has_word F is.puddles k)) [
        | inl mine ↦ subst (λ (v : ℕ). HasOnly (words k) v) (sym (pool_word k mine)) (is.running.rests.each k mine other)
        | inr none ↦ subst (λ (v : ℕ). HasOnly (words k) v) (sym (other_word k none)) (one_value k (mine_of_finished F at k own) none)
      ]

      -- What rested still rests.
      rests_more : RestsAs F at before words
      rests_more = record {
        each = λ k mine other. elim (cases_Bool (pool_has_word F is.puddles k)) [
          | inl was ↦
              subst (λ (v : ℕ). HasOnly (words k) v) (sym (pool_word k was))
              (is.running.rests.each k was (elim (cases_Bool (pool_has_word F (finished_of is.puddles) k)) [
                | inr none ↦ none
                | inl own ↦ absurd (let no : true ≡ false = sym (mine_later F is.puddles at later k own) ∙ other in cc)
              ]))
          | inr none ↦ subst (λ (v : ℕ). HasOnly (words k) v) (sym (other_word k none)) (one_value k mine none)
        ];
      }

      scope : IsScope (device_words F) active.tx.log.gate_at (pool_scope F (finished_of is.puddles))
      scope =
          let gate = is.own.gate in
          let known = is.pool.known in
          is_scope F (device_words F) active.tx.log.gate_at (finished_of is.puddles) placed_before (omega arith) (omega arith)

      pub running_more : IsOpenOn F at w.stored.types active.tx.log before is.graph_before is.own.transaction.now is.own.transaction.deferred words
      running_more =
          let r = is.running in
          let g = pool_scope F (finished_of is.puddles) in
          let fresh_before : IsFreshFrame F e.0 e.1.number (length is.puddles) before = record { each = λ k below. other_word (frame_at F e.0 + k) (apart k below) ∙ fresh.each k below } in
          record {
            redo = r.redo;
            saving = record {
              es = r.saving.es;
              running = IsRunning-wider g (pool_scope F (finished_of at)) active.tx.log r.saving.es before words wider fresh_word
                  (IsRunning-values (device_words F) g active.tx.log r.saving.es is.before before words scope (λ k own. sym (own_begun F is.puddles is.before now k own)) r.saving.running);
              defers = r.saving.defers;
            };
            rests = rests_more;
            was = graph_longer w.stored.types F before is.puddles e is.graph_before some fresh_before (ap (graph_of w.stored.types) (stored_in-has_word F is.puddles is.before before pool_word) ∙ r.was);
            is = graph_longer w.stored.types F now is.puddles e is.own.transaction.now some fresh r.is;
            are = AreDeferredEntries-wider F is.puddles at w.stored.types w.stored.types now now is.own.transaction.now is.own.transaction.now (keeps_prefix is.puddles at front) (record { each = λ id m is. is })
                (places_longer w.stored.types F now is.puddles e is.own.transaction.now r.is) (KeepsObjects-same is.own.transaction.now) is.own.transaction.deferred r.redo r.are;
          }

      -- The transaction is active in the next world with the new puddle, if its words are masked.
      abbrev pub active_more : (next : World) → GrowsActive w next active → (renewed : Write) → ((k v : ℕ) → open_mask F q before k ≡ Some v → renewed k ≡ Some v) → IsActive next active renewed words
      active_more next grows renewed masks =
          let back = sym grows.frames in
          record {
            rec = is.rec;
            own = record {
              who = is.own.who;
              transaction = is.own.transaction;
              is = ap (λ (o : List ℕ → Option Transaction). o active.name) grows.transactions ∙ is.own.is;
              client = is.own.client;
              units = is.own.units;
              present = ap (λ clients. clients active.client) grows.clients ∙ is.own.present;
              owner = is.own.owner;
              gate = is.own.gate ∙ ap (λ (m : ℕ). log_number_at m active.log_number) back;
            };
            puddles = at;
            before = before;
            graph_before = is.graph_before;
            name = is.name;
            stored = grows.stored ∙ is.stored;
            pool = subst (λ (m : ℕ). IsOpenPool m q before) back comes_more.pool;
            records = comes_more.records;
            running = subst (λ (m : ℕ). IsOpenOn m at next.stored.types active.tx.log before is.graph_before is.own.transaction.now is.own.transaction.deferred words) back
                (subst (λ (types : List (ℕ × ℕ)). IsOpenOn F at types active.tx.log before is.graph_before is.own.transaction.now is.own.transaction.deferred words) (sym grows.types) running_more);
            masked = subst (λ (m : ℕ). (k v : ℕ) → open_mask m q before k ≡ Some v → renewed k ≡ Some v) back masks;
          }

-- ---- all active transactions

module _ (w : World) (all : List (Option ActiveTransaction)) (mask : Write) (s : State) (holds : AreActive w all mask s.now.words) (active : ActiveTransaction) (number : ℕ) (there : active_under all number ≡ Some active) (e : ℕ × Puddle)
    (next_number : ℕ) (sound : HasSoundTables next_number (tables_of w.stored.frames (reads s.now.words))) (owners : owner_of (reads s.now.words) active.client ≡ w.clients active.client)
    (listed : puddles_in_turn (tables_of w.stored.frames (reads s.now.words)) active.slot ≡ (holds.each number active there).is.puddles ++ e ∷ []) (rest : HasDurableFrames w.stored.frames (masked mask s.now.words)) (finished : IsFinished e.1) where
  abbrev n : ℕ
  n = w.stored.frames

  abbrev image : Image
  image = reads s.now.words

  abbrev under : IsActiveUnder w holds.opens mask s.now.words number active
  under = holds.each number active there

  abbrev o : OpenTransaction
  o = open_transaction_of active under.is.puddles under.is.rec under.is.own.who under.is.before

  abbrev more : OpenTransaction
  more = opened_more w active mask s.now.words under.is e finished

  pub still : Changes (ByOthers mask) None s s
  still = Changes-still (ByOthers mask) None s s (λ cut. none-some Cut cut) refl

  -- The transaction is now open with the new puddle.
  pub renewed : OpensAgain n o more s.now.words
  renewed = comes_more w active mask s.now.words under.is e finished next_number sound owners listed

  abbrev opens : Opens
  opens = opens_again w all mask s s holds active number there still renewed

  -- The words of all transactions, as a mask.
  abbrev pub wide : Write
  wide = words_again w all mask s s holds active number there still renewed

  abbrev others : Opens
  others = with_transaction number None holds.opens

  pub one_then : IsOneMore number more others opens
  one_then = then_one w all mask s s holds active number there still renewed

  pub others_then : (m : ℕ) → m ≢ number → opens m ≡ holds.opens m
  others_then = other_is w all mask s s holds active number there still renewed

  pub are_then : AreOpenPools n opens
  are_then = are_again w all mask s s holds active number there still renewed

  pub masks_then : MasksAll n opens wide
  masks_then = masks_again w all mask s s holds active number there still renewed

  -- ---- the fresh words

  no_record : (k : ℕ) → frames_at n ≤ k → (m : ℕ) (q : OpenTransaction) → holds.opens m ≡ Some q → is_open_record q.pool k ≡ false
  no_record k above m q has = elim (cases_Bool (is_open_record q.pool k)) [
    | inl of ↦
        let opened = holds.are.pool m q has in
        let below = (open_record_place n q.pool k opened.slot opened.known (open_on_device n q.pool q.before opened) of).high in
        absurd (omega arith)
    | inr other ↦ other
  ]

  of_no_other : (k : ℕ) → pool_has_word n (under.is.puddles ++ e ∷ []) k ≡ true → pool_has_word n under.is.puddles k ≡ false → (m : ℕ) (q : OpenTransaction) → holds.opens m ≡ Some q → pool_has_word n (finished_of q.pool.puddles) k ≡ false
  of_no_other k own other m q has = elim (cases_eq m number) [
    | inl same ↦
        let one : o ≡ q = same_Some o q (sym under.opened ∙ ap holds.opens (sym same) ∙ has) in
        subst (λ (t : OpenTransaction). pool_has_word n (finished_of t.pool.puddles) k ≡ false) one (none_of_finished n under.is.puddles k other)
    | inr apart ↦ (opens_apart n opens image are_then (records_opened w all mask s s holds active number there still renewed)).each number m more q one_then.here (others_then m apart ∙ has) (λ same. apart (sym same)) k (fresh_own w active mask s.now.words under.is e finished k own other)
  ]

  no_log : (k : ℕ) → frames_at n ≤ k → (m : ℕ) (q : OpenTransaction) → holds.opens m ≡ Some q → is_in_log (log_number_at n m) k ≡ false
  no_log k above m q has =
      let known : m < ALL_LOGS = omega (arith, holds.are.number m q has, (holds.are.pool m q has).known) in
      outside_log (log_number_at n m) k (inr (omega arith))

  pub one_value : (k : ℕ) → pool_has_word n (under.is.puddles ++ e ∷ []) k ≡ true → pool_has_word n under.is.puddles k ≡ false → HasOnly (s.now.words k) (image k)
  one_value k own other =
      let low = (pool_has_word-each n (under.is.puddles ++ e ∷ []) k own).low in
      let above : frames_at n ≤ k = omega arith in
      let none : mask k ≡ None =
      masks_of_others n holds.opens mask holds.are holds.masks k (record { log = no_log k above; frames = of_no_other k own other }) (no_record k above) in
      subst (λ (c : Cell). HasOnly c c.newest) (masked-elsewhere mask s.now.words k none) (rest.each k above)

  -- ---- the next world

  module _ (some : 1 ≤ length under.is.puddles) (fresh : IsFreshFrame n e.0 e.1.number (length under.is.puddles) image) (next : World) (grows : GrowsActive w next active)
      (keeps : (m : ℕ) (g : ActiveTransaction) → m ≢ number → active_under all m ≡ Some g → KeepsOne w next g) where
    pub same_pool : StaysOpen active active
    same_pool = record { client = refl; name = refl; slot = refl; number = refl; gate = refl }

    abbrev pub it_has_more : IsActive next active wide s.now.words
    it_has_more =
        active_more w active mask s.now.words under.is e finished next_number sound owners listed some fresh one_value next grows wide (λ k v is. masks_then.has number more one_then.here k v is)

    pub other_stays : (m : ℕ) (g : ActiveTransaction) → m ≢ number → active_under all m ≡ Some g → IsActiveUnder next opens wide s.now.words m g
    other_stays m g apart has =
        let other = holds.each m g has in
        let opened = others_then m apart ∙ other.opened in
        record {
          is = active_still w next g mask wide s s other.is (keeps m g apart has) (ByOthers mask) (others_apart w g mask s.now.words other.is) still
              (λ k v is. masks_then.has m (open_transaction_of g other.is.puddles other.is.rec other.is.own.who other.is.before) opened k v is) other.is.running.rests;
          number_is = other.number_is;
          opened = opened;
        }

    -- In the next world the transaction is active with the new puddle, and the others are active as they were.
    abbrev pub holds_more : AreActive next (set all number (Some active)) wide s.now.words
    holds_more =
        let back = sym grows.frames in
        Holds-later all number active active there same_pool w next (subst (λ (t : List ℕ → Option Transaction). WereOpen w.transactions t) (sym grows.transactions) (WereOpen-same w.transactions))
        mask wide s.now.words s.now.words holds opens (subst (λ (m : ℕ). AreOpenPools m opens) back are_then) (subst (λ (m : ℕ). MasksAll m opens wide) back masks_then)
        (record { is = it_has_more; number_is = under.number_is; opened = one_then.here }) other_stays (λ m apart free. others_then m apart ∙ free)

    pub sessions_more : (sessions : List (Option Session)) → HasSessions w all sessions → HasSessions next (set all number (Some active)) sessions
    sessions_more sessions =
        HasSessions-later all number active active there same_pool w next (subst (λ (t : List ℕ → Option Transaction). WereOpen w.transactions t) (sym grows.transactions) (WereOpen-same w.transactions)) sessions

  -- What held with the words masked also holds with the words of the new puddle masked too.
  pub settled_more : (size : ℕ) (next : StoredWorld) → IsQuiescent size next (masked mask s.now.words) → IsQuiescent size next (masked wide s.now.words)
  settled_more = settled_again w all mask s s holds active number there still renewed

  pub rest_more : HasDurableFrames n (masked wide s.now.words)
  rest_more = rest_again w all mask s s holds active number there still renewed rest

  pub logs_more : (m : ℕ) (clients : ℕ → Option Owner) → HasIdleLogs m clients (masked mask s.now.words) → HasIdleLogs m clients (masked wide s.now.words)
  logs_more = logs_again w all mask s s holds active number there still renewed
