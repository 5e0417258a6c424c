-- What pools store if words do not change, and if more types are defined.
use Rattle.std.proofs.Common.{◌≡◌, ℕ, zero, suc, ◌+◌, ◌*◌, ◌<◌, ◌≤◌, true, cond, ltb, List, [], ◌∷◌, map, slice_get, Option, Some, None, is_some, option_map, inl, inr, nat_cmp, refl, sym, ap, ◌∙◌, subst, arith, eqb-true}
use Rattle.std.specs.List.{AllByRecursion}
use Rattle.std.specs.FinMap.{nat_cmp-IsAntisymmetric}
use Rattle.std.proofs.lemmas.Bool.{cases_lt, cond-false, le-ltb}
use Rattle.std.proofs.lemmas.Option.{cond_some, none-some}
use Rattle.pud_defs.specs.declared.layout.TheConstants.{FRAME_WORDS}
use Rattle.pud_defs.specs.declared.records.TheConstants.{POOL_RECORDS}
use Rattle.pud_defs.specs.declared.records.PoolRecord.{PoolRecord}
use Rattle.pud_defs.specs.declared.records.Puddle.{Puddle}
use Rattle.pud_defs.specs.Formats.Image.{Image}
use Rattle.pud_defs.specs.Formats.Layout.{frames_at, device_words}
use Rattle.pud_defs.specs.Formats.Names.{name_cmp}
use Rattle.pud_defs.specs.RegistryTables.Spaces.{owner}
use Rattle.pud_defs.specs.Formats.Frames.{frame_word}
use Rattle.pud_defs.specs.RegistryTables.Puddles.{Member}
use Rattle.pud_defs.specs.PoolGraphs.Stored.{word_in_frame, stored_in}
use Rattle.pud_defs.specs.PoolGraphs.Holdings.{Holding, holding_in, held_by, read_again}
use Rattle.pud_defs.specs.RegistryTables.Types.{map_of, with_type}
use Rattle.pud_defs.specs.RegistryTables.Tables.{Tables, Pool, Reader, tables_of, member_of, members, puddles_of, listed, classes_of, pool_of, entries, pools_of}
use Rattle.pud_defs.specs.StateMachine.World.{pools_in}
use Rattle.pud_defs.specs.StateMachine.PoolChanges.{reread_pool, reread_pools}
use Rattle.pud_defs.proofs.KeyedTables.Keyed.{keyed-same}
use Rattle.pud_defs.proofs.KeyedTables.KeyedEach.{each-keyed, each-weaker}
use Rattle.pud_defs.proofs.KeyedTables.KeyedMaps.{of_entry, keyed-mapped}
use Rattle.pud_defs.proofs.PoolGraphs.TypeMore.{held_by-more, held_by-settled}
use Rattle.pud_defs.proofs.RegistryTables.TablesOf.{frames_of_tables}

-- ---- where the puddles of a pool are

-- the frame is one of the device's, and its record is used and belongs to this pool
pub record IsFrameOf (t : Tables) (slot frame : ℕ) : Type 0 where
  pub below : frame < t.frames
  pub member : Member
  pub used : t.puddles frame ≡ Some member
  pub of : member.pool ≡ slot + 1

frame_by : (t : Tables) (slot frame : ℕ) → frame < t.frames → (o : Option Member) → t.puddles frame ≡ o → (e : ℕ × (ℕ × Puddle)) → member_of slot frame o ≡ Some e → IsFrameOf t slot e.1.0
frame_by t slot frame below None is e there = absurd (none-some e there)
frame_by t slot frame below (Some m) is e there =
    let parts = cond_some _ (m.ordinal, (frame, m.puddle)) e there in
    subst (λ (d : ℕ × (ℕ × Puddle)). IsFrameOf t slot d.1.0) parts.1 (record { below = below; member = m; used = is; of = eqb-true m.pool (slot + 1) parts.0 })

pub frames_of_pool : (t : Tables) (slot : ℕ) → AllByRecursion (λ e. IsFrameOf t slot e.1.0) (puddles_of t slot)
unfolding puddles_of
frames_of_pool t slot =
    each-keyed nat_cmp nat_cmp-IsAntisymmetric (λ e. IsFrameOf t slot e.1.0) (members t slot) 0 t.frames (λ frame low high e is. frame_by t slot frame (omega arith) (t.puddles frame) refl e is)

all_listed : (P : ℕ → Type 0) (puddles : List (ℕ × (ℕ × Puddle))) → AllByRecursion (λ e. P e.1.0) puddles → AllByRecursion (λ e. P e.0) (listed puddles)
all_listed P [] all = tt
all_listed P (e ∷ puddles) all = (all.0, all_listed P puddles all.1)

-- the same for the puddles without their ordinals
pub frames_listed : (t : Tables) (slot : ℕ) → AllByRecursion (λ e. IsFrameOf t slot e.0) (listed (puddles_of t slot))
frames_listed t slot = all_listed (IsFrameOf t slot) (puddles_of t slot) (frames_of_pool t slot)

-- ---- words that do not change

-- the frame has the same words in both images
pub record HasSameFrame (F : ℕ) (i j : Image) (frame : ℕ) : Type 0 where
  pub each : (k : ℕ) → k < FRAME_WORDS → frame_word F frame k j ≡ frame_word F frame k i

-- this holds for each frame, if no word of the frames differs
pub frame_among : (F frame : ℕ) (i j : Image) → frame < F → ((k : ℕ) → frames_at F ≤ k → k < device_words F → j k ≡ i k) → HasSameFrame F i j frame
frame_among F frame i j below same = record { each = λ k high. same (frames_at F + FRAME_WORDS * frame + k) (omega arith) (omega arith) }

word_same_in : (F frame k : ℕ) (i j : Image) → HasSameFrame F i j frame → cond (ltb k FRAME_WORDS) (frame_word F frame k j) 0 ≡ cond (ltb k FRAME_WORDS) (frame_word F frame k i) 0
word_same_in F frame k i j same = elim (cases_lt k FRAME_WORDS) [
  | inl high ↦ ap (λ (w : ℕ). cond (ltb k FRAME_WORDS) w 0) (same.each k high)
  | inr beyond ↦ cond-false _ _ _ (le-ltb k FRAME_WORDS beyond) ∙ sym (cond-false _ _ _ (le-ltb k FRAME_WORDS beyond))
]

word_same : (F : ℕ) (i j : Image) (at : List (ℕ × Puddle)) → AllByRecursion (λ e. HasSameFrame F i j e.0) at → (o k : ℕ) → word_in_frame F j k (slice_get at o) ≡ word_in_frame F i k (slice_get at o)
word_same F i j [] same o k = refl
word_same F i j (e ∷ at) same zero k = word_same_in F e.0 k i j same.0
word_same F i j (e ∷ at) same (suc o) k = word_same F i j at same.1 o k

pub stored_in-same : (F : ℕ) (i j : Image) (at : List (ℕ × Puddle)) → AllByRecursion (λ e. HasSameFrame F i j e.0) at → stored_in F at j ≡ stored_in F at i
stored_in-same F i j at same = λ p. record { puddles = map (λ e. e.1) at; word = λ o k. word_same F i j at same o k p }

-- ---- pools that store the same

abbrev pool_entry : Reader → List (ℕ × (ℕ × Puddle)) → Option PoolRecord → Option (List ℕ × Pool)
pool_entry hold puddles r = option_map (λ r. (r.name, pool_of hold r puddles)) r

entry_same : (hold other : Reader) (puddles : List (ℕ × (ℕ × Puddle))) (r : Option PoolRecord) → (is_some r ≡ true → hold (listed puddles) ≡ other (listed puddles)) → pool_entry hold puddles r ≡ pool_entry other puddles r
unfolding pool_of
entry_same hold other puddles None same = refl
entry_same hold other puddles (Some r) same = ap (λ (h : Holding). Some (r.name, record { owner = owner r.uid r.gid; mode = r.mode; number = r.number; classes = classes_of puddles; holding = h })) (same refl)

-- two readers that agree on the puddles of each pool give the same pools
pub pools_of-same : (hold other : Reader) (t : Tables) → ((slot : ℕ) → slot < POOL_RECORDS → is_some (t.pools slot) ≡ true → hold (listed (puddles_of t slot)) ≡ other (listed (puddles_of t slot)))
    → pools_of hold t ≡ pools_of other t
unfolding pools_of
pools_of-same hold other t same =
    keyed-same name_cmp (entries hold t) (entries other t) 0 POOL_RECORDS (λ slot low high. entry_same hold other (puddles_of t slot) (t.pools slot) (same slot (omega arith)))

-- the pools are the same if each frame that has a puddle is
pub pools_of-held : (types : List (ℕ × ℕ)) (F : ℕ) (i j : Image) (t : Tables) → ((frame : ℕ) → frame < t.frames → is_some (t.puddles frame) ≡ true → HasSameFrame F i j frame)
    → pools_of (holding_in types F j) t ≡ pools_of (holding_in types F i) t
pools_of-held types F i j t same =
    pools_of-same (holding_in types F j) (holding_in types F i) t (λ slot below used.
    ap (held_by types) (stored_in-same F i j (listed (puddles_of t slot)) (each-weaker (λ e. IsFrameOf t slot e.0) (λ e. HasSameFrame F i j e.0) (listed (puddles_of t slot))
    (λ e of. same e.0 of.below (ap is_some of.used)) (frames_listed t slot))))

-- and so if the tables of both images are the same too
pub pools_in-same : (types : List (ℕ × ℕ)) (F : ℕ) (i j : Image) → tables_of F j ≡ tables_of F i
    → ((frame : ℕ) → frame < F → is_some ((tables_of F i).puddles frame) ≡ true → HasSameFrame F i j frame) → pools_in types F j ≡ pools_in types F i
pools_in-same types F i j tables same =
    ap (pools_of (holding_in types F j)) tables ∙ pools_of-held types F i j (tables_of F i) (λ frame below used. same frame (omega (arith, frames_of_tables F i)) used)

-- ---- one more type

read_entry : (types : List (ℕ × ℕ)) (hold : Reader) (puddles : List (ℕ × (ℕ × Puddle))) (r : Option PoolRecord)
    → pool_entry (λ at. read_again types (hold at)) puddles r ≡ option_map (of_entry name_cmp (reread_pool types)) (pool_entry hold puddles r)
unfolding pool_of
read_entry types hold puddles None = refl
read_entry types hold puddles (Some r) = refl

pools_again : (types : List (ℕ × ℕ)) (hold : Reader) (t : Tables) → pools_of (λ at. read_again types (hold at)) t ≡ reread_pools types (pools_of hold t)
unfolding pools_of
pools_again types hold t =
    keyed-same name_cmp (entries (λ at. read_again types (hold at)) t) (λ slot. option_map (of_entry name_cmp (reread_pool types)) (entries hold t slot)) 0 POOL_RECORDS (λ slot low high. read_entry types hold (puddles_of t slot) (t.pools slot))
    ∙ keyed-mapped name_cmp (reread_pool types) (entries hold t) 0 POOL_RECORDS

-- with one more type, the pools store what they stored, read again by the types
pub pools_in-more : (id map : ℕ) (types : List (ℕ × ℕ)) (F : ℕ) (image : Image) → map_of id types ≡ None
    → pools_in (with_type id map types) F image ≡ reread_pools (with_type id map types) (pools_in types F image)
pools_in-more id map types F image none =
    let more = with_type id map types in
    let each : (at : List (ℕ × Puddle)) → holding_in more F image at ≡ read_again more (holding_in types F image at) = λ at. held_by-more id map types (stored_in F at image) none in
    ap (λ (hold : Reader). pools_of hold (tables_of F image)) (λ p at. each at p) ∙ pools_again more (holding_in types F image) (tables_of F image)

-- read again by the same types, the pools do not change
pub pools_in-again : (types : List (ℕ × ℕ)) (F : ℕ) (image : Image) → reread_pools types (pools_in types F image) ≡ pools_in types F image
pools_in-again types F image =
    let each : (at : List (ℕ × Puddle)) → read_again types (holding_in types F image at) ≡ holding_in types F image at = λ at. held_by-settled types (stored_in F at image) in
    sym (pools_again types (holding_in types F image) (tables_of F image)) ∙ ap (λ (hold : Reader). pools_of hold (tables_of F image)) (λ p at. each at p)
