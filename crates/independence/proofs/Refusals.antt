-- Why a command is refused, and how it is answered. Both depend only on the share of its pool, the types, the clients
-- and the file that it reads, except for limits that pools share.
use Rattle.std.proofs.Common.{◌≡◌, ◌⊎◌, inl, inr, ℕ, ◌+◌, Bool, true, false, not, cond, ltb, leb, is_some, is_none, ◌&&◌, ◌||◌, List, [], ◌∷◌, ◌++◌, find, codes, Option, Some, None, option_map, refl, sym, ap, ap₂, ◌∙◌}
use Rattle.pud_defs.specs.declared.layout.TheConstants.{LOG_ENTRY_WORDS, MAX_DEPTH}
use Rattle.pud_defs.specs.declared.machine.Command.{Command}
use Rattle.pud_defs.specs.declared.machine.Command.TheVariants.{Define, Begin, New, Set, Later, Free, Dump, Export, Import, Get}
use Rattle.pud_defs.specs.declared.machine.Command.TheVariants as commands
use Rattle.pud_defs.specs.declared.machine.Refusal.{Refusal}
use Rattle.pud_defs.specs.declared.machine.Refusal.TheVariants as refusals
use Rattle.pud_defs.specs.declared.objects.FieldValue.{FieldValue}
use Rattle.pud_defs.specs.declared.objects.FieldValue.TheVariants.{Ref}
use Rattle.pud_defs.specs.RegistryTables.Types.{map_of}
use Rattle.pud_defs.specs.RegistryTables.Spaces.{Owner}
use Rattle.pud_defs.specs.PoolGraphs.Graph.{Graph}
use Rattle.pud_defs.specs.PoolGraphs.DeferredValues.{deferred_set_names}
use Rattle.pud_defs.specs.Output.DumpText.{dump_text}
use Rattle.pud_defs.specs.PoolGraphs.ExportFile.{FileContents, file_graph}
use Rattle.pud_defs.specs.RegistryTables.Tables.{Pool}
use Rattle.pud_defs.specs.StateMachine.PoolChanges.{lacks_a_number}
use Rattle.pud_defs.specs.StateMachine.World.{World, Transaction}
use Rattle.pud_defs.specs.StateMachine.Transactions.{is_own, units_of, depth_of, deferred_of}
use Rattle.pud_defs.specs.StateMachine.Step.{has_owner_right, has_read_right, has_write_right, causes, client_of, name_in, is_allowed, charge, is_present, acting, graph_in, graph_seen, object_of, field_of, object_named, field_named, pool_for, open_for, graph_for, has_own_open, has_other_open, is_deep, type_named, lacks_object, differ_in_kind, mixes_kinds, is_referenced_in, frees_referenced, is_last_serial, has_all_puddles, class_made, is_all_live, file_for, contents_in, contents_named, of_contents, is_clash, is_full, clashes_with, clashes, overfills, cause_holds, refusal_of, text_for, next_in, value_for, value_or_ok, text_or, answer}
use Rattle.independence.specs.Own.{Names, is_within}
use Rattle.independence.specs.Shares.{seen}
use Rattle.independence.specs.Limits.{is_full_by_itself}
use Rattle.independence.proofs.Effects.{graph_in-seen, graph_seen-seen, all_live-seen, has_all_puddles-seen}

-- ---- two searches

-- the test of this element is the same in both searches, or neither search stops at it
abbrev pub SameOrNever : {A : Type 0} (f g : A → Bool) (xs : List A) → A → Type 0
SameOrNever f g xs x = (f x ≡ g x) ⊎ ((find f xs ≡ Some x → ⊥) × (find g xs ≡ Some x → ⊥))

module _ {A : Type 0} (f g : A → Bool) where
  -- after an element at which neither search stops, this still holds for the rest
  following : (x : A) (xs : List A) → f x ≡ false → g x ≡ false → ((y : A) → SameOrNever f g (x ∷ xs) y) → (y : A) → SameOrNever f g xs y
  following x xs no_f no_g each y = elim (each y) [
    | inl same ↦ inl same
    | inr never ↦ inr (
      (λ is. never.0 (ap (λ (b : Bool). cond b (Some x) (find f xs)) no_f ∙ is)),
      (λ is. never.1 (ap (λ (b : Bool). cond b (Some x) (find g xs)) no_g ∙ is)),
    )
  ]

  front : (x : A) (xs : List A) (a b : Bool) → f x ≡ a → g x ≡ b → SameOrNever f g (x ∷ xs) x → (f x ≡ false → g x ≡ false → find f xs ≡ find g xs) → cond a (Some x) (find f xs) ≡ cond b (Some x) (find g xs)
  front x xs true true is_f is_g at rest = refl
  front x xs false false is_f is_g at rest = rest is_f is_g
  front x xs true false is_f is_g (inl same) rest = absurd (let no : true ≡ false = sym is_f ∙ same ∙ is_g in cc)
  front x xs false true is_f is_g (inl same) rest = absurd (let no : false ≡ true = sym is_f ∙ same ∙ is_g in cc)
  front x xs true false is_f is_g (inr never) rest = absurd (never.0 (ap (λ (b : Bool). cond b (Some x) (find f xs)) is_f))
  front x xs false true is_f is_g (inr never) rest = absurd (never.1 (ap (λ (b : Bool). cond b (Some x) (find g xs)) is_g))

  -- both searches then find the same element, or none
  pub find-same : (xs : List A) → ((x : A) → SameOrNever f g xs x) → find f xs ≡ find g xs
  find-same [] each = refl
  find-same (x ∷ xs) each = front x xs (f x) (g x) refl refl (each x) (λ no_f no_g. find-same xs (following x xs no_f no_g each))

-- ---- worlds that look the same to a command

-- Both worlds have the same clients and types. In both, the command names a pool with the same share, and reads a file
-- with the same contents.
pub record LooksSame (w v : World) (c : Command) : Type 0 where
  pub clients : w.clients ≡ v.clients
  pub types : w.stored.types ≡ v.stored.types
  pub pool : seen (pool_for w c) ≡ seen (pool_for v c)
  pub opened : open_for w c ≡ open_for v c
  pub file : option_map file_graph (file_for w c) ≡ option_map file_graph (file_for v c)

-- The command is refused for no limit that pools share.
pub record IsUnlimited (w : World) (c : Command) : Type 0 where
  pub space : refusal_of w c ≡ Some refusals.Space → ⊥
  pub logs : refusal_of w c ≡ Some refusals.Logs → ⊥
  pub full : refusal_of w c ≡ Some refusals.Full → is_full_by_itself w (Some c) ≡ true

is_none-seen : (o : Option Pool) → is_none (seen o) ≡ is_none o
is_none-seen None = refl
is_none-seen (Some p) = refl

is_some-seen : (o : Option Pool) → is_some (seen o) ≡ is_some o
is_some-seen None = refl
is_some-seen (Some p) = refl

has_owner_right-seen : (who : Option Owner) (o : Option Pool) → has_owner_right who (seen o) ≡ has_owner_right who o
has_owner_right-seen None o = refl
has_owner_right-seen (Some who) None = refl
has_owner_right-seen (Some who) (Some p) = refl

has_read_right-seen : (who : Option Owner) (o : Option Pool) → has_read_right who (seen o) ≡ has_read_right who o
has_read_right-seen None o = refl
has_read_right-seen (Some who) None = refl
has_read_right-seen (Some who) (Some p) = refl

has_write_right-seen : (who : Option Owner) (o : Option Pool) → has_write_right who (seen o) ≡ has_write_right who o
has_write_right-seen None o = refl
has_write_right-seen (Some who) None = refl
has_write_right-seen (Some who) (Some p) = refl

is_allowed-seen : (c : Command) (who : Option Owner) (o : Option Pool) → is_allowed c who (seen o) ≡ is_allowed c who o
is_allowed-seen (Get client n s f) who o = has_read_right-seen who o
is_allowed-seen (Dump client n) who o = has_read_right-seen who o
is_allowed-seen (Export client n file) who o = has_read_right-seen who o
is_allowed-seen (Begin client n) who o = has_write_right-seen who o
is_allowed-seen c who o = has_owner_right-seen who o

is_none-mapped : {A B : Type 0} (f : A → B) (o : Option A) → is_none (option_map f o) ≡ is_none o
is_none-mapped f None = refl
is_none-mapped f (Some x) = refl

-- an option within an option, as one option
abbrev inner : {A : Type 0} → Option (Option A) → Option A
inner None = None
inner (Some o) = o

contents_in-inner : (o : Option (List ℕ)) → contents_in o ≡ inner (option_map file_graph o)
contents_in-inner None = refl
contents_in-inner (Some bytes) = refl

module _ (w v : World) (c : Command) (same : LooksSame w v c) where
  -- a value that does not depend on the pool's UUID number is the same in both worlds
  alike : {A : Type 0} (f : Option Pool → A) → ((o : Option Pool) → f (seen o) ≡ f o) → f (pool_for w c) ≡ f (pool_for v c)
  alike f each = sym (each (pool_for w c)) ∙ ap f same.pool ∙ each (pool_for v c)

  pub graph_for-same : graph_for w c ≡ graph_for v c
  graph_for-same = ap (λ (t : Option Transaction). graph_seen t (pool_for w c)) same.opened ∙ alike (graph_seen (open_for v c)) (graph_seen-seen (open_for v c))

  pub contents-same : contents_named w c ≡ contents_named v c
  contents-same = contents_in-inner (file_for w c) ∙ ap inner same.file ∙ sym (contents_in-inner (file_for v c))

  no_file-same : is_none (file_for w c) ≡ is_none (file_for v c)
  no_file-same = sym (is_none-mapped file_graph (file_for w c)) ∙ ap is_none same.file ∙ is_none-mapped file_graph (file_for v c)

  allowed-same : is_allowed c (acting w.clients (client_of c)) (pool_for w c) ≡ is_allowed c (acting v.clients (client_of c)) (pool_for v c)
  allowed-same = ap (λ (clients : ℕ → Option Owner). is_allowed c (acting clients (client_of c)) (pool_for w c)) same.clients
      ∙ alike (is_allowed c (acting v.clients (client_of c))) (is_allowed-seen c (acting v.clients (client_of c)))

kind-same : (w v : World) (c : Command) → graph_for w c ≡ graph_for v c → mixes_kinds w c ≡ mixes_kinds v c
kind-same w v (Set client n s f x) graph = ap (λ (g : Option Graph). differ_in_kind (field_of f (object_of s g)) x) graph
kind-same w v (Later client n s f x) graph = ap (λ (g : Option Graph). differ_in_kind (field_of f (object_of s g)) x) graph
kind-same w v c graph = refl

held-same : (w v : World) (c : Command) → graph_for w c ≡ graph_for v c → open_for w c ≡ open_for v c → frees_referenced w c ≡ frees_referenced v c
held-same w v (Free client n s) graph opened = ap₂ (λ (g : Option Graph) (t : Option Transaction). is_referenced_in s g || deferred_set_names s (deferred_of t)) graph opened
held-same w v c graph opened = refl

deep-same : (w v : World) (c : Command) → open_for w c ≡ open_for v c → is_deep w c ≡ is_deep v c
deep-same w v (Begin client n) opened = ap (λ (t : Option Transaction). is_own client t && leb MAX_DEPTH (depth_of t)) opened
deep-same w v c opened = refl

clash-same : (w v : World) (c : Command) → w.stored.types ≡ v.stored.types → contents_named w c ≡ contents_named v c → clashes w c ≡ clashes v c
clash-same w v (Define id map) types contents = ap (λ (t : List (ℕ × ℕ)). is_clash t id map) types
clash-same w v (Import client n file mode) types contents = ap₂ (λ (t : List (ℕ × ℕ)) (o : Option FileContents). of_contents (λ contents. clashes_with t contents.types) o) types contents
clash-same w v c types contents = refl

-- `last` and `all` are the two limits that a pool has by itself. If one of them is met, the pool is full in both worlds
-- or in neither, whatever UUID numbers are left. If none is met, neither world refuses the command because the pool is
-- full.
full_or_never : (P Q : Type 0) (last all grows x y : Bool) → (P → (last || all) ≡ true) → (Q → (last || all) ≡ true)
    → ((last || (grows && (all || x))) ≡ (last || (grows && (all || y)))) ⊎ ((P → ⊥) × (Q → ⊥))
full_or_never P Q true all grows x y h k = inl refl
full_or_never P Q false true grows x y h k = inl refl
full_or_never P Q false false grows x y h k = inr ((λ p. let no : false ≡ true = h p in absurd (cc)), (λ q. let no : false ≡ true = k q in absurd (cc)))

never_full : (P Q : Type 0) → (P → false ≡ true) → (Q → false ≡ true) → (P → ⊥) × (Q → ⊥)
never_full P Q h k = ((λ p. let no : false ≡ true = h p in absurd (cc)), (λ q. let no : false ≡ true = k q in absurd (cc)))

full-same : (w v : World) (c : Command) → LooksSame w v c → graph_for w c ≡ graph_for v c
    → (refusal_of w c ≡ Some refusals.Full → is_full_by_itself w (Some c) ≡ true) → (refusal_of v c ≡ Some refusals.Full → is_full_by_itself v (Some c) ≡ true)
    → (overfills w c ≡ overfills v c) ⊎ ((refusal_of w c ≡ Some refusals.Full → ⊥) × (refusal_of v c ≡ Some refusals.Full → ⊥))
full-same w v (Define id map) same graph h k = inl (ap (λ (t : List (ℕ × ℕ)). is_full t id) same.types)
full-same w v (commands.Pool client n mode) same graph h k = inr (never_full _ _ h k)
full-same w v (Import client n file mode) same graph h k = inr (never_full _ _ h k)
full-same w v (New client n t) same graph h k =
    let c = New client n t in
    let last = ap is_last_serial graph in
    let all = alike w v c same has_all_puddles has_all_puddles-seen in
    let class = class_made v.stored.types t in
    let grows =
    ap₂ (λ (types : List (ℕ × ℕ)) (g : Option Graph). is_all_live (class_made types t) g (pool_for w c)) same.types graph
    ∙ alike w v c same (is_all_live class (graph_for v c)) (all_live-seen class (graph_for v c)) in
    elim (full_or_never _ _ (is_last_serial (graph_for v c)) (has_all_puddles (pool_for v c)) (is_all_live class (graph_for v c) (pool_for v c))
    (lacks_a_number w.stored.next_number) (lacks_a_number v.stored.next_number) (λ p. sym (λ i. last i || all i) ∙ h p) k) [
      | inl is ↦ inl ((λ i. last i || (grows i && (all i || lacks_a_number w.stored.next_number))) ∙ is)
      | inr never ↦ inr never
    ]
full-same w v c same graph h k = inl refl

module _ (w v : World) (c : Command) (same : LooksSame w v c) (p : IsUnlimited w c) (q : IsUnlimited v c) where
  abbrev seen_same : graph_for w c ≡ graph_for v c
  seen_same = graph_for-same w v c same

  each_same : (r : Refusal) → SameOrNever (cause_holds w c) (cause_holds v c) (causes c) r
  unfolding cause_holds refusal_of
  each_same refusals.Bad = inl refl
  each_same refusals.Client = inl (ap (λ (clients : ℕ → Option Owner). not (is_present clients (client_of c))) same.clients)
  each_same refusals.Taken = inl (ap (λ (clients : ℕ → Option Owner). is_present clients (client_of c)) same.clients)
  each_same refusals.Pool = inl (alike w v c same is_none is_none-seen)
  each_same refusals.Exists = inl (alike w v c same is_some is_some-seen)
  each_same refusals.Wild = inl (alike w v c same (λ o. is_none (graph_in o)) (λ o. ap is_none (graph_in-seen o)))
  each_same refusals.Denied = inl (ap not (allowed-same w v c same))
  each_same refusals.Busy = inl (ap (has_other_open (client_of c)) same.opened)
  each_same refusals.OpenHere = inl (ap (has_own_open (client_of c)) same.opened)
  each_same refusals.Tx = inl (ap (λ (t : Option Transaction). not (has_own_open (client_of c) t)) same.opened)
  each_same refusals.NoType = inl (ap (λ (types : List (ℕ × ℕ)). is_none (map_of (type_named c) types)) same.types)
  each_same refusals.Object = inl (ap (lacks_object c) seen_same)
  each_same refusals.Field = inl (ap (λ (g : Option Graph). is_none (field_named c (object_named c g))) seen_same)
  each_same refusals.Kind = inl (kind-same w v c seen_same)
  each_same refusals.Held = inl (held-same w v c seen_same same.opened)
  each_same refusals.Deep = inl (deep-same w v c same.opened)
  each_same refusals.Logs = inr (p.logs, q.logs)
  each_same refusals.TooBig = inl (ap₂ (λ (t : Option Transaction) (types : List (ℕ × ℕ)). ltb LOG_ENTRY_WORDS (units_of t + charge c types)) same.opened same.types)
  each_same refusals.File = inl (no_file-same w v c same)
  each_same refusals.Memory = inl refl
  each_same refusals.BadFile = inl (ap is_none (contents-same w v c same))
  each_same refusals.Clash = inl (clash-same w v c same.types (contents-same w v c same))
  each_same refusals.Full = full-same w v c same seen_same p.full q.full
  each_same refusals.Space = inr (p.space, q.space)

  -- both worlds refuse the command for the same reason, or neither refuses it
  pub refusal_of-same : refusal_of w c ≡ refusal_of v c
  unfolding refusal_of
  refusal_of-same = find-same (cause_holds w c) (cause_holds v c) (causes c) each_same

-- ---- what is answered

value-same : (w v : World) (c : Command) → graph_for w c ≡ graph_for v c → value_for w c ≡ value_for v c
value-same w v (Get client n s f) graph = ap (λ (g : Option Graph). field_of f (object_of s g)) graph
value-same w v (New client n t) graph = ap (λ (g : Option Graph). Some (Ref (next_in g))) graph
value-same w v c graph = refl

text-same : (S : Names) (w v : World) (c : Command) → is_within S (name_in c) ≡ true → graph_for w c ≡ graph_for v c → text_for w c ≡ text_for v c
text-same S w v commands.Pools named graph = absurd (let no : false ≡ true = named in cc)
text-same S w v (Dump client n) named graph = ap (λ (o : Option Graph). option_map (λ g. codes " " ++ dump_text g) o) graph
text-same S w v c named graph = refl

-- a command that names a pool and is not refused is answered the same in both worlds
pub answer-same : (S : Names) (w v : World) (c : Command) → is_within S (name_in c) ≡ true → LooksSame w v c → answer w c ≡ answer v c
unfolding answer
answer-same S w v c named same =
    let graph = graph_for-same w v c same in
    ap₂ (λ (o : Option FieldValue) (text : Option (List ℕ)). text_or (value_or_ok o) text) (value-same w v c graph) (text-same S w v c named graph)
