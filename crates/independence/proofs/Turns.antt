-- Two runs side by side. Worlds that agree for a set of pools still agree after an own line of the set in both, and
-- after a line of another pool in one of them.
use Rattle.std.proofs.Common.{◌≡◌, ◌⊎◌, inl, inr, ℕ, Bool, true, false, not, cond, is_some, is_none, List, [], ◌∷◌, map, bytes_eq, Option, Some, None, option_map, nat_cmp, refl, sym, ap, ap₂, ◌∙◌, subst}
use Rattle.std.specs.FinMap.Entries.{find-put, find-where_key}
use Rattle.std.specs.Cmp.{tied_itself}
use Rattle.std.specs.declared.cmp.Ordering.{Ordering}
use Rattle.std.proofs.lemmas.Slice.Eq.{bytes_eq-Decides}
use Rattle.std.specs.Ordering.{is_eq, eq_by_cmp}
use Rattle.std.proofs.lemmas.Cmp.{nat_cmp_total}
use Rattle.pud_defs.specs.declared.machine.Command.{Command}
use Rattle.pud_defs.specs.declared.machine.Command.TheVariants.{Client, Leave, Define, Cut, Export, Import}
use Rattle.pud_defs.specs.declared.machine.Reply.TheVariants as replies
use Rattle.pud_defs.specs.declared.machine.Refusal.{Refusal}
use Rattle.pud_defs.specs.declared.machine.Refusal.TheVariants as refusals
use Rattle.pud_defs.specs.RegistryTables.Types.{map_of, with_type}
use Rattle.pud_defs.specs.RegistryTables.Spaces.{Owner}
use Rattle.pud_defs.specs.PoolGraphs.ExportFile.{FileContents, file_graph}
use Rattle.pud_defs.specs.RegistryTables.Tables.{Pool}
use Rattle.pud_defs.specs.StateMachine.World.{World}
use Rattle.pud_defs.specs.StateMachine.PoolChanges.{pool_named}
use Rattle.pud_defs.specs.StateMachine.Imports.{types_missing}
use Rattle.pud_defs.specs.Output.Listing.{name_text}
use Rattle.pud_defs.specs.StateMachine.Grammar.{command_of}
use Rattle.pud_defs.specs.StateMachine.Step.{Answer, name_in, pool_by_name, open_by_name, file_for, contents_named, refusal_of, after, answer, answer_unless, answer_by, unless_refused}
use Rattle.pud_defs.specs.StateMachine.Step.Answer.{of_reply}
use Rattle.pud_defs.specs.StateMachine.Gives.{Shelf, contents_of_pool, Exports, GivesShelf, GivesUnless, Gives}
use Rattle.pud_defs.specs.StateMachine.Run.{Turn, IsTurn, is_cut}
use Rattle.pud_defs.proofs.RegistryTables.TypeLists.{same_number}
use Rattle.independence.specs.Own.{Names, is_within, is_none_or_within, name_of_command, is_line_of_set}
use Rattle.independence.specs.Shares.{seen, Share, share}
use Rattle.independence.specs.Limits.{is_full_by_itself, is_limit, is_at_limit}
use Rattle.independence.specs.Premises.{DefinesNone, file_read, LeavesFiles}
use Rattle.independence.specs.Independence.{LeavesOthers}
use Rattle.independence.proofs.Shares.{reread, types_with}
use Rattle.independence.proofs.Effects.{effect, beside, touches, touched, clients_made, types_made, share_after, clients_after, types_after}
use Rattle.independence.proofs.Refusals.{LooksSame, IsUnlimited, contents-same, refusal_of-same, answer-same}

-- ---- what a turn is

-- The line was carried out or refused: its answer and the next world are those that its command gives.
pub record IsPlain (w : World) (t : Turn) : Type 0 where
  pub answered : t.answer ≡ answer_by w (command_of t.line)
  pub gives : Gives w (command_of t.line) t.next

-- A command was carried out.
pub record IsCarriedOut (w : World) (c : Command) (next : World) : Type 0 where
  pub done : refusal_of w c ≡ None
  pub shelf : GivesShelf w c next.shelf
  pub rest : next ≡ record (after w c) { shelf = next.shelf }

-- A command was refused, and the world did not change.
pub record IsRefused (w : World) (c : Command) (next : World) : Type 0 where
  pub refusal : Refusal
  pub is : refusal_of w c ≡ Some refusal
  pub stays : next ≡ w

limit_is_met : (w : World) (t : Turn) (a : Answer) → t.answer ≡ a → is_limit (is_full_by_itself w (command_of t.line)) a ≡ true → is_at_limit w t ≡ false → ⊥
limit_is_met w t a is met none = let no : true ≡ false = sym met ∙ ap (is_limit (is_full_by_itself w (command_of t.line))) (sym is) ∙ none in cc

cut_is_met : (t : Turn) → t.answer ≡ of_reply replies.Cut → is_cut t.answer ≡ false → ⊥
cut_is_met t is none = let no : true ≡ false = ap is_cut (sym is) ∙ none in cc

-- if no limit was met, the line was carried out or refused
pub IsPlain-turn : (w : World) (t : Turn) → IsTurn w t → is_at_limit w t ≡ false → IsPlain w t
IsPlain-turn w t (inl step) none = elim step.step [
  | inl done ↦ record { answered = done.answered; gives = subst (λ (v : World). Gives w (command_of t.line) v) (sym step.goes_on) done.gives }
  | inr out ↦ absurd (limit_is_met w t _ out.answered refl none)
]
IsPlain-turn w t (inr cut) none = absurd (limit_is_met w t _ cut.answered refl none)

-- if power was not lost, the line was carried out or refused, or the world did not change
pub plain_or_still : (w : World) (t : Turn) → IsTurn w t → is_cut t.answer ≡ false → IsPlain w t ⊎ (t.next ≡ w)
plain_or_still w t (inl step) none = elim step.step [
  | inl done ↦ inl (record { answered = done.answered; gives = subst (λ (v : World). Gives w (command_of t.line) v) (sym step.goes_on) done.gives })
  | inr out ↦ inr (step.goes_on ∙ out.stays)
]
plain_or_still w t (inr cut) none = absurd (cut_is_met t cut.answered none)

-- a line that is no command does not change the world
pub still_where_none : (w : World) (command : Option Command) (next : World) → command ≡ None → Gives w command next → next ≡ w
still_where_none w None next is gives = gives.rest ∙ ap (λ (shelf : Shelf). record w { shelf = shelf }) gives.shelf
still_where_none w (Some c) next is gives = absurd (cc)

carried_or_refused : (w : World) (c : Command) (next : World) (r : Option Refusal) → refusal_of w c ≡ r → GivesUnless r w c next.shelf → next ≡ record (unless_refused r w (after w c)) { shelf = next.shelf } → IsCarriedOut w c next ⊎ IsRefused w c next
carried_or_refused w c next None is shelf rest = inl (record { done = is; shelf = shelf; rest = rest })
carried_or_refused w c next (Some r) is shelf rest = inr (record { refusal = r; is = is; stays = rest ∙ ap (λ (shelf : Shelf). record w { shelf = shelf }) shelf })

-- a command was carried out or refused
pub by_refusal : (w : World) (c : Command) (next : World) → Gives w (Some c) next → IsCarriedOut w c next ⊎ IsRefused w c next
by_refusal w c next gives = carried_or_refused w c next (refusal_of w c) refl gives.shelf gives.rest

-- ---- limits

not_false : (b : Bool) → not b ≡ false → b ≡ true
not_false true h = refl
not_false false h = absurd (let no : true ≡ false = h in cc)

-- a command that met no limit is not refused for a limit
pub IsUnlimited-plain : (w : World) (t : Turn) (c : Command) → command_of t.line ≡ Some c → IsPlain w t → is_at_limit w t ≡ false → IsUnlimited w c
IsUnlimited-plain w t c is plain none =
    let refused : (r : Refusal) → refusal_of w c ≡ Some r → is_limit (is_full_by_itself w (Some c)) (of_reply (replies.No r)) ≡ false = λ r holds.
    let said = plain.answered ∙ ap (answer_by w) is ∙ ap (λ (o : Option Refusal). answer_unless o (answer w c)) holds in
    ap₂ (λ (o : Option Command) (a : Answer). is_limit (is_full_by_itself w o) a) (sym is) (sym said) ∙ none in
    record {
      space = λ holds. let no : true ≡ false = refused refusals.Space holds in cc;
      logs = λ holds. let no : true ≡ false = refused refusals.Logs holds in cc;
      full = λ holds. not_false (is_full_by_itself w (Some c)) (refused refusals.Full holds);
    }

-- ---- worlds that agree

-- the contents of a file, if the file exists: what it describes, if it is an export file
abbrev pub contents : World → List ℕ → Option (Option FileContents)
contents w file = option_map file_graph (w.shelf file)

-- Both worlds have the same clients, the same types, the same shares of the pools of a set, and the same contents of
-- some files.
pub record Agree (S : Names) (F : List ℕ → Bool) (w v : World) : Type 0 where
  pub clients : w.clients ≡ v.clients
  pub types : w.stored.types ≡ v.stored.types
  pub shares : (name : List ℕ) → S name ≡ true → share w name ≡ share v name
  pub files : (file : List ℕ) → F file ≡ true → contents w file ≡ contents v file

pub Agree-itself : (S : Names) (F : List ℕ → Bool) (w : World) → Agree S F w w
Agree-itself S F w = record { clients = refl; types = refl; shares = λ name within. refl; files = λ file within. refl }

pub Agree-then : (S : Names) (F : List ℕ → Bool) (u w v : World) → Agree S F u w → Agree S F w v → Agree S F u v
Agree-then S F u w v p q = record {
  clients = p.clients ∙ q.clients;
  types = p.types ∙ q.types;
  shares = λ name within. p.shares name within ∙ q.shares name within;
  files = λ file within. p.files file within ∙ q.files file within;
}

-- each file that the command reads is one of these
abbrev pub ReadsAmong : (List ℕ → Bool) → Command → Type 0
ReadsAmong F c = (file : List ℕ) → file_read c ≡ Some file → F file ≡ true

module _ (S : Names) (F : List ℕ → Bool) (w v : World) (agree : Agree S F w v) where
  pool-same : (o : Option (List ℕ)) → is_none_or_within S o ≡ true → seen (pool_by_name w.stored o) ≡ seen (pool_by_name v.stored o)
  pool-same None is_line_of_set = refl
  pool-same (Some name) is_line_of_set = ap (λ (s : Share). s.pool) (agree.shares name is_line_of_set)

  open-same : (o : Option (List ℕ)) → is_none_or_within S o ≡ true → open_by_name w o ≡ open_by_name v o
  open-same None is_line_of_set = refl
  open-same (Some name) is_line_of_set = ap (λ (s : Share). s.transaction) (agree.shares name is_line_of_set)

  file-same : (c : Command) → ReadsAmong F c → option_map file_graph (file_for w c) ≡ option_map file_graph (file_for v c)
  file-same (Import client name file mode) among = agree.files (name_text file) (among (name_text file) refl)
  file-same c among = refl

  -- both worlds look the same to a command of the set
  pub LooksSame-own : (c : Command) → is_none_or_within S (name_in c) ≡ true → ReadsAmong F c → LooksSame w v c
  LooksSame-own c is_line_of_set among = record {
    clients = agree.clients;
    types = agree.types;
    pool = pool-same (name_in c) is_line_of_set;
    opened = open-same (name_in c) is_line_of_set;
    file = file-same c among;
  }

-- ---- an own line in both worlds

within_touched : (S : Names) (q : List ℕ) (o : Option (List ℕ)) → is_none_or_within S o ≡ true → S q ≡ true → S (touched q o) ≡ true
within_touched S q None is_line_of_set within = within
within_touched S q (Some n) is_line_of_set within = is_line_of_set

contents_of_pool-seen : (types : List (ℕ × ℕ)) (o : Option Pool) → contents_of_pool types (seen o) ≡ contents_of_pool types o
contents_of_pool-seen types None = refl
contents_of_pool-seen types (Some p) = refl

written-same : (file q a b : List ℕ) (old other : Option (List ℕ)) (test : Bool) → file_graph a ≡ file_graph b → option_map file_graph old ≡ option_map file_graph other
    → option_map file_graph (cond test (Some a) old) ≡ option_map file_graph (cond test (Some b) other)
written-same file q a b old other true same rest = ap (λ (o : Option FileContents). Some o) same
written-same file q a b old other false same rest = rest

exported-same : (w v : World) (c : Command) (n file : List ℕ) → w.stored.types ≡ v.stored.types → seen (pool_named n w.stored) ≡ seen (pool_named n v.stored)
    → (a b : Shelf) → Exports w n file a → Exports v n file b → (q : List ℕ) → contents w q ≡ contents v q → option_map file_graph (a q) ≡ option_map file_graph (b q)
exported-same w v c n file types pool a b x y q before =
    let held = sym (contents_of_pool-seen w.stored.types (pool_named n w.stored)) ∙ ap₂ contents_of_pool types pool ∙ contents_of_pool-seen v.stored.types (pool_named n v.stored) in
    let holds = x.holds ∙ sym x.held ∙ held ∙ y.held ∙ sym y.holds in
    ap (λ (shelf : Shelf). option_map file_graph (shelf q)) x.given
    ∙ written-same file q x.bytes y.bytes (w.shelf q) (v.shelf q) (bytes_eq q file) holds before
    ∙ ap (λ (shelf : Shelf). option_map file_graph (shelf q)) (sym y.given)

shelves-same : (w v : World) (c : Command) → LooksSame w v c → (a b : Shelf) → GivesShelf w c a → GivesShelf v c b → (q : List ℕ) → contents w q ≡ contents v q
    → option_map file_graph (a q) ≡ option_map file_graph (b q)
shelves-same w v (Export client n file) same a b x y q before = exported-same w v (Export client n file) n (name_text file) same.types same.pool a b x y q before
shelves-same w v c same a b x y q before = ap (λ (shelf : Shelf). option_map file_graph (shelf q)) x ∙ before ∙ ap (λ (shelf : Shelf). option_map file_graph (shelf q)) (sym y)

module _ (S : Names) (F : List ℕ → Bool) (w v : World) (agree : Agree S F w v) (c : Command) (is_line_of_set : is_none_or_within S (name_in c) ≡ true) (among : ReadsAmong F c) where
  abbrev same : LooksSame w v c
  same = LooksSame-own S F w v agree c is_line_of_set among

  share_after-same : (q : List ℕ) → S q ≡ true → share (after w c) q ≡ share (after v c) q
  share_after-same q within =
      let here = agree.shares (touched q (name_in c)) (within_touched S q (name_in c) is_line_of_set within) in
      let there = agree.shares q within in
      let held = contents-same w v c same in
      share_after w q c
      ∙ (λ i. cond (touches q (name_in c)) (effect (agree.clients i) (agree.types i) (held i) c (here i)) (beside (agree.types i) (held i) (there i)))
      ∙ sym (share_after v q c)

  pub Agree-done : (a b : World) → IsCarriedOut w c a → IsCarriedOut v c b → Agree S F a b
  Agree-done a b x y = record {
    clients = ap (λ (z : World). z.clients) x.rest ∙ clients_after w c ∙ ap (clients_made c) agree.clients ∙ sym (clients_after v c) ∙ ap (λ (z : World). z.clients) (sym y.rest);
    types = ap (λ (z : World). z.stored.types) x.rest ∙ types_after w c ∙ ap₂ (types_made c) (contents-same w v c same) agree.types ∙ sym (types_after v c) ∙ ap (λ (z : World). z.stored.types) (sym y.rest);
    shares = λ q within. ap (λ (z : World). share z q) x.rest ∙ share_after-same q within ∙ ap (λ (z : World). share z q) (sym y.rest);
    files = λ q within. shelves-same w v c same a.shelf b.shelf x.shelf y.shelf q (agree.files q within);
  }

  -- after a command of the set the worlds agree: it is refused in both or carried out in both
  pub Agree-own : (a b : World) → IsUnlimited w c → IsUnlimited v c → Gives w (Some c) a → Gives v (Some c) b → Agree S F a b
  Agree-own a b p q x y =
      let refusals_same = refusal_of-same w v c same p q in
      elim (by_refusal w c a x) [
        | inl done ↦ elim (by_refusal v c b y) [
          | inl also ↦ Agree-done a b done also
          | inr refused ↦ absurd (let no : None ≡ Some refused.refusal = sym done.done ∙ refusals_same ∙ refused.is in cc)
        ]
        | inr refused ↦ elim (by_refusal v c b y) [
          | inl done ↦ absurd (let no : Some refused.refusal ≡ None = sym refused.is ∙ refusals_same ∙ done.done in cc)
          | inr also ↦ subst (λ (z : World). Agree S F z b) (sym refused.stays) (subst (λ (z : World). Agree S F w z) (sym also.stays) agree)
        ]
      ]

  -- a command that names a pool of the set is answered the same in both worlds
  pub answers-same : IsUnlimited w c → IsUnlimited v c → is_within S (name_in c) ≡ true → answer_by w (Some c) ≡ answer_by v (Some c)
  answers-same p q within = ap₂ answer_unless (refusal_of-same w v c same p q) (answer-same S w v c within same)

-- ---- another's line

-- no type of the contents is missing
abbrev AddsNone : List (ℕ × ℕ) → Option FileContents → Type 0
AddsNone types None = Unit {0}
AddsNone types (Some file) = types_missing types file.types ≡ []

none_by : (o found : Option ℕ) (x : ℕ) → cond (is_none o) found None ≡ Some x → o ≡ None
none_by None found x is = refl
none_by (Some y) found x is = absurd (let no : None ≡ Some x = is in cc)

found_front : (t : ℕ × ℕ) (rest : List (ℕ × ℕ)) → map_of t.0 (t ∷ rest) ≡ Some t.1
found_front t rest = ap (λ (o : Ordering). cond (is_eq o) (Some t.1) (map_of t.0 rest)) (tied_itself nat_cmp_total t.0)

-- the first missing type is not defined
front_is_missing : (types file : List (ℕ × ℕ)) (t : ℕ × ℕ) (rest : List (ℕ × ℕ)) → types_missing types file ≡ t ∷ rest → map_of t.0 types ≡ None
front_is_missing types file t rest is =
    let test : ℕ → Bool = λ id. is_none (map_of id types) in
    none_by (map_of t.0 types) (map_of t.0 file) t.1
    (sym (find-where_key nat_cmp test t.0 (λ x tied. ap test (sym (same_number t.0 x tied))) file) ∙ ap (map_of t.0) is ∙ found_front t rest)

some_either : (b : Bool) (x : ℕ) (o : Option ℕ) → is_some o ≡ true → is_some (cond b (Some x) o) ≡ true
some_either true x o there = refl
some_either false x o there = there

-- a defined type stays defined
stays_defined : (id : ℕ) (missing types : List (ℕ × ℕ)) → is_some (map_of id types) ≡ true → is_some (map_of id (types_with missing types)) ≡ true
stays_defined id [] types there = there
stays_defined id (t ∷ missing) types there =
    stays_defined id missing (with_type t.0 t.1 types) (ap is_some (find-put nat_cmp nat_cmp_total id t.0 t.1 types) ∙ some_either (eq_by_cmp nat_cmp id t.0) t.1 (map_of id types) there)

-- a type that a file brings is defined after it is added
brought_is_defined : (t : ℕ × ℕ) (missing types : List (ℕ × ℕ)) → is_some (map_of t.0 (types_with (t ∷ missing) types)) ≡ true
brought_is_defined t missing types =
    stays_defined t.0 missing (with_type t.0 t.1 types)
    (ap is_some (find-put nat_cmp nat_cmp_total t.0 t.0 t.1 types ∙ ap (λ (o : Ordering). cond (is_eq o) (Some t.1) (map_of t.0 types)) (tied_itself nat_cmp_total t.0)))

none_missing : (types file missing : List (ℕ × ℕ)) → types_missing types file ≡ missing → ((id : ℕ) → map_of id types ≡ None → map_of id (types_with missing types) ≡ None) → types_missing types file ≡ []
none_missing types file [] is defines_none = is
none_missing types file (t ∷ rest) is defines_none =
    absurd (let no : true ≡ false = sym (brought_is_defined t rest types) ∙ ap is_some (defines_none t.0 (front_is_missing types file t rest is)) in cc)

adds_none : (w : World) (client : ℕ) (name file : List ℕ) (mode : ℕ) (held : Option FileContents)
    → ((id : ℕ) → map_of id w.stored.types ≡ None → map_of id (types_made (Import client name file mode) held w.stored.types) ≡ None) → AddsNone w.stored.types held
adds_none w client name file mode None defines_none = tt
adds_none w client name file mode (Some contents) defines_none = none_missing w.stored.types contents.types (types_missing w.stored.types contents.types) refl defines_none

AddsNone-after : (w : World) (c : Command) → ((id : ℕ) → map_of id w.stored.types ≡ None → map_of id (types_made c (contents_named w c) w.stored.types) ≡ None) → AddsNone w.stored.types (contents_named w c)
AddsNone-after w (Import client name file mode) defines_none = adds_none w client name file mode (contents_named w (Import client name file mode)) defines_none
AddsNone-after w c defines_none = tt

beside-none : (types : List (ℕ × ℕ)) (held : Option FileContents) (s : Share) → AddsNone types held → beside types held s ≡ s
beside-none types None s none = refl
beside-none types (Some file) s none = ap (λ (missing : List (ℕ × ℕ)). record s { pool = reread missing types s.pool }) none

-- a command of another pool changes no types, if its file adds none
types_made-named : (S : Names) (c : Command) (types : List (ℕ × ℕ)) (held : Option FileContents) → is_none_or_within S (name_in c) ≡ false → AddsNone types held → types_made c held types ≡ types
types_made-named S (Define id map) types held named none = absurd (let no : true ≡ false = named in cc)
types_made-named S c types None named none = refl
types_made-named S c types (Some file) named none = ap (λ (missing : List (ℕ × ℕ)). types_with missing types) none

clients_made-named : (S : Names) (c : Command) (clients : ℕ → Option Owner) → is_none_or_within S (name_in c) ≡ false → clients_made c clients ≡ clients
clients_made-named S (Client client uid gid) clients named = absurd (let no : true ≡ false = named in cc)
clients_made-named S (Leave client) clients named = absurd (let no : true ≡ false = named in cc)
clients_made-named S (Cut pick) clients named = absurd (let no : true ≡ false = named in cc)
clients_made-named S c clients named = refl

-- a name in the set differs from each name outside it
apart : (S : Names) (q n : List ℕ) (b : Bool) → bytes_eq q n ≡ b → S n ≡ false → S q ≡ true → b ≡ false
apart S q n true same outside within = absurd (let no : true ≡ false = sym within ∙ ap S ((bytes_eq-Decides q n).0 same) ∙ outside in cc)
apart S q n false same outside within = refl

untouched : (S : Names) (q : List ℕ) (o : Option (List ℕ)) → is_none_or_within S o ≡ false → S q ≡ true → touches q o ≡ false
untouched S q None outside within = absurd (let no : true ≡ false = outside in cc)
untouched S q (Some n) outside within = apart S q n (bytes_eq q n) refl outside within

-- A command of another pool was carried out, and defines no type.
module _ (S : Names) (w : World) (c : Command) (next : World) (outside : is_none_or_within S (name_in c) ≡ false) (done : IsCarriedOut w c next)
    (defines_none : (id : ℕ) → map_of id w.stored.types ≡ None → map_of id next.stored.types ≡ None) where
  abbrev types_next : next.stored.types ≡ types_made c (contents_named w c) w.stored.types
  types_next = ap (λ (z : World). z.stored.types) done.rest ∙ types_after w c

  none_added : AddsNone w.stored.types (contents_named w c)
  none_added = AddsNone-after w c (λ id none. ap (map_of id) (sym types_next) ∙ defines_none id none)

  pub share_outside : (q : List ℕ) → S q ≡ true → share next q ≡ share w q
  share_outside q within =
      ap (λ (z : World). share z q) done.rest ∙ share_after w q c
      ∙ ap (λ (b : Bool). cond b (effect w.clients w.stored.types (contents_named w c) c (share w (touched q (name_in c)))) (beside w.stored.types (contents_named w c) (share w q))) (untouched S q (name_in c) outside within)
      ∙ beside-none w.stored.types (contents_named w c) (share w q) none_added

  pub Agree-outside : (F : List ℕ → Bool) → ((file : List ℕ) → F file ≡ true → next.shelf file ≡ w.shelf file) → Agree S F next w
  Agree-outside F leaves = record {
    clients = ap (λ (z : World). z.clients) done.rest ∙ clients_after w c ∙ clients_made-named S c w.clients outside;
    types = types_next ∙ types_made-named S c w.stored.types (contents_named w c) outside none_added;
    shares = share_outside;
    files = λ file within. ap (λ (bytes : Option (List ℕ)). option_map file_graph bytes) (leaves file within);
  }

Agree-still : (S : Names) (F : List ℕ → Bool) (w next : World) → next ≡ w → Agree S F next w
Agree-still S F w next still = subst (λ (z : World). Agree S F z w) (sym still) (Agree-itself S F w)

own_where_none : (S : Names) (line : List ℕ) → command_of line ≡ None → is_line_of_set S line ≡ true
own_where_none S line is = ap (λ (o : Option Command). is_none_or_within S (name_of_command o)) is

another_plain : (S : Names) (F : List ℕ → Bool) (w : World) (t : Turn) (command : Option Command) → command_of t.line ≡ command → is_line_of_set S t.line ≡ false → IsPlain w t → DefinesNone w t
    → ((file : List ℕ) → F file ≡ true → t.next.shelf file ≡ w.shelf file) → Agree S F t.next w
another_plain S F w t None is outside plain none leaves = absurd (let no : true ≡ false = sym (own_where_none S t.line is) ∙ outside in cc)
another_plain S F w t (Some c) is outside plain none leaves =
    let named : is_none_or_within S (name_in c) ≡ false = ap (λ (o : Option Command). is_none_or_within S (name_of_command o)) (sym is) ∙ outside in
    elim (by_refusal w c t.next (subst (λ (o : Option Command). Gives w o t.next) is plain.gives)) [
      | inl done ↦ Agree-outside S w c t.next named done none.none F leaves
      | inr refused ↦ Agree-still S F w t.next refused.stays
    ]

-- Worlds before and after a line of another pool agree for the set, if power is not lost, no type is defined, and none
-- of these files changes.
pub Agree-another : (S : Names) (F : List ℕ → Bool) (w : World) (t : Turn) → IsTurn w t → is_line_of_set S t.line ≡ false → is_cut t.answer ≡ false → DefinesNone w t → LeavesFiles F w t → Agree S F t.next w
Agree-another S F w t is outside uncut none files = elim (plain_or_still w t is uncut) [
  | inl plain ↦ another_plain S F w t (command_of t.line) refl outside plain none files.leaves
  | inr still ↦ Agree-still S F w t.next still
]

abbrev no_files : List ℕ → Bool
no_files file = false

pub leaves_others : (w : World) (t : Turn) → IsTurn w t → LeavesOthers w t
leaves_others w t is = record {
  others = λ S outside uncut none name within.
      (Agree-another S no_files w t is outside uncut none (record { leaves = λ file no. absurd (let it : false ≡ true = no in cc) })).shares name within;
}
