-- The text of the pools is one line: it has no newline.
use Rattle.std.proofs.Common.{◌≡◌, inl, inr, ℕ, zero, suc, ◌+◌, ◌/◌, ◌%◌, ◌^◌, Bool, true, false, not, cond, ◌&&◌, leb, ltb, eqb, List, [], ◌∷◌, ◌++◌, length, Option, Some, None, codes, refl, sym, ap, ◌∙◌, subst, arith, ne_eqb, eqb-true, true≢false}
use Rattle.std.specs.Prelude.{decimal}
use Rattle.std.specs.List.{AllByRecursion, list_all, filter, flat_map}
use Rattle.std.proofs.lemmas.Bool.{cond-true, and_parts, or_cases}
use Rattle.std.proofs.lemmas.Option.{none-some, same_Some}
use Rattle.pud_defs.specs.declared.machine.Reply.TheVariants as replies
use Rattle.pud_defs.specs.declared.layout.TheConstants.{MAX_OWNER_ID}
use Rattle.pud_defs.specs.declared.records.TheConstants.{POOL_RECORDS}
use Rattle.pud_defs.specs.declared.records.PoolRecord.{PoolRecord}
use Rattle.pud_defs.specs.Formats.Names.{name_cmp, is_name_byte, is_filled, is_legal_name}
use Rattle.pud_defs.specs.Formats.Identifiers.{puddle_uuid, hex_digit, hex_digits, hyphen, uuid_text}
use Rattle.pud_defs.specs.Formats.Modes.{is_legal_mode}
use Rattle.pud_defs.specs.RegistryTables.Pools.{is_given}
use Rattle.pud_defs.specs.RegistryTables.Tables.{Tables, Pool, Reader, puddles_of, pool_of, entries, pools_of}
use Rattle.pud_defs.specs.RegistryTables.SoundTables.{is_sound_pool, HasSoundTables}
use Rattle.pud_defs.specs.StateMachine.World.{StoredWorld}
use Rattle.pud_defs.specs.StateMachine.Run.{newlines}
use Rattle.pud_defs.specs.Output.Texts.{in_one_line, reply_text}
use Rattle.pud_defs.specs.Output.Listing.{name_text, octal_digit, mode_text, space, colon, described, pool_text, pools_text}
use Rattle.pud_defs.proofs.StateMachine.Lines.{newlines-append, newlines_one, newlines_other}
use Rattle.pud_defs.proofs.Output.Said.{newlines-reply_text, glyph_is_no_newline}
use Rattle.pud_defs.proofs.KeyedTables.KeyedEach.{each-keyed}
use Rattle.pud_defs.proofs.RegistryTables.PoolsChanged.{same_name, entry_of}
use Rattle.pud_defs.proofs.RegistryTables.SoundChanged.{legal_pool}

-- ---- texts without a newline

record HasNoNewline (text : List ℕ) : Type 0 where
  none : newlines text ≡ 0

nothing : HasNoNewline []
nothing = record { none = refl }

byte_first : (b : ℕ) (text : List ℕ) → (b ≡ 10 → ⊥) → HasNoNewline text → HasNoNewline (b ∷ text)
byte_first b text other h = record { none = omega (arith, h.none, newlines-append (b ∷ []) text, newlines_other b other) }

joined : (front rest : List ℕ) → HasNoNewline front → HasNoNewline rest → HasNoNewline (front ++ rest)
joined front rest h k = record { none = omega (arith, h.none, k.none, newlines-append front rest) }

-- its first byte is no newline, and the rest has none
record HasOther (b : ℕ) (text : List ℕ) : Type 0 where
  other : b ≡ 10 → ⊥
  rest : HasNoNewline text

first_byte : (b : ℕ) (text : List ℕ) → HasNoNewline (b ∷ text) → HasOther b text
first_byte b text h =
    let parts = newlines-append (b ∷ []) text in
    record { other = λ e. absurd (omega (arith, h.none, newlines_one b e)); rest = record { none = omega (arith, h.none) } }

-- such a text is one line
one_line : (text : List ℕ) → HasNoNewline text → in_one_line text ≡ text
one_line [] h = refl
one_line (b ∷ text) h = let parts = first_byte b text h in cond-true _ _ _ (ap not (ne_eqb b 10 parts.other)) ∙ ap (λ rest. b ∷ rest) (one_line text parts.rest)

either_kept : (keeps : Bool) (b : ℕ) (kept : List ℕ) → (b ≡ 10 → ⊥) → HasNoNewline kept → HasNoNewline (cond keeps (b ∷ kept) kept)
either_kept true b kept other h = byte_first b kept other h
either_kept false b kept other h = h

-- what a filter keeps of it has no newline either
kept_of : (p : ℕ → Bool) (text : List ℕ) → HasNoNewline text → HasNoNewline (filter p text)
kept_of p [] h = h
kept_of p (b ∷ text) h = let parts = first_byte b text h in either_kept (p b) b (filter p text) parts.other (kept_of p text parts.rest)

-- ---- the parts of a pool's text

name_byte : (b : ℕ) → is_name_byte b ≡ true → b ≡ 10 → ⊥
name_byte b is e = true≢false (sym is ∙ ap is_name_byte e)

zeros : (bytes : List ℕ) → list_all (λ c. eqb c 0) bytes ≡ true → HasNoNewline bytes
zeros [] all = nothing
zeros (b ∷ bytes) all =
    let parts = and_parts (eqb b 0) (list_all (λ c. eqb c 0) bytes) all in
    let is = eqb-true b 0 parts.0 in
    byte_first b bytes (λ e. absurd (omega arith)) (zeros bytes parts.1)

filled : (bytes : List ℕ) → is_filled bytes ≡ true → HasNoNewline bytes
unfolding is_filled
filled [] is = nothing
filled (b ∷ bytes) is = elim (or_cases (is_name_byte b && is_filled bytes) (list_all (λ c. eqb c 0) (b ∷ bytes)) is) [
  | inl more ↦ let parts = and_parts (is_name_byte b) (is_filled bytes) more in byte_first b bytes (name_byte b parts.0) (filled bytes parts.1)
  | inr all ↦ zeros (b ∷ bytes) all
]

of_name : (name : List ℕ) → is_legal_name name ≡ true → HasNoNewline (name_text name)
unfolding is_legal_name
of_name [] legal = absurd (true≢false (sym legal))
of_name (b ∷ bytes) legal =
    let parts = and_parts (is_name_byte b) (is_filled bytes) legal in
    kept_of (λ c. not (eqb c 0)) (b ∷ bytes) (byte_first b bytes (name_byte b parts.0) (filled bytes parts.1))

-- a number has no newline, as the text of its reply shows
of_decimal : (n : ℕ) → HasNoNewline (decimal n)
unfolding reply_text
of_decimal n = record { none = omega (arith, newlines-reply_text (replies.Num n), newlines-append (codes "ok " ++ decimal n) (10 ∷ []), newlines-append (codes "ok ") (decimal n)) }

octal_byte : (n : ℕ) → octal_digit n ≡ 10 → ⊥
octal_byte n e = omega arith

of_mode : (mode : ℕ) → HasNoNewline (mode_text mode)
of_mode mode = byte_first _ _ (octal_byte (mode / 64)) (byte_first _ _ (octal_byte (mode / 8)) (byte_first _ _ (octal_byte mode) nothing))

of_hex_digits : (count low u : ℕ) → HasNoNewline (hex_digits count low u)
unfolding hex_digits
of_hex_digits zero low u = nothing
of_hex_digits (suc n) low u = let d = u / 16 ^ (low + n) % 16 in byte_first (hex_digit d) (hex_digits n low u) (glyph_is_no_newline d (ltb d 10)) (of_hex_digits n low u)

after_hyphen : (front rest : List ℕ) → HasNoNewline front → HasNoNewline rest → HasNoNewline (front ++ hyphen ∷ rest)
after_hyphen front rest h k = joined front (hyphen ∷ rest) h (byte_first hyphen rest (λ e. absurd (omega arith)) k)

of_uuid_text : (u : ℕ) → HasNoNewline (uuid_text u)
unfolding uuid_text
of_uuid_text u =
    after_hyphen _ _ (of_hex_digits 8 24 u) (after_hyphen _ _ (of_hex_digits 4 20 u) (after_hyphen _ _ (of_hex_digits 4 16 u) (after_hyphen _ _ (of_hex_digits 4 12 u) (of_hex_digits 12 0 u))))

after_colon : (front rest : List ℕ) → HasNoNewline front → HasNoNewline rest → HasNoNewline (front ++ colon ∷ rest)
after_colon front rest h k = joined front (colon ∷ rest) h (byte_first colon rest (λ e. absurd (omega arith)) k)

-- ---- the text of a pool, and of all pools

of_pool : (id : ℕ) (e : List ℕ × Pool) → HasNoNewline (name_text e.0) → HasNoNewline (pool_text id e)
unfolding described
of_pool id e name =
    let named = byte_first space (name_text e.0) (λ s. absurd (omega arith)) name in
    let uid = after_colon _ _ named (of_decimal e.1.owner.uid) in
    let gid = after_colon _ _ uid (of_decimal e.1.owner.gid) in
    let mode = after_colon _ _ gid (of_mode e.1.mode) in
    let puddles = after_colon _ _ mode (of_decimal (length e.1.classes)) in
    after_colon _ _ puddles (of_uuid_text (puddle_uuid id e.1.number))

abbrev HasPlainName : List ℕ × Pool → Type 0
HasPlainName e = HasNoNewline (name_text e.0)

of_pools : (id : ℕ) (pools : List (List ℕ × Pool)) → AllByRecursion HasPlainName pools → HasNoNewline (flat_map (λ e. pool_text id e) pools)
of_pools id [] names = nothing
of_pools id (e ∷ pools) names = joined (pool_text id e) _ (of_pool id e names.0) (of_pools id pools names.1)

plain_name : (hold : Reader) (next : ℕ) (t : Tables) (slot : ℕ) (o : Option PoolRecord) → is_sound_pool next o ≡ true → (e : List ℕ × Pool) → entry_of hold (puddles_of t slot) o ≡ Some e → HasPlainName e
plain_name hold next t slot None sound e is = absurd (none-some e is)
plain_name hold next t slot (Some r) sound e is =
    let four = and_parts (is_legal_name r.name && leb r.uid MAX_OWNER_ID && leb r.gid MAX_OWNER_ID && is_legal_mode r.mode) (is_given next r.number) sound in
    let three = and_parts (is_legal_name r.name && leb r.uid MAX_OWNER_ID && leb r.gid MAX_OWNER_ID) (is_legal_mode r.mode) four.0 in
    let two = and_parts (is_legal_name r.name && leb r.uid MAX_OWNER_ID) (leb r.gid MAX_OWNER_ID) three.0 in
    let one = and_parts (is_legal_name r.name) (leb r.uid MAX_OWNER_ID) two.0 in
    subst HasPlainName (same_Some (r.name, pool_of hold r (puddles_of t slot)) e is) (of_name r.name one.0)

plain_names : (hold : Reader) (next : ℕ) (t : Tables) → HasSoundTables next t → AllByRecursion HasPlainName (pools_of hold t)
unfolding pools_of
plain_names hold next t h = each-keyed name_cmp same_name HasPlainName (entries hold t) 0 POOL_RECORDS (λ slot low high e is. plain_name hold next t slot (t.pools slot) (legal_pool next t h slot (omega arith)) e is)

-- the text of the pools of sound tables is one line
pub in_one_line-pools_text : (hold : Reader) (next : ℕ) (t : Tables) (s : StoredWorld) → HasSoundTables next t → pools_of hold t ≡ s.pools → in_one_line (pools_text s) ≡ pools_text s
unfolding pools_text
in_one_line-pools_text hold next t s h is =
    one_line (pools_text s) (subst (λ (pools : List (List ℕ × Pool)). HasNoNewline (flat_map (λ e. pool_text s.machine e) pools)) is (of_pools s.machine (pools_of hold t) (plain_names hold next t h)))
