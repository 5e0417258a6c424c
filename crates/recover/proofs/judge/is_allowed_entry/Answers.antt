use Rattle.std.proofs.Common.{◌≡◌, ◌&&◌, ◌+◌, ◌%◌, ◌<◌, leb, length, ℕ, Bool, true, sym, ap, ◌∙◌, arith}
use Rattle.std.proofs.lemmas.Bool.{and_left, le-leb, lt-leb}
use Rattle.std.proofs.lemmas.Result.{IfOk-weaker}
use Rattle.pud_defs.specs.declared.layout.TheConstants.{FRAME_WORDS}
use Rattle.pud_defs.specs.declared.space.TheConstants.{WORD_BYTES}
use Rattle.pud_defs.specs.RegistryTables.Tables.{tables_of}
use Rattle.pud_defs.specs.Logging.Allowed.{may_write_puddle, is_allowed_entry}
use Rattle.pud_defs.proofs.Logging.Entries.{words_from-length}
use Rattle.log_entry.specs.Reading.{entry_from}
use Rattle.recover.specs.Verdicts.{owner_by_record}
use Rattle.recover.proofs.Writable.{allowed_by_place}
use Rattle.recover.proofs.judge.is_allowed_entry.Goals as goal

pub returns-then-entry-word-clause-allowed : goal.returns-then-entry-word-clause-allowed
returns-then-entry-word-clause-allowed g c = λ t image same located entries.
    let tables = tables_of c.args.frames image in
    let who = owner_by_record c.args.who in
    let e = entry_from entries c.args.entry.now in
    let whole : c.args.entry.now.addr % WORD_BYTES ≡ 0 = ap (λ (n : ℕ). c.args.entry.now.addr % n) (sym c.from.ensures) ∙ c.if-entry-from-ne0.false in
    let there = sym located ∙ c.in-Some.is in
    let many : length e.vals ≡ c.args.entry.now.n = words_from-length entries c.args.entry.now.at c.args.entry.now.n in
    let further : FRAME_WORDS < c.in-Some.word + length e.vals = omega arith in
    sym (allowed_by_place tables who e (c.in-Some.frame, c.in-Some.word) whole there ∙ and_left _ _ (lt-leb _ _ further))

pub returns-clause-allowed : goal.returns-clause-allowed
returns-clause-allowed g c = λ t image same located entries.
    let tables = tables_of c.args.frames image in
    let who = owner_by_record c.args.who in
    let e = entry_from entries c.args.entry.now in
    let whole : c.args.entry.now.addr % WORD_BYTES ≡ 0 = ap (λ (n : ℕ). c.args.entry.now.addr % n) (sym c.from.ensures) ∙ c.if-entry-from-ne0.false in
    let there = sym located ∙ c.in-Some.is in
    let many : length e.vals ≡ c.args.entry.now.n = words_from-length entries c.args.entry.now.at c.args.entry.now.n in
    let known = (rw c.in-Some.is at c.requires.within) in
    let frame : c.in-Some.frame < c.args.frames = known.frame in
    let word : c.in-Some.word < FRAME_WORDS = known.word in
    let fits : leb (c.in-Some.word + length e.vals) FRAME_WORDS ≡ true = le-leb _ _ (omega arith) in
    IfOk-weaker c.may_write_puddle.result (λ (a : Bool). a ≡ may_write_puddle tables who (tables.puddles c.in-Some.frame)) (λ (a : Bool). a ≡ is_allowed_entry tables who e)
    (λ a is. is ∙ sym (allowed_by_place tables who e (c.in-Some.frame, c.in-Some.word) whole there ∙ ap (λ (b : Bool). b && may_write_puddle tables who (tables.puddles c.in-Some.frame)) fits))
    (c.may_write_puddle.ensures.may t image same c.args.frames frame)
