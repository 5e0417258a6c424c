-- Lines that read a whole pool: why they are refused, and what they owe.
use Rattle.std.proofs.Common.{◌≡◌, inl, inr, ℕ, ◌*◌, true, cond, List, ◌++◌, map, length, codes, Option, Some, None, is_none, option_map, Result, Ok, Err, refl, sym, ap, subst, ◌∙◌}
use Rattle.std.specs.Prelude.{IfOk, bytes_eq}
use Rattle.std.proofs.lemmas.Bool.{cases_Bool, cond-false}
use Rattle.std.proofs.lemmas.Slice.Eq.{bytes_eq-Decides}
use Rattle.std.specs.Option.{option_or}
use Rattle.pm_model.specs.declared.host.HostFault.{HostFault}
use Rattle.pm_model.specs.declared.host.FileFault.{FileFault}
use Rattle.pm_model.specs.declared.host.HostFault.TheVariants as hosts
use Rattle.pm_model.specs.Counts.{Counts, after_fault, fault_of}
use Rattle.pm_model.specs.Moments.{State, Shelf, with_shelf}
use Rattle.pm_model.specs.Calls.{shelved}
use Rattle.pm_model.specs.Changes.{Leaves, Silently}
use Rattle.pm_model.proofs.Leaves.{Leaves-still}
use Rattle.pm_model.proofs.Changes.{Changes-still}
use Rattle.pud_defs.specs.declared.machine.Command.{Command}
use Rattle.pud_defs.specs.declared.machine.Command.TheVariants.{Leave, Dump, Export}
use Rattle.pud_defs.specs.declared.machine.Reply.TheVariants as replies
use Rattle.pud_defs.specs.declared.machine.Refusal.{Refusal}
use Rattle.pud_defs.specs.declared.machine.Refusal.TheVariants as refusals
use Rattle.pud_defs.specs.declared.records.Puddle.{Puddle}
use Rattle.pud_defs.specs.Formats.Image.{Image}
use Rattle.pud_defs.specs.PoolGraphs.Graph.{Graph}
use Rattle.pud_defs.specs.Output.DumpText.{dump_text}
use Rattle.pud_defs.specs.declared.layout.TheConstants.{MACHINE_WORD}
use Rattle.pud_defs.specs.RegistryTables.Types.{types_of}
use Rattle.pud_defs.specs.PoolGraphs.Stored.{stored_in}
use Rattle.pud_defs.specs.PoolGraphs.ExportFile.{FileContents, words_in, types_used, file_graph}
use Rattle.pud_defs.specs.PoolGraphs.Exported.{exported_words}
use Rattle.pud_defs.specs.StateMachine.PoolChanges.{pool_named}
use Rattle.pud_defs.specs.StateMachine.World.{Transaction, World, closed, open_on}
use Rattle.pud_defs.specs.StateMachine.Transactions.{is_own}
use Rattle.pud_defs.specs.Output.Listing.{name_text}
use Rattle.pud_defs.specs.StateMachine.Step.{Answer, refusal_of, cause_holds, after, answer, world_by}
use Rattle.pud_defs.specs.StateMachine.Step.Answer.{of_reply, of_text}
use Rattle.pud_defs.specs.StateMachine.Gives.{with_file, contents_for, contents_of_pool, Exports, GivesUnless, Gives, StepBy, may_lack_memory}
use Rattle.pud_defs.specs.StateMachine.Changing.{file_of, KeepsFiles}
use Rattle.pud_defs.specs.Output.Texts.{in_one_line}
use Rattle.pud_defs.proofs.StateMachine.Changing.{Gives-plain, KeepsFiles-still}
use Rattle.pud_defs.proofs.Output.DumpText.{in_one_line-dump_text}
use Rattle.pud_defs.proofs.StateMachine.Steps.{refused_answer, refused_world, done_answer, done_world, answer_is_ok}
use Rattle.graph_dump.specs.declared.fault.DumpFault.{DumpFault}
use Rattle.graph_dump.specs.declared.fault.DumpFault.TheVariants as dumps
use Rattle.graph_dump.specs.Faults.{fault_in as dump_fault_in}
use Rattle.daemon_memory.specs.declared.line_answer.LineAnswer.{LineAnswer}
use Rattle.daemon_memory.specs.declared.line_answer.LineAnswer.TheVariants as answers
use Rattle.daemon_memory.specs.LineAnswers.{answer_of, IsOneLine}
use Rattle.daemon_memory.specs.Counted.{Kind, kind_of, CountsCommand}
use Rattle.daemon_memory.specs.Counted.Kind.{ordinary}
use Rattle.daemon_memory.specs.declared.finding.Need.TheVariants as needs
use Rattle.daemon_memory.specs.Finding.{refusal_to, SeesGraph, IsStoredPool}
use Rattle.pool_lines.specs.Files.{HoldsPool}
use Rattle.daemon_memory.specs.Memory.{Memory}
use Rattle.daemon_memory.specs.ActiveTransactions.{KeepsActive}
use Rattle.daemon_memory.specs.Moves.{Stays, LeavesPuddles}
use Rattle.daemon_memory.specs.Ready.{IsReady, StandsBetween, Applies}
use Rattle.daemon_memory.proofs.Commands.Beside.{ready_stands, holds_still, sessions_still}
use Rattle.daemon_memory.proofs.Commands.CarriedOut.{ClosesLogs-other}
use Rattle.daemon_memory.proofs.PoolsFound.Needs.{refusal_of-dump, refusal_of-export}
use Rattle.daemon_memory.proofs.Commands.Applying.{Applies-still}
use Rattle.daemon_memory.proofs.PoolChanges.PuddlesLeft.{LeavesPuddles-still}
use Rattle.daemon_memory.specs.CarryingOut.{CarriesOutWith}
use Rattle.daemon_memory.specs.Doing.{ActsWith}
use Rattle.daemon_memory.specs.Leading.{IsStill}
use Rattle.daemon_memory.proofs.Commands.Leading.{AppliesWith-still}

-- ---- why they are refused

module _ (w : World) (client : ℕ) (name : List ℕ) where
  pub memory_of-dump : may_lack_memory w (Dump client name) ≡ is_none (refusal_of w (Dump client name))
  unfolding may_lack_memory refusal_of cause_holds
  memory_of-dump = refl

module _ (w : World) (client : ℕ) (name file : List ℕ) where
  pub memory_of-export : may_lack_memory w (Export client name file) ≡ is_none (refusal_of w (Export client name file))
  unfolding may_lack_memory refusal_of cause_holds
  memory_of-export = refl

  abbrev opened_own : Option Refusal
  opened_own = cond (is_own client (open_on name w)) (Some refusals.OpenHere) None

  pub export_unread : (r : Refusal) → refusal_to w needs.Read client name ≡ Some r → refusal_of w (Export client name file) ≡ Some r
  export_unread r is = refusal_of-export w client name file ∙ ap (λ (o : Option Refusal). option_or o opened_own) is

  -- An export is refused if the client's own transaction is open on the pool.
  pub export_open : refusal_to w needs.Read client name ≡ None → is_own client (open_on name w) ≡ true → refusal_of w (Export client name file) ≡ Some refusals.OpenHere
  export_open none own = refusal_of-export w client name file ∙ ap (λ (o : Option Refusal). option_or o opened_own) none ∙ ap (λ b. cond b (Some refusals.OpenHere) None) own

  pub export_free : refusal_to w needs.Read client name ≡ None → open_on name w ≡ None → refusal_of w (Export client name file) ≡ None
  export_free none shut =
      refusal_of-export w client name file ∙ ap (λ (o : Option Refusal). option_or o opened_own) none ∙ ap (λ (o : Option Transaction). cond (is_own client o) (Some refusals.OpenHere) None) shut

-- ---- a step that leaves the world as it was

-- An answer that the line may have in a step that leaves the world as it was.
pub record StaysBy (w : World) (c : Command) : Type 0 where
  pub said : Answer
  pub step : StepBy w (Some c) said w

module _ (w : World) (c : Command) where
  pub refused_step : (r : Refusal) → refusal_of w c ≡ Some r → StepBy w (Some c) (of_reply (replies.No r)) w
  refused_step r is = inl (record {
    answered = sym (refused_answer w c r is);
    gives = record { shelf = subst (λ (o : Option Refusal). GivesUnless o w c w.shelf) (sym is) refl; rest = ap (λ (v : World). record v { shelf = w.shelf }) (sym (refused_world w c r is)) };
  })

  pub memory_step : may_lack_memory w c ≡ true → StepBy w (Some c) (of_reply (replies.No refusals.Memory)) w
  memory_step may = inr (record { asked = c; is = refl; may = may; answered = refl; stays = refl })

  stays_by : (r : Option Refusal) → refusal_of w c ≡ r → may_lack_memory w c ≡ is_none (refusal_of w c) → StaysBy w c
  stays_by None is may = record { said = of_reply (replies.No refusals.Memory); step = memory_step (may ∙ ap is_none is) }
  stays_by (Some r) is may = record { said = of_reply (replies.No r); step = refused_step r is }

  -- There is such an answer: the line is refused, or an allocation fails.
  pub some_step : may_lack_memory w c ≡ is_none (refusal_of w c) → StaysBy w c
  some_step may = stays_by (refusal_of w c) refl may

-- ---- what a line owes that leaves the device as it was

module _ (size : ℕ) (w : World) (memory : Memory) (c : Command) (plain : kind_of (Some c) ≡ ordinary) (other : (client : ℕ) → Some c ≡ Some (Leave client) → ⊥) (Does : Option HostFault → State → State → Type 0) (first last : Counts) (old new : State) where
  counted_plain : (fault : Option HostFault) → last ≡ after_fault fault first → CountsCommand (kind_of (Some c)) fault first last
  counted_plain fault cause = subst (λ (k : Kind). CountsCommand k fault first last) (sym plain) cause

  -- If nothing changed, the line did what it owes.
  pub CarriesOut-still : (said : Answer) (done : Result LineAnswer HostFault) → StepBy w (Some c) said w → IfOk done (λ answered. answer_of w answered ≡ said) → IfOk done IsOneLine
      → (fault_of done ≡ Some hosts.Cut → ⊥) → Applies size w w memory (fault_of done) old new → new ≡ old → last ≡ after_fault (fault_of done) first
      → ActsWith Does w c done old new → CarriesOutWith IsStill Does size w memory c done first last old new
  CarriesOut-still said done step replied one never applies same cause acts = record {
    acts = acts;
    said = said;
    under = w;
    step = step;
    gives = λ cut. absurd (never cut);
    replied = replied;
    one_line = one;
    led = AppliesWith-still size w w memory (fault_of done) old new IsStill c refl applies;
    files = KeepsFiles-still (file_of c) old.shelf new.shelf (ap (λ (s : State). s.shelf) same);
    no_file = λ cut. absurd (never cut);
    closes = ClosesLogs-other w (Some c) old new other;
    counted = counted_plain (fault_of done) cause;
  }

  -- So it did if a file was replaced, or was left in some state because the host failed.
  pub CarriesOut-file : (said : Answer) (under : World) (done : Result LineAnswer HostFault) → StepBy w (Some c) said under → IfOk done (λ answered. answer_of under answered ≡ said) → IfOk done IsOneLine
      → (fault_of done ≡ Some hosts.Cut → ⊥) → Applies size w under memory (fault_of done) old new → KeepsFiles (file_of c) old.shelf new.shelf → last ≡ after_fault (fault_of done) first
      → ActsWith Does w c done old new → CarriesOutWith IsStill Does size w memory c done first last old new
  CarriesOut-file said under done step replied one never applies files cause acts = record {
    acts = acts;
    said = said;
    under = under;
    step = step;
    gives = λ cut. absurd (never cut);
    replied = replied;
    one_line = one;
    led = AppliesWith-still size w under memory (fault_of done) old new IsStill c refl applies;
    files = files;
    no_file = λ cut. absurd (never cut);
    closes = ClosesLogs-other w (Some c) old new other;
    counted = counted_plain (fault_of done) cause;
  }

-- So it did if its calls only read, and nothing else changed.
pub CarriesOut-read : (size : ℕ) (w : World) (memory : Memory) (c : Command) → kind_of (Some c) ≡ ordinary → ((client : ℕ) → Some c ≡ Some (Leave client) → ⊥) → (Does : Option HostFault → State → State → Type 0) → (first last : Counts) (old new : State)
    → IsReady size w memory old → (said : Answer) (done : Result LineAnswer HostFault) → StepBy w (Some c) said w → IfOk done (λ answered. answer_of w answered ≡ said) → IfOk done IsOneLine
    → (fault_of done ≡ Some hosts.Cut → ⊥) → new ≡ old → last ≡ after_fault (fault_of done) first → ActsWith Does w c done old new → CarriesOutWith IsStill Does size w memory c done first last old new
CarriesOut-read size w memory c plain other Does first last old new ready said done step replied one never same cause acts =
    CarriesOut-still size w memory c plain other Does first last old new said done step replied one never
    (Applies-still size w memory (fault_of done) old new ready same (λ cut. absurd (never cut))) same cause acts

-- ---- what is done on the device

-- ---- a text

pub dump_is_plain : (client : ℕ) (name : List ℕ) (other : ℕ) → Some (Dump client name) ≡ Some (Leave other) → ⊥
dump_is_plain client name other is = cc

pub export_is_plain : (client : ℕ) (name file : List ℕ) (other : ℕ) → Some (Export client name file) ≡ Some (Leave other) → ⊥
export_is_plain client name file other is = cc

module _ (w : World) (client : ℕ) (name : List ℕ) (F : ℕ) (image : Image) (puddles : List (ℕ × Puddle)) (cause_holds : SeesGraph w F name image puddles) (free : refusal_to w needs.Read client name ≡ None) where
  abbrev line : Command
  line = Dump client name

  dump_free : refusal_of w line ≡ None
  dump_free = refusal_of-dump w client name ∙ free

  dump_leaves : world_by w (Some line) ≡ w
  unfolding after
  dump_leaves = done_world w line dump_free

  pub dumped_step : StepBy w (Some line) (of_text (codes " " ++ dump_text cause_holds.graph)) w
  unfolding answer
  dumped_step = inl (record {
    answered = sym (done_answer w line dump_free ∙ ap (λ (g : Option Graph). text_answer (option_map (λ h. codes " " ++ dump_text h) g)) cause_holds.is);
    gives = subst (λ (v : World). Gives w (Some line) v) dump_leaves (Gives-plain w (Some line) refl);
  })
    where
      text_answer : Option (List ℕ) → Answer
      text_answer None = of_reply replies.Ok
      text_answer (Some text) = of_text text

-- ---- another shelf

-- A change of the shelf adds no moment.
Leaves-shelf : (P : List ℕ → Image → Type 0) (shelf : Shelf) (start now : State) → Leaves P start now → Leaves P start (with_shelf shelf now)
Leaves-shelf P shelf start now l = record { added = l.added; history = l.history; start = l.start; later = l.later }

module _ (size : ℕ) (w : World) (memory : Memory) (shelf : Shelf) (s : State) (ready : IsReady size w memory s) where
  abbrev beside : World
  beside = record w { shelf = shelf }

  keeps : KeepsActive w beside memory.active
  keeps = record { frames = refl; transactions = refl; present = λ number h is. refl; stored = λ number h is. refl; types = λ id m is. is; graphs = λ st g is. is }

  -- The daemon is ready in the world that has the other shelf.
  ready_shelved : IsReady size beside memory (with_shelf shelf s)
  ready_shelved = record {
    mask = ready.mask;
    settled = ready.settled;
    tables = ready.tables;
    clients = ready.clients;
    frames = ready.frames;
    shelf = refl;
    active = holds_still w beside memory.active ready.mask s s ready.active keeps (Changes-still _ None s s (λ no. let it : None ≡ Some hosts.Cut = no in cc) refl)
        (λ number h there. (ready.active.each number h there).is.running.rests);
    sessions = sessions_still w beside memory.active memory.sessions refl ready.sessions;
    rest = ready.rest;
    logs = ready.logs;
    knows = ready.knows;
  }

  moments_shelved : (under : World) (other : Shelf) → closed under ≡ closed w → Leaves (Silently (StandsBetween size w under)) s (with_shelf other s)
  moments_shelved under other same =
      Leaves-shelf _ other s s (Leaves-still _ s s (λ image picked. let stands = ready_stands size w memory s ready image picked in (refl, (inl stands.0, stands.1))) refl)

  puddles_shelved : (other : Shelf) → LeavesPuddles w.stored.frames Stays s (with_shelf other s)
  puddles_shelved other = record { each = λ frame m used. Leaves-shelf _ other s s ((LeavesPuddles-still size w memory s ready s refl).each frame m used) }

  pub Applies-shelved : Applies size w beside memory None s (with_shelf shelf s)
  Applies-shelved = record {
    moments = moments_shelved beside shelf refl;
    puddles = puddles_shelved shelf;
    quiet = refl;
    ready = λ none. ready_shelved;
    rests = λ cut. absurd (let no : None ≡ Some hosts.Cut = cut in cc);
    script = refl;
  }

  -- What the line owes if the host failed while it wrote a file.
  pub Applies-unwritten : (other : Shelf) → Applies size w w memory (Some hosts.Failed) s (with_shelf other s)
  Applies-unwritten other = record {
    moments = moments_shelved w other refl;
    puddles = puddles_shelved other;
    quiet = refl;
    ready = λ none. absurd (let no : Some hosts.Failed ≡ None = none in cc);
    rests = λ cut. absurd (let no : Some hosts.Failed ≡ Some hosts.Cut = cut in cc);
    script = refl;
  }

-- Every other file is as it was.
pub KeepsFiles-shelved : (file : List ℕ) (entry : Option (List ℕ)) (shelf : Shelf) → KeepsFiles (Some file) shelf (shelved file entry shelf)
KeepsFiles-shelved file entry shelf = record {
  others = λ name other. elim (cases_Bool (bytes_eq name file)) [
    | inl same ↦ absurd (other (ap (λ (n : List ℕ). Some n) (sym ((bytes_eq-Decides name file).0 same))))
    | inr apart ↦ cond-false (bytes_eq name file) entry (shelf name) apart
  ];
}

-- ---- a file

module _ (w : World) (client : ℕ) (name file : List ℕ) where
  abbrev exports : Command
  exports = Export client name file

  export_leaves : refusal_of w exports ≡ None → world_by w (Some exports) ≡ w
  unfolding after
  export_leaves free = done_world w exports free

  pub exported_step : (contents : FileContents) (bytes : List ℕ) → refusal_of w exports ≡ None → contents_of_pool w.stored.types (pool_named name w.stored) ≡ Some contents → file_graph bytes ≡ Some contents
      → StepBy w (Some exports) (of_reply replies.Ok) (record w { shelf = with_file (name_text file) bytes w.shelf })
  exported_step contents bytes free held holds =
      let shelf = with_file (name_text file) bytes w.shelf in
      let given : Exports w name (name_text file) shelf = record { contents = contents; held = held; bytes = bytes; holds = holds; given = refl } in
      inl (record {
        answered = sym (answer_is_ok w exports refl refl free);
        gives = record {
          shelf = subst (λ (o : Option Refusal). GivesUnless o w exports shelf) (sym free) given;
          rest = ap (λ (v : World). record v { shelf = shelf }) (sym (export_leaves free));
        };
      })

-- What the file is to store of a pool that is known.
pub contents_are : (w : World) (F : ℕ) (name : List ℕ) (image : Image) (number : ℕ) (puddles : List (ℕ × Puddle)) (p : IsStoredPool w F name image number puddles)
    → contents_of_pool w.stored.types (pool_named name w.stored) ≡ Some (contents_for w.stored.types p.pool.classes p.graph)
contents_are w F name image number puddles p =
    ap (contents_of_pool w.stored.types) p.there ∙ ap (λ (g : Option Graph). option_map (contents_for w.stored.types p.pool.classes) g) p.holds

-- The text of a graph is one line.
pub one_line_dump : (g : Graph) (text : List ℕ) → text ≡ dump_text g → IsOneLine (answers.Text text)
one_line_dump g text is = ap in_one_line is ∙ in_one_line-dump_text g ∙ sym is

-- The host's fault of a dump that was not made.
abbrev pub dump_fault : DumpFault → Option HostFault
dump_fault fault = dump_fault_in {T = Unit {0}} (Err fault)

-- If an allocation failed, nothing was counted.
pub dump_unmade : (fault : DumpFault) (before after : Counts) → fault ≡ dumps.Memory → after ≡ after_fault (dump_fault fault) before → after ≡ before
dump_unmade fault before after is cause = cause ∙ ap (λ (f : DumpFault). after_fault (dump_fault f) before) is

-- What is counted if the host failed in the dump, after calls that counted nothing.
pub dump_failed : (fault : DumpFault) (host : HostFault) (first mid last : Counts) → fault ≡ dumps.Host host → last ≡ after_fault (dump_fault fault) mid → mid ≡ first → last ≡ after_fault (Some host) first
dump_failed fault host first mid last is cause same = cause ∙ (λ p. after_fault (dump_fault (is p)) (same p))

-- ---- a file that is written

-- Once the bytes of a pool are put into the file, the file stores the pool.
pub HoldsPool-put : (result : Result (Unit {0}) FileFault) (F number : ℕ) (puddles : List (ℕ × Puddle)) (g : Graph) (image : Image) (file bytes slice : List ℕ) (old mid new : State) → slice ≡ bytes → mid ≡ old
    → words_in bytes ≡ exported_words (image MACHINE_WORD) number (types_of image) (types_used (types_of image) g) (stored_in F puddles image) → length bytes ≡ 8 * length (words_in bytes)
    → file_graph bytes ≡ Some (contents_for (types_of image) (map (λ e. e.1.class) puddles) g)
    → IfOk result (λ done. new ≡ with_shelf (shelved file (Some slice) mid.shelf) mid) → IfOk result (λ done. HoldsPool F number puddles g image file old new)
HoldsPool-put (Ok done) F number puddles g image file bytes slice old mid new same stays words whole cause_holds put =
    record { bytes = bytes; given = put ∙ (λ p. with_shelf (shelved file (Some (same p)) (stays p).shelf) (stays p)); words = words; whole = whole; holds = cause_holds }
HoldsPool-put (Err fault) F number puddles g image file bytes slice old mid new same stays words whole cause_holds put = tt
