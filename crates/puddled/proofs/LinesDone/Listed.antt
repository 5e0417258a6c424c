-- What is printed on a ready device is what the machine answers.
use Rattle.std.proofs.Common.{◌≡◌, ℕ, List, ◌++◌, codes, Option, refl, sym, ap, subst, ◌∙◌}
use Rattle.pm_model.specs.Words.{reads}
use Rattle.pm_model.specs.declared.host.HostFault.{HostFault}
use Rattle.pm_model.specs.Moments.{State}
use Rattle.pm_model.specs.Masks.{masked}
use Rattle.pm_model.specs.Calls.{Says}
use Rattle.pud_defs.specs.declared.layout.TheConstants.{MACHINE_WORD}
use Rattle.pud_defs.specs.Formats.Image.{Image}
use Rattle.pud_defs.specs.RegistryTables.Tables.{Tables, tables_of}
use Rattle.pud_defs.specs.PoolGraphs.Holdings.{holding_in}
use Rattle.pud_defs.specs.StateMachine.World.{World}
use Rattle.pud_defs.specs.Output.Texts.{line_of, answer_text}
use Rattle.pool_list.specs.Listed.{listed_text}
use Rattle.pool_list.proofs.ListedPools.{line_of-listed_text}
use Rattle.daemon_memory.specs.Memory.{Memory}
use Rattle.daemon_memory.specs.declared.line_answer.LineAnswer.{LineAnswer}
use Rattle.daemon_memory.specs.declared.line_answer.LineAnswer.TheVariants as answers
use Rattle.puddled.specs.LineAnswers.{said_text}
use Rattle.daemon_memory.specs.LineAnswers.{answer_of, IsOneLine}
use Rattle.daemon_memory.specs.Ready.{IsReady}
use Rattle.daemon_memory.proofs.PoolChanges.TablesBeside.{tables_read, world_under, header_read}

pub said_when_ready : (size : ℕ) (w : World) (memory : Memory) (s : State) (answered : LineAnswer) → IsOneLine answered → IsReady size w memory s → said_text memory.frames (reads s.now.words) answered ≡ answer_text (answer_of w answered)
said_when_ready size w memory s (answers.Reply reply) one ready = refl
said_when_ready size w memory s (answers.Text text) one ready = ap (λ (t : List ℕ). line_of (codes "ok " ++ t)) (sym one)
said_when_ready size w memory s answers.Pools one ready =
    let image = reads s.now.words in
    let under = reads (masked ready.mask s.now.words) in
    let world = world_under size w memory s ready in
    let machine = (header_read size w memory s ready).machine in
    ap (λ (n : ℕ). line_of (codes "ok" ++ listed_text (image MACHINE_WORD) (tables_of n image))) ready.frames
    ∙ ap (λ (t : Tables). line_of (codes "ok" ++ listed_text (image MACHINE_WORD) t)) (sym (tables_read size w memory s ready))
    ∙ line_of-listed_text (holding_in w.stored.types w.stored.frames under) w.stored.next_number (tables_of w.stored.frames under) w.stored (image MACHINE_WORD) world.sound world.pools machine

-- What is printed on this many frames.
pub said_by : (frames now : ℕ) (image : Image) (answered : LineAnswer) (fault : Option HostFault) (old new : State) → frames ≡ now → Says (said_text frames image answered) fault old new → Says (said_text now image answered) fault old new
said_by frames now image answered fault old new same says = subst (λ (n : ℕ). Says (said_text n image answered) fault old new) same says
