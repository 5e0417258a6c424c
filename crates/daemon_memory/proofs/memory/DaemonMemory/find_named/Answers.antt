use Rattle.std.proofs.Common.{◌%◌, sym, subst, ◌∙◌, arith}
use Rattle.pud_defs.specs.Formats.Image.{Image}
use Rattle.pud_defs.specs.RegistryTables.SoundTables.{HasSoundTables}
use Rattle.pud_defs.specs.RegistryTables.Tables.{tables_of}
use Rattle.daemon_memory.proofs.PoolChanges.TablesBeside.{sound_read}
use Rattle.daemon_memory.proofs.PoolsFound.FoundFirst.{found_first}
use Rattle.daemon_memory.proofs.memory.DaemonMemory.find_named.Goals as goal

pub returns-in-Some-clause-found : goal.returns-in-Some-clause-found
returns-in-Some-clause-found g c = λ t size w ready image e.
    let sound = subst (λ (i : Image). HasSoundTables w.stored.next_number (tables_of w.stored.frames i)) e (sound_read size w c.args.self.now (g.H.Host.state c.args.h.now) ready) in
    found_first w.stored.next_number w.stored.frames image sound c.args.name (c.from-slot.result % 32) (omega arith) c.in-Some.rec (sym c.in-Some.is ∙ c.in_ok-rec.ensures.found t image e)
