use Rattle.std.proofs.Common.{◌≡◌, ◌+◌, false, ltb, ◌&&◌, eqb, ◌++◌, map, sym, ap, ◌∙◌, append-nil, ne_eqb}
use Rattle.std.proofs.lemmas.Bool.{and_left, and_right}
use Rattle.pud_defs.specs.declared.space.TheConstants.{ROOT_WORD}
use Rattle.pud_defs.specs.Formats.Frames.{frame_at}
use Rattle.pud_defs.specs.RegistryTables.Types.{types_of}
use Rattle.pud_defs.specs.PoolGraphs.Stored.{stored_in}
use Rattle.graph_read.proofs.Pointed.{no_puddle}
use Rattle.graph_laws.specs.Rewriting.{passes_root}
use Rattle.lazy_rewrite.proofs.Gathered.{header-still, header-added}
use Rattle.lazy_rewrite.proofs.batches.add_header.Goals.{then-ordinal-ne0-via-then-ordinal-ne0, then-ordinal-ne0-via-else-ordinal-ne0+then-from-ne0}
use Rattle.lazy_rewrite.proofs.batches.add_header.Goals as goal

pub returns-then-ordinal-ne0-clause-added : goal.returns-then-ordinal-ne0-clause-added
returns-then-ordinal-ne0-clause-added g c = λ t image same h room e here m less.
    let o = c.args.ordinal in
    let n = c.args.from in
    let out : passes_root o n m ≡ false = elim c.then-ordinal-ne0.branch [
      | then-ordinal-ne0-via-then-ordinal-ne0 w ↦ and_left (eqb o 0) (eqb n 0 && ltb 0 m) (ne_eqb o 0 w.if-ordinal-ne0.true)
      | then-ordinal-ne0-via-else-ordinal-ne0+then-from-ne0 w ↦ and_right (eqb o 0) (eqb n 0 && ltb 0 m) (and_left (eqb n 0) (ltb 0 m) (ne_eqb n 0 w.if-from-ne0.true))
    ] in
    sym (ap (λ es. c.args.batch.now ++ es) (header-still (types_of image) (map (λ d. d.1) c.args.pool.now) e.1.class ((stored_in c.args.frames c.args.pool.now image).word o) o n m (frame_at c.args.frames e.0) out) ∙ append-nil c.args.batch.now)

pub returns-clause-added : goal.returns-clause-added
returns-clause-added g c = λ t image same h room e here m less.
    header-added c.args.frames c.args.pool.now image c.args.ordinal c.args.from m e no_puddle c.args.batch.now c.add_word.new.batch c.in_ok-value.value c.over_bases.result (c.frame_at.result + ROOT_WORD) h here less
    c.if-ordinal-ne0.false c.if-from-ne0.false (c.in_ok-value.ensures.word t image same) c.over_bases.ensures (ap (λ k. k + ROOT_WORD) c.frame_at.ensures) c.add_word.ensures room
