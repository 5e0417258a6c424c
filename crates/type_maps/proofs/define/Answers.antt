use Rattle.std.proofs.Common.{sym, ap, ◌∙◌, arith}
use Rattle.std.proofs.lemmas.Result.{err_from_is_err_and}
use Rattle.pm_model.specs.Words.{reads}
use Rattle.type_maps.specs.Define.{lookup_of}
use Rattle.type_maps.proofs.Lookups.{full_refuses, free_accepts, same_accepts}
use Rattle.type_maps.proofs.Moments.{Defines-none}
use Rattle.type_maps.proofs.define.Goals as goal

pub returns-in_err-defined-clause-defines : goal.returns-in_err-defined-clause-defines
returns-in_err-defined-clause-defines g c =
    let p = err_from_is_err_and c.from_residual.result c.from_residual.ensures.1 in
    rw (p.1, p.2) (λ t r place. Defines-none r c.args.id c.args.map _ _ _ c.in_err-defined.ensures.only_reads.never_cut (c.look_up.ensures.only_reads.stays t))

pub write_record-requires-clause-within : goal.write_record-requires-clause-within
write_record-requires-clause-within g c = rw c.in-Free.is at c.in_ok-defined.ensures.within

pub returns-in-Full-clause-refusal : goal.returns-in-Full-clause-refusal
returns-in-Full-clause-refusal g c = λ t none. sym (full_refuses (reads (g.H.Host.state c.args.h.now).now.words) c.args.id c.args.map (ap (λ id. lookup_of (reads (g.H.Host.state c.args.h.now).now.words) id) (sym c.from.ensures) ∙ sym (c.in_ok-defined.ensures.place t) ∙ c.in-Full.is))

pub returns-in_ok-write_record-in-Free-clause-refusal : goal.returns-in_ok-write_record-in-Free-clause-refusal
returns-in_ok-write_record-in-Free-clause-refusal g c = λ t none. sym (free_accepts (reads (g.H.Host.state c.args.h.now).now.words) c.args.id c.args.map _ (ap (λ id. lookup_of (reads (g.H.Host.state c.args.h.now).now.words) id) (sym c.from.ensures) ∙ sym (c.in_ok-defined.ensures.place t) ∙ c.in-Free.is))

pub returns-then-defined-map-clause-refusal : goal.returns-then-defined-map-clause-refusal
returns-then-defined-map-clause-refusal g c = λ t none.
    sym (same_accepts (reads (g.H.Host.state c.args.h.now).now.words) c.args.id c.args.map _ (ap (λ id. lookup_of (reads (g.H.Host.state c.args.h.now).now.words) id) (sym c.from.ensures) ∙ sym (c.in_ok-defined.ensures.place t) ∙ c.in-Defined.is) (let same = c.if-defined-map.true in omega arith))
