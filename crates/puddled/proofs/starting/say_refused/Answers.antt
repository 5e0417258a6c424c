use Rattle.std.proofs.Common.{◌≡◌, ℕ, List, length, sym, subst, ◌∙◌, eqb-true}
use Rattle.pm_model.specs.Counts.{fault_of}
use Rattle.pm_model.specs.Calls.{Says}
use Rattle.puddled.proofs.DeviceStarts.Beginning.{text_by_marks, Says-nothing}
use Rattle.puddled.proofs.starting.say_refused.Goals as goal
use Rattle.std.proofs.lemmas.List.{nil_from_length}

pub returns-clause-says : goal.returns-clause-says
returns-clause-says g c = λ t image marks.
    let text = text_by_marks image c.args.marks.now _ marks (c.as_bytes.ensures.value ∙ c.deref.ensures.0 ∙ c.refused_text-text.ensures) in
    subst (λ (bytes : List ℕ). Says bytes (fault_of c.say.result) (g.H.Host.state c.args.h.now) (g.H.Host.state c.say.new.self)) text (c.say.ensures.said t)

pub returns-then-is_empty-clause-says : goal.returns-then-is_empty-clause-says
returns-then-is_empty-clause-says g c = λ t image marks.
    let lines = c.refused_text-text.result.bytes in
    let none : length lines ≡ 0 = eqb-true (length lines) 0 (sym c.is_empty.ensures ∙ c.if-is_empty.true) in
    Says-nothing _ (g.H.Host.state c.args.h.now) (sym (text_by_marks image c.args.marks.now lines marks c.refused_text-text.ensures) ∙ nil_from_length lines none)
