use Rattle.pm_model.specs.Words.{reads}
use Rattle.type_maps.specs.Define.{fault_in}
use Rattle.daemon_memory.proofs.Commands.Defining.{Applies-define, KeepsRest-define, fault_of_reply, reply_when_ready}
use Rattle.puddled.proofs.LinesDone.TypeLines.{acts_define}
use Rattle.puddled.proofs.types.define_type.Goals as goal

pub returns-clause-reply : goal.returns-clause-reply
returns-clause-reply g c = rw c.reply_of_definition.ensures (λ t size e w memory ready. reply_when_ready size w memory c.args.id c.args.map c.define.result _ ready (c.define.ensures.refusal t))

pub returns-clause-applies : goal.returns-clause-applies
returns-clause-applies g c = rw (c.reply_of_definition.ensures, fault_of_reply c.define.result) (λ t size e w memory ready legal_id legal_map.
    Applies-define size w memory c.args.id c.args.map (fault_in c.define.result) _ _ ready legal_id legal_map (c.define.ensures.idle t) (c.define.ensures.defines t) (c.define.ensures.rested t))

pub returns-clause-acts : goal.returns-clause-acts
returns-clause-acts g c = rw c.reply_of_definition.ensures (λ t size e w memory ready. acts_define size w memory c.args.id c.args.map c.define.result _ _ ready (c.define.ensures.idle t) (c.define.ensures.defines t))

pub returns-clause-rest : goal.returns-clause-rest
returns-clause-rest g c = λ t.
    KeepsRest-define (reads (g.H.Host.state c.args.h.now).now.words) c.args.id c.args.map (fault_in c.define.result) _ _ (c.define.ensures.idle t) (c.define.ensures.defines t)

pub returns-clause-rested : goal.returns-clause-rested
returns-clause-rested g c = rw (c.reply_of_definition.ensures, fault_of_reply c.define.result) c.define.ensures.rested

pub returns-clause-cause : goal.returns-clause-cause
returns-clause-cause g c = rw (c.reply_of_definition.ensures, fault_of_reply c.define.result) c.define.ensures.cause
