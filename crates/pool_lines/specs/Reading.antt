-- What is read of a pool, and what is replied to a line that reads a field.
use Rattle.pud_defs.specs.declared.objects.FieldValue.TheVariants.{Num, Ref}
use Rattle.pud_defs.specs.declared.machine.Reply.{Reply}
use Rattle.pud_defs.specs.declared.machine.Reply.TheVariants as replies
use Rattle.pud_defs.specs.declared.machine.Refusal.TheVariants as refusals
use Rattle.graph_read.specs.declared.fields.FieldRead.{FieldRead}
use Rattle.graph_read.specs.declared.fields.FieldRead.TheVariants.{NoObject, NoField, Value}

-- The reply, by what was read of a field.
abbrev pub reply_of_read : FieldRead → Reply
reply_of_read NoObject = replies.No refusals.Object
reply_of_read NoField = replies.No refusals.Field
reply_of_read (Value (Num v)) = replies.Num v
reply_of_read (Value (Ref serial)) = replies.Ref serial
