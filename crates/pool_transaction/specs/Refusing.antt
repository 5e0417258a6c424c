-- Why a line of a transaction is refused: by what was read for the line, and by whether the transaction is the client's
-- own.
use Rattle.std.specs.Prelude.{◌+◌, ℕ, Bool, ◌||◌, nat_lt, cond, Option, Some, None}
use Rattle.pud_defs.specs.declared.layout.TheConstants.{LOG_ENTRY_WORDS, SET_UNITS}
use Rattle.pud_defs.specs.declared.objects.FieldValue.{FieldValue}
use Rattle.pud_defs.specs.declared.machine.Refusal.{Refusal}
use Rattle.pud_defs.specs.declared.machine.Refusal.TheVariants as refusals
use Rattle.pud_defs.specs.StateMachine.Step.{differ_in_kind}
use Rattle.graph_read.specs.declared.fields.FieldRead.{FieldRead}
use Rattle.graph_read.specs.declared.fields.FieldRead.TheVariants.{NoObject, NoField, Value}

-- Why a change of three units that is otherwise allowed is not made, by how many units are used: too few are left.
abbrev pub room_refusal : (units : ℕ) → Option Refusal
room_refusal units = cond (nat_lt LOG_ENTRY_WORDS (units + SET_UNITS)) (Some refusals.TooBig) None

-- Why a field of which this was read is not set to a value, by how many units are used.
abbrev pub field_refusal : FieldRead → FieldValue → (units : ℕ) → Option Refusal
field_refusal NoObject x units = Some refusals.Object
field_refusal NoField x units = Some refusals.Field
field_refusal (Value was) x units = cond (differ_in_kind (Some was) x) (Some refusals.Kind) (room_refusal units)

-- Why an object that is there is not freed: by whether the root or a field names it, whether a deferred value names it,
-- and how many units are used.
abbrev pub refusal_to_free : (referenced asked : Bool) → (units : ℕ) → Option Refusal
refusal_to_free referenced asked units = cond (referenced || asked) (Some refusals.Held) (room_refusal units)
