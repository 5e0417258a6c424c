-- Fields and roots that are set, values that are deferred, and objects that are freed.
pub mod TransactionRefusals
pub mod FieldsTyped
pub mod ActiveSets
pub mod ActiveUpdates
pub mod UpdateLines
pub mod UpdatesRun
pub mod ActiveRefusals
pub mod ChangeAnswers
pub mod SerialsSpared
pub mod KnownFollows
pub mod ActiveFound
