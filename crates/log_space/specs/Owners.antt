-- The owner as whom a client acts, as it is read from the client's record.
use Rattle.std.specs.Prelude.{◌%◌, ◌^◌}
use Rattle.pud_defs.specs.declared.records.Owner as records
use Rattle.pud_defs.specs.RegistryTables.Spaces.{Owner}

-- The user and the group, read as numbers of 32 bits. Legal ones do not change.
abbrev pub owner_read : Owner → records.Owner
owner_read o = record { uid = o.uid % 2 ^ 32; gid = o.gid % 2 ^ 32 }
