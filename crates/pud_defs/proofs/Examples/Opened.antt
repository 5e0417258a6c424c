-- One name that opens all definitions of the crate, for examples that compute.
use Rattle.std.specs.Fmt.{digits}
use Rattle.pud_defs.specs.Logging.Entries.{entries_in, first_entry, words_from, entries_of}
use Rattle.pud_defs.specs.Logging.Replay.{undo_value, redo_value, new_value, settled_by}
use Rattle.pud_defs.specs.Formats.Geometry.{class_slots, class_slot_words, class_slot_at, class_for}
use Rattle.pud_defs.specs.RegistryTables.Places.{first_some}
use Rattle.pud_defs.specs.Logging.Allowed.{puddle_word, is_allowed_log}
use Rattle.pud_defs.specs.Logging.Settled.{gives_to, given_in_turn, settled_over, settled}
use Rattle.pud_defs.specs.RegistryTables.Registry.{are_all_large, is_registry, is_idle_registry, has_legal_log, is_sound}
use Rattle.pud_defs.specs.RegistryTables.Keyed.{first_free, count_used, keyed, first_from, are_distinct}
use Rattle.pud_defs.specs.Formats.Names.{name_by, is_filled, is_legal_name}
use Rattle.pud_defs.specs.RegistryTables.Pools.{pool_by, pool_at}
use Rattle.pud_defs.specs.RegistryTables.Puddles.{puddle_by, puddle_at}
use Rattle.pud_defs.specs.RegistryTables.Tables.{tables_of, puddles_of, records_of, pool_of, pools_of}
use Rattle.pud_defs.specs.RegistryTables.SoundTables.{has_legal_pools, has_distinct_names, has_legal_puddles, has_distinct_bases, has_distinct_old_bases, count_up, has_distinct_ordinals, has_counted_puddles, are_sound_tables}
use Rattle.pud_defs.specs.RegistryTables.Spaces.{all_below}
use Rattle.pud_defs.specs.StateMachine.World.{stored_by, registry_world, world_of, idle_registry, idle_world_of}
use Rattle.pud_defs.specs.Formats.Identifiers.{hex_digits, uuid_text}
use Rattle.pud_defs.specs.StateMachine.PoolChanges.{with_new_pool, with_pool_mode, without_pool, with_type_defined}
use Rattle.pud_defs.specs.StateMachine.Imports.{with_types_defined, with_imported_pool}
use Rattle.pud_defs.specs.Output.Listing.{described, pools_text}
use Rattle.pud_defs.specs.StateMachine.Grammar.{decimal_of, fields_from, pointers_of, pool_name, pool_mode, client_by, leave_by, define_by, pool_line_by, chmod_by, drop_by, field_place, value_named, begin_by, commit_by, abort_by, new_by, set_by, later_by, root_by, free_by, get_by, dump_by, export_by, import_by, rewrite_by, pools_by, cut_by, arm_by, taking, at_end, command_with, command_of}
use Rattle.pud_defs.specs.StateMachine.Step.{cause_holds, refusal_of, answer, after}
use Rattle.pud_defs.specs.StateMachine.Run.{closed_pieces, open_rest, lines_taken}
use Rattle.pud_defs.specs.Output.Texts.{ready_text, formatted_text, reply_text}
use Rattle.pud_defs.specs.Output.LayoutText.{tables_text}
use Rattle.pud_defs.specs.Output.CheckText.{checked_line, check_text}
use Rattle.pud_defs.specs.PoolGraphs.Graph.{place_in, target, is_graph, headers_fit, graph_of, is_referenced}
use Rattle.pud_defs.specs.PoolGraphs.ExportFile.{words_in, is_plain, is_file, is_type_used, contents_of, file_graph}
use Rattle.pud_defs.specs.PoolGraphs.Exported.{exported_slot, exported_header, exported_frame, exported_words}
use Rattle.pud_defs.specs.Output.DumpText.{dump_text}
use Rattle.pud_defs.specs.StateMachine.Gives.{may_lack_memory}

unfoldable pub opened : Unit {0}
unfolding class_slots class_slot_words class_slot_at class_for entries_in first_entry words_from entries_of undo_value redo_value new_value settled_by first_free count_used keyed first_from are_distinct name_by is_filled is_legal_name pool_by pool_at puddle_by puddle_at tables_of puddles_of records_of pool_of pools_of has_legal_pools has_distinct_names has_legal_puddles has_distinct_bases has_distinct_old_bases count_up has_distinct_ordinals has_counted_puddles are_sound_tables first_some puddle_word is_allowed_log gives_to given_in_turn settled_over settled are_all_large is_registry is_idle_registry has_legal_log is_sound all_below stored_by registry_world world_of idle_registry idle_world_of decimal_of fields_from pointers_of pool_name pool_mode client_by leave_by define_by pool_line_by chmod_by drop_by field_place value_named begin_by commit_by abort_by new_by set_by later_by root_by free_by get_by dump_by export_by import_by rewrite_by pools_by cut_by arm_by hex_digits uuid_text with_new_pool with_pool_mode without_pool with_type_defined with_types_defined with_imported_pool described pools_text taking at_end command_with command_of cause_holds refusal_of answer after closed_pieces open_rest lines_taken ready_text formatted_text reply_text tables_text checked_line check_text place_in target is_graph headers_fit graph_of is_referenced words_in is_plain is_file is_type_used contents_of file_graph exported_slot exported_header exported_frame exported_words dump_text digits may_lack_memory
opened = tt
