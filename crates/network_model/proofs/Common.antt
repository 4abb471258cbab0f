-- The names that proofs above cite most, passed on from one place. Declares nothing.
pub use Rattle.std.specs.FinMap.{find, is_sorted, put}
pub use Rattle.std.specs.FinMap.Entries.{below_all, by_order, find-put}
pub use Rattle.std.specs.List.{AllByRecursion, filter, flat_map, insert, list_all, list_any, position_from, range_with_len}
pub use Rattle.std.specs.Option.{option_copied, option_map, option_map_or}
pub use Rattle.std.specs.Ordering.{eq_by_cmp}
pub use Rattle.std.specs.declared.cmp.Ordering.{Ordering}
pub use Rattle.std.specs.declared.cmp.Ordering.TheVariants.{Equal, Greater, Less}
pub use Rattle.std.proofs.Math.Bool.{and-false, and-true}
pub use Rattle.std.proofs.lemmas.Bool.{and_from, and_left, and_parts, and_right, both_ways, cases_Bool, cases_eq, cases_lt, eqb-false, false_from_ne_true, false≢true, le-leb, lt-ltb, or_cases, or_from, or_left, or_parts, or_right, true_from_ne_false}
pub use Rattle.std.proofs.lemmas.Bool.Decides.{nat_tests}
pub use Rattle.std.proofs.lemmas.Cmp.{tied_itself}
pub use Rattle.std.proofs.lemmas.List.{drop_more, length-map, map-append, take_more}
pub use Rattle.std.proofs.lemmas.List.Sums.{count_by-le-length, sum_by_push}
pub use Rattle.std.proofs.lemmas.Option.{get_or_from_slice_get, none-some, same_Some, slice_get-get_or, slice_get-map, slice_get_read, slice_get_within}
pub use Rattle.std.proofs.lemmas.Result.{IfOk-weaker}
pub use Rattle.ipv4_prefix.specs.Prefix.{Prefix, prefix_cmp, prefix_eq}
pub use Rattle.ipv4_prefix.proofs.PrefixOrder.{prefix_cmp-tied, prefix_cmp_total}
pub use Rattle.ipv4_prefix.proofs.SortedRows.{to_T}
pub use Rattle.metric.specs.Distance.{greatest_cost, infinity, plus}
pub use Rattle.metric.specs.declared.kind.Kind.{Kind}
pub use Rattle.metric.specs.declared.kind.Kind.TheVariants.{Query, Reply, Update}
pub use Rattle.network_model.specs.Forwarding.{is_quiet}
pub use Rattle.network_model.specs.Journal.{Fits, journal_sum, most_steps, step_number}
pub use Rattle.network_model.specs.Machine.{Computation, Machine, Reaction, active_reaction, all_from, answers_at_once, asker, at_home, attachment_after, awaited_after, changed_at, chosen_successor, completion, condition_holds, debt_after, decision, distance, event_at_home, greeting, home_ways, is_feasible, is_feasible_at, is_port, kept_or_first, least, new_computation, news_to_others, one_to, opening_machine, passive_reaction, passive_result, port_count, port_successor, reaction, records_after, started_computation, successor_after, via_successor, ways, with_first, with_records}
pub use Rattle.network_model.specs.Network.{first_cause, most_routers}
pub use Rattle.network_model.specs.Numbers.{one_if}
pub use Rattle.network_model.specs.Publication.{Patch, with_rows}
pub use Rattle.network_model.specs.Run.{Runs}
pub use Rattle.network_model.specs.Step.{Lawful, changed_link, changed_rows, chosen_rows, entry_of, front_at, held_of, is_due, next, notice_at, reactions, refusal, release_at, ripe_front, router_accepting, router_at_home, router_meeting, router_noticing, router_publishing, router_releasing, session_at, with_cost, with_delivered, with_front_taken, with_message, with_noticed, with_released}
pub use Rattle.network_model.specs.Turns.{is_lawful, is_settled, next_step}
pub use Rattle.network_model.specs.View.{CostNotice, DownNotice, LinkEnd, Report, Reported, SeenHeld, SeenItem, State, UpNotice, at_port}
pub use Rattle.network_model.specs.World.{Attachments, Gate, Network, Router, Table, World, degree_of, machine_of, neighbours, opening, opening_router, rows_of}
pub use Rattle.network_model.proofs.Lawful.{Lawful_to_refusal}
pub use Rattle.network_model.proofs.ListLaws.{None_not_Some, Some_injective, changed_at-map, changed_at_written, changed_keeps, element_there, length-changed_at, map-changed_at, option_map_or-ind, slice_get-changed_at, slice_get-changed_at_other}
pub use Rattle.network_model.proofs.MachineLaws.{distance-bounded, least-append, least_bounded, least_ways-none_up}
pub use Rattle.network_model.proofs.RecordsLaws.{reaction-keeps}
pub use Rattle.network_model.proofs.RowLaws.{find-map, map-put, sorted-map, sorted-put, sorted-rows_of, with_rows-past}
pub use Rattle.network_model.proofs.WorldLaws.{routers-changed_link}
