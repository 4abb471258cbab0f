-- The names that proofs above cite most, passed on from one place. Declares nothing.
pub use Rattle.std.specs.FinMap.{find, put}
pub use Rattle.std.specs.FinMap.Entries.{below_all, by_order, find-put, find-where_key, is_sorted, length_without, same_entries, where_key}
pub use Rattle.std.specs.Io.KnownBytes.{Appends}
pub use Rattle.std.specs.List.{AllByRecursion, AllWithin, HoldsAt, cons_option, flat_map, list_all, list_any, position_from, prefix_len, range_with_len}
pub use Rattle.std.specs.Option.{ok_or, option_map_or}
pub use Rattle.std.specs.Ordering.{is_eq, is_lt, nat_cmp, ordering_reverse, ordering_then}
pub use Rattle.std.specs.Prelude.{⊤}
pub use Rattle.std.specs.Result.{result_err}
pub use Rattle.std.specs.Vec.Iter.{into_iter_items}
pub use Rattle.std.specs.declared.cmp.Ordering.{Ordering}
pub use Rattle.std.specs.declared.cmp.Ordering.TheVariants.{Equal, Greater, Less}
pub use Rattle.std.proofs.Math.Bool.{and-false, or-true}
pub use Rattle.std.proofs.Math.Nat.{mod-eq_of_lt, mod_self, mul-le-mul_right, suc-mul}
pub use Rattle.std.proofs.Math.Seq.{drop-cons, drop-nil, map-set_same, take-nil, take-suc}
pub use Rattle.std.proofs.lemmas.Bool.{and_from, and_left, and_parts, and_right, cases_eq, cases_lt, false_from_ne_true, false≢true, le-ltb, lt-ltb, ltb-false, or_cases, or_left, or_parts, or_right}
pub use Rattle.std.proofs.lemmas.Bool.Decides.{nat_tests}
pub use Rattle.std.proofs.lemmas.Cmp.{ranked, tied_itself}
pub use Rattle.std.proofs.lemmas.Iterator.{YieldsList-from_slice, cases_from_all}
pub use Rattle.std.proofs.lemmas.Iterator.Search.{true_from_All}
pub use Rattle.std.proofs.lemmas.List.{drop-append-le, drop-set-lt, drop_all, get_or_default, length-map, length-replicate, length-set, map-append, map-set, map_more, nil_from_length, reverse-append, set-get_or, take-append-le, take_all, take_more, take_more_set}
pub use Rattle.std.proofs.lemmas.List.Elements.{Contains-append_left, Contains-push, filter-append}
pub use Rattle.std.proofs.lemmas.List.Folds.{list_any-append}
pub use Rattle.std.proofs.lemmas.List.FromFn.{length-map-range_with_len, map-range_with_len_more}
pub use Rattle.std.proofs.lemmas.List.Sorted.{Contains-permutation, IsPermutation-sym}
pub use Rattle.std.proofs.lemmas.List.Sums.{length-filter, sum_by_push}
pub use Rattle.std.proofs.lemmas.Map.Steps.{length-le_from_distinct_below}
pub use Rattle.std.proofs.lemmas.Option.{get_or_from_slice_get, none-some, same_Some, slice_get-get_or, slice_get-map, slice_get_past, slice_get_read, slice_get_within, some_pair_parts}
pub use Rattle.std.proofs.lemmas.Result.{IfOk-weaker, err_from_is_err_and, on_ok_weaker}
pub use Rattle.ipv4_prefix.specs.LongestMatch.{longer_row, longest_match}
pub use Rattle.ipv4_prefix.specs.Prefix.{IsPrefix, Prefix, covers, prefix_cmp, prefix_eq}
pub use Rattle.ipv4_prefix.proofs.LongestMatches.{Contains-cases, Contains-first, Contains-later, longest_match-found}
pub use Rattle.ipv4_prefix.proofs.PrefixOrder.{equal_from_test, less_from_test, prefix_cmp-tied, prefix_cmp_total, prefix_eq-Decides}
pub use Rattle.ipv4_prefix.proofs.SortedRows.{distinct_from_sorted, to_T}
pub use Rattle.ipv4_prefix.proofs.Tables.{row_of-row}
pub use Rattle.metric.specs.Distance.{IsCost, infinity}
pub use Rattle.metric.specs.declared.kind.Kind.{Kind}
pub use Rattle.metric.specs.declared.kind.Kind.TheVariants.{Update}
pub use Rattle.loop_freedom.specs.Facts.{LinkFacts, count, end_at, end_of, end_towards, is_current, is_next_hop, live, messages, pipe}
pub use Rattle.loop_freedom.specs.Network.{ControlEdge, IsEdgeWalk, Opening, OpeningPorts, PublishedEdge, Releases, Run, SameCosts, SameLinks, SameMachines, SamePublished, Skip, Skips, Start, Take, Takes, TakesAtHome, Then, Topology, arriving, event_of, held_for, is_met, meets_twice, met, next_hop_of, notices, seen_after}
pub use Rattle.machine_laws.specs.Laws.{IsSound, MachineLaws, Meets, NothingHeard, awaits, awaits_of, is_active, is_kind, is_up_at, owes_of, owes_port, reported_at, reported_by, sent_to, test_at}
pub use Rattle.network_model.specs.Forwarding.{Ends, Goes, IsForwarded, IsPacketWalk, IsWalk, IsWalkHome, Onward, Trace, by_entry, by_row, entry_leads, has_no_notice, hop, is_crossed, is_empty, is_quiet, is_quiet_link, is_quiet_router, onward, over_link, row_for, trace, trace_from, trace_of, traced_by, walk_cost}
pub use Rattle.network_model.specs.Journal.{Fits, journal_sum, most_steps, step_number, steps_in_sum}
pub use Rattle.network_model.specs.Machine.{Computation, Machine, Reaction, attachment_after, changed_at, event_at_home, is_port, least, opening_machine, port_count, port_successor, reaction, records_after}
pub use Rattle.network_model.specs.Network.{AreWithin, HasCosts, IsNetwork, attachment_causes, degree, first_cause, has_same_ends, has_same_prefix, is_bad_attachment, is_bad_link, is_link_too_many, link_causes, most_links, most_ports, most_routers, network_fault, touches, widest_limits}
pub use Rattle.network_model.specs.Numbers.{one_if}
pub use Rattle.network_model.specs.Publication.{Image, Patch, answer_of, image_answer, with_rows}
pub use Rattle.network_model.specs.Run.{History, Runs, history, history_from, one_more, published_after, run, stopped_at, with_step, with_steps}
pub use Rattle.network_model.specs.Step.{CanBeAsked, Lawful, changed_attachments, changed_link, changed_router, changed_rows, changed_side, chosen_rows, entry_eq, entry_of, front_at, has_row, held_of, is_at_home, is_due, is_notice, is_up, is_up_in, last_session, link_come_up, link_gone_down, next, notice_at, reactions, refusal, release_at, ripe_front, router_accepting, router_at_home, router_meeting, router_noticing, router_publishing, router_releasing, router_told, session_at, side_cut, with_attachment, with_cost, with_delivered, with_front_taken, with_item, with_machines, with_message, with_notice_taken, with_noticed, with_released, without_attachment, changed_hops, has_changes, offered_hops}
pub use Rattle.network_model.specs.Turns.{choices, is_lawful, is_settled, next_step, settling_steps}
pub use Rattle.network_model.specs.View.{CostNotice, DownNotice, LinkEnd, Reported, SeenItem, State, UpNotice, at_port, fd_in, heard, heard_item, held_as, inbox_of, is_kept, kept, lay, msg_of, next_hop, next_hop_at, on_link, ripe_of, unripe_of, view}
pub use Rattle.network_model.specs.World.{Attachments, Link, Network, Router, Side, Table, World, attachment_at, costs_of, degree_of, distinct, is_known, link_at, machine_of, neighbours, opening, opening_link, opening_port, opening_router, opening_router_of, other, own_end, place_at, places_from, prefixes_of, router_end, rows_of, side}
pub use Rattle.network_model.specs.declared.item.Held.{Held}
pub use Rattle.network_model.specs.declared.item.Item.{Item}
pub use Rattle.network_model.specs.declared.item.Message.{Message}
pub use Rattle.network_model.specs.declared.item.Notice.{Notice}
pub use Rattle.network_model.specs.declared.machine.Event.{Event}
pub use Rattle.network_model.specs.declared.machine.Event.TheVariants.{Cost, Down, Up}
pub use Rattle.network_model.specs.declared.machine.Neighbour.{Neighbour}
pub use Rattle.network_model.specs.declared.machine.Outgoing.{Outgoing}
pub use Rattle.network_model.specs.declared.network.End.{End}
pub use Rattle.network_model.specs.declared.network.End.TheVariants.{A, B}
pub use Rattle.network_model.specs.declared.network.Limits.{Limits}
pub use Rattle.network_model.specs.declared.network.LinkSpec.{LinkSpec}
pub use Rattle.network_model.specs.declared.network.NetworkFault.{NetworkFault}
pub use Rattle.network_model.specs.declared.network.NetworkFault.TheVariants.{BadLink, BadOwner, BadRouters, TooManyLinks}
pub use Rattle.network_model.specs.declared.network.Place.{Place}
pub use Rattle.network_model.specs.declared.network.Port.{Port}
pub use Rattle.network_model.specs.declared.route.Answer.{Answer}
pub use Rattle.network_model.specs.declared.route.Entry.{Entry}
pub use Rattle.network_model.specs.declared.route.Entry.TheVariants.{Local, Unreachable, Via}
pub use Rattle.network_model.specs.declared.step.Refusal.{Refusal}
pub use Rattle.network_model.specs.declared.step.Refusal.TheVariants.{NoImage, NothingDue, NothingRipe, NothingToDeliver, Stale, UnknownLink, UnknownRouter}
pub use Rattle.network_model.specs.declared.step.Step.{Step}
pub use Rattle.network_model.specs.declared.step.Step.TheVariants.{Attach, Deliver, Detach, LinkDown, LinkUp, Publish, Release, SetCost}
pub use Rattle.network_model.specs.declared.trace.Ending.{Ending}
pub use Rattle.loop_freedom.proofs.Ends.{place_cases}
pub use Rattle.loop_freedom.proofs.FourFacts.{facts_kept, link_facts}
pub use Rattle.loop_freedom.proofs.Invariant.{Invariant, end_cong, end_invariant_new, end_invariant_same}
pub use Rattle.loop_freedom.proofs.Link.{Answered, EndInvariant, EndStep}
pub use Rattle.loop_freedom.proofs.LinkSteps.{LinkStep, step_keeps}
pub use Rattle.loop_freedom.proofs.Lists.{at_least_left, count-append, front, one_if_at_most_one}
pub use Rattle.loop_freedom.proofs.Meeting.{end_step_along, lawfully_held_for}
pub use Rattle.loop_freedom.proofs.Notices.{IsLawfulInbox, IsLawfullyHeld, lawful_seen, lawfully_held_append, lawfully_held_later, nothing_held_later}
pub use Rattle.loop_freedom.proofs.OnTheWay.{live-append, live-held_for, live-held_for_other, none_sent, reports_of}
pub use Rattle.loop_freedom.proofs.Opened.{opening_keeps}
pub use Rattle.loop_freedom.proofs.Ports.{meets_item, message_of, port_step_other, port_step_same, ports_other}
pub use Rattle.loop_freedom.proofs.Published.{ShownAs, invariant_here, invariant_there, shown_as_chosen, shown_published}
pub use Rattle.loop_freedom.proofs.Publishing.{next_hop_seen, published_end}
pub use Rattle.loop_freedom.proofs.Reacts.{PortStep, added_at, reacts, rests}
pub use Rattle.loop_freedom.proofs.TakingAtHome.{meets_home, port_step_home, up_home}
pub use Rattle.loop_freedom.proofs.Walks.{FallsAlong, always_mixed, falls_distinct, steps_keep, walk_map}
pub use Rattle.machine_laws.proofs.Counting.{same_truth}
pub use Rattle.machine_laws.proofs.Events.{ports_length}
pub use Rattle.machine_laws.proofs.Lists.{append_within}
pub use Rattle.machine_laws.proofs.MachineLaws.{machine_laws}
pub use Rattle.machine_laws.proofs.Opened.{least_unheard, opened_sound}
pub use Rattle.machine_laws.proofs.Sends.{eqb_sym}
pub use Rattle.machine_laws.proofs.Successors.{is_port_successor, port_successor_from, port_successor_home}
pub use Rattle.network_model.proofs.Causes.{first_cause-none, first_cause-some, first_none, none_in_both}
pub use Rattle.network_model.proofs.EntryLaws.{entry_eq-refl, entry_from_eq}
pub use Rattle.network_model.proofs.JournalLaws.{journal_length}
pub use Rattle.network_model.proofs.Lawful.{Lawful_to_refusal, at_home_there, refusal_to_Lawful, run-Runs}
pub use Rattle.network_model.proofs.ListLaws.{None_not_Some, Some_injective, changed_at-map, changed_keeps, element_there, filter_last, length-changed_at, listed_at, listed_within, map-changed_at, option_map_or-ind, slice_get-changed_at, slice_get-changed_at_other}
pub use Rattle.network_model.proofs.PortPlaces.{IsPort, one_if_at, place_of, place_to_IsPort, ports_before}
pub use Rattle.network_model.proofs.RowLaws.{find-map, find_below, sorted-map, sorted-put, sorted-rows_of, with_rows-past}
pub use Rattle.network_model.proofs.WorldLaws.{routers-changed_link}
pub use Rattle.network_model.specs.declared.route.NextHop.{NextHop}
