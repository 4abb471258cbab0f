-- The names that proofs above cite most, passed on from one place. Declares nothing.
pub use Rattle.std.specs.BTreeMap.{UpdatesBy, get_by_text}
pub use Rattle.std.specs.List.{AllZip, cons_option, join_with_byte, list_any, position_from, range_with_len}
pub use Rattle.std.specs.Option.{option_or}
pub use Rattle.std.proofs.lemmas.Bool.{cases_lt, false≢true}
pub use Rattle.std.proofs.lemmas.Bool.Decides.{same_from_decides}
pub use Rattle.std.proofs.lemmas.Fmt.{decimal_injective}
pub use Rattle.std.proofs.lemmas.Iterator.Adapters.{position_from-zero}
pub use Rattle.std.proofs.lemmas.List.{get_or_default, length-map, length_push, map_push, take_more}
pub use Rattle.std.proofs.lemmas.List.Elements.{All-cons, All-contains, All-nil, All-push}
pub use Rattle.std.proofs.lemmas.List.Folds.{Any-from_list_any, list_any_at}
pub use Rattle.std.proofs.lemmas.List.FromFn.{get_or-map-range_with_len, length-map-range_with_len, take-map-range_with_len}
pub use Rattle.std.proofs.lemmas.List.Quantifiers.{all_pairs_push, position-Some}
pub use Rattle.std.proofs.lemmas.List.Splits.{join_with_byte-slice_split, slice_split_none}
pub use Rattle.std.proofs.lemmas.List.Sums.{length-filter}
pub use Rattle.std.proofs.lemmas.Map.Text.{btree_map_updates_text}
pub use Rattle.std.proofs.lemmas.Option.{get_or_from_slice_get, slice_get-get_or, slice_get-map, slice_get_read, slice_get_within}
pub use Rattle.std.proofs.lemmas.Result.{IfErr-weaker, IfOk-weaker}
pub use Rattle.std.proofs.lemmas.Slice.Eq.{bytes_eq-Decides}
pub use Rattle.std.proofs.lemmas.Slice.Zip.{all_zipped_more}
pub use Rattle.ipv4_prefix.specs.Faults.{IsFirstFault, SpellsPrefix}
pub use Rattle.ipv4_prefix.specs.Prefix.{Prefix, prefix_eq}
pub use Rattle.ipv4_prefix.specs.declared.fault.PrefixFault.{PrefixFault}
pub use Rattle.ipv4_prefix.proofs.PrefixOrder.{prefix_eq-Decides}
pub use Rattle.ipv4_prefix.proofs.PrefixTexts.{IsFirstFault-spelled}
pub use Rattle.metric.specs.Distance.{IsCost}
pub use Rattle.network_model.specs.Network.{degree, joins, touches}
pub use Rattle.network_model.specs.World.{neighbour_of, other, places_from, router_end}
pub use Rattle.network_model.specs.declared.network.End.TheVariants.{A, B}
pub use Rattle.network_model.specs.declared.network.LinkSpec.{LinkSpec}
pub use Rattle.network_model.specs.declared.network.Place.{Place}
pub use Rattle.network_model.specs.declared.step.Step.{Step}
pub use Rattle.network_model.specs.declared.step.Step.TheVariants.{Attach, Deliver, Detach, LinkDown, LinkUp, Publish, Release, SetCost}
pub use Rattle.script.specs.Attachments.{AttachmentLine, IsAttachment, IsAttachmentFault}
pub use Rattle.script.specs.Commands.{Asks, AsksBadAttachment, AsksBadCost, AsksBadQuestion, AsksBadStep, AsksCost, AsksDelivery, AsksDrawn, AsksNoAttachment, AsksNoCost, AsksNoStep, AsksNoTrace, AsksNothing, AsksStep, AsksTrace, HasBadValue, IsCommand, IsCommandFault, IsKnownPrefix, IsPortOn, NamesWay, NamesBadPrefix, NamesLink, NamesNoAddress, NamesNoPrefix, NamesNumber, NamesRouter, NamesText, NamesTextAndNumber, NamesThrough, NamesTwice, address_verbs, link_between, port_on}
pub use Rattle.script.specs.Directories.{Directory, directory_of, neighbours_of, router_across, source_at}
pub use Rattle.script.specs.Links.{IsLink, IsLinkFault, LinkWords, router_named}
pub use Rattle.script.specs.Reading.{ReadsFirst, StopsHere}
pub use Rattle.script.specs.Routers.{AreNames, FindsNames, IsDigit, IsName, IsSmallLetter, no_router, router_number}
pub use Rattle.texts.specs.Lines.{lines_of}
pub use Rattle.texts.specs.Number.{Spells}
pub use Rattle.texts.specs.Words.{Text, is_space, texts, words_of}
pub use Rattle.network_model.proofs.ListLaws.{None_not_Some, Some_injective}
pub use Rattle.texts.proofs.Printed.{line_next}
pub use Rattle.texts.proofs.WordCuts.{word-full, words-some}
