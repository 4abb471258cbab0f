use Rattle.std.proofs.Common.{◌≡◌, map, drop, string_bytes}
use Rattle.toml.specs.View.{items_view}
use Rattle.plans.specs.Document.{texts_of}
use Rattle.plans.proofs.Documents.{after}
use Rattle.plans.proofs.document.strings.Given as goal

abbrev pub invariant-loop-value : goal.invariant-loop-value
invariant-loop-value l = texts_of (items_view l.values) ≡ after (map string_bytes l.lines.items) (texts_of (items_view (drop l.value-index l.values)))
