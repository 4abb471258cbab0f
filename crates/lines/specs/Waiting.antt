-- What is told of what routers have yet to take, and of what they hold.
use Rattle.std.specs.Prelude.{ℕ, Bool, List}
use Rattle.std.specs.List.{flat_map}
use Rattle.network_model.specs.{declared.item.Held.Held, declared.item.Item.Item, declared.item.Notice.Notice}
use Rattle.texts.specs.Words.{Text}
use Rattle.lines.specs.{declared.line.Line.TheVariants.Waiting, declared.waiting.Waiting.TheVariants.Kept, declared.waiting.Waiting.TheVariants.Noticed, declared.waiting.Waiting.TheVariants.Queued, declared.told.Printer.Printer, Formats.printed}

-- items that a router has yet to take from its port, on a link in this session, a line each
abbrev pub queued_lines : Printer → ℕ → ℕ → ℕ → List Item → Text
queued_lines p router port session = flat_map (λ item. printed p (Waiting (Queued router port session item)))

-- notices of its own attachments, a line each
abbrev pub noticed_lines : Printer → ℕ → List Notice → Text
noticed_lines p router = flat_map (λ notice. printed p (Waiting (Noticed router notice)))

-- messages that it holds, a line each, and whether they may leave
abbrev pub held_lines : Printer → ℕ → Bool → List Held → Text
held_lines p router ripe = flat_map (λ held. printed p (Waiting (Kept router ripe held)))
