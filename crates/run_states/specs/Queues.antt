-- What becomes of the items that an end of a link has yet to take.
use Rattle.std.specs.Prelude.{◌++◌, ◌==◌, ◌&&◌, ℕ, Bool, List, if◌then◌else◌, drop, filter, not, vec_len}
use Rattle.std.specs.List.{list_any}
use Rattle.network_model.specs.{declared.item.Item.Item, Step.is_notice}
use Rattle.run_states.specs.declared.queue.QueueChange.{QueueChange}

-- what is left of a queue of which so many were taken, and then the messages lost or not
abbrev pub left_after : ℕ → Bool → List Item → List Item
left_after take lose items = if lose then filter is_notice (drop take items) else drop take items

-- what a queue holds after a change: some are taken from its front, then its messages may be lost, then some are put
abbrev pub queue_after : QueueChange → List Item → List Item
queue_after c items = left_after c.take c.lose items ++ (c.put).items

-- whether a message is among the items
abbrev pub has_message : List Item → Bool
has_message items = list_any (λ i. not (is_notice i)) items

-- whether nothing became of a queue: none was taken, lost or put
abbrev pub is_nothing : QueueChange → Bool
is_nothing c = (c.take == 0) && (not c.lose && (vec_len c.put == 0))
