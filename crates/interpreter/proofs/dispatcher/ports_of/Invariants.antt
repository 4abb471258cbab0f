use Rattle.std.proofs.Common.{◌≡◌, ◌+◌, All, vec_len, vec_capacity, length}
use Rattle.std.specs.Vec.Iter.{into_iter_items}
use Rattle.fabric.specs.Writers.{IsReaderPort}
use Rattle.interpreter.proofs.dispatcher.ports_of.Given as goal

-- a port for each list of readers so far, and the lists that are left are of all routers
abbrev pub invariant-loop-readers : goal.invariant-loop-readers
invariant-loop-readers g l =
    (goal.iterator-loop-readers g).can_next l.readers-iterator ×
    (goal.iterator-loop-readers g).is_finite l.readers-iterator ×
    (vec_len l.ports + length (into_iter_items l.readers-iterator) ≡ vec_len l.fn.lists) ×
    (vec_capacity l.ports ≡ vec_len l.fn.lists) ×
    All (λ readers. IsReaderPort (length g.B.FabricName.books) readers.items) (into_iter_items l.readers-iterator)
