-- What a handle of C holds and owns: a pointer to a value in a box, and a flag whether there is one.
use Rattle.std.specs.Prelude.{Bool, true, false, Option, None, Some}
use base.Fml.{Fml, ftrue}
use denote.RattleType.{RattleType}
use denote.RawPtr.{Ptr}
use Rattle.std.specs.{Box.Ownership.box_owns, Global.Global}
use Rattle.std_heap.specs.contracts.GlobalAllocator.TheImpl.{ghosts}

-- this value, or none
abbrev pub held : {X : Type 0} → Bool → X → Option X
held true x = Some x
held false x = None

-- a handle that holds a value owns it, with the right to free its block
abbrev pub held_owns : (R : RattleType) → Global → Bool → Ptr → R.Denot → Fml
held_owns R alloc true p x = box_owns (ghosts.dealloc_token alloc) R p x
held_owns R alloc false p x = ftrue
