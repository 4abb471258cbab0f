use mir.Syntax.{Dict}
use denote.RattleType.{RattleType}
use denote.Param.Send.{Frees}
use Rattle.std.specs.declared.alloc.Allocator.{Ghosts}
use Rattle.test_support.specs.contracts.refusing.RefusingAllocator.TheImpl.{ghosts}

-- a block goes back where one of the inner allocator does
pub frees : (A : RattleType) (g : Ghosts A.Denot) (d e : Dict) → Frees g g.dealloc_token → Frees (ghosts A g d e) (ghosts A g d e).dealloc_token
frees A g d e f = record { frees = λ it. f.frees it.inner }
