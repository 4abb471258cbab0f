-- What the walks of a handle share: `c_interface/proofs/Handles.antt` for boxes of routers. Assumes `Logic`.
--     Router, Handle, Boxed           the rows of what a handle's box holds, of the handle and of the box
--     RouterArg, drops_heap           the first as a call of `Box` passes it, and how it drops an allocator
--     fits                           a handle's machine value is of its type
--     hands, handle_had              what a call is handed beside its arguments; a handle is had for what it holds
use Rattle.std.proofs.Common.{List, [], ◌∷◌, refl, Bool}
use seplogic.Ra.Ura.{Ura}
use mir.Syntax.{Dict}
use mir.Val.{vbool}
use types.Logic.{Logic}
use types.Kit.{Item, Goal, Step, step, ‵, raw, ◌⊛◌, ◌$◌, fjoin}
use contract.BorrowLft.{◌⊑◌}
use contract.Monad.{fact}
use denote.Laws.{Is}
use denote.Param.{layout}
use denote.Param.Laws.{Laws}
use denote.RattleType.{RattleType}
use denote.RawPtr.{Ptr, ptr_val}
use denote.Steps.{owned}
use denote.Struct.Laws.{RawPtr-plain, bool-plain, field_plain}
use denote.Struct.Owning.{shape, to}
use denote.Struct.Struct.{Struct, Struct-Makes}
use Rattle.core.proofs.{atomic.Steps.Ptr-Good, cell.Inside.Good}
use Rattle.std_alloc.proofs.ResultValues.{and_tt}
use Rattle.std_heap.specs.contracts.Global as global
use Rattle.std_heap.proofs.Global.TheLaws as global_laws
use Rattle.c_interface.specs.Handles.{held_owns}
use Rattle.c_interface.proofs.Handles as handles
use Rattle.c_interface.proofs.Handles.{HeapArg, bits, heap_bits, heap_fits, heap_spelled, tokens}
use Rattle.single_router.specs.contracts.single.SingleRouter as single
use Rattle.single_router.proofs.single.SingleRouter.TheLaws as router_row_laws
use Rattle.single_router.specs.contracts.handle.RouterHandle as handle
use Rattle.single_router.proofs.Destruct++none.drop.Symbol as heap_drop

abbrev pub Router : RattleType
Router = single.the_row

abbrev pub Handle : RattleType
Handle = handle.the_row

abbrev pub Boxed : RattleType
Boxed = handles.Boxed Router

pub boxed_laws : Laws Boxed
boxed_laws = handles.boxed_laws Router router_row_laws.the_row_laws

abbrev pub RouterArg : RattleType
RouterArg = handles.Content Router

abbrev pub router_laws : Laws RouterArg
router_laws = handles.content_laws Router router_row_laws.the_row_laws refl

abbrev pub drops_heap : Dict
drops_heap = handles.drops_heap heap_drop.symbol

-- a handle without what its router owns
abbrev pub Fields : RattleType
Fields = Struct (shape handle.the_type)

pub spelled : (p : Ptr) (holds : Bool) → Is Fields (p, (holds, (((tt, tt), tt), tt))) (bits p holds ∷ [])
spelled p holds = ((ptr_val p ∷ [], (vbool holds ∷ [], (heap_bits ∷ [], tt))), (refl, (refl, (refl, (heap_spelled (record { memory = record { seal = tt } }), tt)))))

pub fits : (p : Ptr) (holds : Bool) → Good (layout Handle) (bits p holds)
fits p holds = (and_tt _ (Ptr-Good p).0, ((Ptr-Good p).1, (tt, (heap_fits.1, tt))))

module _ {M : Type 1} {𝓤 : Ura M} {𝓛 : Logic 𝓤} {K : Type 0} {Γ : List (Item 𝓤)} {G : Goal 𝓤 𝓛.H} where
  pub hands : K → {O P : Item 𝓤} → Step K 𝓛 (((tokens ⊛ O) ⊛ raw (fact 𝓤 ([] ⊑ RouterArg.lives)) ⊛ raw (fact 𝓤 ([] ⊑ HeapArg.lives)) ⊛ P) ∷ Γ) G (O ∷ P ∷ Γ) G
  hands t = handles.hands Router t (router_row_laws.the_within [])

  pub handle_had : K → (h : Handle.Denot) → Step K 𝓛 (‵ (Handle.own_val h (bits h.router h.holds ∷ [])) ∷ Γ) G (‵ (held_owns Router h.alloc h.holds h.router h.value) ∷ Γ) G
  handle_had t h = step (λ s. owned t Fields (Is Fields) (Struct-Makes 𝓛 (shape handle.the_type) (RawPtr-plain, (bool-plain, (field_plain global.the_type global_laws.the_plain, tt)))) (to handle.the_type h) (bits h.router h.holds ∷ []) (spelled h.router h.holds) $ fjoin t $ s)
