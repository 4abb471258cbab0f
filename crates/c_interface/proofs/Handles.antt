-- What the walks of handles share, whatever their boxes hold. Assumes `Logic`.
--     Heap, Boxed, Content           the rows of the allocator, of a box, and of what it holds as a call of `Box` passes it
--     HeapArg, drops_heap            the allocator as such a call passes it, and how it is dropped
--     heap_bits, pair_bits, bits     the machine values of an allocator, of a pointer with one, and of a handle.        heap_fits, pair_fits     each is of its type
--     tokens, hands                  what such a call is handed beside its arguments
--     heap_had                       an allocator is had for nothing
--     leaves_result                  the end of a function of one parameter
use Rattle.std.proofs.Common.{◌≡◌, List, [], ◌∷◌, refl, Bool}
use seplogic.Ra.Ura.{Ura}
use mir.Raw.{raw as bare}
use mir.Syntax.{Dict, Symbol, impl, tnil, tcons, dnil}
use mir.Val.{Val, vunit, vbool, vstruct, vcons, vnil}
use base.Fraction.{full_share}
use base.Logic.{emp}
use base.Fml.{ftrue, fsep, flft}
use types.Logic.{Logic}
use types.Kit.{Item, Goal, Step, step, ‵, raw, ◌⊛◌, ◌$◌, move, use0, join, fjoin}
use contract.BorrowLft.{◌⊑◌}
use contract.Monad.{fact, fact_i}
use denote.Exit.{no}
use denote.Laws.{Is}
use denote.Param.{arg, layout}
use denote.Param.Laws.{Laws, arg_laws}
use denote.RattleType.{RattleType}
use denote.RawPtr.{Ptr, RawPtr, ptr_val, rawptr_vals, rawptr_Tells}
use denote.Steps.{nothing, owned}
use denote.Struct.Laws.{makes}
use denote.Struct.Struct.{Struct-Tells}
use denote.Struct.Declared as declared
use denote.Struct.Tuple.{Tuple, tuple_type}
use Rattle.core.proofs.{atomic.Steps.Ptr-Good, cell.Inside.Good}
use Rattle.std_alloc.proofs.ResultValues.{and_tt}
use Rattle.std_alloc.specs.contracts.boxed.Box as box
use Rattle.std_alloc.proofs.boxed.Box.TheLaws as box_laws
use Rattle.std_heap.specs.contracts.Global as global
use Rattle.std_heap.specs.contracts.GlobalAllocator.TheImpl.{ghosts}
use Rattle.std_heap.proofs.Global.TheLaws as global_laws

abbrev pub Heap : RattleType
Heap = global.the_row

abbrev pub HeapArg : RattleType
HeapArg = arg (bare (layout Heap)) no Heap

abbrev pub heap_laws : Laws HeapArg
heap_laws = arg_laws (bare (layout Heap)) no Heap global_laws.the_row_laws refl

-- by the name under which a crate has the drop of an allocator
abbrev pub drops_heap : Symbol → Dict
drops_heap symbol = impl (symbol ∷ []) (tcons (layout HeapArg) tnil) dnil

abbrev pub heap_bits : Val
heap_bits = vstruct (vcons (vstruct (vcons vunit vnil)) vnil)

pub heap_fits : Good (layout Heap) heap_bits
heap_fits = (tt, ((tt, tt), tt))

pub heap_spelled : (a : Heap.Denot) → Is Heap a (heap_bits ∷ [])
heap_spelled a = ((vstruct (vcons vunit vnil) ∷ [], tt), (refl, (((vunit ∷ [], tt), (refl, (refl, tt))), tt)))

abbrev pub bits : Ptr → Bool → Val
bits p holds = vstruct (vcons (ptr_val p) (vcons (vbool holds) (vcons heap_bits vnil)))

-- a pointer with the allocator, as `into_raw_with_allocator` returns them
abbrev pub Pair : RattleType
Pair = Tuple (RawPtr ∷ Heap ∷ [])

abbrev pub pair_bits : Ptr → Val
pair_bits p = vstruct (vcons (ptr_val p) (vcons heap_bits vnil))

pub pair_told : (r : Pair.Denot) (vs : List Val) → Is Pair r vs → vs ≡ pair_bits r.0 ∷ []
pair_told r vs = Struct-Tells (declared.shape (tuple_type (RawPtr ∷ Heap ∷ []))) (rawptr_vals, ((λ _. heap_bits ∷ []), tt)) (rawptr_Tells, (global_laws.lowers.val_is, tt)) (r.0, (r.1, tt)) vs

pub pair_fits : (p : Ptr) → Good (layout Pair) (pair_bits p)
pair_fits p = (and_tt _ (Ptr-Good p).0, ((Ptr-Good p).1, (heap_fits.1, tt)))

-- of the two lifetimes of a call
abbrev pub tokens : {M : Type 1} {𝓤 : Ura M} → Item 𝓤
tokens = ‵ (flft [] full_share) ⊛ ‵ (flft [] full_share) ⊛ ‵ ftrue

-- what the boxes hold
module _ (R : RattleType) where
  abbrev pub Boxed : RattleType
  Boxed = box.the_row R Heap ghosts

  abbrev pub Content : RattleType
  Content = arg (bare (layout R)) no R

  module _ (L : Laws R) where
    pub boxed_laws : Laws Boxed
    boxed_laws = box_laws.the_row_laws R Heap ghosts L global_laws.the_row_laws

    abbrev pub content_laws : bare (bare (layout R)) ≡ bare (layout R) → Laws Content
    content_laws e = arg_laws (bare (layout R)) no R L e

  module _ {M : Type 1} {𝓤 : Ura M} {𝓛 : Logic 𝓤} {K : Type 0} {Γ : List (Item 𝓤)} {G : Goal 𝓤 𝓛.H} where
    -- the arguments, with lifetimes that do not end, and what is asked beside that both types last as long
    pub hands : K → [] ⊑ R.lives → {O P : Item 𝓤} → Step K 𝓛 (((tokens ⊛ O) ⊛ raw (fact 𝓤 ([] ⊑ Content.lives)) ⊛ raw (fact 𝓤 ([] ⊑ HeapArg.lives)) ⊛ P) ∷ Γ) G (O ∷ P ∷ Γ) G
    hands t within = step (λ s. let endless = 𝓛.lfts.lft-nil full_share in
        move t (1 ∷ []) $ use0 𝓛 (raw (fact 𝓤 ([] ⊑ HeapArg.lives))) (fact_i 𝓤 _ (emp 𝓤) (global_laws.the_within [])) $ join t $
        use0 𝓛 (raw (fact 𝓤 ([] ⊑ Content.lives))) (fact_i 𝓤 _ (emp 𝓤) within) $ join t $ move t (1 ∷ []) $
        nothing t $ use0 𝓛 (‵ (flft [] full_share)) endless $ join t $ use0 𝓛 (‵ (flft [] full_share)) endless $ join t $ join t $ join t $ s)

module _ {M : Type 1} {𝓤 : Ura M} {𝓛 : Logic 𝓤} {K : Type 0} {Γ : List (Item 𝓤)} {G : Goal 𝓤 𝓛.H} where
  pub heap_had : K → (a : Heap.Denot) → Step K 𝓛 (‵ (Heap.own_val a (heap_bits ∷ [])) ∷ Γ) G Γ G
  heap_had t a = owned t Heap (Is Heap) (makes global.the_type global_laws.the_plain 𝓛) a (heap_bits ∷ []) (heap_spelled a)

  pub leaves_result : K → {P : Item 𝓤} → Step K 𝓛 ((‵ ftrue ⊛ ‵ (fsep ftrue ftrue) ⊛ P) ∷ Γ) G (P ∷ Γ) G
  leaves_result t = step (λ s. nothing t $ nothing t $ fjoin t $ join t $ nothing t $ join t $ s)
