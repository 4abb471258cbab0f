-- `none` owns nothing: null, false and the allocator are put together.
use Rattle.std.proofs.Common.{[], ◌∷◌, refl, false}
use base.Logic.{emp}
use types.Kit.{raw, ◌$◌, ◌∵◌, !, qed, drop, suffices, done}
use types.Part.{agg}
use types.Run.{enter, lit, false_lit, no_more, and_then, returns}
use types.ByLocal.{alloc_all, pass_all, free_all, look_at, get, sets}
use denote.Exit.{yes}
use denote.RawPtr.{null_ptr}
use denote.Signature.{plain}
use denote.Steps.{nothing}
use denote.Triple.Entry.{on_entry}
use denote.Triple.Walked.{Stays, stay_dropped, Goes-dropped, walk_of, ends_at, says}
use Rattle.std.proofs.raw_atomic.Walks.{proved}
use Rattle.std_heap.proofs.Global.TheLaws as heap_laws
use Rattle.c_interface.proofs.Handles.{Heap, heap_bits, heap_fits, bits, leaves_result}
use Rattle.network_calls.proofs.{Words.Handle, Words.fits, Words.handle_had, handle.NetworkHandle.none.Statement.statement}
use Rattle.network_calls.specs.Handles.{nothing_held}
use Rattle.network_calls.specs.contracts.handle.NetworkHandle.none as f
use Rattle.network_calls.proofs.handle.NetworkHandle.none.Code as code

abbrev stayed : Stays f.ended.signature.params f.ended.kept
stayed = (stay_dropped _ yes, tt)

pub none_spec : {M : Type 1} → statement M
none_spec 𝓤 𝓛 𝓜 𝓡 wired =
    let c = f.clauses 𝓛 𝓜.mem 𝓡.returns in
    proved 𝓛 f.ended stayed c 𝓜 𝓡 (Goes-dropped 𝓛 0 (plain (λ _. Heap)) yes (λ κs x w. refl), tt)
    f.Key.name code.function (code.unfolded 𝓤 𝓛.H 𝓜 𝓡 wired)
    (λ κs. ((λ _. heap_bits ∷ []), tt)) (λ κs. (heap_laws.lowers.val_is, tt)) (λ κs qs bounds a _ are.
    let y : (walk_of 𝓛 f.ended stayed c).Ghost = ((κs, qs, bounds, a, (heap_bits ∷ [], tt)), tt) in
    let empty : Handle.Denot = record { network = null_ptr; holds = false; alloc = a.0; value = nothing_held } in
    qed 𝓛 (raw (on_entry 𝓛 f.signature κs qs a y.0.4) ∷ raw (emp 𝓤) ∷ []) ∵ drop ! $ drop ! $
    enter ! _ _ _ _ _ $ alloc_all ! (λ l. pass_all ! refl (heap_fits, tt) $
    sets ! (agg ! (and_then ! (lit ! tt) (and_then ! (false_lit !) (and_then ! (get ! refl) (no_more !))))) refl (fits null_ptr false) $
    returns ! (look_at ! 0 refl) $ free_all ! refl $
    suffices ! _ (ends_at 𝓛 f.ended stayed c y (bits null_ptr false) empty (tt, tt) (tt, tt)) $ says ! refl $
    nothing ! $ handle_had ! empty $ leaves_result ! $ done !))
