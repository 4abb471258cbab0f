-- `into_box` makes the box again where the handle holds a network. An empty handle owns nothing.
use Rattle.std.proofs.Common.{◌≡◌, Bool, List, [], ◌∷◌, refl, sym, ap, ◌∙◌, lit<, None, Some}
use mir.Syntax.{Body, w8, place, copy, int, rv_opd, aggregate, assign, seq}
use mir.Val.{Val, vcons, vnil}
use base.Logic.{emp, id⊢}
use base.Fml.{ftrue, fsep}
use prog.Wp.{Wp, after_seq, at_return}
use types.Kit.{‵, raw, ◌⊛◌, some, later, at_ret, any_q, ◌$◌, ◌∵◌, !, qed, move, drop, use0, use1, split, fsplit, fjoin, feq_i, pick, await, rewrite, suffices, done}
use types.Part.{whole, sub, agg}
use types.Match.{live}
use types.Run.{enter, stop, fld, of_opd, lit, no_more, and_then, first, blocks, branches, exec, returns}
use types.ByLocal.{alloc_all, pass_all, free_all, look_at, get, get_in, sets, sets_last, lands_last, env}
use contract.Monad.{fact}
use contract.Running.{tables}
use denote.Exit.{yes}
use denote.Laws.{Is, shows}
use denote.Param.{layout}
use denote.RattleType.{RattleType}
use denote.RawPtr.{ptr_val}
use denote.Signature.{plain, type_at}
use denote.Steps.{nothing, heard, peeks}
use denote.Triple.Call.{calls_at_last}
use denote.Triple.Clauses.{Lasts, lasts}
use denote.Triple.Spec.{triple_of}
use denote.Triple.Table.{framed}
use denote.Triple.Walked.{Stays, stay_dropped, Goes-dropped, walk_of, ends_at, says}
use Rattle.std.proofs.raw_atomic.Walks.{proved}
use Rattle.core.proofs.{atomic.Steps.Ptr-Good, cell.Inside.Good, option.Made.Some-of, option.Made.none_of}
use Rattle.std_alloc.proofs.{ResultValues.and_tt, boxed.Box.from_raw.Met.met}
use Rattle.std_alloc.specs.contracts.boxed.Box.from_raw as g
use Rattle.std_heap.proofs.{Calls.T_true, Calls.T_false, GlobalAllocator.TheImpl.Met.passed}
use Rattle.std_heap.specs.contracts.GlobalAllocator.TheImpl.{ghosts, dict}
use Rattle.c_interface.specs.Handles.{held, held_owns}
use Rattle.c_interface.proofs.Handles.{HeapArg, heap_laws, tokens, heap_bits, heap_fits, heap_had, bits, leaves_result}
use Rattle.network_calls.proofs.Words.{Inner, Boxed, Handle, boxed_laws, RunningArg, running_laws, drops_heap, hands, fits}
use Rattle.network_calls.proofs.Destruct++none.drop.Symbol.{glues}
use Rattle.network_calls.specs.contracts.handle.NetworkHandle.into_box as f
use Rattle.network_calls.proofs.{handle.NetworkHandle.TheLaws.lowers, handle.NetworkHandle.into_box.Statement.statement}
use Rattle.network_calls.proofs.handle.NetworkHandle.into_box.Code as code

abbrev stayed : Stays f.ended.signature.params f.ended.kept
stayed = (stay_dropped _ yes, tt)

-- what is done with the box, the rest of its arm
abbrev wraps : Body
wraps = seq (assign (place 7 []) (rv_opd (copy (place 8 [])))) (assign (place 6 []) (aggregate (int w8 1 ∷ copy (place 7 []) ∷ [])))

abbrev Out : RattleType
Out = type_at f.signature.result tt

pub into_box_spec : {M : Type 1} → statement M
into_box_spec 𝓤 𝓛 𝓜 𝓡 wired =
    let c = f.clauses 𝓛 𝓜.mem 𝓡.returns in let 𝓣 = tables 𝓤 𝓛.H 𝓜 𝓡 𝓡.env in
    let G = triple_of 𝓛 (g.signature RunningArg HeapArg ghosts dict drops_heap) (g.spec RunningArg HeapArg ghosts dict drops_heap 𝓛 𝓜.mem 𝓡.returns) in
    let En = g.ended RunningArg HeapArg ghosts dict drops_heap in
    let known = met 𝓤 𝓛 𝓜 𝓡 (code.calls-std_alloc::boxed::Box::from_raw 𝓡.env wired) RunningArg HeapArg running_laws heap_laws ghosts dict drops_heap
    (passed 𝓡.env (code.calls-std_heap::GlobalAllocator::allocate 𝓡.env wired) (code.calls-std_heap::GlobalAllocator::deallocate 𝓡.env wired)
    (code.calls-std_heap::GlobalAllocator::grow 𝓡.env wired) (code.calls-std_heap::GlobalAllocator::shrink 𝓡.env wired) _ 𝓤 𝓛 𝓜 𝓡)
    (glues 𝓡.env (code.calls-network_calls::Destruct++none::drop 𝓡.env wired) HeapArg heap_laws _ 𝓤 𝓛 𝓜 𝓡) in
    proved 𝓛 f.ended stayed c 𝓜 𝓡 (Goes-dropped 𝓛 0 (plain (λ _. Handle)) yes (λ κs x w. refl), tt)
    f.Key.name code.function (code.unfolded 𝓤 𝓛.H 𝓜 𝓡 wired)
    (λ κs. ((λ h. bits h.network h.holds ∷ []), tt)) (λ κs. (lowers.val_is, tt)) (λ κs qs bounds a _ are.
    let h = a.0 in let p = h.network in let w = bits p h.holds in
    let y : (walk_of 𝓛 f.ended stayed c).Ghost = ((κs, qs, bounds, a, (w ∷ [], tt)), tt) in let Post = (walk_of 𝓛 f.ended stayed c).post y in
    let z : G.Ghost = ((([], ([], tt)), (_, (_, tt)), tt, (h.alloc, (p, tt)), (heap_bits ∷ [], (ptr_val p ∷ [], tt))), h.value) in
    qed 𝓛 ((‵ ftrue ⊛ ‵ (fsep (Handle.own_val h (w ∷ [])) ftrue)) ∷ raw (emp 𝓤) ∷ []) ∵ split ! $ drop ! $ fsplit ! $ fsplit ! $ drop ! $ move ! (1 ∷ 2 ∷ []) $ drop ! $ drop ! $
    -- [what the handle holds]
    enter ! _ _ _ _ _ $ alloc_all ! (λ l. let Ev = env code.Mir.locals l in let ends = at_return 𝓤 𝓛.H Ev Post in pass_all ! refl (fits p h.holds, tt) $
    sets ! (of_opd ! (get_in ! (fld ! refl (stop !)) (sub ! 0 refl (whole !)))) refl (Ptr-Good p) $
    sets ! (of_opd ! (get_in ! (fld ! refl (stop !)) (sub ! 1 refl (whole !)))) refl (tt, tt) $
    sets ! (of_opd ! (get_in ! (fld ! refl (stop !)) (sub ! 2 refl (whole !)))) refl heap_fits $
    sets ! (of_opd ! (get ! refl)) refl (tt, tt) $
    first ! $ branches ! (get ! refl)
    (λ full. let is = T_true h.holds full in
    rewrite ! 0 (λ (y : Bool). ‵ (held_owns Inner h.alloc y p h.value)) is refl $
    nothing ! $ feq_i ! (List Val) (ptr_val p ∷ []) (ptr_val p ∷ []) refl $ fjoin ! $ heap_had ! h.alloc $ fjoin ! $ hands ! $ use1 𝓛 (raw (G.pre z)) (id⊢ 𝓤 _) $
    first ! $ blocks ! $ sets ! (of_opd ! (get ! refl)) refl heap_fits $ sets ! (of_opd ! (get ! refl)) refl (Ptr-Good p) $ sets ! (of_opd ! (get ! refl)) refl (Ptr-Good p) $
    calls_at_last ! (framed 𝓤 𝓛.H 𝓜 𝓣) G known z (and_then ! (get ! refl) (and_then ! (get ! refl) (no_more !))) (λ v.
    use1 𝓛 (later (some (λ (r : Boxed.Denot). (tokens ⊛ ‵ (Boxed.own_val r (v ∷ []))) ⊛ some (λ (ws : Lasts En z.0.0 z.0.3). ‵ (lasts En z.0.0 z.0.3 ws) ⊛
    raw (fact 𝓤 (r.value ≡ h.value)) ⊛ raw (fact 𝓤 (r.alloc ≡ h.alloc)))))) (id⊢ 𝓤 _) $
    await ! tt $ pick ! (λ r. split ! $ split ! $ drop ! $ peeks ! Boxed (Is Boxed) (shows 𝓛 Boxed) r (v ∷ []) (λ told. let good = ((boxed_laws.lawful 𝓛).typed r (v ∷ []) told).0 in
    move ! (1 ∷ []) $ pick ! (λ ws. split ! $ drop ! $ split ! $ heard ! _ (λ same. drop ! $
    -- [the box]
    lands_last ! refl good $ exec ! 𝓣.C 𝓣.Λ Ev wraps (any_q (after_seq 𝓤 𝓛.H (Wp 𝓤 𝓛.H 𝓣.C 𝓣.Λ Ev code.Mir.t-6 ends) ends)) $ sets ! (of_opd ! (get ! refl)) refl good $
    let some : Val = live 1 (vcons v vnil) in let some_good : Good (layout Out) some = (and_tt _ good.0, (record { fits = lit< tt }, (good.1, tt))) in
    sets_last ! (agg ! (and_then ! (lit ! tt) (and_then ! (get ! refl) (no_more !)))) refl some_good $
    exec ! 𝓣.C 𝓣.Λ Ev code.Mir.t-6 (at_ret Ev Post) $ sets ! (of_opd ! (get ! refl)) refl some_good $ returns ! (look_at ! 0 refl) $ free_all ! refl $
    use1 𝓛 (‵ (Out.own_val (Some r) (some ∷ []))) (Some-of 𝓛 Boxed r v) $
    suffices ! _ (ends_at 𝓛 f.ended stayed c y some (Some r) (tt, tt) (tt, tt)) $ says ! (ap (λ (x : Bool). held x h.value) is ∙ ap Some (sym same)) $ leaves_result ! $ done !))))))
    (λ empty. drop ! $
    let none : Val = live 0 vnil in let none_good : Good (layout Out) none = (tt, (record { fits = lit< tt }, tt)) in
    sets_last ! (agg ! (and_then ! (lit ! tt) (no_more !))) refl none_good $
    exec ! 𝓣.C 𝓣.Λ Ev code.Mir.t-6 (at_ret Ev Post) $ sets ! (of_opd ! (get ! refl)) refl none_good $ returns ! (look_at ! 0 refl) $ free_all ! refl $
    use0 𝓛 (‵ (Out.own_val None (none ∷ []))) (none_of 𝓛 Boxed) $
    suffices ! _ (ends_at 𝓛 f.ended stayed c y none None (tt, tt) (tt, tt)) $ says ! (ap (λ (x : Bool). held x h.value) (T_false h.holds empty)) $ leaves_result ! $ done !)))
