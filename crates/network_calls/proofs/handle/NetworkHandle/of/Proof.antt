-- `of` takes the box apart, and the handle owns what the box owned.
use Rattle.std.proofs.Common.{◌≡◌, List, [], ◌∷◌, ◌++◌, refl, ap, true}
use seplogic.Ra.Ura.{Ura}
use mir.Val.{Val}
use mir.Syntax.{Dict, impl, method, no_args, tnil, dnil}
use base.Logic.{emp, id⊢}
use base.Fml.{ftrue, fsep}
use prog.Wp.{WpFn}
use prog.Model.{Model}
use prog.Wired.{Wired}
use types.Kit.{‵, raw, ◌⊛◌, some, later, prop, ◌$◌, ◌∵◌, !, qed, drop, use1, split, pick, await, rewrite, regoal, suffices, done}
use types.Part.{whole, sub, agg}
use types.Run.{enter, stop, fld, of_opd, true_lit, no_more, and_then, returns}
use types.ByLocal.{alloc_all, pass_all, free_all, look_at, get, get_in, sets, lands_as}
use types.Logic.{Logic}
use contract.Monad.{fact}
use contract.Running.{tables, Running}
use denote.Exit.{yes}
use denote.Laws.{Is, shows}
use denote.Param.{layout}
use denote.Signature.{plain}
use denote.Steps.{facts, only}
use denote.Triple.Call.{calls_at}
use denote.Triple.Clauses.{Lasts, lasts}
use denote.Triple.Spec.{triple_of}
use denote.Triple.Table.{framed, widened, run_framed}
use denote.Triple.Walked.{Stays, stay_dropped, Goes-dropped, walk_of, ends_at, says}
use denote.Param.Glue.{Met}
use denote.Triple.Carry.{spared}
use Rattle.std.proofs.raw_atomic.Walks.{proved_at}
use Rattle.core.proofs.{atomic.Steps.Ptr-Good, cell.Inside.one}
use Rattle.std_alloc.specs.contracts.boxed.Box.into_raw_with_allocator as g
use Rattle.std_alloc.proofs.boxed.Box.into_raw_with_allocator.Met.{met}
use Rattle.std_heap.specs.contracts.GlobalAllocator.TheImpl.{ghosts, dict}
use Rattle.std_heap.proofs.GlobalAllocator.TheImpl.Met.{passed}
use Rattle.c_interface.specs.Handles.{held_owns}
use Rattle.c_interface.proofs.Handles.{Pair, HeapArg, heap_laws, tokens, heap_fits, pair_told, pair_fits, bits, leaves_result}
use Rattle.network_calls.proofs.Words.{Inner, Boxed, Handle, boxed_laws, RunningArg, running_laws, drops_heap, hands, fits, handle_had}
use Rattle.network_calls.proofs.Destruct++none.drop.Symbol.{glues}
use Rattle.network_calls.specs.contracts.network_calls++running++Running+Destruct.drop as dropped
use Rattle.network_calls.proofs.network_calls++running++Running+Destruct.drop.Symbol as drop
use Rattle.network_calls.proofs.network_calls++running++Running+Destruct.drop.Met as drop_met
use Rattle.network_calls.specs.contracts.handle.NetworkHandle.of as f
use Rattle.network_calls.proofs.handle.NetworkHandle.of.Statement.{statement}
use Rattle.network_calls.proofs.handle.NetworkHandle.of.Code as code

-- how what the box holds is dropped, which `into_raw_with_allocator` asks to know
abbrev drops_running : Dict
drops_running = impl (drop.symbol ∷ []) tnil dnil

module _ {M : Type 1} (𝓤 : Ura M) (𝓛 : Logic 𝓤) (𝓜 : Model 𝓤 𝓛.H) (𝓡 : Running 𝓤 𝓛.H 𝓜) where
  drops : Wired 𝓡.env drop.code → Met 𝓛 𝓜 𝓡 𝓡.env RunningArg drops_running
  drops wired y =
      let key = method drops_running 0 no_args in let spec = dropped.spec 𝓛 𝓜.mem 𝓡.returns in
      spared 𝓛 dropped.signature (𝓡.run (𝓡.env key)) (run_framed 𝓤 𝓛.H 𝓜 𝓡 (𝓡.env key)) 1 (RunningArg.lives, tt) spec
      (widened 𝓤 𝓛.H _ 𝓜 𝓡 𝓡.env (𝓡.env drop.name) (𝓡.env key) (drop.as_method 𝓡.env wired key refl) (drop_met.met 𝓤 𝓛 𝓜 𝓡 wired))
      ((y.0.0, y.0.1, tt, y.0.3, y.0.4), y.1)

abbrev stayed : Stays f.ended.signature.params f.ended.kept
stayed = (stay_dropped _ yes, tt)

pub of_spec : {M : Type 1} → statement M
of_spec 𝓤 𝓛 𝓜 𝓡 wired =
    let c = f.clauses 𝓛 𝓜.mem 𝓡.returns in let 𝓣 = tables 𝓤 𝓛.H 𝓜 𝓡 𝓡.env in
    let G = triple_of 𝓛 (g.signature RunningArg HeapArg ghosts dict drops_heap drops_running) (g.spec RunningArg HeapArg ghosts dict drops_heap drops_running 𝓛 𝓜.mem 𝓡.returns) in
    let En = g.ended RunningArg HeapArg ghosts dict drops_heap drops_running in
    let known = met 𝓤 𝓛 𝓜 𝓡 (code.calls-std_alloc::boxed::Box::into_raw_with_allocator 𝓡.env wired) RunningArg HeapArg running_laws heap_laws ghosts dict drops_heap drops_running
    (passed 𝓡.env (code.calls-std_heap::GlobalAllocator::allocate 𝓡.env wired) (code.calls-std_heap::GlobalAllocator::deallocate 𝓡.env wired)
    (code.calls-std_heap::GlobalAllocator::grow 𝓡.env wired) (code.calls-std_heap::GlobalAllocator::shrink 𝓡.env wired) _ 𝓤 𝓛 𝓜 𝓡)
    (glues 𝓡.env (code.calls-network_calls::Destruct++none::drop 𝓡.env wired) HeapArg heap_laws _ 𝓤 𝓛 𝓜 𝓡) (drops 𝓤 𝓛 𝓜 𝓡 (code.calls-network_calls::network_calls++running++Running+Destruct::drop 𝓡.env wired)) in
    proved_at 𝓛 f.ended stayed c 𝓜 𝓡 (Goes-dropped 𝓛 0 (plain (λ _. Boxed)) yes (λ κs x w. refl), tt)
    f.Key.name code.function (code.unfolded 𝓤 𝓛.H 𝓜 𝓡 wired) (λ y are.
    let Post = (walk_of 𝓛 f.ended stayed c).post y in let b = y.0.3.0 in
    let word = one (layout Boxed) y.0.4.0 ((boxed_laws.lawful 𝓛).typed b y.0.4.0 are.0) in
    let z : G.Ghost = ((([], ([], tt)), (_, (_, tt)), tt, (b, tt), (word.0 ∷ [], tt)), tt) in
    qed 𝓛 ((‵ ftrue ⊛ ‵ (fsep (Boxed.own_val b y.0.4.0) ftrue)) ∷ raw (emp 𝓤) ∷ []) ∵ split ! $ drop ! $
    rewrite ! 0 (λ (us : List Val). ‵ (fsep (Boxed.own_val b us) ftrue)) word.1 refl $
    regoal ! (λ (us : List Val). prop (WpFn 𝓤 𝓛.H 𝓣.C 𝓣.Λ code.function (us ++ []) Post)) word.1 refl $
    -- [the box]
    hands ! $ use1 𝓛 (raw (G.pre z)) (id⊢ 𝓤 _) $
    enter ! _ _ _ _ _ $ alloc_all ! (λ l. pass_all ! refl (word.2, tt) $ sets ! (of_opd ! (get ! refl)) refl word.2 $
    calls_at ! (framed 𝓤 𝓛.H 𝓜 𝓣) G known z (and_then ! (get ! refl) (no_more !)) (λ v.
    use1 𝓛 (later (some (λ (r : Pair.Denot). (tokens ⊛ ‵ (Pair.own_val r (v ∷ []))) ⊛ some (λ (ws : Lasts En z.0.0 z.0.3). ‵ (lasts En z.0.0 z.0.3 ws) ⊛
    raw (fact 𝓤 (r.1 ≡ b.alloc)) ⊛ ‵ (held_owns Inner b.alloc true r.0 b.value))))) (id⊢ 𝓤 _) $
    await ! tt $ pick ! (λ r. split ! $ split ! $ drop ! $ facts ! Pair (Is Pair) (shows 𝓛 Pair) r (v ∷ []) (λ is. pick ! (λ ws. split ! $ drop ! $ split ! $ drop ! $
    -- [what the box owned]
    let made : Handle.Denot = record { network = r.0; holds = true; alloc = b.alloc; value = b.value } in
    lands_as ! (ap only (pair_told r (v ∷ []) is)) refl (pair_fits r.0) $
    sets ! (of_opd ! (get_in ! (fld ! refl (stop !)) (sub ! 0 refl (whole !)))) refl (Ptr-Good r.0) $
    sets ! (of_opd ! (get_in ! (fld ! refl (stop !)) (sub ! 1 refl (whole !)))) refl heap_fits $
    sets ! (of_opd ! (get ! refl)) refl (Ptr-Good r.0) $
    sets ! (agg ! (and_then ! (get ! refl) (and_then ! (true_lit !) (and_then ! (get ! refl) (no_more !))))) refl (fits r.0 true) $
    returns ! (look_at ! 0 refl) $ free_all ! refl $
    suffices ! _ (ends_at 𝓛 f.ended stayed c y (bits r.0 true) made (tt, tt) (tt, tt)) $ says ! refl $
    handle_had ! made $ leaves_result ! $ done !))))))
