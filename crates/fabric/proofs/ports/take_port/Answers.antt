use Rattle.std.proofs.Common.{rules, ◌≡◌, ◌∙◌, ◌≤◌, ◌++◌, [], ◌∷◌, List, Some, map, length, ap, subst, sym, arith, slice_get, set, option_map}
use Rattle.no_packet_loops.proofs.Common.{map-set, slice_get-get_or, slice_get-map}
use Rattle.publication.specs.{declared.known.Known.Known, Lists.EachAt, Lists.no_patches}
use Rattle.publication.proofs.Places.{each-push}
use Rattle.fabric.specs.Writers.{HaveReaders}
use Rattle.fabric.proofs.ReaderLists.{taken_is, left_after, others_after}
use Rattle.fabric.proofs.ports.take_port.Goals as goal

pub loop-router-preserved : goal.loop-router-preserved
loop-router-preserved g c =
    let v = c.loop-router.invariant in
    let i = c.loop-router.router in
    let lists : List (List Known) = map (λ rs. rs.items) c.loop-router.lists.items in
    let rest = c.pop.new.self.items in
    let reader = c.in-Some.reader in
    let old : c.index_mut.result.now.items ≡ rest ++ reader ∷ [] = search rules in
    let there : slice_get lists i ≡ Some (rest ++ reader ∷ [])
    = slice_get-map (λ rs. rs.items) c.loop-router.lists.items i
    ∙ ap (option_map (λ rs. rs.items)) (slice_get-get_or c.loop-router.lists.items i c.index_mut.result.now (omega arith) ∙ ap Some (sym c.index_mut.ensures.value))
    ∙ ap Some old in
    let written : map (λ rs. rs.items) (set c.loop-router.lists.items i c.pop.new.self) ≡ set lists i rest = map-set (λ rs. rs.items) c.loop-router.lists.items i c.pop.new.self in
    let port : c.push_reserved.new.self.items ≡ c.loop-router.port.items ++ reader ∷ [] = search rules in
    let count : length c.loop-router.port.items ≡ i = search rules in
    let enough : c.args.many ≤ length (rest ++ reader ∷ []) = v.untouched i (omega arith) (rest ++ reader ∷ []) there in
    record {
      all = search rules;
      end = search rules;
      taken = search rules;
      room = search rules;
      port = subst (EachAt (λ k r. r ≡ no_patches k)) (sym port) (each-push (λ k r. r ≡ no_patches k) c.loop-router.port.items reader v.port
          (taken_is lists i rest reader there (v.stock 0 c.requires.some) ∙ ap no_patches (sym count)));
      stock = λ k fewer. subst (HaveReaders k) (sym written) (left_after lists i rest reader there c.args.many k fewer enough (v.stock k fewer));
      untouched = λ j later rs at. others_after lists i rest reader there c.args.many v.untouched j later rs (sym (ap (λ xs. slice_get xs j) written) ∙ at);
    }

pub returns-in_err-port-clause-port : goal.returns-in_err-port-clause-port
returns-in_err-port-clause-port g c = search rules

pub returns-clause-port : goal.returns-clause-port
returns-clause-port g c = search rules
