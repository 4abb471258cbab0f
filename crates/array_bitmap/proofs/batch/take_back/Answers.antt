use Rattle.std.proofs.Common.{◌≡◌, ◌+◌, ◌-◌, ◌<◌, ◌∙◌, List, length, take, get_or, slice_index_or, vec_len, Some, None, arith, ap, sym, subst}
use Rattle.std.proofs.lemmas.List.{get_or_default}
use Rattle.ipv4_prefix.specs.Prefix.{Prefix}
use Rattle.network_model.specs.declared.route.Entry.{Entry}
use Rattle.array_bitmap.specs.{Batch.IsNoted, Image.rows_in}
use Rattle.bitmaps.proofs.Options.{Some_same}
use Rattle.array_bitmap.proofs.Batches.{noted_there, noted_back}
use Rattle.array_bitmap.proofs.batch.take_back.Goals as goal

pub put_back-requires-clause-there : goal.put_back-requires-clause-there
put_back-requires-clause-there g c =
    let some = c.loop-before.invariant.some in
    let few = some.1.few in
    let r = slice_index_or c.args.rows.now c.len.result c.index-rows-len.result in
    let e : length c.loop-before.notes.items ≡ c.len.result + 1 = omega (arith, c.len.ensures, c.in-Some.ensures.cases, c.loop-before.notes.ok.0) in
    noted_there some.0 c.args.rows.now c.loop-before.notes.items (rows_in c.loop-before.tree) c.len.result r e (get_or_default c.args.rows.now c.len.result c.index-rows-len.result r (omega (arith, few, e))) some.1

pub loop-before-preserved : goal.loop-before-preserved
loop-before-preserved g c =
    let some = c.loop-before.invariant.some in
    let few = some.1.few in
    let r = slice_index_or c.args.rows.now c.len.result c.index-rows-len.result in
    let e : length c.loop-before.notes.items ≡ c.len.result + 1 = omega (arith, c.len.ensures, c.in-Some.ensures.cases, c.loop-before.notes.ok.0) in
    let is = get_or_default c.args.rows.now c.len.result c.index-rows-len.result r (omega (arith, few, e)) in
    let last : vec_len c.loop-before.notes - 1 ≡ c.len.result = omega (arith, c.len.ensures, c.in-Some.ensures.cases) in
    let full : 0 < vec_len c.loop-before.notes = omega (arith, c.in-Some.ensures.cases) in
    let before : c.in-Some.before ≡ get_or c.loop-before.notes.items c.len.result None =
    Some_same c.pop.result c.in-Some.before (get_or c.loop-before.notes.items c.len.result None) c.in-Some.is
    (c.pop.ensures.value None full ∙ ap (λ k. Some (get_or c.loop-before.notes.items k None)) last) in
    let rest : c.pop.new.self.items ≡ take c.len.result c.loop-before.notes.items = c.pop.ensures.rest ∙ ap (λ k. take k c.loop-before.notes.items) last in
    let back = λ (table : List (Prefix × Entry)) (n : IsNoted table c.args.rows.now c.loop-before.notes.items (rows_in c.loop-before.tree)).
    subst (IsNoted table c.args.rows.now c.pop.new.self.items) (sym c.put_back.ensures.rows)
    (noted_back table c.args.rows.now c.loop-before.notes.items (rows_in c.loop-before.tree) c.len.result r e is n c.in-Some.before c.pop.new.self.items before rest) in
    record {
      sound = c.put_back.ensures.sound;
      some = (some.0, back some.0 some.1);
      noted = λ table n. back table (c.loop-before.invariant.noted table n);
    }
