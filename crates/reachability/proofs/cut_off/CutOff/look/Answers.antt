use Rattle.std.proofs.Common.{sym, ap, subst, ◌∙◌, ◌≡◌, ◌↔◌, ℕ, Bool, true, List, length, rules}
use Rattle.std.specs.{Vec.with_items, declared.vec.Vec.Vec}
use Rattle.std.proofs.lemmas.List.{with_items_is}
use Rattle.ipv4_prefix.specs.Prefix.{Prefix}
use Rattle.network_model.specs.World.{World}
use Rattle.reachability.specs.{Ways.HasWay, Ways.Reaches, Marks.Marks, Marks.is_in}
use Rattle.reachability.proofs.Laws.{AreMarks, found, told, unmarked_at_best}
use Rattle.reachability.proofs.cut_off.CutOff.look.Goals as goal

-- the marks of two lists that were written anew
abbrev marks_in : {Z : Type 0} → Vec Bool Z → Vec Bool Z → List Bool → List Bool → Marks
marks_in u v reached routed = record { reached = (with_items u reached).items; routed = (with_items v routed).items }

-- they are those of all routers that reach the prefix, and of all that have a way
are_marks : {Z : Type 0} (w : World) (p : Prefix) (u v : Vec Bool Z) (xs ys : List Bool) → length xs ≡ u.len → length ys ≡ v.len → length xs ≡ length w.routers
    → ((i : ℕ) → (is_in xs i ≡ true) ↔ Reaches w p i) → ((i : ℕ) → (is_in ys i ≡ true) ↔ HasWay w p i) → AreMarks w p (marks_in u v xs ys)
are_marks w p u v xs ys all_xs all_ys size reached routed = record {
  size = ap (λ (zs : List Bool). length zs) (with_items_is u xs all_xs) ∙ size;
  reached = λ i. subst (λ (zs : List Bool). (is_in zs i ≡ true) ↔ Reaches w p i) (sym (with_items_is u xs all_xs)) (reached i);
  routed = λ i. subst (λ (zs : List Bool). (is_in zs i ≡ true) ↔ HasWay w p i) (sym (with_items_is v ys all_ys)) (routed i);
}

pub returns-clause-cut_off : goal.returns-clause-cut_off
returns-clause-cut_off g c =
    let w = c.args.world.now in
    let p = c.args.prefix in
    let m = marks_in c.self.inside.reached c.self.inside.routed c.mark_reached.new.marks c.mark_routed.new.marks in
    let M = are_marks w p c.self.inside.reached c.self.inside.routed c.mark_reached.new.marks c.mark_routed.new.marks (search rules) (search rules) (search rules) c.mark_reached.ensures c.mark_routed.ensures in
    λ i. (told w p m M i, found w p m M i)

pub returns-clause-at_best : goal.returns-clause-at_best
returns-clause-at_best g c =
    let w = c.args.world.now in
    let p = c.args.prefix in
    let m = marks_in c.self.inside.reached c.self.inside.routed c.mark_reached.new.marks c.mark_routed.new.marks in
    let M = are_marks w p c.self.inside.reached c.self.inside.routed c.mark_reached.new.marks c.mark_routed.new.marks (search rules) (search rules) (search rules) c.mark_reached.ensures c.mark_routed.ensures in
    λ best i. unmarked_at_best w p m M i best
