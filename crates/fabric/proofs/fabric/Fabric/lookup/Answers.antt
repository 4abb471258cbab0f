use Rattle.std.proofs.Common.{◌≡◌, ◌∙◌, ◌⊎◌, ◌<◌, Some, length, refl, ap, sym, subst, arith, IfErr, MatchOption, option_map, length-set}
use Rattle.no_packet_loops.proofs.Common.{IfOk-weaker, Answer, UnknownRouter, Stale, NoImage, Router, answer_of}
use Rattle.publication.specs.{declared.known.Known.Known, Lists.image_of}
use Rattle.publication.proofs.Places.{each_set}
use Rattle.fabric.specs.{Fabric.Fabric, Images.answer_at}
use Rattle.course.specs.Images.{image_in_force, images_in_force}
use Rattle.fabric.proofs.{Causes.nothing_at, ImagesInForce.answer_shown}
use Rattle.fabric.proofs.fabric.Fabric.lookup.Given as given
use Rattle.fabric.proofs.fabric.Fabric.lookup.Goals as goal

-- what the list that was told of answers
abbrev list_answer : (g : given.Over) (c : goal.After-drop-told-inside g) → Answer
list_answer g c = answer_of (image_of g.B.FabricName.openings c.in-Some.told) c.args.addr

answer : (g : given.Over) (c : goal.After-drop-told-inside g) → answer_at c.args.self.now.world c.args.router c.args.addr ≡ Some (list_answer g c)
answer g c =
    let before = ap (λ (f : Fabric). f.images) (sym c.self.view_is) ∙ c.self.invariant.0.0.in_force ∙ ap (λ (f : Fabric). images_in_force f.world) c.self.view_is in
    answer_shown c.args.self.now.world c.args.self.now.images before c.args.router (image_of g.B.FabricName.openings c.in-Some.told) c.in-Some.ensures.in_force c.args.addr

pub returns-clause-ok : goal.returns-clause-ok
returns-clause-ok g c =
    IfOk-weaker c.ask.result (λ a. a ≡ list_answer g c) (λ a. answer_at c.args.self.now.world c.args.router c.args.addr ≡ Some a) (λ a same. answer g c ∙ ap Some (sym same)) c.ask.ensures.answer

pub returns-clause-err : goal.returns-clause-err
returns-clause-err g c =
    subst (λ o. IfErr c.ask.result (λ e. MatchOption o (e ≡ UnknownRouter) (λ _. (e ≡ Stale) ⊎ (e ≡ NoImage)))) (sym (answer g c)) c.ask.ensures.err

pub returns-in_default-clause-err : goal.returns-in_default-clause-err
returns-in_default-clause-err g c =
    let routers = c.args.self.now.world.routers in
    let none = nothing_at routers c.args.router c.in_default.ensures.known.1 in
    subst (λ o. MatchOption (option_map (λ (r : Router). answer_of (image_in_force r) c.args.addr) o) (UnknownRouter ≡ UnknownRouter) (λ _. (UnknownRouter ≡ Stale) ⊎ (UnknownRouter ≡ NoImage))) (sym none) refl

pub index_mut-requires : goal.index_mut-requires
index_mut-requires g c =
    let below = c.in-Some.ensures.known.0 refl in
    let world = ap (λ (f : Fabric). length f.world.routers) c.self.view_is in
    let every = c.self.invariant.0.3.every_router in
    let count = c.self.inside.readers.ok.0 in
    omega (arith, below, world, every, count, c.from.ensures)

reader_number : (g : given.Over) (c : goal.After-told-2-1 g) → c.args.router ≡ c.index_mut.result.now.router
reader_number g c =
    let below = c.in-Some.ensures.known.0 refl in
    let world = ap (λ (f : Fabric). length f.world.routers) c.self.view_is in
    let every = c.self.invariant.0.3.every_router in
    let within : c.from.result < length c.self.inside.readers.items = omega (arith, below, world, every, c.from.ensures) in
    sym c.from.ensures ∙ sym (c.self.invariant.0.3.numbered c.from.result c.index_mut.result.now within) ∙ ap (λ (k : Known). k.router) (sym c.index_mut.ensures.value)

pub ask-requires : goal.ask-requires
ask-requires g c = c.in-Some.ensures.router ∙ reader_number g c

pub invariant_of-self : goal.invariant_of-self
invariant_of-self g c =
    let readers = c.self.inside.readers.items in
    let asked = c.ask.new.reader in
    let number : asked.router ≡ c.from.result = c.ask.ensures.router ∙ sym (reader_number g c.before.before.before.before) ∙ sym c.from.ensures in (
      (
        c.self.invariant.0.0,
        c.self.invariant.0.1,
        c.self.invariant.0.2,
        record {
          every_router = length-set readers c.from.result asked ∙ c.self.invariant.0.3.every_router;
          numbered = each_set (λ i (v : Known). v.router ≡ i) readers c.from.result asked c.self.invariant.0.3.numbered number;
        },
        c.self.invariant.0.4,
        c.self.invariant.0.5,
      ),
      c.self.invariant.1,
    )
