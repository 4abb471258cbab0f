use Rattle.std.proofs.Common.{◌≡◌, ◌<◌, ℕ, List, Option, length, refl, ap, subst, sym}
use Rattle.network_model.proofs.Common.{Prefix, Router}
use Rattle.network_model.specs.{declared.step.Step.Step, declared.step.Step.TheVariants.Deliver}
use Rattle.timed_reports.specs.{declared.spells.Watched.Watched, Going.IsComputing, Looks.IsPassedBy, Records.AreInOrder, Records.AreLooked}
use Rattle.timed_reports.proofs.OneByOne.{looked_aside}
use Rattle.timed_reports.proofs.looks.look_for_computations.Goals as goal

-- no machine meets anything but where an item is taken
passed : (s : Step) (told : Option Prefix) → ((i q : ℕ) → s ≡ Deliver i q → ⊥) → (c : Watched) → IsPassedBy s told c
passed (Deliver i q) told other c = absurd (other i q refl)
passed _ told other c = tt

pub look_at_router-requires-clause-order : goal.look_at_router-requires-clause-order
look_at_router-requires-clause-order g c =
    let many : length c.args.world.now.routers ≡ length c.routers-routers.result.now = sym (ap (λ (rs : List Router). length rs) c.routers-routers.ensures.routers) in
    subst (λ (n : ℕ). AreInOrder n c.prefixes.result.now c.args.all.now.items) many (subst (λ (ps : List Prefix). AreInOrder (length c.args.world.now.routers) ps c.args.all.now.items) (sym c.prefixes.ensures) c.requires.order)

pub returns-in-Deliver : goal.returns-in-Deliver
returns-in-Deliver g c =
    subst (λ (s : Step). AreLooked IsComputing c.args.world.now c.args.now (IsPassedBy s c.args.told) (length c.args.all.now.items) c.args.all.now.items c.look_at_router.new.all.items c.args.ended.now.items c.look_at_router.new.ended.items) (sym c.in-Deliver.is)
    c.look_at_router.ensures

pub returns-in_default : goal.returns-in_default
returns-in_default g c = looked_aside IsComputing c.args.world.now c.args.now (IsPassedBy c.args.step.now c.args.told) c.args.all.now.items c.args.ended.now.items (passed c.args.step.now c.args.told c.in_default.not-Deliver)
