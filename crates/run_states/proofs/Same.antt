-- What `==` answers true of is one.
use Rattle.std.proofs.Common.{refl, ap, sym, ◌∙◌, ◌≡◌, ℕ, Bool, true, false, not, List, [], ◌∷◌, ◌++◌, ◌-◌, length, take, drop, Option, Some, None, arith, length-drop, take-append-drop, take_all}
use Rattle.std.specs.{List.starts_with, Option.option_eq, Cmp.booleans_Decides, Cmp.Lexicographic.pointwise}
use Rattle.std.proofs.lemmas.Bool.{and_parts, eqb-true}
use Rattle.ipv4_prefix.proofs.PrefixOrder.{prefix_eq-Decides, prefix_partial_eq}
use Rattle.metric.specs.{declared.kind.Kind.Kind, declared.kind.Kind.TheVariants.Update, declared.kind.Kind.TheVariants.Query, declared.kind.Kind.TheVariants.Reply}
use Rattle.metric.specs.contracts.kind.KindPartialEq.TheImpl as KindEq
use Rattle.network_model.specs.{declared.item.Message.Message, declared.item.Item.Item, declared.route.Entry.Entry}
use Rattle.network_model.specs.contracts.item.MessagePartialEq.TheImpl as MessageEq
use Rattle.network_model.specs.contracts.item.ItemPartialEq.TheImpl as ItemEq
use Rattle.network_model.specs.contracts.route.EntryPartialEq.TheImpl as EntryEq
use Rattle.network_model.proofs.EntryLaws.{entry_from_eq, entry_partial_eq}
use Rattle.lines.specs.{declared.records.LinkState.LinkState, declared.records.RouterState.RouterState, declared.records.MachineState.MachineState}
use Rattle.lines.specs.contracts.records.LinkStatePartialEq.TheImpl as LinkEq
use Rattle.lines.specs.contracts.records.RouterStatePartialEq.TheImpl as RouterEq
use Rattle.lines.specs.contracts.records.MachineStatePartialEq.TheImpl as MachineEq

-- what is not unequal is equal
pub not_false : (b : Bool) → false ≡ not b → b ≡ true
not_false true e = refl
not_false false e = absurd (cc)

pub option_same : {X : Type 0} (E : X → X → Bool) → ((a b : X) → E a b ≡ true → a ≡ b) → (a b : Option X) → option_eq E a b ≡ true → a ≡ b
option_same E same None None e = refl
option_same E same (Some a) (Some b) e = ap Some (same a b e)
option_same E same _ _ e = absurd (cc)

pub list_same : {X : Type 0} (E : X → X → Bool) → ((a b : X) → E a b ≡ true → a ≡ b) → (xs ys : List X) → pointwise E xs ys ≡ true → xs ≡ ys
list_same E same [] [] e = refl
list_same E same (x ∷ xs) (y ∷ ys) e = let parts = and_parts _ _ e in λ i. same x y parts.0 i ∷ list_same E same xs ys parts.1 i
list_same E same _ _ e = absurd (cc)

-- a list that starts with another is that and the rest
pub starts_same : {X : Type 0} (E : X → X → Bool) → ((a b : X) → E a b ≡ true → a ≡ b) → (xs front : List X) (n : ℕ) → n ≡ length front → true ≡ starts_with E xs front
    → front ++ take (length xs - n) (drop n xs) ≡ xs
starts_same E same xs front n long starts =
    let rest : take (length xs - n) (drop n xs) ≡ drop n xs = take_all (length xs - n) (drop n xs) (let d = length-drop n xs in omega (arith, d)) in
    let first : front ≡ take n xs = list_same E same front (take (length front) xs) (sym starts) ∙ ap (λ k. take k xs) (sym long) in
    ap (λ ys. ys ++ take (length xs - n) (drop n xs)) first ∙ ap (λ ys. take n xs ++ ys) rest ∙ take-append-drop n xs

pub entry_same : (e f : Entry) → (EntryEq.ghosts).eq e f ≡ true → e ≡ f
entry_same e f h = entry_from_eq e f (sym (entry_partial_eq e f) ∙ h)

kind_same : (a b : Kind) → (KindEq.ghosts).eq a b ≡ true → a ≡ b
kind_same Update Update h = refl
kind_same Query Query h = refl
kind_same Reply Reply h = refl
kind_same _ _ h = absurd (cc)

message_same : (a b : Message) → (MessageEq.ghosts).eq a b ≡ true → a ≡ b
message_same a b h =
    let parts = and_parts _ _ h in
    let rest = and_parts _ _ parts.1 in
    let prefix : a.prefix ≡ b.prefix = (prefix_eq-Decides a.prefix b.prefix).0 (sym (prefix_partial_eq a.prefix b.prefix) ∙ rest.0) in
    λ i. record { kind = kind_same a.kind b.kind parts.0 i; prefix = prefix i; value = eqb-true a.value b.value rest.1 i }

pub item_same : (a b : Item) → (ItemEq.ghosts).eq a b ≡ true → a ≡ b
item_same (Item.Up s c) (Item.Up t d) h = let parts = and_parts _ _ h in λ i. Item.Up (eqb-true s t parts.0 i) (eqb-true c d parts.1 i)
item_same (Item.Down s) (Item.Down t) h = ap Item.Down (eqb-true s t h)
item_same (Item.Cost s c) (Item.Cost t d) h = let parts = and_parts _ _ h in λ i. Item.Cost (eqb-true s t parts.0 i) (eqb-true c d parts.1 i)
item_same (Item.Message m) (Item.Message n) h = ap Item.Message (message_same m n h)
item_same _ _ h = absurd (cc)

pub link_same : (a b : LinkState) → (LinkEq.ghosts).eq a b ≡ true → a ≡ b
link_same a b h =
    let p = and_parts _ _ h in let q = and_parts _ _ p.1 in let r = and_parts _ _ q.1 in
    λ i. record { up = (booleans_Decides a.up b.up).0 p.0 i; session = eqb-true a.session b.session q.0 i; from_a = eqb-true a.from_a b.from_a r.0 i; from_b = eqb-true a.from_b b.from_b r.1 i }

pub router_same : (a b : RouterState) → (RouterEq.ghosts).eq a b ≡ true → a ≡ b
router_same a b h =
    let p = and_parts _ _ h in let q = and_parts _ _ p.1 in let r = and_parts _ _ q.1 in
    λ i. record { generation = eqb-true a.generation b.generation p.0 i; held = eqb-true a.held b.held q.0 i; ripe = eqb-true a.ripe b.ripe r.0 i; notices = eqb-true a.notices b.notices r.1 i }

pub machine_same : (a b : MachineState) → (MachineEq.ghosts).eq a b ≡ true → a ≡ b
machine_same a b h =
    let p = and_parts _ _ h in let q = and_parts _ _ p.1 in
    λ i. record { origin = option_same _ eqb-true a.origin b.origin p.0 i; rd = eqb-true a.rd b.rd q.0 i; fd = eqb-true a.fd b.fd q.1 i }
