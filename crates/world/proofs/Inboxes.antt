-- What stands on a link towards a port leads to the link, whatever is done to the link.
use Rattle.std.proofs.Common.{refl, sym, subst, ◌≡◌, ℕ, ◌+◌, Bool, true, false, cond, ◌==◌, List, [], ◌∷◌, ◌++◌, filter}
use Rattle.no_packet_loops.proofs.Common.{and_parts, Item, Held, Message, End, Link, side, other, is_notice, link_come_up, link_gone_down, with_cost, with_message, is_up_in, changed_side, with_item}
use Rattle.world.specs.Kept.{ItemsLead}

-- ---- one list

leads_up : (port : Bool) (session cost : ℕ) (items : List Item) → ItemsLead port false items → ItemsLead port true (items ++ Item.Up session cost ∷ [])
leads_up port n c [] h = (h, refl)
leads_up port n c (Item.Up m d ∷ items) h = (h.0, leads_up true n c items h.1)
leads_up port n c (Item.Down m ∷ items) h = (h.0, leads_up false n c items h.1)
leads_up port n c (Item.Cost m d ∷ items) h = (h.0, leads_up port n c items h.1)
leads_up port n c (Item.Message m ∷ items) h = (h.0, leads_up port n c items h.1)

leads_down : (port : Bool) (session : ℕ) (items : List Item) → ItemsLead port true items → ItemsLead port false (filter is_notice items ++ Item.Down session ∷ [])
leads_down port n [] h = (h, refl)
leads_down port n (Item.Up m d ∷ items) h = (h.0, leads_down true n items h.1)
leads_down port n (Item.Down m ∷ items) h = (h.0, leads_down false n items h.1)
leads_down port n (Item.Cost m d ∷ items) h = (h.0, leads_down port n items h.1)
leads_down port n (Item.Message m ∷ items) h = leads_down port n items h.1

leads_cost : (port : Bool) (session cost : ℕ) (items : List Item) → ItemsLead port true items → ItemsLead port true (items ++ Item.Cost session cost ∷ [])
leads_cost port n c [] h = (h, h)
leads_cost port n c (Item.Up m d ∷ items) h = (h.0, leads_cost true n c items h.1)
leads_cost port n c (Item.Down m ∷ items) h = (h.0, leads_cost false n c items h.1)
leads_cost port n c (Item.Cost m d ∷ items) h = (h.0, leads_cost port n c items h.1)
leads_cost port n c (Item.Message m ∷ items) h = (h.0, leads_cost port n c items h.1)

leads_message : (port : Bool) (message : Message) (items : List Item) → ItemsLead port true items → ItemsLead port true (items ++ Item.Message message ∷ [])
leads_message port x [] h = (h, h)
leads_message port x (Item.Up m d ∷ items) h = (h.0, leads_message true x items h.1)
leads_message port x (Item.Down m ∷ items) h = (h.0, leads_message false x items h.1)
leads_message port x (Item.Cost m d ∷ items) h = (h.0, leads_message port x items h.1)
leads_message port x (Item.Message m ∷ items) h = (h.0, leads_message port x items h.1)

-- ---- both ends of a link

-- a change of a link after which what leads to it leads to it still, at both ends
abbrev pub KeepsLeading : (Link → Link) → Link → Type 0
KeepsLeading f k = (e : End) (port : Bool) → ItemsLead port k.up (side e k).inbox → ItemsLead port (f k).up (side e (f k)).inbox

leads_along : (port up : Bool) (items : List Item) → up ≡ true → ItemsLead port up items → ItemsLead port true items
leads_along port up items is h = subst (λ b. ItemsLead port b items) is h

pub come_up-keeps : (k : Link) → k.up ≡ false → KeepsLeading link_come_up k
come_up-keeps k down End.A port h = leads_up port (k.session + 1) (k.a).cost (k.a).inbox (subst (λ b. ItemsLead port b (k.a).inbox) down h)
come_up-keeps k down End.B port h = leads_up port (k.session + 1) (k.b).cost (k.b).inbox (subst (λ b. ItemsLead port b (k.b).inbox) down h)

pub gone_down-keeps : (k : Link) → k.up ≡ true → KeepsLeading link_gone_down k
gone_down-keeps k up End.A port h = leads_down port k.session (k.a).inbox (leads_along port k.up (k.a).inbox up h)
gone_down-keeps k up End.B port h = leads_down port k.session (k.b).inbox (leads_along port k.up (k.b).inbox up h)

pub with_cost-keeps : (cost : ℕ) (e : End) (k : Link) → k.up ≡ true → KeepsLeading (with_cost cost e) k
with_cost-keeps c End.A k up End.A port h = subst (λ b. ItemsLead port b ((k.a).inbox ++ Item.Cost k.session c ∷ [])) (sym up) (leads_cost port k.session c (k.a).inbox (leads_along port k.up (k.a).inbox up h))
with_cost-keeps c End.B k up End.B port h = subst (λ b. ItemsLead port b ((k.b).inbox ++ Item.Cost k.session c ∷ [])) (sym up) (leads_cost port k.session c (k.b).inbox (leads_along port k.up (k.b).inbox up h))
with_cost-keeps c _ k up _ port h = h

-- a message that is put on a link that is up
put-keeps : (m : Message) (e : End) (k : Link) → k.up ≡ true → KeepsLeading (changed_side (other e) (with_item (Item.Message m))) k
put-keeps m End.A k up End.B port h = subst (λ b. ItemsLead port b ((k.b).inbox ++ Item.Message m ∷ [])) (sym up) (leads_message port m (k.b).inbox (leads_along port k.up (k.b).inbox up h))
put-keeps m End.B k up End.A port h = subst (λ b. ItemsLead port b ((k.a).inbox ++ Item.Message m ∷ [])) (sym up) (leads_message port m (k.a).inbox (leads_along port k.up (k.a).inbox up h))
put-keeps m _ k up _ port h = h

-- or is discarded
pub with_message-keeps : (h : Held) (e : End) (k : Link) → KeepsLeading (with_message h e) k
with_message-keeps h e k = by_test (is_up_in h.session k) refl
  where
    by_test : (b : Bool) → is_up_in h.session k ≡ b → KeepsLeading (λ l. cond b (changed_side (other e) (with_item (Item.Message h.message)) l) l) k
    by_test true live = put-keeps h.message e k (and_parts k.up (k.session == h.session) live).0
    by_test false dead = λ d port leads. leads
