-- A router that takes an item keeps the invariant.
use Rattle.std.proofs.Common.{refl, sym, ◌∙◌, ap, subst, inl, inr, ◌≡◌, ℕ, ◌<◌, true, ◌∷◌, ◌++◌, None, length, slice_get, List}
use Rattle.network_model.proofs.Common.{cases_eq, Machine, SeenItem, UpNotice, LinkEnd, State, at_port}
use Rattle.network_model.specs.{declared.machine.Event.Event, declared.machine.Neighbour.Neighbour}
use Rattle.machine_laws.specs.Laws.{Meets, MachineLaws, is_up_at, test_at}
use Rattle.loop_freedom.specs.{Network.Topology, Network.Take, Network.event_of, Facts.messages}
use Rattle.loop_freedom.proofs.{Lists.front, Notices.IsLawfulInbox, Ends.place_cases, Invariant.Invariant, Invariant.IsLawfulAt, Meeting.Taken, Meeting.met_item, Meeting.meeting_keeps}
use Rattle.loop_freedom.proofs.Ports.{ports_length, ports_other, port_step_other, port_step_same, meets_item, lawful_after, message_of}

-- the messages among items are the one at the front, if it is one, then those of the rest
front_item : (item : SeenItem) (rest : List SeenItem) → messages (item ∷ rest) ≡ front (message_of item) ++ messages rest
front_item (UpNotice s c) rest = refl
front_item _ rest = refl

module _ (laws : MachineLaws) (t : Topology) (old new : State) (I : Invariant t old) (T : Take t old new) where
  -- the machine that takes the item
  abbrev m : Machine
  m = old.machine T.a.router

  -- the event that the item is to the machine
  abbrev ev : Event
  ev = event_of T.a.port T.item

  -- the port at which the item is taken is there
  there_a : T.a.port < length m.ports
  there_a = I.there T.a T.valid_place

  -- the item and those that remain are lawful
  lawful_a : IsLawfulInbox (is_up_at m T.a.port) (old.seen T.a) (old.up T.a) (old.session T.a) (T.item ∷ new.inbox T.a)
  lawful_a = rw T.inbox_at at (I.lawful T.a T.valid_place)

  -- the machine may meet the event
  meets : Meets m ev
  meets = meets_item laws m T.a.port T.item (new.inbox T.a) (old.seen T.a) (old.session T.a) (old.up T.a) there_a lawful_a

  -- another end of the same router is at another port
  other_port : (e : LinkEnd) → (e ≡ T.a → ⊥) → e.router ≡ T.a.router → T.a.port ≡ e.port → ⊥
  other_port e d r p = d (elim (place_cases e T.a) [ inl x ↦ x | inr f ↦ absurd (f (ap (λ (n : ℕ). at_port n e.port) r ∙ ap (λ (n : ℕ). at_port T.a.router n) (sym p))) ])

  -- the end at which the item is taken
  taken_at : old.up T.a ≡ true → Taken old new m ev T.a
  taken_at live_link =
      let h : IsLawfulInbox (is_up_at m T.a.port) (old.seen T.a) true (old.session T.a) (T.item ∷ new.inbox T.a) = rw live_link at lawful_a in
      record {
        message = message_of T.item;
        port = rw T.seen_at (port_step_same laws m T.a.port T.item (new.inbox T.a) (old.seen T.a) (old.session T.a) there_a h);
        took = ap messages T.inbox_at ∙ front_item T.item (new.inbox T.a);
      }

  -- the other ends of the same router
  taken_beside : (e : LinkEnd) → (e ≡ T.a → ⊥) → e.router ≡ T.a.router → Taken old new m ev e
  taken_beside e d r = record {
    message = None;
    port = rw (T.seen_elsewhere e d) (port_step_other laws m T.a.port e.port T.item (old.seen e) (old.session e) (other_port e d r));
    took = ap messages (sym (T.inbox_elsewhere e d));
  }

  -- the step leaves every machine's number of ports
  lengths : (i : ℕ) → length (new.machine i).ports ≡ length (old.machine i).ports
  lengths i = elim (cases_eq i T.a.router) [
    | inl p ↦ subst (λ (k : ℕ). length (new.machine k).ports ≡ length (old.machine k).ports) (sym p)
        (ap (λ (w : Machine). length w.ports) T.machine_at ∙ ap (λ (ns : List Neighbour). length ns) (laws.keeps_records m ev) ∙ ports_length T.a.port T.item m.ports)
    | inr d ↦ ap (λ (w : Machine). length w.ports) (T.machine_elsewhere i d)
  ]

  -- the items that remain at the port where one was taken are lawful
  lawful_here : IsLawfulAt new T.a
  lawful_here = rw (T.machine_at, T.seen_at, T.links.up_same T.a, T.links.session_same T.a) (lawful_after laws m T.a.port T.item (new.inbox T.a) (old.seen T.a) (old.session T.a) (old.up T.a) there_a lawful_a)

  -- every other port is up or down as before
  ups : (e : LinkEnd) → (e ≡ T.a → ⊥) → is_up_at (new.machine e.router) e.port ≡ is_up_at (old.machine e.router) e.port
  ups e d = elim (cases_eq e.router T.a.router) [
    | inl r ↦ ap (λ (w : Machine). is_up_at w e.port) (ap new.machine r ∙ T.machine_at)
        ∙ ap (λ o. test_at (λ (x : Neighbour). x.up) o) (ap (λ (ns : List Neighbour). slice_get ns e.port) (laws.keeps_records m ev) ∙ ports_other T.a.port e.port T.item m.ports (other_port e d r))
        ∙ ap (λ (w : Machine). is_up_at w e.port) (sym (ap old.machine r))
    | inr f ↦ ap (λ (w : Machine). is_up_at w e.port) (T.machine_elsewhere e.router f)
  ]

  -- the items at every end are lawful after the step
  lawful' : (e : LinkEnd) → t.valid e ≡ true → IsLawfulAt new e
  lawful' e v = elim (place_cases e T.a) [
    | inl p ↦ subst (λ (w : LinkEnd). IsLawfulAt new w) (sym p) lawful_here
    | inr d ↦ rw (ups e d, T.seen_elsewhere e d, T.links.up_same e, T.links.session_same e, T.inbox_elsewhere e d) (I.lawful e v)
  ]

  -- taking an item keeps the invariant
  pub take_keeps : Invariant t new
  take_keeps = meeting_keeps laws t old new I T.a.router ev (record {
    met = met_item t old new T;
    meets = meets;
    takes = λ e v u r. elim (place_cases e T.a) [
      | inl p ↦ subst (λ (w : LinkEnd). Taken old new m ev w) (sym p) (taken_at (subst (λ (w : LinkEnd). old.up w ≡ true) p u))
      | inr d ↦ taken_beside e d r
    ];
    lengths = lengths;
    lawful = lawful';
  })
