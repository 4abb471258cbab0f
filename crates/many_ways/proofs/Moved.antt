-- A step that publishes nothing is one of the network with other next hops shown, as long as these stay.
use Rattle.std.proofs.Common.{◌≡◌, ◌∙◌, ℕ, Option}
use Rattle.network_model.proofs.Common.{State}
use Rattle.network_model.specs.declared.route.NextHop.{NextHop}
use Rattle.loop_freedom.specs.Network.{Topology, SameLinks, SameMachines, SamePublished, SameInboxes, SameHeld, SameCosts, Take, TakeAtHome, Publish, Release, LinkUp, LinkDown, SetCost, Skip}
use Rattle.many_ways.proofs.Shown.{with_hops}

module _ (t : Topology) (old new : State) (c d : ℕ → Option NextHop) where
  abbrev o : State
  o = with_hops c old

  abbrev n : State
  n = with_hops d new

  pub links : SameLinks old new → SameLinks o n
  links S = record { up_same = S.up_same; session_same = S.session_same }

  pub machines : SameMachines old new → SameMachines o n
  machines S = record { machine_same = S.machine_same; seen_same = S.seen_same }

  pub inboxes : SameInboxes old new → SameInboxes o n
  inboxes S = record { inbox_same = S.inbox_same }

  pub holdings : SameHeld old new → SameHeld o n
  holdings S = record { ripe_same = S.ripe_same; unripe_same = S.unripe_same }

  pub costs : SameCosts old new → SameCosts o n
  costs S = record { cost_same = S.cost_same }

  pub publications : ((i : ℕ) → d i ≡ c i) → SamePublished old new → SamePublished o n
  publications same S = record { published_same = same; published_fd_same = S.published_fd_same }

  pub take : ((i : ℕ) → d i ≡ c i) → Take t old new → Take t o n
  take same S = record {
    a = S.a;
    item = S.item;
    valid_place = S.valid_place;
    inbox_at = S.inbox_at;
    inbox_elsewhere = S.inbox_elsewhere;
    machine_at = S.machine_at;
    machine_elsewhere = S.machine_elsewhere;
    seen_at = S.seen_at;
    seen_elsewhere = S.seen_elsewhere;
    unripe_at = S.unripe_at;
    unripe_elsewhere = S.unripe_elsewhere;
    ripe_same = S.ripe_same;
    links = links S.links;
    costs = costs S.costs;
    publications = publications same S.publications;
  }

  pub take_at_home : ((i : ℕ) → d i ≡ c i) → TakeAtHome t old new → TakeAtHome t o n
  take_at_home same S = record {
    i = S.i;
    notice = S.notice;
    positive = S.positive;
    machine_at = S.machine_at;
    machine_elsewhere = S.machine_elsewhere;
    unripe_at = S.unripe_at;
    unripe_elsewhere = S.unripe_elsewhere;
    seen_same = S.seen_same;
    ripe_same = S.ripe_same;
    inboxes = inboxes S.inboxes;
    links = links S.links;
    costs = costs S.costs;
    publications = publications same S.publications;
  }

  -- the router that publishes shows its successor; the others show what they showed
  pub publish : (S : Publish t old new) → d S.j ≡ new.published S.j → ((i : ℕ) → (i ≡ S.j → ⊥) → d i ≡ c i) → Publish t o n
  publish S shows same = record {
    j = S.j;
    published_at = shows ∙ S.published_at;
    published_fd_at = S.published_fd_at;
    published_elsewhere = same;
    published_fd_elsewhere = S.published_fd_elsewhere;
    ripe_at = S.ripe_at;
    unripe_at = S.unripe_at;
    ripe_elsewhere = S.ripe_elsewhere;
    unripe_elsewhere = S.unripe_elsewhere;
    machines = machines S.machines;
    inboxes = inboxes S.inboxes;
    links = links S.links;
    costs = costs S.costs;
  }

  pub release : ((i : ℕ) → d i ≡ c i) → Release t old new → Release t o n
  release same S = record {
    a = S.a;
    first = S.first;
    valid_place = S.valid_place;
    ripe_at = S.ripe_at;
    ripe_elsewhere = S.ripe_elsewhere;
    inbox_at = S.inbox_at;
    inbox_elsewhere = S.inbox_elsewhere;
    unripe_same = S.unripe_same;
    machines = machines S.machines;
    links = links S.links;
    costs = costs S.costs;
    publications = publications same S.publications;
  }

  pub link_up : ((i : ℕ) → d i ≡ c i) → LinkUp t old new → LinkUp t o n
  link_up same S = record {
    a = S.a;
    valid_place = S.valid_place;
    was_down = S.was_down;
    up_at = S.up_at;
    session_at = S.session_at;
    inbox_at = S.inbox_at;
    up_elsewhere = S.up_elsewhere;
    session_elsewhere = S.session_elsewhere;
    inbox_elsewhere = S.inbox_elsewhere;
    machines = machines S.machines;
    holdings = holdings S.holdings;
    costs = costs S.costs;
    publications = publications same S.publications;
  }

  pub link_down : ((i : ℕ) → d i ≡ c i) → LinkDown t old new → LinkDown t o n
  link_down same S = record {
    a = S.a;
    valid_place = S.valid_place;
    was_up = S.was_up;
    up_at = S.up_at;
    inbox_at = S.inbox_at;
    up_elsewhere = S.up_elsewhere;
    inbox_elsewhere = S.inbox_elsewhere;
    session_same = S.session_same;
    machines = machines S.machines;
    holdings = holdings S.holdings;
    costs = costs S.costs;
    publications = publications same S.publications;
  }

  pub set_cost : ((i : ℕ) → d i ≡ c i) → SetCost t old new → SetCost t o n
  set_cost same S = record {
    a = S.a;
    valid_place = S.valid_place;
    was_up = S.was_up;
    positive = S.positive;
    cost_elsewhere = S.cost_elsewhere;
    inbox_at = S.inbox_at;
    inbox_elsewhere = S.inbox_elsewhere;
    machines = machines S.machines;
    holdings = holdings S.holdings;
    links = links S.links;
    publications = publications same S.publications;
  }

  pub skip : ((i : ℕ) → d i ≡ c i) → Skip t old new → Skip t o n
  skip same S = record {
    machines = machines S.machines;
    inboxes = inboxes S.inboxes;
    holdings = holdings S.holdings;
    links = links S.links;
    costs = costs S.costs;
    publications = publications same S.publications;
  }
