-- A router that is attached to a prefix, or no longer is, leaves the view as it was until it takes the notice.
use Rattle.std.proofs.Common.{refl, sym, ap, subst, ◌∙◌, ◌≡◌, ℕ, zero, suc, Bool, true, false, not, cond, if◌then◌else◌, List, [], ◌∷◌, ◌++◌, Option, Some, None, slice_get}
use Rattle.no_packet_loops.proofs.Common.{find-put, find-where_key, where_key, Prefix, prefix_cmp, prefix_eq, prefix_cmp_total, IsCost, changed_at, Notice, Attach, Detach, Router, Attachments, World, Network, machine_of, next, with_attachment, without_attachment, Some_injective, None_not_Some, Skips, Equal, is_eq, find as row_of, put}
use Rattle.no_packet_loops.proofs.{Wiring.IsWired, Machines.prefix_same}
use Rattle.no_packet_loops.proofs.Kept.{AttachmentsKept, WorldKept, StepKept, attachment_then, each_changed}

-- a notice at the back is taken last
attachment_then-last : (p : Prefix) (a : Option ℕ) (xs : List Notice) (x : Notice) → attachment_then p a (xs ++ x ∷ []) ≡ (if prefix_eq p x.prefix then x.cost else attachment_then p a xs)
attachment_then-last p a [] x = refl
attachment_then-last p a (y ∷ ys) x = attachment_then-last p (if prefix_eq p y.prefix then y.cost else a) ys x

-- what holds of each notice and of one at the back holds of each then
each_last : (P : Notice → Type 0) (xs : List Notice) (x : Notice) → P x → ((k : ℕ) (y : Notice) → slice_get xs k ≡ Some y → P y) → (k : ℕ) (y : Notice) → slice_get (xs ++ x ∷ []) k ≡ Some y → P y
each_last P [] x here all zero y at = subst P (Some_injective at) here
each_last P [] x here all (suc k) y at = absurd (None_not_Some at)
each_last P (z ∷ zs) x here all zero y at = all zero y at
each_last P (z ∷ zs) x here all (suc k) y at = each_last P zs x here (λ m. all (suc m)) k y at

module _ (p : Prefix) (r : Router) (a : Attachments) (K : AttachmentsKept p r a) (k : Prefix) where
  -- an attachment to a prefix, at a cost, is where the notices lead
  attached : (cost : ℕ) → IsCost cost → AttachmentsKept p r (with_attachment k cost a)
  attached cost good = record {
    leads = attachment_then-last p (machine_of r p).attachment a.notices (record { prefix = k; cost = Some cost })
        ∙ ap (λ o. if prefix_eq p k then Some cost else o) K.leads
        ∙ sym row;
    costs = λ c is. by_key (prefix_eq p k) c (sym row ∙ is);
    notice_costs = each_last (λ x. (c : ℕ) → x.cost ≡ Some c → IsCost c) a.notices (record { prefix = k; cost = Some cost }) (λ c is. subst IsCost (Some_injective is) good) K.notice_costs;
  }
    where
      row : row_of prefix_cmp p (put prefix_cmp k cost a.costs) ≡ (if prefix_eq p k then Some cost else row_of prefix_cmp p a.costs)
      row = find-put prefix_cmp prefix_cmp_total p k cost a.costs

      by_key : (b : Bool) (c : ℕ) → (if b then Some cost else row_of prefix_cmp p a.costs) ≡ Some c → IsCost c
      by_key true c is = subst IsCost (Some_injective is) good
      by_key false c is = K.costs c is

  -- and so is the loss of one
  detached : AttachmentsKept p r (without_attachment k a)
  detached = record {
    leads = attachment_then-last p (machine_of r p).attachment a.notices (record { prefix = k; cost = None })
        ∙ ap (λ o. if prefix_eq p k then None else o) K.leads
        ∙ sym row;
    costs = λ c is. by_key (prefix_eq p k) c (sym row ∙ is);
    notice_costs = each_last (λ x. (c : ℕ) → x.cost ≡ Some c → IsCost c) a.notices (record { prefix = k; cost = None }) (λ c is. absurd (None_not_Some is)) K.notice_costs;
  }
    where
      tied : (x : Prefix) → prefix_cmp p x ≡ Equal → not (prefix_eq x k) ≡ not (prefix_eq p k)
      tied x same = ap (λ (y : Prefix). not (prefix_eq y k)) (sym (prefix_same p x (ap is_eq same)))

      by_test : (b : Bool) (o : Option ℕ) → cond (not b) o None ≡ (if b then None else o)
      by_test true o = refl
      by_test false o = refl

      row : row_of prefix_cmp p (where_key prefix_cmp (λ x. not (prefix_eq x k)) a.costs) ≡ (if prefix_eq p k then None else row_of prefix_cmp p a.costs)
      row = find-where_key prefix_cmp (λ x. not (prefix_eq x k)) p tied a.costs ∙ by_test (prefix_eq p k) (row_of prefix_cmp p a.costs)

      by_key : (b : Bool) (c : ℕ) → (if b then None else row_of prefix_cmp p a.costs) ≡ Some c → IsCost c
      by_key true c is = absurd (None_not_Some is)
      by_key false c is = K.costs c is

-- a change of a router's attachments that is led to the new record leaves the view
module _ (n : Network) (N : IsWired n) (p : Prefix) (w : World) (pfd : ℕ → ℕ) (K : WorldKept n p w) (i : ℕ) where
  changes : (f : Attachments → Attachments) → ((r : Router) (a : Attachments) → AttachmentsKept p r a → AttachmentsKept p r (f a)) → StepKept n N p w pfd (record w { attachments = changed_at i f w.attachments }) pfd
  changes f keeps = record {
    kept = record {
      places_same = K.places_same;
      ends_same = K.ends_same;
      routers_kept = K.routers_kept;
      attachments_kept = λ j r a at has. each_changed (λ m b. (y : Router) → slice_get w.routers m ≡ Some y → AttachmentsKept p y b) i f w.attachments
          (λ b owns y there. keeps y b (K.attachments_kept i y b there owns)) (λ m b d owns y there. K.attachments_kept m y b there owns) j a has r at;
    };
    step = Skips (record {
      machines = record { machine_same = λ j. refl; seen_same = λ e. refl };
      inboxes = record { inbox_same = λ e. refl };
      holdings = record { ripe_same = λ e. refl; unripe_same = λ e. refl };
      links = record { up_same = λ e. refl; session_same = λ e. refl };
      costs = record { cost_same = λ e. refl };
      publications = record { published_same = λ j. refl; published_fd_same = λ j. refl };
    });
  }

  -- the step Attach leaves the view, and keeps what a world keeps
  pub attaches : (k : Prefix) (cost : ℕ) → IsCost cost → StepKept n N p w pfd (next w (Attach i k cost)) pfd
  attaches k cost good = changes (with_attachment k cost) (λ r a A. attached p r a A k cost good)

  pub detaches : (k : Prefix) → StepKept n N p w pfd (next w (Detach i k)) pfd
  detaches k = changes (without_attachment k) (λ r a A. detached p r a A k)
