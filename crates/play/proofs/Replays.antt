-- How replays end.
use Rattle.std.proofs.Common.{◌≡◌, ℕ, ◌≤◌, ◌⊎◌, inl, inr, Option, List, length, take, refl, ap, subst, ◌∙◌}
use Rattle.no_packet_loops.proofs.Common.{Prefix, LinkSpec, opening, Runs, World, Step}
use Rattle.faults.specs.declared.kind.FaultKind.{FaultKind}
use Rattle.texts.specs.Words.{Text}
use Rattle.journal.specs.{declared.fault.JournalFault.JournalFault, declared.fault.JournalFault.TheVariants.NoMemory as NoMemoryForJournal, declared.read.Version.Version, declared.read.Version.TheVariants.Two, Journal.IsJournal, Journal.IsJournalFault as IsJournalFault}
use Rattle.plans.specs.{declared.fault.Fault.Fault, declared.plan.Plan.Plan, Scenarios.network_read, declared.outcome.Outcome.Outcome, declared.outcome.Outcome.TheVariants.Done, declared.outcome.Outcome.TheVariants.Refused, declared.outcome.Outcome.TheVariants.Differs}
use Rattle.plans.specs.Faults.{journal_fault, unplaced, IsWantOfMemory, IsUnreadFrom, Gives, OfBytes, most_bytes, most_journal_bytes}
use Rattle.plans.proofs.Planned.{IsPlanned}
use Rattle.play.specs.Ends.{IsPlannedFrom}
use Rattle.play.specs.Replays.{IsJournalOf, Replays, RunsInPlaces, StepsReplay, StepsRun, StopsReplay}

-- the journal is one of the scenario's network
pub journal_of : (text lines given : Text) (plan : Plan) (names : List Text) (links : List LinkSpec) (attachments : List (Prefix × ℕ × ℕ)) (version : Version) (steps : List Step) (report : Text) → length text ≤ most_bytes → (planned : IsPlanned text plan)
    → names ≡ plan.directory.names → links ≡ plan.network.links → attachments ≡ plan.network.attachments → given ≡ lines → IsJournal names links attachments given version steps report → IsJournalOf text lines planned.0 version steps
journal_of text lines given plan names links attachments version steps report short planned names_are links_are attachments_are same journal = record {
  short = short;
  scenario = planned.1;
  report = report;
  journal =
      subst (λ ls. IsJournal planned.0.names planned.0.links planned.0.attachments ls version steps report) same
      (subst (λ xs. IsJournal planned.0.names planned.0.links xs given version steps report) (attachments_are ∙ ap (λ n. n.attachments) planned.2.network)
      (subst (λ ks. IsJournal planned.0.names ks attachments given version steps report) (links_are ∙ ap (λ n. n.links) planned.2.network)
      (subst (λ ns. IsJournal ns links attachments given version steps report) (names_are ∙ ap (λ d. d.names) planned.2.directory) journal)));
}

-- a replay of its steps is one of the journal
pub replay_ends : (text lines : Text) (plan : Plan) (planned : IsPlanned text plan) (version : Version) (steps : List Step) (f g : World) (end : Outcome) → IsJournalOf text lines planned.0 version steps
    → f ≡ opening plan.network → StepsReplay version steps f g end → Replays text lines end
replay_ends text lines plan planned version steps f g end journal opened replays = by_end end replays
  where
    from : (ss : List Step) → Runs f ss g → Runs (opening (network_read planned.0)) ss g
    from ss runs = subst (λ w. Runs w ss g) (opened ∙ ap opening planned.2.network) runs

    whole : (v : Version) → IsJournalOf text lines planned.0 v steps → StepsRun steps f g → RunsInPlaces text lines v
    whole v is_journal run = (record { parts = planned.0; steps = steps; is_journal = is_journal; world = g; runs = from steps run.1 }, run.0)

    by_end : (end : Outcome) → StepsReplay version steps f g end → Replays text lines end
    by_end Done run = (version, whole version journal run)
    by_end Refused stops = record { parts = planned.0; version = version; steps = steps; is_journal = journal; done = stops.0; world = g; few = stops.2; runs = from (take stops.0 steps) stops.3; refused = stops.1; stops = stops.4 }
    by_end Differs differs = whole Two (subst (λ v. IsJournalOf text lines planned.0 v steps) differs.0 journal) differs.1

-- where the texts are those that readers give
module _ (scenario known : Option Text) (plan : Plan) where
  pub replay_from : (lines given : Text) (names : List Text) (links : List LinkSpec) (attachments : List (Prefix × ℕ × ℕ)) (version : Version) (steps : List Step) (report : Text) (f g : World) (end : Outcome) → IsPlannedFrom scenario plan
      → Gives known lines → names ≡ plan.directory.names → links ≡ plan.network.links → attachments ≡ plan.network.attachments → given ≡ lines → IsJournal names links attachments given version steps report
      → f ≡ opening plan.network → StepsReplay version steps f g end → OfBytes scenario (λ text. OfBytes known (λ ls. Replays text ls end))
  replay_from lines given names links attachments version steps report f g end (text, read, (short, planned)) gives names_are links_are attachments_are same journal opened replays =
      let is_journal = journal_of text lines given plan names links attachments version steps report short planned names_are links_are attachments_are same journal in
      (text, read, (lines, gives, replay_ends text lines plan planned version steps f g end is_journal opened replays))

  -- a replay that has not enough memory
  pub stops_memory : (fault : Fault) → IsPlannedFrom scenario plan → IsWantOfMemory fault → OfBytes scenario (λ text. StopsReplay text known fault)
  stops_memory fault (text, read, planned) memory = (text, read, inl (inr (inl memory)))

  -- a journal that is not read
  pub stops_unread : (lines : Text) (kind : FaultKind) → IsPlannedFrom scenario plan → Gives known lines → IsUnreadFrom most_journal_bytes lines kind → OfBytes scenario (λ text. StopsReplay text known (unplaced kind))
  stops_unread lines kind (text, read, (short, planned)) gives unread = (text, read, inr (short, (planned.0, planned.1, lines, gives, inl (refl, unread))))

  -- what is not a journal of the scenario's network
  pub stops_journal : (lines given : Text) (names : List Text) (links : List LinkSpec) (attachments : List (Prefix × ℕ × ℕ)) (e : JournalFault) → IsPlannedFrom scenario plan
      → Gives known lines → names ≡ plan.directory.names → links ≡ plan.network.links → attachments ≡ plan.network.attachments → given ≡ lines
      → (e ≡ NoMemoryForJournal) ⊎ IsJournalFault names links attachments given e → OfBytes scenario (λ text. StopsReplay text known (journal_fault e))
  stops_journal lines given names links attachments e (text, read, planned) gives names_are links_are attachments_are same (inl memory) =
      (text, read, inl (inr (inl (rw memory (record { memory = refl; unplaced = refl })))))
  stops_journal lines given names links attachments e (text, read, (short, planned)) gives names_are links_are attachments_are same (inr why) = (
    text,
    read,
    inr (
      short,
      (
        planned.0,
        planned.1,
        lines,
        gives,
        inr (
          e,
          subst (λ ls. IsJournalFault planned.0.names planned.0.links planned.0.attachments ls e) same
              (subst (λ xs. IsJournalFault planned.0.names planned.0.links xs given e) (attachments_are ∙ ap (λ n. n.attachments) planned.2.network)
              (subst (λ ks. IsJournalFault planned.0.names ks attachments given e) (links_are ∙ ap (λ n. n.links) planned.2.network)
              (subst (λ ns. IsJournalFault ns links attachments given e) (names_are ∙ ap (λ d. d.names) planned.2.directory) why))),
          refl,
        ),
      ),
    ),
  )
