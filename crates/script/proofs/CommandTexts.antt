-- What a line asks for, by its first word.
use Rattle.std.proofs.Common.{◌≡◌, ◌≢◌, ℕ, false, inl, inr, List, [], ◌∷◌, All, Contains, bytes_eq, codes, refl, sym, subst, ◌∙◌, arith}
use Rattle.script.proofs.Common.{list_any, false≢true, bytes_eq-Decides, All-nil, All-cons, All-contains, list_any_at, Prefix, LinkSpec, Text, NamesRouter, NamesText, AsksDelivery, NamesNoAddress, NamesNoPrefix, NamesThrough, AsksNoStep, AsksNoTrace, AsksTrace, AsksBadQuestion, Asks, address_verbs, HasBadValue, AsksNothing, AsksDrawn}
use Rattle.script.specs.{declared.command.Command.Command, declared.fault.LineFault.LineFault, declared.fault.LineFault.TheVariants.BadCommand, declared.fault.LineFault.TheVariants.Prefix as OfPrefix}
use Rattle.script.proofs.StepTexts.{clash, first_same, rest_same, no_prefix, no_verb, other_prefix}

-- the words name no router and text after a verb that takes an address
abbrev pub NamesNone : List Text → List Text → Type 0
NamesNone names words = (verb : Text) → Contains address_verbs verb → (router : ℕ) (text : Text) → ¬ (NamesText names verb words router text)

-- the verbs of the commands that name a router alone
abbrev pub router_verbs : List Text
router_verbs = codes "table" ∷ codes "next" ∷ codes "held" ∷ codes "up" ∷ codes "down" ∷ []

-- the words name no router after such a verb
abbrev pub NamesNoRouter : List Text → List Text → Type 0
NamesNoRouter names words = (verb : Text) → Contains router_verbs verb → (router : ℕ) → ¬ (NamesRouter names verb words router)

-- the words are not `queue` and what `deliver` takes from
abbrev pub NamesNoQueue : List Text → List LinkSpec → List Text → Type 0
NamesNoQueue names links words = (after : List Text) → words ≡ codes "queue" ∷ after → (router port : ℕ) → ¬ (AsksDelivery names links (codes "deliver" ∷ after) router port)

-- the words name no router and text to trace through
abbrev pub NamesNoThrough : List Text → List Text → Type 0
NamesNoThrough names words = (router : ℕ) (text : Text) → ¬ (NamesThrough names words router text)

-- the words are not `settle` and a seed
abbrev pub NamesNoSeed : List Text → Type 0
NamesNoSeed words = (seed : ℕ) → ¬ (AsksDrawn words seed)

-- the word is none of the list
abbrev IsApart : Text → List Text → Type 0
IsApart word words = All (λ w. word ≢ w) words

-- ---- words after a verb, and the verbs that take an address

-- a word that equals none of a list by the test
apart_from : (word : Text) (words : List Text) → list_any (bytes_eq word) words ≡ false → IsApart word words
apart_from word words apart k d within same = false≢true (sym apart ∙ list_any_at (bytes_eq word) words k d within ((bytes_eq-Decides word _).1 same))

-- a verb that takes no address
other_verb : (names : List Text) (verb : Text) (rest : List Text) → IsApart verb address_verbs → NamesNone names (verb ∷ rest)
other_verb names verb rest apart word among router text h = All-contains (λ w. verb ≢ w) address_verbs word apart among (first_same _ _ _ _ h.spelled)

-- a verb after which no router and text are named
own_verb : (names : List Text) (verb : Text) (rest : List Text)
    → ((router : ℕ) (text : Text) → ¬ (NamesText names verb (verb ∷ rest) router text)) → NamesNone names (verb ∷ rest)
own_verb names verb rest none word among router text h =
    none router text (subst (λ v. NamesText names v (verb ∷ rest) router text) (sym (first_same _ _ _ _ h.spelled)) h)

-- a verb that takes more or less than a router
other_router_verb : (names : List Text) (verb : Text) (rest : List Text) → IsApart verb router_verbs → NamesNoRouter names (verb ∷ rest)
other_router_verb names verb rest apart word among router h = All-contains (λ w. verb ≢ w) router_verbs word apart among (first_same _ _ _ _ h.spelled)

-- a verb after which no router is named
own_router_verb : (names : List Text) (verb : Text) (rest : List Text)
    → ((router : ℕ) → ¬ (NamesRouter names verb (verb ∷ rest) router)) → NamesNoRouter names (verb ∷ rest)
own_router_verb names verb rest none word among router h =
    none router (subst (λ v. NamesRouter names v (verb ∷ rest) router) (sym (first_same _ _ _ _ h.spelled)) h)

-- a verb that is not `queue`
no_queue : (names : List Text) (links : List LinkSpec) (verb : Text) (rest : List Text) → bytes_eq verb (codes "queue") ≡ false → NamesNoQueue names links (verb ∷ rest)
no_queue names links verb rest apart after e = absurd (clash _ _ _ _ apart e)

-- a verb that is not `settle`
no_seed : (verb : Text) (rest : List Text) → bytes_eq verb (codes "settle") ≡ false → NamesNoSeed (verb ∷ rest)
no_seed verb rest apart seed h = clash _ _ _ _ apart h.spelled

-- ---- words after `trace`

-- words that are not three ask for no trace where they name no router and address
pub two_word_fault : (names rest : List Text) → ((a b c : Text) → rest ≢ a ∷ b ∷ c ∷ []) → (fault : LineFault) → NamesNoAddress names (codes "trace") (codes "trace" ∷ rest) fault → AsksNoTrace names (codes "trace" ∷ rest) fault
two_word_fault names rest apart (OfPrefix fault) h = (h.0, inl h.1)
two_word_fault names rest apart BadCommand h = (h, λ router text n. apart n.name text (codes "--through") (rest_same _ _ _ _ n.spelled))
two_word_fault names rest apart _ h = h

-- ---- words that ask for no command

module _ (names : List Text) (links : List LinkSpec) (attachments : List (Prefix × ℕ × ℕ)) where
  -- two words or more that ask for no command of any kind, nor for one with a bad value
  no_command : (verb : Text) (rest : List Text) → rest ≢ []
      → AsksNoStep names links attachments (verb ∷ rest) BadCommand
      → ((after : List Text) → verb ∷ rest ≡ codes "try" ∷ after → AsksNoStep names links attachments after BadCommand)
      → NamesNoPrefix names attachments (codes "state") (verb ∷ rest) BadCommand
      → NamesNoRouter names (verb ∷ rest)
      → NamesNoQueue names links (verb ∷ rest)
      → NamesNone names (verb ∷ rest)
      → NamesNoThrough names (verb ∷ rest)
      → NamesNoSeed (verb ∷ rest)
      → AsksNothing names links attachments (verb ∷ rest) BadCommand
  no_command verb rest some step tried state routers queue address through drawn = (commands, faults)
    where
      single : (word : Text) → verb ∷ rest ≢ word ∷ []
      single word h = some (rest_same _ _ _ _ h)

      commands : (command : Command) → ¬ (Asks names links attachments (verb ∷ rest) command)
      commands (Command.Step s) h = step.0 s h
      commands (Command.Try s) h = (tried h.0 h.1).0 s h.2
      commands (Command.RouterUp router) h = routers _ (3, omega arith, refl) router h
      commands (Command.RouterDown router) h = routers _ (4, omega arith, refl) router h
      commands (Command.SettleDrawn seed) h = drawn seed h
      commands (Command.State router prefix) h = state.0 router prefix h
      commands (Command.Table router) h = routers _ (0, omega arith, refl) router h
      commands (Command.Next router) h = routers _ (1, omega arith, refl) router h
      commands (Command.Queue router port) h = queue h.0 h.1 router port h.2
      commands (Command.Held router) h = routers _ (2, omega arith, refl) router h
      commands (Command.Lookup router addr) h = address _ (0, omega arith, refl) router h.0 h.1
      commands (Command.Inject router addr) h = address _ (1, omega arith, refl) router h.0 h.1
      commands (Command.Trace router addr) h = address _ (2, omega arith, refl) router h.0 h.1
      commands (Command.TraceThrough router addr) h = through router h.0 h.1
      commands _ h = single _ h

      questions : (fault : LineFault) → ¬ (AsksBadQuestion names (verb ∷ rest) fault)
      questions (OfPrefix fault) (inl h) = state.1 fault h
      questions (OfPrefix fault) (inr (is, inl h)) = address h.0 h.1 h.2.0 h.2.1 h.2.2
      questions (OfPrefix fault) (inr (is, inr h)) = through h.0 h.1 h.2
      questions _ h = h

      faults : (fault : LineFault) → ¬ (HasBadValue names links (verb ∷ rest) fault)
      faults fault (inl h) = step.1 fault h
      faults fault (inr (inl h)) = (tried h.0 h.1).1 fault h.2
      faults fault (inr (inr h)) = questions fault h

  module _ (rest : List Text) (some : rest ≢ []) where
    -- why words after `state` ask for nothing
    pub state_fault : (fault : LineFault) → NamesNoPrefix names attachments (codes "state") (codes "state" ∷ rest) fault → AsksNothing names links attachments (codes "state" ∷ rest) fault
    state_fault (OfPrefix fault) h = inr (inr (inl h))
    state_fault BadCommand h =
        no_command _ rest some (no_verb names links attachments _ rest refl refl refl refl refl refl refl refl) (λ after e. absurd (clash _ _ _ _ refl e)) h
        (other_router_verb names _ rest (apart_from _ router_verbs refl)) (no_queue names links _ rest refl) (other_verb names _ rest (apart_from _ address_verbs refl)) (λ router text n. clash _ _ _ _ refl n.spelled) (no_seed _ rest refl)
    state_fault _ h = absurd h

    pub no_table : ((router : ℕ) → ¬ (NamesRouter names (codes "table") (codes "table" ∷ rest) router)) → AsksNothing names links attachments (codes "table" ∷ rest) BadCommand
    no_table none =
        no_command _ rest some (no_verb names links attachments _ rest refl refl refl refl refl refl refl refl) (λ after e. absurd (clash _ _ _ _ refl e))
        (other_prefix names links attachments _ _ _ refl) (own_router_verb names _ rest none) (no_queue names links _ rest refl) (other_verb names _ rest (apart_from _ address_verbs refl)) (λ router text n. clash _ _ _ _ refl n.spelled) (no_seed _ rest refl)

    pub no_next : ((router : ℕ) → ¬ (NamesRouter names (codes "next") (codes "next" ∷ rest) router)) → AsksNothing names links attachments (codes "next" ∷ rest) BadCommand
    no_next none =
        no_command _ rest some (no_verb names links attachments _ rest refl refl refl refl refl refl refl refl) (λ after e. absurd (clash _ _ _ _ refl e))
        (other_prefix names links attachments _ _ _ refl) (own_router_verb names _ rest none) (no_queue names links _ rest refl) (other_verb names _ rest (apart_from _ address_verbs refl)) (λ router text n. clash _ _ _ _ refl n.spelled) (no_seed _ rest refl)

    pub no_held : ((router : ℕ) → ¬ (NamesRouter names (codes "held") (codes "held" ∷ rest) router)) → AsksNothing names links attachments (codes "held" ∷ rest) BadCommand
    no_held none =
        no_command _ rest some (no_verb names links attachments _ rest refl refl refl refl refl refl refl refl) (λ after e. absurd (clash _ _ _ _ refl e))
        (other_prefix names links attachments _ _ _ refl) (own_router_verb names _ rest none) (no_queue names links _ rest refl) (other_verb names _ rest (apart_from _ address_verbs refl)) (λ router text n. clash _ _ _ _ refl n.spelled) (no_seed _ rest refl)

    pub no_queued : ((router port : ℕ) → ¬ (AsksDelivery names links (codes "deliver" ∷ rest) router port)) → AsksNothing names links attachments (codes "queue" ∷ rest) BadCommand
    no_queued none =
        no_command _ rest some (no_verb names links attachments _ rest refl refl refl refl refl refl refl refl) (λ after e. absurd (clash _ _ _ _ refl e))
        (other_prefix names links attachments _ _ _ refl) (other_router_verb names _ rest (apart_from _ router_verbs refl))
        (λ after e router port. subst (λ (ws : List Text). ¬ (AsksDelivery names links (codes "deliver" ∷ ws) router port)) (rest_same _ _ _ _ e) (none router port))
        (other_verb names _ rest (apart_from _ address_verbs refl)) (λ router text n. clash _ _ _ _ refl n.spelled) (no_seed _ rest refl)

    pub no_drawn : NamesNoSeed (codes "settle" ∷ rest) → AsksNothing names links attachments (codes "settle" ∷ rest) BadCommand
    no_drawn none =
        no_command _ rest some (no_verb names links attachments _ rest refl refl refl refl refl refl refl refl) (λ after e. absurd (clash _ _ _ _ refl e))
        (other_prefix names links attachments _ _ _ refl) (other_router_verb names _ rest (apart_from _ router_verbs refl)) (no_queue names links _ rest refl)
        (other_verb names _ rest (apart_from _ address_verbs refl)) (λ router text n. clash _ _ _ _ refl n.spelled) none

    -- a verb that takes an address, and is no other, after which neither a router and a text nor a trace through is named
    no_address : (verb : Text) → AsksNoStep names links attachments (verb ∷ rest) BadCommand
        → bytes_eq verb (codes "try") ≡ false → bytes_eq verb (codes "state") ≡ false → list_any (bytes_eq verb) router_verbs ≡ false → bytes_eq verb (codes "queue") ≡ false → bytes_eq verb (codes "settle") ≡ false
        → ((router : ℕ) (text : Text) → ¬ (NamesText names verb (verb ∷ rest) router text)) → NamesNoThrough names (verb ∷ rest) → AsksNothing names links attachments (verb ∷ rest) BadCommand
    no_address verb step tried state routers queue settle none through =
        no_command verb rest some step (λ after e. absurd (clash _ _ _ _ tried e)) (other_prefix names links attachments _ _ _ state)
        (other_router_verb names verb rest (apart_from verb router_verbs routers)) (no_queue names links verb rest queue) (own_verb names verb rest none) through (no_seed verb rest settle)

    -- why such a verb, which is not `trace`, asks for nothing
    address_fault : (verb : Text) → Contains address_verbs verb → AsksNoStep names links attachments (verb ∷ rest) BadCommand
        → bytes_eq verb (codes "try") ≡ false → bytes_eq verb (codes "state") ≡ false → list_any (bytes_eq verb) router_verbs ≡ false → bytes_eq verb (codes "queue") ≡ false → bytes_eq verb (codes "settle") ≡ false → bytes_eq verb (codes "trace") ≡ false
        → (fault : LineFault) → NamesNoAddress names verb (verb ∷ rest) fault → AsksNothing names links attachments (verb ∷ rest) fault
    address_fault verb among step tried state routers queue settle trace (OfPrefix fault) h = inr (inr (inr (h.0, inl (verb, among, h.1))))
    address_fault verb among step tried state routers queue settle trace BadCommand h = no_address verb step tried state routers queue settle h (λ router text n. clash _ _ _ _ trace n.spelled)
    address_fault verb among step tried state routers queue settle trace _ h = absurd h

    pub lookup_fault : (fault : LineFault) → NamesNoAddress names (codes "lookup") (codes "lookup" ∷ rest) fault → AsksNothing names links attachments (codes "lookup" ∷ rest) fault
    lookup_fault = address_fault _ (0, omega arith, refl) (no_verb names links attachments _ rest refl refl refl refl refl refl refl refl) refl refl refl refl refl refl

    pub inject_fault : (fault : LineFault) → NamesNoAddress names (codes "inject") (codes "inject" ∷ rest) fault → AsksNothing names links attachments (codes "inject" ∷ rest) fault
    inject_fault = address_fault _ (1, omega arith, refl) (no_verb names links attachments _ rest refl refl refl refl refl refl refl refl) refl refl refl refl refl refl

    pub trace_fault : (fault : LineFault) → AsksNoTrace names (codes "trace" ∷ rest) fault → AsksNothing names links attachments (codes "trace" ∷ rest) fault
    trace_fault (OfPrefix fault) (is, inl h) = inr (inr (inr (is, inl (codes "trace", (2, omega arith, refl), h))))
    trace_fault (OfPrefix fault) (is, inr h) = inr (inr (inr (is, inr h)))
    trace_fault BadCommand h = no_address _ (no_verb names links attachments _ rest refl refl refl refl refl refl refl refl) refl refl refl refl refl h.0 h.1
    trace_fault _ h = absurd h

    -- a trace that words ask for is a command that they ask for
    pub trace_asks : (command : Command) → AsksTrace names (codes "trace" ∷ rest) command → Asks names links attachments (codes "trace" ∷ rest) command
    trace_asks (Command.Trace router addr) h = h
    trace_asks (Command.TraceThrough router addr) h = h
    trace_asks _ h = absurd h

    -- why a verb that takes a router or two, and names no router alone, asks for nothing
    links_fault : (verb : Text) → bytes_eq verb (codes "try") ≡ false → bytes_eq verb (codes "state") ≡ false → bytes_eq verb (codes "queue") ≡ false → bytes_eq verb (codes "trace") ≡ false
        → bytes_eq verb (codes "settle") ≡ false → list_any (bytes_eq verb) address_verbs ≡ false → ((router : ℕ) → ¬ (NamesRouter names verb (verb ∷ rest) router))
        → (fault : LineFault) → AsksNoStep names links attachments (verb ∷ rest) fault → AsksNothing names links attachments (verb ∷ rest) fault
    links_fault verb tried state queue trace settle address none BadCommand h =
        no_command verb rest some h (λ after e. absurd (clash _ _ _ _ tried e)) (other_prefix names links attachments _ _ _ state)
        (own_router_verb names verb rest none) (no_queue names links verb rest queue) (other_verb names verb rest (apart_from verb address_verbs address)) (λ router text n. clash _ _ _ _ trace n.spelled) (no_seed verb rest settle)
    links_fault verb tried state queue trace settle address none _ h = inl h

    pub up_fault : ((router : ℕ) → ¬ (NamesRouter names (codes "up") (codes "up" ∷ rest) router))
        → (fault : LineFault) → AsksNoStep names links attachments (codes "up" ∷ rest) fault → AsksNothing names links attachments (codes "up" ∷ rest) fault
    up_fault = links_fault _ refl refl refl refl refl refl

    pub down_fault : ((router : ℕ) → ¬ (NamesRouter names (codes "down") (codes "down" ∷ rest) router))
        → (fault : LineFault) → AsksNoStep names links attachments (codes "down" ∷ rest) fault → AsksNothing names links attachments (codes "down" ∷ rest) fault
    down_fault = links_fault _ refl refl refl refl refl refl

  -- a fault of the step that a line asks for, where its first word is the verb of no other command
  module _ (verb : Text) (rest : List Text) (some : rest ≢ [])
      (tried : verb ≢ codes "try") (up : verb ≢ codes "up") (down : verb ≢ codes "down") (settle : verb ≢ codes "settle") (state : verb ≢ codes "state") (table : verb ≢ codes "table") (next : verb ≢ codes "next") (queue : verb ≢ codes "queue") (held : verb ≢ codes "held") (lookup : verb ≢ codes "lookup") (inject : verb ≢ codes "inject") (trace : verb ≢ codes "trace") where
    no_step_command : AsksNoStep names links attachments (verb ∷ rest) BadCommand → AsksNothing names links attachments (verb ∷ rest) BadCommand
    no_step_command none =
        no_command verb rest some none (λ after e. absurd (tried (first_same _ _ _ _ e)))
        (no_prefix names attachments _ _ (λ router text h. absurd (state (first_same _ _ _ _ h.spelled))))
        (other_router_verb names verb rest (All-cons (λ w. verb ≢ w) _ (codes "next" ∷ codes "held" ∷ codes "up" ∷ codes "down" ∷ []) table (All-cons (λ w. verb ≢ w) _ (codes "held" ∷ codes "up" ∷ codes "down" ∷ []) next
        (All-cons (λ w. verb ≢ w) _ (codes "up" ∷ codes "down" ∷ []) held (All-cons (λ w. verb ≢ w) _ (codes "down" ∷ []) up (All-cons (λ w. verb ≢ w) _ [] down (All-nil (λ w. verb ≢ w)))))))) (λ after e. absurd (queue (first_same _ _ _ _ e)))
        (other_verb names verb rest (All-cons (λ w. verb ≢ w) _ (codes "inject" ∷ codes "trace" ∷ []) lookup (All-cons (λ w. verb ≢ w) _ (codes "trace" ∷ []) inject (All-cons (λ w. verb ≢ w) _ [] trace (All-nil (λ w. verb ≢ w)))))) (λ router text n. trace (first_same _ _ _ _ n.spelled))
        (λ seed n. settle (first_same _ _ _ _ n.spelled))

    pub step_fault : (fault : LineFault) → AsksNoStep names links attachments (verb ∷ rest) fault → AsksNothing names links attachments (verb ∷ rest) fault
    step_fault BadCommand h = no_step_command h
    step_fault _ h = inl h
