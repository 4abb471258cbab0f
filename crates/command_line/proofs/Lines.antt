-- Command lines with no options, read by clap's definition.
use Rattle.std.proofs.Common.{◌≡◌, ◌≢◌, ℕ, List, [], ◌∷◌, Option, Some, None, option_map, slice_index, codes, true, Result, Ok, Err, MatchResult, inl, inr, refl, sym, ap, subst, ◌∙◌, ne_eqb}
use Rattle.std.specs.Result.{IsErrAnd}
use Rattle.clap.specs.Words.{App, HasKind, Kinds, Row, Text, fault_of, first_of, is_simple, is_simple_and_free, kind_of, one_of, subcommand_of}
use Rattle.clap.specs.{declared.error.Error.Error, declared.error.kind.ErrorKind.TheVariants.OutOfMemory, Lexer.strip_byte}
use Rattle.clap.proofs.OnLiterals.{clap_on_literals}
use Rattle.command_line.specs.Commands.{program}

pub is_plain : is_simple program ≡ true
unfolding clap_on_literals
is_plain = refl

pub is_free : is_simple_and_free program ≡ true
unfolding clap_on_literals
is_free = refl

-- the kind of an error of the command that was built
pub kind_as : (a : App) (words : List Text) (e : Error) → a ≡ program → (is_simple_and_free a ≡ true → HasKind (fault_of a words) e) → HasKind (fault_of program words) e
kind_as a words e is kinds = subst (λ (b : App). HasKind (fault_of b words) e) is (kinds (ap is_simple_and_free is ∙ is_free))

no_hyphen : (x : ℕ) (xs : List ℕ) → slice_index (x ∷ xs) 0 ≢ 45 → strip_byte 45 (x ∷ xs) ≡ None
no_hyphen x xs plain = rw (ne_eqb x 45 plain) refl

-- what the matches have of a subcommand: its name, the file, both numbers, the journal, the format and the flags
pub record Seen : Type 0 where
  pub name : Text
  pub file : Option Text
  pub threads : Option Text
  pub workers : Option Text
  pub journal : Option Text
  pub no_journal : Option Text
  pub explain : Option Text
  pub format : Option Text
  pub progress : Option Text

abbrev pub seen : Option (Text × List Row) → Option Seen
seen = option_map (λ p. record {
  name = p.0;
  file = first_of (codes "file") p.1;
  threads = one_of (codes "threads") p.1;
  workers = one_of (codes "workers") p.1;
  journal = first_of (codes "journal") p.1;
  no_journal = one_of (codes "no-journal") p.1;
  explain = one_of (codes "explain") p.1;
  format = first_of (codes "format") p.1;
  progress = one_of (codes "progress") p.1;
})

-- what the command that was built has of the words is what they spell
pub seen_as : (met : Option (Text × List Row)) (a : App) (words line : List Text) → a ≡ program → words ≡ line → met ≡ subcommand_of a words
    → seen met ≡ seen (subcommand_of program line)
seen_as met a words line is spelled e = ap seen (e ∙ ap (λ (b : App). subcommand_of b words) is ∙ ap (subcommand_of program) spelled)

abbrev pub seen_check : Text → Seen
seen_check file = record { name = codes "check"; file = Some file; threads = None; workers = None; journal = None; no_journal = None; explain = Some (codes "false"); format = None; progress = None }

abbrev pub seen_run : Text → Seen
seen_run file = record { name = codes "run"; file = Some file; threads = Some (codes "1"); workers = Some (codes "1"); journal = None; no_journal = Some (codes "false"); explain = Some (codes "false"); format = Some (codes "text"); progress = Some (codes "false") }

abbrev pub seen_replay : Text → Text → Seen
seen_replay file journal = record { name = codes "replay"; file = Some file; threads = None; workers = None; journal = Some journal; no_journal = None; explain = Some (codes "false"); format = Some (codes "text"); progress = Some (codes "false") }

module _ (name : Text) where
  abbrev pub file_line : Text → Text → List Text
  file_line command file = name ∷ command ∷ file ∷ []

  abbrev pub replay_line : Text → Text → List Text
  replay_line file journal = name ∷ codes "replay" ∷ file ∷ journal ∷ []

  pub check_faultless : (file : Text) → slice_index file 0 ≢ 45 → fault_of program (file_line (codes "check") file) ≡ []
  unfolding clap_on_literals
  check_faultless [] plain = refl
  check_faultless (x ∷ xs) plain = rw (no_hyphen x xs plain, ne_eqb x 45 plain) refl

  pub check_met : (file : Text) → slice_index file 0 ≢ 45 → seen (subcommand_of program (file_line (codes "check") file)) ≡ Some (seen_check file)
  unfolding clap_on_literals
  check_met [] plain = refl
  check_met (x ∷ xs) plain = rw (no_hyphen x xs plain, ne_eqb x 45 plain) refl

  pub run_faultless : (file : Text) → slice_index file 0 ≢ 45 → fault_of program (file_line (codes "run") file) ≡ []
  unfolding clap_on_literals
  run_faultless [] plain = refl
  run_faultless (x ∷ xs) plain = rw (no_hyphen x xs plain, ne_eqb x 45 plain) refl

  pub run_met : (file : Text) → slice_index file 0 ≢ 45 → seen (subcommand_of program (file_line (codes "run") file)) ≡ Some (seen_run file)
  unfolding clap_on_literals
  run_met [] plain = refl
  run_met (x ∷ xs) plain = rw (no_hyphen x xs plain, ne_eqb x 45 plain) refl

  pub replay_faultless : (file journal : Text) → slice_index file 0 ≢ 45 → slice_index journal 0 ≢ 45 → fault_of program (replay_line file journal) ≡ []
  unfolding clap_on_literals
  replay_faultless [] [] plain also = refl
  replay_faultless [] (y ∷ ys) plain also = rw (no_hyphen y ys also, ne_eqb y 45 also) refl
  replay_faultless (x ∷ xs) [] plain also = rw (no_hyphen x xs plain, ne_eqb x 45 plain) refl
  replay_faultless (x ∷ xs) (y ∷ ys) plain also = rw (no_hyphen x xs plain, ne_eqb x 45 plain, no_hyphen y ys also, ne_eqb y 45 also) refl

  pub replay_met : (file journal : Text) → slice_index file 0 ≢ 45 → slice_index journal 0 ≢ 45
      → seen (subcommand_of program (replay_line file journal)) ≡ Some (seen_replay file journal)
  unfolding clap_on_literals
  replay_met [] [] plain also = refl
  replay_met [] (y ∷ ys) plain also = rw (no_hyphen y ys also, ne_eqb y 45 also) refl
  replay_met (x ∷ xs) [] plain also = rw (no_hyphen x xs plain, ne_eqb x 45 plain) refl
  replay_met (x ∷ xs) (y ∷ ys) plain also = rw (no_hyphen x xs plain, ne_eqb x 45 plain, no_hyphen y ys also, ne_eqb y 45 also) refl

-- an error that `?` passes up, of words that have no fault
pub only_memory : {T : Type 0} (r : Result T Error) (e : Error) (P : T → Type 0) (kinds : Kinds) → IsErrAnd r (λ y. y ≡ e) → HasKind kinds e → kinds ≡ []
    → MatchResult r P (λ y. kind_of y ≡ OutOfMemory)
only_memory (Ok x) e P kinds is h none = absurd is
only_memory (Err y) e P kinds is h none = elim (subst (λ k. HasKind k e) none h) [
  | inl memory ↦ subst (λ (z : Error). kind_of z ≡ OutOfMemory) (sym is) memory
  | inr other ↦ absurd other
]
