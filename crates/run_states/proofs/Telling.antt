-- Lines that tell of a run, one after another.
use Rattle.std.proofs.Common.{◌≡◌, ℕ, suc, ◌+◌, ◌-◌, ◌%◌, ◌<◌, refl, ap, sym, subst, ◌∙◌, Bool, true, false, List, [], ◌∷◌, ◌++◌, Option, Some, length, take, slice_get, option_map, add-one, append_assoc, append-nil, arith, ◌||◌, ◌==◌, if◌then◌else◌, filter}
use Rattle.no_packet_loops.proofs.Common.{range_with_len, Appends, LinkSpec, Step, Network, World, opening, Runs, Lawful, next}
use Rattle.std.proofs.KnownBytes.{Appends-nil}
use Rattle.world.proofs.Runs.{with_last_step}
use Rattle.texts.specs.{Words.Text, Lines.lines_text}
use Rattle.texts.proofs.Printed.{line_more}
use Rattle.serde_json.specs.Written.{compact_text}
use Rattle.script.specs.Directories.{Directory}
use Rattle.journal.specs.Steps.{step_text}
use Rattle.run_states.specs.{declared.recorder.Recorder.Recorder, Values.opening_data}
use Rattle.run_states.specs.Recorders.{ArePrefixesOf, IsBlank, IsRecorderOf, ShowSame}
use Rattle.run_states.specs.Told.{IsStateLine, IsStatesText, Tell, is_told, numbers_from, step_told}
use Rattle.network_model.proofs.Fronts.{take_next}

-- ---- numbers

-- the numbers that are told are those after the next, and the next where it is told
next_numbers : (every last k : ℕ) (b : Bool) → k < last → is_told every last (k + 1) ≡ b
    → numbers_from every last (k + 1) ≡ (if b then (k + 1) ∷ numbers_from every last (k + 1 + 1) else numbers_from every last (k + 1 + 1))
next_numbers every last k b within is =
    let left : last + 1 - (k + 1) ≡ suc (last + 1 - (k + 1 + 1)) = omega arith in
    ap (λ m. filter (is_told every last) (range_with_len (k + 1) m)) left
    ∙ ap (λ t. if t then (k + 1) ∷ numbers_from every last (k + 1 + 1) else numbers_from every last (k + 1 + 1)) is

-- past the last there are none
no_numbers : (every last k : ℕ) → k ≡ last → numbers_from every last (k + 1) ≡ []
no_numbers every last k is = let none : last + 1 - (k + 1) ≡ 0 = omega arith in ap (λ m. filter (is_told every last) (range_with_len (k + 1) m)) none

-- the first is that of the opening
pub first_numbers : (every last : ℕ) → 0 < every → numbers_from every last 0 ≡ 0 ∷ numbers_from every last 1
first_numbers every last positive =
    let left : last + 1 - 0 ≡ suc (last + 1 - 1) = omega arith in
    let even : 0 % every ≡ 0 = omega arith in
    ap (λ m. filter (is_told every last) (range_with_len 0 m)) left
    ∙ ap (λ r. if (r == 0) || (0 == last) then 0 ∷ numbers_from every last 1 else numbers_from every last 1) even

-- ---- steps

-- the text of the step that was done last
pub said : (d : Directory) (links : List LinkSpec) (steps : List Step) (k : ℕ) (s : Step) → slice_get steps k ≡ Some s → step_told d links steps (k + 1) ≡ Some (step_text d links s)
said d links steps k s at = ap (step_told d links steps) (add-one k) ∙ ap (option_map (step_text d links)) at

pub ran_on : (n : Network) (steps : List Step) (k : ℕ) (s : Step) (w v : World) → slice_get steps k ≡ Some s → Runs (opening n) (take k steps) w → Lawful w s → v ≡ next w s → Runs (opening n) (take (k + 1) steps) v
ran_on n steps k s w v at runs lawful is =
    subst (λ ss. Runs (opening n) ss v) (sym (take_next steps k s at)) (subst (Runs (opening n) (take k steps ++ s ∷ [])) (sym is) (with_last_step (opening n) (take k steps) w s runs lawful))

-- ---- lines

same_twice : (r s t : Recorder) → ShowSame r s → ShowSame s t → ShowSame r t
same_twice r s t one other = record { prefixes = other.prefixes ∙ one.prefixes; links = other.links ∙ one.links; routers = other.routers ∙ one.routers }

-- lines that tell of states by what was shown tell of them by another recorder that shows the same
told_also : (n : Network) (d : Directory) (steps : List Step) (moments : List ℕ) (ks : List ℕ) (r s : Recorder) (lines : List Text) → ShowSame r s → Tell n d steps moments ks s lines → Tell n d steps moments ks r lines
told_also n d steps moments [] r s lines same told = told
told_also n d steps moments (k ∷ ks) r s lines same told = (told.0, told.1, told.2, told.3, told.4, same_twice r s told.2 same told.5, told.6, told.7)

-- the lines that were written tell of the states up to this one: with those of the states that are left they tell of all
pub record Telling (n : Network) (d : Directory) (steps : List Step) (moments : List ℕ) (every k : ℕ) (start shown : Recorder) (old new : Option Text) : Type 0 where
  pub lines : List Text
  pub written : Appends old new (lines_text (λ t. t) lines)
  pub goes_on : (rest : List Text) → Tell n d steps moments (numbers_from every (length steps) (k + 1)) shown rest → Tell n d steps moments (numbers_from every (length steps) 1) start (lines ++ rest)

module _ (n : Network) (d : Directory) (steps : List Step) (moments : List ℕ) (every : ℕ) where
  -- before the first line
  pub telling_none : (start : Recorder) (out : Option Text) → Telling n d steps moments every 0 start start out out
  telling_none start out = record { lines = []; written = Appends-nil out; goes_on = λ rest told. told }

  -- a state that is not told
  pub telling_less : (k : ℕ) (start r s : Recorder) (old mid : Option Text) → k < length steps → is_told every (length steps) (k + 1) ≡ false → ShowSame r s
      → Telling n d steps moments every k start r old mid → Telling n d steps moments every (k + 1) start s old mid
  telling_less k start r s old mid within not_so same so_far = record {
    lines = so_far.lines;
    written = so_far.written;
    goes_on = λ rest told. so_far.goes_on rest
        (subst (λ ks. Tell n d steps moments ks r rest) (sym (next_numbers every (length steps) k false within not_so)) (told_also n d steps moments (numbers_from every (length steps) (k + 1 + 1)) r s rest same told));
  }

  pub telling_more : (k : ℕ) (start r s t : Recorder) (line : Text) (old mid new : Option Text) → k < length steps → is_told every (length steps) (k + 1) ≡ true → ShowSame r s
      → IsStateLine n d steps moments (k + 1) s t line → Appends mid new (line ++ 10 ∷ []) → Telling n d steps moments every k start r old mid → Telling n d steps moments every (k + 1) start t old new
  telling_more k start r s t line old mid new within is_so same is_line more so_far = record {
    lines = so_far.lines ++ line ∷ [];
    written = line_more (λ (x : Text). x) so_far.lines line old mid new so_far.written more;
    goes_on = λ rest told.
        subst (Tell n d steps moments (numbers_from every (length steps) 1) start) (sym (append_assoc so_far.lines (line ∷ []) rest))
        (so_far.goes_on (line ∷ rest) (subst (λ ks. Tell n d steps moments ks r (line ∷ rest)) (sym (next_numbers every (length steps) k true within is_so)) (line, rest, s, t, refl, same, is_line, told)));
  }

  -- after the last
  pub telling_all : (k : ℕ) (start r : Recorder) (old new : Option Text) → k ≡ length steps → Telling n d steps moments every k start r old new
      → (lines : List Text) × Tell n d steps moments (numbers_from every (length steps) 1) start lines × Appends old new (lines_text (λ t. t) lines)
  telling_all k start r old new is so_far =
      let all = so_far.goes_on [] (subst (λ ks. Tell n d steps moments ks r []) (sym (no_numbers every (length steps) k is)) refl) in
      (so_far.lines, subst (Tell n d steps moments (numbers_from every (length steps) 1) start) (append-nil so_far.lines) all, so_far.written)

  -- the opening's line, that of the state there, and those of the states after it
  pub states_text : (blank after : Recorder) (line : Text) (lines : List Text) → 0 < every → IsBlank blank → IsRecorderOf (opening n) blank → ArePrefixesOf n.attachments (blank.prefixes).items
      → IsStateLine n d steps moments 0 blank after line → Tell n d steps moments (numbers_from every (length steps) 1) after lines
      → IsStatesText n d steps moments every (lines_text (λ t. t) (compact_text (opening_data n d (blank.prefixes).items (length steps) every) ∷ line ∷ lines))
  states_text blank after line lines positive is_blank of prefixes is_line told = record {
    blank = blank;
    is_blank = is_blank;
    of = of;
    prefixes = prefixes;
    lines = line ∷ lines;
    told = subst (λ ks. Tell n d steps moments ks blank (line ∷ lines)) (sym (first_numbers every (length steps) positive))
        (line, lines, blank, after, refl, record { prefixes = refl; links = refl; routers = refl }, is_line, told);
    text_is = refl;
  }
