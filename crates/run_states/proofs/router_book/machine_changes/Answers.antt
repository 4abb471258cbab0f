use Rattle.std.proofs.Common.{◌+◌, false, length, set, subst, ap, sym, ◌∙◌, refl, arith}
use Rattle.std.proofs.lemmas.Option.{slice_get_read, slice_get_within}
use Rattle.run_states.specs.Books.{ShowsUnmarked, machines_after}
use Rattle.run_states.proofs.Books.{AreUnmarkedBelow, noted, shows_next, shows_none, unmarked_next, unmarked_set}
use Rattle.run_states.proofs.router_book.machine_changes.Goals as goal
use Rattle.run_states.proofs.router_book.machine_changes.Goals.{then-marks-number, in-Some+in_ok-note, in_default, else-marks-number}

pub loop-number-init : goal.loop-number-init
loop-number-init c = record {
  follows = ap (λ cs. machines_after cs c.args.shown.now) (sym c.new-changes.ensures.items);
  shows = c.requires.current;
  unmarked = λ j less. absurd (omega (arith, less));
}

pub loop-number-preserved : goal.loop-number-preserved
loop-number-preserved c =
    let n = c.loop-number.number in
    let marks = c.loop-number.marks in
    let prefix = c.index-prefixes-number.result in
    let shows = ShowsUnmarked c.args.router.now c.args.prefixes.now in
    elim c.if-marks-number.branch [
      | then-marks-number w ↦
          let unmarked = subst (AreUnmarkedBelow (n + 1)) (sym w.marks-is) (unmarked_set n marks (omega arith) c.loop-number.invariant.unmarked) in
          elim w.match-machine_shown.branch [
            | in-Some+in_ok-note x ↦ record {
              follows = w.shown-is ∙ x.shown-is
                  ∙ noted (c.loop-number.changes).items (x.note.new.changes).items c.args.shown.now c.loop-number.shown n x.in-Some.now x.index-shown-number.result x.note.new.shown c.loop-number.invariant.follows x.in_ok-note.ensures.adds
                  ∙ ap (λ v. machines_after v.items c.args.shown.now) (sym (w.changes-is ∙ x.changes-is));
              shows = subst (λ ms. shows ms c.if-marks-number.shown) (sym w.marks-is) (subst (shows (set marks n false)) (sym (w.shown-is ∙ x.shown-is))
                  (shows_next c.args.router.now c.args.prefixes.now marks n c.loop-number.shown prefix x.note.new.shown (omega arith) c.index-prefixes-number.is c.loop-number.invariant.shows
                  (x.in_ok-note.ensures.shows c.args.router.now prefix x.in-Some.ensures.some)));
              unmarked = unmarked;
            }
            | in_default x ↦ record {
              follows = w.shown-is ∙ x.shown-is ∙ c.loop-number.invariant.follows ∙ ap (λ v. machines_after v.items c.args.shown.now) (sym (w.changes-is ∙ x.changes-is));
              shows = subst (λ ms. shows ms c.if-marks-number.shown) (sym w.marks-is) (subst (shows (set marks n false)) (sym (w.shown-is ∙ x.shown-is))
                  (shows_none c.args.router.now c.args.prefixes.now marks n c.loop-number.shown prefix c.index-prefixes-number.is x.in_default.ensures.none c.loop-number.invariant.shows));
              unmarked = unmarked;
            }
          ]
      | else-marks-number w ↦ record {
        follows = w.shown-is ∙ c.loop-number.invariant.follows ∙ ap (λ v. machines_after v.items c.args.shown.now) (sym w.changes-is);
        shows = subst (λ ms. shows ms c.if-marks-number.shown) (sym w.marks-is) (subst (shows marks) (sym w.shown-is) c.loop-number.invariant.shows);
        unmarked = subst (AreUnmarkedBelow (n + 1)) (sym w.marks-is) (unmarked_next n marks (slice_get_read marks (length marks) n false refl (omega arith) (sym w.if-marks-number.false)) c.loop-number.invariant.unmarked);
      }
    ]

pub returns-clause-shows : goal.returns-clause-shows
returns-clause-shows c = record {
  heard = λ j p m at heard.
      c.loop-number.invariant.shows.heard j p m at heard (c.loop-number.invariant.unmarked j (let lt = slice_get_within c.args.prefixes.now j p at in omega (arith, lt)));
  unheard = c.loop-number.invariant.shows.unheard;
}
