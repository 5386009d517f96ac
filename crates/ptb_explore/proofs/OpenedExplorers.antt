-- This file proves what is known of an explorer that is opened, or that went to a run, from what is known of each step.
-- Main lemmas: `before_begun` and `at_run`.
use Rattle.std.proofs.Common.{◌≡◌, ◌∙◌, ap, sym, subst, refl, ℕ, List, [], ◌∷◌, ◌++◌, length, true, false}
use Rattle.std.proofs.Common.{Result, Ok, Err}
use Rattle.std.specs.Bool.{◌==◌}
use Rattle.std.specs.Result.{IfOk}
use Rattle.std.proofs.lemmas.Bool.{eqb-false, eqb-true}
use Rattle.std.proofs.lemmas.List.{nil_from_length}
use Rattle.ptb_answers.specs.declared.form.Marked.{Marked}
use Rattle.ptb_answers.specs.declared.rules.Rules.{Rules}
use Rattle.ptb_answers.specs.AnswerText.{answers_of}
use Rattle.ptb_answers.specs.Outcome.{Answers, IsReader, Outcome, bounds, is_open}
use Rattle.ptb_text.specs.Statements.{StoredProgram}
use Rattle.ptb_machine.specs.Play.{Finish, play}
use Rattle.ptb_answers.specs.AskedQuestions.{answers_in, bounds_in}
use Rattle.ptb_explore.specs.declared.copies.KeptCopy.{KeptCopy}
use Rattle.ptb_explore.specs.declared.mismatch.Mismatch.{Mismatch}
use Rattle.ptb_explore.specs.declared.mismatch.Mismatch.TheVariants.{OutOfRange, OtherBound}
use Rattle.ptb_explore.specs.declared.mismatch.Mismatch.TheVariants.{NoQuestion, Missing, NotUnder}
use Rattle.ptb_explore.specs.declared.runner.Runner.{Runner}
use Rattle.ptb_explore.specs.Copies.{AreCopies, ArePrefixes, KeptRun, kept_runs}
use Rattle.ptb_explore.specs.Explorations.{AreKeptAt, Exploration, IsAdded, IsPlayed, IsSameGame, exploration, game_of}
use Rattle.ptb_explore.specs.MarkedRuns.{IsMarkedBeginning, IsMarkedRun}
use Rattle.ptb_explore.specs.Mismatch.{IsItemMismatch}
use Rattle.ptb_explore.specs.Openings.{IsPlayedBefore}
use Rattle.ptb_explore.specs.declared.plan.ListingPosition.{ListingPosition}
use Rattle.ptb_explore.specs.declared.plan.ListingPosition.TheVariants.{AtRun}
use Rattle.ptb_explore.specs.Plans.{IsPosition}
use Rattle.ptb_machine.specs.RunTree.{At, Front, IsNextRun, Start, begins_with}
use Rattle.ptb_explore.proofs.KeptCopies.{kept_beginnings}
use Rattle.ptb_explore.proofs.Runners.{added_alone}

-- ---- before the runs that begin with a list

-- what a runner has then, which plays the program p on these lines, by these rules
pub record IsBefore (p : StoredProgram) (input : List (List ℕ)) (rules : Rules) (list : List Marked)
    (r : Runner) : Type 0 where
  pub program : r.player ≡ p
  pub lines : r.lines.now ≡ input
  pub by : r.rules ≡ rules
  pub none : r.copies.kept.items ≡ []
  pub beginning : IsMarkedBeginning (play p input rules) list
  pub played : IsPlayedBefore (play p input rules) list r.played

-- where the list is empty it has played nothing
none_played : (game : Answers → Outcome Finish (List ℕ)) (list : List Marked) → list ≡ [] → (n : ℕ) → n ≡ 0
    → IsPlayedBefore game list n
none_played game list none n same = rw none same

none_begins : (game : Answers → Outcome Finish (List ℕ)) (most : ℕ) → IsReader game most → (list : List Marked)
    → list ≡ [] → IsMarkedBeginning game list
none_begins game most reads list none = rw none (reads.begins, refl)

-- otherwise the first of the runs
first_played : (game : Answers → Outcome Finish (List ℕ)) (list : List Marked) (n : ℕ) → (list ≡ [] → ⊥)
    → ((a : Answers) → IsNextRun game (answers_of list) Start a → IsPlayed game a n) → IsPlayedBefore game list n
first_played game [] n some h = absurd (some refl)
first_played game (m ∷ list) n some h = h

-- the first of them is all that was played
opened_played : (game g : Answers → Outcome Finish (List ℕ)) → game ≡ g → (under : Answers) (old new : ℕ) → old ≡ 0
    → ((a : Answers) → IsNextRun game under Start a → IsAdded game a old new) → (a : Answers)
    → IsNextRun g under Start a → IsPlayed g a new
opened_played game g same under old new none h =
    subst (λ (x : Answers → Outcome Finish (List ℕ)). (a : Answers) → IsNextRun x under Start a → IsPlayed x a new) same
    (λ a first. added_alone game a old new none (h a first))

module _ (p : StoredProgram) (input : List (List ℕ)) (rules : Rules) (list : List Marked) (old : Runner)
    (program : old.player ≡ p) (lines : old.lines.now ≡ input) (by : old.rules ≡ rules)
    (unplayed : old.played ≡ 0) where
  pub before_all : old.copies.kept.items ≡ [] → (most : ℕ) → IsReader (play p input rules) most
      → (length list == 0) ≡ true → IsBefore p input rules list old
  before_all none most reads empty =
      let is = nil_from_length list (eqb-true (length list) 0 empty) in
      record {
        program = program;
        lines = lines;
        by = by;
        none = none;
        beginning = none_begins (play p input rules) most reads list is;
        played = none_played (play p input rules) list is old.played unplayed;
      }

  opened_game : game_of old ≡ play p input rules
  opened_game = rw (program, lines, by) refl

  pub before_begun : (new : Runner) → IsSameGame old new → new.copies.kept.items ≡ [] → (length list == 0) ≡ false
      → IsMarkedBeginning (game_of old) list → ((a : Answers) → IsNextRun (game_of old) (answers_of list) Start a
      → IsAdded (game_of old) a old.played new.played) → IsBefore p input rules list new
  before_begun new same none some begins added = record {
    program = ap (λ (r : Runner). r.player) same ∙ program;
    lines = ap (λ (r : Runner). r.lines.now) same ∙ lines;
    by = ap (λ (r : Runner). r.rules) same ∙ by;
    none = none;
    beginning = subst (λ (g : Answers → Outcome Finish (List ℕ)). IsMarkedBeginning g list) opened_game begins;
    played = first_played (play p input rules) list new.played
        (λ is. eqb-false (length list) 0 some (ap length is))
        (opened_played (game_of old) (play p input rules) opened_game (answers_of list) old.played new.played unplayed
        added);
  }

  -- why no run begins so
  pub misfit_opened : (m : Mismatch) → IsItemMismatch (game_of old) list m
      → IsItemMismatch (play p input rules) list m
  misfit_opened m h = subst (λ (g : Answers → Outcome Finish (List ℕ)). IsItemMismatch g list m) opened_game h

module _ (p : StoredProgram) (input : List (List ℕ)) (rules : Rules) (list : List Marked) (r : Runner)
    (before : IsBefore p input rules list r) where
  pub before_game : game_of r ≡ play p input rules
  before_game = rw (before.program, before.lines, before.by) refl

  -- what its explorer needs, which has the items of the list
  pub before_opens : (items : List Marked) → items ≡ list → is_open (game_of r (answers_of items)) ≡ true
  before_opens items is = rw (before.program, before.lines, before.by, is) before.beginning.0

-- where it is at no run, no copy is kept
pub first_view : {E : Type 0} (p : StoredProgram) (input : List (List ℕ)) (rules : Rules) (under : Answers)
    (r : Result Exploration E) → IfOk r (λ e. e ≡ exploration p input rules under Start e.kept e.played)
    → IfOk r (λ e. AreKeptAt Start e.kept) → IfOk r (λ e. e ≡ exploration p input rules under Start [] e.played)
first_view p input rules under (Ok e) is none =
    is ∙ ap (λ runs. exploration p input rules under Start runs e.played) none
first_view p input rules under (Err x) is none = tt

-- ---- an empty list

no_item : {X P : Type 0} (before : List X) (m : X) (after : List X) → [] ≡ before ++ m ∷ after → P
no_item [] m after h = absurd cc
no_item (x ∷ before) m after h = absurd cc

-- all items of it fit
pub none_fits : {P : Type 0} (game : Answers → Outcome Finish (List ℕ)) (m : Mismatch) → IsItemMismatch game [] m → P
none_fits game (OutOfRange item answer bound) h = no_item h.asked.before _ h.asked.after h.asked.list_is
none_fits game (OtherBound item stated bound) h = no_item h.asked.before _ h.asked.after h.asked.list_is
none_fits game (NoQuestion items) h = no_item h.before h.m h.after h.list_is
none_fits game (Missing item bound) h = absurd h
none_fits game NotUnder h = absurd h

-- ---- where it was

same_game : (old new : Runner) → IsSameGame old new → game_of new ≡ game_of old
same_game old new same =
    rw (ap (λ (r : Runner). r.player) same, ap (λ (r : Runner). r.lines.now) same, ap (λ (r : Runner). r.rules) same)
    refl

pub stays : (old new : Runner) → IsSameGame old new → (under : Answers) (position : ListingPosition)
    → new.report.asked.items ≡ old.report.asked.items
    → IsPosition (game_of old) under position (answers_in old.report.asked.items) (bounds_in old.report.asked.items)
    → IsPosition (game_of new) under position (answers_in new.report.asked.items) (bounds_in new.report.asked.items)
stays old new same under position asked h =
    rw (same_game old new same, asked) h

-- ---- at a run

pub at_run : (old new : Runner) → IsSameGame old new → (list under : List Marked) → IsMarkedRun (game_of old) list
    → (answers_in new.report.asked.items) ≡ answers_of list
    → (bounds_in new.report.asked.items) ≡ bounds (game_of old) (answers_of list)
    → begins_with (answers_of list) (answers_of under) ≡ true
    → AreCopies old.player old.lines.now old.rules (answers_of list) new.report.transcript.items new.copies.kept.items
    → IsPosition (game_of new) (answers_of under) AtRun (answers_in new.report.asked.items)
    (bounds_in new.report.asked.items) × AreCopies new.player new.lines.now new.rules
    (answers_in new.report.asked.items) new.report.transcript.items new.copies.kept.items
at_run old new same list under run answers bs begins copies =
    rw (
      ap (λ (r : Runner). r.player) same,
      ap (λ (r : Runner). r.lines.now) same,
      ap (λ (r : Runner). r.rules) same,
      answers,
    ) ((run.0, bs, begins), copies)

-- what contracts see of it
pub gone_view : (old new : Runner) → IsSameGame old new → (under : Answers) (front : Front) (list : List Marked)
    → (answers_in new.report.asked.items) ≡ answers_of list → (kept before : List KeptRun) (n m : ℕ)
    → exploration new.player new.lines.now new.rules under (At (answers_in new.report.asked.items)) kept n
    ≡ record (exploration old.player old.lines.now old.rules under front before m) {
      front = At (answers_of list);
      kept = kept;
      played = n;
    }
gone_view old new same under front list answers kept before n m =
    ap (λ (r : Runner). exploration r.player r.lines.now r.rules under (At (answers_in new.report.asked.items)) kept n)
    same
    ∙ ap (λ a. exploration old.player old.lines.now old.rules under (At a) kept n) answers

pub gone_kept : (p : StoredProgram) (input : List (List ℕ)) (rules : Rules) (a b : Answers) (w : List ℕ)
    (ks : List KeptCopy)
    → b ≡ a → AreCopies p input rules a w ks → ArePrefixes 0 a (kept_runs b ks)
gone_kept p input rules a b w ks same copies =
    subst (λ (x : Answers). ArePrefixes 0 a (kept_runs x ks)) (sym same) (kept_beginnings p input rules a w ks copies)
