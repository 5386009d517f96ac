-- This file proves what a runner is after some of its parts have changed, and that it plays the same.
-- Main lemma: `still_same`.
use Rattle.std.proofs.Common.{◌≡◌, ◌∙◌, ap, ap₂, sym, refl, ℕ, ◌<◌, List, arith}
use Rattle.ptb_text.specs.Statements.{StoredProgram}
use Rattle.ptb_answers.specs.Outcome.{Answers, Outcome}
use Rattle.ptb_answers.specs.declared.rules.Rules.{Rules}
use Rattle.ptb_machine.specs.Play.{Finish, play}
use Rattle.ptb_explore.specs.declared.copies.Copies.{Copies}
use Rattle.ptb_explore.specs.declared.copies.KeptCopy.{KeptCopy}
use Rattle.ptb_explore.specs.declared.recorder.Recorder.{Recorder}
use Rattle.ptb_explore.specs.declared.report.Report.{Report}
use Rattle.ptb_explore.specs.declared.runner.Runner.{Runner}
use Rattle.ptb_explore.specs.Copies.{AreCopies, more_played, play_limit}
use Rattle.ptb_explore.specs.Explorations.{IsAdded, IsPlayed, IsSameGame}
use Rattle.ptb_explore.specs.PlannedPlays.{play_steps}

-- a step leaves all but the chooser and the copies
pub stepped : (r s : Runner) (t u : Recorder) (c d : Copies) → r ≡ record s { chooser = t; copies = c }
    → record r { chooser = u; copies = d } ≡ record s { chooser = u; copies = d }
stepped r s t u c d h = ap (λ (q : Runner). record q { chooser = u; copies = d }) h

-- so it plays the same,
pub still_same : (n s : Runner) (x : Report) → n ≡ record s { chooser = n.chooser; report = x; copies = n.copies }
    → IsSameGame s n
still_same n s x h =
    h ∙ ap₂ (λ y k. record s { chooser = n.chooser; report = y; copies = n.copies; played = k })
    (sym (ap (λ (r : Runner). r.report) h)) (sym (ap (λ (r : Runner). r.played) h))

-- the same where a report is made, too, and commands are counted
pub reported : (n s : Runner) (x y : Report) (d : Copies) (k : ℕ)
    → n ≡ record s { chooser = n.chooser; report = x; copies = n.copies }
    → record n { report = y; copies = d; played = k }
    ≡ record s { chooser = n.chooser; report = y; copies = d; played = k }
reported n s x y d k h = ap (λ (r : Runner). record r { report = y; copies = d; played = k }) h

pub counted : (n r s : Runner) (x y : Report) (d : Copies)
    → n ≡ record r { chooser = n.chooser; copies = n.copies; played = n.played }
    → r ≡ record s { chooser = r.chooser; report = x; copies = r.copies }
    → record n { report = y; copies = d } ≡ record s { chooser = n.chooser; report = y; copies = d; played = n.played }
counted n r s x y d h g =
    ap (λ (q : Runner). record q { report = y; copies = d }) h
    ∙ ap (λ (q : Runner). record q { chooser = n.chooser; report = y; copies = d; played = n.played }) g

pub changed : (n s : Runner) (t : Recorder) (y : Report) (d : Copies) → IsSameGame s n
    → record n { chooser = t; report = y; copies = d }
    ≡ record s { chooser = t; report = y; copies = d; played = n.played }
changed n s t y d h = ap (λ (q : Runner). record q { chooser = t; report = y; copies = d; played = n.played }) h

-- ---- the same program, lines and rules

module _ (p q : StoredProgram) (input lines : List (List ℕ)) (rules others : Rules) (player : q ≡ p)
    (same : lines ≡ input) (by : others ≡ rules) where
  pub game_is : play q lines others ≡ play p input rules
  game_is = rw (player, same, by) refl

  pub steps_are : (a : Answers) → play_steps q lines others a ≡ play_steps p input rules a
  steps_are a = rw (player, same, by) refl

  pub copies_stay : (t u : Answers) (w v : List ℕ) (ks js : List KeptCopy) → u ≡ t → v ≡ w → js ≡ ks
      → AreCopies p input rules t w ks → AreCopies q lines others u v js
  copies_stay t u w v ks js c d e h = rw (player, same, by, c, d, e) h

-- ---- what was played

-- where nothing was played before
pub added_alone : (game : Answers → Outcome Finish (List ℕ)) (a : Answers) (old new : ℕ) → old ≡ 0
    → IsAdded game a old new → IsPlayed game a new
added_alone game a old new none h f is =
    let x = h f is in
    x.0 ∙ ap (λ n. more_played n f.steps) none ∙ few f.steps x.1
  where
    few : (n : ℕ) → n < play_limit → more_played 0 n ≡ n
    few n l = omega (arith, l)
