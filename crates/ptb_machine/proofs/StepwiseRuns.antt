-- This file proves how a run continues and ends that is played step by step.
-- Main lemmas: `underway_first` and `underway_advanced`, after the record that holds before each step.
use Rattle.std.proofs.Common.{◌≡◌, ◌+◌, ◌-◌, ◌<◌, ◌≤◌, ℕ, List, [], ◌++◌, length, Option, Some}
use Rattle.std.proofs.Common.{None, IfSome, ℤ, pos, ◌≤ℤ◌, Result, Ok, Err, refl, sym, ap, subst, ◌∙◌, arith}
use Rattle.ptb_text.specs.Statements.{StoredProgram}
use Rattle.ptb_answers.specs.declared.chooser.Chooser as choosers
use Rattle.ptb_answers.specs.declared.rules.Rules.{Rules}
use Rattle.ptb_devices.specs.declared.lines.LineSource as sources
use Rattle.ptb_devices.specs.declared.screen.Screen as screens
use Rattle.ptb_command.specs.declared.ending.Ending.{Ending}
use Rattle.ptb_command.specs.declared.ending.Ending.TheVariants as endings
use Rattle.ptb_command.specs.Configuration.{Configuration}
use Rattle.ptb_command.specs.Devices.{MayFollow}
use Rattle.ptb_command.specs.Locations.{PlacesAre}
use Rattle.ptb_command.specs.Representation.{Represents}
use Rattle.ptb_command.specs.State.{Place, first_state}
use Rattle.ptb_command.specs.Stops.{NotMissed, ReportsMissed}
use Rattle.ptb_command.proofs.PublicLemmas.{missed_from, not_missed, not_missed_then}
use Rattle.ptb_machine.specs.declared.fault.RunFault.{RunFault}
use Rattle.ptb_machine.specs.declared.fault.RunFault.TheVariants as faults
use Rattle.ptb_machine.specs.Play.{next_number}
use Rattle.ptb_machine.specs.RunDevices.{RunDevices, held, refusals}
use Rattle.ptb_machine.specs.declared.run_end.RunEnd.{RunEnd}
use Rattle.ptb_machine.specs.Runs.{IsCompleteRun, IsRunToEnd, StopsAt, choosing}
use Rattle.ptb_machine.specs.Steps.{IsTurn, PlainTurns, DoesStep, step_miss}
use Rattle.ptb_machine.proofs.Ends.{end_over}
use Rattle.ptb_machine.proofs.Runs.{HasRun, run_begins, run_advanced, run_on, run_falls, run_over}
use Rattle.ptb_machine.proofs.Runs.{run_stops, run_breaks}

-- the devices were `first` before the run, and are `now`
pub record IsUnderway {C S L : Type 0} (chooser : choosers.Ghosts C) (screen : screens.Ghosts S)
    (source : sources.Ghosts L) (p : StoredProgram) (rules : Rules) (m : Configuration)
    (first now : RunDevices C S L) : Type 0 where
  pub given : List (List ℕ)
  pub gives : source.gives first.source given now.source
  pub run : (choose : Option ℤ) (range : IfSome choose (λ n. pos 1 ≤ℤ n)) → HasRun p (choosing rules choose range) m
      (held chooser screen source rules first []) (held chooser screen source rules now given)
  pub missed : NotMissed rules.choose (source.missed first.source) (source.missed now.source) (source.most now.source)

module _ {C S L : Type 0} (chooser : choosers.Ghosts C) (screen : screens.Ghosts S) (source : sources.Ghosts L)
    (rules : Rules) (first : RunDevices C S L) where
  pub underway_first : (p : StoredProgram) (m : Configuration) → source.gives first.source [] first.source
      → ((input : List (List ℕ)) (choose : Option ℤ) → Represents p.lines m (first_state p input choose))
      → IsUnderway chooser screen source p rules m first first
  underway_first p m gives represents = record {
    given = [];
    gives = gives;
    run = λ choose range. run_begins p (choosing rules choose range) m _ refl (λ input. represents input choose);
    missed = not_missed rules.choose _ _ _ (omega arith);
  }

  pub underway_advanced : (p : StoredProgram) (n : ℕ) (old new : Configuration) (now : RunDevices C S L)
      → IsUnderway chooser screen source p rules old first now → PlainTurns p rules.limit n old new
      → IsUnderway chooser screen source p rules new first now
  underway_advanced p n old new now u turns = record {
    given = u.given;
    gives = u.gives;
    run = λ choose range. run_advanced p (choosing rules choose range) n old new _ _ (u.run choose range) turns;
    missed = u.missed;
  }

  -- a step from the machine m to n, after which the devices are `last`
  module _ (p : StoredProgram) (m n : Configuration) (now last : RunDevices C S L)
      (u : IsUnderway chooser screen source p rules m first now) (r : Result (Option Ending) RunFault)
      (turn : IsTurn chooser screen source p rules m n now last r)
      (gives : source.gives first.source (u.given ++ turn.given) last.source)
      (falls : source.most last.source + length turn.given ≤ source.most now.source) where
    steps_as : (x : Result (Option Ending) RunFault) → r ≡ x
        → DoesStep (refusals chooser screen source last) p rules.limit m n (held chooser screen source rules now [])
        (held chooser screen source rules last turn.given) x
    steps_as x e =
        subst (λ (y : Result (Option Ending) RunFault). DoesStep (refusals chooser screen source last) p rules.limit m n
        (held chooser screen source rules now []) (held chooser screen source rules last turn.given) y) e turn.steps

    missed_as : (x : Result (Option Ending) RunFault) → r ≡ x
        → ReportsMissed source rules.choose first.source last.source (step_miss x)
    missed_as x e =
        subst (λ (y : Result (Option Ending) RunFault). ReportsMissed source rules.choose first.source last.source
        (step_miss y)) e
        (missed_from (source.refused last.source) (NotMissed rules.choose (source.missed now.source)
        (source.missed last.source) (source.most last.source)) (NotMissed rules.choose
        (source.missed first.source) (source.missed last.source) (source.most last.source))
        (λ h. not_missed_then rules.choose _ _ _ (source.most now.source) (source.most last.source)
        (omega (arith, falls)) u.missed h) (step_miss r) turn.missed)

    -- the run continues
    pub underway_on : r ≡ Ok None → IsUnderway chooser screen source p rules n first last
    underway_on e = record {
      given = u.given ++ turn.given;
      gives = gives;
      run = λ choose range. run_on (refusals chooser screen source last) p (choosing rules choose range) m n _
          (held chooser screen source rules now u.given) (held chooser screen source rules last turn.given) refl falls
          (u.run choose range) (steps_as (Ok None) e);
      missed = missed_as (Ok None) e;
    }

    pub underway_falls : r ≡ Ok None → rules.limit - n.steps < rules.limit - m.steps
    underway_falls e = run_falls (refusals chooser screen source last) p rules m n _ (held chooser screen source rules
        now u.given) (held chooser screen source rules last turn.given) refl falls
        (u.run rules.choose rules.in_range) refl (steps_as (Ok None) e)

    -- it is over
    pub underway_over : (ending : Ending) → r ≡ Ok (Some ending)
        → IsCompleteRun chooser screen source p rules first last (Ok ending)
    underway_over ending e = record {
      given = u.given ++ turn.given;
      gives = gives;
      runs = λ choose range. run_over (refusals chooser screen source last) p (choosing rules choose range) m n _
          (held chooser screen source rules now u.given) (held chooser screen source rules last turn.given) refl falls
          (u.run choose range) ending (steps_as (Ok (Some ending)) e);
      missed = missed_as (Ok (Some ending)) e;
    }

    -- a fault ends it
    pub underway_broken : (fault : RunFault) → r ≡ Err fault → (fault ≡ faults.Spent → ⊥)
        → IsCompleteRun chooser screen source p rules first last (Err fault)
    underway_broken fault e unspent = record {
      given = u.given ++ turn.given;
      gives = gives;
      runs = λ choose range. run_breaks (refusals chooser screen source last) p (choosing rules choose range) m n _
          (held chooser screen source rules now u.given) (held chooser screen source rules last turn.given) refl falls
          (u.run choose range) fault unspent (steps_as (Err fault) e);
      missed = missed_as (Err fault) e;
    }

    -- the limit ends it at this line, which is that of the machine's next command
    pub underway_stops : (line : Option ℕ)
        → ((q : Option Place) → PlacesAre p.lines q n.place → line ≡ next_number p.lines q)
        → r ≡ Ok (Some endings.Limit)
        → (rest : List (List ℕ)) → MayFollow (held chooser screen source rules last turn.given) rest rules.choose
        → StopsAt p rules ((u.given ++ turn.given) ++ rest) (held chooser screen source rules first [])
        (held chooser screen source rules last (u.given ++ turn.given)) line
    underway_stops line is e rest follow =
        run_stops (refusals chooser screen source last) p rules m n _ (held chooser screen source rules now u.given)
        (held chooser screen source rules last turn.given) refl falls (u.run rules.choose rules.in_range) line is
        (steps_as (Ok (Some endings.Limit)) e) rest follow

    -- with the line of its end
    pub underway_ended : (end : RunEnd) (ending : Ending) → end.ending ≡ ending → r ≡ Ok (Some ending)
        → (ending ≡ endings.Limit → (q : Option Place) → PlacesAre p.lines q n.place → end.line ≡ next_number p.lines q)
        → (¬ (ending ≡ endings.Limit) → end.line ≡ None)
        → IsRunToEnd chooser screen source p rules first last (Ok end)
    unfolding underway_over
    underway_ended end ending same e limit other =
        end_over chooser screen source p rules first last end ending same (underway_over ending e) (record {
          at_limit = λ is.
              let at : ending ≡ endings.Limit = sym same ∙ is in
              underway_stops end.line (limit at) (e ∙ ap (λ (x : Ending). Ok (Some x)) at);
          elsewhere = λ h. other (λ k. h (same ∙ k));
        })
