-- This file proves that a run whose answers are drawn is the one that a sample has at its place.
-- Main lemma: `left_by`.
use Rattle.std.proofs.Common.{◌≡◌, ◌∙◌, ℕ, List, [], ◌++◌, length, Option, Some, Result, Ok, Err, sym, ap, subst}
use Rattle.std.proofs.Common.{append-nil}
use Rattle.std.specs.Prelude.{ℤ}
use Rattle.rand_pcg.specs.Lcg.{Lcg}
use Rattle.ptb_text.specs.Statements.{StoredProgram}
use Rattle.ptb_answers.specs.declared.form.Form.{Form}
use Rattle.ptb_answers.specs.declared.rules.Rules.{Rules}
use Rattle.ptb_answers.specs.AnswerText.{items_in}
use Rattle.ptb_answers.specs.Choices.{Choices}
use Rattle.ptb_answers.specs.Outcome.{Answers, Outcome, Done, IsReader, bounds, is_whole}
use Rattle.ptb_answers.specs.Seeds.{RefusedForMemory, SeededAnswers, drawn_from, generator_after, seeded_choices}
use Rattle.ptb_answers.specs.DrawnAnswers.{answers_by}
use Rattle.ptb_answers.proofs.PublicLemmas.{drawn_alone, length-drawn, same_generator}
use Rattle.ptb_command.specs.declared.ending.Ending.{Ending}
use Rattle.ptb_command.specs.declared.ending.Ending.TheVariants as endings
use Rattle.ptb_command.specs.Configuration.{Configuration}
use Rattle.ptb_command.specs.Devices.{devices, refused_by}
use Rattle.ptb_machine.specs.declared.fault.RunFault.{RunFault}
use Rattle.ptb_machine.specs.Laws.{RunLaws}
use Rattle.ptb_machine.specs.Play.{Finish, play, turn}
use Rattle.ptb_machine.specs.Questions.{most_answers}
use Rattle.ptb_machine.specs.Steps.{DoesStep}
use Rattle.ptb_machine.specs.TurnResults.{StepComes, StepsTo}
use Rattle.ptb_explore.specs.ReportText.{report_text}
use Rattle.ptb_explore.specs.PlannedPlays.{Holds, IsRunPrefix}
use Rattle.ptb_explore.specs.Report.{report, report_of}
use Rattle.ptb_machine.specs.EndingWords.{ending_word}
use Rattle.ptb_explore.specs.Samples.{PlaysDrawn, WritesRun}
use Rattle.ptb_text.specs.declared.device_fault.DeviceFault.{DeviceFault}
use Rattle.ptb_explore.proofs.RunPrefix.{ends_dry, ends_so, text_state}

-- ---- the last step of a run

module _ (laws : RunLaws) (p : StoredProgram) (input : List (List ℕ)) (rules : Rules)
    (m new : Configuration) (c d : Choices) (s t : List ℕ) (given left rest : List (List ℕ)) (most few : ℕ)
    (u : IsRunPrefix p input rules c s left m) where
  -- with the answers that were taken the run ends so
  abbrev EndsBy : Ending → Type 0
  EndsBy e = (d.plan ≡ c.plan) × Holds (play p input rules) d
      (λ later. Done (record { ending = e; steps = new.steps; shown = t }) later)

  drawn_comes : (e : Ending)
      → StepComes (refused_by RefusedForMemory (λ _. ⊥) (Some rest)) (StepsTo p.lines new
      (devices c (text_state s) most rules.choose []) u.state rest (turn p rules.limit u.state))
      (devices d (text_state t) few rules.choose given) (Ok (Some e))
      → EndsBy e
  drawn_comes endings.End x = ends_so laws p input rules m new c d s t given left rest most few u endings.End x
  drawn_comes endings.Stop x = ends_so laws p input rules m new c d s t given left rest most few u endings.Stop x
  drawn_comes endings.What x = ends_so laws p input rules m new c d s t given left rest most few u endings.What x
  drawn_comes endings.How x = ends_so laws p input rules m new c d s t given left rest most few u endings.How x
  drawn_comes endings.Sorry x = ends_so laws p input rules m new c d s t given left rest most few u endings.Sorry x
  drawn_comes endings.Limit x = ends_so laws p input rules m new c d s t given left rest most few u endings.Limit x
  drawn_comes endings.NoInput w =
      ends_dry laws p input rules m new c d s t given left rest most few u RefusedForMemory w
  drawn_comes endings.NoAnswer w = absurd w.refuses
  drawn_comes endings.BadAnswer w = absurd w.1.refuses

  pub drawn_ends : (e : Ending) (r : Result (Option Ending) RunFault) → r ≡ Ok (Some e) → left ≡ given ++ rest
      → (few ≡ 0 → rest ≡ [])
      → DoesStep (refused_by RefusedForMemory (λ _. ⊥) (Some rest)) p rules.limit m new
      (devices c (text_state s) most rules.choose []) (devices d (text_state t) few rules.choose given) r
      → EndsBy e
  drawn_ends e r is l follows steps =
      drawn_comes e (subst (λ r. StepComes (refused_by RefusedForMemory (λ _. ⊥) (Some rest)) (StepsTo p.lines new
      (devices c (text_state s) most rules.choose []) u.state rest (turn p rules.limit u.state))
      (devices d (text_state t) few rules.choose given) r) is (steps u.state rest
      (record { represents = u.represents; lines = u.left_is ∙ l; follow = λ none. (follows none, u.choose) })))

-- ---- the run of a chooser

-- a chooser that has drawn nothing, and draws by the words of this generator
abbrev pub chooser_at : Lcg → SeededAnswers
chooser_at g = record { first = g; bounds = [] }

pub plays_drawn : (play : Answers → Outcome Finish (List ℕ)) (s t : SeededAnswers) (f : Finish)
    → (seeded_choices t).plan ≡ (seeded_choices s).plan → Holds play (seeded_choices t) (λ later. Done f later)
    → PlaysDrawn play s.first t f
plays_drawn play s t f plan h =
    let same : t.first ≡ s.first = same_generator s t plan in
    let some : Some t.bounds ≡ Some (bounds play (drawn_from t.first t.bounds)) = h.bounds_are in
    let their : t.bounds ≡ bounds play (drawn_from t.first t.bounds) = cc in
    record {
      first_is = same;
      outcome = ap (λ (g : Lcg). play (drawn_from g t.bounds)) (sym same)
          ∙ ap play (sym (append-nil (drawn_from t.first t.bounds))) ∙ h.rest [];
      bounds_are = their ∙ ap (λ (g : Lcg). bounds play (drawn_from g t.bounds)) same;
    }

module _ (play : Answers → Outcome Finish (List ℕ)) (most : ℕ) (reads : IsReader play most) (first : Lcg)
    (s : SeededAnswers) (f : Finish) (h : PlaysDrawn play first s f) where
  -- it is the one run that is drawn
  pub run_is : drawn_from first s.bounds ≡ answers_by most first play
  run_is = drawn_alone most first play (drawn_from first s.bounds) reads
      (record { run = ap is_whole h.outcome; drawn = ap (drawn_from first) h.bounds_are })

  report_drawn : (form : Form)
      → report form play (drawn_from first s.bounds) ≡ report_text (items_in form (drawn_from first s.bounds) s.bounds)
      (ending_word f.ending) f.steps f.shown
  report_drawn form =
      ap (λ (o : Outcome Finish (List ℕ)). report_of
      (items_in form (drawn_from first s.bounds) (bounds play (drawn_from first s.bounds))) o) h.outcome
      ∙ ap (λ (bs : List ℤ). report_text (items_in form (drawn_from first s.bounds) bs)
      (ending_word f.ending) f.steps f.shown) (sym h.bounds_are)

  -- its report has the answers of the chooser, and their bounds
  pub report_is : (form : Form)
      → report_text (items_in form (drawn_from s.first s.bounds) s.bounds) (ending_word f.ending) f.steps f.shown
      ≡ report form play (answers_by most first play)
  report_is form =
      ap (λ (g : Lcg). report_text (items_in form (drawn_from g s.bounds) s.bounds)
      (ending_word f.ending) f.steps f.shown) h.first_is
      ∙ sym (report_drawn form) ∙ ap (report form play) run_is

  -- once its answers are forgotten, the words that follow them are left
  pub words_left : chooser_at (generator_after s.first (length s.bounds)) ≡ chooser_at
      (generator_after first (length (answers_by most first play)))
  words_left =
      ap (λ (g : Lcg). chooser_at (generator_after g (length s.bounds))) h.first_is
      ∙ ap (λ (n : ℕ). chooser_at (generator_after first n)) (sym (length-drawn first s.bounds) ∙ ap length run_is)

  -- what is written of it, in the forms that the code has
  pub written_is : (form : Form) (answers bounds : List ℤ) (word : List ℕ) (steps : ℕ) (bytes : List ℕ)
      → answers ≡ drawn_from s.first s.bounds → bounds ≡ s.bounds → word ≡ ending_word f.ending → steps ≡ f.steps
      → bytes ≡ f.shown
      → report_text (items_in form answers bounds) word steps bytes ≡ report form play (answers_by most first play)
  written_is form answers bounds word steps bytes a b w n t =
      ap (λ (l : List ℤ). report_text (items_in form l bounds) word steps bytes) a
      ∙ ap (λ (l : List ℤ). report_text (items_in form (drawn_from s.first s.bounds) l) word steps bytes) b
      ∙ ap (λ (l : List ℕ). report_text (items_in form (drawn_from s.first s.bounds) s.bounds) l steps bytes) w
      ∙ ap (λ (k : ℕ). report_text (items_in form (drawn_from s.first s.bounds) s.bounds)
      (ending_word f.ending) k bytes) n
      ∙ ap (λ (l : List ℕ). report_text (items_in form (drawn_from s.first s.bounds) s.bounds)
      (ending_word f.ending) f.steps l) t
      ∙ report_is form

-- ---- the next run of a sample, whose program is p by another name

module _ (lines : List (List ℕ)) (rules : Rules) (q p : StoredProgram) (first : Lcg) where
  abbrev run_in : StoredProgram → Answers
  run_in x = answers_by (most_answers x lines rules.limit) first (play x lines rules)

  pub left_by : (s : SeededAnswers) → q ≡ p → s ≡ chooser_at (generator_after first (length (run_in q)))
      → s ≡ chooser_at (generator_after first (length (run_in p)))
  left_by s same e = e ∙ ap (λ (x : StoredProgram). chooser_at (generator_after first (length (run_in x)))) same

  module _ (form : Form) (old new : Option (List ℕ)) (r : Result (Unit {0}) DeviceFault) where
    pub run_of : q ≡ p → WritesRun (report form (play q lines rules)) (run_in q) old new r
        → WritesRun (report form (play p lines rules)) (run_in p) old new r
    run_of same w = subst (λ (x : StoredProgram). WritesRun (report form (play x lines rules)) (run_in x) old new r)
        same w
