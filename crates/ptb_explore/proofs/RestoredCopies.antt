-- This file proves what is left once a run went back to a copy, or to its beginning.
-- Main lemma: `begun_prefix`.
use Rattle.std.proofs.Common.{◌≡◌, ◌∙◌, ℕ, ◌≤◌, List, [], length, take, drop, ap, sym, subst, arith}
use Rattle.std.proofs.Common.{inl, inr, Option, Some, None, Result, ℤ}
use Rattle.std.specs.Result.{IfOk}
use Rattle.std.proofs.lemmas.Result.{IfOk-weaker}
use Rattle.ptb_answers.specs.declared.rules.Rules.{Rules}
use Rattle.ptb_text.specs.Statements.{StoredProgram}
use Rattle.ptb_devices.specs.Sources.{LineList}
use Rattle.ptb_command.specs.Configuration.{Configuration}
use Rattle.ptb_command.specs.Representation.{Represents}
use Rattle.ptb_command.specs.State.{first_state}
use Rattle.ptb_explore.specs.declared.copies.KeptCopy.{KeptCopy}
use Rattle.ptb_explore.specs.declared.recorder.Recorder.{Recorder}
use Rattle.ptb_answers.specs.Choices.{Choices}
use Rattle.ptb_answers.specs.Outcome.{Answers}
use Rattle.ptb_machine.specs.Play.{play}
use Rattle.ptb_explore.specs.Copies.{Agrees, GoesBack, GoesBackTo, WentBack, last_steps}
use Rattle.ptb_explore.specs.Plans.{IsFresh}
use Rattle.ptb_explore.specs.PlannedPlays.{IsRunPrefix}
use Rattle.ptb_explore.specs.Recorders.{recorder_choices, recorded}
use Rattle.ptb_explore.proofs.RecordedAnswers.{fresh_bounds}
use Rattle.ptb_explore.proofs.RunPrefix.{run_prefix_at_first}
use Rattle.ptb_explore.proofs.PlayedRecorders.{fresh_plan}

-- what is planned is still the plan
pub same_plan : (r s : Recorder) → IsFresh r → (recorded s) ≡ (recorded r) → s.planned ≡ r.planned
    → take s.planned (recorded s) ≡ (recorded r)
same_plan r s f answers planned = ap (λ n. take n (recorded s)) planned ∙ ap (take r.planned) answers ∙ fresh_plan r f

pub none_taken : (source : LineList) → source.taken ≡ 0 → source.taken ≤ length source.lines
none_taken source e = omega arith

-- ---- no copy is left

pub no_copies : (most : ℕ) (old left : List KeptCopy) (o : Option KeptCopy) → o ≡ None → GoesBackTo most old left o
    → (kept : List KeptCopy) → kept ≡ left → (kept ≡ []) × WentBack most old kept
no_copies most old left o none back kept same =
    let h = subst (GoesBackTo most old left) none back in
    let is : kept ≡ [] = same ∙ h.1 in
    (is, (subst (GoesBack most old) (sym is) h.0, inl is))

pub begun_prefix : {B E : Type 0} (r : Result B E) (at : B → Configuration) (p : StoredProgram) (source : LineList)
    (rules : Rules) (chooser : Recorder) (fresh : IsFresh chooser) (begins : source.taken ≡ 0) (shown : List ℕ)
    (cut : shown ≡ [])
    → IfOk r (λ b. (input : List (List ℕ)) (choose : Option ℤ) → Represents p.lines (at b) (first_state p input choose))
    → IfOk r (λ b. IsRunPrefix p source.lines rules (recorder_choices chooser) shown (drop source.taken source.lines)
    (at b))
begun_prefix r at p source rules chooser fresh begins shown cut =
    let taken : (recorder_choices chooser).taken ≡ [] =
    ap (λ (bs : List ℤ). take (length bs) (recorded chooser)) (fresh_bounds chooser fresh) in
    let kept : (recorder_choices chooser).kept ≡ Some [] = ap Some (fresh_bounds chooser fresh) in
    IfOk-weaker r _ _ (λ b first. rw (begins, cut) (run_prefix_at_first p source.lines rules (recorder_choices chooser)
    (at b) taken kept (first source.lines rules.choose)))

pub begun_steps : {B E : Type 0} (r : Result B E) (at : B → Configuration) (p : StoredProgram) (kept : List KeptCopy)
    → kept ≡ []
    → IfOk r (λ b. (input : List (List ℕ)) (choose : Option ℤ) → Represents p.lines (at b) (first_state p input choose))
    → IfOk r (λ b. (at b).steps ≡ last_steps kept)
begun_steps r at p kept none = IfOk-weaker r _ _ (λ b first. sym (first [] None).steps ∙ ap last_steps (sym none))

-- ---- a copy is left

pub copy_left : (most : ℕ) (old left : List KeptCopy) (o : Option KeptCopy) (j : KeptCopy) → o ≡ Some j
    → GoesBackTo most old left o → WentBack most old left
copy_left most old left o j some back =
    let h = subst (GoesBackTo most old left) some back in
    (h.0, inr (h.1.0, h.1.1, h.1.2, h.1.3))

-- ---- where it is called

pub agrees_same : (p : StoredProgram) (rules : Rules) (n : ℕ) (plan answers : Answers) (bounded : List ℤ)
    (input lines : List (List ℕ))
    → lines ≡ input → Agrees (play p input rules) n plan answers bounded
    → Agrees (play p lines rules) n plan answers bounded
agrees_same p rules n plan answers bounded input lines same h =
    subst (λ (ls : List (List ℕ)). Agrees (play p ls rules) n plan answers bounded) (sym same) h

-- the player and the lines are the same that were, and so is the machine
pub prefix_of_same : (p q : StoredProgram) → q ≡ p → (input lines : List (List ℕ)) → lines ≡ input
    → (rules : Rules) (d : Choices) (shown : List ℕ) (left : List (List ℕ)) (m n : Configuration) → n ≡ m
    → IsRunPrefix p input rules d shown left m → IsRunPrefix q lines rules d shown left n
prefix_of_same p q player input lines same rules d shown left m n machine h = rw (player, same, machine) h
