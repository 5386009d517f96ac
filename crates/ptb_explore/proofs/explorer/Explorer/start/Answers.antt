-- This file answers that an explorer of all runs is before the first of them.
use Rattle.std.proofs.Common.{◌≡◌, ◌∙◌, ℕ, List, [], Ok, Err, Result, ap₂, subst, sym}
use Rattle.std.specs.Result.{IfOk, result_or}
use Rattle.std.specs.declared.alloc.AllocError.{AllocError}
use Rattle.ptb_answers.specs.declared.rules.Rules.{Rules}
use Rattle.ptb_text.specs.Statements.{StoredProgram}
use Rattle.ptb_machine.specs.RunTree.{Start}
use Rattle.ptb_explore.specs.declared.fault.OpenFault.{OpenFault}
use Rattle.ptb_explore.specs.Explorations.{Exploration, exploration}
use Rattle.ptb_explore.proofs.explorer.Explorer.start.Goals as goal

at_start : (p : StoredProgram) (input : List (List ℕ)) (rules : Rules) (r : Result Exploration OpenFault)
    (other : AllocError) → IfOk r (λ e. e ≡ exploration p input rules [] Start e.kept e.played)
    → IfOk r (λ e. e.kept ≡ []) → IfOk r (λ e. e.played ≡ 0)
    → IfOk (result_or r (Err other)) (λ e. e ≡ exploration p input rules [] Start [] 0)
at_start p input rules (Ok e) other opened kept played =
    opened ∙ ap₂ (λ runs n. exploration p input rules [] Start runs n) kept played
at_start p input rules (Err fault) other opened kept played = tt

pub returns-clause-start : goal.returns-clause-start
returns-clause-start c =
    let all = exploration c.args.program.now c.args.lines.now c.args.rules [] Start [] 0 in
    subst (λ r. IfOk r (λ e. e ≡ all)) (sym c.or.ensures)
    (at_start c.args.program.now c.args.lines.now c.args.rules c.«open».result _ c.«open».ensures.opened
    c.«open».ensures.kept c.«open».ensures.played)
