-- This file proves that an explorer is where a listing is to begin, or why it isn't, from what is known of the calls
-- that open it.
-- Main lemmas: `at_first`, `at_named` and `unstarted_there`.
use Rattle.std.proofs.Common.{◌≡◌, ◌∙◌, ap, ap₂, sym, subst, true, ℕ, List, []}
use Rattle.std.proofs.Common.{Option, Some, None, Result, Ok, Err, IfErr, IfOk, IsErrOf, OnOk}
use Rattle.std.specs.Result.{IsErrAnd}
use Rattle.ptb_answers.specs.AnswerText.{answers_of}
use Rattle.ptb_answers.specs.Outcome.{Answers, Outcome}
use Rattle.ptb_answers.specs.declared.form.Marked.{Marked}
use Rattle.ptb_answers.specs.declared.rules.Rules.{Rules}
use Rattle.ptb_text.specs.Statements.{StoredProgram}
use Rattle.ptb_machine.specs.Play.{Finish, play}
use Rattle.ptb_explore.specs.Explorations.{Exploration, exploration, play_of}
use Rattle.ptb_explore.specs.MarkedRuns.{IsMarkedBeginning, IsMarkedRun}
use Rattle.ptb_explore.specs.Mismatch.{IsItemMismatch, IsRunMismatch}
use Rattle.ptb_explore.specs.Openings.{first_front}
use Rattle.ptb_machine.specs.RunTree.{At, Start, begins_with}
use Rattle.ptb_explore.specs.declared.fault.OpenFault.{OpenFault}
use Rattle.ptb_explore.specs.declared.fault.OpenFault.TheVariants.{NoBeginning, NotARun}
use Rattle.ptb_explore.specs.declared.mismatch.Mismatch.{Mismatch}
use Rattle.ptb_explore.proofs.PublicLemmas.{on_ok_both}
use Rattle.ptb_serve.specs.ListMismatches.{IsUnstarted, items_of}
use Rattle.ptb_serve.specs.Replies.{share_prefix, front_note}
use Rattle.ptb_serve.proofs.Fronts.{begun_at, items_answers, unstarted_at}

-- ---- no run begins so

-- a fault that is passed on says that no run begins with the list, or that memory was refused
pub unstarted_before : (game : Answers → Outcome Finish (List ℕ)) (under after : Option (List Marked)) (e : OpenFault)
    (r : Result Exploration OpenFault) → IsErrAnd r (λ y. y ≡ e)
    → ((m : Mismatch) → ◌≡◌ {A = Result Exploration OpenFault} (Err e) (Err (NoBeginning m))
    → IsMarkedBeginning game (items_of under) → ⊥)
    → ((m : Mismatch) → ◌≡◌ {A = Result Exploration OpenFault} (Err e) (Err (NoBeginning m))
    → IsItemMismatch game (items_of under) m)
    → ((m : Mismatch) → ◌≡◌ {A = Result Exploration OpenFault} (Err e) (Err (NotARun m)) → ⊥)
    → IfErr r (IsUnstarted game under after)
unstarted_before game under after e (Ok x) is none why kind = tt
unstarted_before game under after e (Err y) is none why kind = subst (IsUnstarted game under after) (sym is)
    (unstarted_at game under after (Err e) none why (λ m fault. absurd (kind m fault))
    (λ m fault. absurd (kind m fault)))

-- ---- before the first run, or at one

-- an explorer of the runs that begin with a list
module _ (p : StoredProgram) (input : List (List ℕ)) (rules : Rules) (under : Option (List Marked)) (e : Exploration)
    (opened : e ≡ exploration p input rules (answers_of (items_of under)) Start [] e.played)
    (begins : IsMarkedBeginning (play p input rules) (items_of under)) where
  -- it is before the first of them
  pub at_first : e ≡ exploration p input rules (share_prefix under) (first_front None) e.kept e.played
  at_first = opened
      ∙ ap₂ (λ a k. exploration p input rules a Start k e.played) (items_answers under)
      (sym (ap (λ (x : Exploration). x.kept) opened))

  pub begun_first : front_note (play p input rules) under None ≡ None
  begun_first = begun_at (play p input rules) under None begins tt

  plays : play_of e ≡ play p input rules
  plays = ap play_of opened

  begins_so : e.prefix ≡ answers_of (items_of under)
  begins_so = ap (λ (x : Exploration). x.prefix) opened

  -- it has gone to the run of the other list
  pub at_named : (list : List Marked) (r : Result Exploration OpenFault)
      → IfOk r (λ x. x ≡ record e { front = At (answers_of list); kept = x.kept; played = x.played })
      → IfOk r (λ x. x ≡ exploration p input rules (share_prefix under) (first_front (Some list)) x.kept x.played)
  at_named list (Ok x) there = there
      ∙ ap (λ (y : Exploration). record y { front = At (answers_of list); kept = x.kept; played = x.played }) opened
      ∙ ap (λ a. exploration p input rules a (At (answers_of list)) x.kept x.played) (items_answers under)
  at_named list (Err fault) there = tt

  pub begun_named : (list : List Marked) (r : Result Exploration OpenFault) → OnOk r (IsMarkedRun (play_of e) list)
      → OnOk r (begins_with (answers_of list) e.prefix ≡ true)
      → OnOk r (front_note (play p input rules) under (Some list) ≡ None)
  begun_named list r run so = on_ok_both r (λ is its. begun_at (play p input rules) under (Some list) begins (record {
    run = subst (λ (g : Answers → Outcome Finish (List ℕ)). IsMarkedRun g list) plays is;
    begins = subst (λ (a : Answers). begins_with (answers_of list) a ≡ true) begins_so its;
  })) run so

  -- or the other list is refused
  pub unstarted_there : (list : List Marked) (r : Result Exploration OpenFault)
      → ((m : Mismatch) → IsErrOf r (NotARun m) → IsMarkedRun (play_of e) list
      → begins_with (answers_of list) e.prefix ≡ true → ⊥)
      → ((u : List Marked) → answers_of u ≡ e.prefix → (m : Mismatch) → IsErrOf r (NotARun m)
      → IsRunMismatch (play_of e) u list m)
      → ((m : Mismatch) → IsErrOf r (NoBeginning m) → ⊥) → IfErr r (IsUnstarted (play p input rules) under (Some list))
  unstarted_there list r none why kind = unstarted_at (play p input rules) under (Some list) r
      (λ m fault _. kind m fault) (λ m fault. absurd (kind m fault))
      (λ m fault. (
        begins,
        λ run. none m fault
            (subst (λ (g : Answers → Outcome Finish (List ℕ)). IsMarkedRun g list) (sym plays) run.run)
            (subst (λ (a : Answers). begins_with (answers_of list) a ≡ true) (sym begins_so) run.begins),
      ))
      (λ m fault. subst (λ (g : Answers → Outcome Finish (List ℕ)). IsRunMismatch g (items_of under) list m) plays
      (why (items_of under) (sym begins_so) m fault))
