-- This file proves why a listing is begun, or isn't.
-- Main lemma: `begun_both`.
use Rattle.std.proofs.Common.{◌≡◌, ◌⊎◌, inl, inr, refl, ap, ap₂, subst, List, [], ◌∷◌, ◌++◌, Bool, true, false}
use Rattle.std.proofs.Common.{Option, Some, None, Result, Ok, Err, IfErr, IfSome, IsErrOf}
use Rattle.std.specs.Prelude.{ℕ, ◌&&◌}
use Rattle.std.proofs.lemmas.Bool.{false_from_ne_true}
use Rattle.ptb_answers.specs.Outcome.{Answers, Outcome}
use Rattle.ptb_machine.specs.Play.{Finish}
use Rattle.ptb_explore.specs.declared.fault.OpenFault.{OpenFault}
use Rattle.ptb_explore.specs.declared.fault.OpenFault.TheVariants.{Memory, NoBeginning, NotARun}
use Rattle.ptb_answers.specs.declared.form.Marked.{Marked}
use Rattle.ptb_answers.specs.AnswerText.{answers_of}
use Rattle.ptb_explore.specs.MarkedRuns.{IsMarkedBeginning, IsMarkedRun}
use Rattle.ptb_explore.specs.declared.mismatch.Mismatch.{Mismatch}
use Rattle.ptb_explore.specs.declared.mismatch.Mismatch.TheVariants.{OutOfRange, OtherBound}
use Rattle.ptb_explore.specs.declared.mismatch.Mismatch.TheVariants.{NoQuestion, Missing, NotUnder}
use Rattle.ptb_explore.specs.Mismatch.{IsItemMismatch}
use Rattle.ptb_explore.specs.Openings.{IsRefusedRun, IsRunWithPrefix}
use Rattle.ptb_machine.specs.RunTree.{begins_with}
use Rattle.ptb_serve.specs.declared.note.Note.{Note}
use Rattle.ptb_serve.specs.declared.note.Note.TheVariants as notes
use Rattle.ptb_serve.specs.ListMismatches.{IsUnstarted, items_of}
use Rattle.ptb_serve.specs.Replies.{share_prefix, front_note, is_front, begins_runs, note_of}

-- an option of items has their answers
pub items_answers : (under : Option (List Marked)) → answers_of (items_of under) ≡ share_prefix under
items_answers None = refl
items_answers (Some list) = refl

-- ---- tests one after the other

pub both_true : (a b : Bool) → a ≡ true → b ≡ true → (a && b) ≡ true
both_true a b h g = rw (h, g) refl

pub both_parts : (a b : Bool) → (a && b) ≡ true → (a ≡ true) × (b ≡ true)
both_parts true true h = (refl, refl)
both_parts true false h = absurd cc
both_parts false b h = absurd cc

three_true : (a b d : Bool) → a ≡ true → b ≡ true → d ≡ true → (a && b && d) ≡ true
three_true a b d h g k = rw (h, g, k) refl

three_parts : (a b d : Bool) → (a && b && d) ≡ true → (a ≡ true) × (b ≡ true) × (d ≡ true)
three_parts true true true h = (refl, refl, refl)
three_parts true true false h = absurd cc
three_parts true false d h = absurd cc
three_parts false b d h = absurd cc

-- which notes say that no listing is begun
pub note_is : (share front : Bool) (note : Note) → note_of share front ≡ Some note
    → (note ≡ notes.NoBeginning) ⊎ (note ≡ notes.NoRun)
note_is false front note e = inl cc
note_is true false note e = inr cc
note_is true true note e = absurd cc

module _ (game : Answers → Outcome Finish (List ℕ)) where
  -- ---- a beginning, and a run

  pub share_true : (under : List Marked) → IsMarkedBeginning game under → begins_runs game (Some under) ≡ true
  share_true under b = both_true _ _ b.0 b.1

  pub share_false : (under : List Marked) → (IsMarkedBeginning game under → ⊥) → begins_runs game (Some under) ≡ false
  share_false under none = false_from_ne_true _ (λ h. none (both_parts _ _ h))

  pub front_true : (under : Answers) (list : List Marked) → IsMarkedRun game list
      → begins_with (answers_of list) under ≡ true → is_front game under (Some list) ≡ true
  front_true under list run b = three_true _ _ _ run.0 run.1 b

  pub front_false : (under : Answers) (list : List Marked)
      → (IsMarkedRun game list → begins_with (answers_of list) under ≡ true → ⊥)
      → is_front game under (Some list) ≡ false
  front_false under list none = false_from_ne_true _ (λ h. let p = three_parts _ _ _ h in none (p.0, p.1) p.2)

  -- ---- a listing that is begun

  pub begun_after : (list : List Marked) → IsMarkedRun game list → front_note game None (Some list) ≡ None
  begun_after list run = ap (note_of true) (front_true [] list run refl)

  pub begun_under : (under : List Marked) → IsMarkedBeginning game under → front_note game (Some under) None ≡ None
  begun_under under b = ap (λ t. note_of t true) (share_true under b)

  pub begun_both : (under list : List Marked) → IsMarkedBeginning game under → IsMarkedRun game list
      → begins_with (answers_of list) (answers_of under) ≡ true → front_note game (Some under) (Some list) ≡ None
  begun_both under list b run begins = ap₂ note_of (share_true under b) (front_true (answers_of under) list run begins)

  -- ---- one that isn't

  pub no_front : (under : Option (List Marked)) (list : List Marked) → begins_runs game under ≡ true
      → (IsMarkedRun game list → begins_with (answers_of list) (share_prefix under) ≡ true → ⊥)
      → front_note game under (Some list) ≡ Some notes.NoRun
  no_front under list share none = ap₂ note_of share (front_false (share_prefix under) list none)

  pub no_share : (under : List Marked) (after : Option (List Marked)) → (IsMarkedBeginning game under → ⊥)
      → front_note game (Some under) after ≡ Some notes.NoBeginning
  no_share under after none = ap (λ t. note_of t (is_front game (answers_of under) after)) (share_false under none)

  -- ---- what is known of an explorer that was opened

  -- all runs begin with a list that is not named
  share_is : (under : Option (List Marked)) → IsMarkedBeginning game (items_of under) → begins_runs game under ≡ true
  share_is None b = refl
  share_is (Some under) b = share_true under b

  front_is : (under after : Option (List Marked)) → IfSome after (IsRunWithPrefix game (items_of under))
      → is_front game (share_prefix under) after ≡ true
  front_is under None run = refl
  front_is under (Some list) run = front_true (share_prefix under) list run.run
      (subst (λ a. begins_with (answers_of list) a ≡ true) (items_answers under) run.begins)

  pub begun_at : (under after : Option (List Marked)) → IsMarkedBeginning game (items_of under)
      → IfSome after (IsRunWithPrefix game (items_of under)) → front_note game under after ≡ None
  begun_at under after b run = ap₂ note_of (share_is under b) (front_is under after run)

  -- an empty list has no item that does not fit
  no_item : (before after : List Marked) (m : Marked) → [] ≡ before ++ m ∷ after → ⊥
  no_item [] after m e = absurd cc
  no_item (x ∷ before) after m e = absurd cc

  no_misfit : (m : Mismatch) → IsItemMismatch game [] m → ⊥
  no_misfit (OutOfRange item answer bound) x = no_item x.asked.before x.asked.after _ x.asked.list_is
  no_misfit (OtherBound item stated bound) x = no_item x.asked.before x.asked.after _ x.asked.list_is
  no_misfit (NoQuestion items) x = no_item x.before x.after x.m x.list_is
  no_misfit (Missing item bound) x = x
  no_misfit NotUnder x = x

  refused_share : (under after : Option (List Marked)) (m : Mismatch)
      → (IsMarkedBeginning game (items_of under) → ⊥) → IsItemMismatch game (items_of under) m
      → IsUnstarted game under after (NoBeginning m)
  refused_share None after m none why = absurd (no_misfit m why)
  refused_share (Some under) after m none why = (no_share under after none, why)

  refused_run : (under after : Option (List Marked)) (m : Mismatch) → IsMarkedBeginning game (items_of under)
      → IfSome after (λ list. IsRunWithPrefix game (items_of under) list → ⊥)
      → IsRefusedRun game (items_of under) after m
      → IsUnstarted game under after (NotARun m)
  refused_run under None m b none why = absurd why
  refused_run None (Some list) m b none why =
      (no_front None list refl (λ r h. none (record { run = r; begins = h })), why)
  refused_run (Some under) (Some list) m b none why =
      (no_front (Some under) list (share_true under b) (λ r h. none (record { run = r; begins = h })), why)

  pub unstarted_at : {T : Type 0} (under after : Option (List Marked)) (r : Result T OpenFault)
      → ((m : Mismatch) → IsErrOf r (NoBeginning m) → IsMarkedBeginning game (items_of under) → ⊥)
      → ((m : Mismatch) → IsErrOf r (NoBeginning m) → IsItemMismatch game (items_of under) m)
      → ((m : Mismatch) → IsErrOf r (NotARun m) → IsMarkedBeginning game (items_of under)
      × IfSome after (λ list. IsRunWithPrefix game (items_of under) list → ⊥))
      → ((m : Mismatch) → IsErrOf r (NotARun m) → IsRefusedRun game (items_of under) after m)
      → IfErr r (IsUnstarted game under after)
  unstarted_at under after (Ok x) share misfit run why = tt
  unstarted_at under after (Err (NoBeginning m)) share misfit run why =
      refused_share under after m (share m refl) (misfit m refl)
  unstarted_at under after (Err (NotARun m)) share misfit run why =
      refused_run under after m (run m refl).0 (run m refl).1 (why m refl)
  unstarted_at under after (Err Memory) share misfit run why = tt
