-- This file defines why the items of a list are no run, or why no run begins with them. Items count from 1.
-- Main definitions: `IsItemMismatch` and `IsRunMismatch`.
--     HasPrefix under list                    the answers of the list begin with those of another
--     IsQuestion play items bound             after these items a run asks for an answer from 1 to the bound
--     IsAskedFor play list item m bound       a run begins with the items before m, and asks for m with this bound
--     IsItemMismatch play list mismatch       the first item of the list that does not fit
--     IsRunMismatch play under list mismatch  that the list begins otherwise than another, or the same, or that one
--                                             item is missing
--     TakesItems play list bounds n           the first n items are taken, and the first of the bounds are those of
--                                             their questions
--     Explains why chooser ending found       what was found is why a play with the list came to this ending
--     MismatchLaws play                       there is one mismatch exactly where a list is no run, or begins none
use Rattle.std.specs.Prelude.{◌≡◌, ℕ, ◌+◌, ◌≤◌, List, ◌∷◌, ◌++◌, length, take, true, false, Option, IfSome, ℤ, ◌↔◌}
use Rattle.ptb_answers.specs.Outcome.{Answers, Outcome, Asks, IsReader, is_answer, is_open, bounds}
use Rattle.ptb_answers.specs.declared.form.Marked.{Marked}
use Rattle.ptb_answers.specs.AnswerText.{answers_of, with_bound}
use Rattle.ptb_command.specs.declared.ending.Ending.{Ending}
use Rattle.ptb_machine.specs.Play.{Finish}
use Rattle.ptb_explore.specs.declared.mismatch.Mismatch.{Mismatch}
use Rattle.ptb_explore.specs.declared.mismatch.Mismatch.TheVariants.{OutOfRange, OtherBound}
use Rattle.ptb_explore.specs.declared.mismatch.Mismatch.TheVariants.{NoQuestion, Missing, NotUnder}
use Rattle.ptb_explore.specs.declared.recorder.Recorder.{Recorder}
use Rattle.ptb_explore.specs.PlannedPlays.{PlayEnds}
use Rattle.ptb_explore.specs.Recorders.{recorder_choices}
use Rattle.ptb_explore.specs.MarkedRuns.{IsMarkedRun, IsMarkedBeginning}
use Rattle.ptb_machine.specs.RunTree.{begins_with}

abbrev pub HasPrefix : List Marked → List Marked → Type 0
HasPrefix under list = begins_with (answers_of list) (answers_of under) ≡ true

module _ {A W : Type 0} (play : Answers → Outcome A W) where
  abbrev pub IsQuestion : List Marked → ℤ → Type 0
  IsQuestion items bound = (w : W) × (play (answers_of items) ≡ Asks bound w)

  -- all items before m fit
  pub record IsAskedFor (list : List Marked) (item : ℕ) (m : Marked) (bound : ℤ) : Type 0 where
    pub before : List Marked
    pub after : List Marked
    pub list_is : list ≡ before ++ m ∷ after
    pub item_is : item ≡ length before + 1
    pub begins : IsMarkedBeginning play before
    pub question : IsQuestion before bound

  -- ---- an item that does not fit

  pub record IsOutOfRange (list : List Marked) (item : ℕ) (answer bound : ℤ) : Type 0 where
    pub stated : Option ℤ
    pub asked : IsAskedFor list item (record { answer = answer; bound = stated }) bound
    pub outside : is_answer bound answer ≡ false

  -- the answer fits, but not the bound that is stated with it
  pub record IsOtherBound (list : List Marked) (item : ℕ) (stated bound : ℤ) : Type 0 where
    pub answer : ℤ
    pub asked : IsAskedFor list item (with_bound answer stated) bound
    pub inside : is_answer bound answer ≡ true
    pub other : stated ≡ bound → ⊥

  -- the first items are a run, and more of them follow
  pub record HasMoreItems (list : List Marked) (items : ℕ) : Type 0 where
    pub before : List Marked
    pub m : Marked
    pub after : List Marked
    pub list_is : list ≡ before ++ m ∷ after
    pub items_are : items ≡ length before
    pub run : IsMarkedRun play before

  -- where all items fit, a run begins with them
  abbrev pub IsItemMismatch : List Marked → Mismatch → Type 0
  IsItemMismatch list (OutOfRange item answer bound) = IsOutOfRange list item answer bound
  IsItemMismatch list (OtherBound item stated bound) = IsOtherBound list item stated bound
  IsItemMismatch list (NoQuestion items) = HasMoreItems list items
  IsItemMismatch list (Missing item bound) = ⊥
  IsItemMismatch list NotUnder = ⊥

  -- ---- a list that is no run, or none that begins with another list

  -- all items fit, and a run asks for one more
  pub record LacksItem (list : List Marked) (item : ℕ) (bound : ℤ) : Type 0 where
    pub item_is : item ≡ length list + 1
    pub begins : IsMarkedBeginning play list
    pub question : IsQuestion list bound

  -- how it begins is looked at first
  abbrev pub IsRunMismatch : List Marked → List Marked → Mismatch → Type 0
  IsRunMismatch under list NotUnder = begins_with (answers_of list) (answers_of under) ≡ false
  IsRunMismatch under list (Missing item bound) = HasPrefix under list × LacksItem list item bound
  IsRunMismatch under list (OutOfRange item answer bound) = HasPrefix under list × IsOutOfRange list item answer bound
  IsRunMismatch under list (OtherBound item stated bound) = HasPrefix under list × IsOtherBound list item stated bound
  IsRunMismatch under list (NoQuestion items) = HasPrefix under list × HasMoreItems list items

  -- ---- what playing a list shows

  pub record TakesItems (list : List Marked) (their_bounds : List ℤ) (n : ℕ) : Type 0 where
    pub within : n ≤ length list
    pub counted : n ≤ length their_bounds
    pub opens : is_open (play (answers_of (take n list))) ≡ true
    pub bounds_are : take n their_bounds ≡ bounds play (answers_of (take n list))

-- ---- laws

-- A list is no run, or begins none, exactly where there is a mismatch, and there is one alone.
pub record MismatchLaws {A W : Type 0} (play : Answers → Outcome A W) : Type 0 where
  pub beginning : (list : List Marked)
      → (IsMarkedBeginning play list → ⊥) ↔ ((m : Mismatch) × IsItemMismatch play list m)
  pub one_beginning : (list : List Marked) (m n : Mismatch) → IsItemMismatch play list m → IsItemMismatch play list n
      → m ≡ n
  pub run : (under list : List Marked)
      → (IsMarkedRun play list × HasPrefix under list → ⊥) ↔ ((m : Mismatch) × IsRunMismatch play under list m)
  pub one_run : (under list : List Marked) (m n : Mismatch) → IsRunMismatch play under list m
      → IsRunMismatch play under list n → m ≡ n

-- what was found says why, of each game in which the list's answers came to this ending
abbrev pub Explains : ((Answers → Outcome Finish (List ℕ)) → Mismatch → Type 0) → Recorder → Ending → Option Mismatch
    → Type 0
Explains Why chooser ending found = (game : Answers → Outcome Finish (List ℕ)) (most steps : ℕ) (shown : List ℕ)
    → IsReader game most → PlayEnds game (recorder_choices chooser) chooser.refused_bound steps shown ending
    → IfSome found (Why game)
