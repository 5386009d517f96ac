-- This file proves what is written once the line of the next list was, or wasn't.
-- Main lemmas: `one_line_more` and `no_line`.
use Rattle.std.proofs.Common.{◌≡◌, ◌∙◌, ap, subst, sym, ℕ, ◌+◌, ◌-◌, ◌^◌, ◌<◌, min, List, []}
use Rattle.std.proofs.Common.{length, Bool, true, false, Option, Some, None, Result, Ok, Err, arith}
use Rattle.std.specs.Prelude.{ℤ}
use Rattle.ptb_answers.specs.declared.form.Form.{Form}
use Rattle.ptb_answers.specs.Outcome.{Answers, Outcome, IsReader, bounds}
use Rattle.ptb_machine.specs.Laws.{RunLaws}
use Rattle.ptb_machine.specs.Questions.{most_answers}
use Rattle.ptb_text.specs.declared.device_fault.DeviceFault.{DeviceFault}
use Rattle.ptb_text.specs.declared.device_fault.DeviceFault.TheVariants as next
use Rattle.ptb_explore.specs.declared.plan.ListingPosition.{ListingPosition}
use Rattle.ptb_explore.specs.declared.plan.ListingPosition.TheVariants.{AtStart, AtRun, AtEnd}
use Rattle.ptb_explore.specs.Beginnings.{IsSameSearch, Splitting, beginning_line, split_play, stopped}
use Rattle.ptb_explore.specs.Listing.{fault_after, NextWrites, WritesList, WritesRuns}
use Rattle.ptb_explore.specs.Plans.{IsPosition, front_at}
use Rattle.ptb_machine.specs.RunTree.{At, Front, runs_after}
use Rattle.ptb_explore.proofs.Progress.{ListingProgress, fewer_left, progress_into, progress_last}
use Rattle.ptb_explore.proofs.Progress.{progress_more, progress_some}
use Rattle.ptb_explore.proofs.StoppedPlays.{bounds_within, run_within, stopped_reads}

-- ---- the bounds of a list

answers_are : (answers u : Answers) → ◌≡◌ {A = Front} (At answers) (At u) → answers ≡ u
answers_are answers u e = cc

-- where the search is at a list, the bounds that it has are those of its answers
bounds_at : (laws : RunLaws) (v : Splitting) (position : ListingPosition) (answers u : Answers) (bounded : List ℤ)
    → IsPosition (stopped v.most (split_play v)) [] position answers bounded → front_at position answers ≡ At u
    → bounded ≡ bounds (split_play v) u
bounds_at laws v AtStart answers u bounded s e = absurd cc
bounds_at laws v AtRun answers u bounded s e =
    let reads = laws.reads v.program v.input v.rules in
    let few = run_within (split_play v) v.most (most_answers v.program v.input v.rules.limit) reads answers s.0 in
    s.1 ∙ bounds_within (split_play v) v.most [] answers (omega (arith, few))
    ∙ ap (bounds (split_play v)) (answers_are answers u e)
bounds_at laws v AtEnd answers u bounded s e = absurd cc

-- s is the search, and v is how the code has it
pub bounds_of_search : (laws : RunLaws) (s v : Splitting) → v ≡ s
    → (position : ListingPosition) (answers u : Answers) (bounded : List ℤ)
    → IsPosition (stopped v.most (split_play v)) [] position answers bounded → v.front ≡ front_at position answers
    → s.front ≡ At u
    → bounded ≡ bounds (split_play s) u
bounds_of_search laws s v same position answers u bounded stands front at =
    let here : v.front ≡ At u = ap (λ (x : Splitting). x.front) same ∙ at in
    bounds_at laws v position answers u bounded stands (sym front ∙ here)
    ∙ ap (λ (x : Splitting). bounds (split_play x) u) same

-- ---- a line

unlimited : ◌≡◌ {A = Option ℕ} None (Some 0) → ⊥
unlimited e = cc

abbrev pub game_of : Splitting → Answers → Outcome (Unit {0}) (List ℕ)
game_of s = stopped s.most (split_play s)

pub game_reads : RunLaws → (s : Splitting) → IsReader (game_of s) s.most
game_reads laws s = stopped_reads (split_play s) s.most (most_answers s.program s.input s.rules.limit)
    (laws.reads s.program s.input s.rules)

-- The search is at s, and was at `first` when the first line was to be written.
module _ (form : Form) (first s : Splitting) (same : IsSameSearch first s) where
  pub same_search : (n : Splitting) → IsSameSearch s n → IsSameSearch first n
  same_search n h = h ∙ ap (λ (x : Splitting). record x { front = n.front; played = n.played }) same

  -- what is searched stays the same
  of_first : (f : Front) (old new : Option (List ℕ)) (r : Result Bool DeviceFault)
      → NextWrites (game_of s) [] (beginning_line form (split_play s)) s.front f old new r
      → NextWrites (game_of first) [] (beginning_line form (split_play first)) s.front f old new r
  of_first f old new r h = subst
      (λ (x : Splitting). NextWrites (game_of x) [] (beginning_line form (split_play x)) s.front f old new r) same h

  module _ (reads : IsReader (game_of first) first.most) (list : List Answers) (old new : Option (List ℕ)) (n : ℕ)
      (progress : ListingProgress (game_of first) first.most []
      (beginning_line form (split_play first)) list first.front
      s.front None old new n) (f : Front) (new' : Option (List ℕ)) where
    -- there is no next list
    pub no_line : (b : Bool) → b ≡ false
        → NextWrites (game_of s) [] (beginning_line form (split_play s)) s.front f new new' (Ok b)
        → WritesList (game_of first) [] (beginning_line form (split_play first)) list first.front f old new' n
    no_line b is h =
        let last = of_first f new new' (Ok false) (subst (λ (x : Bool). NextWrites (game_of s) []
        (beginning_line form (split_play s)) s.front f new new' (Ok x)) is h) in
        rw (last.1, last.2) (progress_last (game_of first) first.most reads []
        (beginning_line form (split_play first)) list first.front old s.front None new n progress last.0)

    -- it was refused memory, or a prefix of its line was written
    pub line_ends : (x : DeviceFault)
        → NextWrites (game_of s) [] (beginning_line form (split_play s)) s.front f new new' (Err x)
        → WritesRuns (game_of first) [] (beginning_line form (split_play first)) list first.front f old new'
        (Err (fault_after x n))
    line_ends next.Memory h =
        let refused = of_first f new new' (Err next.Memory) h in
        rw (refused.1, refused.2) (progress_some (game_of first) first.most reads [] (beginning_line form
        (split_play first)) list first.front old s.front None new n progress unlimited refused.0)
    line_ends next.Write h =
        let part = of_first f new new' (Err next.Write) h in
        rw part.2 (progress_into (game_of first) first.most reads [] (beginning_line form (split_play first)) list
        first.front old s.front None new new' n part.0 progress unlimited part.1 part.3)
    line_ends next.Read h = absurd h
    line_ends next.TooLong h = absurd h

    -- it was written
    module _ (b : Bool) (is : b ≡ true)
        (h : NextWrites (game_of s) [] (beginning_line form (split_play s)) s.front f new new' (Ok b)) where
      one : NextWrites (game_of first) [] (beginning_line form (split_play first)) s.front f new new' (Ok true)
      one = of_first f new new' (Ok true) (subst (λ (x : Bool). NextWrites (game_of s) []
          (beginning_line form (split_play s)) s.front f new new' (Ok x)) is h)

      pub one_line_fewer : length (runs_after (game_of first) first.most [] f) < length
          (runs_after (game_of first) first.most [] s.front)
      one_line_fewer = rw one.2 (fewer_left (game_of first) first.most reads [] s.front one.0 one.1)

      pub one_line_more : (m : ℕ) → m ≡ min (n + 1) (2 ^ 64 - 1)
          → ListingProgress (game_of first) first.most [] (beginning_line form (split_play first)) list first.front f
          None old
          new' m
      one_line_more m count =
          progress_more (game_of first) first.most reads [] (beginning_line form (split_play first)) list first.front
          old s.front f None new new' n m one.0 progress unlimited one.1 one.2 one.3 count
