-- This file defines the runs of what takes answers one by one, their order, and how a listing goes through them.
-- Main definition: `IsRun`.
--     IsRun play a                     play has a result, and uses up the answers
--     is_before a b, Before a b        where a and b first differ, a's answer is the smaller
--     tree play most                   all runs, where none has more answers than this
--     Front                            where a listing is
--     begins_with a under              whether a begins with these answers
--     is_left under front a            whether a begins with these answers and is after the front
--     runs_after play most under front     the runs that a listing of those that begin with these answers has left
--     runs_left play most under front n    the first n of them, or all
--     IsNextRun play under front a     a is a run that is left, and none that is left is before it
--     IsLast play under front          no run is left
use Rattle.std.specs.Prelude.{◌≡◌, ℕ, zero, suc, List, [], ◌∷◌, ◌++◌, take, map, Bool, true, false}
use Rattle.std.specs.Prelude.{◌&&◌, ◌||◌, Option, Some, None, ℤ, pos, negsuc, int_lt}
use Rattle.std.specs.Ordering.{int_eq}
use Rattle.std.specs.List.{filter, flat_map, range_with_len, AllByRecursion}
use Rattle.ptb_answers.specs.Outcome.{Answers, Outcome, Done, Asks, Out, is_whole}

-- ---- runs

abbrev pub IsRun : {A W : Type 0} → (Answers → Outcome A W) → Answers → Type 0
IsRun play a = is_whole (play a) ≡ true

-- ---- their order

-- no list is before another that it begins, and none after it
abbrev pub is_before : Answers → Answers → Bool
is_before [] b = false
is_before (x ∷ a) [] = false
is_before (x ∷ a) (y ∷ b) = int_lt x y || (int_eq x y && is_before a b)

abbrev pub Before : Answers → Answers → Type 0
Before a b = is_before a b ≡ true

-- each list is before all that come after it
abbrev pub IsRising : List Answers → Type 0
IsRising [] = Unit {0}
IsRising (a ∷ list) = AllByRecursion (Before a) list × IsRising list

-- ---- the tree of all of them

-- the answers to a question with bound n: 1 to n
abbrev pub answers_to : ℤ → List ℤ
answers_to (pos n) = map pos (range_with_len 1 n)
answers_to (negsuc n) = []

-- q itself where the play has a result, what is below a question where it asks one, otherwise nothing
abbrev pub leaves_of : {A W : Type 0} → Answers → (ℤ → List Answers) → Outcome A W → List Answers
leaves_of q below (Done x rest) = q ∷ []
leaves_of q below (Asks n w) = below n
leaves_of q below (Out n w) = []

-- the lists that begin with q, have at most d answers more, and have a result
abbrev pub leaves : {A W : Type 0} → (Answers → Outcome A W) → Answers → ℕ → List Answers
leaves play q zero = leaves_of q (λ n. []) (play q)
leaves play q (suc d) = leaves_of q (λ n. flat_map (λ k. leaves play (q ++ k ∷ []) d) (answers_to n)) (play q)

abbrev pub tree : {A W : Type 0} → (Answers → Outcome A W) → ℕ → List Answers
tree play most = leaves play [] most

-- ---- what a listing has left

-- before the first run, at a run, or past the last
pub data Front : Type 0 where
  Start : Front
  At : (a : Answers) → Front
  End : Front

abbrev pub is_after : Front → Answers → Bool
is_after Start a = true
is_after (At f) a = is_before f a
is_after End a = false

-- whether a list begins with another
abbrev pub begins_with : Answers → Answers → Bool
begins_with a [] = true
begins_with [] (y ∷ b) = false
begins_with (x ∷ a) (y ∷ b) = int_eq x y && begins_with a b

-- of all runs, a listing may have those alone that begin with some answers
abbrev pub is_left : Answers → Front → Answers → Bool
is_left under front a = begins_with a under && is_after front a

abbrev pub runs_after : {A W : Type 0} → (Answers → Outcome A W) → ℕ → Answers → Front → List Answers
runs_after play most under front = filter (is_left under front) (tree play most)

-- the first n of a list, or all of it
abbrev pub first_of : {X : Type 0} → Option ℕ → List X → List X
first_of None list = list
first_of (Some n) list = take n list

abbrev pub runs_left : {A W : Type 0} → (Answers → Outcome A W) → ℕ → Answers → Front → Option ℕ → List Answers
runs_left play most under front first = first_of first (runs_after play most under front)

-- ---- the next run

pub record IsNextRun {A W : Type 0} (play : Answers → Outcome A W) (under : Answers) (front : Front)
    (a : Answers) : Type 0 where
  pub run : IsRun play a
  pub left : is_left under front a ≡ true
  pub first : (b : Answers) → IsRun play b → is_left under front b ≡ true → Before b a → ⊥

abbrev pub IsLast : {A W : Type 0} → (Answers → Outcome A W) → Answers → Front → Type 0
IsLast play under front = (b : Answers) → IsRun play b → is_left under front b ≡ true → ⊥
