-- This file defines the result of what takes answers from a list, one by one.
-- Main definition: `Outcome`.
--     Outcome A W              a result and the answers left, a question without an answer, or an answer outside its
--                              bound
--     go_on o next             continues with a result; a question or an outside answer stays what it is
--     map_outcome f g o        the same with another result, and with another thing that accompanies a question
--     answer n w               takes an answer from 1 to n
--     m >>= next               continues with a value; a fault stays what it is
--     IsReader f most          the laws of what takes answers one by one, at most `most` of them
use Rattle.std.specs.Prelude.{◌≡◌, ℕ, ◌+◌, ◌<◌, ◌≤◌, Bool, true, false, ◌&&◌, List, [], ◌∷◌, ◌++◌}
use Rattle.std.specs.Prelude.{length, ℤ, pos, ◌≤ℤ◌, int_le, Result, Ok, Err, if◌then◌else◌}

abbrev pub Answers : Type 0
Answers = List ℤ

-- A is what the result is; W is what accompanies a question, as the state in which it is asked
pub data Outcome (A W : Type 0) : Type 0 where
  -- a result, and the answers that are left
  Done : (x : A) (rest : Answers) → Outcome A W
  -- no answer is left where one from 1 to the bound is asked for
  Asks : (bound : ℤ) (w : W) → Outcome A W
  -- the answer there isn't from 1 to the bound
  Out : (bound : ℤ) (w : W) → Outcome A W

-- ---- one after the other

abbrev pub go_on : {A B W : Type 0} → Outcome A W → (A → Answers → Outcome B W) → Outcome B W
go_on (Done x rest) next = next x rest
go_on (Asks n w) next = Asks n w
go_on (Out n w) next = Out n w

abbrev pub map_outcome : {A B V W : Type 0} → (A → B) → (V → W) → Outcome A V → Outcome B W
map_outcome f g (Done x rest) = Done (f x) rest
map_outcome f g (Asks n w) = Asks n (g w)
map_outcome f g (Out n w) = Out n (g w)

-- an error stops what comes after it
abbrev pub unless_error : {A B E W : Type 0} → (A → Answers → Outcome (Result B E) W) → Result A E → Answers
    → Outcome (Result B E) W
unless_error next (Ok x) rest = next x rest
unless_error next (Err e) rest = Done (Err e) rest

infixl 10 ◌>>=◌
abbrev pub ◌>>=◌ : {A B E W : Type 0} → (Answers → Outcome (Result A E) W) → (A → Answers → Outcome (Result B E) W)
    → Answers → Outcome (Result B E) W
m >>= next = λ a. go_on (m a) (unless_error next)

-- no answer is taken
abbrev pub success : {A E W : Type 0} → A → Answers → Outcome (Result A E) W
success x a = Done (Ok x) a

abbrev pub failure : {A E W : Type 0} → E → Answers → Outcome (Result A E) W
failure e a = Done (Err e) a

-- ---- questions

-- the answers to a question with bound n are the numbers from 1 to n
abbrev pub is_answer : ℤ → ℤ → Bool
is_answer n k = int_le (pos 1) k && int_le k n

-- the first answer, if it is one; w accompanies the question
unfoldable pub answer : {W : Type 0} → ℤ → W → Answers → Outcome ℤ W
answer n w [] = Asks n w
answer n w (k ∷ rest) = if is_answer n k then Done k rest else Out n w

-- ---- results of answers

-- there is a result, and every answer was taken
abbrev pub is_whole : {A W : Type 0} → Outcome A W → Bool
is_whole (Done x []) = true
is_whole (Done x (k ∷ rest)) = false
is_whole (Asks n w) = false
is_whole (Out n w) = false

-- no answer was too many or outside its bound
abbrev pub is_open : {A W : Type 0} → Outcome A W → Bool
is_open (Done x []) = true
is_open (Done x (k ∷ rest)) = false
is_open (Asks n w) = true
is_open (Out n w) = false

-- the bound of the question that has no answer, and 0 where there is none
abbrev pub bound_of : {A W : Type 0} → Outcome A W → ℤ
bound_of (Done x rest) = pos 0
bound_of (Asks n w) = n
bound_of (Out n w) = pos 0

-- the bound of each of the answers: that of the question which the answers before it leave open
abbrev pub bounds_after : {A W : Type 0} → (Answers → Outcome A W) → Answers → Answers → List ℤ
bounds_after f q [] = []
bounds_after f q (k ∷ ks) = bound_of (f q) ∷ bounds_after f (q ++ k ∷ []) ks

abbrev pub bounds : {A W : Type 0} → (Answers → Outcome A W) → Answers → List ℤ
bounds f a = bounds_after f [] a

-- Answers are taken one by one, each inside its bound, and at most `most` of them.
-- What is done with the first answers doesn't depend on later ones.
pub record IsReader {A W : Type 0} (f : Answers → Outcome A W) (most : ℕ) : Type 0 where
  pub begins : is_open (f []) ≡ true
  pub done : (q b rest : Answers) (x : A) → f q ≡ Done x rest → f (q ++ b) ≡ Done x (rest ++ b)
  pub out : (q b : Answers) (n : ℤ) (w : W) → f q ≡ Out n w → f (q ++ b) ≡ Out n w
  pub inside : (q : Answers) (n k : ℤ) (w : W) → f q ≡ Asks n w → is_answer n k ≡ true
      → is_open (f (q ++ k ∷ [])) ≡ true
  pub outside : (q : Answers) (n k : ℤ) (w : W) → f q ≡ Asks n w → is_answer n k ≡ false → f (q ++ k ∷ []) ≡ Out n w
  pub positive : (q : Answers) (n : ℤ) (w : W) → f q ≡ Asks n w → pos 1 ≤ℤ n
  pub few : (q : Answers) (n : ℤ) (w : W) → f q ≡ Asks n w → length q < most
  pub spends : (q rest : Answers) (x : A) → f q ≡ Done x rest → length q ≤ most + length rest
