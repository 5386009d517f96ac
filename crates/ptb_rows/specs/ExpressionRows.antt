-- This file has worked rows of expressions.
-- Main definition: `ValueRows`.
--     ValueRows     the rows
use Rattle.std.specs.Prelude.{◌≡◌, ℕ, List, [], ◌∷◌, ℤ, pos, negsuc, codes, Result, Ok, Err}
use Rattle.ptb_expr.specs.declared.fault.Fault.{Fault}
use Rattle.ptb_expr.specs.declared.fault.FaultKind.TheVariants.{What, How, Sorry}
use Rattle.ptb_answers.specs.Outcome.{Answers, Outcome, Done, Asks, Out}
use Rattle.ptb_expr.specs.Store.{empty_cells}
use Rattle.ptb_expr.specs.Value.{value, fault}
use Rattle.ptb_expr.specs.Reading.{Reading, Whole, Malformed, item_of, expression}

-- the value of an expression where all variables are 0 and SIZE is 4
abbrev pub worth : List ℕ → Answers → Outcome (Result ℤ Fault) (Unit {0})
worth t a = value (empty_cells (pos 4)) (item_of (expression t 0)) a

-- the place after an expression
abbrev pub end_of : {A : Type 0} → Reading A → ℕ
end_of (Whole x j) = j
end_of (Malformed x) = 0

pub record ValueRows : Type 0 where
  pub two_rolls : worth (codes "R.(6)+R.(6)") (pos 2 ∷ pos 5 ∷ []) ≡ Done (Ok (pos 7)) []
  pub no_answer : worth (codes "R.(6)") [] ≡ Asks (pos 6) tt
  pub bad_answer : worth (codes "R.(6)") (pos 7 ∷ []) ≡ Out (pos 6) tt
  pub no_bound : worth (codes "R.(0)") [] ≡ Done (Err (fault How 5)) []
  pub sign_in_front : worth (codes "2*-3") [] ≡ Done (Err (fault What 2)) []
  pub apart : worth (codes "7> =8") [] ≡ Done (Err (fault What 3)) []
  pub at_most : worth (codes "7 <=  8") [] ≡ Done (Ok (pos 1)) []
  pub at_most_end : end_of (expression (codes "7 <=  8") 0) ≡ 7
  pub unclosed : worth (codes "(3+4") [] ≡ Done (Err (fault What 4)) []
  pub least : worth (codes "-32767-1") [] ≡ Done (Ok (negsuc 32767)) []
  pub too_great : worth (codes "32767+1") [] ≡ Done (Err (fault How 7)) []
  pub element : worth (codes "@(2)") [] ≡ Done (Ok (pos 0)) []
  pub past_end : worth (codes "@(3)") [] ≡ Done (Err (fault Sorry 4)) []
  pub below_0 : worth (codes "@(-1)") [] ≡ Done (Err (fault How 5)) []
  pub no_product : worth (codes "-(-32767-1)") [] ≡ Done (Err (fault How 11)) []
  pub first_product : worth (codes "-2*16384") [] ≡ Done (Err (fault How 8)) []
  pub product_in_front : worth (codes "-(-32767-1)*0") [] ≡ Done (Ok (pos 0)) []
  pub truth : worth (codes "B=0") [] ≡ Done (Ok (pos 1)) []
  pub quotient : worth (codes "2/3") [] ≡ Done (Ok (pos 0)) []
  pub towards_zero : worth (codes "(0-7)/2") [] ≡ Done (Ok (negsuc 2)) []
  pub by_zero : worth (codes "1/0") [] ≡ Done (Err (fault How 3)) []
  pub size : worth (codes "S.") [] ≡ Done (Ok (pos 4)) []
  -- RND of 1 takes an answer, too
  pub only_answer : worth (codes "RND(1)") (pos 1 ∷ pos 2 ∷ []) ≡ Done (Ok (pos 1)) (pos 2 ∷ [])
  pub only_answer_asked : worth (codes "RND(1)") [] ≡ Asks (pos 1) tt
  -- the left operand comes first, with its answers and its faults
  pub left_first : worth (codes "R.(6)-R.(6)") (pos 2 ∷ pos 5 ∷ []) ≡ Done (Ok (negsuc 2)) []
  pub left_asked_first : worth (codes "RND(6)*RND(5)") [] ≡ Asks (pos 6) tt
  pub left_fault_first : worth (codes "1/0+32768") [] ≡ Done (Err (fault How 3)) []
  pub left_compared_first : worth (codes "RND(6)>RND(6)") (pos 2 ∷ pos 5 ∷ []) ≡ Done (Ok (pos 0)) []
  -- what is before a missing part is worked out first
  pub asked_before_missing : worth (codes "RND(6)+") [] ≡ Asks (pos 6) tt
  pub asked_before_unclosed : worth (codes "(RND(6)") [] ≡ Asks (pos 6) tt
  -- a mark is after the blanks
  pub mark_of_operator : worth (codes "1 / 0  +2") [] ≡ Done (Err (fault How 7)) []
  pub mark_of_function : worth (codes "RND ( 0 )  ") [] ≡ Done (Err (fault How 11)) []
  pub mark_of_missing : worth (codes "2 * ") [] ≡ Done (Err (fault What 4)) []
  pub mark_of_unclosed : worth (codes "( 3 ,") [] ≡ Done (Err (fault What 4)) []
  pub mark_of_number : worth (codes "32768 ") [] ≡ Done (Err (fault How 6)) []
  pub mark_of_minus : worth (codes "-(-32767-1) ") [] ≡ Done (Err (fault How 12)) []
  -- ranges
  pub absolute : worth (codes "ABS(2-9)") [] ≡ Done (Ok (pos 7)) []
  pub no_absolute : worth (codes "A.(-32767-1)") [] ≡ Done (Err (fault How 12)) []
  pub product_too_low : worth (codes "(-32767-1)*1") [] ≡ Done (Err (fault How 12)) []
  pub quotient_too_low : worth (codes "(-32767-1)/1") [] ≡ Done (Err (fault How 12)) []
  pub difference_too_low : worth (codes "-32767-2") [] ≡ Done (Err (fault How 8)) []
  pub least_compared : worth (codes "-32767-1<0") [] ≡ Done (Ok (pos 1)) []
  pub plus_in_front : worth (codes "+2-3") [] ≡ Done (Ok (negsuc 0)) []
  pub not_equal : worth (codes "2#3") [] ≡ Done (Ok (pos 1)) []
  pub digits_apart : end_of (expression (codes "1 2") 0) ≡ 2
  pub one_comparison : end_of (expression (codes "1<2<3") 0) ≡ 3
