-- This file has worked rows of plain runs.
-- Main definitions: `PrintRows` and `LoopRows`.
--     AnswerRows, PrintRows, InputRows, LoopRows     rows of one kind of command each
--     RunFaultRows, ArrayRows, LongRows, StepRows    rows of faults, of the array, of long runs, of numbers of steps
use Rattle.std.specs.Prelude.{◌≡◌, ℕ, List, [], ◌∷◌, ◌++◌, Option, Some, None, Ok, Err, pos, codes, replicate}
use Rattle.ptb_text.specs.Lines.{input_lines}
use Rattle.ptb_text.specs.Statements.{program}
use Rattle.ptb_answers.specs.Outcome.{Answers, Outcome, Done, Asks, Out}
use Rattle.ptb_command.specs.declared.ending.Ending.{Ending}
use Rattle.ptb_command.specs.declared.ending.Ending.TheVariants.{End, Stop, What, How, Sorry, Limit}
use Rattle.ptb_command.specs.declared.ending.Ending.TheVariants.{NoInput, NoAnswer, BadAnswer}
use Rattle.ptb_machine.specs.Play.{Finish, play, plain}

-- what a program text shows on an input, and its ending; none where the text is refused
abbrev pub shows : ℕ → List ℕ → List ℕ → ℕ → Answers → Option (List ℕ × Ending)
shows memory b c limit a =
    elim (program memory b) [
      | Ok p ↦ Some (plain (record { lines = p; memory = memory }) (input_lines c)
          (record { limit = limit; choose = None; in_range = tt }) a)
      | Err e ↦ None
    ]

-- answers to RND
pub record AnswerRows : Type 0 where
  pub answer : shows 4096 (codes "10 P.RND(2)" ++ (10 ∷ [])) ([]) 10000 (pos 2 ∷ []) ≡ Some
      (codes "     2" ++ (10 ∷ []), End)
  pub answer_left : shows 4096 (codes "10 P.RND(2)" ++ (10 ∷ [])) ([]) 10000 (pos 1 ∷ pos 9 ∷ []) ≡ Some
      (codes "     1" ++ (10 ∷ []), End)
  pub no_answer : shows 4096 (codes "10 P.RND(2)" ++ (10 ∷ [])) ([]) 10000 ([]) ≡ Some ([], NoAnswer)
  pub bad_answer : shows 4096 (codes "10 P.RND(2)" ++ (10 ∷ [])) ([]) 10000 (pos 3 ∷ []) ≡ Some ([], BadAnswer)
  pub bound_of_0 : shows 4096 (codes "10 A=RND(2)-1;B=RND(A)" ++ (10 ∷ [])) ([]) 10000 (pos 1 ∷ []) ≡ Some
      (codes "HOW?" ++ (10 ∷ []) ++ codes "10 A=RND(2)-1;B=RND(A)?" ++ (10 ∷ []), How)
  -- what is before a missing part is worked out
  pub index_before_equals : shows 4096 (codes "10 @(RND(2))\n") ([]) 10000 ([]) ≡ Some ([], NoAnswer)
  pub first_value_before_to : shows 4096 (codes "10 F.I=RND(2)\n") ([]) 10000 ([]) ≡ Some ([], NoAnswer)
  pub roll_before_fault : shows 4096 (codes "10 P.RND(2)+1/0\n") ([]) 10000 (pos 2 ∷ []) ≡ Some
      (codes "HOW?\n10 P.RND(2)+1/0?\n", How)

-- PRINT
pub record PrintRows : Type 0 where
  pub greeting : shows 4096 (codes "10 PRINT \"HI\"" ++ (10 ∷ [])) ([]) 10000 ([]) ≡ Some (codes "HI" ++ (10 ∷ []), End)
  pub strings : shows 4096 (codes "10 PRINT 'ABC',_,\"X\",#3,7" ++ (10 ∷ [])) ([]) 10000 ([]) ≡ Some
      (codes "ABC" ++ (13 ∷ []) ++ codes "X  7" ++ (10 ∷ []), End)
  pub printed_strings : shows 4096 (codes "20 P.\"B\"" ++ (10 ∷ []) ++ codes "10 P.'A',;P." ++ (10 ∷ [])) ([]) 10000
      ([]) ≡ Some (codes "A" ++ (10 ∷ []) ++ codes "B" ++ (10 ∷ []), End)
  pub least_number : shows 4096 (codes "10 PRINT -32767-1" ++ (10 ∷ [])) ([]) 10000 ([]) ≡ Some
      (codes "-32768" ++ (10 ∷ []), End)
  pub widths : shows 4096 (codes "10 P.#2,-123,#256,1" ++ (10 ∷ [])) ([]) 10000 ([]) ≡ Some
      (codes "-123" ++ (10 ∷ []) ++ codes "HOW?" ++ (10 ∷ []) ++ codes "10 P.#2,-123,#256?,1" ++ (10 ∷ []), How)
  pub open_quote : shows 4096 (codes "10 P.\"A\",'B" ++ (10 ∷ [])) ([]) 10000 ([]) ≡ Some
      (codes "A" ++ (10 ∷ []) ++ codes "WHAT?" ++ (10 ∷ []) ++ codes "10 P.\"A\",?'B" ++ (10 ∷ []), What)
  pub number_too_big : shows 4096 (codes "10 P.32768" ++ (10 ∷ [])) ([]) 10000 ([]) ≡ Some
      (codes "HOW?" ++ (10 ∷ []) ++ codes "10 P.32768?" ++ (10 ∷ []), How)
  pub remark : shows 4096 (codes "10 REM;P.1" ++ (10 ∷ []) ++ codes "20 PRINT" ++ (10 ∷ [])) ([]) 10000 ([]) ≡ Some
      ((10 ∷ []), End)
  pub if_not : shows 4096 (codes "10 IF 0 NONSENSE" ++ (10 ∷ []) ++ codes "20 P.2/3;" ++ (10 ∷ [])) ([]) 10000
      ([]) ≡ Some (codes "     0" ++ (10 ∷ []), End)
  pub if_short : shows 4096 (codes "10 I.1P.2" ++ (10 ∷ [])) ([]) 10000 ([]) ≡ Some (codes "     2" ++ (10 ∷ []), End)
  pub size_short : shows 4096 (codes "10 P.S." ++ (10 ∷ [])) ([]) 10000 ([]) ≡ Some (codes "  4089" ++ (10 ∷ []), End)
  pub memory_left : shows 4096 (codes "10 PRINT SIZE" ++ (10 ∷ [])) ([]) 10000 ([]) ≡ Some
      (codes "  4083" ++ (10 ∷ []), End)
  pub newline : shows 4096 (codes "10 PRINT\n") ([]) 10000 ([]) ≡ Some (codes "\n", End)
  pub open_line : shows 4096 (codes "10 P.1,;P.2\n") ([]) 10000 ([]) ≡ Some (codes "     1     2\n", End)
  -- the newline comes before the end is looked for
  pub newline_before_end : shows 4096 (codes "10 P.1 2\n") ([]) 10000 ([]) ≡ Some
      (codes "     1\nWHAT?\n10 P.1 ?2\n", What)
  pub width_of_each : shows 4096 (codes "10 P.#2,7,8;P.9\n") ([]) 10000 ([]) ≡ Some (codes " 7 8\n     9\n", End)
  pub least_width : shows 4096 (codes "10 P.#0,5\n") ([]) 10000 ([]) ≡ Some (codes "5\n", End)
  pub width_below_0 : shows 4096 (codes "10 P.#-1,5\n") ([]) 10000 ([]) ≡ Some (codes "HOW?\n10 P.#-1?,5\n", How)
  pub no_first_item : shows 4096 (codes "10 P.,1\n") ([]) 10000 ([]) ≡ Some (codes "WHAT?\n10 P.?,1\n", What)
  pub no_item : shows 4096 (codes "10 P.1,,2\n") ([]) 10000 ([]) ≡ Some (codes "     1\nWHAT?\n10 P.1,?,2\n", What)

-- INPUT
pub record InputRows : Type 0 where
  pub random_input : shows 4096 (codes "10 INPUT A;PRINT A" ++ (10 ∷ [])) (codes "RND(2)" ++ (10 ∷ [])) 10000
      (pos 1 ∷ []) ≡ Some (codes "A:RND(2)" ++ (10 ∷ []) ++ codes "     1" ++ (10 ∷ []), End)
  pub faulty_input : shows 4096 (codes "10 INPUT A" ++ (10 ∷ []))
      (codes ")" ++ (10 ∷ []) ++ codes "5" ++ (10 ∷ [])) 10000 ([])
      ≡ Some (codes "A:)" ++ (10 ∷ []) ++ codes "WHAT?" ++ (10 ∷ []) ++ codes "A:5" ++ (10 ∷ []), End)
  pub input_used_up : shows 4096 (codes "10 INPUT A" ++ (10 ∷ []))
      (codes ")" ++ (10 ∷ [])) 10000 ([])
      ≡ Some (codes "A:)" ++ (10 ∷ []) ++ codes "WHAT?" ++ (10 ∷ []) ++ codes "A:", NoInput)
  pub index_asked_again : shows 4096 (codes "10 INPUT @(RND(2))" ++ (10 ∷ []))
      (codes ")" ++ (10 ∷ []) ++ codes "5" ++ (10 ∷ [])) 10000 (pos 1 ∷ pos 1 ∷ []) ≡ Some
      (codes "@(RND(2)):)" ++ (10 ∷ []) ++ codes "WHAT?" ++ (10 ∷ []) ++ codes "@(RND(2)):5" ++ (10 ∷ []), End)
  pub text_after_value : shows 4096 (codes "10 INPUT \"N\"A,'!'" ++ (10 ∷ [])) (codes "2+3 X" ++ (10 ∷ [])) 10000
      ([]) ≡ Some (codes "N:2+3 X" ++ (10 ∷ []) ++ codes "!", End)
  pub unread : shows 4096 (codes "10 INPUT A,B" ++ (10 ∷ [])) (codes "5" ++ (10 ∷ [])) 10000 ([]) ≡ Some
      (codes "A:5" ++ (10 ∷ []) ++ codes "B:", NoInput)
  pub input_quote : shows 4096 (codes "10 INPUT \"N" ++ (10 ∷ [])) ([]) 10000 ([]) ≡ Some
      (codes "WHAT?" ++ (10 ∷ []) ++ codes "10 INPUT ?\"N" ++ (10 ∷ []), What)
  -- after a faulty line the entire item is done again
  pub index_asks_again : shows 4096 (codes "10 INPUT @(RND(2))\n")
      (codes ")\n5\n") 10000 (pos 1 ∷ []) ≡ Some (codes "@(RND(2)):)\nWHAT?\n", NoAnswer)
  pub string_again : shows 4096 (codes "10 INPUT \"N\"A\n")
      (codes ")\n5\n") 10000 ([]) ≡ Some (codes "N:)\nWHAT?\nN:5\n", End)
  pub operator_alone : shows 4096 (codes "10 INPUT A;P.A\n") (codes "5+\n6\n") 10000 ([]) ≡ Some
      (codes "A:5+\nWHAT?\nA:6\n     6\n", End)
  pub parenthesis_after : shows 4096 (codes "10 INPUT A;P.A\n")
      (codes "5)\n") 10000 ([]) ≡ Some (codes "A:5)\n     5\n", End)
  pub empty_line : shows 4096 (codes "10 INPUT A;P.A\n") (codes "\n7\n") 10000 ([]) ≡ Some
      (codes "A:\nWHAT?\nA:7\n     7\n", End)
  pub number_too_big : shows 4096 (codes "10 INPUT A\n") (codes "32768\n1\n") 10000 ([]) ≡ Some
      (codes "A:32768\nHOW?\nA:1\n", End)
  pub no_room : shows 4096 (codes "10 INPUT A\n") (codes "@(9999)\n1\n") 10000 ([]) ≡ Some
      (codes "A:@(9999)\nSORRY\nA:1\n", End)
  -- a line is read with the variables as they are
  pub variables_then : shows 4096 (codes "10 INPUT A,B;P.B\n") (codes "3\nA+1\n") 10000 ([]) ≡ Some
      (codes "A:3\nB:A+1\n     4\n", End)
  pub blanks_of_prompt : shows 4096 (codes "10 INPUT @( 1 ) ,A\n") (codes "5\n6\n") 10000 ([]) ≡ Some
      (codes "@( 1 ):5\nA:6\n", End)
  pub return_before : shows 4096 (codes "10 INPUT _A\n") (codes "5\n") 10000 ([]) ≡ Some
      ((13 ∷ []) ++ codes ":5\n", End)
  pub faulty_item : shows 4096 (codes "10 INPUT @(-1)\n") (codes "5\n") 10000 ([]) ≡ Some
      (codes "HOW?\n10 INPUT @(-1)?\n", How)
  pub no_item : shows 4096 (codes "10 INPUT\n") (codes "5\n") 10000 ([]) ≡ Some (codes "WHAT?\n10 INPUT?\n", What)
  pub no_second_item : shows 4096 (codes "10 INPUT A,\n") (codes "5\n") 10000 ([]) ≡ Some
      (codes "A:5\nWHAT?\n10 INPUT A,?\n", What)
  pub no_variable : shows 4096 (codes "10 INPUT 5\n") (codes "5\n") 10000 ([]) ≡ Some
      (codes "WHAT?\n10 INPUT ?5\n", What)

-- loops and subroutines
pub record LoopRows : Type 0 where
  pub loop : shows 4096 (codes "10 F.I=1TO3S.2;P.I,;N.I" ++ (10 ∷ [])) ([]) 10000 ([]) ≡ Some
      (codes "     1     3", End)
  pub one_turn : shows 4096 (codes "10 F.I=5TO1;P.I;N.I" ++ (10 ∷ [])) ([]) 10000 ([]) ≡ Some
      (codes "     5" ++ (10 ∷ []), End)
  pub sum_too_great : shows 4096 (codes "10 F.I=32766TO32767;N.I;P.I" ++ (10 ∷ [])) ([]) 10000 ([]) ≡ Some
      (codes " 32767" ++ (10 ∷ []), End)
  pub subroutine : shows 4096
      (codes "10 GOSUB 40;P.1" ++ (10 ∷ []) ++ codes "20 STOP" ++ (10 ∷ []) ++ codes "40 P.2;RETURN" ++ (10 ∷ []))
      ([]) 10000 ([]) ≡ Some (codes "     2" ++ (10 ∷ []) ++ codes "     1" ++ (10 ∷ []), Stop)
  pub loop_of_subroutine : shows 4096 (codes "10 GOS.30;N.J" ++ (10 ∷ []) ++ codes "30 F.J=1TO9;R." ++ (10 ∷ []))
      ([]) 10000 ([]) ≡ Some (codes "WHAT?" ++ (10 ∷ []) ++ codes "10 GOS.30;N.J?" ++ (10 ∷ []), What)
  pub endless_calls : shows 4096 (codes "10 GOSUB 10" ++ (10 ∷ [])) ([]) 10000 ([]) ≡ Some
      (codes "SORRY" ++ (10 ∷ []) ++ codes "10 GOSUB 10?" ++ (10 ∷ []), Sorry)
  pub nested256 : shows 4096 (codes "10 F.I=1TO1;GOS.10" ++ (10 ∷ [])) ([]) 10000 ([]) ≡ Some
      (codes "SORRY" ++ (10 ∷ []) ++ codes "10 F.I=1TO1?;GOS.10" ++ (10 ∷ []), Sorry)
  pub no_call : shows 4096 (codes "10 RETURN" ++ (10 ∷ [])) ([]) 10000 ([]) ≡ Some
      (codes "WHAT?" ++ (10 ∷ []) ++ codes "10 RETURN?" ++ (10 ∷ []), What)
  pub limit : shows 4096 (codes "10 GOTO 10" ++ (10 ∷ [])) ([]) 5 ([]) ≡ Some ([], Limit)
  -- FOR again ends the older loop of its variable, and no other
  pub newer_loop_stays : shows 4096 (codes "10 F.I=1TO1;F.J=1TO1;F.I=1TO1;N.J;P.I\n") ([]) 10000 ([]) ≡ Some
      (codes "     1\n", End)
  pub older_loop_ends : shows 4096 (codes "10 F.I=1TO3;F.I=1TO1;N.I;N.I\n") ([]) 10000 ([]) ≡ Some
      (codes "WHAT?\n10 F.I=1TO3;F.I=1TO1;N.I;N.I?\n", What)
  pub newer_loops_end : shows 4096 (codes "10 F.I=1TO1;F.J=1TO9;N.I;N.J\n") ([]) 10000 ([]) ≡ Some
      (codes "WHAT?\n10 F.I=1TO1;F.J=1TO9;N.I;N.J?\n", What)
  pub down : shows 4096 (codes "10 F.I=3TO1S.-1;P.I,;N.I\n") ([]) 10000 ([]) ≡ Some (codes "     3     2     1", End)
  pub step_0 : shows 4096 (codes "10 F.I=2TO1S.0;N.I;P.I\n") ([]) 10000 ([]) ≡ Some (codes "     2\n", End)
  -- the first value is stored before the limit is worked out
  pub limit_after_first : shows 4096 (codes "10 F.I=1TOI+2;P.I,;N.I\n") ([]) 10000 ([]) ≡ Some
      (codes "     1     2     3", End)
  pub no_letter : shows 4096 (codes "10 F.@(1)=1TO2\n") ([]) 10000 ([]) ≡ Some (codes "WHAT?\n10 F.?@(1)=1TO2\n", What)
  -- the loops of other levels are not seen, and are there again after RETURN
  pub outer_loop_again : shows 4096 (codes "10 F.I=1TO2;GOS.30;P.I;N.I\n20 S.\n30 R.\n") ([]) 10000 ([]) ≡ Some
      (codes "     1\n     2\n", Stop)
  pub outer_loop_unseen : shows 4096 (codes "10 F.I=1TO2;GOS.30\n30 N.I\n") ([]) 10000 ([]) ≡ Some
      (codes "WHAT?\n30 N.I?\n", What)
  pub loop_of_each_level : shows 4096 (codes "10 F.I=1TO1;GOS.30;N.I;P.I\n20 S.\n30 F.I=5TO5;N.I;R.\n") ([]) 10000
      ([]) ≡ Some (codes "     7\n", Stop)
  pub no_such_subroutine : shows 4096 (codes "10 GOSUB 99\n") ([]) 10000 ([]) ≡ Some (codes "HOW?\n10 GOSUB 99?\n", How)
  pub subroutine_not_last : shows 4096 (codes "10 GOSUB 10 X\n") ([]) 10000 ([]) ≡ Some
      (codes "WHAT?\n10 GOSUB 10 ?X\n", What)
  pub return_semicolon : shows 4096 (codes "10 RETURN;\n") ([]) 10000 ([]) ≡ Some (codes "WHAT?\n10 RETURN?;\n", What)
  pub stop_semicolon : shows 4096 (codes "10 STOP;\n") ([]) 10000 ([]) ≡ Some (codes "WHAT?\n10 STOP?;\n", What)
  -- the end comes before the limit, and the limit before a fault
  pub end_at_limit : shows 4096 (codes "10 P.1\n") ([]) 1 ([]) ≡ Some (codes "     1\n", End)
  pub limit_after_one : shows 4096 (codes "10 P.1;P.2\n") ([]) 1 ([]) ≡ Some (codes "     1\n", Limit)
  pub limit_before_fault : shows 4096 (codes "10 P.1;;\n") ([]) 1 ([]) ≡ Some (codes "     1\n", Limit)

-- faults and their marks
pub record RunFaultRows : Type 0 where
  pub misspelt : shows 4096 (codes "210 PTINT \"THIS\"" ++ (10 ∷ [])) ([]) 10000 ([]) ≡ Some
      (codes "WHAT?" ++ (10 ∷ []) ++ codes "210 P?TINT \"THIS\"" ++ (10 ∷ []), What)
  pub unclosed : shows 4096
      (codes "260 LET A=B+3, C=(3+4, X=4" ++ (10 ∷ [])) ([]) 10000 ([])
      ≡ Some (codes "WHAT?" ++ (10 ∷ []) ++ codes "260 LET A=B+3, C=(3+4?, X=4" ++ (10 ∷ []), What)
  pub no_such_line : shows 4096 (codes "380 GOTO 412" ++ (10 ∷ [])) ([]) 10000 ([]) ≡ Some
      (codes "HOW?" ++ (10 ∷ []) ++ codes "380 GOTO 412?" ++ (10 ∷ []), How)
  pub sign_after_operator : shows 4096 (codes "10 PRINT 2*-3" ++ (10 ∷ [])) ([]) 10000 ([]) ≡ Some
      (codes "WHAT?" ++ (10 ∷ []) ++ codes "10 PRINT 2*?-3" ++ (10 ∷ []), What)
  pub compared_twice : shows 4096 (codes "10 PRINT 1<2<3" ++ (10 ∷ [])) ([]) 10000 ([]) ≡ Some
      (codes "     1" ++ (10 ∷ []) ++ codes "WHAT?" ++ (10 ∷ []) ++ codes "10 PRINT 1<2?<3" ++ (10 ∷ []), What)
  pub goto_not_last : shows 4096 (codes "10 GOTO 10;P.1" ++ (10 ∷ [])) ([]) 10000 ([]) ≡ Some
      (codes "WHAT?" ++ (10 ∷ []) ++ codes "10 GOTO 10?;P.1" ++ (10 ∷ []), What)
  pub goto_semicolon : shows 4096 (codes "10 GOTO 10;" ++ (10 ∷ [])) ([]) 10000 ([]) ≡ Some
      (codes "WHAT?" ++ (10 ∷ []) ++ codes "10 GOTO 10?;" ++ (10 ∷ []), What)
  pub two_semicolons : shows 4096 (codes "10 P.1;;P.2" ++ (10 ∷ [])) ([]) 10000 ([]) ≡ Some
      (codes "     1" ++ (10 ∷ []) ++ codes "WHAT?" ++ (10 ∷ []) ++ codes "10 P.1;?;P.2" ++ (10 ∷ []), What)
  pub division_by_0 : shows 4096 (codes "10 A=1/0" ++ (10 ∷ [])) ([]) 10000 ([]) ≡ Some
      (codes "HOW?" ++ (10 ∷ []) ++ codes "10 A=1/0?" ++ (10 ∷ []), How)
  pub product_too_great : shows 4096 (codes "300 B=200,C=200" ++ (10 ∷ []) ++ codes "310 LET A=B*C+2" ++ (10 ∷ []))
      ([]) 10000 ([]) ≡ Some (codes "HOW?" ++ (10 ∷ []) ++ codes "310 LET A=B*C?+2" ++ (10 ∷ []), How)
  pub no_negation : shows 4096 (codes "10 PRINT -(-32767-1)" ++ (10 ∷ [])) ([]) 10000 ([]) ≡ Some
      (codes "HOW?" ++ (10 ∷ []) ++ codes "10 PRINT -(-32767-1)?" ++ (10 ∷ []), How)
  pub period : shows 4096 (codes "10 .1" ++ (10 ∷ [])) ([]) 10000 ([]) ≡ Some
      (codes "WHAT?" ++ (10 ∷ []) ++ codes "10 ?.1" ++ (10 ∷ []), What)
  pub letter_alone : shows 4096 (codes "10 P" ++ (10 ∷ [])) ([]) 10000 ([]) ≡ Some
      (codes "WHAT?" ++ (10 ∷ []) ++ codes "10 P?" ++ (10 ∷ []), What)
  pub print_period : shows 4096 (codes "10 PRINT." ++ (10 ∷ [])) ([]) 10000 ([]) ≡ Some
      (codes "WHAT?" ++ (10 ∷ []) ++ codes "10 PRINT?." ++ (10 ∷ []), What)
  -- a mark is after the blanks
  pub mark_after_blank : shows 4096 (codes "10 A=1/0 ;P.1\n") ([]) 10000 ([]) ≡ Some
      (codes "HOW?\n10 A=1/0 ?;P.1\n", How)
  pub blank_at_end : shows 4096 (codes "380 GOTO 412 \n") ([]) 10000 ([]) ≡ Some (codes "HOW?\n380 GOTO 412 ?\n", How)
  pub fresh_line : shows 4096 (codes "10 P.1,;P.1/0\n") ([]) 10000 ([]) ≡ Some
      (codes "     1\nHOW?\n10 P.1,;P.1/0?\n", How)
  pub element_not_opened : shows 4096 (codes "10 @ =1\n") ([]) 10000 ([]) ≡ Some (codes "WHAT?\n10 @ ?=1\n", What)
  pub prompt_not_opened : shows 4096 (codes "10 INPUT @\n") ([]) 10000 ([]) ≡ Some (codes "WHAT?\n10 INPUT @?\n", What)
  pub if_semicolon : shows 4096 (codes "10 IF 1;P.2\n") ([]) 10000 ([]) ≡ Some (codes "WHAT?\n10 IF 1?;P.2\n", What)
  pub if_alone : shows 4096 (codes "10 IF 1 \n20 P.2\n") ([]) 10000 ([]) ≡ Some (codes "     2\n", End)
  -- the first word of the table is meant, and not the longest
  pub first_of_table : shows 4096 (codes "10 RE.\n") ([]) 10000 ([]) ≡ Some (codes "WHAT?\n10 RE.?\n", What)
  pub small_letters : shows 4096 (codes "10 print\n") ([]) 10000 ([]) ≡ Some (codes "WHAT?\n10 ?print\n", What)
  -- a fault that is never reached is none
  pub never_reached : shows 4096 (codes "10 GOTO 30\n20 NONSENSE\n30 P.1\n") ([]) 10000 ([]) ≡ Some
      (codes "     1\n", End)
  pub no_equals : shows 4096 (codes "10 A 1\n") ([]) 10000 ([]) ≡ Some (codes "WHAT?\n10 A ?1\n", What)

-- assignments and the array
pub record ArrayRows : Type 0 where
  pub element : shows 4096 (codes "10 A=3,@(A)=A+1;P.@(3)" ++ (10 ∷ [])) ([]) 10000 ([]) ≡ Some
      (codes "     4" ++ (10 ∷ []), End)
  pub comparison_stored : shows 4096 (codes "10 A=B=0;P.A" ++ (10 ∷ [])) ([]) 10000 ([]) ≡ Some
      (codes "     1" ++ (10 ∷ []), End)
  pub last_of_small_array : shows 64 (codes "10 @(27)=1" ++ (10 ∷ [])) ([]) 10000 ([]) ≡ Some ([], End)
  pub past_small_array : shows 64 (codes "10 @(28)=1" ++ (10 ∷ [])) ([]) 10000 ([]) ≡ Some
      (codes "SORRY" ++ (10 ∷ []) ++ codes "10 @(28)?=1" ++ (10 ∷ []), Sorry)
  pub last_element : shows 32767 (codes "10 @(16371)=1;P.@(16371)" ++ (10 ∷ [])) ([]) 10000 ([]) ≡ Some
      (codes "     1" ++ (10 ∷ []), End)
  pub past_element : shows 32767 (codes "10 @(16372)=1;P.@(16372)" ++ (10 ∷ [])) ([]) 10000 ([]) ≡ Some
      (codes "SORRY" ++ (10 ∷ []) ++ codes "10 @(16372)?=1;P.@(16372)" ++ (10 ∷ []), Sorry)
  pub far_element : shows 4096 (codes "10 @(32767)=1" ++ (10 ∷ [])) ([]) 10000 ([]) ≡ Some
      (codes "SORRY" ++ (10 ∷ []) ++ codes "10 @(32767)?=1" ++ (10 ∷ []), Sorry)

-- long texts
pub record LongRows : Type 0 where
  pub parens253 : shows 4096 (codes "10 P." ++ replicate 253 40 ++ (10 ∷ [])) ([]) 10000 ([]) ≡ Some
      (codes "WHAT?" ++ (10 ∷ []) ++ codes "10 P." ++ replicate 253 40 ++ codes "?" ++ (10 ∷ []), What)
  pub parens126 : shows 4096 (codes "10 P." ++ replicate 126 40 ++ codes "7" ++ replicate 126 41 ++ (10 ∷ []))
      ([]) 10000 ([]) ≡ Some (codes "     7" ++ (10 ∷ []), End)
  pub nines : shows 4096 (codes "10 A=" ++ replicate 200 57 ++ (10 ∷ [])) ([]) 10000 ([]) ≡ Some
      (codes "HOW?" ++ (10 ∷ []) ++ codes "10 A=" ++ replicate 200 57 ++ codes "?" ++ (10 ∷ []), How)
  pub zeros : shows 4096 (codes "10 A=" ++ replicate 200 48 ++ codes "5;P.A" ++ (10 ∷ [])) ([]) 10000 ([]) ≡ Some
      (codes "     5" ++ (10 ∷ []), End)

-- the steps and the ending of a run without input and answers
abbrev pub outcome_steps : Outcome Finish (List ℕ) → Option (ℕ × Ending)
outcome_steps (Done f rest) = Some (f.steps, f.ending)
outcome_steps (Asks n shown) = None
outcome_steps (Out n shown) = None

abbrev pub steps_and_ending : List ℕ → Option (ℕ × Ending)
steps_and_ending b = elim (program 4096 b) [
  | Ok p ↦ outcome_steps (play (record { lines = p; memory = 4096 }) []
      (record { limit = 10000; choose = None; in_range = tt }) [])
  | Err e ↦ None
]

pub record StepRows : Type 0 where
  pub one_turn : steps_and_ending (codes "10 F.I=5TO1;P.I;N.I") ≡ Some (3, End)
  pub sum_too_great : steps_and_ending (codes "10 F.I=32766TO32767;N.I;P.I") ≡ Some (4, End)
  pub subroutine : steps_and_ending
      (codes "10 GOSUB 40;P.1" ++ (10 ∷ []) ++ codes "20 STOP" ++ (10 ∷ []) ++ codes "40 P.2;RETURN") ≡ Some (5, Stop)
  pub if_not : steps_and_ending (codes "10 IF 0 NONSENSE" ++ (10 ∷ []) ++ codes "20 P.2/3;") ≡ Some (2, End)
  pub remark : steps_and_ending (codes "10 REM;P.1" ++ (10 ∷ []) ++ codes "20 PRINT") ≡ Some (2, End)
  pub loop : steps_and_ending (codes "10 F.I=1TO3S.2;P.I,;N.I") ≡ Some (5, End)
  pub endless_calls : steps_and_ending (codes "10 GOSUB 10") ≡ Some (257, Sorry)
  pub nested : steps_and_ending (codes "10 F.I=1TO1;GOS.10") ≡ Some (257, Sorry)
  pub empty : steps_and_ending ([]) ≡ Some (0, End)
  pub newer_loop_stays : steps_and_ending (codes "10 F.I=1TO1;F.J=1TO1;F.I=1TO1;N.J;P.I") ≡ Some (5, End)
  -- a command that faults is a step, and an empty command is none
  pub fault : steps_and_ending (codes "10 A") ≡ Some (1, What)
  pub semicolon : steps_and_ending (codes "10 P.1;;") ≡ Some (2, What)
  pub empty_command : steps_and_ending (codes "10 P.1; ") ≡ Some (1, End)
