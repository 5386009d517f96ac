-- This file has worked rows of the complete tool and of its command line.
-- Main definitions: `RunRows`, `AllRows` and `OptionRows`.
--     RunRows, SeedRows, ChoiceRows, ProgramRows, ExampleRows, LongRunRows     rows of plain runs
--     AllRows, AfterRows, BoundRows, ShareRows, SplitRows     rows of listings, of shares, and of lists that split them
--     SampleRows, ChanceRows                     rows of samples and of tables of chances
--     RefusalRows, ListingRows, CheckRows        rows of texts: refused, listed, with mistakes
--     OptionRows, ClashRows, ListRows, FaultRows     rows of the command line
use Rattle.std.specs.Prelude.{◌≡◌, ℕ, List, [], ◌∷◌, ◌++◌, Bool, true, Option, Some, None, Ok, Err}
use Rattle.std.specs.Prelude.{ℤ, pos, codes, flat_map, replicate, option_map, ◌≤ℤ◌}
use Rattle.std.specs.Int.Signed.{le_z_yes}
use Rattle.ptb_text.specs.declared.fault.LoadFault.TheVariants.{NoNumber, NumberTooBig, TextTooLong, Full, BadByte}
use Rattle.clap.specs.Words.{fault_of, matches_of}
use Rattle.clap.specs.declared.error.ErrorKind.{ErrorKind}
use Rattle.clap.specs.declared.error.ErrorKind.TheVariants.{ArgumentConflict, DisplayHelp}
use Rattle.clap.specs.declared.error.ErrorKind.TheVariants.{UnknownArgument, ValueValidation}
use Rattle.ptb_options.specs.declared.usage.UsageFault.TheVariants.{ListWithOther, CheckWithOther}
use Rattle.ptb_options.specs.declared.usage.UsageFault.TheVariants.{ChancesWithOther}
use Rattle.ptb_options.specs.declared.usage.UsageFault.TheVariants.{AfterWithoutAll}
use Rattle.ptb_options.specs.declared.usage.UsageFault.TheVariants.{FirstWithoutAll, FormWithoutAll}
use Rattle.ptb_options.specs.declared.usage.UsageFault.TheVariants.{UnderWithoutAll}
use Rattle.ptb_options.specs.declared.usage.UsageFault.TheVariants.{SharesWithoutAll}
use Rattle.ptb_options.specs.declared.usage.UsageFault.TheVariants.{SharesWithOther}
use Rattle.ptb_options.specs.declared.usage.UsageFault.TheVariants.{SampleWithoutSeed}
use Rattle.ptb_options.specs.declared.usage.UsageFault.TheVariants.{AnswersWithAll, SeedWithAll}
use Rattle.ptb_options.specs.declared.usage.UsageFault.TheVariants.{SeedWithAnswers}
use Rattle.ptb_options.specs.AnswerLists.{SpellsList, SpellsAnswers, IsMisspelled, HasNoAnswers}
use Rattle.ptb_options.specs.CommandLine.{tool}
use Rattle.ptb_options.specs.Options.{default_memory, default_steps, Options, no_options, options_of, clash}
use Rattle.ptb_serve.specs.declared.note.Note.TheVariants as notes
use Rattle.ptb_options.specs.declared.request.Mode.TheVariants as modes
use Rattle.ptb_options.specs.declared.request.Request.{Request}
use Rattle.ptb_serve.specs.Replies.{Reply, refusal, reply_with, reply_to}
use lib.Dec.{lit≤}
use Rattle.ptb_text.specs.Statements.{IsMemorySize, program}
use Rattle.ptb_answers.specs.Outcome.{is_whole}
use Rattle.ptb_answers.specs.declared.rules.Rules.{Rules}
use Rattle.ptb_machine.specs.Play.{play}
use Rattle.ptb_answers.specs.declared.form.Form.{Form}
use Rattle.ptb_answers.specs.declared.form.Form.TheVariants.{One, Two}
use Rattle.ptb_answers.specs.declared.form.Marked.{Marked}
use Rattle.ptb_answers.specs.AnswerText.{unmarked, with_bound, without_bound}
use Rattle.ptb_explore.specs.Report.{report}

-- a text of these lines
abbrev pub lines_text : List (List ℕ) → List ℕ
lines_text lines = flat_map (λ l. l ++ 10 ∷ []) lines

abbrev pub one_line : List ℕ → List ℕ
one_line l = lines_text (l ∷ [])

-- the rules of a request that gives neither steps nor a bound for answers instead of lines
abbrev pub default_rules : Rules
default_rules = record { limit = default_steps; choose = None; in_range = tt }

abbrev pub with_limit : ℕ → Request → Request
with_limit steps request = record request { rules = record default_rules { limit = steps } }

abbrev pub with_choose : (bound : ℤ) → pos 1 ≤ℤ bound → Request → Request
with_choose bound positive request =
    record request { rules = record default_rules { choose = Some bound; in_range = positive } }

-- its memory, and the least, are sizes that a program can have
pub default_size : IsMemorySize default_memory
default_size = (lit≤ tt, lit≤ tt)

pub least_size : IsMemorySize 64
least_size = (lit≤ tt, lit≤ tt)

abbrev pub with_least_memory : Request → Request
with_least_memory request = record request { memory = 64; in_range = least_size }

-- requests with the rules and the memory of one that gives none
abbrev pub plain_request : List ℤ → Request
plain_request answers = record {
  rules = default_rules;
  memory = default_memory;
  mode = modes.Plain answers;
  in_range = default_size;
}

abbrev pub seeded : ℕ → Request
seeded seed = record {
  rules = default_rules;
  memory = default_memory;
  mode = modes.Seeded seed;
  in_range = default_size;
}

-- the lists of at most so many answers that split all runs
abbrev pub splitting : ℕ → Form → Request
splitting answers form = record {
  rules = default_rules;
  memory = default_memory;
  mode = modes.Shares answers form;
  in_range = default_size;
}

-- lists that split the runs
pub record SplitRows : Type 0 where
  pub one_answer : reply_to (splitting 1 Two) (codes "10 A=RND(2);IF A=2 B=RND(3);PRINT B") [] ≡ reply_with
      (codes "1/2\n2/2\n")
  pub two_answers : reply_to (splitting 2 Two) (codes "10 A=RND(2);IF A=2 B=RND(3);PRINT B") [] ≡ reply_with
      (codes "1/2\n2/2,1/3\n2/2,2/3\n2/2,3/3\n")
  pub form_1 : reply_to (splitting 9 One) (codes "10 A=RND(2);IF A=2 B=RND(3);PRINT B") [] ≡ reply_with
      (codes "1\n2,1\n2,2\n2,3\n")
  pub no_program : reply_to (splitting 1 Two) [] [] ≡ reply_with (codes "none\n")
  -- a list may end within a command, and a run at its limit
  pub within_command : reply_to (splitting 1 Two) (codes "10 P.RND(2)*RND(3)") [] ≡ reply_with (codes "1/2\n2/2\n")
  pub limit : reply_to (with_limit 1 (splitting 2 Two)) (codes "10 A=RND(2);B=RND(2)") [] ≡ reply_with
      (codes "1/2\n2/2\n")
  pub fault : reply_to (splitting 2 One) (codes "10 A=RND(2)-1;B=RND(A);C=RND(2)") [] ≡ reply_with (codes "1\n2,1\n")
  -- the input is that of each run
  pub rolled_input : reply_to (splitting 1 Two) (codes "10 INPUT A;PRINT RND(9)")
      (one_line (codes "RND(2)")) ≡ reply_with
      (codes "1/2\n2/2\n")
  pub instead_of_lines : reply_to (with_choose (pos 3) (le_z_yes tt) (splitting 1 Two))
      (codes "10 INPUT A,B") [] ≡ reply_with
      (codes "1/3\n2/3\n3/3\n")
  pub no_input : reply_to (splitting 1 Two) (codes "10 INPUT A;B=RND(2)") [] ≡ reply_with (codes "none\n")
  pub refused : reply_to (splitting 1 Two) (codes "0 P.") [] ≡ refusal (notes.Load 1 NoNumber)

-- so many runs that a seed draws
abbrev pub sampling : ℕ → ℕ → Form → Request
sampling seed runs form = record {
  rules = default_rules;
  memory = default_memory;
  mode = modes.Sample seed runs form;
  in_range = default_size;
}

-- all runs, or the first n of those after a run
abbrev pub all_in : Form → Option (List Marked) → Option ℕ → Request
all_in form after first = record {
  rules = default_rules;
  memory = default_memory;
  mode = modes.All None after first form;
  in_range = default_size;
}

-- in form 1
abbrev pub all_from : Option (List ℤ) → Option ℕ → Request
all_from after first = all_in One (option_map unmarked after) first

abbrev pub all : Request
all = all_from None None

abbrev pub listed_after : List ℤ → Request
listed_after a = all_from (Some a) None

abbrev pub list : Request
list = record { rules = default_rules; memory = default_memory; mode = modes.List; in_range = default_size }

-- the mistakes in a text
abbrev pub check : Request
check = record { rules = default_rules; memory = default_memory; mode = modes.Check; in_range = default_size }

-- some mistakes
abbrev pub mistaken : List ℕ → Reply
mistaken bytes = record { bytes = bytes; status = 1; note = None }

pub record CheckRows : Type 0 where
  pub no_mistake : reply_to check (codes "10 PRINT \"HI\"\n") [] ≡ reply_with []
  pub in_rising_order : reply_to check
      (codes "30 LET A=(3+4, X=4\n20 GOTO 412\n10 IF 0 PTINT \"X\"\n") []
      ≡ mistaken (codes "WHAT?\n10 IF 0 P?TINT \"X\"\nHOW?\n20 GOTO 412?\nWHAT?\n30 LET A=(3+4?, X=4\n")
  pub several_in_one : reply_to check
      (codes "10 GOSUB 99;A=32768;PRINT )\n") []
      ≡ mistaken (codes "HOW?\n10 GOSUB 99?;A=32768;PRINT )\nHOW?\n10 GOSUB 99;A=32768?;PRINT )\n")
  pub only_in_the_text : reply_to check (codes "10 GOTO A\n20 RETURN\n") [] ≡ reply_with []
  pub fault_of_a_run_before_it : reply_to check
      (codes "10 PRINT (1/0\n") [] ≡ mistaken (codes "WHAT?\n10 PRINT (1/0?\n")
  pub no_program : reply_to check [] [] ≡ reply_with []
  -- whatever the input is
  pub input_ignored : reply_to check (codes "10 INPUT A") (one_line (codes ")")) ≡ reply_with []
  pub refused : reply_to check (codes "0 P.") [] ≡ refusal (notes.Load 1 NoNumber)

-- the chances of all results
abbrev pub chances_request : Request
chances_request = record {
  rules = default_rules;
  memory = default_memory;
  mode = modes.Chances;
  in_range = default_size;
}

pub record ChanceRows : Type 0 where
  pub no_program : reply_to chances_request [] [] ≡ reply_with (codes "CHANCE 1/1 1 END 0\n\n")
  pub rolled_again : reply_to chances_request (codes "10 A=RND(2);IF A=2 A=RND(3)\n20 P.#1,A") [] ≡ reply_with
      (codes "CHANCE 2/3 2 END 1\n1\nCHANCE 1/6 1 END 1\n2\nCHANCE 1/6 1 END 1\n3\n")
  pub limit : reply_to (with_limit 5 chances_request) (codes "10 A=RND(2)\n20 IF A=1 GOTO 10") [] ≡ reply_with
      (codes "CHANCE 3/4 2 END 0\n\nCHANCE 1/4 1 LIMIT 0\n\n")
  -- the signs of the sums are bytes of the lines, and a minus sign comes before the digits
  pub four_tosses :
      reply_to chances_request (codes "10 F.I=1TO4;A=A+RND(2)*2-3;N.I;P.#1,A") []
      ≡ reply_with (codes "CHANCE 1/4 4 END 2\n-2\nCHANCE 1/16 1 END 2\n-4\nCHANCE 3/8 6 END 1\n0\n"
      ++ codes "CHANCE 1/4 4 END 1\n2\nCHANCE 1/16 1 END 1\n4\n")
  pub each_ending :
      reply_to chances_request (codes "10 A=RND(3);P.#1,A;IF A=1 STOP\n20 IF A=2 P.1/0") []
      ≡ reply_with (codes "CHANCE 1/3 1 END 1\n3\nCHANCE 1/3 1 STOP 1\n1\nCHANCE 1/3 1 HOW 16\n20 IF A=2 P.1/0?\n")
  pub rolled_input : reply_to chances_request (codes "10 INPUT A;P.#1,A") (one_line (codes "RND(2)")) ≡ reply_with
      (codes "CHANCE 1/2 1 END 1\n1\nCHANCE 1/2 1 END 1\n2\n")
  pub instead_of_lines : reply_to (with_choose (pos 2) (le_z_yes tt) chances_request)
      (codes "10 INPUT A") [] ≡ reply_with
      (codes "CHANCE 1/2 1 END 3\nA:1\nCHANCE 1/2 1 END 3\nA:2\n")
  pub no_input : reply_to chances_request (codes "10 INPUT A;P.RND(2)") [] ≡ reply_with
      (codes "CHANCE 1/1 1 NOINPUT 2\nA:\n")
  pub refused : reply_to chances_request (codes "0 P.") [] ≡ refusal (notes.Load 1 NoNumber)

-- the report of a run whose answers are 69 times 1 and then these
abbrev pub long_report : List ℕ → List ℕ
long_report answers = codes "RUN " ++ flat_map (λ (k : ℕ). codes "1,") (replicate 69 0) ++ answers
    ++ codes " END 140 0\n\n"

-- a run that ends with this status
abbrev pub run_end : List ℕ → ℕ → Reply
run_end bytes status = record { bytes = bytes; status = status; note = None }

pub record RunRows : Type 0 where
  pub greeting : reply_to (plain_request []) (codes "10 PRINT \"HI\"") [] ≡ reply_with (one_line (codes "HI"))
  pub one_answer : reply_to (plain_request (pos 2 ∷ [])) (codes "10 P.RND(2)") [] ≡ run_end
      (one_line (codes "     2")) 0
  pub answers_left : reply_to (plain_request (pos 1 ∷ pos 9 ∷ [])) (codes "10 P.RND(2)") [] ≡ run_end
      (one_line (codes "     1")) 0
  pub no_answer : reply_to (plain_request []) (codes "10 P.RND(2)") [] ≡ run_end [] 6
  pub bad_answer : reply_to (plain_request (pos 3 ∷ [])) (codes "10 P.RND(2)") [] ≡ run_end [] 7
  pub limit : reply_to (with_limit 5 (plain_request [])) (codes "10 GOTO 10") [] ≡ run_end [] 4
  pub fault : reply_to (plain_request []) (codes "10 PRINT -(-32767-1)") [] ≡ run_end
      (lines_text (codes "HOW?" ∷ codes "10 PRINT -(-32767-1)?" ∷ [])) 2
  pub input : reply_to (plain_request []) (codes "10 INPUT A") (lines_text (codes ")" ∷ codes "5" ∷ [])) ≡ run_end
      (lines_text
      (codes "A:)" ∷ codes "WHAT?" ∷ codes "A:5" ∷ [])) 0
  pub no_input : reply_to (plain_request []) (codes "10 INPUT A") (one_line (codes ")")) ≡ run_end (lines_text
      (codes "A:)" ∷ codes "WHAT?" ∷ []) ++ codes "A:") 5
  pub small_memory : reply_to (with_least_memory (plain_request [])) (codes "10 @(28)=1") [] ≡ run_end
      (lines_text (codes "SORRY" ∷ codes "10 @(28)?=1" ∷ [])) 3

-- runs whose answers are drawn from a seed
pub record SeedRows : Type 0 where
  pub only_answer : reply_to (seeded 7) (codes "10 P.RND(1)") [] ≡ run_end (one_line (codes "     1")) 0
  pub rolls : reply_to (seeded 7) (codes "10 P.RND(6),RND(6),RND(100)") [] ≡ run_end
      (one_line (codes "     3     5    13")) 0
  pub least : reply_to (seeded 0) (codes "10 P.RND(6),RND(6),RND(6)") [] ≡ run_end
      (one_line (codes "     6     6     3")) 0
  pub second : reply_to (seeded 1) (codes "10 P.RND(6),RND(6),RND(6)") [] ≡ run_end
      (one_line (codes "     2     3     2")) 0
  pub greatest : reply_to (seeded 4294967295) (codes "10 P.RND(6),RND(6),RND(6)") [] ≡ run_end
      (one_line (codes "     4     2     5")) 0
  pub rolled_input : reply_to (seeded 7) (codes "10 INPUT A;PRINT A") (one_line (codes "RND(6)")) ≡ run_end
      (lines_text (codes "A:RND(6)" ∷ codes "     3" ∷ [])) 0
  pub no_input : reply_to (seeded 7) (codes "10 INPUT A") [] ≡ run_end (codes "A:") 5
  pub fault : reply_to (seeded 7) (codes "10 P.RND(0)") [] ≡ run_end
      (lines_text (codes "HOW?" ∷ codes "10 P.RND(0)?" ∷ [])) 2
  pub limit : reply_to (with_limit 5 (seeded 7)) (codes "10 A=RND(2);GOTO 10") [] ≡ run_end [] 4
  pub refused : reply_to (seeded 7) (codes "0 P.") [] ≡ refusal (notes.Load 1 NoNumber)

-- answers instead of missing lines
pub record ChoiceRows : Type 0 where
  pub each_answer : reply_to (with_choose (pos 2) (le_z_yes tt) all) (codes "10 INPUT A;PRINT A") [] ≡ reply_with
      (codes "RUN 1 END 2 11\nA:1\n     1\n\nRUN 2 END 2 11\nA:2\n     2\n\n")
  pub after_faulty_line : reply_to (with_choose (pos 2) (le_z_yes tt) all) (codes "10 INPUT A;PRINT A")
      (one_line (codes ")"))
      ≡ reply_with (codes "RUN 1 END 2 21\nA:)\nWHAT?\nA:1\n     1\n\nRUN 2 END 2 21\nA:)\nWHAT?\nA:2\n     2\n\n")
  pub index_and_value : reply_to (with_choose (pos 2) (le_z_yes tt) all) (codes "10 INPUT @(RND(2)-1)") [] ≡ reply_with
      (
      codes "RUN 1,1 END 1 14\n@(RND(2)-1):1\n\n" ++ codes "RUN 1,2 END 1 14\n@(RND(2)-1):2\n\n"
      ++ codes "RUN 2,1 END 1 14\n@(RND(2)-1):1\n\n" ++ codes "RUN 2,2 END 1 14\n@(RND(2)-1):2\n\n")
  pub no_answer : reply_to (with_choose (pos 2) (le_z_yes tt) (plain_request []))
      (codes "10 INPUT A;PRINT A") [] ≡ run_end
      (codes "A:") 6
  pub bad_answer : reply_to (with_choose (pos 2) (le_z_yes tt) (plain_request (pos 3 ∷ [])))
      (codes "10 INPUT A;PRINT A") [] ≡ run_end (codes "A:") 7
  pub answer : reply_to (with_choose (pos 2) (le_z_yes tt) (plain_request (pos 2 ∷ [])))
      (codes "10 INPUT A;PRINT A") [] ≡ run_end
      (codes "A:2\n     2\n") 0
  -- a line that is left is taken first
  pub line_first : reply_to (with_choose (pos 9) (le_z_yes tt) (plain_request (pos 9 ∷ [])))
      (codes "10 INPUT A,B;PRINT A-B")
      (codes "5\n") ≡ run_end (codes "A:5\nB:9\n    -4\n") 0
  pub no_line_asked_for : reply_to (with_choose (pos 9) (le_z_yes tt) all) (codes "10 PRINT 1") [] ≡ reply_with
      (codes "RUN none END 1 7\n     1\n\n")
  pub only_answer : reply_to (with_choose (pos 1) (le_z_yes tt) all) (codes "10 INPUT A") [] ≡ reply_with
      (codes "RUN 1 END 1 4\nA:1\n\n")
  pub greatest : reply_to (with_choose (pos 32767) (le_z_yes tt) (plain_request (pos 32767 ∷ [])))
      (codes "10 INPUT A") [] ≡ run_end
      (codes "A:32767\n") 0
  -- by a seed they are drawn as for RND
  pub drawn : reply_to (with_choose (pos 6) (le_z_yes tt) (seeded 7)) (codes "10 INPUT A;PRINT RND(6)") [] ≡ run_end
      (codes "A:3\n     5\n") 0
  -- with the steps of a limit
  pub limit : reply_to (record all { rules = record { limit = 1; choose = Some (pos 2); in_range = le_z_yes tt } })
      (codes "10 INPUT A;PRINT A") [] ≡ reply_with (codes "RUN 1 LIMIT 1 4\nA:1\n\nRUN 2 LIMIT 1 4\nA:2\n\n")
  pub after_first : reply_to (with_choose (pos 2) (le_z_yes tt) (listed_after (pos 1 ∷ [])))
      (codes "10 INPUT A;PRINT A") [] ≡ reply_with (codes "RUN 2 END 2 11\nA:2\n     2\n\n")
  pub first_one : reply_to (with_choose (pos 2) (le_z_yes tt) (all_from None (Some 1)))
      (codes "10 INPUT A;PRINT A") [] ≡ reply_with (codes "RUN 1 END 2 11\nA:1\n     1\n\n")
  pub after_none : reply_to (with_choose (pos 2) (le_z_yes tt) (listed_after (pos 3 ∷ [])))
      (codes "10 INPUT A;PRINT A") [] ≡ refusal notes.NoRun

-- programs that run once
pub record ProgramRows : Type 0 where
  pub lines_in_order : reply_to (plain_request []) (codes "20 P.\"B\"\n10 P.'A',;P.\n") [] ≡ run_end (codes "A\nB\n") 0
  pub least_number : reply_to (plain_request []) (codes "10 PRINT -32767-1") [] ≡ run_end (codes "-32768\n") 0
  pub rolled_input : reply_to (plain_request (pos 1 ∷ [])) (codes "10 INPUT A;PRINT A") (codes "RND(2)\n") ≡ run_end
      (codes "A:RND(2)\n     1\n") 0
  pub loop : reply_to (plain_request []) (codes "10 F.I=1TO3S.2;P.I,;N.I") [] ≡ run_end (codes "     1     3") 0
  pub strings : reply_to (plain_request []) (codes "10 PRINT 'ABC',_,\"X\",#3,7") [] ≡ run_end
      (codes "ABC" ++ 13 ∷ codes "X  7\n") 0
  pub endless_calls : reply_to (plain_request []) (codes "10 GOSUB 10") [] ≡ run_end (codes "SORRY\n10 GOSUB 10?\n") 3
  pub product_too_great : reply_to (plain_request []) (codes "300 B=200,C=200\n310 LET A=B*C+2\n") [] ≡ run_end
      (codes "HOW?\n310 LET A=B*C?+2\n") 2
  pub index_asked_again : reply_to (plain_request (pos 1 ∷ pos 1 ∷ [])) (codes "10 INPUT @(RND(2))")
      (codes ")\n5\n") ≡ run_end (codes "@(RND(2)):)\nWHAT?\n@(RND(2)):5\n") 0
  pub last_element : reply_to (with_least_memory (plain_request [])) (codes "10 @(27)=1") [] ≡ run_end [] 0
  pub size : reply_to (plain_request []) (codes "10 PRINT SIZE") [] ≡ run_end (codes "  4083\n") 0
  pub loop_of_subroutine : reply_to (plain_request []) (codes "10 GOS.30;N.J\n30 F.J=1TO9;R.\n") [] ≡ run_end
      (codes "WHAT?\n10 GOS.30;N.J?\n") 1
  pub stop : reply_to (plain_request []) (codes "10 GOSUB 40;P.1\n20 STOP\n40 P.2;RETURN\n") [] ≡ run_end
      (codes "     2\n     1\n") 0
  pub end_at_limit : reply_to (with_limit 1 (plain_request [])) (codes "10 P.1") [] ≡ run_end (codes "     1\n") 0
  pub missing_line : reply_to (plain_request []) (codes "10 INPUT A,B") (codes "5\n") ≡ run_end (codes "A:5\nB:") 5

-- the examples of docs/LANGUAGE.md
pub record ExampleRows : Type 0 where
  pub two_dice : reply_to (plain_request (pos 4 ∷ pos 4 ∷ pos 1 ∷ pos 6 ∷ [])) (lines_text (
      codes "10 REM TWO DICE" ∷ codes "20 A=RND(6),B=RND(6);PRINT \"YOU ROLL\",#3,A,B;IF A=B GOTO 20"
      ∷ codes "30 PRINT \"SUM\",A+B" ∷ [])) []
      ≡ run_end (codes "YOU ROLL  4  4\nYOU ROLL  1  6\nSUM     7\n") 0
  pub many : reply_to (plain_request []) (codes "10 INPUT \"HOW MANY\"N;PRINT N*N") (codes "MANY\n") ≡ run_end
      (codes "HOW MANY:MANY\n     0\n") 0
  pub twelve : reply_to (plain_request []) (codes "10 INPUT \"HOW MANY\"N;PRINT N*N")
      (codes "(\n12\n") ≡ run_end (codes "HOW MANY:(\nWHAT?\nHOW MANY:12\n   144\n") 0
  pub open_paren : reply_to (plain_request []) (codes "10 PRINT (1+2") [] ≡ run_end (codes "WHAT?\n10 PRINT (1+2?\n") 1
  pub blank_before_mark : reply_to (plain_request []) (codes "10 A=1/0 ;PRINT A") [] ≡ run_end
      (codes "HOW?\n10 A=1/0 ?;PRINT A\n") 2
  pub no_blanks : reply_to (plain_request []) (codes "10 FORI=1TO3;PRINTI,;NEXTI") [] ≡ run_end
      (codes "     1     2     3") 0
  pub blank_in_word : reply_to (plain_request []) (codes "10 G O T O 10") [] ≡ run_end
      (codes "WHAT?\n10 G ?O T O 10\n") 1

-- whether a list of answers is a run of a program without input, and its report
abbrev pub run_of : List ℕ → ℕ → List ℤ → Option (Bool × List ℕ)
run_of b limit a =
    elim (program default_memory b) [
      | Ok p ↦ (let game = play (record { lines = p; memory = default_memory }) []
          (record default_rules { limit = limit }) in Some (is_whole (game a), report One game a))
      | Err fault ↦ None
    ]

-- programs whose runs are many steps long, or have many answers
pub record LongRunRows : Type 0 where
  pub long_loop : reply_to all (codes "10 F.I=1TO200;A=I;N.I\n20 A=RND(3)\n") [] ≡ reply_with
      (codes "RUN 1 END 402 0\n\nRUN 2 END 402 0\n\nRUN 3 END 402 0\n\n")
  pub many_answers : reply_to all (codes "10 F.I=1TO69;A=RND(1);N.I\n20 A=RND(2),B=RND(2)\n") [] ≡ reply_with (
      long_report (codes "1,1") ++ long_report (codes "1,2") ++ long_report (codes "2,1") ++ long_report (codes "2,2"))
  -- one of 10001 steps
  pub most_answers : run_of (codes "10 F.I=1TO5000;A=RND(1);N.I") 20000 (replicate 5000 (pos 1))
      ≡ Some (true, codes "RUN 1" ++ flat_map (λ (k : ℕ). codes ",1") (replicate 4999 0) ++ codes " END 10001 0\n\n")

-- all runs of programs
pub record AllRows : Type 0 where
  pub no_program : reply_to all [] [] ≡ reply_with (codes "RUN none END 0 0\n\n")
  pub one_roll : reply_to all (codes "10 P.RND(2)") [] ≡ reply_with
      (codes "RUN 1 END 1 7\n     1\n\nRUN 2 END 1 7\n     2\n\n")
  pub two_rolls : reply_to all (codes "10 PRINT RND(2)*RND(2)") [] ≡ reply_with
      (codes "RUN 1,1 END 1 7\n     1\n\nRUN 1,2 END 1 7\n     2\n\n"
      ++ codes "RUN 2,1 END 1 7\n     2\n\nRUN 2,2 END 1 7\n     4\n\n")
  pub roll_after_if : reply_to all (codes "10 A=RND(2);IF A=2 B=RND(3);PRINT B") [] ≡ reply_with
      (codes "RUN 1 END 2 0\n\nRUN 2,1 END 4 7\n     1\n\nRUN 2,2 END 4 7\n     2\n\nRUN 2,3 END 4 7\n     3\n\n")
  pub faulty_run : reply_to all (codes "10 A=RND(2)-1;B=RND(A)") [] ≡ reply_with
      (codes "RUN 1 HOW 2 29\nHOW?\n10 A=RND(2)-1;B=RND(A)?\n\nRUN 2,1 END 2 0\n\n")
  pub limit : reply_to (with_limit 5 all) (codes "10 GOTO 10") [] ≡ reply_with (codes "RUN none LIMIT 5 0\n\n")
  pub limit_between : reply_to (with_limit 1 all) (codes "10 A=RND(2);B=RND(2)") [] ≡ reply_with
      (codes "RUN 1 LIMIT 1 0\n\nRUN 2 LIMIT 1 0\n\n")
  pub rolled_input : reply_to all (codes "10 INPUT A;PRINT A") (one_line (codes "RND(2)")) ≡ reply_with
      (codes "RUN 1 END 2 16\nA:RND(2)\n     1\n\nRUN 2 END 2 16\nA:RND(2)\n     2\n\n")
  pub no_input : reply_to all (codes "10 INPUT A") [] ≡ reply_with (codes "RUN none NOINPUT 1 2\nA:\n")
  pub index_asked_again : reply_to all (codes "10 INPUT @(RND(2))") (lines_text (codes ")" ∷ codes "5" ∷ [])) ≡
      reply_with (
      codes "RUN 1,1 END 1 30\n@(RND(2)):)\nWHAT?\n@(RND(2)):5\n\n"
      ++ codes "RUN 1,2 END 1 30\n@(RND(2)):)\nWHAT?\n@(RND(2)):5\n\n"
      ++ codes "RUN 2,1 END 1 30\n@(RND(2)):)\nWHAT?\n@(RND(2)):5\n\n"
      ++ codes "RUN 2,2 END 1 30\n@(RND(2)):)\nWHAT?\n@(RND(2)):5\n\n")
  pub endless_calls : reply_to all (codes "10 GOSUB 10") [] ≡ reply_with
      (codes "RUN none SORRY 257 19\nSORRY\n10 GOSUB 10?\n\n")
  pub only_answer : reply_to all (codes "10 A=RND(1)") [] ≡ reply_with (codes "RUN 1 END 1 0\n\n")
  pub end_at_limit : reply_to (with_limit 1 all) (codes "10 P.1") [] ≡ reply_with (codes "RUN none END 1 7\n     1\n\n")
  pub calls_in_loops : reply_to all (codes "10 F.I=1TO1;GOS.10") [] ≡ reply_with
      (codes "RUN none SORRY 257 26\nSORRY\n10 F.I=1TO1?;GOS.10\n\n")

-- the runs after one of them, and the first of them
pub record AfterRows : Type 0 where
  pub first_two : reply_to (all_from None (Some 2)) (codes "10 PRINT RND(2)*RND(2)") [] ≡ reply_with
      (codes "RUN 1,1 END 1 7\n     1\n\nRUN 1,2 END 1 7\n     2\n\n")
  pub two_after : reply_to (all_from (Some (pos 1 ∷ pos 1 ∷ [])) (Some 2))
      (codes "10 PRINT RND(2)*RND(2)") [] ≡ reply_with
      (codes "RUN 1,2 END 1 7\n     2\n\nRUN 2,1 END 1 7\n     2\n\n")
  pub after_second : reply_to (listed_after (pos 2 ∷ pos 1 ∷ []))
      (codes "10 A=RND(2);IF A=2 B=RND(3);PRINT B") [] ≡ reply_with
      (codes "RUN 2,2 END 4 7\n     2\n\nRUN 2,3 END 4 7\n     3\n\n")
  pub after_last : reply_to (listed_after (pos 2 ∷ pos 3 ∷ []))
      (codes "10 A=RND(2);IF A=2 B=RND(3);PRINT B") [] ≡ reply_with []
  pub beginning_of_run : reply_to (listed_after (pos 2 ∷ []))
      (codes "10 A=RND(2);IF A=2 B=RND(3);PRINT B") [] ≡ refusal notes.NoRun
  pub outside : reply_to (listed_after (pos 2 ∷ pos 4 ∷ []))
      (codes "10 A=RND(2);IF A=2 B=RND(3);PRINT B") [] ≡ refusal notes.NoRun
  pub too_long : reply_to (listed_after (pos 2 ∷ pos 1 ∷ pos 1 ∷ []))
      (codes "10 A=RND(2);IF A=2 B=RND(3);PRINT B") [] ≡ refusal notes.NoRun
  pub after_shorter : reply_to (listed_after (pos 1 ∷ [])) (codes "10 A=RND(2);IF A=2 B=RND(3);PRINT B") [] ≡ reply_with
      (codes "RUN 2,1 END 4 7\n     1\n\nRUN 2,2 END 4 7\n     2\n\nRUN 2,3 END 4 7\n     3\n\n")
  pub greatest : reply_to (listed_after (pos 32767 ∷ [])) (codes "10 P.RND(2)") [] ≡ refusal notes.NoRun
  pub after_only : reply_to (listed_after []) [] [] ≡ reply_with []
  pub empty_list : reply_to (listed_after []) (codes "10 P.RND(2)") [] ≡ refusal notes.NoRun
  pub fewer_left : reply_to (all_from (Some (pos 1 ∷ [])) (Some 5)) (codes "10 P.RND(2)") [] ≡ reply_with
      (codes "RUN 2 END 1 7\n     2\n\n")

-- all runs of a program, each answer with its bound
abbrev pub bounds_later : List Marked → Request
bounds_later list = all_in Two (Some list) None

-- reports with bounds, and listings after runs that are named with bounds
pub record BoundRows : Type 0 where
  pub roll_after_if : reply_to (all_in Two None None) (codes "10 A=RND(2);IF A=2 B=RND(3);PRINT B") [] ≡ reply_with (
      codes "RUN 1/2 END 2 0\n\nRUN 2/2,1/3 END 4 7\n     1\n\n"
      ++ codes "RUN 2/2,2/3 END 4 7\n     2\n\nRUN 2/2,3/3 END 4 7\n     3\n\n")
  pub after_bound : reply_to (bounds_later (with_bound (pos 2) (pos 2) ∷ without_bound (pos 1) ∷ []))
      (codes "10 A=RND(2);IF A=2 B=RND(3);PRINT B") [] ≡ reply_with
      (codes "RUN 2/2,2/3 END 4 7\n     2\n\nRUN 2/2,3/3 END 4 7\n     3\n\n")
  pub other_bound : reply_to (bounds_later (with_bound (pos 2) (pos 3) ∷ with_bound (pos 1) (pos 3) ∷ []))
      (codes "10 A=RND(2);IF A=2 B=RND(3);PRINT B") [] ≡ refusal notes.NoRun
  pub bound_of_last : reply_to (bounds_later (with_bound (pos 2) (pos 2) ∷ with_bound (pos 1) (pos 2) ∷ []))
      (codes "10 A=RND(2);IF A=2 B=RND(3);PRINT B") [] ≡ refusal notes.NoRun
  pub beginning_of_run : reply_to (bounds_later (with_bound (pos 2) (pos 2) ∷ []))
      (codes "10 A=RND(2);IF A=2 B=RND(3);PRINT B") [] ≡ refusal notes.NoRun
  pub bounds_and_form_1 : reply_to (all_in One (Some (with_bound (pos 1) (pos 2) ∷ [])) None)
      (codes "10 P.RND(2)") [] ≡ reply_with (codes "RUN 2 END 1 7\n     2\n\n")
  pub no_answers : reply_to (all_in Two None None) [] [] ≡ reply_with (codes "RUN none END 0 0\n\n")
  pub only_answer : reply_to (all_in Two None None) (codes "10 A=RND(1)") [] ≡ reply_with (codes "RUN 1/1 END 1 0\n\n")
  pub after_none : reply_to (bounds_later []) [] [] ≡ reply_with []

-- runs that a seed draws, one after the other
pub record SampleRows : Type 0 where
  pub rolls : reply_to (sampling 7 3 Two) (codes "10 P.RND(6)") [] ≡ reply_with
      (codes "RUN 3/6 END 1 7\n     3\n\n" ++ codes "RUN 5/6 END 1 7\n     5\n\n"
      ++ codes "RUN 5/6 END 1 7\n     5\n\n")
  pub form_1 : reply_to (sampling 7 1 One) (codes "10 P.RND(6)") [] ≡ reply_with (codes "RUN 3 END 1 7\n     3\n\n")
  pub other_seed : reply_to (sampling 0 1 Two) (codes "10 P.RND(6)") [] ≡ reply_with
      (codes "RUN 6/6 END 1 7\n     6\n\n")
  pub once_and_twice : reply_to (sampling 7 4 Two) (codes "10 A=RND(2);IF A=2 B=RND(3);PRINT B") [] ≡ reply_with
      (codes "RUN 1/2 END 2 0\n\n" ++ codes "RUN 1/2 END 2 0\n\n" ++ codes "RUN 1/2 END 2 0\n\n"
      ++ codes "RUN 2/2,1/3 END 4 7\n     1\n\n")
  -- each run begins with the first line
  pub same_lines : reply_to (sampling 7 2 One) (codes "10 INPUT A")
      (lines_text (codes "RND(6)" ∷ codes "5" ∷ [])) ≡ reply_with
      (codes "RUN 3 END 1 9\nA:RND(6)\n\n" ++ codes "RUN 5 END 1 9\nA:RND(6)\n\n")
  pub instead_of_lines : reply_to (with_choose (pos 6) (le_z_yes tt) (sampling 7 1 Two))
      (codes "10 INPUT A") [] ≡ reply_with
      (codes "RUN 3/6 END 1 4\nA:3\n\n")
  pub no_input : reply_to (sampling 7 1 Two) (codes "10 INPUT A") [] ≡ reply_with (codes "RUN none NOINPUT 1 2\nA:\n")
  pub limit : reply_to (with_limit 3 (sampling 7 1 Two)) (codes "10 A=RND(2);GOTO 10") [] ≡ reply_with
      (codes "RUN 1/2,1/2 LIMIT 3 0\n\n")
  pub no_question : reply_to (sampling 7 2 Two) [] [] ≡ reply_with
      (codes "RUN none END 0 0\n\n" ++ codes "RUN none END 0 0\n\n")
  pub refused : reply_to (sampling 7 3 Two) (codes "0 P.") [] ≡ refusal (notes.Load 1 NoNumber)

-- the runs that begin with these answers, or the first n of those after one of them
abbrev pub under : List Marked → Option (List Marked) → Option ℕ → Request
under list after first = record {
  rules = default_rules;
  memory = default_memory;
  mode = modes.All (Some list) after first Two;
  in_range = default_size;
}

abbrev pub answers : List ℤ → List Marked
answers list = unmarked list

-- shares of a tree
pub record ShareRows : Type 0 where
  pub second_answer : reply_to (under (answers (pos 2 ∷ [])) None None)
      (codes "10 A=RND(2);IF A=2 B=RND(3);PRINT B") [] ≡ reply_with
      (codes "RUN 2/2,1/3 END 4 7\n     1\n\n" ++ codes "RUN 2/2,2/3 END 4 7\n     2\n\n"
      ++ codes "RUN 2/2,3/3 END 4 7\n     3\n\n")
  pub first_of_share : reply_to (under (answers (pos 2 ∷ [])) None (Some 1))
      (codes "10 A=RND(2);IF A=2 B=RND(3);PRINT B") [] ≡ reply_with (codes "RUN 2/2,1/3 END 4 7\n     1\n\n")
  pub after_one : reply_to (under (answers (pos 2 ∷ [])) (Some (answers (pos 2 ∷ pos 1 ∷ []))) None)
      (codes "10 A=RND(2);IF A=2 B=RND(3);PRINT B") [] ≡ reply_with
      (codes "RUN 2/2,2/3 END 4 7\n     2\n\n" ++ codes "RUN 2/2,3/3 END 4 7\n     3\n\n")
  pub run_alone : reply_to (under (answers (pos 2 ∷ pos 3 ∷ [])) None None)
      (codes "10 A=RND(2);IF A=2 B=RND(3);PRINT B") [] ≡ reply_with (codes "RUN 2/2,3/3 END 4 7\n     3\n\n")
  pub first_answer : reply_to (under (answers (pos 1 ∷ [])) None None)
      (codes "10 A=RND(2);IF A=2 B=RND(3);PRINT B") [] ≡ reply_with (codes "RUN 1/2 END 2 0\n\n")
  pub with_bounds : reply_to (under (with_bound (pos 2) (pos 2) ∷ with_bound (pos 1) (pos 3) ∷ []) None None)
      (codes "10 A=RND(2);IF A=2 B=RND(3);PRINT B") [] ≡ reply_with (codes "RUN 2/2,1/3 END 4 7\n     1\n\n")
  pub whole : reply_to (under [] None None) (codes "10 A=RND(2);IF A=2 B=RND(3);PRINT B") [] ≡ reply_with
      (codes "RUN 1/2 END 2 0\n\n" ++ codes "RUN 2/2,1/3 END 4 7\n     1\n\n" ++ codes "RUN 2/2,2/3 END 4 7\n     2\n\n"
      ++ codes "RUN 2/2,3/3 END 4 7\n     3\n\n")
  pub too_long : reply_to (under (answers (pos 1 ∷ pos 1 ∷ [])) None None)
      (codes "10 A=RND(2);IF A=2 B=RND(3);PRINT B") [] ≡ refusal notes.NoBeginning
  pub outside : reply_to (under (answers (pos 3 ∷ [])) None None)
      (codes "10 A=RND(2);IF A=2 B=RND(3);PRINT B") [] ≡ refusal notes.NoBeginning
  pub other_bound : reply_to (under (with_bound (pos 2) (pos 3) ∷ []) None None)
      (codes "10 A=RND(2);IF A=2 B=RND(3);PRINT B") [] ≡ refusal notes.NoBeginning
  pub after_another : reply_to (under (answers (pos 2 ∷ [])) (Some (answers (pos 1 ∷ []))) None)
      (codes "10 A=RND(2);IF A=2 B=RND(3);PRINT B") [] ≡ refusal notes.NoRun
  -- the beginning is looked at first
  pub neither : reply_to (under (answers (pos 3 ∷ [])) (Some (answers (pos 9 ∷ []))) None)
      (codes "10 A=RND(2);IF A=2 B=RND(3);PRINT B") [] ≡ refusal notes.NoBeginning
  pub empty_program : reply_to (under [] None None) [] [] ≡ reply_with (codes "RUN none END 0 0\n\n")

pub record RefusalRows : Type 0 where
  pub number : reply_to (plain_request []) (codes "32768 P.1") [] ≡ refusal (notes.Load 1 NumberTooBig)
  pub no_number : reply_to (plain_request []) (codes "0 P.") [] ≡ refusal (notes.Load 1 NoNumber)
  pub byte : reply_to (plain_request []) (codes "10 P." ++ 127 ∷ []) [] ≡ refusal (notes.Load 1 (BadByte 6))
  pub full : reply_to (with_least_memory (plain_request [])) (lines_text (
      codes "1 P.1" ∷ codes "2 P.1" ∷ codes "3 P.1" ∷ codes "4 P.1" ∷ codes "5 P.1" ∷ codes "6 P.1" ∷ codes "7 P.1"
      ∷ codes "8 P.1" ∷ codes "9 P.1" ∷ codes "10 P.1" ∷ codes "11 P.1" ∷ [])) [] ≡ refusal (notes.Load 11 Full)
  pub long_text : reply_to (plain_request []) (codes "10 A=" ++ replicate 254 57) [] ≡ refusal
      (notes.Load 1 TextTooLong)
  pub long_number : reply_to (plain_request []) (replicate 200 57 ++ codes " P.") [] ≡ refusal
      (notes.Load 1 NumberTooBig)
  -- a refusal comes before the run to begin after is looked at
  pub all_runs : reply_to (listed_after (pos 9 ∷ [])) (codes "0 P.") [] ≡ refusal (notes.Load 1 NoNumber)
  pub second_line : reply_to list (lines_text (codes "10 P.1" ∷ codes "P.2" ∷ [])) [] ≡ refusal (notes.Load 2 NoNumber)

pub record ListingRows : Type 0 where
  pub listing : reply_to list
      (lines_text (codes "10 P.1" ∷ codes "20 P.2" ∷ (codes "010" ++ 9 ∷ codes "P.3" ++ 13 ∷ []) ∷ codes "20" ∷ [])) []
      ≡ reply_with
      (one_line (codes "10 P.3"))
  pub empty : reply_to list [] [] ≡ reply_with []
  pub line_order : reply_to list (lines_text (codes "20 P.2" ∷ codes "5 P.1" ∷ [])) [] ≡ reply_with
      (lines_text (codes "5 P.1" ∷ codes "20 P.2" ∷ []))

-- ---- the command line

-- the arguments after the program's name
abbrev pub arguments : List (List ℕ) → List (List ℕ)
arguments words = codes "ptb" ∷ words

-- what clap finds in them
abbrev pub options : List (List ℕ) → Options
options words = options_of (matches_of tool (arguments words))

-- why it finds nothing
abbrev pub faults : List (List ℕ) → List ErrorKind
faults words = fault_of tool (arguments words)

-- options that don't go together
pub record ClashRows : Type 0 where
  pub after_listing : clash (options (codes "--list" ∷ codes "--after" ∷ codes "1" ∷ [])) ≡ Some ListWithOther
  pub all_listing : clash (options (codes "--all" ∷ codes "--list" ∷ [])) ≡ Some ListWithOther
  pub answers_listing : clash (options (codes "--list" ∷ codes "--answers" ∷ codes "none" ∷ [])) ≡ Some ListWithOther
  pub first_listing : clash (options (codes "--list" ∷ codes "--first" ∷ codes "3" ∷ [])) ≡ Some ListWithOther
  pub after_alone : clash (options (codes "--after" ∷ codes "0" ∷ [])) ≡ Some AfterWithoutAll
  pub after_and_first : clash
      (options (codes "--first" ∷ codes "3" ∷ codes "--after" ∷ codes "0" ∷ [])) ≡ Some AfterWithoutAll
  pub first_alone : clash (options (codes "--first=3" ∷ [])) ≡ Some FirstWithoutAll
  pub form_alone : clash (options (codes "--form" ∷ codes "1" ∷ [])) ≡ Some FormWithoutAll
  pub form_and_first : clash
      (options (codes "--form" ∷ codes "1" ∷ codes "--first" ∷ codes "3" ∷ [])) ≡ Some FirstWithoutAll
  pub form_and_seed : clash
      (options (codes "--form=2" ∷ codes "--seed" ∷ codes "7" ∷ codes "--answers" ∷ codes "1" ∷ []))
      ≡ Some FormWithoutAll
  pub form_listing : clash (options (codes "--form" ∷ codes "2" ∷ codes "--list" ∷ [])) ≡ Some ListWithOther
  pub form_and_all : clash (options (codes "--form" ∷ codes "1" ∷ codes "--all" ∷ [])) ≡ None
  pub under_alone : clash (options (codes "--under" ∷ codes "2" ∷ [])) ≡ Some UnderWithoutAll
  pub under_and_form : clash (options (codes "--under=2" ∷ codes "--form=1" ∷ [])) ≡ Some FormWithoutAll
  pub under_and_answers : clash
      (options (codes "--answers" ∷ codes "1" ∷ codes "--under" ∷ codes "2" ∷ codes "--seed=7" ∷ []))
      ≡ Some UnderWithoutAll
  pub under_listing : clash (options (codes "--under" ∷ codes "2" ∷ codes "--list" ∷ [])) ≡ Some ListWithOther
  pub under_and_all : clash
      (options (codes "--all" ∷ codes "--under" ∷ codes "2" ∷ codes "--after" ∷ codes "2,1" ∷ [])) ≡ None
  pub shares_alone : clash (options (codes "--shares" ∷ codes "2" ∷ [])) ≡ Some SharesWithoutAll
  pub shares_and_sample : clash
      (options (codes "--sample=3" ∷ codes "--shares" ∷ codes "2" ∷ [])) ≡ Some SharesWithoutAll
  pub shares_and_form : clash
      (options (codes "--shares" ∷ codes "2" ∷ codes "--form" ∷ codes "1" ∷ [])) ≡ Some FormWithoutAll
  pub shares_and_under : clash (options (codes "--shares=2" ∷ codes "--under" ∷ codes "1" ∷ [])) ≡ Some UnderWithoutAll
  pub shares_beside_after : clash
      (options (codes "--all" ∷ codes "--shares" ∷ codes "2" ∷ codes "--after" ∷ codes "1" ∷ [])) ≡ Some SharesWithOther
  pub shares_beside_first : clash
      (options (codes "--first=3" ∷ codes "--all" ∷ codes "--shares" ∷ codes "2" ∷ [])) ≡ Some SharesWithOther
  pub shares_beside_under : clash
      (options (codes "--all" ∷ codes "--under" ∷ codes "2" ∷ codes "--shares=2" ∷ codes "--answers" ∷ codes "1" ∷ []))
      ≡ Some SharesWithOther
  pub shares_listing : clash (options (codes "--list" ∷ codes "--shares" ∷ codes "2" ∷ [])) ≡ Some ListWithOther
  pub shares_and_answers : clash
      (options (codes "--all" ∷ codes "--shares" ∷ codes "2" ∷ codes "--answers" ∷ codes "none" ∷ []))
      ≡ Some AnswersWithAll
  pub shares_and_all : clash
      (options (codes "--all" ∷ codes "--shares" ∷ codes "2" ∷ codes "--form" ∷ codes "1" ∷ codes "--choose=2" ∷ []))
      ≡ None
  pub sample_alone : clash (options (codes "--sample" ∷ codes "3" ∷ [])) ≡ Some SampleWithoutSeed
  pub sample_and_shares : clash
      (options (codes "--all" ∷ codes "--shares" ∷ codes "2" ∷ codes "--sample" ∷ codes "3" ∷ codes "--answers"
      ∷ codes "1" ∷ [])) ≡ Some SampleWithoutSeed
  pub sample_and_after : clash
      (options (codes "--sample=3" ∷ codes "--seed=7" ∷ codes "--after" ∷ codes "1" ∷ [])) ≡ Some AfterWithoutAll
  pub sample_and_all : clash
      (options (codes "--all" ∷ codes "--seed" ∷ codes "7" ∷ codes "--sample" ∷ codes "3" ∷ [])) ≡ Some SeedWithAll
  pub sample_and_answers : clash
      (options (codes "--seed" ∷ codes "7" ∷ codes "--sample" ∷ codes "3" ∷ codes "--answers" ∷ codes "1" ∷ []))
      ≡ Some SeedWithAnswers
  pub sample_listing : clash (options (codes "--sample" ∷ codes "3" ∷ codes "--list" ∷ [])) ≡ Some ListWithOther
  pub sample_and_seed : clash
      (options (codes "--seed" ∷ codes "7" ∷ codes "--sample" ∷ codes "3" ∷ codes "--form=1" ∷ [])) ≡ None
  pub answers_and_all : clash (options (codes "--all" ∷ codes "--answers" ∷ codes "none" ∷ [])) ≡ Some AnswersWithAll
  pub seed_listing : clash (options (codes "--seed" ∷ codes "7" ∷ codes "--list" ∷ [])) ≡ Some ListWithOther
  pub seed_and_after : clash
      (options (codes "--seed" ∷ codes "7" ∷ codes "--after" ∷ codes "0" ∷ [])) ≡ Some AfterWithoutAll
  pub seed_and_both : clash
      (options (codes "--seed=7" ∷ codes "--all" ∷ codes "--answers" ∷ codes "1" ∷ [])) ≡ Some AnswersWithAll
  pub seed_and_all : clash (options (codes "--all" ∷ codes "--seed" ∷ codes "7" ∷ [])) ≡ Some SeedWithAll
  pub seed_and_answers : clash
      (options (codes "--answers" ∷ codes "none" ∷ codes "--seed" ∷ codes "7" ∷ [])) ≡ Some SeedWithAnswers
  pub seed_alone : clash (options (codes "--seed" ∷ codes "7" ∷ codes "--steps" ∷ codes "5" ∷ [])) ≡ None
  pub choice_listing : clash (options (codes "--list" ∷ codes "--choose" ∷ codes "2" ∷ [])) ≡ Some ListWithOther
  pub choice_and_all : clash (options (codes "--choose" ∷ codes "2" ∷ codes "--all" ∷ [])) ≡ None
  pub choice_alone : clash (options (codes "--choose=2" ∷ [])) ≡ None
  pub steps_listing : clash (options (codes "--list" ∷ codes "--steps" ∷ codes "5" ∷ [])) ≡ None
  pub check_listing : clash (options (codes "--check" ∷ codes "--list" ∷ [])) ≡ Some ListWithOther
  pub check_and_all : clash (options (codes "--check" ∷ codes "--all" ∷ [])) ≡ Some CheckWithOther
  pub check_and_answers : clash (options (codes "--answers" ∷ codes "x" ∷ codes "--check" ∷ [])) ≡ Some CheckWithOther
  pub check_and_after : clash (options (codes "--check" ∷ codes "--after" ∷ codes "1" ∷ [])) ≡ Some CheckWithOther
  pub check_and_sample : clash (options (codes "--check" ∷ codes "--sample=3" ∷ [])) ≡ Some CheckWithOther
  pub check_and_choice : clash (options (codes "--choose" ∷ codes "2" ∷ codes "--check" ∷ [])) ≡ Some CheckWithOther
  pub chances_listing : clash (options (codes "--chances" ∷ codes "--list" ∷ [])) ≡ Some ListWithOther
  pub chances_check : clash (options (codes "--check" ∷ codes "--chances" ∷ codes "--all" ∷ [])) ≡ Some CheckWithOther
  pub chances_and_all : clash (options (codes "--chances" ∷ codes "--all" ∷ [])) ≡ Some ChancesWithOther
  pub chances_and_answers : clash
      (options (codes "--answers" ∷ codes "x" ∷ codes "--chances" ∷ [])) ≡ Some ChancesWithOther
  pub chances_and_after : clash (options (codes "--chances" ∷ codes "--after" ∷ codes "1" ∷ [])) ≡ Some ChancesWithOther
  pub chances_and_form : clash (options (codes "--form=1" ∷ codes "--chances" ∷ [])) ≡ Some ChancesWithOther
  pub chances_and_sample : clash (options (codes "--chances" ∷ codes "--sample=3" ∷ [])) ≡ Some ChancesWithOther
  pub chances_alone : clash
      (options (codes "--chances" ∷ codes "--steps" ∷ codes "5" ∷ codes "--memory=64" ∷ codes "--choose=2" ∷ [])) ≡ None
  pub check_alone : clash (options (codes "--check" ∷ codes "--steps" ∷ codes "5" ∷ codes "--memory=64" ∷ [])) ≡ None

-- texts that write a list of answers, and texts that write none
pub record ListRows : Type 0 where
  pub empty_list : SpellsAnswers (codes "none") []
  pub greatest : SpellsAnswers (codes "32767") (pos 32767 ∷ [])
  pub three : SpellsAnswers (codes "2,1,30000") (pos 2 ∷ pos 1 ∷ pos 30000 ∷ [])
  pub one_bound : SpellsList (codes "2/2,1") (with_bound (pos 2) (pos 2) ∷ without_bound (pos 1) ∷ [])
  pub no_bound_after : IsMisspelled (codes "2/2,1/")
  pub bound_of_0 : IsMisspelled (codes "1/0")
  pub bound_in_answers : HasNoAnswers (codes "2/2")
  pub nothing : IsMisspelled []
  pub zero_in_front : IsMisspelled (codes "01")
  pub no_answer_between : IsMisspelled (codes "1,,2")
  pub zero : IsMisspelled (codes "0")
  pub too_great : IsMisspelled (codes "32768")
  pub blank : IsMisspelled (codes "1, 2")
  pub large_letter : IsMisspelled (codes "None")

-- what the options say
pub record OptionRows : Type 0 where
  pub none : options [] ≡ no_options
  pub operand : options (codes "game.bas" ∷ []) ≡ no_options
  pub numbers : options (codes "--steps" ∷ codes "5" ∷ codes "--memory=64" ∷ codes "--first" ∷ codes "1000000000" ∷ [])
      ≡ record no_options { steps = Some 5; memory = Some 64; first = Some 1000000000 }
  pub lists : options (codes "--after" ∷ codes "2,1" ∷ codes "--answers" ∷ [] ∷ []) ≡ record no_options
      { after = Some (codes "2,1"); answers = Some [] }
  pub seed : options (codes "--seed" ∷ codes "4294967295" ∷ []) ≡ record no_options { seed = Some 4294967295 }
  pub choice : options (codes "--choose" ∷ codes "8" ∷ []) ≡ record no_options { choose = Some 8 }
  pub form : options (codes "--all" ∷ codes "--form" ∷ codes "1" ∷ []) ≡ record no_options { all = true; form = Some 1 }
  pub under : options (codes "--all" ∷ codes "--under" ∷ codes "2/2" ∷ []) ≡ record no_options
      { all = true; under = Some (codes "2/2") }
  pub shares : options (codes "--all" ∷ codes "--shares" ∷ codes "64" ∷ []) ≡ record no_options
      { all = true; shares = Some 64 }
  pub sample : options (codes "--seed" ∷ codes "7" ∷ codes "--sample=1000000000" ∷ []) ≡ record no_options
      { seed = Some 7; sample = Some 1000000000 }
  pub switches : options (codes "--all" ∷ codes "--list" ∷ []) ≡ record no_options { all = true; list = true }
  pub check : options (codes "--check" ∷ []) ≡ record no_options { check = true }
  pub chances : options (codes "--chances" ∷ []) ≡ record no_options { chances = true }

-- words that clap refuses
pub record FaultRows : Type 0 where
  pub no_steps : faults (codes "--steps" ∷ codes "0" ∷ []) ≡ ValueValidation ∷ []
  pub most_steps : faults (codes "--steps" ∷ codes "1000000000" ∷ []) ≡ []
  pub many_steps : faults (codes "--steps" ∷ codes "1000000001" ∷ []) ≡ ValueValidation ∷ []
  pub little_memory : faults (codes "--memory" ∷ codes "63" ∷ []) ≡ ValueValidation ∷ []
  pub least_memory : faults (codes "--memory" ∷ codes "64" ∷ []) ≡ []
  pub most_memory : faults (codes "--memory" ∷ codes "32767" ∷ []) ≡ []
  pub much_memory : faults (codes "--memory" ∷ codes "32768" ∷ []) ≡ ValueValidation ∷ []
  pub no_first : faults (codes "--first" ∷ codes "0" ∷ []) ≡ ValueValidation ∷ []
  pub most_first : faults (codes "--first" ∷ codes "1000000000" ∷ []) ≡ []
  pub many_first : faults (codes "--first" ∷ codes "1000000001" ∷ []) ≡ ValueValidation ∷ []
  pub least_seed : faults (codes "--seed" ∷ codes "0" ∷ []) ≡ []
  pub most_seed : faults (codes "--seed" ∷ codes "4294967295" ∷ []) ≡ []
  pub great_seed : faults (codes "--seed" ∷ codes "4294967296" ∷ []) ≡ ValueValidation ∷ []
  pub no_choice : faults (codes "--choose" ∷ codes "0" ∷ []) ≡ ValueValidation ∷ []
  pub least_choice : faults (codes "--choose" ∷ codes "1" ∷ []) ≡ []
  pub most_choices : faults (codes "--choose" ∷ codes "32767" ∷ []) ≡ []
  pub many_choices : faults (codes "--choose" ∷ codes "32768" ∷ []) ≡ ValueValidation ∷ []
  pub no_shares : faults (codes "--shares" ∷ codes "0" ∷ []) ≡ ValueValidation ∷ []
  pub least_shares : faults (codes "--shares" ∷ codes "1" ∷ []) ≡ []
  pub most_shares : faults (codes "--shares" ∷ codes "64" ∷ []) ≡ []
  pub many_shares : faults (codes "--shares" ∷ codes "65" ∷ []) ≡ ValueValidation ∷ []
  pub no_sample : faults (codes "--sample" ∷ codes "0" ∷ []) ≡ ValueValidation ∷ []
  pub most_sample : faults (codes "--sample" ∷ codes "1000000000" ∷ []) ≡ []
  pub many_sample : faults (codes "--sample" ∷ codes "1000000001" ∷ []) ≡ ValueValidation ∷ []
  pub no_number : faults (codes "--steps" ∷ codes "many" ∷ []) ≡ ValueValidation ∷ []
  pub unknown : faults (codes "--stops" ∷ []) ≡ UnknownArgument ∷ []
  pub second_operand : faults (codes "a" ∷ codes "b" ∷ []) ≡ UnknownArgument ∷ []
  pub twice : faults (codes "--all" ∷ codes "--all" ∷ []) ≡ ArgumentConflict ∷ []
  pub help : faults (codes "--help" ∷ []) ≡ DisplayHelp ∷ []
