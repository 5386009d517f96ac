-- This file has worked rows of loading, listing, words and tokens.
-- Main definition: `LoadingRows`.
--     LoadingRows     rows of loading and listing
--     WordRows        rows of words and tokens
use Rattle.std.specs.Prelude.{◌≡◌, ℕ, List, [], ◌∷◌, ◌++◌, Some, None, Ok, Err, pos, codes, replicate}
use Rattle.ptb_text.specs.declared.fault.LoadFault.TheVariants.{NoNumber, NumberTooBig, TextTooLong, BadByte, Full}
use Rattle.ptb_text.specs.declared.word.Table.TheVariants.{Commands, Functions, To, Step}
use Rattle.ptb_text.specs.declared.word.Number.TheVariants.{Value, TooBig}
use Rattle.ptb_text.specs.declared.word.Word.TheVariants.{NextKw, LetKw, IfKw, GotoKw, GosubKw}
use Rattle.ptb_text.specs.declared.word.Word.TheVariants.{ReturnKw, RemKw, ForKw, InputKw, PrintKw}
use Rattle.ptb_text.specs.declared.word.Word.TheVariants.{StopKw, RndKw, AbsKw, SizeKw, ToKw}
use Rattle.ptb_text.specs.declared.word.Word.TheVariants.{StepKw}
use Rattle.ptb_text.specs.Lines.{lines, input_lines}
use Rattle.ptb_text.specs.Statements.{program, listing}
use Rattle.ptb_text.specs.Words.{word_at, token_at, pair_at, letter_at, number_at, quotation_at}
use Rattle.ptb_text.specs.Words.{NoQuote, OpenQuote, QuotedText}

-- a line and its newline
abbrev pub line : List ℕ → List ℕ
line l = l ++ 10 ∷ []

pub record LoadingRows : Type 0 where
  pub listed : program 4096
      (line (codes "10 P.1") ++ line (codes "20 P.2") ++ line (codes "010" ++ 9 ∷ codes "P.3" ++ 13 ∷ [])
      ++ line (codes "20")) ≡ Ok
      ((10, codes "P.3") ∷ [])
  pub listing : listing ((10, codes "P.3") ∷ []) ≡ line (codes "10 P.3")
  pub too_big : program 4096 (codes "32768 P.1") ≡ Err (1, NumberTooBig)
  pub full : program 64
      (line (codes "1 P.1") ++ line (codes "2 P.1") ++ line (codes "3 P.1") ++ line (codes "4 P.1")
      ++ line (codes "5 P.1") ++ line (codes "6 P.1") ++ line (codes "7 P.1") ++ line (codes "8 P.1")
      ++ line (codes "9 P.1") ++ line (codes "10 P.1") ++ line (codes "11 P.1")) ≡ Err
      (11, Full)
  pub bad_byte : program 4096 (codes "10 P." ++ 127 ∷ []) ≡ Err (1, BadByte 6)
  pub no_number : program 4096 (codes "0 P.") ≡ Err (1, NoNumber)
  pub long_number : program 4096 (replicate 200 57 ++ codes " P.") ≡ Err (1, NumberTooBig)
  pub long_text : program 4096 (codes "10 A=" ++ replicate 254 57) ≡ Err (1, TextTooLong)
  pub order : program 4096 (line (codes "20 P.\"B\"") ++ codes "10 P.'A',;P.") ≡ Ok
      ((10, codes "P.'A',;P.") ∷ (20, codes "P.\"B\"") ∷ [])
  -- a replaced line costs no more, and a program may take the entire memory
  pub replaced : program 64 (line (codes "1 " ++ replicate 61 65) ++ line (codes "1 " ++ replicate 61 66)) ≡ Ok
      ((1, replicate 61 66) ∷ [])
  pub one_byte_more : program 64 (codes "1 " ++ replicate 62 65) ≡ Err (1, Full)
  pub longest_text : program 4096 (codes "1 " ++ replicate 255 65) ≡ Ok ((1, replicate 255 65) ∷ [])
  pub nothing_deleted : program 4096 (codes "10") ≡ Ok []
  pub blanks_at_end : program 4096 (codes " 010  P.1  ") ≡ Ok ((10, codes "P.1  ") ∷ [])
  pub greatest_number : program 4096 (codes "32767 P.") ≡ Ok ((32767, codes "P.") ∷ [])
  pub blank_line_counted : program 4096 (line (codes "  ") ++ codes "P.") ≡ Err (2, NoNumber)
  -- the checks in their order
  pub byte_before_number : program 4096 (codes "P" ++ 127 ∷ []) ≡ Err (1, BadByte 2)
  pub number_before_text : program 4096 (codes "32768 " ++ replicate 256 65) ≡ Err (1, NumberTooBig)
  pub text_before_memory : program 64 (codes "1 " ++ replicate 256 65) ≡ Err (1, TextTooLong)
  pub no_last : lines (codes "A" ++ 10 ∷ 13 ∷ 10 ∷ 66 ∷ 13 ∷ []) ≡ codes "A" ∷ [] ∷ codes "B" ∷ []
  pub no_line : lines [] ≡ []
  pub empty_line : lines (10 ∷ []) ≡ [] ∷ []
  pub return_alone : input_lines (13 ∷ []) ≡ [] ∷ []
  pub one_return : lines (13 ∷ 13 ∷ []) ≡ (13 ∷ []) ∷ []
  pub input : input_lines (9 ∷ 65 ∷ 200 ∷ 66 ∷ []) ≡ codes " AB" ∷ []
  pub dropped : input_lines (200 ∷ 10 ∷ 7 ∷ []) ≡ [] ∷ [] ∷ []
  pub longest_input : input_lines (replicate 300 65) ≡ replicate 255 65 ∷ []

pub record WordRows : Type 0 where
  pub goto : word_at Commands (codes "G.") 0 ≡ Some (GotoKw, 2)
  pub gosub : word_at Commands (codes "GOS. 1") 0 ≡ Some (GosubKw, 5)
  pub return : word_at Commands (codes "R.") 0 ≡ Some (ReturnKw, 2)
  pub return_cut : word_at Commands (codes "RE.") 0 ≡ Some (ReturnKw, 3)
  pub rem : word_at Commands (codes "REM.") 0 ≡ Some (RemKw, 3)
  pub next : word_at Commands (codes "N.I") 0 ≡ Some (NextKw, 2)
  pub let_cut : word_at Commands (codes "LE. A") 0 ≡ Some (LetKw, 4)
  pub for_joined : word_at Commands (codes "FORI") 0 ≡ Some (ForKw, 3)
  pub gosub_whole : word_at Commands (codes "GOSUB1") 0 ≡ Some (GosubKw, 5)
  pub blank_within : word_at Commands (codes "GO TO") 0 ≡ None
  pub blank_before_period : word_at Commands (codes "P .") 0 ≡ None
  pub if : word_at Commands (codes "I.1P.2") 0 ≡ Some (IfKw, 2)
  pub input : word_at Commands (codes "IN.") 0 ≡ Some (InputKw, 3)
  pub stop : word_at Commands (codes "S.") 0 ≡ Some (StopKw, 2)
  pub print : word_at Commands (codes "PRINT.") 0 ≡ Some (PrintKw, 5)
  pub no_letter : word_at Commands (codes ".1") 0 ≡ None
  pub no_period : word_at Commands (codes "P") 0 ≡ None
  pub rnd : word_at Functions (codes "  R.(6)") 0 ≡ Some (RndKw, 4)
  pub abs : word_at Functions (codes "A.") 0 ≡ Some (AbsKw, 2)
  pub size : word_at Functions (codes "S.") 0 ≡ Some (SizeKw, 2)
  pub no_function : word_at Functions (codes "RN(6)") 0 ≡ None
  pub to : word_at To (codes "1T.3") 1 ≡ Some (ToKw, 3)
  pub step : word_at Step (codes "1TO3S.2") 4 ≡ Some (StepKw, 6)
  pub semicolon : token_at 59 (codes "A ; B") 1 ≡ Some 4
  pub at_least : pair_at 62 61 (codes "7> =8") 1 ≡ None
  pub variable : letter_at (codes "A=1") 0 ≡ Some (65, 1)
  pub digits : number_at (codes "A=0012 ") 2 ≡ (Value (pos 12), 7)
  pub too_great : number_at (codes "32768") 0 ≡ (TooBig, 5)
  pub string : quotation_at (codes "'A\"B' ,") 0 ≡ QuotedText (codes "A\"B") 6
  pub unclosed : quotation_at (codes "'B") 0 ≡ OpenQuote
  pub no_quote : quotation_at (codes "B") 0 ≡ NoQuote
